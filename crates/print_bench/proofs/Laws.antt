-- Laws of text that is written piece by piece, of the hex of bytes in a part of a buffer, and of a byte that no block holds.
use Rattle.std.specs.Prelude.{Ok, Err, Result}
use mathlib.Core.Path.{◌≡◌, refl, sym, ap, ap₂, subst, ◌∙◌}
use mathlib.Core.Bool.{true}
use mathlib.Core.List.{List, [], ◌∷◌, ◌++◌, append-nil, append_assoc}
use Prim.Native.Nat.{ℕ, ◌+◌, ◌-◌, ◌*◌, ◌/◌, ◌≤◌, ◌<◌, min}
use native.Mathlib.Numerals.{add-one}
use native.Mathlib.Omega.{arith}
use borrow.Author.Tests.{le-leb, lt-ltb, le-ltb, eq-eqb, ne_eqb, leb-true, leb-false}
use lib.Dec.{leb}
use lib.ListN.{length, take, drop, get_or, length-append, length-drop, drop_of_length-le}
use lib.Seq.{sets, sets-eq, length-sets, take_all, drop-drop, drop-cons, length-take-le}
use Rattle.prelude.specs.Laws.Bools.{unlike, either}
use Rattle.prelude.specs.Laws.Pick.{pick_true, pick-false}
use Rattle.prelude.specs.declared.Refusal.{Refusal}
use Rattle.prelude.specs.declared.Refusal.TheVariants.{BadPart}
use Rattle.bitvec.specs.HexDigits.{digit_count, hex_of, Prints}
use Rattle.bitvec.specs.Theorems.HexDigits.{length-hex_of}
use Rattle.overlay.specs.Range.{source_of}
use Rattle.overlay.specs.Trial.{Trial}
use Rattle.overlay.specs.declared.Source.{Source}
use Rattle.print_text.specs.Ascii.{ascii}
use Rattle.print_text.specs.Lines.{spaced, line, refusal_text}
use Rattle.print_text.specs.Puts.{Writes}
use Rattle.prog_args.specs.Text.{Stands}
use Rattle.record_lines.specs.Laws.Puts.{sets_then}
use Rattle.print_bench.specs.Images.{beyond_of, free_from, alone_in}
use Rattle.print_bench.specs.Program.{field, run_text, run_lines, alone_text, named_text, ToldBy, source_text, range_text}

-- ---- text behind text

pub writes_then : {a b old mid new : List ℕ} {at m end : ℕ} → Writes a old at m mid → Writes b mid m end new → Writes (a ++ b) old at end new
writes_then {a} {b} {old} {mid} {new} {at} {m} {end} p q =
    record {
      place = omega (arith, p.place, q.place, length-append a b);
      buffer = sets_then old at m a b p.buffer q.buffer p.place;
    }

pub writes-long : {text old new : List ℕ} {at end : ℕ} → Writes text old at end new → length new ≡ length old
writes-long {text} {old} {new} {at} p = ap length p.buffer ∙ length-sets old at text

pub writes-none : {old : List ℕ} (at : ℕ) → Writes [] old at at old
writes-none at = record { place = omega arith; buffer = refl }

pub stands_of : {text old new : List ℕ} {r : ℕ} → Writes text old 0 r new → r ≤ length old → Stands text old r new
stands_of {text} {old} {new} {r} w fits =
    let counted : r ≡ length text = omega (arith, w.place) in
    let room : 0 + length text ≤ length old = omega arith in
    let same : 0 + length text ≡ length text = omega arith in
    record {
      counted = counted;
      fits = omega arith;
      buffer = w.buffer ∙ sets-eq text old 0 room ∙ ap (λ (k : ℕ). text ++ drop k old) same;
    }

-- the same of a text in other words
pub writes_as : {text other old new : List ℕ} {at r : ℕ} → text ≡ other → Writes text old at r new → Writes other old at r new
writes_as {text} {other} {old} {new} {at} {r} e w = subst (λ (t : List ℕ). Writes t old at r new) e w

pub stands-as : {text other old new : List ℕ} {r : ℕ} → text ≡ other → Stands text old r new → Stands other old r new
stands-as {text} {other} {old} {new} {r} e w = subst (λ (t : List ℕ). Stands t old r new) e w

-- lines that are written one by one: what is left to write
pub record Going (all old left new : List ℕ) (end : ℕ) : Type 0 where
  pub same : sets old 0 all ≡ sets new end left
  pub ends : length all ≡ end + length left
  pub long : length new ≡ length old

pub going_on : {all old line left mid new : List ℕ} {at end : ℕ} → Going all old (line ++ left) mid at → Writes line mid at end new
    → Going all old left new end
going_on {all} {old} {line} {left} {mid} {new} {at} {end} g w =
    record {
      same = g.same ∙ sym (sets_then mid at end line left w.buffer refl w.place);
      ends = omega (arith, g.ends, w.place, length-append line left);
      long = writes-long w ∙ g.long;
    }

pub going_end : {all old new : List ℕ} {end : ℕ} → Going all old [] new end → Writes all old 0 end new
going_end {all} {old} {new} {end} g = record { place = omega (arith, g.ends); buffer = sym g.same }

-- ---- bytes in hex

pub length-field : (bytes : List ℕ) → length (field bytes) ≡ 1 + 2 * length bytes
unfolding field
length-field bytes =
    let n = length bytes in
    omega (arith, length-append (ascii " ") (hex_of bytes (8 * n)), length-hex_of bytes (8 * n))

never : {m : ℕ} {why : Refusal} → Ok m ≡ Err why → ⊥
never e = unlike cc

same_count : {m n : ℕ} → ◌≡◌ {A = Result ℕ Refusal} (Ok m) (Ok n) → m ≡ n
same_count e = cc

-- the digits go into the part of a buffer from a place on, which is put back
module _ (bytes mid : List ℕ) (from : ℕ) (room : from + 2 * length bytes ≤ length mid) (r : Result ℕ Refusal) (after : List ℕ)
    (p : Prints bytes (8 * length bytes) (take (length mid - from) (drop from mid)) r after) where
  abbrev n : ℕ
  n = length bytes

  abbrev rest : List ℕ
  rest = drop from mid

  whole : take (length mid - from) rest ≡ rest
  whole = take_all (length mid - from) rest (omega (arith, length-drop from mid))

  none_left : drop (length mid - from) rest ≡ []
  none_left = drop_of_length-le rest {i = length mid - from} (omega (arith, length-drop from mid))

  inside : leb (0 + 8 * n) (8 * n) ≡ true
  inside = le-leb (0 + 8 * n) (8 * n) (omega arith)

  two : digit_count (8 * n) ≡ 2 * n
  two = omega arith

  fits : leb (digit_count (8 * n)) (length rest) ≡ true
  fits = le-leb (digit_count (8 * n)) (length rest) (omega (arith, length-drop from mid))

  printed : r ≡ Ok (digit_count (8 * n))
  printed = p.answer ∙ rw (whole, inside, fits) refl

  pub hex-count : {m : ℕ} → r ≡ Ok m → m ≡ 2 * n
  hex-count e = same_count (sym e ∙ printed) ∙ two

  pub hex-never : {why : Refusal} → r ≡ Err why → ⊥
  hex-never e = never (sym printed ∙ e)

  digits : after ≡ hex_of bytes (8 * n) ++ drop (digit_count (8 * n)) rest
  digits = p.digits ∙ rw (whole, inside, fits) refl

  pub hex-writes : {m : ℕ} → r ≡ Ok m → Writes (hex_of bytes (8 * n)) mid from (from + m) (take from mid ++ (after ++ drop (length mid - from) rest))
  hex-writes {m} e =
      let text = hex_of bytes (8 * n) in
      let long : length text ≡ digit_count (8 * n) = length-hex_of bytes (8 * n) in
      record {
        place = omega (arith, hex-count e, long, two);
        buffer =
            ap₂ (λ (x y : List ℕ). take from mid ++ (x ++ y)) digits none_left
            ∙ ap (λ (x : List ℕ). take from mid ++ x) (append-nil (text ++ drop (digit_count (8 * n)) rest))
            ∙ sym (append_assoc (take from mid) text (drop (digit_count (8 * n)) rest))
            ∙ ap (λ (x : List ℕ). take from mid ++ text ++ x)
            (drop-drop (digit_count (8 * n)) from mid ∙ ap (λ (k : ℕ). drop (from + k) mid) (sym long))
            ∙ sym (sets-eq text mid from (omega (arith, long, two)));
      }

-- ---- a run's line

pub part-long : (l : List ℕ) (first count : ℕ) → first + count ≤ length l → length (take (first + count - first) (drop first l)) ≡ count
part-long l first count h =
    let same : first + count - first ≡ count = omega arith in
    ap (λ (k : ℕ). length (take k (drop first l))) same ∙ length-take-le count (drop first l) (omega (arith, length-drop first l))

module _ (load : ℕ) (released overlay : List ℕ) (first count : ℕ) where
  abbrev numbers : List ℕ
  numbers = (load + first) ∷ count ∷ []

  abbrev part : ℕ → List ℕ → List ℕ
  part k l = take k (drop first l)

  same-count-of : first + count - first ≡ count
  same-count-of = omega arith

  pub length_run : first + count ≤ length released → first + count ≤ length overlay
      → length (run_text load released overlay first count) ≡ length (spaced numbers) + 4 * count + 6
  unfolding run_text
  length_run h k =
      let r = part count released in
      let o = part count overlay in
      omega (
        arith,
        length-append (ascii "run") (spaced numbers),
        length-append (ascii "run" ++ spaced numbers) (field r),
        length-append (ascii "run" ++ spaced numbers ++ field r) (field o),
        length-append (ascii "run" ++ spaced numbers ++ field r ++ field o) (ascii "\n"),
        length-field r,
        length-field o,
        length-take-le count (drop first released) (omega (arith, length-drop first released)),
        length-take-le count (drop first overlay) (omega (arith, length-drop first overlay)),
      )

  -- the code's end minus its start is the count
  pub same-run : {old new : List ℕ} {at end : ℕ}
      → Writes (ascii "run" ++ spaced numbers ++ field (part (first + count - first) released) ++ field (part (first + count - first) overlay) ++ ascii "\n")
      old at end new
      → Writes (run_text load released overlay first count) old at end new
  unfolding run_text
  same-run {old} {new} {at} {end} w =
      subst
      (λ (k : ℕ). Writes (ascii "run" ++ spaced numbers ++ field (part k released) ++ field (part k overlay) ++ ascii "\n") old at end new)
      same-count-of w

-- ---- the runs' lines

module _ (load : ℕ) (released overlay fs cs : List ℕ) where
  pub lines-on : (i : ℕ) → i < length fs → i < length cs
      → run_lines load released overlay (drop i fs) (drop i cs)
      ≡ run_text load released overlay (get_or fs i 0) (get_or cs i 0) ++ run_lines load released overlay (drop (i + 1) fs) (drop (i + 1) cs)
  unfolding run_lines
  lines-on i h k = rw (add-one i, drop-cons fs i 0 h, drop-cons cs i 0 k)

  pub lines_end : (i : ℕ) → length fs ≤ i → run_lines load released overlay (drop i fs) (drop i cs) ≡ []
  unfolding run_lines
  lines_end i h = rw (drop_of_length-le fs {i = i} h)

-- ---- a byte that no block holds

pub free_on : (os ss : List ℕ) (i at : ℕ) → i < length os → i < length ss
    → free_from (drop i os) (drop i ss) at ≡ free_from (drop (i + 1) os) (drop (i + 1) ss) (beyond_of (get_or os i 0) (get_or ss i 0) at)
unfolding free_from
free_on os ss i at h k = rw (add-one i, drop-cons os i 0 h, drop-cons ss i 0 k)

free-short : (os : List ℕ) (at : ℕ) → free_from os [] at ≡ at
unfolding free_from
free-short [] at = refl
free-short (o ∷ os) at = refl

-- the shorter list ends the walk
pub free-end : (os ss : List ℕ) (i at : ℕ) → i ≡ min (length os) (length ss) → free_from (drop i os) (drop i ss) at ≡ at
unfolding free_from
free-end os ss i at e =
    either (leb (length os) (length ss)) (λ t. rw (drop_of_length-le os {i = i} (omega (arith, leb-true (length os) (length ss) t))))
    (λ t. ap (λ (l : List ℕ). free_from (drop i os) l at) (drop_of_length-le ss {i = i} (omega (arith, leb-false (length os) (length ss) t)))
    ∙ free-short (drop i os) at)

-- ---- what is said of a range

pub alone-some : (load end first : ℕ) → first < end → line (ascii "alone") ((load + first) ∷ []) ≡ alone_text load end first
unfolding alone_text
alone-some load end first h = sym (pick_true _ _ (lt-ltb first end h))

pub alone-none : (load end first : ℕ) → end ≤ first → [] ≡ alone_text load end first
unfolding alone_text
alone-none load end first h = sym (pick-false _ _ (le-ltb first end h))

module _ (load first count free lack : ℕ) (t : Trial) where
  pub told-as : {s : Result Source Refusal} → s ≡ source_of t first count → ToldBy load first count free lack t s ≡ source_text load first count free lack t
  unfolding source_text
  told-as e = ap (ToldBy load first count free lack t) e

-- ---- a byte that only one of two files gives

alone-short : (os₁ ss₁ os : List ℕ) (end : ℕ) → alone_in os₁ ss₁ os [] end ≡ end
unfolding alone_in
alone-short os₁ ss₁ [] end = refl
alone-short os₁ ss₁ (o ∷ os) end = refl

module _ (os₁ ss₁ os ss : List ℕ) (i end : ℕ) where
  -- the shorter list ends the walk
  pub alone-end : i ≡ min (length os) (length ss) → alone_in os₁ ss₁ (drop i os) (drop i ss) end ≡ end
  unfolding alone_in
  alone-end e =
      either (leb (length os) (length ss)) (λ t. rw (drop_of_length-le os {i = i} (omega (arith, leb-true (length os) (length ss) t))))
      (λ t. ap (λ (l : List ℕ). alone_in os₁ ss₁ (drop i os) l end) (drop_of_length-le ss {i = i} (omega (arith, leb-false (length os) (length ss) t)))
      ∙ alone-short os₁ ss₁ (drop i os) end)

  pub alone-here : i < length os → i < length ss → free_from os₁ ss₁ (get_or os i 0 / 8) < get_or os i 0 / 8 + get_or ss i 0 / 8
      → alone_in os₁ ss₁ (drop i os) (drop i ss) end ≡ free_from os₁ ss₁ (get_or os i 0 / 8)
  unfolding alone_in
  alone-here h k f =
      rw (drop-cons os i 0 h, drop-cons ss i 0 k)
      (pick_true _ _ (lt-ltb (free_from os₁ ss₁ (get_or os i 0 / 8)) (get_or os i 0 / 8 + get_or ss i 0 / 8) f))

  pub alone-on : i < length os → i < length ss → get_or os i 0 / 8 + get_or ss i 0 / 8 ≤ free_from os₁ ss₁ (get_or os i 0 / 8)
      → alone_in os₁ ss₁ (drop i os) (drop i ss) end ≡ alone_in os₁ ss₁ (drop (i + 1) os) (drop (i + 1) ss) end
  unfolding alone_in
  alone-on h k f =
      rw (add-one i, drop-cons os i 0 h, drop-cons ss i 0 k)
      (pick-false _ _ (le-ltb (free_from os₁ ss₁ (get_or os i 0 / 8)) (get_or os i 0 / 8 + get_or ss i 0 / 8) f))

-- ---- a range, and a copy

module _ (load address count : ℕ) (t : Trial) (os ss : List ℕ) where
  pub range-empty : count ≡ 0 → refusal_text BadPart ≡ range_text load address count t os ss
  unfolding range_text
  range-empty h = sym (pick_true _ _ (eq-eqb count 0 h))

  pub range-below : (count ≡ 0 → ⊥) → address < load → named_text BadPart (ascii "released") address ≡ range_text load address count t os ss
  unfolding range_text
  range-below h k = sym (pick-false _ _ (ne_eqb count 0 h) ∙ pick_true _ _ (lt-ltb address load k))

  pub range_at : (count ≡ 0 → ⊥) → load ≤ address → {free lack : ℕ} → free ≡ free_from os ss (address - load)
      → lack ≡ free_from t.offsets t.sizes (address - load)
      → source_text load (address - load) count free lack t ≡ range_text load address count t os ss
  unfolding range_text
  range_at h k e f =
      ap₂ (λ (a b : ℕ). source_text load (address - load) count a b t) e f
      ∙ sym (pick-false _ _ (ne_eqb count 0 h) ∙ pick-false _ _ (le-ltb address load k))

-- a list written over one as long is a copy
pub copied : {text old new : List ℕ} {r : ℕ} → Writes text old 0 r new → length text ≡ length old → new ≡ text
copied {text} {old} {new} w e =
    w.buffer ∙ sets-eq text old 0 (omega (arith, e))
    ∙ ap (λ (l : List ℕ). text ++ l) (drop_of_length-le old {i = 0 + length text} (omega (arith, e))) ∙ append-nil text
