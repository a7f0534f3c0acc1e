-- The text of two good files is the same whatever stood in the room for the overlay's bytes: each byte that is shown is given by the file that it is of.
use Rattle.std.specs.Prelude.{◌≡◌, Bool, ◌&&◌, leb, ltb, eqb, length, take, drop, get_or, Err, Ok, Result}
use Rattle.std.proofs.Math.Path.{refl, sym, ap, ap₂}
use Rattle.std.proofs.Common.{subst, ◌∙◌, arith, leb-true, eq-eqb, length-take, length-drop, ext_get_or, get_or-take, get_or-drop}
use Rattle.std.proofs.Math.Bool.{true, false, not}
use mathlib.Core.List.{List, [], ◌∷◌, ◌++◌}
use Prim.Native.Nat.{ℕ, zero, suc, min, ◌+◌, ◌-◌, ◌*◌, ◌/◌, ◌≤◌, ◌<◌}
use Rattle.prelude.specs.Laws.Bools.{either, unlike}
use Rattle.prelude.specs.Laws.Pick.{pick-false}
use Rattle.prelude.specs.Pick.{pick}
use Rattle.prelude.specs.declared.Refusal.TheVariants.{Malformed, TooShort, BadPart, PartlyCovered}
use Rattle.prelude.specs.declared.Refusal.{Refusal}
use Rattle.blocks.specs.Outcome.{origins, sizes}
use Rattle.blocks.specs.Walk.{block}
use Rattle.blocks.specs.declared.Block.{Block}
use Rattle.overlay.specs.Cover.{covered_bit, covered_byte, all_covered, none_covered}
use Rattle.overlay.specs.Order.{in_order}
use Rattle.overlay.specs.Range.{inside, judged, source_of}
use Rattle.overlay.specs.Runs.{length_from, begun, runs_from, agree, listed, shorter, runs_of}
use Rattle.overlay.specs.Theorems.CoverFacts.{byte-holds, all-holds}
use Rattle.overlay.specs.Trial.{Trial}
use Rattle.overlay.specs.declared.Source.TheVariants.{Overlay, Released}
use Rattle.overlay.specs.declared.Source.{Source}
use Rattle.print_text.specs.Ascii.{ascii}
use Rattle.print_text.specs.Lines.{spaced, line, refusal_text}
use Rattle.record_lines.specs.Pieces.{Piece}
use Rattle.record_read.specs.Given.{given, filled}
use Rattle.record_read.specs.Runs.{blocks_given}
use Rattle.record_read.specs.Theorems.GivenLaws.{filled-long}
use Rattle.print_bench.specs.declared.Asked.{Asked}
use Rattle.print_bench.specs.declared.Asked.TheVariants.{Runs, Range}
use Rattle.print_bench.specs.Images.{extent_of, free_from, alone_in}
use Rattle.print_bench.specs.Program.{runs_room, field, run_text, run_lines, alone_text, list_text}
use Rattle.print_bench.specs.Program.{bytes_text, named_text, given_text, ToldBy, source_text, range_text, answer_text}
use Rattle.print_bench.specs.Theorems.Given.{before-it-is-given}
use Rattle.print_bench.specs.Theorems.Runs.{images, covered-given, gap-agrees, run-is-given-by-both}

-- ---- runs of tests that agree

module _ (test other : ℕ → Bool) where
  abbrev Agree : ℕ → ℕ → Type 0
  Agree at n = (x : ℕ) → at ≤ x → x < at + n → test x ≡ other x

  lengths-agree : (at n : ℕ) → Agree at n → length_from test at n ≡ length_from other at n
  unfolding length_from
  lengths-agree at zero h = refl
  lengths-agree at (suc n) h =
      ap₂ (λ (p : Bool) (k : ℕ). pick p (suc k) 0) (h at (omega arith) (omega arith)) (lengths-agree (suc at) n (λ x l u. h x (omega arith) (omega arith)))

  runs-agree : (at n : ℕ) (in_one : Bool) → Agree at n → runs_from test at n in_one ≡ runs_from other at n in_one
  unfolding runs_from
  runs-agree at zero in_one h = refl
  runs-agree at (suc n) in_one h =
      ap₂ (λ (p : Bool) (k : ℕ). begun p in_one (block at k) ++ runs_from test (suc at) n p) (h at (omega arith) (omega arith)) (lengths-agree at (suc n) h)
      ∙ ap (λ (r : List Block). begun (other at) in_one (block at (length_from other at (suc n))) ++ r)
      (runs-agree (suc at) n (other at) (λ x l u. h x (omega arith) (omega arith)))

-- ---- parts of images that agree there

part_same : (x y : List ℕ) → length x ≡ length y → (first count : ℕ)
    → ((k : ℕ) → first ≤ k → k < first + count → k < length x → get_or x k 0 ≡ get_or y k 0) → take count (drop first x) ≡ take count (drop first y)
part_same x y e first count f =
    let long : length (take count (drop first x)) ≡ length (take count (drop first y)) =
    omega (arith, length-take count (drop first x), length-take count (drop first y), length-drop first x, length-drop first y, e) in
    ext_get_or 0 (take count (drop first x)) (take count (drop first y)) long
    (λ i h.
    let low : i < count = omega (arith, length-take count (drop first x)) in
    let left : i < length (drop first x) = omega (arith, length-take count (drop first x)) in
    get_or-take count (drop first x) i 0 low ∙ get_or-drop first x i 0
    ∙ f (first + i) (omega arith) (omega arith) (omega (arith, length-drop first x))
    ∙ sym (get_or-take count (drop first y) i 0 low ∙ get_or-drop first y i 0))

module _ (load : ℕ) (a b : List ℕ) (same : length a ≡ length b) (under issued : List Piece)
    (own : (x : ℕ) → given under (load + x) ≡ true → get_or (filled load under a) x 0 ≡ get_or (filled load under b) x 0)
    (own₁ : (x : ℕ) → given issued (load + x) ≡ true
    → get_or (filled load issued (filled load under a)) x 0 ≡ get_or (filled load issued (filled load under b)) x 0) where
  abbrev os : List ℕ
  os = origins (blocks_given load under)

  abbrev ss : List ℕ
  ss = sizes (blocks_given load under)

  abbrev os₁ : List ℕ
  os₁ = origins (blocks_given load issued)

  abbrev ss₁ : List ℕ
  ss₁ = sizes (blocks_given load issued)

  abbrev t : Trial
  t = images load a under issued

  abbrev u : Trial
  u = images load b under issued

  as_long : length (filled load under a) ≡ length (filled load under b)
  as_long = filled-long load under a ∙ same ∙ sym (filled-long load under b)

  as-long₁ : length (filled load issued (filled load under a)) ≡ length (filled load issued (filled load under b))
  as-long₁ = filled-long load issued (filled load under a) ∙ as_long ∙ sym (filled-long load issued (filled load under b))

  over-long : length t.overlay ≡ length u.overlay
  over-long =
      length-take (extent_of os ss) (filled load under a) ∙ ap (min (extent_of os ss)) as_long ∙ sym (length-take (extent_of os ss) (filled load under b))

  issued-long : length t.released ≡ length u.released
  issued-long =
      length-take (extent_of os₁ ss₁) (filled load issued (filled load under a)) ∙ ap (min (extent_of os₁ ss₁)) as-long₁
      ∙ sym (length-take (extent_of os₁ ss₁) (filled load issued (filled load under b)))

  over-same : (x : ℕ) → x < length t.overlay → given under (load + x) ≡ true → get_or t.overlay x 0 ≡ get_or u.overlay x 0
  over-same x h e =
      let low : x < extent_of os ss = omega (arith, length-take (extent_of os ss) (filled load under a)) in
      get_or-take (extent_of os ss) (filled load under a) x 0 low ∙ own x e ∙ sym (get_or-take (extent_of os ss) (filled load under b) x 0 low)

  issued-same : (x : ℕ) → x < length t.released → given issued (load + x) ≡ true → get_or t.released x 0 ≡ get_or u.released x 0
  issued-same x h e =
      let low : x < extent_of os₁ ss₁ = omega (arith, length-take (extent_of os₁ ss₁) (filled load issued (filled load under a))) in
      get_or-take (extent_of os₁ ss₁) (filled load issued (filled load under a)) x 0 low ∙ own₁ x e
      ∙ sym (get_or-take (extent_of os₁ ss₁) (filled load issued (filled load under b)) x 0 low)

  -- ---- every run

  covered : (x : ℕ) → covered_byte (covered_bit os ss) x ≡ true → given under (load + x) ≡ true
  covered x c =
      let byte : 8 * x / 8 ≡ x = omega arith in
      subst (λ (k : ℕ). given under (load + k) ≡ true) byte
      (covered-given load a under issued (8 * x) (byte-holds (covered_bit os ss) x c (8 * x) (omega arith) (omega arith)))

  agree_same : (x : ℕ) → x < length t.overlay → x < length t.released → given under (load + x) ≡ true
      → agree t.overlay t.released x ≡ agree u.overlay u.released x
  agree_same x h k g =
      either (given issued (load + x))
      (λ i. ap₂ (λ (p q : ℕ). eqb p q) (over-same x h g) (issued-same x k i))
      (λ n.
      eq-eqb (get_or t.overlay x 0) (get_or t.released x 0) (gap-agrees load a under issued x h k n)
      ∙ sym (eq-eqb (get_or u.overlay x 0) (get_or u.released x 0)
      (gap-agrees load b under issued x (omega (arith, over-long)) (omega (arith, issued-long)) n)))

  listed_same : (x : ℕ) → x < length t.overlay → x < length t.released → listed t x ≡ listed u x
  unfolding listed
  listed_same x h k =
      either (covered_byte (covered_bit os ss) x)
      (λ c. ap (λ (z : Bool). covered_byte (covered_bit os ss) x && not z) (agree_same x h k (covered x c)))
      (λ c.
      ap (λ (z : Bool). z && not (agree t.overlay t.released x)) c
      ∙ sym (ap (λ (z : Bool). z && not (agree u.overlay u.released x)) c))

  runs_same : runs_of t ≡ runs_of u
  unfolding runs_of shorter
  runs_same =
      runs-agree (listed t) (listed u) 0 (min (length t.overlay) (length t.released)) false (λ x l k. listed_same x (omega arith) (omega arith))
      ∙ ap₂ (λ (m n : ℕ). runs_from (listed u) 0 (min m n) false) over-long issued-long

  abbrev none : Block
  none = block 0 0

  lines_same : (l : List Block)
      → ((i k : ℕ) → i < length l → (get_or l i none).origin ≤ k → k < (get_or l i none).origin + (get_or l i none).size
      → (given under (load + k) ≡ true) × (given issued (load + k) ≡ true))
      → run_lines load t.released t.overlay (origins l) (sizes l) ≡ run_lines load u.released u.overlay (origins l) (sizes l)
  unfolding run_lines run_text
  lines_same [] f = refl
  lines_same (r ∷ l) f =
      let p = part_same t.released u.released issued-long r.origin r.size (λ k x y z. issued-same k z (f 0 k (omega arith) x y).1) in
      let q = part_same t.overlay u.overlay over-long r.origin r.size (λ k x y z. over-same k z (f 0 k (omega arith) x y).0) in
      ap₂ (λ (c d : List ℕ). ascii "run" ++ spaced ((load + r.origin) ∷ r.size ∷ []) ++ field c ++ field d ++ ascii "\n"
      ++ run_lines load t.released t.overlay (origins l) (sizes l)) p q
      ∙ ap (λ (c : List ℕ). ascii "run" ++ spaced ((load + r.origin) ∷ r.size ∷ []) ++ field (take r.size (drop r.origin u.released))
      ++ field (take r.size (drop r.origin u.overlay)) ++ ascii "\n" ++ c) (lines_same l (λ i k h. f (suc i) k (omega arith)))

  list_same : answer_text load Runs t os₁ ss₁ ≡ answer_text load Runs u os₁ ss₁
  unfolding list_text
  list_same =
      ap (λ (ls : List ℕ). pick (in_order 0 os ss) (pick (leb (length (runs_of t)) runs_room)
      (ls ++ alone_text load (length t.overlay) (alone_in os₁ ss₁ os ss (length t.overlay)) ++ line (ascii "runs") (length (runs_of t) ∷ []))
      (refusal_text (TooShort 2))) (refusal_text (Malformed 0)))
      (lines_same (runs_of t)
      (λ i k h l m. run-is-given-by-both load a under issued k (record { place = i; listed = h; from = l; below = m })))
      ∙ ap₂ (λ (r : List Block) (n : ℕ). pick (in_order 0 os ss) (pick (leb (length r) runs_room)
      (run_lines load u.released u.overlay (origins r) (sizes r) ++ alone_text load n (alone_in os₁ ss₁ os ss n) ++ line (ascii "runs") (length r ∷ []))
      (refusal_text (TooShort 2))) (refusal_text (Malformed 0))) runs_same over-long

  -- ---- a range

  module _ (first count : ℕ) where
    source-same : source_of t first count ≡ source_of u first count
    unfolding source_of
    source-same =
        ap₂ (λ (m n : ℕ). pick (in_order 0 os ss) (pick (inside m n first count) (judged (covered_bit os ss) first count) (Err BadPart))
        (Err (Malformed 0))) over-long issued-long

    all_own : source_of t first count ≡ (Ok Overlay) → (k : ℕ) → first ≤ k → k < first + count → given under (load + k) ≡ true
    unfolding source_of
    all_own e k l h =
        covered k
        (all-holds (covered_bit os ss) first count
        (go (in_order 0 os ss) (inside (length t.overlay) (length t.released) first count) (all_covered (covered_bit os ss) first count)
        (none_covered (covered_bit os ss) first count) e) k l h)
      where
        go : (o i w n : Bool) → pick o (pick i (pick w (Ok Overlay) (pick n (Ok Released) (Err PartlyCovered))) (Err BadPart)) (Err (Malformed 0)) ≡ (Ok Overlay)
            → w ≡ true
        go true true true n x = refl
        go true true false true x = unlike cc
        go true true false false x = unlike cc
        go true false w n x = unlike cc
        go false i w n x = unlike cc

    abbrev free : ℕ
    free = free_from os₁ ss₁ first

    abbrev lack : ℕ
    lack = free_from os ss first

    told_same : (s : Result Source Refusal) → source_of t first count ≡ s → ToldBy load first count free lack t s ≡ ToldBy load first count free lack u s
    told_same (Err why) e =
        ap (λ (n : ℕ). pick (leb (first + count) n) (named_text why (ascii "overlay") (load + lack)) (named_text why (ascii "released") (load + free)))
        issued-long
    told_same (Ok Overlay) e =
        ap (bytes_text (ascii "overlay"))
        (part_same t.overlay u.overlay over-long first count (λ k l h z. over-same k z (all_own e k l h)))
    told_same (Ok Released) e =
        either (leb (first + count) free)
        (λ y.
        let all = leb-true (first + count) free y in
        ap (given_text load (first + count) free)
        (part_same t.released u.released issued-long first count
        (λ k l h z. issued-same k z (before-it-is-given load issued first k l (omega arith)))))
        (λ n. pick-false _ _ n ∙ sym (pick-false _ _ n))

    told-alike : source_text load first count free lack t ≡ source_text load first count free lack u
    unfolding source_text
    told-alike = told_same (source_of t first count) refl ∙ ap (ToldBy load first count free lack u) source-same

  range_same : (address count : ℕ) → answer_text load (Range address count) t os₁ ss₁ ≡ answer_text load (Range address count) u os₁ ss₁
  unfolding range_text
  range_same address count =
      ap (λ (x : List ℕ). pick (eqb count 0) (refusal_text BadPart) (pick (ltb address load) (named_text BadPart (ascii "released") address) x))
      (told-alike (address - load) count)

  pub answers-same : (asked : Asked) → answer_text load asked t os₁ ss₁ ≡ answer_text load asked u os₁ ss₁
  answers-same Runs = list_same
  answers-same (Range address count) = range_same address count
