-- Laws of text at the front of a buffer: put there by a call that found room, behind other text, and handed on.
use Rattle.std.specs.Prelude.{◌≡◌, List, ◌++◌, ℕ, ◌+◌, ◌≤◌, min, length, take, drop, Some, None, Option}
use Rattle.std.proofs.Common.{sym, ap, ap₂, ◌∙◌, arith, le-leb, length-append, length-drop, take_at, drop-drop}
use Rattle.std.proofs.Math.Seq.{drop-append-add}
use Rattle.prelude.specs.Laws.Bools.{unlike}
use Rattle.prelude.specs.Laws.Pick.{pick_true}
use Rattle.print_text.specs.Laws.Ends.{end_fits}
use Rattle.print_text.specs.Puts.{Puts}
use Rattle.prog_args.specs.Text.{Stands, Shows}

pub never-short : {m : ℕ} → Some m ≡ None → ⊥
never-short e = unlike cc

pub to_same : {m n : ℕ} → Some m ≡ Some n → m ≡ n
to_same e = cc

-- ---- a text put at the front, where there is room

module _ {text old : List ℕ} {r : Option ℕ} {new : List ℕ} (p : Puts text old 0 r new) (room : length text ≤ length old) where
  fits-there : 0 + length text ≤ length old
  fits-there = omega (arith, room)

  pub put-ends : r ≡ Some (length text)
  put-ends = p.place ∙ end_fits (length old) 0 (length text) fits-there ∙ ap Some (omega arith)

  pub put-stands : {n : ℕ} → n ≡ length text → Stands text old n new
  put-stands e =
      let same : 0 + length text ≡ length text = omega arith in
      record {
        counted = e;
        fits = room;
        buffer = p.buffer ∙ pick_true _ _ (le-leb (0 + length text) (length old) fits-there) ∙ ap (λ (k : ℕ). text ++ drop k old) same;
      }

-- ---- a text behind one that stands there

pub stands-long : {text old : List ℕ} {n : ℕ} {new : List ℕ} → Stands text old n new → length new ≡ length old
stands-long {text} {old} s =
    let fits = s.fits in
    ap length s.buffer ∙ length-append text (drop (length text) old) ∙ ap (λ (k : ℕ). length text + k) (length-drop (length text) old) ∙ omega arith

module _ {first second old mid : List ℕ} {at : ℕ} {r : Option ℕ} {new : List ℕ} (s : Stands first old at mid) (p : Puts second mid at r new)
    (room : length first + length second ≤ length old) where
  fits-behind : at + length second ≤ length mid
  fits-behind = omega (arith, room, s.counted, stands-long s)

  pub then-ends : r ≡ Some (at + length second)
  then-ends = p.place ∙ end_fits (length mid) at (length second) fits-behind

  behind : drop (at + length second) mid ≡ drop (length (first ++ second)) old
  behind =
      ap₂ (λ (k : ℕ) (l : List ℕ). drop (k + length second) l) s.counted s.buffer
      ∙ drop-append-add first (drop (length first) old) (length second) ∙ drop-drop (length second) (length first) old
      ∙ ap (λ (k : ℕ). drop k old) (sym (length-append first second))

  front : take at mid ≡ first
  front = ap (take at) s.buffer ∙ take_at first (drop (length first) old) at (sym s.counted)

  pub then-stands : {n : ℕ} → n ≡ at + length second → Stands (first ++ second) old n new
  then-stands e =
      record {
        counted = e ∙ ap (λ (k : ℕ). k + length second) s.counted ∙ sym (length-append first second);
        fits = omega (arith, room, length-append first second);
        buffer =
            p.buffer ∙ pick_true _ _ (le-leb (at + length second) (length mid) fits-behind)
            ∙ ap₂ (λ (a b : List ℕ). a ++ second ++ b) front behind;
      }

-- ---- handed on

pub shown-whole : {text old : List ℕ} {n : ℕ} {new : List ℕ} → Stands text old n new → (m : ℕ) → m ≡ min n (length new) → Shows text m new
shown-whole {text} {old} {n} {new} s m e =
    let counted = s.counted in
    let fits = s.fits in
    let long = stands-long s in
    let all : m ≡ length text = omega arith in
    record { counted = all; front = ap (take m) s.buffer ∙ take_at text (drop (length text) old) m (sym all) }
