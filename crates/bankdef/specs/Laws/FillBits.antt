-- Laws that Theorems/FillBits rests on.
use Rattle.std.specs.Prelude.{◌≡◌, refl, Bool, true, false, List, [], ◌∷◌, ℕ, zero, suc, ◌+◌, ◌≤◌, ◌<◌, ltb, leb, eqb, length, get_or, drop, Option, None, Some}
use Rattle.std.proofs.Common.{sym, ◌∙◌, arith, ltb-true, leb-true, eqb-true}
use Rattle.std.proofs.lemmas.Bool.{eqb-false}
use Rattle.prelude.specs.Pick.{pick}
use Rattle.bankdef.specs.declared.Bankdef.{Bankdef}
use Rattle.prelude.specs.Laws.Bools.{either, clash, both, or_left, or_right}
use Rattle.bankdef.specs.Check.{no_bank}
use Rattle.bankdef.specs.SharedBit.{InPlace, InBank}
use Rattle.bankdef.specs.FillBits.{FillsBit, fill_bit_at, fills_by, ones_at, ones_in}

pub fills-cases : (b : Bankdef) (p : ℕ) (fill : Bool) (size offset : Option ℕ) → b.fill ≡ fill → b.size ≡ size → b.offset ≡ offset
    → fills_by fill size offset p ≡ true → FillsBit b p
fills-cases b p false size offset e f g t = absurd (clash t refl)
fills-cases b p true None offset e f g t = absurd (clash t refl)
fills-cases b p true (Some size) None e f g t = absurd (clash t refl)
fills-cases b p true (Some size) (Some offset) e f g t =
    let s = both (leb offset p) (ltb p (offset + size)) t in
    record {
      fill = e;
      bits = size;
      from = offset;
      size = f;
      offset = g;
      first = leb-true offset p s.0;
      past = ltb-true p (offset + size) s.1;
    }

placed : (offset size : Option ℕ) (from bits p : ℕ) → offset ≡ Some from → size ≡ Some bits → from ≤ p → p < from + bits → InPlace offset size p
placed offset size from bits p e f h l = rw (e, f) (h, l)

pub fills-in-bank : (b : Bankdef) (p : ℕ) → FillsBit b p → InBank b p
fills-in-bank b p s = placed b.offset b.size s.from s.bits p s.offset s.size s.first s.past

-- ---- a list of banks

pub ones-from : (l : List Bankdef) (p k : ℕ) → k < length l → ones_at (get_or l k no_bank) p ≡ true → ones_in l p ≡ true
unfolding ones_in
ones-from [] p k h e = absurd (omega arith)
ones-from (b ∷ l) p zero h e = or_left (ones_at b p) (ones_in l p) e
ones-from (b ∷ l) p (suc k) h e = or_right (ones_at b p) (ones_in l p) (ones-from l p k (omega arith) e)

-- a bank that gives one
abbrev pub Gives : List Bankdef → ℕ → Type 0
Gives l p = (k : ℕ) × (k < length l) × (ones_at (get_or l k no_bank) p ≡ true)

pub ones-found : (l : List Bankdef) (p : ℕ) → ones_in l p ≡ true → Gives l p
unfolding ones_in
ones-found [] p e = absurd (clash e refl)
ones-found (b ∷ l) p e =
    either (ones_at b p) (λ f. (0, omega arith, f)) (λ f.
    let g : ones_in l p ≡ true = rw f at e in
    let s = ones-found l p g in
    (suc s.0, omega (arith, s.1), s.2))

pub picked : (b : Bool) → ◌≡◌ {A = ℕ} (pick b 1 0) 1 → b ≡ true
picked true e = refl
picked false e = absurd (omega arith)

-- It is a bit,
pub fill-bit-lt : (l : List Bankdef) (p : ℕ) → fill_bit_at l p < 2
fill-bit-lt l p = either (ones_in (drop 1 l) p) (λ e. rw e (omega arith)) (λ e. rw e (omega arith))

-- ---- an accepted table

pub same_bit : (x y : ℕ) → x < 2 → y ≤ 1 → (y ≡ 1 → x ≡ 1) → (x ≡ 1 → y ≡ 1) → x ≡ y
same_bit x y h l up down =
    either (eqb y 1) (λ e. let f = eqb-true y 1 e in up f ∙ sym f) (λ e.
    let y-not : y ≡ 1 → ⊥ = eqb-false y 1 e in
    let x-not : x ≡ 1 → ⊥ = λ f. y-not (down f) in
    omega arith)
