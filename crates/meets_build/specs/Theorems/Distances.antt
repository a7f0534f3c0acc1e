-- Ticket 3, "Stack banks below zero": "Use the remainder from 0 to alignment - 1: address -3 in bits with alignment 8 has remainder 5 and moves 3." The
-- sentences' distance, the fewest bits to a multiple, is the one that the remainder gives, on both sides of 0. And document 01's worked distances.
use Rattle.std.specs.Prelude.{◌≡◌, refl, Bool, true, false, ℕ, ◌+◌, ◌-◌, ◌≤◌, ◌<◌, eqb, ℤ, pos, negsuc, ◌+ℤ◌, ◌*ℤ◌}
use Rattle.std.proofs.Common.{sym, ap, subst, ◌∙◌, arith, eq-eqb, ne_eqb}
use Rattle.std.proofs.Math.IntN.{+ℤ_assoc}
use Rattle.iter.specs.Aligned.{Remains}
use Rattle.iter.specs.Theorems.Aligned.{distance-aligns, remainder-remains}
use Rattle.iter.specs.Distance.{remainder, distance_to}
use Rattle.says.specs.Build as says
use Rattle.says.specs.Build.{Given, unit, start, Aligned, Distance}

module _ (g : Given) (b p : ℕ) where
  -- the address in bits: start × unit + position
  abbrev pub address : ℤ
  address = (start g b *ℤ pos (unit g b)) +ℤ pos p

  further : (e : ℕ) → address +ℤ pos e ≡ (start g b *ℤ pos (unit g b)) +ℤ pos (p + e)
  further e = +ℤ_assoc (start g b *ℤ pos (unit g b)) (pos p) (pos e)

  is-distance : {a d : ℕ} → 0 < a → Distance g b p a d → d ≡ distance_to address a
  is-distance h says.to-zero = absurd (omega arith)
  is-distance {a} {d} h (says.next some m least) =
      let x = distance-aligns address a h in
      let up : d ≤ distance_to address a = least (distance_to address a) (x.times, sym (further (distance_to address a)) ∙ x.multiple) in
      let down : distance_to address a ≤ d = x.least d m.0 (further d ∙ m.1) in
      omega arith

  -- "with r the remainder .., it is 0 for r = 0 and A - r for others", r "from 0 to alignment - 1"
  pub record ByRemainder (a d : ℕ) : Type 0 where
    pub rest : ℕ
    pub below : rest < a
    pub times : ℤ
    pub is : address ≡ (times *ℤ pos a) +ℤ pos rest
    pub on : rest ≡ 0 → d ≡ 0
    pub off : (rest ≡ 0 → ⊥) → d ≡ a - rest

  pub distance-by-remainder : {a d : ℕ} → 0 < a → Distance g b p a d → ByRemainder a d
  distance-by-remainder {a} {d} h x =
      let r = remainder-remains address a h in
      let same = is-distance h x in
      record {
        rest = remainder address a;
        below = r.below;
        times = r.times;
        is = r.rest;
        on = λ e. same ∙ zero-when h e;
        off = λ n. same ∙ else-when h n;
      }
    where
      zero-when : 0 < a → remainder address a ≡ 0 → distance_to address a ≡ 0
      zero-when h e = rw (ne_eqb a 0 (λ z. omega arith), eq-eqb (remainder address a) 0 e)

      else-when : 0 < a → (remainder address a ≡ 0 → ⊥) → distance_to address a ≡ a - remainder address a
      else-when h n = rw (ne_eqb a 0 (λ z. omega arith), ne_eqb (remainder address a) 0 n)

  -- "address -3 in bits with alignment 8 .. moves 3"
  pub three-below-zero : {d : ℕ} → address ≡ negsuc 2 → Distance g b p 8 d → d ≡ 3
  three-below-zero e x = is-distance (omega arith) x ∙ ap (λ (z : ℤ). distance_to z 8) e

-- ---- "P alignment 0 at any address: 0. P unit 10, start 0, position 10, alignment 16: 6. P position 16: 0."

pub alignment-0 : (g : Given) (b p : ℕ) {d : ℕ} → Distance g b p 0 d → d ≡ 0
alignment-0 g b p says.to-zero = refl
alignment-0 g b p (says.next some m least) = absurd (omega arith)

module _ (g : Given) (b : ℕ) (ten : unit g b ≡ 10) (zero-start : start g b ≡ pos 0) where
  address_is : (p : ℕ) → address g b p ≡ pos p
  address_is p =
      ap (λ (z : ℤ). (z *ℤ pos (unit g b)) +ℤ pos p) zero-start ∙ ap (λ (u : ℕ). (pos 0 *ℤ pos u) +ℤ pos p) ten ∙ ap pos (omega arith)

  pub position-10 : {d : ℕ} → Distance g b 10 16 d → d ≡ 6
  position-10 x = is-distance g b 10 (omega arith) x ∙ ap (λ (z : ℤ). distance_to z 16) (address_is 10)

  pub position-16 : {d : ℕ} → Distance g b 16 16 d → d ≡ 0
  position-16 x = is-distance g b 16 (omega arith) x ∙ ap (λ (z : ℤ). distance_to z 16) (address_is 16)
