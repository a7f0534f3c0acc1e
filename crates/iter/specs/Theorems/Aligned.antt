-- Theorems about what Aligned defines.
use Rattle.std.specs.Prelude.{ℕ, suc, ◌+◌, ◌-◌, ◌*◌, ◌/◌, ◌%◌, ◌<◌, ◌≡◌, refl, true, false, eqb, ℤ, pos, negsuc, neg_ℤ, ◌+ℤ◌, Err, Ok}
use Rattle.std.proofs.Common.{sym, ap, subst, ◌∙◌, mod-lt, mod-eq_of_lt, div-add-mod', suc-mul, arith, eqb-true, ne_eqb}
use Rattle.std.proofs.Math.Nat.{mod_self}
use Rattle.std.proofs.Math.IntN.{sub_ℕ}
use Rattle.std.proofs.lemmas.Bool.{eqb-false}
use Rattle.prelude.specs.Laws.Bools.{either}
use Rattle.prelude.specs.Laws.Pick.{pick_true, pick-false}
use Rattle.prelude.specs.declared.Refusal.TheVariants.{Malformed}
use Rattle.bankdef.specs.declared.Bankdef.{Bankdef}
use Rattle.iter.specs.Distance.{tellable, address_in_bits, gap, remainder, distance_to, skips_of, no_skip, distance_of}
use Rattle.iter.specs.Laws.Signs.{neg-plus}
use Rattle.iter.specs.declared.Skipped.{Skipped}
use Rattle.iter.specs.Aligned.{Aligns, Remains}
use Rattle.iter.specs.Laws.Aligned.{above, below-zero, less, m, neg-times, never, none_in, nonzero, skips-same}

-- the gap of what the alignment has beyond a remainder is that remainder
gap_back : (s a : ℕ) → s < a → gap ((a - s) % a) a ≡ s
gap_back s a h =
    either (eqb s 0)
    (λ e.
    let z : s ≡ 0 = eqb-true s 0 e in
    let r : (a - s) % a ≡ 0 = ap (λ (x : ℕ). x % a) (omega arith) ∙ mod_self a in
    rw r (omega arith))
    (λ e.
    let n = eqb-false s 0 e in
    let r : (a - s) % a ≡ a - s = mod-eq_of_lt (omega (arith, n)) in
    rw (r, ne_eqb (a - s) 0 (λ f. omega arith)) (omega arith))

-- ---- what is promised

-- For every address and every nonzero alignment the distance is below the alignment, address plus distance is a multiple of it, and no
-- smaller number serves.
pub distance-aligns : (z : ℤ) (a : ℕ) → 0 < a → Aligns z a (distance_to z a)
distance-aligns (pos n) a h = rw (nonzero a h) (above n a h (eqb (n % a) 0) refl)
distance-aligns (negsuc n) a h = rw (nonzero a h, gap_back (suc n % a) a (mod-lt (suc n) h)) (below-zero n a h)

-- "the remainder from 0 to alignment - 1"
pub remainder-remains : (z : ℤ) (a : ℕ) → 0 < a → Remains z a (remainder z a)
remainder-remains (pos n) a h = record { below = mod-lt n h; times = pos (n / a); rest = ap pos (sym (div-add-mod' n a)) }
remainder-remains (negsuc n) a h =
    let s = suc n % a in
    let l : s < a = mod-lt (suc n) h in
    let whole : suc n ≡ suc n / a * a + s = sym (div-add-mod' (suc n) a) in
    either (eqb s 0)
    (λ e.
    let z : s ≡ 0 = eqb-true s 0 e in
    let r : (a - s) % a ≡ 0 = ap (λ (x : ℕ). x % a) (omega arith) ∙ mod_self a in
    record {
      below = mod-lt (a - s) h;
      times = neg_ℤ (pos (suc n / a));
      rest = sym (ap (λ (x : ℤ). x +ℤ pos ((a - s) % a)) (neg-times (suc n / a) a) ∙ neg-plus (suc n / a * a) ((a - s) % a)
          ∙ less' ((a - s) % a) (suc n) (suc n / a * a) (omega (arith, whole)));
    })
    (λ e.
    let k = eqb-false s 0 e in
    let r : (a - s) % a ≡ a - s = mod-eq_of_lt (omega (arith, k)) in
    let up : suc (suc n / a) * a ≡ suc n / a * a + a = suc-mul (suc n / a) a in
    record {
      below = mod-lt (a - s) h;
      times = negsuc (suc n / a);
      rest = sym (neg-plus (suc (suc n / a) * a) ((a - s) % a) ∙ less' ((a - s) % a) (suc n) (suc (suc n / a) * a) (omega (arith, whole, up)));
    })
  where
    less' : (s m n : ℕ) → n ≡ m + s → sub_ℕ s n ≡ neg_ℤ (pos m)
    less' = less

module _ (def : Bankdef) (position a node : ℕ) where
  -- 4 is given exactly for a bank whose addresses cannot be told.
  pub four-when : tellable def ≡ false → distance_of def position a node ≡ Err (Malformed node)
  unfolding distance_of
  four-when e = pick-false _ _ e

  pub told-when : tellable def ≡ true → distance_of def position a node ≡ Ok (skips_of def (distance_to (address_in_bits def position) a))
  unfolding distance_of
  told-when e = pick_true _ _ e

  pub to_none : tellable def ≡ true → a ≡ 0 → distance_of def position a node ≡ Ok no_skip
  to_none e z = told-when e ∙ ap (λ (x : ℕ). Ok (skips_of def (distance_to (address_in_bits def position) x))) z
      ∙ ap (λ (s : Skipped). Ok s) (none_in def)

  pub to_some : tellable def ≡ true → (a ≡ 0 → ⊥) → distance_of def position a node ≡ Ok (skips_of def (gap (remainder (address_in_bits def position) a) a))
  to_some e n = told-when e ∙ ap (λ (d : ℕ). Ok (skips_of def d)) (pick-false _ _ (ne_eqb a 0 n))

  -- A distance that is told is the one that aligns.
  pub told-aligns : (s : Skipped) → 0 < a → distance_of def position a node ≡ Ok s → Aligns (address_in_bits def position) a s.bits
  told-aligns s h e =
      either (tellable def)
      (λ t. subst (λ (x : Skipped). Aligns (address_in_bits def position) a x.bits) (skips-same (sym (told-when t) ∙ e)) (distance-aligns
      (address_in_bits def position) a h))
      (λ t. absurd (never (Malformed node) s (sym (four-when t) ∙ e)))
