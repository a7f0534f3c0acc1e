-- Theorems about what Ascending defines.
use Rattle.std.specs.Prelude.{◌≡◌, refl, false, List, [], ◌∷◌, ℕ, suc, length}
use Rattle.std.proofs.Common.{ap, ⊎_elim, eq-zero-or-pos, arith, ltb-false, le-ltb, ne_eqb}
use Rattle.std.proofs.Math.Nat.{suc_inj}
use Rattle.std.proofs.lemmas.Bool.{eqb-false}
use Rattle.prelude.specs.Laws.Bools.{neither}
use Rattle.overlap_checker.specs.declared.Entry.{Entry}
use Rattle.overlap_checker.specs.Interval.{end, Within, past_limits}
use Rattle.overlap_checker.specs.Stored.{at_fault, first_fault}
use Rattle.overlap_checker.specs.Ascending.{Ascending, Sits}
use Rattle.overlap_checker.specs.Laws.Ascending.{or-none, told}

-- the limits as a test and as a fact
pub within-limits : (e : Entry) → past_limits e ≡ false → Within e
unfolding past_limits
within-limits e h = let (far, long) = neither _ _ h in (ltb-false _ _ far, ltb-false _ _ long)

pub not-past : (e : Entry) → Within e → past_limits e ≡ false
unfolding past_limits
not-past e h = or-none (le-ltb _ _ h.0) (le-ltb _ _ h.1)

pub sits : (floor : ℕ) (e : Entry) → at_fault floor e ≡ false → Sits floor e
unfolding at_fault
sits floor e h =
    let (limits, rest) = neither _ _ h in
    let (none, low) = neither _ _ rest in
    record {
      above = ltb-false _ _ low;
      nonempty = ⊎_elim (λ z. absurd (eqb-false _ _ none z)) (λ p. p) (eq-zero-or-pos e.size);
      within = within-limits e limits;
    }

pub no-fault : (floor : ℕ) (e : Entry) → Sits floor e → at_fault floor e ≡ false
unfolding at_fault
no-fault floor e s =
    or-none (not-past e s.within)
    (or-none (ne_eqb e.size 0 (λ z. omega arith)) (le-ltb _ _ s.above))

pub ascending : (floor : ℕ) (l : List Entry) → first_fault floor l ≡ length l → Ascending floor l
unfolding first_fault
ascending floor [] h = tt
ascending floor (e ∷ l) h =
    ⊎_elim (λ t. let g : ◌≡◌ {A = ℕ} 0 (suc (length l)) = rw t at h in absurd (omega arith))
    (λ t. (sits floor e t, ascending (end e) l (suc_inj (rw t at h))))
    (told (at_fault floor e))

pub faultless : (floor : ℕ) (l : List Entry) → Ascending floor l → first_fault floor l ≡ length l
unfolding first_fault
faultless floor [] a = refl
faultless floor (e ∷ l) a = rw (no-fault floor e a.0) (ap suc (faultless (end e) l a.1))
