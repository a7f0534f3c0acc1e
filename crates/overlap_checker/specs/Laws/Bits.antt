-- Laws that Theorems/Bits rests on.
use Rattle.std.specs.Prelude.{◌≡◌, refl, true}
use Rattle.std.proofs.Common.{sym, ⊎_elim, true≢false}
use Rattle.std.proofs.Math.Bool.{or-true}
use mathlib.Core.List.Memᴰ
use mathlib.Core.List.{List, [], ◌∷◌, Memᴰ}
use Rattle.overlap_checker.specs.declared.Entry.{Entry}
use Rattle.overlap_checker.specs.Interval.{clashes}
use Rattle.overlap_checker.specs.Offers.{clashes_any}
use Rattle.overlap_checker.specs.Laws.Ascending.{told}

-- An offer clashes with some entry exactly when an entry of the list clashes with it.
pub any_found : (e : Entry) (l : List Entry) → clashes_any e l ≡ true → (f : Entry) × Memᴰ f l × (clashes e f ≡ true)
unfolding clashes_any
any_found e [] h = absurd (true≢false (sym h))
any_found e (f ∷ l) h =
    ⊎_elim (λ here. (f, Memᴰ.head refl, here))
    (λ not-here. let r = any_found e l (rw not-here at h) in (r.0, Memᴰ.tail r.1, r.2))
    (told (clashes e f))

pub any_of : (e : Entry) (l : List Entry) (f : Entry) → Memᴰ f l → clashes e f ≡ true → clashes_any e l ≡ true
unfolding clashes_any
any_of e [] f m h = absurd (Memᴰ.not-nil m)
any_of e (g ∷ l) f m h =
    ⊎_elim (λ same. rw (← same, h)) (λ rest. rw (any_of e l f rest h) (or-true (clashes e g)))
    (Memᴰ.cases_cons m)
