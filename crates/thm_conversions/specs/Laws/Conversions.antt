-- Laws that Theorems/Conversions rests on.
use Rattle.std.specs.Prelude.{Bool, true, false, ◌≡◌, refl, ℕ, ltb, Err, Ok, Result}
use Rattle.std.proofs.Common.{ltb-false}
use Rattle.prelude.specs.Laws.Bools.{unlike}
use Rattle.prelude.specs.Limits.{max_nodes, max_rows}
use Rattle.prelude.specs.Pick.{pick}
use Rattle.prelude.specs.declared.Refusal.{Refusal}
use Rattle.form_convert.specs.Convert.{answer_of}
use Rattle.thm_conversions.specs.Conversions.{Allowed}

-- refused is not converted
pub never : (why : Refusal) (n : ℕ) → Err why ≡ Ok n → ⊥
never why n e = unlike cc

past : (t : Bool) (why : Refusal) (y : Result ℕ Refusal) (n : ℕ) → pick t (Err why) y ≡ Ok n → (t ≡ false) × (y ≡ Ok n)
past true why y n e = absurd (never why n e)
past false why y n e = (refl, e)

same_size : (a b : ℕ) → ◌≡◌ {A = Result ℕ Refusal} (Ok a) (Ok b) → a ≡ b
same_size a b e = cc

pub allowed : (nodes rows first count size longest : ℕ) (drops : Bool) (room n : ℕ) → answer_of nodes rows first count size longest drops room ≡ Ok n
    → Allowed nodes rows first count size longest drops room n
unfolding answer_of
allowed nodes rows first count size longest drops room n e =
    let a = past (ltb max_nodes nodes) _ _ n e in
    let b = past (ltb max_rows rows) _ _ n a.1 in
    let c = past (ltb first count) _ _ n b.1 in
    let d = past (ltb longest size) _ _ n c.1 in
    let f = past drops _ _ n d.1 in
    let g = past (ltb room size) _ _ n f.1 in
    record {
      few = ltb-false max_nodes nodes a.0;
      few-rows = ltb-false max_rows rows b.0;
      none-strays = ltb-false first count c.0;
      short = ltb-false longest size d.0;
      none_dropped = f.0;
      fits = ltb-false room size g.0;
      size_is = same_size size n g.1;
    }
