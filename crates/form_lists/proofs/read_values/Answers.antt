-- `form_lists::read_values` meets its contract: the part that the shape names stands within the file.
use Prim.Native.Nat.{ℕ, ◌+◌}
use mathlib.Core.Path.{◌≡◌, sym, ap, ◌∙◌}
use mathlib.Core.List.{List}
use native.Mathlib.Omega.{arith}
use lib.ListN.{length}
use Rattle.form_fields.specs.declared.Kind.{Kind}
use Rattle.form_fields.specs.declared.Shape.{Shape}
use Rattle.form_fields.specs.Shape.{shape_in, limit_start_in}
use Rattle.form_fields.specs.Laws.Rest.{SoundFile, sound-file}
use Rattle.form_lists.proofs.read_values.Goals as goal

-- the value bytes end before the limit
inside : (k : Kind) (file : List ℕ) (s : Shape) → SoundFile k file s → s.values + s.size + 4 ≡ length file
unfolding shape_in limit_start_in
inside k file s f = ap (λ (t : Shape). t.values + t.size + 4) f.shape ∙ f.whole

pub overflow_add-end : goal.overflow_add-end
overflow_add-end c =
    let within : c.in-Ok.shape.values + c.in-Ok.shape.size + 4 ≡ length
    c.args.file.now =
    inside _ _ _ (sound-file _ _ _ (sym c.read_shape.ensures.is ∙ c.in-Ok.is)) in
    omega (arith, within)

pub slice_bounds-result-end-2 : goal.slice_bounds-result-end-2
slice_bounds-result-end-2 c =
    let within : c.in-Ok.shape.values + c.in-Ok.shape.size + 4 ≡ length
    c.args.file.now =
    inside _ _ _ (sound-file _ _ _ (sym c.read_shape.ensures.is ∙ c.in-Ok.is)) in
    omega (arith, within)
