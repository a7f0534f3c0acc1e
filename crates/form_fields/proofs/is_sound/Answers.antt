-- `form_fields::is_sound` meets its contract: the field is there, and its last two bytes are tested.
use Prim.Native.Nat.{ℕ, ◌+◌, ◌≤◌}
use mathlib.Core.Bool.{Bool, true}
use mathlib.Core.Path.{◌≡◌, refl, sym, ◌∙◌}
use mathlib.Core.List.{List}
use borrow.Author.Tests.{not-true, not-false}
use native.Mathlib.Omega.{arith}
use lib.ListN.{length}
use Rattle.form_fields.specs.Fields.{field_at, sound_at}
use Rattle.form_fields.specs.Laws.Fields.{field-ends}
use Rattle.form_fields.proofs.is_sound.Goals as goal

-- a field that is there ends within the file
ends : (file : List ℕ) (tag len at : ℕ) {there : Bool} → there ≡ field_at file tag len at → there ≡ true → at + 3 + len ≤ length file
ends file tag len at e h = field-ends file tag len at (sym e ∙ h)

pub returns-then-not-is_field : goal.returns-then-not-is_field
unfolding sound_at
returns-then-not-is_field c =
    rw (sym c.is_field.ensures ∙ not-true _ c.if-not-is_field.true-raw) refl

pub overflow_add-at : goal.overflow_add-at
overflow_add-at c =
    omega (arith, ends _ _ _ _ c.is_field.ensures (not-false _ c.if-not-is_field.false-raw))

pub overflow_add-at-2 : goal.overflow_add-at-2
overflow_add-at-2 c =
    omega (arith, ends _ _ _ _ c.is_field.ensures (not-false _ c.if-not-is_field.false-raw))

pub bounds-file-at : goal.bounds-file-at
bounds-file-at c =
    omega (arith, ends _ _ _ _ c.is_field.ensures (not-false _ c.if-not-is_field.false-raw))

pub overflow_add-at-3 : goal.overflow_add-at-3
overflow_add-at-3 c =
    omega (arith, ends _ _ _ _ c.is_field.ensures (not-false _ c.if-not-is_field.false-raw))

pub overflow_add-at-4 : goal.overflow_add-at-4
overflow_add-at-4 c =
    omega (arith, ends _ _ _ _ c.is_field.ensures (not-false _ c.if-not-is_field.false-raw))

pub bounds-file-at-2 : goal.bounds-file-at-2
bounds-file-at-2 c =
    omega (arith, ends _ _ _ _ c.is_field.ensures (not-false _ c.if-not-is_field.false-raw))

pub returns : goal.returns
unfolding sound_at
returns c =
    rw (sym c.is_field.ensures ∙ not-false _ c.if-not-is_field.false-raw) c.ends_well.ensures
