use Prim.Native.Nat.{ℕ, ◌+◌, ◌≤◌}
use mathlib.Core.Bool.{Bool, true}
use mathlib.Core.Path.{◌≡◌, refl, sym, ◌∙◌}
use mathlib.Core.List.{List}
use native.Mathlib.Omega.{arith}
use lib.ListN.{length}
use Rattle.form_fields.specs.Fields.{run, sound_at}
use Rattle.form_fields.specs.Laws.Fields.{sound-ends}
use Rattle.form_fields.specs.Theorems.Fields.{run-stop, run_more}
use Rattle.form_fields.proofs.count_run.Goals as goal

-- a sound field ends within the file
ends : (file : List ℕ) (tag len at : ℕ) {there : Bool} → there ≡ sound_at file tag len at → there ≡ true → at + 3 + len ≤ length file
ends file tag len at e h = sound-ends file tag len at (sym e ∙ h)

pub overflow_add-end : goal.overflow_add-end
overflow_add-end c =
    omega (arith, ends _ _ _ _ c.is_sound.ensures c.loop-end-test.true)

pub overflow_add-end-in-loop-end : goal.overflow_add-end-in-loop-end
overflow_add-end-in-loop-end c =
    omega (arith, ends _ _ _ _ c.is_sound.ensures c.loop-end-test.true)

pub loop-end-smaller : goal.loop-end-smaller
loop-end-smaller c =
    omega (arith, ends _ _ _ _ c.is_sound.ensures c.loop-end-test.true)

pub loop-end-preserved : goal.loop-end-preserved
loop-end-preserved c =
    let a = c.args in
    let more = run_more a.file.now a.tag a.len c.loop-end.end (sym c.is_sound.ensures ∙ c.loop-end-test.true) in
    omega (arith, ends _ _ _ _ c.is_sound.ensures c.loop-end-test.true)

pub returns-clause-count_value : goal.returns-clause-count_value
returns-clause-count_value c =
    let a = c.args in
    let none = run-stop a.file.now a.tag a.len c.loop-end.end (sym c.is_sound.ensures ∙ c.loop-end-test.false) in
    let all : c.loop-end.count ≡ run a.file.now a.tag a.len a.at = omega arith in all

pub returns-clause-end_value : goal.returns-clause-end_value
returns-clause-end_value c =
    let a = c.args in
    let none = run-stop a.file.now a.tag a.len c.loop-end.end (sym c.is_sound.ensures ∙ c.loop-end-test.false) in
    let all : c.loop-end.count ≡ run a.file.now a.tag a.len a.at = omega arith in c.loop-end.invariant.1 ∙ rw all refl
