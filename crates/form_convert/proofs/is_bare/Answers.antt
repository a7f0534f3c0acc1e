-- `form_convert::is_bare` meets its contract: the two banks, part by part.
use Prim.Native.Nat.{ℕ}
use mathlib.Core.Bool.{Bool, true, false, not}
use mathlib.Core.List.{List}
use mathlib.Core.Path.{◌≡◌, refl, sym, ◌∙◌}
use borrow.Author.Tests.{not-true, not-false}
use lib.Dec.{eqb}
use Rattle.std.specs.Cmp.Lexicographic.{pointwise}
use Rattle.form_fields.specs.Whole.{part}
use Rattle.form_rewrite.specs.Turning.{same, all_zero}
use Rattle.form_convert.proofs.Laws.{same-is}
use Rattle.form_convert.proofs.Back.{bare-at}
use Rattle.form_convert.proofs.is_bare.Goals as goal

differ : (l m : List ℕ) {r : Bool} → r ≡ not (pointwise eqb l m) → r ≡ true → same l m ≡ false
differ l m e h = sym (same-is l m) ∙ not-true _ (sym e ∙ h)

agree : (l m : List ℕ) {r : Bool} → r ≡ not (pointwise eqb l m) → r ≡ false → same l m ≡ true
agree l m e h = sym (same-is l m) ∙ not-false _ (sym e ∙ h)

pub returns-then-ne : goal.returns-then-ne
returns-then-ne c =
    let file = c.args.file.now in
    rw (differ (part file 10 7) (part file 10 34) c.ne.ensures c.if-ne.true) refl ∙ bare-at file

pub returns : goal.returns
returns c =
    let file = c.args.file.now in
    let z : all_zero (part file 14 17) ≡ true = sym c.is_zero.ensures ∙ not-false _ c.if-not-is_zero.false-raw in
    rw (agree (part file 10 7) (part file 10 34) c.ne.ensures c.if-ne.false, z) refl ∙ bare-at file
