-- `form_convert::is_zero` meets its contract: the library's test of all.
use Prim.Native.Nat.{ℕ}
use mathlib.Core.Path.{◌∙◌}
use lib.Dec.{eqb}
use Rattle.std.proofs.Common.{rules, tests}
use Rattle.std.proofs.lemmas.Iterator.{YieldsList-from_slice}
use Rattle.std.proofs.lemmas.Iterator.Search.{all_from_yields_List}
use Rattle.form_convert.proofs.Laws.{all_is}
use Rattle.form_convert.proofs.is_zero.Goals as goal

pub returns : goal.returns
returns c =
    all_from_yields_List (λ (b : ℕ). eqb b 0) _ _ c.all.result c.all.ensures.ran (YieldsList-from_slice c.args.word.now cc) (λ x b q k. search (rules, tests))
    ∙ all_is (λ (b : ℕ). eqb b 0) c.args.word.now
