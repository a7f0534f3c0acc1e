-- `form_convert::rows_start_zero` meets its contract: the rows by their numbers.
use Prim.Native.Nat.{ℕ, ◌+◌, ◌-◌, ◌*◌}
use mathlib.Core.Bool.{Bool}
use mathlib.Core.List.{List}
use mathlib.Core.Path.{◌≡◌, ap, ◌∙◌}
use native.Mathlib.Omega.{arith}
use lib.ListN.{take, drop}
use Rattle.std.proofs.Common.{rules, tests}
use Rattle.std.proofs.lemmas.Iterator.{YieldsList-from_range}
use Rattle.std.proofs.lemmas.Iterator.Search.{all_from_yields_List}
use Rattle.form_fields.specs.Whole.{part}
use Rattle.form_rewrite.specs.Turning.{all_zero}
use Rattle.form_convert.proofs.Laws.{column_all}
use Rattle.form_convert.proofs.rows_start_zero.Goals as goal

-- the first five bytes of a row, as the code takes them
abbrev starts : List ℕ → ℕ → ℕ → ℕ → Bool
starts file from step i = all_zero (take (from + i * step + 5 - (from + i * step)) (drop (from + i * step) file))

starts-is : (file : List ℕ) (from step i : ℕ) → starts file from step (0 + i) ≡ all_zero (part file 5 (from + i * step))
starts-is file from step i =
    ap (starts file from step) {x = 0 + i} {y = i} (omega arith)
    ∙ ap (λ (n : ℕ). all_zero (take n (drop (from + i * step) file))) {x = from + i * step + 5 - (from + i * step)} {y = 5} (omega arith)

pub returns : goal.returns
returns c =
    let a = c.args in
    all_from_yields_List (starts a.file.now a.from a.step) _ _ c.all.result c.all.ensures.ran (YieldsList-from_range 0 a.count a.count (cc) (omega arith))
    (λ x b q k. search (rules, tests))
    ∙ column_all (starts a.file.now a.from a.step) all_zero (part a.file.now 5) a.step a.from 0 a.count (starts-is a.file.now a.from a.step)
