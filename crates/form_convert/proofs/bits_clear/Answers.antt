-- `form_convert::bits_clear` meets its contract: the banks by their numbers, each by its last byte.
use Prim.Native.Nat.{ℕ, ◌+◌, ◌*◌}
use mathlib.Core.Bool.{Bool}
use mathlib.Core.List.{List}
use mathlib.Core.Path.{◌≡◌, sym, ap, ◌∙◌}
use native.Mathlib.Omega.{arith}
use lib.Dec.{eqb}
use Rattle.std.proofs.Common.{rules, tests}
use Rattle.std.proofs.lemmas.Iterator.{YieldsList-from_range}
use Rattle.std.proofs.lemmas.Iterator.Search.{all_from_yields_List}
use Rattle.form_fields.specs.Words.{byte}
use Rattle.form_fields.specs.Whole.{part}
use Rattle.form_rewrite.specs.Turning.{bit_clear}
use Rattle.form_rewrite.specs.Laws.PartLaws.{part_at}
use Rattle.form_convert.proofs.Laws.{column_all}
use Rattle.form_convert.proofs.bits_clear.Goals as goal

abbrev clear_at : List ℕ → ℕ → Bool
clear_at file i = eqb (byte file (30 + i * 27)) 0

clear_is : (file : List ℕ) (i : ℕ) → clear_at file (0 + i) ≡ bit_clear (part file 24 (7 + i * 27))
clear_is file i =
    ap (λ (a : ℕ). eqb (byte file a) 0) {x = 30 + (0 + i) * 27} {y = 7 + i * 27 + 23} (omega arith)
    ∙ ap (λ (b : ℕ). eqb b 0) (sym (part_at file 24 (7 + i * 27) 23 (omega arith)))

pub returns : goal.returns
returns c =
    let a = c.args in
    let file = a.file.now in
    all_from_yields_List (clear_at file) _ _ c.all.result c.all.ensures.ran (YieldsList-from_range 0 a.count a.count (cc) (omega arith))
    (λ x b q k. search (rules, tests))
    ∙ column_all (clear_at file) bit_clear (part file 24) 27 7 0 a.count (clear_is file)
