-- `form_convert::first_stray` meets its contract: the nodes by their numbers.
use Prim.Native.Nat.{ℕ, ◌+◌, ◌*◌}
use mathlib.Core.Bool.{Bool}
use mathlib.Core.List.{List}
use mathlib.Core.Path.{◌≡◌, sym, ap, ap₂, ◌∙◌}
use native.Mathlib.Nat.{zero-add}
use native.Mathlib.Omega.{arith}
use Rattle.std.proofs.Common.{Option, rules, tests}
use Rattle.std.proofs.lemmas.Iterator.Adapters.{option_map_id}
use Rattle.std.proofs.lemmas.Iterator.{YieldsList-from_range}
use Rattle.std.proofs.lemmas.Iterator.Search.{find_from_yields_List}
use Rattle.std.specs.Prelude.{unwrap_or}
use Rattle.std.specs.List.{find, range_with_len}
use Rattle.form_fields.specs.Whole.{part}
use Rattle.form_rewrite.specs.Turning.{strays}
use Rattle.form_convert.proofs.Laws.{column_find}
use Rattle.form_convert.proofs.first_stray.Goals as goal

abbrev stray_at : ℕ → List ℕ → ℕ → ℕ → Bool
stray_at bank file from i = strays bank (part file 5 (from + i * 8))

pub returns : goal.returns
returns c =
    let a = c.args in
    let e : c.find.result ≡ find (stray_at a.bank a.file.now a.from) (range_with_len 0 a.count) =
    sym (option_map_id c.find.result)
    ∙ find_from_yields_List (stray_at a.bank a.file.now a.from) _ _ c.find.result c.find.ensures.ran (YieldsList-from_range 0 a.count a.count (cc) (omega arith))
    (λ x b q k. search (rules, tests)) in
    c.unwrap_or.ensures ∙ ap₂ (λ (o : Option ℕ) (n : ℕ). unwrap_or o n) e (sym (zero-add a.count))
    ∙ column_find (stray_at a.bank a.file.now a.from) (strays a.bank) (part a.file.now 5) 8 a.from 0 a.count
    (λ i. ap (stray_at a.bank a.file.now a.from) (zero-add i))
    ∙ zero-add _
