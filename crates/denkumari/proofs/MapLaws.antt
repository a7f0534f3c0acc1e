-- A map of the table is told as it is.
use mathlib.Core.Path.{◌≡◌, ap, subst, ◌∙◌}
use Rattle.bankdef.specs.declared.Bankdefs.{Bankdefs}
use Rattle.nodes.specs.Lists.{Lists}
use Rattle.resolver.specs.declared.Choices.{Choices}
use Rattle.output.specs.Output.{input}
use Rattle.build_map.specs.Map.{Lent, Maps}
use Rattle.build_map.specs.declared.Map.{Map}
use Rattle.c_model.specs.Maps.{MapTold}
use Rattle.c_answers.specs.Maps.{map_told}
use Rattle.c_answers.specs.declared.DkMap.{DkMap}

pub map-told : {banks table : Bankdefs} {l : Lists} {chosen choices : Choices} {old new : Lent} {r : Map} {t : DkMap} → banks ≡ table → chosen ≡ choices
    → t ≡ map_told r → Maps (input banks l chosen) old r new → MapTold (input table l choices) old t new
map-told {table = table} {l} {choices = choices} {old} {new} {r} {t} same chose told maps =
    let m : Maps (input table l choices) old r new = rw (same, chose) at maps in
    record { answer = told ∙ ap map_told m.answer; maps = subst (λ (o : Map). Maps (input table l choices) old o new) m.answer m }
