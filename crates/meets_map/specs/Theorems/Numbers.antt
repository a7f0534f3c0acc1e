-- The map is refused only for 1 to 4, and stops only from 5 on; where no pass ran it shows nothing and changes nothing.
use Rattle.std.specs.Prelude.{◌≡◌, refl, Bool, true, false, List, ◌⊎◌, ℕ, ◌≤◌, ◌<◌, ltb, Err}
use Rattle.std.proofs.Common.{sym, ap, ◌∙◌, inl, inr, arith, ltb-true, ltb-false}
use Rattle.prelude.specs.Pick.{pick}
use Rattle.prelude.specs.Refusals.{number_of}
use Rattle.prelude.specs.Verdict.{Verdict, Accepted}
use Rattle.iter.specs.declared.Lost.{Lost}
use Rattle.output.specs.Output.{Input}
use Rattle.build_map.specs.Map.{Lent, map_of}
use Rattle.build_map.specs.Calls.{Call}
use Rattle.build_map.specs.Theorems.Shown.{unrun-shows-none}
use Rattle.c_model.specs.Maps.{MapTold}
use Rattle.c_answers.specs.Maps.{ToldBy, node_told}
use Rattle.c_answers.specs.declared.DkMap.{DkMap}

below : (n : ℕ) (t : Bool) → ltb n 5 ≡ t → pick t n 0 < 5
below n true e = ltb-true n 5 e
below n false e = omega arith

from : (n : ℕ) (t : Bool) → ltb n 5 ≡ t → (pick t 0 n ≡ 0) ⊎ (5 ≤ pick t 0 n)
from n true e = inl refl
from n false e = inr (ltb-false n 5 e)

module _ (node passes nodes : ℕ) (padding : List Lost) where
  told_below : (v : Verdict) → (ToldBy v node passes nodes padding).refusal < 5
  told_below Accepted = omega arith
  told_below (Err why) = below (number_of why) (ltb (number_of why) 5) refl

  told-from : (v : Verdict) → ((ToldBy v node passes nodes padding).stopped ≡ 0) ⊎ (5 ≤ (ToldBy v node passes nodes padding).stopped)
  told-from Accepted = inl refl
  told-from (Err why) = from (number_of why) (ltb (number_of why) 5) refl

  told-passes : (v : Verdict) → (ToldBy v node passes nodes padding).passes ≡ passes
  told-passes Accepted = refl
  told-passes (Err why) = refl

module _ (b : Input) (old new : Lent) (r : DkMap) (c : MapTold b old r new) where
  pub map-refused-below-5 : r.refusal < 5
  map-refused-below-5 =
      let m = map_of b in
      rw c.answer (told_below (node_told m.fault) m.passes m.nodes m.padding m.verdict)

  pub map-stops-from-5 : (r.stopped ≡ 0) ⊎ (5 ≤ r.stopped)
  map-stops-from-5 =
      let m = map_of b in
      rw c.answer (told-from (node_told m.fault) m.passes m.nodes m.padding m.verdict)

  -- what is lent
  abbrev call : Call
  call = record { given = b; old = old; answer = map_of b; new = new; meets = c.maps }

  pub map-unrun-keeps : r.passes ≡ 0 → new ≡ old
  map-unrun-keeps h =
      let m = map_of b in
      let ran = ap (λ (x : DkMap). x.passes) c.answer ∙ told-passes (node_told m.fault) m.passes m.nodes m.padding m.verdict in
      (unrun-shows-none call (sym ran ∙ h)).2
