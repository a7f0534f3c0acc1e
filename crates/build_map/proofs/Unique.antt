-- Uniqueness of the map, over its contract's own clause: the answer, and what stands in the four lent lists afterwards.
use borrow.Fn.Kinds.{ended_of}
use contract.Lifetimes.{Lfts}
use denote.Triple.Clauses.{AtExit}
use Rattle.prelude.specs.Laws.Outcome.{OneView}
use Rattle.prelude.specs.Laws.Pick.{paired}
use Rattle.build_map.specs.Map.{Lent, lent}
use Rattle.build_map.specs.Theorems.Unique.{map-unique}
use Rattle.build_map.specs.declared.Map.{Map}
use Rattle.build_map.proofs.maps.map_nodes.Kinds as map-nodes-kinds
use Rattle.build_map.proofs.maps.map_nodes.Reads as map-nodes-reads

-- what is lent, at exit
abbrev pub lent_at : (κs : Lfts 9) → AtExit (ended_of 9 map-nodes-kinds.ps map-nodes-kinds.r) κs → Lent
lent_at κs e =
    let lists = e.1.1.1.1.1.1.1.1 in
    lent lists.0.now lists.1.0.now lists.1.1.0.now lists.1.1.1.0.now

pub map-nodes-unique : OneView 9 map-nodes-kinds.ps map-nodes-kinds.r map-nodes-reads.Learnt (Map × Lent) (λ κs x e. (x, lent_at κs e))
map-nodes-unique κs a x y e f p q = let same = map-unique _ _ p q in paired same.0 same.1
