-- What is told of a step, in document 01's figures: what the node sees or why it is refused, what is skipped, and the walk then.
use Rattle.std.specs.Prelude.{ℕ, ◌≤◌, ◌<◌, ◌≡◌, Ok}
use Rattle.prelude.specs.Limits.{max_banks}
use Rattle.prelude.specs.Told.{Told, gives, refuses}
use Rattle.prelude.specs.declared.Place.{Place}
use Rattle.prelude.specs.declared.Place.TheVariants.{One}
use Rattle.bankdef.specs.declared.Bankdef.{Bankdef}
use Rattle.iter.specs.Distance.{no_skip}
use Rattle.iter.specs.Figures.{told_moved, Sees, SoundState, Advances, SightSkips, OwnSkips}
use Rattle.iter.specs.Step.{bank_after, kept}
use Rattle.iter.specs.StepCases.{standing}
use Rattle.nodes.specs.declared.Node.{Node}
use Rattle.iter.specs.declared.Pos.{Pos}
use Rattle.iter.specs.declared.Skipped.{Skipped}
use Rattle.iter.specs.declared.Stepped.{Stepped}
use Rattle.iter.specs.declared.Walk.{Walk}

-- "bits lost to `align` and to label alignment": an `align` skips in its own advance, from what it sees to where it leads; any other node
-- in what it sees, from where its bank stands.
pub data Counts (def : Bankdef) (at p q : Pos) (node : Node) : Skipped → Type 0 where
  own : {s : Skipped} → node.kind ≡ 8 → OwnSkips def p node (Ok q) s → Counts def at p q node s
  sight : {s : Skipped} → (node.kind ≡ 8 → ⊥) → SightSkips def at node (Ok p) s → Counts def at p q node s

module _ (def : Bankdef) (walk : Walk) (node : Node) where
  -- the bank that the node stands in
  abbrev pub bank_of : ℕ
  bank_of = bank_after walk.bank node

  pub data Steps : Told Pos → Skipped → Walk → Type 0 where
    -- "4: .. a call's number is malformed: .. bank number"
    nowhere : max_banks ≤ bank_of → Steps (refuses 4 (One node.index)) no_skip walk
    -- ".. state"
    badly : 3 ≤ node.kind → 2 < node.state → Steps (refuses 4 (One node.index)) no_skip walk
    -- what the node sees is refused
    blind : bank_of < max_banks → SoundState node → {n : ℕ} {place : Place} → Sees def (standing walk node) node (refuses n place)
        → Steps (refuses n place) no_skip walk
    -- its own advance is refused
    stuck : bank_of < max_banks → SoundState node → (p : Pos) {n : ℕ} {place : Place} → Sees def (standing walk node) node (gives p)
        → Advances def p node (refuses n place) → Steps (refuses n place) no_skip walk
    -- it is made: the bank that the node stands in has the new position, and what it lost
    made : bank_of < max_banks → SoundState node → (p q : Pos) (s : Skipped) → Sees def (standing walk node) node (gives p) → Advances def p node (gives q)
        → Counts def (standing walk node) p q node s → Steps (gives p) s (kept walk bank_of q s)

  -- The figures of `step`.
  abbrev pub StepTold : Stepped → Type 0
  StepTold r = Steps (told_moved r.seen) r.skipped r.walk
