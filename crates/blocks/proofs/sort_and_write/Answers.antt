-- `sort_and_write` meets its contract: the sorted numbers stand for the spans taken by offset.
use mathlib.Core.Path.{◌≡◌, ap, subst, ◌∙◌}
use mathlib.Core.Bool.{true}
use mathlib.Core.List.{List, ◌++◌}
use Prim.Native.Nat.{ℕ, ◌≤◌}
use lib.ListN.{length, take, drop}
use Rattle.prelude.specs.Limits.{max_nodes}
use Rattle.sort.specs.Numbers.{order}
use Rattle.blocks.specs.declared.Block.{Block}
use Rattle.blocks.specs.Theorems.Acceptable.{acceptable-parts}
use Rattle.blocks.specs.Numbered.{numbered_blocks}
use Rattle.blocks.specs.Outcome.{Written}
use Rattle.blocks.specs.Spans.{spans_of, all_within}
use Rattle.blocks.proofs.Ordered.{blocks-in-order, order-walkable, front-is}
use Rattle.blocks.proofs.sort_and_write.Goals as goal

pub write_blocks-requires : goal.write_blocks-requires
write_blocks-requires c =
    let words : List ℕ =
    c.args.offsets.now in
    let good : (length words ≡ length c.args.sizes.now) × (length words ≤ max_nodes) × (all_within (spans_of words c.args.sizes.now) ≡ true) =
    acceptable-parts words c.args.sizes.now c.requires.0 in
    -- the front of the room, after the first call
    let in-front : take (length words) (c.sort.new.numbers ++ drop (length words) c.args.room.now)
    ≡ order words =
    front-is words c.args.room.now c.sort.new.numbers c.sort.result c.requires.1 good.1 c.sort.ensures in
    let g = good in
    rw in-front (order-walkable words c.args.sizes.now g.0 g.1 g.2)

pub returns : goal.returns
returns c =
    let words : List ℕ =
    c.args.offsets.now in
    let good : (length words ≡ length c.args.sizes.now) × (length words ≤ max_nodes) × (all_within (spans_of words c.args.sizes.now) ≡ true) =
    acceptable-parts words c.args.sizes.now c.requires.0 in
    -- the front of the room, after the first call
    let in-front : take (length words) (c.sort.new.numbers ++ drop (length words) c.args.room.now)
    ≡ order words =
    front-is words c.args.room.now c.sort.new.numbers c.sort.result c.requires.1 good.1 c.sort.ensures in
    let a = c.args in
    let last = c.write_blocks.new in
    subst (λ (b : List Block). Written b a.block_offsets.now a.block_sizes.now c.write_blocks.result last.block_offsets last.block_sizes)
    (ap (numbered_blocks words a.sizes.now) in-front ∙ blocks-in-order words a.sizes.now good.0)
    c.write_blocks.ensures
