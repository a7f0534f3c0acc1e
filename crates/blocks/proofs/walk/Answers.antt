use mathlib.Core.Path.{◌≡◌, sym, ◌∙◌}
use mathlib.Core.Bool.{true}
use Prim.Native.Nat.{ℕ, ◌<◌, ◌≤◌}
use lib.ListN.{length, get_or}
use Rattle.prelude.specs.Limits.{max_position}
use Rattle.blocks.specs.Offsets.{offset_of}
use Rattle.blocks.specs.Spans.{offset_within}
use Rattle.blocks.specs.Laws.Acceptable.{within-parts}
use Rattle.blocks.proofs.Laws.{at_most}
use Rattle.blocks.proofs.Walking.{walking-past, walking_on, walking-ends}
use Rattle.blocks.proofs.walk.Goals as goal

pub loop-number-preserved-in_default : goal.loop-number-preserved-in_default
loop-number-preserved-in_default c =
    let a = c.args in
    let l = c.loop-number in
    walking-past a.numbers.now a.offsets.now a.sizes.now a.block_offsets.now a.block_sizes.now
    l.invariant
    c.loop-number-test.true
    (rw c.from-place.ensures at (sym c.offset_of.ensures ∙ c.in_default.is))

pub loop-number-preserved : goal.loop-number-preserved
loop-number-preserved c =
    -- the place of the span that the turn takes, and that it is one
    let place : ℕ =
    get_or c.args.numbers.now c.loop-number.number-index 0 in
    let is-placed : place < length c.args.offsets.now =
    c.requires.placed c.loop-number.number-index c.loop-number-test.true in
    -- its word and its size
    let word : ℕ =
    get_or c.args.offsets.now place 0 in
    let size : ℕ =
    get_or c.args.sizes.now place 0 in
    -- the span at this place is within its limits
    let span-within : (offset_within (offset_of word) ≡ true) × (size ≤ max_position) =
    within-parts word size (c.requires.limited place is-placed) in
    let o = c.in-Some in
    let a = c.args in
    let l = c.loop-number in
    let is = rw c.from-place.ensures at (sym c.offset_of.ensures ∙ o.is) in
    rw (c.join-current.ensures, c.from-place.ensures)
    (walking_on a.numbers.now a.offsets.now a.sizes.now a.block_offsets.now a.block_sizes.now
    l.invariant
    c.loop-number-test.true
    o.offset
    is
    (at_most (offset_of word) o.offset is span-within.0)
    span-within.1
    c.close-count.ensures)

pub returns : goal.returns
returns c =
    let a = c.args in
    let l = c.loop-number in
    walking-ends a.numbers.now a.offsets.now a.sizes.now a.block_offsets.now a.block_sizes.now
    l.invariant
    c.loop-number-test.false
    c.push.ensures.put
