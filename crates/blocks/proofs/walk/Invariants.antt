-- `walk` meets its contract: each turn passes a span over or takes it, by the laws of `Walking`.
use Rattle.blocks.proofs.Walking.{Walking}
use Rattle.blocks.proofs.walk.Given as goal

abbrev pub invariant-loop-number : goal.invariant-loop-number
invariant-loop-number l =
    Walking l.numbers l.offsets l.sizes l.initial.block_offsets l.initial.block_sizes l.current l.count l.block_offsets l.block_sizes l.number-index
