use mathlib.Core.Path.{◌∙◌}
use native.Mathlib.Omega.{arith}
use Rattle.record_read.proofs.Fills.{spelled_none, spelled-more, pair_is, pairs_all}
use Rattle.record_read.proofs.File.fill_line.Goals as goal

pub loop-j-init : goal.loop-j-init
loop-j-init c =
    let a = c.args in
    spelled_none a.characters.now a.line.first a.line.address a.self.now.load a.bytes.now

pub loop-j-preserved : goal.loop-j-preserved
loop-j-preserved c =
    let a = c.args in
    let many = pairs_all a.characters.now a.line.first a.line.count c.requires in
    let long = c.as_chunks.ensures.front_len in
    let pair = pair_is a.characters.now a.line.first _ _ c.loop-j.j c.as_chunks.ensures.front (omega (arith, long)) (omega (arith, long, many)) in
    spelled-more a.characters.now a.line.first a.line.address a.self.now.load a.bytes.now c.loop-j.j c.loop-j.invariant
    (c.pair_of.ensures a.self.now.spells ∙ pair) c.put_byte.ensures
