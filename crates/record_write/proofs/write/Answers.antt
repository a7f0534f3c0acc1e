-- `record_write::write`: a law for each return.
use Rattle.std.proofs.Common.{◌≡◌, true, sym, ◌∙◌}
use borrow.Author.Tests.{not-false}
use Rattle.record_write.specs.Outcome.{Input, input, parts_ok, sound}
use Rattle.record_write.proofs.Whole.{all-written}
use Rattle.record_write.proofs.write.Goals as goal

pub returns : goal.returns
returns c =
    -- what is given, and the start, seen from behind each test
    let given : Input =
    let a = c.args in input a.format a.image.now a.offsets.now a.sizes.now a.load in
    -- what the tests say that were passed
    let parts : parts_ok (given).image (given).offsets (given).sizes ≡ true =
    sym c.all_parts.ensures ∙ not-false _ c.if-not-all_parts.false-raw in
    let fine : sound (given) ≡ true =
    sym c.is_sound.ensures ∙ not-false _ c.if-not-is_sound.false-raw in
    let w = c.write_blocks in
    all-written (given) c.args.text.now (parts) (fine) c.text_room-length.result w.new.text
    c.text_room-length.ensures c.if-text-length.false w.ensures.part
