-- `record_reason::spelling::spelling_in`: the format's own numbers.
use Rattle.record_reason.proofs.SpellingLaws.{spelled-otherwise}
use Rattle.record_reason.proofs.spelling.spelling_in.Goals as goal

pub returns : goal.returns
returns c = spelled-otherwise c.args.format c.args.line.now c.if-format-eq0.false c.starts-begun.ensures c.spelling-2.ensures
