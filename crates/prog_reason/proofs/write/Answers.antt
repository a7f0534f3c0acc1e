-- `write` meets its contract: what stands at the front is handed on, all of it, and it is what the sentence says.
use Rattle.prog_args.specs.Laws.Text.{shown-whole}
use Rattle.says.specs.Texts.{ReasonText}
use Rattle.meets_texts.specs.Laws.Shown.{shows-says}
use Rattle.meets_texts.specs.Theorems.Reason.{reason-text-meets}
use Rattle.prog_reason.proofs.write.Goals as goal

pub returns : goal.returns
returns g c =
    let a = c.args in
    shows-says (ReasonText a.kind a.load a.source.now) (reason-text-meets a.kind a.load a.source.now)
    (shown-whole c.put-count.ensures c.print.result c.print.ensures)
