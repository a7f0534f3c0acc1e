-- `write` meets its contract: what stands at the front is handed on, all of it, and it is what the sentence says.
use Rattle.prog_args.specs.Laws.Text.{shown-whole}
use Rattle.says.specs.Texts.{RehexText}
use Rattle.meets_texts.specs.Laws.Shown.{shows-says}
use Rattle.meets_texts.specs.Theorems.Rehex.{rehex-text-meets}
use Rattle.prog_rehex.proofs.write.Goals as goal

pub returns : goal.returns
returns g c =
    let a = c.args in
    let r = c.requires in
    shows-says (RehexText a.kind a.format a.load a.source.now)
    (rehex-text-meets a.kind a.format a.load a.source.now a.bytes.now r.bytes_len)
    (shown-whole (c.put_file-count.ensures r.bytes_len r.offsets_len r.sizes_len r.text_room_in_bounds) c.print.result c.print.ensures)
