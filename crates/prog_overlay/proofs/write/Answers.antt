-- `write` meets its contract: what stands at the front is handed on, all of it, and it is what the sentence says.
use Rattle.prog_args.specs.Laws.Text.{shown-whole}
use Rattle.says.specs.Bench.{BenchSays}
use Rattle.meets_bench.specs.Theorems.Meets.{bench-text-meets}
use Rattle.meets_texts.specs.Laws.Shown.{shows-says}
use Rattle.prog_overlay.proofs.write.Goals as goal

pub returns : goal.returns
returns g c =
    let a = c.args in
    shows-says (BenchSays a.load a.all a.at a.count a.old.now a.new.now)
    (bench-text-meets a.load a.at a.count a.old.now a.new.now a.overlay.now c.told-overlay a.all)
    (shown-whole c.put_bench-end.ensures c.print.result c.print.ensures)
