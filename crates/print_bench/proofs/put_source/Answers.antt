-- `put_source` meets its contract: the text of each answer, with the bytes that go with it.
use Rattle.std.specs.Prelude.{Ok}
use mathlib.Core.Path.{sym, ap, ◌∙◌}
use Prim.Native.Nat.{◌+◌}
use Rattle.overlay.specs.Range.{bytes_of}
use Rattle.overlay.specs.Trial.{Trial, trial}
use Rattle.print_text.specs.Ascii.{ascii}
use Rattle.print_bench.specs.Program.{bytes_text, given_text}
use Rattle.print_bench.proofs.Laws.{stands-as, told-as}
use Rattle.print_bench.proofs.put_source.Goals as goal

pub returns-in-Err : goal.returns-in-Err
returns-in-Err c =
    let trial_of : Trial =
    trial c.args.overlay.now c.args.released.now c.args.offsets.now c.args.sizes.now in
    stands-as
    (told-as c.args.load c.args.first c.args.count c.args.free c.args.lack (trial_of)
    (sym c.in-Err.is ∙ c.which-source.ensures.answer))
    c.put_missing.ensures

pub returns-in-Overlay : goal.returns-in-Overlay
returns-in-Overlay c =
    let trial_of : Trial =
    trial c.args.overlay.now c.args.released.now c.args.offsets.now c.args.sizes.now in
    let e = sym (ap Ok c.in-Overlay.is) ∙ sym c.in-Ok.is ∙ c.which-source.ensures.answer in
    stands-as
    (ap (bytes_text (ascii "overlay")) (c.pick-bytes.ensures.bytes ∙ ap (bytes_of (trial_of) c.args.first c.args.count) (sym e))
    ∙ told-as c.args.load c.args.first c.args.count c.args.free c.args.lack (trial_of) e)
    c.put_bytes.ensures

pub returns-in-Released : goal.returns-in-Released
returns-in-Released c =
    let trial_of : Trial =
    trial c.args.overlay.now c.args.released.now c.args.offsets.now c.args.sizes.now in
    let e = sym (ap Ok c.in-Released.is) ∙ sym c.in-Ok.is ∙ c.which-source.ensures.answer in
    stands-as
    (ap (given_text c.args.load (c.args.first + c.args.count) c.args.free)
    (c.pick-bytes.ensures.bytes ∙ ap (bytes_of (trial_of) c.args.first c.args.count) (sym e))
    ∙ told-as c.args.load c.args.first c.args.count c.args.free c.args.lack (trial_of) e)
    c.put_given.ensures
