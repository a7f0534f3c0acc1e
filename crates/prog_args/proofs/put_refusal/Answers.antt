-- Every refusal's line fits, so that it is written whole.
use Rattle.std.proofs.Common.{◌≤◌, arith, length}
use Rattle.print_text.specs.Lines.{refusal_text}
use Rattle.print_text.specs.Laws.Sets.{writes-front}
use Rattle.prog_args.proofs.put_refusal.Goals as goal

pub returns-clause-stands : goal.returns-clause-stands
returns-clause-stands c =
    let w = c.write_refusal.ensures.writes in
    let fits : length (refusal_text c.args.why) ≤ length c.args.out.now = omega (arith, w.place, c.write_refusal.ensures.upper_bound, c.requires) in
    record { counted = omega (arith, w.place); fits = fits; buffer = writes-front fits w }
