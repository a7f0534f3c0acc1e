-- `put_refused` meets its contract: both lines fit the text.
use Prim.Native.Nat.{◌+◌, ◌≤◌}
use native.Mathlib.Omega.{arith}
use lib.ListN.{length}
use Rattle.print_text.specs.Ascii.{ascii}
use Rattle.print_text.specs.Laws.Ends.{puts-writes}
use Rattle.print_text.specs.Lines.{refusal_text}
use Rattle.prog_args.specs.Laws.Text.{stands-long, then-stands}
use Rattle.print_records.proofs.put_refused.Goals as goal

pub returns : goal.returns
returns c =
    let w = c.write_word.ensures in
    let room : length (refusal_text c.args.why) + length (ascii "records\n") ≤ length c.args.out.now = omega (arith, c.put_refusal-at.ensures.stands.counted, c.put_refusal-at.ensures.upper_bound, c.requires) in
    then-stands c.put_refusal-at.ensures.stands (puts-writes (omega (arith, c.put_refusal-at.ensures.stands.counted, room, stands-long c.put_refusal-at.ensures.stands)) w) room c.write_word.ensures.place
