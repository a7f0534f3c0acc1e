-- `put_unread` meets its contract: the refusal's line, the name, and the line at fault.
use native.Mathlib.Omega.{arith}
use Rattle.print_bench.proofs.Laws.{writes_then, stands_of}
use Rattle.print_bench.proofs.put_unread.Goals as goal

pub returns : goal.returns
returns c =
    let v = c.write_word-b.ensures in
    stands_of (writes_then (writes_then c.write_refusal-a.ensures.writes v) c.put_fault.ensures.writes) (omega (
      arith,
      c.write_refusal-a.ensures.upper_bound,
      c.write_word-b.ensures.place,
      c.put_fault.ensures.upper_bound,
      c.requires.name_len_bound,
      c.requires.text_room_in_bounds,
    ))
