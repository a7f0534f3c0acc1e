-- `record_write::line::put_bytes`: the digits of the bytes so far stand in the part.
use Rattle.std.proofs.Common.{◌≡◌, length, take}
use lib.Seq.{sets}
use Rattle.record_lines.specs.Digits.{bytes_text}
use Rattle.record_write.proofs.line.put_bytes.Given as goal

abbrev pub invariant-loop-i : goal.invariant-loop-i
invariant-loop-i l = (l.out ≡ sets l.initial.out l.at (bytes_text (take l.i l.bytes))) × (length l.out ≡ length l.initial.out)
