-- `put_field` meets its contract: two digits for each byte have room, so that the hex call is never refused.
use Prim.Native.Nat.{◌+◌, ◌*◌, ◌≤◌}
use native.Mathlib.Omega.{arith}
use lib.ListN.{length}
use Rattle.print_bench.specs.Program.{field}
use Rattle.print_bench.proofs.Laws.{writes_then, writes-long, length-field, hex-never, hex-writes}
use Rattle.print_bench.proofs.put_field.Goals as goal

pub write_word-from-requires : goal.write_word-from-requires
write_word-from-requires c =
    omega (arith, length-field c.args.bytes.now, c.requires.bytes_in_bounds)

pub slice_bounds-write_hex-count : goal.slice_bounds-write_hex-count
slice_bounds-write_hex-count c =
    let roomy : c.write_word-from.result + 2 * length c.args.bytes.now ≤ length c.write_word-from.new.out =
    omega (arith, length-field c.args.bytes.now, c.requires.bytes_in_bounds, c.write_word-from.ensures.place, writes-long c.write_word-from.ensures) in
    omega (arith, roomy)

pub slice_bounds-write_hex-start : goal.slice_bounds-write_hex-start
slice_bounds-write_hex-start c =
    let roomy : c.write_word-from.result + 2 * length c.args.bytes.now ≤ length c.write_word-from.new.out =
    omega (arith, length-field c.args.bytes.now, c.requires.bytes_in_bounds, c.write_word-from.ensures.place, writes-long c.write_word-from.ensures) in
    omega (arith, roomy)

pub returns-in_default : goal.returns-in_default
returns-in_default c =
    let roomy : c.write_word-from.result + 2 * length c.args.bytes.now ≤ length c.write_word-from.new.out =
    omega (arith, length-field c.args.bytes.now, c.requires.bytes_in_bounds, c.write_word-from.ensures.place, writes-long c.write_word-from.ensures) in
    absurd (hex-never c.args.bytes.now c.write_word-from.new.out c.write_word-from.result (roomy) c.write_hex.result
    c.write_hex.new.hex c.write_hex.ensures c.in_default.is)

pub returns : goal.returns
unfolding field
returns c =
    let roomy : c.write_word-from.result + 2 * length c.args.bytes.now ≤ length c.write_word-from.new.out =
    omega (arith, length-field c.args.bytes.now, c.requires.bytes_in_bounds, c.write_word-from.ensures.place, writes-long c.write_word-from.ensures) in
    writes_then c.write_word-from.ensures
    (hex-writes c.args.bytes.now c.write_word-from.new.out c.write_word-from.result (roomy) c.write_hex.result
    c.write_hex.new.hex c.write_hex.ensures c.in-Ok.is)
