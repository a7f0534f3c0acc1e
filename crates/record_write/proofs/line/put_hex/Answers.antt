-- `record_write::line::put_hex`: one record behind another.
use Rattle.std.proofs.Common.{◌+◌, ◌*◌, ◌/◌, ◌%◌, length, arith}
use Rattle.record_lines.specs.Laws.Puts.{puts-rest}
use Rattle.record_ihex_line.specs.Format.{upper_text, record_text, hex_text}
use Rattle.record_write.proofs.LineLaws.{hex-long, part_room, upper-few, record-long}
use Rattle.record_write.proofs.line.put_hex.Goals as goal

pub put_upper-n-requires : goal.put_upper-n-requires
put_upper-n-requires c =
    let a = c.args in omega (
      arith,
      hex-long a.in_force a.address a.bytes.now,
      c.requires.1,
    )

pub slice_bounds-put_record-count : goal.slice_bounds-put_record-count
slice_bounds-put_record-count c =
    let a = c.args in
    let u = c.put_upper-n.ensures in
    omega (arith, u.puts.long, u.out_len_unchanged, hex-long a.in_force a.address a.bytes.now, c.requires.1)

pub slice_bounds-put_record-start : goal.slice_bounds-put_record-start
slice_bounds-put_record-start c =
    let a = c.args in
    let u = c.put_upper-n.ensures in
    omega (arith, u.puts.long, u.out_len_unchanged, hex-long a.in_force a.address a.bytes.now, c.requires.1)

pub put_record-m-requires : goal.put_record-m-requires
put_record-m-requires c =
    let a = c.args in
    let u = c.put_upper-n.ensures in (
      c.requires.0,
      part_room c.put_upper-n.new.out c.put_upper-n.result (12 + 2 * length a.bytes.now)
          (omega (
            arith,
            u.puts.long,
            u.out_len_unchanged,
            hex-long a.in_force a.address a.bytes.now,
            c.requires.1,
          )),
    )

pub overflow_add-result : goal.overflow_add-result
overflow_add-result c =
    let a = c.args in
    omega (
      arith,
      c.put_upper-n.ensures.puts.long,
      upper-few a.in_force (a.address / 65536),
      c.put_record-m.ensures.long,
      record-long 0 (a.address % 65536) a.bytes.now,
      c.requires.0,
    )

pub returns : goal.returns
unfolding hex_text
returns c =
    let a = c.args in
    let u = c.put_upper-n.ensures in
    puts-rest (upper_text a.in_force (a.address / 65536)) (record_text 0 (a.address % 65536) a.bytes.now) u.puts
    (omega (
      arith,
      u.puts.long,
      u.out_len_unchanged,
      hex-long a.in_force a.address a.bytes.now,
      c.requires.1,
    )) c.put_record-m.ensures
