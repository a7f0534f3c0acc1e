-- `put_bytes` meets its contract: a word, the bytes and LF, one behind the other.
use native.Mathlib.Omega.{arith}
use Rattle.print_bench.proofs.Laws.{writes_then, writes-long, stands_of, length-field}
use Rattle.print_bench.proofs.put_bytes.Goals as goal

pub put_field-b-requires-clause-bytes_in_bounds : goal.put_field-b-requires-clause-bytes_in_bounds
put_field-b-requires-clause-bytes_in_bounds c =
    omega (
      arith,
      length-field c.args.bytes.now,
      c.write_word-a.ensures.place,
      writes-long c.write_word-a.ensures,
      c.requires.word_len_bound,
      c.requires.bytes_len_bound,
      c.requires.text_room_in_bounds,
    )

pub write_word-requires : goal.write_word-requires
write_word-requires c =
    let w = c.write_word-a.ensures in
    let f = c.put_field-b.ensures in
    omega (
      arith,
      length-field c.args.bytes.now,
      c.write_word-a.ensures.place,
      writes-long w,
      c.put_field-b.ensures.place,
      writes-long f,
      c.requires.word_len_bound,
      c.requires.bytes_len_bound,
      c.requires.text_room_in_bounds,
    )

pub returns : goal.returns
returns c =
    let w = c.write_word-a.ensures in
    let f = c.put_field-b.ensures in
    let v = c.write_word.ensures in
    stands_of (writes_then (writes_then w f) v)
    (omega (
      arith,
      length-field c.args.bytes.now,
      c.write_word-a.ensures.place,
      c.put_field-b.ensures.place,
      c.write_word.ensures.place,
      c.requires.word_len_bound,
      c.requires.bytes_len_bound,
      c.requires.text_room_in_bounds,
    ))
