-- `turn` meets its contract: what was read is never refused when it is written, but for a width that does not fit.
use mathlib.Core.Path.{◌≡◌, sym, ◌∙◌}
use Prim.Native.Nat.{◌≤◌}
use native.Mathlib.Omega.{arith}
use lib.ListN.{length, take, replicate}
use Rattle.record_read.specs.Outcome.{Lent, lent}
use Rattle.print_text.specs.Lines.{refusal_text}
use Rattle.thm_record_room.specs.Laws.Records.{puts-records}
use Rattle.print_rehex.specs.Rehex.{blocks_room}
use Rattle.print_rehex.specs.Laws.Turned.{few, first-long, second-long, turns}
use Rattle.print_rehex.proofs.turn.Goals as goal

pub returns-in-Ok : goal.returns-in-Ok
returns-in-Ok c =
    let a = c.args in
    let d = c.read-found in
    let old : Lent = lent a.bytes.now a.offsets.now a.sizes.now (replicate 131072 0) in
    -- what was read
    let new : Lent = lent d.new.bytes d.new.offsets d.new.sizes d.new.scratch in
    let n = c.in-Ok.count in
    let f = c.in-Ok.is in
    let small : n ≤ blocks_room =
    few a.kind a.format a.load a.source.now old c.requires.bytes_len c.requires.offsets_len c.requires.sizes_len d.result new d.ensures n f in
    let long : length (take n new.offsets) ≡ n =
    first-long a.kind a.format a.load a.source.now old c.requires.bytes_len c.requires.offsets_len c.requires.sizes_len d.result new d.ensures n f in
    let wide : length (take n new.sizes) ≡ n =
    second-long a.kind a.format a.load a.source.now old c.requires.bytes_len c.requires.offsets_len c.requires.sizes_len d.result new d.ensures n f in
    let puts = puts-records new.bytes (take n new.offsets) (take n new.sizes) a.load a.out.now
    (λ i. (c.slice_known-5-1.given i).fits) (long ∙ sym wide)
    (omega (arith, c.bytes-1.given, c.requires.bytes_len, small, long, c.requires.text_room_in_bounds)) refusal_text a.format
    c.write.ensures in
    turns a.kind a.format a.load a.source.now old c.requires.bytes_len c.requires.offsets_len c.requires.sizes_len
    d.result new d.ensures n f c.write.result _ _ puts
