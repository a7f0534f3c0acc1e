-- `put_records` meets its contract: the records, which always fit, or the lines of a refusal in a text that is as it was.
use Rattle.std.specs.Prelude.{Err, Result, ℕ}
use Rattle.prelude.specs.declared.Refusal.{Refusal}
use mathlib.Core.Path.{subst}
use native.Mathlib.Omega.{arith}
use Rattle.record_write.specs.Cut.{blocks_in}
use Rattle.thm_record_room.specs.Laws.Records.{puts-records}
use Rattle.thm_record_room.specs.Records.{PutsOr}
use Rattle.print_records.specs.Text.{refused_text}
use Rattle.print_records.proofs.put_records.Goals as goal

pub returns-in-Err : goal.returns-in-Err
returns-in-Err c =
    let a = c.args in
    let p = c.requires in
    let told : PutsOr refused_text a.wanted.format a.wanted.load a.image.now (blocks_in a.offsets.now a.sizes.now) a.out.now (Err c.in-Err.why) c.write-written.new.text =
    subst
    (λ (r : Result ℕ Refusal). PutsOr refused_text a.wanted.format a.wanted.load a.image.now (blocks_in a.offsets.now a.sizes.now) a.out.now r c.write-written.new.text)
    c.in-Err.is
    (puts-records a.image.now a.offsets.now a.sizes.now a.wanted.load a.out.now
    (λ i. (c.shared_slice_known-1.given i).fits) p.offsets_len (omega (arith, p.image_len_bound, p.offsets_len_bound, p.text_room_in_bounds))
    refused_text a.wanted.format c.write-written.ensures) in
    rw (told.0, ← told.1) c.put_refused.ensures

pub returns-in-Ok : goal.returns-in-Ok
returns-in-Ok c =
    let a = c.args in
    let p = c.requires in
    subst
    (λ (r : Result ℕ Refusal). PutsOr refused_text a.wanted.format a.wanted.load a.image.now (blocks_in a.offsets.now a.sizes.now) a.out.now r c.write-written.new.text)
    c.in-Ok.is
    (puts-records a.image.now a.offsets.now a.sizes.now a.wanted.load a.out.now
    (λ i. (c.shared_slice_known-1.given i).fits) p.offsets_len (omega (arith, p.image_len_bound, p.offsets_len_bound, p.text_room_in_bounds))
    refused_text a.wanted.format c.write-written.ensures)
