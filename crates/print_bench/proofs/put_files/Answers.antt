-- `put_files` meets its contract: the overlay is read, and then the released file with it; or the overlay is refused.
use Rattle.std.specs.Prelude.{Err, Result, ℕ, Ok}
use Rattle.prelude.specs.declared.Refusal.{Refusal}
use mathlib.Core.Path.{subst}
use Rattle.print_bench.specs.Images.{file_of}
use Rattle.print_bench.specs.Laws.Loading.{bench-unread, bench-read}
use Rattle.print_bench.specs.Steps.{Loads}
use Rattle.print_bench.proofs.Laws.{stands-as}
use Rattle.print_bench.proofs.put_files.Goals as goal

pub returns-in-Err : goal.returns-in-Err
returns-in-Err c =
    let a = c.args in
    let d = c.load_file-found in
    let read : Loads (file_of a.load a.overlay.now a.overlay_file.now) (Err c.in-Err.why) d.new.bytes d.new.offsets d.new.sizes =
    subst (λ (y : Result ℕ Refusal). Loads (file_of a.load a.overlay.now a.overlay_file.now) y d.new.bytes d.new.offsets d.new.sizes) c.in-Err.is d.ensures in
    stands-as (bench-unread a.load a.asked a.overlay.now a.released_file.now a.overlay_file.now read) c.put_unread.ensures

pub returns-in-Ok : goal.returns-in-Ok
returns-in-Ok c =
    let a = c.args in
    let d = c.load_file-found in
    let read : Loads (file_of a.load a.overlay.now a.overlay_file.now) (Ok c.in-Ok.count) d.new.bytes d.new.offsets d.new.sizes =
    subst (λ (y : Result ℕ Refusal). Loads (file_of a.load a.overlay.now a.overlay_file.now) y d.new.bytes d.new.offsets d.new.sizes) c.in-Ok.is d.ensures in
    stands-as (bench-read a.load a.asked a.overlay.now a.released_file.now a.overlay_file.now read.0) c.put_released.ensures
