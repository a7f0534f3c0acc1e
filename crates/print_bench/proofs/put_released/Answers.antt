-- `put_released` meets its contract: the file is read into a copy of the overlay's bytes, and what is asked is told of both, or why not.
use Rattle.std.specs.Prelude.{Err, Result, Ok}
use Rattle.prelude.specs.declared.Refusal.{Refusal}
use mathlib.Core.List.{List}
use mathlib.Core.Path.{sym, subst, ◌∙◌}
use Prim.Native.Nat.{ℕ}
use Rattle.print_bench.specs.Images.{file_of}
use Rattle.print_bench.specs.Steps.{Loads}
use Rattle.print_bench.specs.Laws.Loading.{released-unread, released-read}
use Rattle.print_bench.proofs.Laws.{copied, stands-as}
use Rattle.print_bench.proofs.put_released.Goals as goal

pub returns-in-Err : goal.returns-in-Err
returns-in-Err c =
    let a = c.args in
    let d = c.load_file-found in
    let read : Loads (file_of a.load a.overlay.now a.source.now) (Err c.in-Err.why) d.new.bytes d.new.offsets d.new.sizes =
    subst (λ (y : Result ℕ Refusal). Loads (file_of a.load a.overlay.now a.source.now) y d.new.bytes d.new.offsets d.new.sizes) c.in-Err.is
    (subst (λ (l : List ℕ). Loads (file_of a.load l a.source.now) d.result d.new.bytes d.new.offsets d.new.sizes)
    (copied c.write_word.ensures (c.requires.released_len.1 ∙ sym c.requires.released_len.0)) d.ensures) in
    stands-as (released-unread a.load a.asked a.overlay.now a.offsets.now a.sizes.now a.source.now read) c.put_unread.ensures

pub returns-in-Ok : goal.returns-in-Ok
returns-in-Ok c =
    let a = c.args in
    let d = c.load_file-found in
    let read : Loads (file_of a.load a.overlay.now a.source.now) (Ok c.in-Ok.count) d.new.bytes d.new.offsets d.new.sizes =
    subst (λ (y : Result ℕ Refusal). Loads (file_of a.load a.overlay.now a.source.now) y d.new.bytes d.new.offsets d.new.sizes) c.in-Ok.is
    (subst (λ (l : List ℕ). Loads (file_of a.load l a.source.now) d.result d.new.bytes d.new.offsets d.new.sizes)
    (copied c.write_word.ensures (c.requires.released_len.1 ∙ sym c.requires.released_len.0)) d.ensures) in
    stands-as (released-read a.load a.asked a.overlay.now a.offsets.now a.sizes.now a.source.now read.0) c.put_images.ensures
