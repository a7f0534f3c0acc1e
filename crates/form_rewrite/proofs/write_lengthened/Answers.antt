-- `form_rewrite::write_lengthened` meets its contract: the head, the banks, and the file from its nodes on.
use Prim.Native.Nat.{ℕ, ◌+◌, ◌*◌, ◌≤◌}
use mathlib.Core.List.{List}
use mathlib.Core.Path.{subst}
use native.Mathlib.Omega.{arith}
use lib.ListN.{length}
use Rattle.form_fields.specs.declared.Shape.{Shape}
use Rattle.form_fields.specs.Kind.{form1, form2, is1}
use Rattle.form_fields.specs.Contents.{written}
use Rattle.form_fields.specs.Whole.{contents_in}
use Rattle.form_rewrite.specs.Fitting.{Read}
use Rattle.form_rewrite.specs.Turning.{lengthened}
use Rattle.form_rewrite.specs.Theorems.Fitting.{lengthened-long}
use Rattle.print_text.specs.Puts.{Writes}
use Rattle.print_text.specs.Laws.Sets.{writes_then}
use Rattle.form_rewrite.specs.Laws.Sizes.{sizes, fits, file-long, banks-many}
use Rattle.form_rewrite.proofs.Assembled.{tail-long, lengthened_pieces, lengthened-is}
use Rattle.form_rewrite.proofs.write_lengthened.Goals as goal

-- the room for what is written
room : (file : List ℕ) (s : Shape) (out : ℕ) → Read form1 file s → length (written form2 (lengthened (contents_in form1 file))) ≤ out
    → length file + 4 + s.banks ≤ out
room file s out r h =
    omega (arith, lengthened-long (contents_in form1 file) (fits is1 file s r), file-long is1 file s r, banks-many is1 file s r, h)

pub write_head-head-requires : goal.write_head-head-requires
write_head-head-requires c =
    omega (arith, room _ _ _ c.requires.read c.requires.file_in_bounds)

pub write_fields-end-requires-clause-keep_in_bounds : goal.write_fields-end-requires-clause-keep_in_bounds
write_fields-end-requires-clause-keep_in_bounds c =
    omega (arith, sizes is1 _ _ c.requires.read)

pub slice_bounds-write_word-count : goal.slice_bounds-write_word-count
slice_bounds-write_word-count c =
    omega (arith, sizes is1 _ _ c.requires.read)

pub slice_bounds-write_word-start : goal.slice_bounds-write_word-start
slice_bounds-write_word-start c =
    omega (arith, sizes is1 _ _ c.requires.read)

pub write_fields-end-requires-clause-behind_in_bounds : goal.write_fields-end-requires-clause-behind_in_bounds
write_fields-end-requires-clause-behind_in_bounds c =
    omega (arith, sizes is1 _ _ c.requires.read, room _ _ _ c.requires.read c.requires.file_in_bounds)

pub write_word-requires : goal.write_word-requires
write_word-requires c =
    omega (arith, sizes is1 _ _ c.requires.read, room _ _ _ c.requires.read c.requires.file_in_bounds, tail-long c.args.file.now (c.args.shape.banks * 26))

pub returns : goal.returns
returns c =
    let all : Writes (lengthened_pieces c.args.file.now c.args.shape) c.args.out.now 0 c.write_word.result c.write_word.new.out =
    writes_then c.write_head-head.ensures.writes (writes_then c.write_fields-end.ensures.writes c.write_word.ensures) in
    subst (λ (l : List ℕ). Writes l c.args.out.now 0 c.write_word.result c.write_word.new.out)
    (lengthened-is c.args.file.now c.args.shape c.requires.read) all
