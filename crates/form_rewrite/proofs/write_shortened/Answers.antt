-- `form_rewrite::write_shortened` meets its contract: the banks, and the file from its nodes on.
use Prim.Native.Nat.{ℕ, ◌+◌, ◌*◌, ◌≤◌}
use mathlib.Core.List.{List}
use mathlib.Core.Path.{subst}
use native.Mathlib.Omega.{arith}
use lib.ListN.{length}
use Rattle.form_fields.specs.declared.Shape.{Shape}
use Rattle.form_fields.specs.Kind.{form1, form2, is2}
use Rattle.form_fields.specs.Contents.{written}
use Rattle.form_rewrite.specs.Fitting.{Read}
use Rattle.form_rewrite.specs.Turning.{shortened}
use Rattle.form_fields.specs.Whole.{contents_in}
use Rattle.form_rewrite.specs.Laws.Fitting.{shortened-long}
use Rattle.print_text.specs.Puts.{Writes}
use Rattle.print_text.specs.Laws.Sets.{writes_then}
use Rattle.form_rewrite.specs.Laws.Sizes.{sizes, fits, file-long, banks-many}
use Rattle.form_rewrite.proofs.Assembled.{tail-long}
use Rattle.form_rewrite.proofs.Back.{shortened_pieces, shortened-is}
use Rattle.form_rewrite.proofs.write_shortened.Goals as goal

-- the room for what is written
room : (file : List ℕ) (s : Shape) (out : ℕ) → Read form2 file s → length (written form1 (shortened (contents_in form2 file))) ≤ out
    → length file ≤ out + 4 + s.banks
room file s out r h =
    omega (arith, shortened-long (contents_in form2 file) (fits is2 file s r), file-long is2 file s r, banks-many is2 file s r, h)

pub write_fields-end-requires-clause-keep_in_bounds : goal.write_fields-end-requires-clause-keep_in_bounds
write_fields-end-requires-clause-keep_in_bounds c =
    omega (arith, sizes is2 _ _ c.requires.read)

pub overflow_mul-banks : goal.overflow_mul-banks
overflow_mul-banks c =
    omega (arith, sizes is2 _ _ c.requires.read)

pub overflow_add-banks : goal.overflow_add-banks
overflow_add-banks c =
    omega (arith, sizes is2 _ _ c.requires.read)

pub slice_bounds-write_word-count : goal.slice_bounds-write_word-count
slice_bounds-write_word-count c =
    omega (arith, sizes is2 _ _ c.requires.read)

pub slice_bounds-write_word-start : goal.slice_bounds-write_word-start
slice_bounds-write_word-start c =
    omega (arith, sizes is2 _ _ c.requires.read)

pub write_fields-end-requires-clause-behind_in_bounds : goal.write_fields-end-requires-clause-behind_in_bounds
write_fields-end-requires-clause-behind_in_bounds c =
    omega (arith, sizes is2 _ _ c.requires.read, room _ _ _ c.requires.read c.requires.file_in_bounds)

pub write_word-requires : goal.write_word-requires
write_word-requires c =
    omega (arith, sizes is2 _ _ c.requires.read, room _ _ _ c.requires.read c.requires.file_in_bounds, tail-long c.args.file.now (4 + c.args.shape.banks * 27))

pub returns : goal.returns
returns c =
    let all : Writes (shortened_pieces c.args.file.now c.args.shape) c.args.out.now 0
    c.write_word.result c.write_word.new.out =
    writes_then c.write_fields-end.ensures.writes c.write_word.ensures in
    subst (λ (l : List ℕ). Writes l c.args.out.now 0 c.write_word.result c.write_word.new.out)
    (shortened-is c.args.file.now c.args.shape c.requires.read) all
