-- `put_build` meets its contract: what the contract of the file's build says is what `put_answer` asks and puts.
use mathlib.Core.Path.{◌∙◌}
use Prim.Native.Nat.{ℕ, ◌<◌}
use lib.ListN.{get_or}
use Rattle.form_build.specs.Filed.{FileBuilt}
use Rattle.output.specs.Output.{Lent, lent}
use Rattle.print_report.specs.Laws.Built.{file-fits, text-built-by}
use Rattle.print_records.specs.Text.{done_text, records_text}
use Rattle.print_records.proofs.put_build.Goals as goal

pub put_answer-requires-clause-fitting : goal.put_answer-requires-clause-fitting
put_answer-requires-clause-fitting c =
    let old : Lent =
    lent c.args.image.now c.args.addresses.now c.args.offsets.now c.args.sizes.now in
    -- what the build left
    let new : Lent =
    lent c.build_file-answer.new.image c.build_file-answer.new.addresses c.build_file-answer.new.offsets c.build_file-answer.new.sizes in
    -- a byte of the file is below 256
    let bytes : (i : ℕ) → get_or c.args.file.now i 0 < 256 =
    λ i. (c.shared_slice_known-1.given i).fits in
    let built : FileBuilt c.args.file.now c.args.fill c.args.page (old) c.build_file-answer.result (new) =
    c.build_file-answer.ensures in
    file-fits c.args.file.now c.args.fill c.args.page (bytes) (old) c.requires.image_len c.requires.addresses_len c.requires.offsets_len c.requires.sizes_len
    c.build_file-answer.result (new) (built)
    (c.image-1.given ∙ c.requires.image_len)
    (c.offsets-1.given ∙ c.requires.offsets_len)
    (c.sizes-1.given ∙ c.requires.sizes_len)

pub returns : goal.returns
unfolding records_text
returns c =
    let old : Lent =
    lent c.args.image.now c.args.addresses.now c.args.offsets.now c.args.sizes.now in
    -- what the build left
    let new : Lent =
    lent c.build_file-answer.new.image c.build_file-answer.new.addresses c.build_file-answer.new.offsets c.build_file-answer.new.sizes in
    -- a byte of the file is below 256
    let bytes : (i : ℕ) → get_or c.args.file.now i 0 < 256 =
    λ i. (c.shared_slice_known-1.given i).fits in
    let built : FileBuilt c.args.file.now c.args.fill c.args.page (old) c.build_file-answer.result (new) =
    c.build_file-answer.ensures in
    let same = text-built-by c.args.file.now c.args.fill c.args.page (bytes) (old) c.requires.image_len c.requires.addresses_len c.requires.offsets_len c.requires.sizes_len
    c.build_file-answer.result (new) (built) (λ k. done_text c.args.wanted) in
    rw (← same) c.put_answer.ensures
