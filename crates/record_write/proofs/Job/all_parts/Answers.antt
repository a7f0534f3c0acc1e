-- `record_write::all_parts`: every pair of an offset and a size is tested.
use Rattle.std.proofs.Common.{ℕ, length, ◌∙◌, rules, tests}
use Rattle.std.proofs.lemmas.Iterator.{YieldsList-from_slice, YieldsList-from_zip}
use Rattle.std.proofs.lemmas.Iterator.Search.{all_from_yields_List}
use Rattle.bitvec.specs.Part.{is_part}
use Rattle.record_write.proofs.BlockList.{parts-all}
use Rattle.record_write.proofs.Job.all_parts.Goals as goal

pub returns : goal.returns
returns c =
    let a = c.args.self.now in
    all_from_yields_List (λ (p : ℕ × ℕ). is_part (length a.image.now) p.0 p.1) c.all.new.self _ c.all.result c.all.ensures.ran
    (YieldsList-from_zip (YieldsList-from_slice a.offsets.now cc) (YieldsList-from_slice a.sizes.now cc))
    (λ x b q k. search (rules, tests))
    ∙ parts-all (length a.image.now) a.offsets.now a.sizes.now
