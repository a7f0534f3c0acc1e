-- `record_write::line::sum`: the low byte of the sum.
use Rattle.std.proofs.Common.{ℕ, ◌+◌, ◌%◌, ◌∙◌, rules}
use Rattle.std.proofs.lemmas.Iterator.{YieldsList-from_slice}
use Rattle.std.proofs.lemmas.Iterator.Consumers.{fold_from_yields_List}
use Rattle.record_write.proofs.LineLaws.{folded}
use Rattle.record_write.proofs.line.sum.Goals as goal

pub returns : goal.returns
returns c =
    fold_from_yields_List _ (λ (s b : ℕ). (s + b) % 256) 0 c.fold.result c.fold.ensures.ran (YieldsList-from_slice c.args.bytes.now cc)
    (λ a x b q k. search rules)
    ∙ folded c.args.bytes.now
