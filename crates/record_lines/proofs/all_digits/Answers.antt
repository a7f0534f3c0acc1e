use Rattle.std.proofs.Common.{◌∙◌, rules, tests}
use Rattle.std.proofs.lemmas.Iterator.{YieldsList-from_slice}
use Rattle.std.proofs.lemmas.Iterator.Adapters.{YieldsList-from_skip}
use Rattle.std.proofs.lemmas.Iterator.Search.{all_from_yields_List}
use Rattle.record_lines.specs.Digits.{is_digit}
use Rattle.record_lines.proofs.Steps.{digits-all}
use Rattle.record_lines.proofs.all_digits.Goals as goal

pub returns : goal.returns
returns c =
    let line = c.args.line.now in
    all_from_yields_List is_digit _ _ c.all.result c.all.ensures.ran (YieldsList-from_skip c.args.from (YieldsList-from_slice line cc) cc)
    (λ x b q k. search (rules, tests))
    ∙ digits-all _
