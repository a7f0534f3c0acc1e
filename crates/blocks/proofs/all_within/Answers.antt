-- `all_within` meets its contract: std's test of all pairs is the definition's.
use Rattle.std.proofs.Common.{◌∙◌, ℕ, rules, tests}
use Rattle.std.proofs.lemmas.Iterator.{YieldsList-from_slice, YieldsList-from_zip}
use Rattle.std.proofs.lemmas.Iterator.Search.{all_from_yields_List}
use Rattle.blocks.specs.Spans.{span, within}
use Rattle.blocks.proofs.Laws.{within-pairs}
use Rattle.blocks.proofs.all_within.Goals as goal

pub returns : goal.returns
returns c =
    let a = c.args in
    let pairs = YieldsList-from_zip (YieldsList-from_slice a.offsets.now cc) (YieldsList-from_slice a.sizes.now cc) in
    all_from_yields_List (λ (p : ℕ × ℕ). within (span p.0 p.1)) c.all.new.self _ c.all.result c.all.ensures.ran pairs (λ x b q k. search (rules, tests))
    ∙ within-pairs a.offsets.now a.sizes.now
