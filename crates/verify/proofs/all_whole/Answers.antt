-- `all_whole` meets its contract: the definition goes over the same pairs.
use Rattle.std.proofs.Common.{sym, ◌∙◌, rules, tests}
use Rattle.std.proofs.lemmas.Iterator.{YieldsList-from_slice, YieldsList-from_zip}
use Rattle.std.proofs.lemmas.Iterator.Search.{all_from_yields_List}
use Rattle.verify.specs.Whole.{whole}
use Rattle.verify.proofs.Cursors.{whole-pairs}
use Rattle.verify.proofs.all_whole.Goals as goal

pub returns : goal.returns
returns c =
    let a = c.args in
    all_from_yields_List (λ p. whole a.bytes p.0 p.1) c.all.new.self _ _ c.all.ensures.ran
    (YieldsList-from_zip (YieldsList-from_slice a.offsets.now (cc)) (YieldsList-from_slice a.sizes.now (cc))) (λ x b q k. search (rules, tests))
    ∙ sym (whole-pairs a.bytes a.offsets.now a.sizes.now)
