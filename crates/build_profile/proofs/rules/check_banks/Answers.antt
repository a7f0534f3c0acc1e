-- The first bank that does not keep the rule is named.
use Rattle.std.proofs.Common.{◌≡◌, sym, ◌∙◌, not, Bool, length, arith, rules, tests}
use Rattle.std.specs.List.{position}
use Rattle.std.proofs.lemmas.Iterator.{YieldsList-from_slice}
use Rattle.std.proofs.lemmas.Iterator.Search.{position_from_yields_List}
use lib.ListN.{length-take}
use Rattle.bankdef.specs.Check.{no_bank, banks_of}
use Rattle.bankdef.specs.declared.Bankdef.{Bankdef}
use Rattle.build_profile.specs.Steps.{bank_keeps}
use Rattle.build_profile.proofs.Searches.{none-breaks, first-breaks}
use Rattle.build_profile.proofs.rules.check_banks.Goals.{After-position}
use Rattle.build_profile.proofs.rules.check_banks.Goals as goal

abbrev keeps : After-position → Bankdef → Bool
keeps c b = bank_keeps c.args.rule c.args.page b

found : (c : After-position) → c.position.result ≡ position (λ b. not (keeps c b)) (banks_of c.args.banks)
found c =
    position_from_yields_List (λ b. not (keeps c b)) _ _ c.position.result c.position.ensures.ran (YieldsList-from_slice _ c.iter.ensures.rest)
    (λ x b q k. search (rules, tests))

listed : (c : After-position) → c.args.banks.len ≡ length (banks_of c.args.banks)
listed c = omega (arith, length-take c.args.banks.len c.args.banks.defs, c.well_formed.0.1.1.0.1.0.1)

pub returns-in-Some : goal.returns-in-Some
returns-in-Some c =
    let at = (goal.at.returns-in-Some c).After-position in
    c.off_profile.ensures
    ∙ sym (first-breaks (keeps at) (banks_of c.args.banks) no_bank c.args.rule c.args.banks.len (listed at) c.in-Some.i (sym (found at) ∙ c.in-Some.is))

pub returns-in-None : goal.returns-in-None
returns-in-None c =
    let at = (goal.at.returns-in-None c).After-position in
    sym (none-breaks (keeps at) (banks_of c.args.banks) no_bank c.args.rule c.args.banks.len (listed at) (sym (found at) ∙ c.in-None.is))
