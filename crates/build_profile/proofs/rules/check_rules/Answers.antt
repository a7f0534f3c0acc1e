-- Each rule in its place.
use mathlib.Core.Path.{◌∙◌, ap₂}
use Rattle.nodes.specs.Lists.{first_of}
use Rattle.build_profile.specs.Rules.{rules_of}
use Rattle.build_profile.proofs.rules.check_rules.Goals as goal

pub returns : goal.returns
unfolding rules_of
returns c =
    c.earlier-4.ensures ∙ ap₂ first_of c.check_page-size.ensures
    (c.earlier-3.ensures ∙ ap₂ first_of c.check_banks-labels.ensures
    (c.earlier-2.ensures ∙ ap₂ first_of c.check_aligns-aligns.ensures
    (c.earlier-placed.ensures ∙ ap₂ first_of c.check_banks-offsets.ensures
    (c.earlier.ensures ∙ ap₂ first_of c.check_banks-sizes.ensures
    (c.earlier-last.ensures ∙ ap₂ first_of c.check_banks-units.ensures c.check_addrs-addrs.ensures)))))
