-- `next_agreement` meets its contract: a search for the first pair of bytes that are alike.
use Rattle.std.proofs.Common.{◌≡◌, ◌+◌, true, false, not, eqb, refl, ap, ◌∙◌, rules, tests}
use Rattle.std.specs.List.{between}
use Rattle.std.proofs.lemmas.Iterator.{IsFirst-from_position, YieldsList-from_slice, YieldsList-from_zip}
use Rattle.overlay.proofs.RunLaws.{place-found}
use Rattle.overlay.proofs.Images.next_agreement.Goals as goal

pub returns : goal.returns
returns c =
    let a = c.args in
    ap (λ n. a.at + n)
    (c.unwrap_or.ensures
    ∙ place-found not false refl refl a.self.now.overlay.now a.self.now.released.now a.at a.self.now.to c.requires a.self.now.overlaid a.self.now.issued c.position.result
    (IsFirst-from_position c.position.new.self _ _ (λ x. eqb x.0 x.1 ≡ true) (λ x. eqb x.0 x.1 ≡ false) c.position.ensures.ran
    (YieldsList-from_zip (YieldsList-from_slice (between a.at a.self.now.to a.self.now.overlay.now) cc) (YieldsList-from_slice (between a.at a.self.now.to a.self.now.released.now) cc))
    (λ x q k. search (rules, tests)) (λ x q k. search (rules, tests))))
