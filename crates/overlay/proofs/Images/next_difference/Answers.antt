-- `next_difference` meets its contract: whole stretches are passed over, then a search for the first pair of bytes that are not alike.
use Rattle.std.proofs.Common.{◌≡◌, ◌+◌, true, false, eqb, refl, sym, ap, ◌∙◌, rules, tests}
use Rattle.std.specs.List.{between}
use Rattle.std.proofs.lemmas.Iterator.{IsFirst-from_position, YieldsList-from_slice, YieldsList-from_zip}
use Rattle.overlay.proofs.RunLaws.{place-found}
use Rattle.overlay.proofs.Images.next_difference.Goals as goal

pub returns : goal.returns
returns c =
    let a = c.args in
    let from = c.skip_same-from.result in
    ap (λ n. from + n)
    (c.unwrap_or.ensures
    ∙ place-found (λ b. b) true refl refl a.self.now.overlay.now a.self.now.released.now from a.self.now.to c.skip_same-from.ensures.within a.self.now.overlaid a.self.now.issued
    c.position.result
    (IsFirst-from_position c.position.new.self _ _ (λ x. eqb x.0 x.1 ≡ false) (λ x. eqb x.0 x.1 ≡ true) c.position.ensures.ran
    (YieldsList-from_zip (YieldsList-from_slice (between from a.self.now.to a.self.now.overlay.now) cc) (YieldsList-from_slice (between from a.self.now.to a.self.now.released.now) cc))
    (λ x q k. search (rules, tests)) (λ x q k. search (rules, tests))))
    ∙ sym c.skip_same-from.ensures.passed
