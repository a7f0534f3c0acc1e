-- What a layout's answer tells, K and passes run, with the refusals before any pass.
use Rattle.std.specs.Prelude.{ℕ, ◌≡◌, refl, Ok, Err}
use Rattle.std.proofs.Common.{arith}
use Rattle.prelude.specs.Verdict.{Verdict, Accepted}
use Rattle.bankdef.specs.Check.{check_of}
use Rattle.bankdef.specs.declared.Bankdefs.{Bankdefs}
use Rattle.resolver.specs.Layout.{unless, layout_of}
use Rattle.nodes.specs.Lists.{Lists, lists_of}
use Rattle.resolver.specs.Passes.{pass_at, resolution_of}
use Rattle.resolver.proofs.Run.{Counted, accepted-passes}
use Rattle.resolver.specs.declared.Choices.{Choices}
use Rattle.resolver.specs.declared.Resolution.{Resolution}

-- what is refused before any pass has run none, and tells no K
unless-told : (v : Verdict) (r : Resolution) {k : ℕ} → (unless v r).settled ≡ Ok k → unless v r ≡ r
unless-told Accepted r e = refl
unless-told (Err why) r e = cc

unless-accepts : (v : Verdict) (r : Resolution) {k : ℕ} → (unless v r).settled ≡ Ok k → v ≡ Accepted
unless-accepts Accepted r e = refl
unless-accepts (Err why) r e = absurd (let z : ◌≡◌ {A = ℕ} 0 1 = cc in let b : ⊥ = omega arith in b)

-- The same of the layout's answer, whose passes are those of its rows.
module _ (banks : Bankdefs) (l : Lists) (choices : Choices) where
  pub accepted-layout : (k : ℕ) → (layout_of banks l choices).settled ≡ Ok k → Counted (pass_at banks l) choices.limit k (layout_of banks l choices)
  unfolding layout_of
  accepted-layout k e =
      let a = unless-told (check_of banks) (unless (lists_of banks.len l choices.fill) (resolution_of banks l choices.limit)) e in
      let f : (unless (lists_of banks.len l choices.fill) (resolution_of banks l choices.limit)).settled ≡ Ok k = rw a at e in
      let b = unless-told (lists_of banks.len l choices.fill) (resolution_of banks l choices.limit) f in
      let g : (resolution_of banks l choices.limit).settled ≡ Ok k = rw b at f in
      rw (a, b) (accepted-passes (pass_at banks l) choices.limit k g)

  -- an accepted layout's lists and banks pass their checks, whatever the limit and whether bank 0 may be used alone
  pub layout-passes :
      (k : ℕ)
      → (layout_of banks l choices).settled ≡ Ok k
      → (others : Choices)
      → others.fill ≡ choices.fill
      → layout_of banks l others ≡ resolution_of banks l others.limit
  unfolding layout_of
  layout-passes k e others same =
      let c = unless-accepts (check_of banks) (unless (lists_of banks.len l choices.fill) (resolution_of banks l choices.limit)) e in
      let f : (unless (lists_of banks.len l choices.fill) (resolution_of banks l choices.limit)).settled ≡ Ok k = rw c at e in
      let d = unless-accepts (lists_of banks.len l choices.fill) (resolution_of banks l choices.limit) f in
      rw (c, same, d)
