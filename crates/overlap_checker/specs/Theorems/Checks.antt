-- What a call on any store tries first, 15 and 4: a law for each way that it goes.
use Rattle.std.specs.Prelude.{◌≡◌, ℕ}
use Rattle.std.proofs.Common.{ap, ◌∙◌}
use Rattle.prelude.specs.Told.{Told, refuses, Nothing, told_verdict}
use Rattle.prelude.specs.declared.Place.TheVariants.{One}
use Rattle.prelude.specs.Verdict.{Verdict}
use Rattle.overlap_checker.specs.declared.Entry.{Entry}
use Rattle.overlap_checker.specs.Interval.{Within}
use Rattle.overlap_checker.specs.State.{answer}
use Rattle.overlap_checker.specs.Lent.{Lent, state_in, Sound, Offers, checks, call_answer, call_figures, Calls}
use Rattle.overlap_checker.specs.Theorems.Ascending.{not-past}
use Rattle.overlap_checker.specs.Theorems.Answers.{told-answer}
use Rattle.overlap_checker.specs.Laws.Checks.{checks-map, checks-passes, sound-fine}

module _ (a : Lent) (e : Entry) where
  -- The answer's number and place are the figures.
  pub told-call : told_verdict (call_answer a e) ≡ call_figures a e
  told-call =
      checks-map a e told_verdict _ _ _
      ∙ ap (λ (t : Told Nothing). checks a e (λ (entry : ℕ). refuses 15 (One entry)) (refuses 4 (One 0)) t) (told-answer (state_in a) e 0)

  -- To a sound store, an offer within the limits is answered as by the way that checks neither.
  pub call-is-offer : Sound a → Within e → call_answer a e ≡ answer (state_in a) e 0
  call-is-offer s w = checks-passes a e _ _ _ (sound-fine a s) (not-past e w)

  pub calls-offers : (v : Verdict) (b : Lent) → Sound a → Within e → Calls a e v b → Offers a e 0 v b
  calls-offers v b s w c =
      let is = c.verdict ∙ call-is-offer s w in
      record { verdict = is; told = ap told_verdict is ∙ told-answer (state_in a) e 0; left = c.left }
