-- Going on from offer to offer: a sound store is sound after every offer within the limits, and holds what the definition says. With these a
-- caller makes every offer by the way that does not check the whole store again.
use Rattle.std.specs.Prelude.{◌≡◌, ℕ, length, Err}
use Rattle.std.proofs.Common.{sym, ap, ◌∙◌, subst, arith}
use Rattle.prelude.specs.Limits.{max_stored}
use Rattle.prelude.specs.Verdict.{Verdict, Accepted}
use Rattle.overlap_checker.specs.declared.Entry.{Entry}
use Rattle.overlap_checker.specs.Interval.{Within}
use Rattle.overlap_checker.specs.Stored.{first_fault}
use Rattle.overlap_checker.specs.Marks.{first_mark_fault}
use Rattle.overlap_checker.specs.State.{answer, after}
use Rattle.overlap_checker.specs.Lent.{Lent, zipped, state_in, Sound, laid_into, leaving}
use Rattle.overlap_checker.specs.Lent.{Offers}
use Rattle.overlap_checker.specs.Theorems.Answers.{refused-keeps}
use Rattle.overlap_checker.specs.Laws.Laid.{state-laid}
use Rattle.overlap_checker.proofs.GoingLaws.{fits_after, fits_in, laid-again, sound-laid}

-- ---- one offer

module _ (a : Lent) (e : Entry) (node : ℕ) (v : Verdict) (b : Lent) (s : Sound a) (o : Offers a e node v b) where
  -- What is lent afterwards, accepted or refused, is the state after the offer, laid into what was lent.
  pub left_is : b ≡ laid_into a (after (state_in a) e)
  left_is = go v o.verdict o.left
    where
      go : (w : Verdict) → w ≡ answer (state_in a) e node → b ≡ leaving w (laid_into a (after (state_in a) e)) a
          → b ≡ laid_into a (after (state_in a) e)
      go Accepted is left = left
      go (Err why) is left = left ∙ sym (ap (laid_into a) (refused-keeps (state_in a) e node why (sym is)) ∙ laid-again a s)

  -- It holds the state after the offer.
  pub state-after : state_in b ≡ after (state_in a) e
  state-after = ap state_in left_is ∙ state-laid a (after (state_in a) e)

  -- It is sound again.
  pub sound-after : Within e → Sound b
  sound-after within =
      subst Sound (sym left_is) (sound-laid a (after (state_in a) e) s.wide s.long s.broad (fits_after (state_in a) e within (fits_in a s)))

pub sound_none : (a : Lent) → length a.positions ≡ max_stored → length a.sizes ≡ max_stored → length a.marks ≡ max_stored
    → a.count ≡ 0 → a.mark_count ≡ 0 → Sound a
unfolding zipped first_fault first_mark_fault
sound_none a wide long broad none bare =
    record {
      few = omega arith;
      wide = wide;
      long = long;
      faultless = rw none;
      few_marks = omega arith;
      broad = broad;
      orderly = rw bare;
    }
