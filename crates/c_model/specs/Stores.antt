-- The store of placed intervals and marks, as a caller in another language is told of it.
use Rattle.std.specs.Prelude.{◌≡◌}
use Rattle.overlap_checker.specs.declared.Entry.{Entry}
use Rattle.overlap_checker.specs.State.{after}
use Rattle.overlap_checker.specs.Lent.{Lent, state_in, laid_into, leaving, call_answer, call_figures}
use Rattle.c_answers.specs.Stores.{in_figures}
use Rattle.c_answers.specs.declared.DkOffer.{DkOffer}

-- What `dk_offer` promises: the figures of a store call, and everything lent afterwards. "A returned state is the state given": refused, the
-- counts too.
pub record OfferTold (a : Lent) (e : Entry) (r : DkOffer) (b : Lent) : Type 0 where
  pub answer : r ≡ in_figures (call_figures a e) b.count b.mark_count
  pub left : b ≡ leaving (call_answer a e) (laid_into a (after (state_in a) e)) a
