-- Of a store call: "Each refusal .. changes nothing lent. A returned state is the state given." From the sentences alone.
use Rattle.std.specs.Prelude.{◌≡◌, refl}
use Rattle.overlap_checker.specs.declared.Entry.{Entry}
use Rattle.says.specs.Words.{refused, passed}
use Rattle.says.specs.Store as w
use Rattle.says.specs.Words.{Not}
use Rattle.says.specs.Store.{Store, Outcome, OfferSays}
use Rattle.says.specs.Offers.{handed}

-- A call that is refused hands the store back as it was: the three arrays, to the last place, and both counts.
pub refused-changes-nothing : {s : Store} {e : Entry} {y : Outcome} → OfferSays s e y → Not (y.answer.refusal ≡ 0) → handed y ≡ s
refused-changes-nothing (refused x m) some = refl
refused-changes-nothing (passed n (refused i m)) some = refl
refused-changes-nothing (passed n (passed o (refused i m))) some = refl
refused-changes-nothing (passed n (passed o (passed p (refused x m)))) some = refl
refused-changes-nothing (passed n (passed o (passed p (passed q (w.overlaps x m))))) some = refl
refused-changes-nothing (passed n (passed o (passed p (passed q (w.full x m))))) some = refl
refused-changes-nothing (passed n (passed o (passed p (passed q (w.stored x m k i f g))))) some = absurd (some refl)
refused-changes-nothing (passed n (passed o (passed p (passed q (w.marked x m k i f))))) some = absurd (some refl)
