-- `dk_offer` says its sentence: the store's call, told in numbers. The arrays are as long as their types say.
use Rattle.meets_store.specs.Theorems.Meets.{offer-meets}
use Rattle.denkumari.proofs.StoreLaws.{told-call}
use Rattle.denkumari.proofs.stores.dk_offer.Goals as goal

pub returns : goal.returns
returns c =
    offer-meets _ _ _ _ _ _ (record {
      positions = c.first-2-1.given;
      sizes = c.second-2-1.given;
      marks = c.third-2-1.given;
    }) (told-call _ _ _ _ _ _ _ _ _ c.check_and_insert-offered.ensures c.tell_offer.ensures)
