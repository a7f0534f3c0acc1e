-- `dk_offers` says its sentence: the store's call, told in numbers. The arrays are as long as their types say.
use Rattle.meets_store.specs.Theorems.Offers.{offers-say}
use Rattle.denkumari.proofs.stores.dk_offers.Goals as goal

pub returns : goal.returns
returns c =
    offers-say _ _ _ _ _ _ _ _ _ _ _ (record {
      positions = c.first-2-1.given;
      sizes = c.second-2-1.given;
      marks = c.third-2-1.given;
    }) c.check_and_insert_each-tried.ensures c.tell_offers.ensures
