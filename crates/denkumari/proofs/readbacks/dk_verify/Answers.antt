-- `dk_verify` says its sentence: the answer, told in numbers.
use Rattle.meets_verify.specs.Theorems.Verify.{verify-meets}
use Rattle.denkumari.proofs.readbacks.dk_verify.Goals as goal

pub returns : goal.returns
returns c =
    verify-meets _ _ _ _ _ _ _ _ _ _ _ _ _ _ c.tell_listed.ensures c.compare.ensures
