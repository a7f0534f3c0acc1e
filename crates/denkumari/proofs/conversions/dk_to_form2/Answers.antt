-- `dk_to_form2` says its sentence: the conversion, told in numbers. A file holds bytes.
use Rattle.meets_convert.specs.Theorems.Meets.{to-form2-meets}
use Rattle.denkumari.proofs.ConversionLaws.{way-told}
use Rattle.denkumari.proofs.conversions.dk_to_form2.Goals as goal

pub returns : goal.returns
returns c =
    to-form2-meets _ _ (λ i. (c.shared_slice_known-1.given i).fits) _ _
    (way-told c.tell_conversion.ensures c.to_form2.ensures.to_form2)
