-- Laws that Theorems/Alone rests on.
use Rattle.std.specs.Prelude.{refl, ◌≤◌, length}
use Rattle.std.proofs.Common.{arith}
use Rattle.form_fields.specs.Kind.{form1, form2}
use Rattle.form_fields.specs.Contents.{bytes16, field, flat, written, Fits}
use Rattle.form_rewrite.specs.Turning.{to_form1}
use Rattle.thm_conversions.specs.Alone.{reserve}

pub reserve-fits : Fits form2 reserve
reserve-fits = record { of-banks = ((refl, refl), tt); of-nodes = (refl, tt); of-rows = (refl, tt) }

pub reserve-short : length (written form2 reserve) ≤ form2.longest
unfolding written flat field bytes16
reserve-short = omega arith

pub back-short : length (written form1 (to_form1 reserve)) ≤ form1.longest
unfolding written flat field bytes16
back-short = omega arith
