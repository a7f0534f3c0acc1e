-- `print_text::write_word` meets its contract: the part of the buffer that the word takes is the word.
use mathlib.Core.Path.{refl}
use native.Mathlib.Omega.{arith}
use Rattle.print_text.proofs.Part.{part-sets}
use Rattle.print_text.proofs.write_word.Goals as goal

pub returns : goal.returns
returns c =
    record { place = refl; buffer = part-sets c.args.out.now c.args.word.now _ c.args.at _ c.requires c.copy_from_slice.ensures.after (omega arith) }
