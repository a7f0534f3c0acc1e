-- `record_srec_line::known_line`: a sound line by its type.
use Rattle.record_srec_line.specs.Laws.Lines.{sound-long, item-sound}
use Rattle.record_srec_line.proofs.known_line.Goals as goal

pub returns : goal.returns
returns c spells sound =
    rw (item-sound _ _ sound, ← c.char_at-digit.ensures) (c.typed_line.ensures spells (sound-long _ sound))
