-- A form 1 file with one bank, converted. Document 02, Ticket 13: "The converter to form 2 gives every one-bank file a bank 1 with bank 0's record .. The
-- converted file gives the same image and blocks; node numbers in places rise by one."
use Rattle.std.specs.Prelude.{List, [], ◌∷◌, ℕ}
use Rattle.form_fields.specs.Contents.{Contents}

-- ---- a file with one bank

abbrev pub holding : List ℕ → List (List ℕ) → List (List ℕ) → List ℕ → ℕ → Contents
holding b nodes rows values limit = record { banks = b ∷ []; nodes = nodes; rows = rows; values = values; limit = limit }
