-- What `dk_record_extent` says, from document 02, Tickets 1 and 12, in the words of `dk_read_records`: where the bytes of a file stand.
use Rattle.std.specs.Prelude.{List, ℕ, ◌+◌, ◌≤◌}
use Rattle.record_lines.specs.Pieces.{Piece}
use Rattle.c_answers.specs.declared.DkExtent.{DkExtent}
use Rattle.says.specs.Words.{First, Not}
use Rattle.says.specs.Read.{GivenTo, Good}

abbrev pub told : ℕ → ℕ → ℕ → DkExtent
told refusal lowest end = record { refusal = refusal; lowest = lowest; end = end }

-- The file is read from load address 0, so that no byte is "below the load address". Beside the answer stands the lent scratch afterwards: the call "leaves it
-- as it was" (include/denkumari.h)
module _ (format : ℕ) (text scratch : List ℕ) where
  pub data ExtentSays : DkExtent × List ℕ → Type 0 where
    -- "4 for .. a bad file"
    bad : ((ps : List Piece) → Not (Good format 0 text ps)) → ExtentSays (told 4 0 0, scratch)
    no_byte : {ps : List Piece} → Good format 0 text ps → ((a : ℕ) → Not (GivenTo ps a)) → ExtentSays (told 0 0 0, scratch)
    -- the lowest address that it gives a byte to, and the one behind the highest
    from-to : {ps : List Piece} {lowest highest : ℕ} → Good format 0 text ps → First (GivenTo ps) lowest → GivenTo ps highest
        → ((a : ℕ) → GivenTo ps a → a ≤ highest) → ExtentSays (told 0 lowest (highest + 1), scratch)
