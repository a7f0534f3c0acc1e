-- Theorems about what Facts defines.
use Rattle.std.specs.Prelude.{◌≡◌, refl, true, List, ℕ, ◌≤◌, length, Result}
use Rattle.std.proofs.Common.{sym, ap, ◌∙◌, le-leb, leb-true}
use Rattle.prelude.specs.Laws.Bools.{unlike}
use Rattle.prelude.specs.Told.{gives}
use Rattle.prelude.specs.declared.Refusal.{Refusal}
use Rattle.blocks.specs.Theorems.Exactly.{room-exactly}
use Rattle.blocks.specs.Outcome.{ToldBy}
use Rattle.record_lines.specs.Pieces.{Piece}
use Rattle.record_scan.specs.Reading.{Read, sound, faulty}
use Rattle.record_read.specs.Runs.{reach, blocks_given}
use Rattle.record_read.specs.Outcome.{Lent, bytes_fit, blocks_fit, told_of, taken, lent_after, Reads}
use Rattle.record_read.specs.Facts.{Good}
use Rattle.record_read.specs.Laws.Facts.{is_found}

module _ (load : ℕ) (old : Lent) where
  abbrev pub Enough : List Piece → Type 0
  Enough pieces = reach load pieces ≤ length old.bytes

  abbrev pub EnoughPlaces : List Piece → Type 0
  EnoughPlaces pieces = (length (blocks_given load pieces) ≤ length old.offsets) × (length (blocks_given load pieces) ≤ length old.sizes)

  told-found : (read : Read) (n : ℕ) → told_of load old read ≡ gives n → Good read (λ l. Enough l × EnoughPlaces l × (n ≡ length (blocks_given load l)))
  told-found (sound l) n e =
      let t = is_found (bytes_fit load l old) (blocks_fit load l old) (length (blocks_given load l)) n e in
      (l, refl, (leb-true (reach load l) (length old.bytes) t.0, (room-exactly (blocks_given load l) old.offsets old.sizes).0 t.1, t.2))
  told-found (faulty line) n e = unlike cc

  module _ (read : Read) (r : Result ℕ Refusal) (new : Lent) (c : Reads load read old r new) where
    -- Accepted: the file is good and there is room for all of it; its blocks are counted.
    pub found-good : (n : ℕ) → ToldBy r ≡ gives n → Good read (λ l. Enough l × EnoughPlaces l × (n ≡ length (blocks_given load l)))
    found-good n e = told-found read n (sym c.figures ∙ e)

    module _ (pieces : List Piece) (good : read ≡ sound pieces) where
      room : Enough pieces → EnoughPlaces pieces → (bytes_fit load pieces old ≡ true) × (blocks_fit load pieces old ≡ true)
      room b p = (le-leb (reach load pieces) (length old.bytes) b, (room-exactly (blocks_given load pieces) old.offsets old.sizes).1 p)

      -- and what is lent afterwards
      pub found_after : Enough pieces → EnoughPlaces pieces → new ≡ taken load pieces old
      found_after b p = let t = room b p in c.after ∙ ap (lent_after load old) good ∙ rw (t.0, t.1)
