-- The text of blocks, written in a format into a buffer in which every file of theirs fits.
use Rattle.std.specs.Prelude.{Bool, ◌&&◌, ◌||◌, List, ◌≡◌, ℕ, ◌+◌, ◌*◌, ◌/◌, ◌≤◌, eqb, length, Result, Ok, Err}
use Rattle.prelude.specs.Pick.{pick}
use Rattle.prelude.specs.declared.Refusal.{Refusal}
use Rattle.prelude.specs.declared.Refusal.TheVariants.{Malformed, BadPart}
use Rattle.blocks.specs.declared.Block.{Block}
use Rattle.prog_args.specs.Text.{Stands}
use Rattle.record_write.specs.Srec.{width_ok}
use Rattle.record_write.specs.Checks.{all_parts, all_placed}
use Rattle.record_write.specs.Text.{text_of}

-- A format is 0, Intel HEX, or the width of S-records' addresses, which none of them is past.
abbrev pub format_ok : ℕ → ℕ → List Block → Bool
format_ok format load blocks = eqb format 0 || width_ok format load blocks

-- Document 02, Ticket 1: "Refusals: 16 for a block by document 01's rule, 4 for blocks not ascending or sharing a bit, an address past 2^32 - 1";
-- Ticket 12: "4 also for an address that doesn't fit the width". There is room for every file, so that 14 is not given. What is said of a refusal is the
-- program's own.
unfoldable pub records_or : (Refusal → List ℕ) → ℕ → ℕ → List ℕ → List Block → List ℕ
records_or say format load image blocks =
    pick (all_parts (length image) blocks)
    (pick (format_ok format load blocks && all_placed load blocks) (text_of format load image blocks) (say (Malformed 0)))
    (say BadPart)

-- What a call that writes the records of blocks leaves: all of them at the front, or why not, and nothing changed.
abbrev pub PutsOr : (Refusal → List ℕ) → ℕ → ℕ → List ℕ → List Block → List ℕ → Result ℕ Refusal → List ℕ → Type 0
PutsOr say format load image blocks old (Ok n) new = Stands (records_or say format load image blocks) old n new
PutsOr say format load image blocks old (Err why) new = (records_or say format load image blocks ≡ say why) × (new ≡ old)

-- Room for every file of so many bytes in so many blocks, by `Room.records-length`.
abbrev pub HasRoom : ℕ → ℕ → ℕ → Type 0
HasRoom bytes blocks room = 47 * bytes + 225 * blocks + 496 * (bytes / 65536 + 2) ≤ 16 * room
