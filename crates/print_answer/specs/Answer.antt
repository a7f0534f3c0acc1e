-- What the program prints of a build's answer (document 01: "The program `layout` reads form 1 .. and lends 16,384 image bytes, 4,096 spans and
-- 4,096 blocks"), and what stands between the two: the answer, with the image and the spans in what was lent for them.
use Rattle.std.specs.Prelude.{true, List, ◌≡◌, ℕ, ◌*◌, ◌≤◌, length, take, Err, Ok, Result}
use Rattle.bitvec.specs.HexDigits.{hex_of}
use Rattle.blocks.specs.Spans.{spans_of, acceptable}
use Rattle.blocks.specs.Walk.{blocks_of}
use Rattle.blocks.specs.Outcome.{origins, sizes}
use Rattle.print_text.specs.Lines.{refusal_text, layout_text}
use Rattle.output.specs.declared.Built.{Built}
use Rattle.prelude.specs.declared.Refusal.{Refusal}

-- "lends 16,384 image bytes"
abbrev pub image_room : ℕ
image_room = 16384

-- "Output: passes 1, block 0 10, block 20 10, image ffc002a800": K, the blocks of the spans, the image's bits in hex. There is room for
-- 4,096 blocks and for every digit, and spans of a file's layout are within an offer's limits, so neither call is refused.
abbrev pub done_text : ℕ → ℕ → List ℕ → List ℕ → List ℕ → List ℕ
done_text k bits offsets sized image =
    layout_text k (length (blocks_of (spans_of offsets sized))) (origins (blocks_of (spans_of offsets sized)))
    (sizes (blocks_of (spans_of offsets sized))) (hex_of image bits)

-- An accepted build's bits and spans fit what was lent, and the image the program's room; the spans are within an offer's limits.
abbrev pub Fitting : Result Built Refusal → List ℕ → List ℕ → List ℕ → Type 0
Fitting (Err why) image offsets sized = Unit {0}
Fitting (Ok ended) image offsets sized =
    (ended.length ≤ 8 * length image) × (ended.length ≤ 8 * image_room) × (ended.spans ≤ length offsets) × (ended.spans ≤ length sized)
    × (acceptable (take ended.spans offsets) (take ended.spans sized) ≡ true)

-- The text, from the spans at the front of the lent lists.
abbrev pub answered_by : (ℕ → ℕ → List ℕ → List ℕ → List ℕ → List ℕ) → Result Built Refusal → List ℕ → List ℕ → List ℕ → List ℕ
answered_by done (Err why) image offsets sized = refusal_text why
answered_by done (Ok ended) image offsets sized = done ended.k ended.length (take ended.spans offsets) (take ended.spans sized) image

abbrev pub answered : Result Built Refusal → List ℕ → List ℕ → List ℕ → List ℕ
answered = answered_by done_text
