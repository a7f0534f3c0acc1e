-- The text of an accepted build from its parts: the hex digits that stand at the front of the room for them, and the blocks that are
-- found. There is room for every block, since there are no more blocks than spans.
use Rattle.std.specs.Prelude.{Result, Ok, Err}
use mathlib.Core.Path.{◌≡◌, refl, sym, ap, ap₂, ◌∙◌}
use mathlib.Core.Bool.{true}
use mathlib.Core.List.{List, [], ◌∷◌, ◌++◌}
use Prim.Native.Nat.{ℕ, ◌+◌, ◌*◌, ◌≤◌}
use native.Mathlib.Omega.{arith}
use lib.Dec.{leb}
use lib.ListN.{length, take, drop}
use lib.Seq.{take_at}
use borrow.Author.Tests.{le-leb}
use Rattle.prelude.specs.Laws.Bools.{unlike}
use Rattle.prelude.specs.Limits.{max_nodes}
use Rattle.prelude.specs.Laws.Pick.{pick_true}
use Rattle.prelude.specs.declared.Refusal.{Refusal}
use Rattle.bitvec.specs.HexDigits.{hex_of, digit_count, Prints}
use Rattle.bitvec.specs.Theorems.HexDigits.{length-hex_of}
use Rattle.blocks.specs.declared.Block.{Block}
use Rattle.blocks.specs.Spans.{spans_of, acceptable}
use Rattle.blocks.specs.Walk.{blocks_of}
use Rattle.blocks.specs.Theorems.Count.{blocks-few}
use Rattle.blocks.specs.Outcome.{origins, sizes, over, room_for, Contract}
use Rattle.blocks.specs.Theorems.Acceptable.{acceptable-parts}
use Rattle.print_text.specs.Lines.{block_word, line, passes_text, blocks_text, image_text, layout_text}
use Rattle.blocks.specs.Laws.Count.{spans-few}
use Rattle.print_answer.specs.Answer.{done_text}

-- the digits stand at the front
pub hex-part : (bytes : List ℕ) (bits : ℕ) (hex : List ℕ) (r : Result ℕ Refusal) (after : List ℕ) → Prints bytes bits hex r after → bits ≤ 8 * length bytes
    → digit_count bits ≤ length hex → take (digit_count bits) after ≡ hex_of bytes bits
hex-part bytes bits hex r after p h room =
    let inside : leb (0 + bits) (8 * length bytes) ≡ true = le-leb (0 + bits) (8 * length bytes) (omega arith) in
    ap (take (digit_count bits)) (p.digits ∙ rw (inside, le-leb (digit_count bits) (length hex) room) refl)
    ∙ take_at (hex_of bytes bits) (drop (digit_count bits) hex) (digit_count bits) (length-hex_of bytes bits)

-- the lines of blocks that stand before old contents
lines-over : (bs : List Block) (ro rs : List ℕ) → blocks_text (length bs) (origins bs ++ ro) (sizes bs ++ rs) ≡ blocks_text (length bs) (origins bs) (sizes bs)
unfolding blocks_text
lines-over [] ro rs = refl
lines-over (b ∷ bs) ro rs = ap (λ (t : List ℕ). line block_word (b.origin ∷ b.size ∷ []) ++ t) (lines-over bs ro rs)

found-count : (m n : ℕ) → ◌≡◌ {A = Result ℕ Refusal} (Ok m) (Ok n) → m ≡ n
found-count m n e = cc

not-both : (n : ℕ) (why : Refusal) → Ok n ≡ Err why → ⊥
not-both n why e = unlike cc

module _ (words lengths os ss : List ℕ) (ho : max_nodes ≤ length os) (hs : max_nodes ≤ length ss) (y : acceptable words lengths ≡ true) where
  abbrev bs : List Block
  bs = blocks_of (spans_of words lengths)

  room : room_for bs os ss ≡ true
  room =
      let few = blocks-few (spans_of words lengths) in
      let more = spans-few words lengths in
      let most = (acceptable-parts words lengths y).1 in
      rw (le-leb (length bs) (length os) (omega (arith, few, more, most)), le-leb (length bs) (length ss) (omega (arith, few, more, most))) refl

  module _ (r : Result ℕ Refusal) (os₁ ss₁ : List ℕ) (c : Contract words lengths os ss r os₁ ss₁) where
    found : r ≡ Ok (length bs)
    found = c.answer ∙ pick_true _ _ y ∙ pick_true _ _ room

    pub never-refused : (why : Refusal) → r ≡ Err why → ⊥
    never-refused why e = not-both (length bs) why (sym found ∙ e)

    pub found-text : (k bits : ℕ) (image : List ℕ) (count : ℕ) → r ≡ Ok count
        → layout_text k count os₁ ss₁ (hex_of image bits) ≡ done_text k bits words lengths image
    found-text k bits image count e =
        let counted = found-count count (length bs) (sym e ∙ found) in
        let first : os₁ ≡ over (origins bs) os = c.first ∙ pick_true _ _ y ∙ pick_true _ _ room in
        let second : ss₁ ≡ over (sizes bs) ss = c.second ∙ pick_true _ _ y ∙ pick_true _ _ room in
        ap (λ (t : List ℕ). passes_text k ++ t ++ image_text (hex_of image bits))
        (ap (λ (n : ℕ). blocks_text n os₁ ss₁) counted ∙ ap₂ (λ (a b : List ℕ). blocks_text (length bs) a b) first second ∙ lines-over bs _ _)
