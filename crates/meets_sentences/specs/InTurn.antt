-- Items' bits written into an image one after another, in any order (document 02, Ticket 11), in the words of the sentences: an item is a node of a build
-- with the place and the size of its offer, and its bits are value bits from its operand on.
use Rattle.std.specs.Prelude.{◌≡◌, List, [], ◌∷◌, ℕ, ◌+◌, ◌≤◌, ◌<◌, length, get_or}
use Rattle.bitvec.specs.Bits.{bit_at}
use Rattle.says.specs.Build.{Given, Lent, operand, fill_bit, IsWritten, Offer, InFilled}
use Rattle.says.specs.Words.{Not}

-- m bits are written at bit x: value bits from `from` on, and every other bit is as it was.
pub record Puts (values : List ℕ) (x m from : ℕ) (image after : List ℕ) : Type 0 where
  pub as_long : length after ≡ length image
  pub bytes : (j : ℕ) → get_or after j 0 < 256
  pub own : (bit : ℕ) → bit < m → bit_at after (x + bit) ≡ bit_at values (from + bit)
  pub others : (bit : ℕ) → (x ≤ bit → bit < x + m → ⊥) → bit_at after bit ≡ bit_at image bit

-- An item by itself: where its bits go, how many they are, and the value bits that they are, from `from` on.
pub record Item : Type 0 where
  pub position : ℕ
  pub size : ℕ
  pub values : List ℕ
  pub from : ℕ

-- The bits of these items are written one item after the other, in this order: the image before, and afterwards.
pub data AllPut : List Item → List ℕ → List ℕ → Type 0 where
  none_left : {image : List ℕ} → AllPut [] image image
  item-put : {it : Item} {items : List Item} {image after last : List ℕ} → Puts it.values it.position it.size it.from image after
      → AllPut items after last → AllPut (it ∷ items) image last

-- a number stands in a list
pub data Among (i : ℕ) : List ℕ → Type 0 where
  here : {l : List ℕ} → Among i (i ∷ l)
  later : {j : ℕ} {l : List ℕ} → Among i l → Among i (j ∷ l)

module _ (g : Given) where
  -- The items of these nodes are written in turn, in row r: the nodes in the order in which they are written, the image before, and afterwards.
  pub data InTurn (r : ℕ) : List ℕ → List ℕ → List ℕ → Type 0 where
    all-put : {image : List ℕ} → InTurn r [] image image
    one_more : {i x m : ℕ} {order image after last : List ℕ} → IsWritten g i → Offer g r i x m → Puts g.values x m (operand g i) image after
        → InTurn r order after last → InTurn r (i ∷ order) image last

  -- The image before any item, of length l: "the fill bit inside such a range and the image length, and zero elsewhere".
  pub record Blank (old : Lent) (l : ℕ) (image : List ℕ) : Type 0 where
    pub as_long : length image ≡ length old.image
    pub bytes : (j : ℕ) → get_or image j 0 < 256
    pub fill-bit : (bit b : ℕ) → InFilled g old l b bit → bit_at image bit ≡ fill_bit g b
    pub zero_bit : (bit : ℕ) → ((b : ℕ) → Not (InFilled g old l b bit)) → bit_at image bit ≡ 0
