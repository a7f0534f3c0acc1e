-- Ticket 9 in its own words: what the theorems in Theorems/Ticket9.antt speak of, beside the sentences of the two calls.
use Rattle.std.specs.Prelude.{◌≡◌, ◌⊎◌, ℕ, ◌+◌, ◌*◌, ◌≤◌, ◌<◌}
use Rattle.says.specs.Build.{Given, banks, unit, Size, Offset, Align, nodes, kind, Number, In, NoBanks, BadBank, Overlap, BadField, BadNode}
use Rattle.says.specs.Words.{Not}
use Rattle.says.specs.Profile.{OneBit, Multiple, Pages, BadLabel, BadAlign, BadOffset, BadSize, BadUnit, BadAddr}

module _ (g : Given) where
  -- none of 1 to 4 is met
  pub record Sound : Type 0 where
    pub counted : Not (NoBanks g)
    pub banked : (b : ℕ) → b < banks g → Not (BadBank g b)
    pub apart : (b c : ℕ) → Not (Overlap g b c)
    pub fielded : (f : ℕ) → Not (BadField g f)
    pub noded : (i : ℕ) → i < nodes g → Not (BadNode g i)

  module _ (page : ℕ) where
    -- "page size in bits and every nonzero alignment must have exactly one bit set, every bank with an offset must have its offset on a page and a size of
    -- whole pages, address units are 8 or 16, and `addr` goes only to a multiple of its bank's unit, in every row"
    pub record Holds : Type 0 where
      pub page-size : OneBit page
      pub labels : (b a : ℕ) → b < banks g → Align g b a → 0 < a → OneBit a
      pub aligns : (i r n : ℕ) → i < nodes g → kind g i ≡ 8 → r < g.rows → Number g r i n → 0 < n → OneBit n
      pub offsets : (b o : ℕ) → b < banks g → Offset g b o → Multiple page o
      pub sizes : (b o : ℕ) → b < banks g → Offset g b o → (m : ℕ) × Size g b m × Multiple page m
      pub units : (b : ℕ) → b < banks g → (unit g b ≡ 8) ⊎ (unit g b ≡ 16)
      pub addrs : (i b r n : ℕ) → i < nodes g → kind g i ≡ 9 → In g i b → r < g.rows → Number g r i n → Multiple (unit g b) n

    -- A rule is broken at this bank or node. The turn is the rule's place in the ticket's order, where rule 2 has two: "alignments (banks, then nodes in every
    -- row)".
    pub data Breaks : (turn rule at : ℕ) → Type 0 where
      by-page : Not (OneBit page) → Breaks 1 1 0
      by-label : {b : ℕ} → b < banks g → BadLabel g b → Breaks 2 2 b
      by-align : {i : ℕ} → i < nodes g → BadAlign g i → Breaks 3 2 i
      by-offset : {b : ℕ} → b < banks g → BadOffset g page b → Breaks 4 3 b
      by_size : {b : ℕ} → b < banks g → BadSize g page b → Breaks 5 4 b
      by-unit : {b : ℕ} → b < banks g → BadUnit g b → Breaks 6 5 b
      by-addr : {i : ℕ} → i < nodes g → BadAddr g i → Breaks 7 6 i

    -- "The answer names the first rule broken, 1 to 6 in this order, each ascending": it is broken there, no break has an earlier turn, and none of its own
    -- turn a lower place.
    pub record Names (rule at : ℕ) : Type 0 where
      pub turn : ℕ
      pub broken : Breaks turn rule at
      pub first : (other by place : ℕ) → Breaks other by place → (turn < other) ⊎ ((turn ≡ other) × (at ≤ place))

    -- Bit number `bit` of the image stands in a page of bank b: from the bank's offset o on, and before the end of its n pages.
    pub record InPages (b bit : ℕ) : Type 0 where
      pub o : ℕ
      pub n : ℕ
      pub placed : Offset g b o
      pub pages : Pages g page b n
      pub from : o ≤ bit
      pub to : bit < o + n * page
