-- What `dk_profile` says, from document 02, Ticket 9, "Paged device profile": by bank b, node i and row r, counted from 0, and a node's number v. What is
-- given is what `dk_build` is given, and the page size in bits; the call takes no limit and no word on bank 0 (`closed`): none of its sentences reads them,
-- but that a limit past 255 is 4, and a byte holds no such limit.
use Rattle.std.specs.Prelude.{◌≡◌, List, ℕ, ◌*◌, ◌<◌, ◌/◌, ◌^◌, length, get_or, replicate}
use Rattle.c_answers.specs.declared.DkProfile.{DkProfile}
use Rattle.says.specs.Words.{Tries, First, FirstPair, Not}
use Rattle.says.specs.Build.{Given, banks, unit, Size, Offset, Align, Unsized, NoBanks, BadBank, Overlap}
use Rattle.says.specs.Build.{nodes, kind, Number, BadField, BadNode, In}

-- "exactly one bit set": a power of two
abbrev pub OneBit : ℕ → Type 0
OneBit a = (e : ℕ) × (a ≡ 2 ^ e)

-- x is a multiple of m
abbrev pub Multiple : (m x : ℕ) → Type 0
Multiple m x = (times : ℕ) × (x ≡ times * m)

module _ (g : Given) where
  -- the first bank that is so, and the first node: "each ascending"
  abbrev pub FirstBank : (ℕ → Type 0) → ℕ → Type 0
  FirstBank So = First (λ b. (b < banks g) × So b)

  abbrev pub FirstNode : (ℕ → Type 0) → ℕ → Type 0
  FirstNode So = First (λ i. (i < nodes g) × So i)

  -- "Order: 1, 2 by ascending bank, 3, then 4: node count, row count, limit, then the lowest node"; where none of them is met, what comes then
  abbrev pub Checks : {Y : Type 0} → ((number place second : ℕ) → Y) → (Y → Type 0) → Y → Type 0
  Checks refusal Then =
      Tries (λ (_ : Unit {0}). NoBanks g) (λ _. refusal 1 0 0)
      (Tries (FirstBank (BadBank g)) (λ b. refusal 2 b 0)
      (Tries (λ (pair : ℕ × ℕ). FirstPair (Overlap g) pair.0 pair.1) (λ pair. refusal 3 pair.0 pair.1)
      (Tries (First (BadField g)) (λ f. refusal 4 f 0)
      (Tries (FirstNode (BadNode g)) (λ i. refusal 4 i 0) Then))))

  -- 2: "every nonzero alignment must have exactly one bit set": a bank's label alignment,
  pub data BadLabel (b : ℕ) : Type 0 where
    label : {a : ℕ} → Align g b a → 0 < a → Not (OneBit a) → BadLabel b

  -- and an `align` "in every row"
  pub data BadAlign (i : ℕ) : Type 0 where
    align : {r v : ℕ} → kind g i ≡ 8 → r < g.rows → Number g r i v → 0 < v → Not (OneBit v) → BadAlign i

  -- 5: "address units are 8 or 16"
  abbrev pub BadUnit : ℕ → Type 0
  BadUnit b = Not (unit g b ≡ 8) × Not (unit g b ≡ 16)

  -- 6: "`addr` goes only to a multiple of its bank's unit, in every row"
  pub data BadAddr (i : ℕ) : Type 0 where
    addr : {b r v : ℕ} → kind g i ≡ 9 → In g i b → r < g.rows → Number g r i v → Not (Multiple (unit g b) v) → BadAddr i

  module _ (page : ℕ) where
    -- 3: "every bank with an offset must have its offset on a page"
    pub data BadOffset (b : ℕ) : Type 0 where
      off-page : {o : ℕ} → Offset g b o → Not (Multiple page o) → BadOffset b

    -- 4: "and a size of whole pages"; "size (none breaks it)"
    pub data BadSize (b : ℕ) : Type 0 where
      no_size : {o : ℕ} → Offset g b o → Unsized g b → BadSize b
      ragged : {o m : ℕ} → Offset g b o → Size g b m → Not (Multiple page m) → BadSize b

    -- "The answer names the first rule broken, 1 to 6 in this order, each ascending: page size (place 0), alignments (banks, then nodes in every row),
    -- offset, size (none breaks it), unit, `addr`."
    abbrev pub Rules : {Y : Type 0} → ((rule at : ℕ) → Y) → (Y → Type 0) → Y → Type 0
    Rules broken Then =
        Tries (λ (_ : Unit {0}). Not (OneBit page)) (λ _. broken 1 0)
        (Tries (FirstBank BadLabel) (λ b. broken 2 b)
        (Tries (FirstNode BadAlign) (λ i. broken 2 i)
        (Tries (FirstBank BadOffset) (λ b. broken 3 b)
        (Tries (FirstBank BadSize) (λ b. broken 4 b)
        (Tries (FirstBank BadUnit) (λ b. broken 5 b)
        (Tries (FirstNode BadAddr) (λ i. broken 6 i) Then))))))

    -- "each bank's pages, its size over the page size, none without an offset": none is 18446744073709551615, also where there is no bank b
    pub data Pages (b : ℕ) : ℕ → Type 0 where
      pages : {o m : ℕ} → b < banks g → Offset g b o → Size g b m → Pages b (m / page)
      none : ((o : ℕ) → b < banks g → Offset g b o → ⊥) → Pages b 18446744073709551615

    -- "It says yes exactly when all of them hold, then with each bank's pages"
    pub data Yes : DkProfile → Type 0 where
      yes : {all : List ℕ} → length all ≡ 16 → ((b : ℕ) → b < 16 → Pages b (get_or all b 0))
          → Yes (record { refusal = 0; place = 0; second = 0; pages = all })

    -- "Each refusal returns its number and a place": "19 (new), after 4 ..; place: rule and bank or node"
    abbrev pub refused : (number place second : ℕ) → DkProfile
    refused number place second = record { refusal = number; place = place; second = second; pages = replicate 16 0 }

    abbrev pub ProfileSays : DkProfile → Type 0
    ProfileSays = Checks refused (Rules (refused 19) Yes)
