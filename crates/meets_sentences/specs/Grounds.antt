-- What a node is refused for, number by number; and an offer that overlaps, whatever 12 names.
use Rattle.std.specs.Prelude.{◌≡◌, refl, Bool, ◌⊎◌, ℕ, ◌+◌, ◌<◌, ◌≤◌}
use Rattle.iter.specs.declared.Lost.{Lost}
use Rattle.says.specs.Build.{Given, Standing, banks, nodes, Size, Offset, In, Sees, Offer, IsWritten, Clash, Interval, Mark, StoredCount, Names, Placed, Extent}

-- how a bank stands, part by part
abbrev pub stands_at : ℕ → Bool → Lost → Standing
stands_at position known lost = record { position = position; known = known; lost = lost }

module _ (g : Given) where
  -- 12: "a placement overlaps", at node i with its offer: an interval, "or when an earlier accepted mark is strictly inside it"
  pub data Overlaps (r i x m : ℕ) : Type 0 where
    stored : {y n : ℕ} → Interval g r i y n → Clash g x m y n → Overlaps r i x m
    marked : {y : ℕ} → Mark g r i y → x < y → y < x + m → Overlaps r i x m

  abbrev pub Nine : ℕ → ℕ → Type 0
  Nine r i = Placed g i × In g i 0 × ((1 < banks g) ⊎ (1 ≤ g.closed))

  abbrev pub Ten : ℕ → ℕ → Type 0
  Ten r i = Placed g i × ((b : ℕ) × (p : ℕ) × (k : Bool) × (e : ℕ) × (m : ℕ) × Sees g r i b p k × Extent g r i e × Size g b m × (m < p + e))

  abbrev pub Eleven : ℕ → ℕ → Type 0
  Eleven r i = (i < nodes g) × IsWritten g i × ((b : ℕ) × In g i b × ((o : ℕ) → Offset g b o → ⊥))

  abbrev pub Twelve : ℕ → ℕ → ℕ × ℕ → Type 0
  Twelve r i w = (x : ℕ) × (m : ℕ) × Offer g r i x m × Names g r i x m w.0 w.1

  abbrev pub Thirteen : ℕ → ℕ → Type 0
  Thirteen r i =
      (x : ℕ) × (m : ℕ) × (a : ℕ) × (b : ℕ) × Offer g r i x m × StoredCount g r i a b × (((0 < m) × (a ≡ 512)) ⊎ ((m ≡ 0) × (b ≡ 512)))
