-- Laws that Theorems/Exactly rests on.
use Rattle.std.specs.Prelude.{◌≡◌, refl, Bool, true, false, List, map, ℕ, ◌+◌, ◌-◌, ◌≤◌, ◌<◌, length, get_or, drop}
use Rattle.std.proofs.Common.{sym, ap, ◌∙◌, arith, length-append, length-drop, get_or-append-add, get_or-drop}
use Rattle.std.proofs.Math.ListN.{get_or-append, get_or-map}
use Rattle.std.proofs.lemmas.List.{length-map}
use Rattle.prelude.specs.Laws.Bools.{unlike}
use Rattle.prelude.specs.declared.Place.{Place}
use Rattle.prelude.specs.declared.Place.TheVariants.{One}
use Rattle.prelude.specs.Pick.{pick}
use Rattle.prelude.specs.Told.{Told, gives, refuses}
use Rattle.blocks.specs.declared.Block.{Block}
use Rattle.blocks.specs.Outcome.{over}
use Rattle.blocks.specs.Walk.{block}

-- The answers of a call, by its two tests.
abbrev pub answers : Bool → Bool → ℕ → Told ℕ
answers a b n = pick a (pick b (gives n) (refuses 14 (One 2))) (refuses 4 (One 0))

pub given : (a b : Bool) (m n : ℕ) → answers a b n ≡ gives m → (a ≡ true) × (b ≡ true) × (m ≡ n)
given true true m n e = (refl, refl, (cc))
given true false m n e = unlike cc
given false b m n e = unlike cc

pub is-4 : (a b : Bool) (n : ℕ) → answers a b n ≡ refuses 4 (One 0) → a ≡ false
is-4 true true n e = unlike cc
is-4 true false n e = let z : ◌≡◌ {A = ℕ} 14 4 = cc in absurd (omega arith)
is-4 false b n e = refl

pub is-14 : (a b : Bool) (n : ℕ) → answers a b n ≡ refuses 14 (One 2) → (a ≡ true) × (b ≡ false)
is-14 true true n e = unlike cc
is-14 true false n e = (refl, refl)
is-14 false b n e = let z : ◌≡◌ {A = ℕ} 4 14 = cc in absurd (omega arith)

-- A refused call takes neither way that writes.
pub unwritten : (a b : Bool) (n k : ℕ) (p : Place) (x y : List ℕ) → answers a b n ≡ refuses k p → pick a (pick b x y) y ≡ y
unwritten true true n k p x y e = unlike cc
unwritten true false n k p x y e = refl
unwritten false b n k p x y e = refl

-- What is written over the front of a list.
module _ (new old : List ℕ) where
  over-rest : (i : ℕ) → length new ≤ i → get_or (over new old) i 0 ≡ get_or old i 0
  over-rest i h =
      let e : i ≡ length new + (i - length new) = omega arith in
      ap (λ (k : ℕ). get_or (over new old) k 0) e
      ∙ get_or-append-add new (drop (length new) old) (i - length new) 0
      ∙ get_or-drop (length new) old (i - length new) 0
      ∙ sym (ap (λ (k : ℕ). get_or old k 0) e)

  pub over-length : length new ≤ length old → length (over new old) ≡ length old
  over-length fits = omega (arith, length-append new (drop (length new) old), length-drop (length new) old)

-- A column of blocks written there.
module _ (column : Block → ℕ) (blocks : List Block) (old : List ℕ) where
  pub column-front : (i : ℕ) → i < length blocks → get_or (over (map column blocks) old) i (column (block 0 0)) ≡ column (get_or blocks i (block 0 0))
  column-front i h =
      get_or-append (map column blocks) (drop (length (map column blocks)) old) (column (block 0 0)) i (rw length-map h)
      ∙ get_or-map column blocks i (block 0 0)

  pub column-rest : (i : ℕ) → length blocks ≤ i → get_or (over (map column blocks) old) i 0 ≡ get_or old i 0
  column-rest i h = over-rest (map column blocks) old i (rw length-map h)
