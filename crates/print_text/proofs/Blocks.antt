-- The lines of blocks one by one: those passed, one more, and how many of them both slices have.
use mathlib.Core.Path.{◌≡◌, refl, sym, ap, ◌∙◌}
use mathlib.Core.List.{List, [], ◌∷◌, ◌++◌, append_assoc, append-nil}
use Prim.Native.Nat.{ℕ, zero, suc, ◌+◌, ◌-◌, ◌≤◌, ◌<◌, min}
use native.Mathlib.Nat.{zero-add, suc-add}
use native.Mathlib.Omega.{arith}
use lib.ListN.{length, get_or, take, drop, length-append}
use lib.Seq.{drop-cons}
use Rattle.std.specs.List.{zip}
use Rattle.std.specs.Prelude.{Option, Some, None}
use Rattle.std.specs.Iterator.{Yields}
use Rattle.std.specs.Iterator.Adapters.{take_source, take_count, take_steps, zip_first, zip_second}
use Rattle.std.specs.Slice.Iter.{iter_rest}
use Rattle.std.specs.declared.iter.Take.{Take}
use Rattle.std.specs.declared.iter.Zip.{Zip}
use Rattle.std.proofs.Common.{Iter}
use denote.Ref.{Bor}
use Rattle.std.proofs.iter.Yields.{fronts}
use Rattle.std.proofs.lemmas.Iterator.{YieldsList, YieldsList-from_slice, YieldsList-from_zip, YieldsList-from_take, zips}
use Rattle.std.proofs.lemmas.Iterator.Consumers.{YieldsList-turn, YieldsList-end}
use Rattle.std.proofs.lemmas.List.{get_or-take, get_or_default, length-take}
use Rattle.std.proofs.lemmas.Slice.Zip.{length-zip, get_or-zip}
use Rattle.print_text.specs.Lines.{line, block_word, blocks_text}

blocks-nil : (k : ℕ) (ss : List ℕ) → blocks_text k [] ss ≡ []
unfolding blocks_text
blocks-nil zero ss = refl
blocks-nil (suc k) ss = refl

blocks-nil₂ : (k : ℕ) (os : List ℕ) → blocks_text k os [] ≡ []
unfolding blocks_text
blocks-nil₂ zero os = refl
blocks-nil₂ (suc k) [] = refl
blocks-nil₂ (suc k) (o ∷ os) = refl

blocks-suc : (k : ℕ) (o s : ℕ) (os ss : List ℕ) → blocks_text (suc k) (o ∷ os) (s ∷ ss) ≡ line block_word (o ∷ s ∷ []) ++ blocks_text k os ss
unfolding blocks_text
blocks-suc k o s os ss = refl

blocks-zero : (os ss : List ℕ) → blocks_text 0 os ss ≡ []
unfolding blocks_text
blocks-zero os ss = refl

-- the first blocks, and those behind them
blocks-split : (i k : ℕ) (os ss : List ℕ) → blocks_text (i + k) os ss ≡ blocks_text i os ss ++ blocks_text k (drop i os) (drop i ss)
blocks-split zero k os ss = rw (zero-add, blocks-zero os ss) refl
blocks-split (suc i) k [] ss = rw (blocks-nil (suc i + k) ss, blocks-nil (suc i) ss, blocks-nil k (drop (suc i) ss)) refl
blocks-split (suc i) k (o ∷ os) [] = rw (blocks-nil₂ (suc i + k) (o ∷ os), blocks-nil₂ (suc i) (o ∷ os), blocks-nil₂ k (drop i os)) refl
blocks-split (suc i) k (o ∷ os) (s ∷ ss) =
    rw (suc-add i k, blocks-suc (i + k) o s os ss, blocks-suc i o s os ss, blocks-split i k os ss)
    (sym (append_assoc (line block_word (o ∷ s ∷ [])) (blocks_text i os ss) (blocks_text k (drop i os) (drop i ss))))

module _ (os ss : List ℕ) where
  -- no fewer bytes for more blocks
  pub blocks-upto : (i n : ℕ) → i ≤ n → length (blocks_text i os ss) ≤ length (blocks_text n os ss)
  blocks-upto i n h =
      let e : i + (n - i) ≡ n = omega arith in
      let whole : blocks_text n os ss ≡ blocks_text i os ss ++ blocks_text (n - i) (drop i os) (drop i ss) =
      ap (λ (k : ℕ). blocks_text k os ss) (sym e) ∙ blocks-split i (n - i) os ss in
      omega (arith, ap length whole, length-append (blocks_text i os ss) (blocks_text (n - i) (drop i os) (drop i ss)))

  -- one block more
  pub blocks_more : (i : ℕ) → i < length os → i < length ss
      → blocks_text (i + 1) os ss ≡ blocks_text i os ss ++ line block_word (get_or os i 0 ∷ get_or ss i 0 ∷ [])
  blocks_more i ho hs =
      blocks-split i 1 os ss
      ∙ ap (λ (l : List ℕ). blocks_text i os ss ++ l)
      (rw (
        drop-cons os i 0 ho,
        drop-cons ss i 0 hs,
        blocks-suc 0 (get_or os i 0) (get_or ss i 0) (drop (suc i) os) (drop (suc i) ss),
        blocks-zero (drop
            (suc i) os) (drop (suc i) ss),
      )
      (append-nil (line block_word (get_or os i 0 ∷ get_or ss i 0 ∷ []))))

-- blocks that a slice lacks have no line
pub blocks-lent : (n : ℕ) (os ss : List ℕ) → blocks_text (min n (min (length os) (length ss))) os ss ≡ blocks_text n os ss
blocks-lent zero os ss = ap (λ (k : ℕ). blocks_text k os ss) (omega arith)
blocks-lent (suc n) [] ss = blocks-nil (min (suc n) (min 0 (length ss))) ss ∙ sym (blocks-nil (suc n) ss)
blocks-lent (suc n) (o ∷ os) [] = blocks-nil₂ (min (suc n) (min (suc (length os)) 0)) (o ∷ os) ∙ sym (blocks-nil₂ (suc n) (o ∷ os))
blocks-lent (suc n) (o ∷ os) (s ∷ ss) =
    let e : min (suc n) (min (suc (length os)) (suc (length ss))) ≡ suc (min n (min (length os) (length ss))) = omega arith in
    rw (e, blocks-suc (min n (min (length os) (length ss))) o s os ss, blocks-suc n o s os ss, blocks-lent n os ss) refl

-- of the first `count` blocks, the one behind n others stands at n in both slices
next-block : (count : ℕ) (os ss : List ℕ) (n o s : ℕ)
    → (n < length (take count (zip os ss))) × ((o, s) ≡ get_or (take count (zip os ss)) n (o, s))
    → (n < count) × (n < length os) × (n < length ss) × (o ≡ get_or os n 0) × (s ≡ get_or ss n 0)
next-block count os ss n o s t =
    let all = length-take count (zip os ss) in
    let both = length-zip os ss in
    let ho : n < length os = omega (arith, t.0) in
    let hs : n < length ss = omega (arith, t.0) in
    let hc : n < count = omega (arith, t.0) in
    let there : (o, s) ≡ (get_or os n o, get_or ss n s) = t.1 ∙ get_or-take count (zip os ss) n (o, s) hc ∙ get_or-zip os ss n (o, s) ho hs in (
      hc,
      ho,
      hs,
      ap (λ (p : ℕ × ℕ). p.0) there ∙ get_or_default os n o 0 ho,
      ap (λ (p : ℕ × ℕ). p.1) there ∙ get_or_default ss n s 0 hs,
    )

-- A loop over the first `count` of both slices: xs is what it has been given.
module _ (count : ℕ) (os ss : List ℕ) (s t u : Take (Zip (Iter ℕ) (Iter ℕ))) (xs : List (Bor ℕ × Bor ℕ))
    (first : iter_rest (zip_first (take_source s)) ≡ os) (second : iter_rest (zip_second (take_source s)) ≡ ss) (limit : take_count s ≡ count)
    (by : Yields (take_steps (zips fronts fronts)) s xs t) (r : Option (Bor ℕ × Bor ℕ)) (step : take_steps (zips fronts fronts) t r u) where
  row : YieldsList (take_steps (zips fronts fronts)) (λ p. (p.0.now, p.1.now)) s (take count (zip os ss))
  row = YieldsList-from_take count (YieldsList-from_zip (YieldsList-from_slice os first) (YieldsList-from_slice ss second)) limit

  -- a turn is given the block behind those
  pub blocks-turn : (x y : Bor ℕ) → r ≡ Some (x, y)
      → (length xs < count) × (blocks_text (length xs + 1) os ss ≡ blocks_text (length xs) os ss ++ line block_word (x.now ∷ y.now ∷ []))
  blocks-turn x y is =
      let b = next-block count os ss (length xs) x.now y.now (YieldsList-turn row xs t by r u (x, y) is step) in (
        b.0,
        blocks_more os ss (length xs) b.1 b.2
            ∙ ap (λ (o : ℕ). blocks_text (length xs) os ss ++ line block_word (o ∷ get_or ss (length xs) 0 ∷ [])) (sym b.3)
            ∙ ap (λ (k : ℕ). blocks_text (length xs) os ss ++ line block_word (x.now ∷ k ∷ [])) (sym b.4),
      )

  -- where no block is left, the lines are those of the first `count`
  pub blocks-end : r ≡ None → blocks_text (length xs) os ss ≡ blocks_text count os ss
  blocks-end is =
      let e : length xs ≡ length (take count (zip os ss)) = (YieldsList-end row xs t by r u is step).1 in
      ap (λ (k : ℕ). blocks_text k os ss) (omega (arith, e, length-take count (zip os ss), length-zip os ss)) ∙ blocks-lent count os ss
