-- The blocks in order: a law for each way that a loop over them goes, and what a search by halves and a chain of touching blocks settle.
use mathlib.Core.Path.{◌≡◌, sym, ap, ap₂, subst, ◌∙◌}
use mathlib.Core.Bool.{Bool, true, false, and-false}
use mathlib.Core.List.{List}
use Prim.Native.Nat.{ℕ, zero, suc, ◌+◌, ◌-◌, ◌*◌, ◌/◌, ◌≤◌, ◌<◌}
use native.Mathlib.Decide.{dec_lt, dec_le}
use native.Mathlib.Numerals.{add-one}
use native.Mathlib.Omega.{arith}
use borrow.Author.Tests.{ltb-true, ltb-false, lt-ltb, le-ltb, le-leb, lt-leb}
use lib.Dec.{ltb}
use lib.ListN.{length, get_or, drop, drop_of_length-le}
use lib.Seq.{drop-cons}
use Rattle.std.specs.List.{AllWithin, HoldsAt, between, zip}
use Rattle.std.specs.List.Sorted.{IsPartitionedBy, IsPartitionPoint}
use Rattle.std.specs.Option.{MatchOption}
use Rattle.std.proofs.Common.{Option, None, Some, unwrap_or}
use Rattle.std.proofs.lemmas.List.{length-take, length-drop, get_or-take, get_or-drop}
use Rattle.std.proofs.lemmas.List.Sorted.{IsPartitionPoint-from_clause, IsPartitionedBy-ltb, IsNonDecreasingBy-from_default}
use Rattle.std.specs.Fn.{Called, ComputesKey}
use denote.Param.Members.{Mut}
use denote.Ref.{Bor}
use Rattle.std.proofs.lemmas.Slice.Zip.{length-zip, get_or-zip}
use Rattle.overlay.specs.Cover.{covered_bit}
use Rattle.overlay.specs.Laws.CoverFacts.{either, covered-by, uncovered}
use Rattle.overlay.specs.Order.{in_order}
use Rattle.overlay.specs.Laws.Order.{Row, row}
use Rattle.overlay.specs.Steps.{Finds, Chain}

-- ---- one turn of the check of the order

module _ (floor : ℕ) (os ss : List ℕ) (i : ℕ) (h : i < length os) (p : length os ≡ length ss) where
  pub order-next : (get_or ss i 0 ≡ 0 → ⊥) → floor ≤ get_or os i 0
      → in_order floor (drop i os) (drop i ss) ≡ in_order (get_or os i 0 + get_or ss i 0) (drop (i + 1) os) (drop (i + 1) ss)
  unfolding in_order
  order-next n a =
      let some : 0 < get_or ss i 0 = elim (dec_lt 0 (get_or ss i 0)) [ yes y ↦ y | no y ↦ absurd (n (omega arith)) ] in
      rw (add-one, drop-cons os i 0 h, drop-cons ss i 0 (omega arith), lt-ltb 0 (get_or ss i 0) some, le-leb floor (get_or os i 0) a)

  pub order-empty : get_or ss i 0 ≡ 0 → in_order floor (drop i os) (drop i ss) ≡ false
  unfolding in_order
  order-empty e = rw (drop-cons os i 0 h, drop-cons ss i 0 (omega arith), le-ltb 0 (get_or ss i 0) (omega arith))

  pub order-low : get_or os i 0 < floor → in_order floor (drop i os) (drop i ss) ≡ false
  unfolding in_order
  order-low l = rw (drop-cons os i 0 h, drop-cons ss i 0 (omega arith), lt-leb floor (get_or os i 0) l) (and-false (ltb 0 (get_or ss i 0)))

pub order-ends : (floor : ℕ) (os ss : List ℕ) (i : ℕ) → length os ≤ i → length os ≡ length ss → in_order floor (drop i os) (drop i ss) ≡ true
unfolding in_order
order-ends floor os ss i h p = rw (drop_of_length-le os {i = i} h, drop_of_length-le ss {i = i} (omega arith))

pub order-unpaired : (floor : ℕ) (os ss : List ℕ) → (length os ≡ length ss → ⊥) → false ≡ in_order floor os ss
order-unpaired floor os ss h = either (in_order floor os ss) (λ t. absurd (h (row floor os ss t).paired)) (λ e. sym e)

-- ---- blocks in a row

module _ (os ss : List ℕ) (r : Row 0 os ss) where
  pub starts-rise : (i j : ℕ) → i ≤ j → j < length os → get_or os i 0 ≤ get_or os j 0
  starts-rise i j l h =
      elim (dec_lt i j) [
        | yes y ↦ omega (arith, r.behind i j y h)
        | no y ↦ let e : i ≡ j = omega arith in rw e (omega arith)
      ]

  pub ends-rise : (i j : ℕ) → i ≤ j → j < length os → get_or os i 0 + get_or ss i 0 ≤ get_or os j 0 + get_or ss j 0
  ends-rise i j l h =
      elim (dec_lt i j) [
        | yes y ↦ omega (arith, r.behind i j y h)
        | no y ↦ let e : i ≡ j = omega arith in rw e (omega arith)
      ]

  -- a search of the starts: `n` blocks start before the byte
  pub starts-found : (first : ℕ) {F : Type 0} {g : Mut F (Bor ℕ × Unit {0}) Bool} {f : F} (n : ℕ)
      → ((q : ℕ → Bool) → ComputesKey g q f → IsPartitionedBy q os → IsPartitionPoint (λ y. q y ≡ true) (λ y. q y ≡ false) os n)
      → ((a : Bor ℕ × Unit {0}) (r : Bool) (f' : F) → Called g f a r f' → (r ≡ ltb (a.0.now / 8) first) × (f' ≡ f))
      → IsPartitionPoint (λ o. ltb (o / 8) first ≡ true) (λ o. ltb (o / 8) first ≡ false) os n
  starts-found first n clause calls =
      IsPartitionPoint-from_clause (λ o. ltb (o / 8) first) os n clause
      (IsPartitionedBy-ltb (λ o. o / 8) os first (IsNonDecreasingBy-from_default (λ o. o / 8) os 0 (λ i j l h. omega (arith, starts-rise i j l h))))
      calls

  module _ (first n : ℕ) (few : n ≤ length os) (parted : IsPartitionPoint (λ o. ltb (o / 8) first ≡ true) (λ o. ltb (o / 8) first ≡ false) os n) where
    begins : (i : ℕ) → i < n → get_or os i 0 < 8 * first
    begins i h = omega (arith, ltb-true (get_or os i 0 / 8) first (parted.0 i 0 (omega arith) h))

    ends-past : (i : ℕ) → n ≤ i → i < length os → 8 * first < get_or os i 0 + get_or ss i 0
    ends-past i l h = omega (arith, ltb-false (get_or os i 0 / 8) first (parted.1 i 0 l h), r.some i h)

    pub finds-all : (0 < n → get_or os (n - 1) 0 + get_or ss (n - 1) 0 ≤ 8 * first) → Finds os ss first n
    finds-all e =
        record { few = few; below = λ i h. omega (arith, e (omega arith), ends-rise i (n - 1) (omega arith) (omega arith)); past = ends-past }

    pub finds-last : 0 < n → 8 * first < get_or os (n - 1) 0 + get_or ss (n - 1) 0 → Finds os ss first (n - 1)
    finds-last some e =
        record {
          few = omega arith;
          below = λ i h. omega (arith, r.behind i (n - 1) h (omega arith), begins (n - 1) (omega arith));
          past = λ i l h. elim (dec_le n i) [
            | yes y ↦ ends-past i y h
            | no y ↦ let last : i ≡ n - 1 = omega arith in rw last e
          ];
        }

  -- a bit between two neighbours
  pub gap-free : (i k : ℕ) → ((m : ℕ) → m < i → get_or os m 0 + get_or ss m 0 ≤ k) → ((m : ℕ) → i ≤ m → m < length os → k < get_or os m 0)
      → covered_bit os ss k ≡ false
  gap-free i k before after =
      uncovered os ss k λ m h l u.
      elim (dec_lt m i) [ yes y ↦ omega (arith, before m y) | no y ↦ omega (arith, after m (omega arith) h) ]

  -- the bits of a chain
  chain-go : (d at last : ℕ) → at + d ≡ last → last < length os
      → ((i : ℕ) → at ≤ i → i < last → get_or os i 0 + get_or ss i 0 ≡ get_or os (i + 1) 0)
      → (k : ℕ) → get_or os at 0 ≤ k → k < get_or os last 0 + get_or ss last 0 → covered_bit os ss k ≡ true
  chain-go zero at last e h t k l u =
      let same : at ≡ last = omega arith in
      covered-by os ss at k (omega arith) r.paired l (rw same u)
  chain-go (suc d) at last e h t k l u =
      elim (dec_lt k (get_or os at 0 + get_or ss at 0)) [
        | yes y ↦ covered-by os ss at k (omega arith) r.paired l y
        | no y ↦ chain-go d (at + 1) last (omega arith) h (λ i m v. t i (omega arith) v) k (omega (arith, t at (omega arith) (omega arith))) u
      ]

  module _ (at last : ℕ) (c : Chain os ss at last) where
    pub chain-covers : (k : ℕ) → get_or os at 0 ≤ k → k < get_or os last 0 + get_or ss last 0 → covered_bit os ss k ≡ true
    chain-covers = chain-go (last - at) at last (omega (arith, c.from)) c.one c.touching

    pub chain-rises : get_or os at 0 ≤ get_or os last 0 + get_or ss last 0
    chain-rises = omega (arith, starts-rise at last c.from c.one)

    -- the next block starts past the chain's end
    pub chain_next : last + 1 < length os → get_or os last 0 + get_or ss last 0 < get_or os (last + 1) 0
    chain_next h =
        elim (dec_lt (get_or os last 0 + get_or ss last 0) (get_or os (last + 1) 0)) [
          | yes y ↦ y
          | no y ↦ absurd (c.broken h (omega (arith, r.behind last (last + 1) (omega arith) h)))
        ]

    -- a bit behind the chain and before the next block
    pub chain-gap : (k : ℕ) → get_or os last 0 + get_or ss last 0 ≤ k → (last + 1 < length os → k < get_or os (last + 1) 0) → covered_bit os ss k ≡ false
    chain-gap k l u =
        gap-free (last + 1) k
        (λ m h. omega (arith, ends-rise m last (omega arith) c.one))
        (λ m h v. omega (arith, u (omega arith), starts-rise (last + 1) m h v))

    pub chain-end-free : covered_bit os ss (get_or os last 0 + get_or ss last 0) ≡ false
    chain-end-free = chain-gap (get_or os last 0 + get_or ss last 0) (omega arith) chain_next

-- ---- a search for the end of a chain

-- the block k behind the block `at`, and the next one's start
abbrev pub blocks_from : List ℕ → List ℕ → ℕ → List ((ℕ × ℕ) × ℕ)
blocks_from os ss at = zip (zip (between at (length os) os) (between at (length ss) ss)) (between (at + 1) (length os) os)

abbrev pub Touch : (ℕ × ℕ) × ℕ → Type 0
Touch x = x.0.0 + x.0.1 ≡ x.1

module _ (os ss : List ℕ) (at : ℕ) (paired : length os ≡ length ss) (one : at < length os) where
  part : (xs : List ℕ) (from k : ℕ) → k < length xs - from → get_or (between from (length xs) xs) k 0 ≡ get_or xs (from + k) 0
  part xs from k h = get_or-take (length xs - from) (drop from xs) k 0 h ∙ get_or-drop from xs k 0

  part-length : (xs : List ℕ) (from : ℕ) → length (between from (length xs) xs) ≡ length xs - from
  part-length xs from = simp (length-take, length-drop) (omega arith)

  long : length (blocks_from os ss at) ≡ length os - 1 - at
  long =
      omega (
        arith,
        length-zip (zip (between at (length os) os) (between at (length ss) ss)) (between (at + 1) (length os) os),
        length-zip (between at (length os) os) (between at (length ss) ss),
        part-length os at,
        part-length ss at,
        part-length os (at + 1),
      )

  block-at : (k : ℕ) → k < length os - 1 - at
      → get_or (blocks_from os ss at) k ((0, 0), 0) ≡ ((get_or os (at + k) 0, get_or ss (at + k) 0), get_or os (at + k + 1) 0)
  block-at k h =
      get_or-zip (zip (between at (length os) os) (between at (length ss) ss)) (between (at + 1) (length os) os) k ((0, 0), 0)
      (omega (arith, length-zip (between at (length os) os) (between at (length ss) ss), part-length os at, part-length ss at))
      (omega (arith, part-length os (at + 1)))
      ∙ ap₂ (λ (x : ℕ × ℕ) (y : ℕ). (x, y))
      (get_or-zip (between at (length os) os) (between at (length ss) ss) k (0, 0) (omega (arith, part-length os at)) (omega (arith, part-length ss at))
      ∙ ap₂ (λ (x y : ℕ). (x, y)) (part os at k (omega arith)) (part ss at k (omega arith)))
      (part os (at + 1) k (omega arith) ∙ ap (λ (n : ℕ). get_or os n 0) (omega arith))

  touch-at : (k : ℕ) → k < length os - 1 - at → Touch (get_or (blocks_from os ss at) k ((0, 0), 0))
      → get_or os (at + k) 0 + get_or ss (at + k) 0 ≡ get_or os (at + k + 1) 0
  touch-at k h t = subst Touch (block-at k h) t

  pub chain-found : (p : Option ℕ)
      → MatchOption p (AllWithin Touch (blocks_from os ss at) 0 (length (blocks_from os ss at)))
      (λ i. (i < length (blocks_from os ss at)) × HoldsAt (λ x. Touch x → ⊥) (blocks_from os ss at) i × AllWithin Touch (blocks_from os ss at) 0 i)
      → Chain os ss at (at + unwrap_or p (length os - 1 - at))
  chain-found None h =
      record {
        from = omega arith;
        one = omega arith;
        touching = λ i l u.
            let same : at + (i - at) ≡ i = omega arith in
            subst (λ (n : ℕ). get_or os n 0 + get_or ss n 0 ≡ get_or os (n + 1) 0) same
            (touch-at (i - at) (omega arith) (h (i - at) ((0, 0), 0) (omega arith) (omega (arith, long))));
        broken = λ v e. absurd (omega arith);
      }
  chain-found (Some n) h =
      let few : n < length os - 1 - at = omega (arith, h.0, long) in
      record {
        from = omega arith;
        one = omega arith;
        touching = λ i l u.
            let same : at + (i - at) ≡ i = omega arith in
            subst (λ (n : ℕ). get_or os n 0 + get_or ss n 0 ≡ get_or os (n + 1) 0) same
            (touch-at (i - at) (omega arith) (h.2 (i - at) ((0, 0), 0) (omega arith) (omega arith)));
        broken = λ v e. h.1 ((0, 0), 0) (subst Touch (sym (block-at n few)) e);
      }
