-- The lent lists of blocks, gone through from the front: a law for each way that a test goes.
use Rattle.std.specs.Prelude.{Err}
use Rattle.std.proofs.Common.{◌≡◌, ℕ, ◌+◌, ◌/◌, ◌<◌, ◌≤◌, min, Bool, true, false, ◌&&◌, leb, List, [], ◌∷◌, length, get_or, drop, refl, sym, ap, add-one, arith, drop_of_length-le, drop-cons, le-leb, leb-true}
use Rattle.std.specs.List.{zip, list_all}
use mathlib.Core.Bool.{and-false}
use native.Mathlib.Decide.{dec_le}
use Rattle.prelude.specs.Laws.Bools.{unlike}
use Rattle.prelude.specs.Pick.{pick}
use Rattle.prelude.specs.declared.Refusal.{Refusal}
use Rattle.prelude.specs.declared.Refusal.TheVariants.{BadPart}
use Rattle.prelude.specs.Verdict.{Verdict, Accepted}
use Rattle.blocks.specs.declared.Block.{Block}
use Rattle.blocks.specs.Walk.{block}
use Rattle.bitvec.specs.Part.{is_part}
use Rattle.record_write.specs.Checks.{all_parts, all_placed, all_short}
use Rattle.record_write.specs.Cut.{blocks_in}

-- a test whose outcome a verdict tells
pub part-accepted : (b : Bool) {v : Verdict} → v ≡ Accepted → v ≡ pick b Accepted (Err BadPart) → true ≡ b
part-accepted true e f = refl
part-accepted false e f = unlike cc

pub part-refused : (b : Bool) {v : Verdict} {r : Refusal} → v ≡ Err r → v ≡ pick b Accepted (Err BadPart) → false ≡ b
part-refused true e f = unlike cc
part-refused false e f = refl

none-behind : (x : List ℕ) → blocks_in x [] ≡ []
unfolding blocks_in
none-behind [] = refl
none-behind (o ∷ x) = refl

-- the order and the addresses, which have 16 bits or 32
abbrev pub within : Bool → ℕ → List Block → Bool
within s load l = pick s (all_short load l) true && all_placed load l

module _ (os ss : List ℕ) (i : ℕ) where
  abbrev pub left : List Block
  left = blocks_in (drop i os) (drop i ss)

  abbrev pub behind : List Block
  behind = blocks_in (drop (i + 1) os) (drop (i + 1) ss)

  abbrev pub here : Block
  here = block (get_or os i 0) (get_or ss i 0)

  pub blocks-none : min (length os) (length ss) ≤ i → left ≡ []
  unfolding blocks_in
  blocks-none h =
      elim (dec_le (length os) i) [
        | yes k ↦ rw (drop_of_length-le os k)
        | no k ↦ rw (drop_of_length-le ss {i = i} (omega arith)) (none-behind (drop i os))
      ]

  module _ (h : i < length os) (k : i < length ss) where
    pub blocks_at : left ≡ here ∷ behind
    unfolding blocks_in
    blocks_at = rw (add-one i, drop-cons os i 0 h, drop-cons ss i 0 k)

-- a test of every pair is the definition's
pub parts-all : (len : ℕ) (os ss : List ℕ) → list_all (λ (p : ℕ × ℕ). is_part len p.0 p.1) (zip os ss) ≡ all_parts len (blocks_in os ss)
unfolding all_parts blocks_in
parts-all len [] ss = refl
parts-all len (o ∷ os) [] = refl
parts-all len (o ∷ os) (s ∷ ss) = ap (λ (b : Bool). is_part len o s && b) (parts-all len os ss)

-- a block ends before the next offset, and its last byte has an address below a limit
abbrev pub free : (ℕ × ℕ) × ℕ → Bool
free p = leb (p.0.0 + p.0.1) p.1

abbrev pub reached : ℕ → ℕ → ℕ × ℕ → Bool
reached load limit p = leb (load + p.0 / 8 + p.1 / 8) limit

-- one block more, whose tests are a and the one of its end e; A and B are those of the blocks behind it
one-more : (s a A B S P : Bool) (e : ℕ) → (A && B) ≡ (pick s S true && P)
    → ((a && A) && (leb e (pick s 65536 4294967296) && B)) ≡ (pick s (leb e 65536 && S) true && ((a && leb e 4294967296) && P))
one-more true a A B S P e h = go (leb e 65536) refl a
  where
    go : (b : Bool) → leb e 65536 ≡ b → (a : Bool) → ((a && A) && (leb e 65536 && B)) ≡ ((leb e 65536 && S) && ((a && leb e 4294967296) && P))
    go true q true = rw (q, le-leb e 4294967296 (omega (arith, leb-true e 65536 q))) h
    go true q false = rw q (sym (and-false S))
    go false q a = rw q (and-false (a && A))
one-more false a A B S P e h = go (leb e 4294967296) refl a
  where
    go : (b : Bool) → leb e 4294967296 ≡ b → (a : Bool) → ((a && A) && (leb e 4294967296 && B)) ≡ ((a && leb e 4294967296) && P)
    go true q true = rw q h
    go true q false = refl
    go false q true = rw q (and-false A)
    go false q false = refl

-- the tests of all blocks are the definition's
pub placed-all : (s : Bool) (load : ℕ) (os ss : List ℕ) → length os ≡ length ss
    → (list_all free (zip (zip os ss) (drop 1 os)) && list_all (reached load (pick s 65536 4294967296)) (zip os ss)) ≡ within s load (blocks_in os ss)
unfolding all_placed all_short blocks_in
placed-all true load [] ss h = refl
placed-all false load [] ss h = refl
placed-all s load (o ∷ os) [] h = absurd (omega arith)
placed-all s load (o ∷ []) (x ∷ []) h = one-more s true true true true true (load + o / 8 + x / 8) (elim s as (λ (b : Bool). true ≡ (pick b true true && true)) [ true ↦ refl | false ↦ refl ])
placed-all s load (o ∷ []) (x ∷ y ∷ ss) h = absurd (omega arith)
placed-all s load (o ∷ p ∷ os) (x ∷ []) h = absurd (omega arith)
placed-all s load (o ∷ p ∷ os) (x ∷ y ∷ ss) h =
    one-more s (leb (o + x) p) (list_all free (zip (zip (p ∷ os) (y ∷ ss)) os)) (list_all (reached load (pick s 65536 4294967296)) (zip (p ∷ os) (y ∷ ss)))
    (all_short load (blocks_in (p ∷ os) (y ∷ ss))) (all_placed load (blocks_in (p ∷ os) (y ∷ ss))) (load + o / 8 + x / 8)
    (placed-all s load (p ∷ os) (y ∷ ss) (omega arith))
