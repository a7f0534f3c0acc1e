-- A call that writes records into a buffer in which every file of theirs fits leaves all of them, or says why not.
use Rattle.std.specs.Prelude.{◌≡◌, Bool, ◌&&◌, ◌||◌, List, ◌++◌, ℕ, ◌≤◌, leb, eqb, length, drop, Result, Ok, Err}
use Rattle.std.proofs.Math.Path.{refl}
use Rattle.std.proofs.Common.{sym, subst, arith, le-leb, leb-true, eq-eqb, eqb-true}
use Rattle.std.proofs.Math.Bool.{true, false}
use Rattle.prelude.specs.Laws.Bools.{both, clash}
use Rattle.prelude.specs.Pick.{pick}
use Rattle.prelude.specs.declared.Refusal.{Refusal}
use Rattle.prelude.specs.declared.Refusal.TheVariants.{Malformed, BadPart, TooShort}
use Rattle.bitvec.specs.Bits.{Bytes}
use Rattle.blocks.specs.declared.Block.{Block}
use Rattle.record_write.specs.Checks.{all_parts, all_placed, all_short}
use Rattle.record_write.specs.Cut.{blocks_in}
use Rattle.record_write.specs.Outcome.{input, sound, Writes}
use Rattle.record_write.specs.Text.{text_of}
use Rattle.thm_record_room.specs.Records.{format_ok, records_or, PutsOr, HasRoom}
use Rattle.thm_record_room.specs.Laws.Calls.{blocks-in}
use Rattle.thm_record_room.specs.Theorems.Room.{records-length}

module _ (say : Refusal → List ℕ) (format load : ℕ) (image : List ℕ) (blocks : List Block) (old : List ℕ)
    (fit : all_parts (length image) blocks ≡ true → all_placed load blocks ≡ true → length (text_of format load image blocks) ≤ length old) where
  abbrev all : List ℕ
  all = text_of format load image blocks

  abbrev answer : Bool → Bool → Bool → Result ℕ Refusal
  answer p q f = pick p (pick q (pick f (Ok (length all)) (Err (TooShort 3))) (Err (Malformed 0))) (Err BadPart)

  abbrev left : Bool → List ℕ
  left t = pick t (all ++ drop (length all) old) old

  -- the three tests, whatever they give
  by_tests : (p q f : Bool) → all_parts (length image) blocks ≡ p → format_ok format load blocks && all_placed load blocks ≡ q → leb (length all) (length old) ≡ f
      → PutsOr say format load image blocks old (answer p q f) (left (p && q && f))
  unfolding records_or
  by_tests true true true a b c = record { counted = rw (a, b) refl; fits = rw (a, b) (leb-true (length all) (length old) c); buffer = rw (a, b) refl }
  by_tests true true false a b c =
      absurd (clash (le-leb (length all) (length old) (fit a (both (format_ok format load blocks) (all_placed load blocks) b).1)) c)
  by_tests true false f a b c = (rw (a, b) refl, refl)
  by_tests false q f a b c = (rw a refl, refl)

  writes-all : (q : Bool) → format_ok format load blocks && all_placed load blocks ≡ q → {r : Result ℕ Refusal} {new : List ℕ}
      → r ≡ answer (all_parts (length image) blocks) q (leb (length all) (length old))
      → new ≡ left (all_parts (length image) blocks && q && leb (length all) (length old)) → PutsOr say format load image blocks old r new
  writes-all q e {r} {new} is lent =
      subst (λ (x : Result ℕ Refusal). PutsOr say format load image blocks old x new) (sym is)
      (subst (λ (l : List ℕ). PutsOr say format load image blocks old (answer (all_parts (length image) blocks) q (leb (length all) (length old))) l) (sym lent)
      (by_tests (all_parts (length image) blocks) q (leb (length all) (length old)) refl e refl))

-- a is that the format is 0, b that it is 2, c that it is 4; x that addresses have 16 bits, e that the lists are as long as each other
tests-are : (a b c x e p : Bool) → e ≡ true → (a ≡ true → b ≡ true → ⊥) → (b ≡ true → c ≡ true → ⊥)
    → ((a || b || c) && pick b x true && e && p) ≡ ((a || (c || (b && x))) && p)
tests-are true true c x e p h k l = absurd (k refl refl)
tests-are true false c x e p h k l = rw h
tests-are false true true x e p h k l = absurd (l refl refl)
tests-are false true false true e p h k l = rw h
tests-are false true false false e p h k l = refl
tests-are false false true x e p h k l = rw h
tests-are false false false x e p h k l = refl

-- The call, of blocks that are lent as two lists.
module _ (image offsets sizes : List ℕ) (load : ℕ) (old : List ℕ) (good : Bytes image) (paired : length offsets ≡ length sizes)
    (room : HasRoom (length image) (length offsets) (length old)) where
  fit : (format : ℕ) → all_parts (length image) (blocks_in offsets sizes) ≡ true → all_placed load (blocks_in offsets sizes) ≡ true
      → length (text_of format load image (blocks_in offsets sizes)) ≤ length old
  fit format p q = omega (arith, records-length format load image (blocks_in offsets sizes) good p q, blocks-in offsets sizes, room)

  pub puts-records : (say : Refusal → List ℕ) (format : ℕ) {r : Result ℕ Refusal} {new : List ℕ} → Writes (input format image offsets sizes load) old r new
      → PutsOr say format load image (blocks_in offsets sizes) old r new
  puts-records say format w =
      let blocks = blocks_in offsets sizes in
      let same : sound (input format image offsets sizes load) ≡ format_ok format load blocks && all_placed load blocks =
      tests-are (eqb format 0) (eqb format 2) (eqb format 4) (all_short load blocks) (eqb (length offsets) (length sizes)) (all_placed load blocks)
      (eq-eqb (length offsets) (length sizes) paired) (λ none two. omega (arith, eqb-true format 0 none, eqb-true format 2 two))
      (λ two four. omega (arith, eqb-true format 2 two, eqb-true format 4 four)) in
      writes-all say format load image blocks old (fit format) (sound (input format image offsets sizes load)) (sym same) w.answer w.lent
