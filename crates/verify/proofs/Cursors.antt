-- Blocks of whole bytes: the tests of a block and of all, and how a walk over the bytes goes from block to block.
use mathlib.Core.Path.{◌≡◌, refl, sym, ◌∙◌}
use mathlib.Core.Bool.{false}
use mathlib.Core.List.{List, [], ◌∷◌}
use Prim.Native.Nat.{ℕ, ◌+◌, ◌*◌, ◌/◌, ◌%◌, ◌≤◌, ◌<◌}
use native.Mathlib.Decide.{dec_lt, dec_le}
use native.Mathlib.Omega.{arith}
use borrow.Author.Tests.{le-leb, lt-leb}
use lib.Dec.{leb}
use lib.ListN.{length, get_or}
use Rattle.std.specs.List.{list_all, zip}
use Rattle.overlay.specs.Cover.{covered_bit}
use Rattle.overlay.specs.Laws.CoverFacts.{covered-by, uncovered}
use Rattle.verify.specs.Whole.{whole, all_whole, Sound}
use Rattle.verify.specs.Put.{Cursor}

-- an end in bytes, of a block on byte edges
pub leb-eighth : (o s bytes : ℕ) → o % 8 ≡ 0 → s % 8 ≡ 0 → leb (o / 8 + s / 8) bytes ≡ leb (o + s) (8 * bytes)
leb-eighth o s bytes e f =
    elim (dec_le (o + s) (8 * bytes)) [
      | yes y ↦ le-leb (o / 8 + s / 8) bytes (omega arith) ∙ sym (le-leb (o + s) (8 * bytes) y)
      | no y ↦ lt-leb (o / 8 + s / 8) bytes (omega arith) ∙ sym (lt-leb (o + s) (8 * bytes) (omega arith))
    ]

-- ---- the check of all

pub whole-pairs : (bytes : ℕ) (os ss : List ℕ) → all_whole bytes os ss ≡ list_all (λ p. whole bytes p.0 p.1) (zip os ss)
unfolding all_whole
whole-pairs bytes [] ss = refl
whole-pairs bytes (o ∷ os) [] = refl
whole-pairs bytes (o ∷ os) (s ∷ ss) = rw (whole-pairs bytes os ss)

-- ---- the block that a walk has come to

module _ (os ss : List ℕ) (sound : Sound os ss) where
  pub cursor-starts : Cursor os ss 0 0
  cursor-starts = record { few = omega arith; below = λ m h. absurd (omega arith); past = λ h. omega (arith, sound.some 0 h) }

  module _ (b at : ℕ) (c : Cursor os ss b at) where
    pub has-none : length os ≤ at → false ≡ covered_bit os ss (8 * b)
    has-none e = sym (uncovered os ss (8 * b) (λ i h l u. omega (arith, c.below i (omega arith))))

    module _ (h : at < length os) where
      pub has_here : leb (get_or os at 0 / 8) b ≡ covered_bit os ss (8 * b)
      has_here =
          let edge = sound.starts at h in
          elim (dec_le (get_or os at 0 / 8) b) [
            | yes y ↦
                le-leb (get_or os at 0 / 8) b y ∙ sym (covered-by os ss at (8 * b) h sound.paired (omega arith) (c.past h))
            | no y ↦
                lt-leb (get_or os at 0 / 8) b (omega arith) ∙ sym (uncovered os ss (8 * b) (λ i k l u. other i k l u (omega arith)))
          ]
        where
          other : (i : ℕ) → i < length os → get_or os i 0 ≤ 8 * b → 8 * b < get_or os i 0 + get_or ss i 0 → b < get_or os at 0 / 8 → ⊥
          other i k l u z =
              elim (dec_lt i at) [
                | yes y ↦ omega (arith, c.below i y)
                | no y ↦
                    elim (dec_lt at i) [
                      | yes v ↦ omega (arith, sound.behind at i v k, sound.some at h)
                      | no v ↦ let e : i ≡ at = omega arith in let g : get_or os at 0 ≤ 8 * b = rw (← e) l in omega arith
                    ]
              ]
