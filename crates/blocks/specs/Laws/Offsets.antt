-- Laws that proofs about Offsets need.
use Rattle.std.specs.Prelude.{◌≡◌, refl, Bool, true, false, ℕ, ◌<◌, eqb, None, Some}
use Rattle.std.proofs.Common.{sym, arith, eqb-true, ne_eqb}
use Rattle.prelude.specs.Pick.{pick}
use Rattle.blocks.specs.Offsets.{no_offset, offset_of, word_of}

-- A word comes back from its offset, and an offset within the limits from its word.
pub word-of-offset : (word : ℕ) → word_of (offset_of word) ≡ word
word-of-offset word = go (eqb word no_offset) refl
  where
    go : (t : Bool) → eqb word no_offset ≡ t → word_of (pick t None (Some word)) ≡ word
    go true e = sym (eqb-true word no_offset e)
    go false e = refl

pub at-of-word : (o : ℕ) → o < no_offset → offset_of (word_of (Some o)) ≡ Some o
at-of-word o h = rw (ne_eqb o no_offset (λ e. omega arith))
