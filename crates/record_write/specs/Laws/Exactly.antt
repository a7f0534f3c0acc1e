-- Laws that Theorems/Exactly rests on.
use Rattle.std.specs.Prelude.{◌≡◌, ℕ, zero, suc, ◌+◌, ◌/◌, true, List, [], ◌∷◌, nat_le, refl}
use Rattle.std.proofs.Common.{not-suc-le-zero, le_of_suc-le-suc, arith, leb-true, le-leb}
use Rattle.prelude.specs.Laws.Bools.{both}
use Rattle.bitvec.specs.Part.{is_part}
use Rattle.bitvec.specs.Theorems.Part.{is_part-true, is_part-when}
use Rattle.record_write.specs.Checks.{all_parts, all_short}
use Rattle.record_write.specs.Cut.{blocks_in}
use Rattle.record_write.specs.Exactly.{AllParts, AllShort}

pub parts-each : (len : ℕ) (os ss : List ℕ) → all_parts len (blocks_in os ss) ≡ true → AllParts len os ss
unfolding all_parts blocks_in
parts-each len [] ss e k h g = absurd (not-suc-le-zero h)
parts-each len (o ∷ os) [] e k h g = absurd (not-suc-le-zero g)
parts-each len (o ∷ os) (s ∷ ss) e zero h g = is_part-true len o s (both (is_part len o s) (all_parts len (blocks_in os ss)) e).0
parts-each len (o ∷ os) (s ∷ ss) e (suc k) h g =
    parts-each len os ss (both (is_part len o s) (all_parts len (blocks_in os ss)) e).1 k (le_of_suc-le-suc h) (le_of_suc-le-suc g)

pub each-parts : (len : ℕ) (os ss : List ℕ) → AllParts len os ss → all_parts len (blocks_in os ss) ≡ true
unfolding all_parts blocks_in
each-parts len [] ss h = refl
each-parts len (o ∷ os) [] h = refl
each-parts len (o ∷ os) (s ∷ ss) h =
    rw (is_part-when len o s (h 0 (omega arith) (omega arith))) (each-parts len os ss (λ k a b. h (suc k) (omega arith) (omega arith)))

pub short-each : (load : ℕ) (os ss : List ℕ) → all_short load (blocks_in os ss) ≡ true → AllShort load os ss
unfolding all_short blocks_in
short-each load [] ss e k h g = absurd (not-suc-le-zero h)
short-each load (o ∷ os) [] e k h g = absurd (not-suc-le-zero g)
short-each load (o ∷ os) (s ∷ ss) e zero h g =
    leb-true (load + o / 8 + s / 8) 65536 (both (nat_le (load + o / 8 + s / 8) 65536) (all_short load (blocks_in os ss)) e).0
short-each load (o ∷ os) (s ∷ ss) e (suc k) h g =
    short-each load os ss (both (nat_le (load + o / 8 + s / 8) 65536) (all_short load (blocks_in os ss)) e).1 k (le_of_suc-le-suc h) (le_of_suc-le-suc g)

pub each-short : (load : ℕ) (os ss : List ℕ) → AllShort load os ss → all_short load (blocks_in os ss) ≡ true
unfolding all_short blocks_in
each-short load [] ss h = refl
each-short load (o ∷ os) [] h = refl
each-short load (o ∷ os) (s ∷ ss) h =
    rw (le-leb (load + o / 8 + s / 8) 65536 (h 0 (omega arith) (omega arith))) (each-short load os ss (λ k a b. h (suc k) (omega arith) (omega arith)))
