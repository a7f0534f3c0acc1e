-- Blocks that are neither 4 nor 16, by index.
use Rattle.std.specs.Prelude.{◌≡◌, true, ◌&&◌, List, [], ◌∷◌, ℕ, zero, suc, ◌+◌, ◌*◌, ◌%◌, ◌≤◌, ◌<◌, leb, eqb, length, get_or}
use Rattle.std.proofs.Math.Bool.{and-eq-true_iff}
use Rattle.std.proofs.Common.{arith, leb-true, eqb-true}
use Rattle.overlay.specs.Order.{in_order}
use Rattle.overlay.specs.Laws.Order.{row}
use Rattle.verify.specs.Whole.{whole, all_whole, Sound}

pub whole-means : (bytes o s : ℕ) → whole bytes o s ≡ true → (o % 8 ≡ 0) × (s % 8 ≡ 0) × (o + s ≤ 8 * bytes)
unfolding whole
whole-means bytes o s e =
    let one = (and-eq-true_iff (eqb (o % 8) 0) (eqb (s % 8) 0 && leb (o + s) (8 * bytes))).0 e in
    let two = (and-eq-true_iff (eqb (s % 8) 0) (leb (o + s) (8 * bytes))).0 one.1 in
    (eqb-true (o % 8) 0 one.0, eqb-true (s % 8) 0 two.0, leb-true (o + s) (8 * bytes) two.1)

pub each-whole : (bytes : ℕ) (os ss : List ℕ) → length os ≡ length ss → all_whole bytes os ss ≡ true
    → (i : ℕ) → i < length os → whole bytes (get_or os i 0) (get_or ss i 0) ≡ true
unfolding all_whole
each-whole bytes [] ss p e i h = absurd (omega arith)
each-whole bytes (o ∷ os) [] p e i h = absurd (omega arith)
each-whole bytes (o ∷ os) (s ∷ ss) p e zero h = ((and-eq-true_iff (whole bytes o s) (all_whole bytes os ss)).0 e).0
each-whole bytes (o ∷ os) (s ∷ ss) p e (suc i) h =
    each-whole bytes os ss (omega arith) ((and-eq-true_iff (whole bytes o s) (all_whole bytes os ss)).0 e).1 i (omega arith)

pub sound-from : (bytes : ℕ) (os ss : List ℕ) → in_order 0 os ss ≡ true → all_whole bytes os ss ≡ true → Sound os ss
sound-from bytes os ss e f =
    let r = row 0 os ss e in
    let fit : (i : ℕ) → i < length os → (get_or os i 0 % 8 ≡ 0) × (get_or ss i 0 % 8 ≡ 0) × (get_or os i 0 + get_or ss i 0 ≤ 8 * bytes) =
    λ i h. whole-means bytes
    (get_or os i 0) (get_or ss i 0) (each-whole bytes os ss r.paired f i h) in
    record {
      paired = r.paired;
      some = r.some;
      behind = r.behind;
      starts = λ i h. (fit i h).0;
      sized = λ i h. (fit i h).1;
    }
