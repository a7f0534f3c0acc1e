-- Laws that proofs about Range need.
use Rattle.std.specs.Prelude.{◌≡◌, true, ◌&&◌, ℕ, ◌+◌, ltb, leb}
use Rattle.std.proofs.Math.Bool.{and-eq-true_iff}
use Rattle.std.proofs.Common.{ltb-true, leb-true}
use Rattle.overlay.specs.Range.{Inside, inside}

pub inside-true : (overlay released first count : ℕ) → inside overlay released first count ≡ true → Inside overlay released first count
unfolding inside
inside-true overlay released first count e =
    let one = (and-eq-true_iff (ltb 0 count) (leb (first + count) overlay && leb (first + count) released)).0 e in
    let two = (and-eq-true_iff (leb (first + count) overlay) (leb (first + count) released)).0 one.1 in
    record {
      some = ltb-true 0 count one.0;
      overlaid = leb-true (first + count) overlay two.0;
      issued = leb-true (first + count) released two.1;
    }
