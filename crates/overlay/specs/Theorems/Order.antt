-- Theorems about what Order defines.
use Rattle.std.specs.Prelude.{◌≡◌, true, List, ◌↔◌, ℕ, ◌+◌, get_or}
use Rattle.std.proofs.Math.Decide.{dec_le}
use Rattle.std.proofs.Common.{arith}
use Rattle.overlay.specs.Laws.Order.{row, row_back}
use Rattle.overlay.specs.Order.{Acceptable, in_order}

-- Blocks are let through exactly when they are so.
pub in-order-exactly : (os ss : List ℕ) → (in_order 0 os ss ≡ true) ↔ Acceptable os ss
in-order-exactly os ss = (to, back)
  where
    to : in_order 0 os ss ≡ true → Acceptable os ss
    to e =
        let r = row 0 os ss e in
        record {
          paired = r.paired;
          some = r.some;
          ascending = λ i j l h. omega (arith, r.behind i j l h, r.some i (omega arith));
          apart = λ i j k l h a b c d. omega (arith, r.behind i j l h);
        }

    back : Acceptable os ss → in_order 0 os ss ≡ true
    back a =
        row_back 0 os ss (record {
          paired = a.paired;
          some = a.some;
          above = λ i h. omega arith;
          behind = λ i j l h. elim (dec_le (get_or os i 0 + get_or ss i 0) (get_or os j 0)) [
            | yes y ↦ y
            | no n ↦ absurd (a.apart i j (get_or os j 0) l h (omega (arith, a.ascending i j l h)) (omega arith) (omega arith) (omega (arith, a.some j h)))
          ];
        })
