-- Laws that Theorems/Trip rests on.
use Rattle.std.specs.Prelude.{◌≡◌, refl, true, ℕ, ◌≤◌}
use mathlib.Core.List.Memᴰ
use mathlib.Core.List.{List, [], ◌∷◌, Memᴰ}
use Rattle.std.proofs.Common.{⊎_elim, arith}
use Rattle.prelude.specs.Laws.Bools.{both}
use Rattle.bitvec.specs.Part.{is_part, IsPart}
use Rattle.bitvec.specs.Theorems.Part.{is_part-true}
use Rattle.blocks.specs.declared.Block.{Block}
use Rattle.record_lines.specs.Pieces.{Piece, end_of}
use Rattle.record_scan.specs.Steps.{highest}
use Rattle.record_write.specs.Checks.{all_parts}

pub highest-within : (l : List Piece) (n : ℕ) → ((p : Piece) → Memᴰ p l → end_of p ≤ n) → highest l ≤ n
unfolding highest
highest-within [] n h = omega arith
highest-within (p ∷ l) n h = let a = h p (Memᴰ.head refl) in let b = highest-within l n (λ q m. h q (Memᴰ.tail m)) in omega arith

pub part_of : (len : ℕ) (l : List Block) → all_parts len l ≡ true → (b : Block) → Memᴰ b l → IsPart len b.origin b.size
unfolding all_parts
part_of len [] e b m = absurd (Memᴰ.not-nil m)
part_of len (d ∷ l) e b m =
    let t = both (is_part len d.origin d.size) (all_parts len l) e in
    ⊎_elim (λ s. rw s (is_part-true len d.origin d.size t.0)) (λ k. part_of len l t.1 b k) (Memᴰ.cases_cons m)
