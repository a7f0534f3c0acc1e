-- Laws that Theorems/Runs rests on: a bit that the overlay's blocks cover lies in one of them.
use Rattle.std.specs.Prelude.{◌≡◌, refl, true, List, [], ◌∷◌, ℕ, ◌+◌, leb, ltb}
use mathlib.Core.List.Memᴰ
use Rattle.std.proofs.Common.{leb-true, ltb-true}
use Rattle.prelude.specs.Laws.Bools.{either, clash, both}
use Rattle.bitvec.specs.Within.{covers}
use Rattle.blocks.specs.Bits.{InBlock, SomeElement}
use Rattle.blocks.specs.Outcome.{origins, sizes}
use Rattle.blocks.specs.declared.Block.{Block}
use Rattle.overlay.specs.Cover.{covered_bit}

in_block : (b : Block) (k : ℕ) → covers b.origin b.size k ≡ true → InBlock k b
unfolding covers
in_block b k e =
    let t = both (leb b.origin k) (ltb k (b.origin + b.size)) e in
    (leb-true b.origin k t.0, ltb-true k (b.origin + b.size) t.1)

pub some_block : (l : List Block) (k : ℕ) → covered_bit (origins l) (sizes l) k ≡ true → SomeElement (InBlock k) l
unfolding covered_bit
some_block [] k e = absurd (clash e refl)
some_block (b ∷ l) k e =
    either (covers b.origin b.size k)
    (λ h. (b, Memᴰ.head refl, in_block b k h))
    (λ h. let r = some_block l k (rw h at e) in (r.0, Memᴰ.tail r.1, r.2))
