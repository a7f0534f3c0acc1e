-- Laws that Theorems/Copied rests on.
use Rattle.std.specs.Prelude.{◌≡◌, refl, Bool, true, ◌&&◌, ℕ, suc, ◌+◌, ◌*◌, ◌/◌, ◌≤◌, ◌<◌, leb}
use Rattle.std.proofs.Common.{ap, subst, ⊎_elim, arith, le-leb, leb-true}
use mathlib.Core.List.Memᴰ
use mathlib.Core.List.{List, [], ◌∷◌, map, Memᴰ}
use Rattle.prelude.specs.Laws.Bools.{both}
use Rattle.bitvec.specs.Part.{IsPart}
use Rattle.bitvec.specs.Theorems.Part.{is_part-when}
use Rattle.blocks.specs.declared.Block.{Block}
use Rattle.blocks.specs.Outcome.{origins, sizes}
use Rattle.blocks.specs.Walk.{block}
use Rattle.record_lines.specs.Pieces.{Piece, end_of}
use Rattle.record_scan.specs.Reading.{is_new}
use Rattle.record_scan.specs.Sound.{Fine, none, more}
use Rattle.record_read.specs.Runs.{in_bits}
use Rattle.record_read.specs.RunLaws.{AreRuns}
use Rattle.record_write.specs.Checks.{all_parts, starts_behind, all_placed}
use Rattle.record_write.specs.Cut.{blocks_in}

-- ---- a good file's pieces lie between the load address and 2^32

pub fine-within : (load : ℕ) {l : List Piece} → Fine load l → (p : Piece) → Memᴰ p l → (load ≤ p.address) × (end_of p ≤ 4294967296)
fine-within load none p m = absurd (Memᴰ.not-nil m)
fine-within load (more l q f e) p m =
    let t = both (leb load q.address && leb (end_of q) 4294967296) (is_new l q.address (end_of q)) e in
    let u = both (leb load q.address) (leb (end_of q) 4294967296) t.0 in
    ⊎_elim
    (λ k. fine-within load f p k)
    (λ k. let s : p ≡ q = Memᴰ.eq_of_singleton k in rw s (leb-true load q.address u.0, leb-true (end_of q) 4294967296 u.1))
    (Memᴰ.append_cases l m)

-- ---- runs in bits are blocks that may be written

pub runs-parts : (test : ℕ → Bool) (lo hi len : ℕ) (l : List Block) → AreRuns test lo hi l → hi ≤ suc len → all_parts len (map in_bits l) ≡ true
unfolding all_parts
runs-parts test lo hi len [] r h = refl
runs-parts test lo hi len (b ∷ l) r h =
    let part : IsPart len (8 * b.origin) (8 * b.size) =
    record { some = omega (arith, r.0.some); starts = omega arith; ends = omega arith; inside = omega (arith, r.0.ends) } in
    rw (is_part-when len (8 * b.origin) (8 * b.size) part) (runs-parts test (b.origin + b.size) hi len l r.1 h)

next-behind : (test : ℕ → Bool) (end hi : ℕ) (l : List Block) → AreRuns test end hi l → starts_behind (8 * end) (map in_bits l) ≡ true
next-behind test end hi [] r = refl
next-behind test end hi (c ∷ l) r = le-leb (8 * end) (8 * c.origin) (omega (arith, r.0.from))

pub runs-placed : (test : ℕ → Bool) (load lo hi : ℕ) (l : List Block) → AreRuns test lo hi l → ((x : ℕ) → 0 < x → x < hi → load + x ≤ 4294967296)
    → all_placed load (map in_bits l) ≡ true
unfolding all_placed
runs-placed test load lo hi [] r low = refl
runs-placed test load lo hi (b ∷ l) r low =
    let end = low (b.origin + b.size) (omega (arith, r.0.some)) r.0.ends in
    let z : 8 * (b.origin + b.size) ≡ 8 * b.origin + 8 * b.size = omega arith in
    let next : starts_behind (8 * b.origin + 8 * b.size) (map in_bits l) ≡ true =
    subst (λ (n : ℕ). starts_behind n (map in_bits l) ≡ true) z (next-behind test (b.origin + b.size) hi l r.1) in
    rw (next, le-leb (load + 8 * b.origin / 8 + 8 * b.size / 8) 4294967296 (omega arith)) (runs-placed test load (b.origin + b.size) hi l r.1 low)

-- ---- from a file of any format to Intel HEX

pub and-true : {p q : Bool} → p ≡ true → q ≡ true → (p && q) ≡ true
and-true e f = rw (e, f)

pub columns : (l : List Block) → blocks_in (origins l) (sizes l) ≡ l
unfolding blocks_in
columns [] = refl
columns (b ∷ l) = ap (λ (r : List Block). block b.origin b.size ∷ r) (columns l)
