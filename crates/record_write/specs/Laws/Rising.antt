-- Laws that Theorems/Rising rests on.
use Rattle.std.specs.Prelude.{◌≡◌, ℕ, zero, suc, ◌+◌, ◌-◌, ◌*◌, ◌/◌, ◌<◌, ◌≤◌, min, true, List, [], ◌∷◌, ◌++◌, length, take, drop, nat_le, refl}
use Rattle.std.proofs.Common.{sym, ap, ◌∙◌, le_refl, length-take}
use Rattle.std.proofs.Math.Path.{subst}
use native.Mathlib.Omega.{arith}
use borrow.Author.Tests.{leb-true, le-leb}
use Rattle.std.proofs.Math.ListN.{length-drop}
use Rattle.prelude.specs.Laws.Bools.{both}
use Rattle.bitvec.specs.Bits.{Bytes}
use Rattle.bitvec.specs.Part.{is_part}
use Rattle.bitvec.specs.Theorems.Part.{is_part-true}
use Rattle.sort.specs.Agree.{All}
use Rattle.blocks.specs.declared.Block.{Block}
use Rattle.blocks.specs.Walk.{end_of}
use Rattle.record_lines.specs.Pieces.{Piece, piece}
use Rattle.record_lines.specs.Laws.Spelled.{bytes_take, bytes_drop}
use Rattle.record_lines.specs.Telling.{Rises}
use Rattle.record_lines.specs.Laws.Telling.{rises-lower}
use Rattle.record_write.specs.Checks.{all_parts, starts_behind, placed, all_placed}
use Rattle.record_write.specs.Cut.{piece_length, cut_in, cut, bytes_in, pieces_of}

-- A piece has a byte where one is left, at most 16 of them, and at most those that are left.
pub piece-some : (address left : ℕ) → 0 < left → 0 < piece_length address left
piece-some address left h = omega arith

pub piece-few : (address left : ℕ) → piece_length address left ≤ 16
piece-few address left = omega arith

pub piece-left : (address left : ℕ) → piece_length address left ≤ left
piece-left address left = omega arith

-- Bytes that are cut from an address on, and pieces behind them.
module _ (top : ℕ) where
  one-rises : (n a : ℕ) (x : List ℕ) (rest : List Piece) → 0 < n → n ≤ 16 → n ≤ length x → a + length x ≤ top → Bytes x → Rises top (a + n) rest → Rises top a
      (piece a (take n x) ∷ rest)
  one-rises n a x rest some few left fits good r =
      let long : length (take n x) ≡ n = length-take n x ∙ omega arith in (
        record {
          above = le_refl a;
          some = rw long some;
          few = rw long few;
          below = rw long (omega arith);
          bytes = bytes_take n x good;
        },
        subst (λ (k : ℕ). Rises top (a + k) rest) (sym long) r,
      )

  cut-in-rises : (turns a : ℕ) (x : List ℕ) (rest : List Piece) → length x ≤ turns → a + length x ≤ top → Bytes x → Rises top (a + length x) rest → Rises top a
      (cut_in turns a x ++ rest)
  unfolding cut_in
  cut-in-rises zero a x rest h fits good r = rises-lower top rest (omega arith) r
  cut-in-rises (suc turns) a [] rest h fits good r = rises-lower top rest (omega arith) r
  cut-in-rises (suc turns) a (b ∷ l) rest h fits good r =
      let n = piece_length a (length (b ∷ l)) in
      let some : 0 < n = piece-some a (length (b ∷ l)) (omega arith) in
      let left : n ≤ length (b ∷ l) = piece-left a (length (b ∷ l)) in
      let after : length (drop n (b ∷ l)) ≡ length (b ∷ l) - n = length-drop n (b ∷ l) in
      let end : a + length (b ∷ l) ≡ a + n + length (drop n (b ∷ l)) = omega arith in
      one-rises n a (b ∷ l) (cut_in turns (a + n) (drop n (b ∷ l)) ++ rest) some (piece-few a (length (b ∷ l))) left fits good
      (cut-in-rises turns (a + n) (drop n (b ∷ l)) rest (omega arith) (omega arith) (bytes_drop n (b ∷ l) good)
      (subst (λ (k : ℕ). Rises top k rest) end r))

  pub cut-rises : (a : ℕ) (x : List ℕ) (rest : List Piece) → a + length x ≤ top → Bytes x → Rises top (a + length x) rest → Rises top a (cut a x ++ rest)
  cut-rises a x rest fits good r = cut-in-rises (length x) a x rest (le_refl (length x)) fits good r

-- A block's last byte has an address below `top`.
abbrev pub EndsBy : ℕ → ℕ → Block → Type 0
EndsBy top load b = load + b.origin / 8 + b.size / 8 ≤ top

-- The bytes of a part are as many as its bits say.
pub long-part : (image : List ℕ) (b : Block) → is_part (length image) b.origin b.size ≡ true → length (bytes_in image b) ≡ b.size / 8
long-part image b t =
    let p = is_part-true (length image) b.origin b.size t in
    let starts = p.starts in
    let ends = p.ends in
    let inside = p.inside in
    let fits : b.size / 8 ≤ length image - b.origin / 8 = omega arith in
    length-take (b.size / 8) (drop (b.origin / 8) image) ∙ ap (min (b.size / 8)) (length-drop (b.origin / 8) image) ∙ omega arith

module _ (top load : ℕ) (image : List ℕ) (good : Bytes image) where
  rise-behind : (blocks : List Block) (k : ℕ) → all_parts (length image) blocks ≡ true → all_placed load blocks ≡ true → All (EndsBy top load) blocks
      → starts_behind (8 * k) blocks ≡ true
      → Rises top (load + k) (pieces_of load image blocks)
  unfolding all_parts all_placed pieces_of
  rise-behind [] k p q e s = tt
  rise-behind (b ∷ l) k p q e s =
      let (part, parts) = both (is_part (length image) b.origin b.size) (all_parts (length image) l) p in
      let (here, places) = both (placed load b l) (all_placed load l) q in
      let (next, low) = both (starts_behind (end_of b) l) (nat_le (load + b.origin / 8 + b.size / 8) 4294967296) here in
      let is = is_part-true (length image) b.origin b.size part in
      let starts = is.starts in
      let ends = is.ends in
      let long = long-part image b part in
      let fits : EndsBy top load b = e.0 in
      let whole : b.origin + b.size ≡ 8 * (b.origin / 8 + b.size / 8) = omega arith in
      let behind : starts_behind (8 * (b.origin / 8 + b.size / 8)) l ≡ true = subst (λ (n : ℕ). starts_behind n l ≡ true) whole next in
      let first : 8 * k ≤ b.origin = leb-true (8 * k) b.origin s in
      let end : load + (b.origin / 8 + b.size / 8) ≡ load + b.origin / 8 + length (bytes_in image b) = omega arith in
      rises-lower top (cut (load + b.origin / 8) (bytes_in image b) ++ pieces_of load image l) (omega arith)
      (cut-rises top (load + b.origin / 8) (bytes_in image b) (pieces_of load image l) (omega arith)
      (bytes_take (b.size / 8) (drop (b.origin / 8) image) (bytes_drop (b.origin / 8) image good))
      (subst (λ (n : ℕ). Rises top n (pieces_of load image l)) end
      (rise-behind l (b.origin / 8 + b.size / 8) parts places e.1 behind)))

  pub rise-below : (blocks : List Block) → all_parts (length image) blocks ≡ true → all_placed load blocks ≡ true → All (EndsBy top load) blocks → Rises top load
      (pieces_of load image blocks)
  rise-below blocks p q e =
      let here : load + 0 ≡ load = omega arith in
      subst (λ (n : ℕ). Rises top n (pieces_of load image blocks)) here (rise-behind blocks 0 p q e (from_zero blocks))
    where
      from_zero : (l : List Block) → starts_behind 0 l ≡ true
      from_zero [] = refl
      from_zero (b ∷ l) = le-leb 0 b.origin (omega arith)

-- "an address past 2^32 - 1": none has.
pub all-low : (load : ℕ) (blocks : List Block) → all_placed load blocks ≡ true → All (EndsBy 4294967296 load) blocks
unfolding all_placed
all-low load [] q = tt
all-low load (b ∷ l) q =
    let (here, places) = both (placed load b l) (all_placed load l) q in
    let (next, low) = both (starts_behind (end_of b) l) (nat_le (load + b.origin / 8 + b.size / 8) 4294967296) here in
    (leb-true (load + b.origin / 8 + b.size / 8) 4294967296 low, all-low load l places)
