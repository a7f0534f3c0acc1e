-- Laws that proofs about Pieces need.
use Rattle.std.specs.Prelude.{◌≡◌, refl, ℕ, zero, suc, ◌+◌, ◌-◌, ◌*◌, ◌/◌, ◌%◌, ◌≤◌, ◌<◌, leb, take, drop}
use Rattle.std.proofs.Common.{ap, ◌∙◌, length-take, length-drop, drop_of_length-le}
use Rattle.std.proofs.Math.Path.{subst}
use Rattle.std.proofs.Math.Bool.{true}
use mathlib.Core.List.{List, [], ◌∷◌, ◌++◌}
use Rattle.std.proofs.Math.Decide.{dec_lt, dec_le}
use native.Mathlib.Omega.{arith}
use borrow.Author.Tests.{leb-true, le-leb}
use Rattle.std.proofs.Math.ListN.{length}
use Rattle.prelude.specs.Laws.Bools.{both}
use Rattle.bitvec.specs.Part.{is_part}
use Rattle.bitvec.specs.Theorems.Part.{is_part-true}
use Rattle.blocks.specs.Walk.{end_of}
use Rattle.blocks.specs.declared.Block.{Block}
use Rattle.record_lines.specs.Pieces.{Piece}
use Rattle.record_write.specs.Checks.{all_parts, starts_behind, placed, all_placed}
use Rattle.record_write.specs.Cut.{piece_length, cut_in, cut, bytes_in, pieces_of}
use Rattle.record_write.specs.Laws.Rising.{long-part}
use Rattle.thm_record_room.specs.Pieces.{cost}

-- ---- sums over plain numbers

div-up : (m n : ℕ) → m ≤ n → m / 65536 ≤ n / 65536
div-up m n h = omega arith

-- one piece of n bytes, of which `rest` are left behind it
sum-up : (t n rest all c p q r : ℕ) → t ≡ n → rest + n ≡ all → 240 + 240 * p ≤ 15 * n + 240 * q → 16 * c + 240 * q ≤ 47 * rest + 225 + 240 * r
    → 16 * (15 + 2 * t + c) + 240 * p ≤ 47 * all + 225 + 240 * r
sum-up t n rest all c p q r e f g h = omega arith

-- one block of n bytes at a, and the blocks behind it
join : (whole first rest n k a p q r m t blocks : ℕ) → whole ≡ first + rest → p ≤ q → k ≤ a → 16 * first + 240 * q ≤ 47 * n + 225 + 240 * r
    → 16 * rest + 240 * r + 47 * (a + n) ≤ m + 225 * blocks + t
    → 16 * whole + 240 * p + 47 * k ≤ m + 225 * suc blocks + t
join whole first rest n k a p q r m t blocks e f g h i = omega arith

cost-append : (k l : List Piece) → cost (k ++ l) ≡ cost k + cost l
unfolding cost
cost-append [] l = omega arith
cost-append (p ∷ k) l = omega (arith, cost-append k l)

none_left : (turns a : ℕ) → cost (cut_in turns a []) ≡ 0
unfolding cost cut_in
none_left zero a = refl
none_left (suc turns) a = refl

-- a piece behind which its block goes on has 16 bytes, or ends with its 64 KiB line
full-or-line : (a n left : ℕ) → n ≡ piece_length a left → n < left → 240 + 240 * (a / 65536) ≤ 15 * n + 240 * ((a + n) / 65536)
full-or-line a n left e h =
    elim (dec_le 16 n) [
      | yes full ↦ omega arith
      | no short ↦
          let line : a % 65536 + n ≡ 65536 = omega arith in
          omega arith
    ]

cut-cost : (turns a : ℕ) (x : List ℕ) → length x ≤ turns
    → 16 * cost (cut_in turns a x) + 240 * (a / 65536) ≤ 47 * length x + 225 + 240 * ((a + length x) / 65536)
unfolding cost cut_in
cut-cost zero a x h = omega arith
cut-cost (suc turns) a [] h = omega arith
cut-cost (suc turns) a (b ∷ l) h =
    let n = piece_length a (length (b ∷ l)) in
    let rest = drop n (b ∷ l) in
    let some : 0 < n = omega arith in
    let within : n ≤ length (b ∷ l) = omega arith in
    let long : length (take n (b ∷ l)) ≡ n = length-take n (b ∷ l) ∙ omega arith in
    let after : length rest ≡ length (b ∷ l) - n = length-drop n (b ∷ l) in
    elim (dec_lt n (length (b ∷ l))) [
      | yes more ↦
          let end : a + n + length rest ≡ a + length (b ∷ l) = omega arith in
          let left = cut-cost turns (a + n) rest (omega arith) in
          let same = subst (λ (m : ℕ). 16 * cost (cut_in turns (a + n) rest) + 240 * ((a + n) / 65536) ≤ 47 * length rest + 225 + 240 * (m / 65536)) end left in
          sum-up (length (take n (b ∷ l))) n (length rest) (length (b ∷ l)) (cost (cut_in turns (a + n) rest)) (a / 65536) ((a + n) / 65536)
          ((a + length (b ∷ l)) / 65536) long (omega arith) (full-or-line a n (length (b ∷ l)) refl more) same
      | no last ↦
          let past : length (b ∷ l) ≤ n = omega arith in
          let none : cost (cut_in turns (a + n) rest) ≡ 0 =
          ap (λ (r : List ℕ). cost (cut_in turns (a + n) r)) (drop_of_length-le (b ∷ l) past) ∙ none_left turns (a + n) in
          let low : a / 65536 ≤ (a + length (b ∷ l)) / 65536 = omega arith in
          let all : length (take n (b ∷ l)) ≡ length (b ∷ l) = omega arith in
          omega (arith, none, low, all)
    ]

-- ---- the blocks, in order, within the image

module _ (load : ℕ) (image : List ℕ) where
  abbrev top : ℕ
  top = load + length image

  blocks-cost : (blocks : List Block) (k : ℕ) → all_parts (length image) blocks ≡ true → all_placed load blocks ≡ true → starts_behind (8 * k) blocks ≡ true
      → load + k ≤ top
      → 16 * cost (pieces_of load image blocks) + 240 * ((load + k) / 65536) + 47 * (load + k) ≤ 47 * top + 225 * length blocks + 240 * (top / 65536)
  unfolding all_parts all_placed pieces_of cost
  blocks-cost [] k p q s f = omega arith
  blocks-cost (b ∷ l) k p q s f =
      let (part, parts) = both (is_part (length image) b.origin b.size) (all_parts (length image) l) p in
      let (here, places) = both (placed load b l) (all_placed load l) q in
      let (next, low) = both (starts_behind (end_of b) l) (leb (load + b.origin / 8 + b.size / 8) 4294967296) here in
      let is = is_part-true (length image) b.origin b.size part in
      let starts = is.starts in
      let ends = is.ends in
      let inside = is.inside in
      let x = bytes_in image b in
      let a = load + b.origin / 8 in
      let long = long-part image b part in
      let whole : b.origin + b.size ≡ 8 * (b.origin / 8 + b.size / 8) = omega arith in
      let behind : starts_behind (8 * (b.origin / 8 + b.size / 8)) l ≡ true = subst (λ (n : ℕ). starts_behind n l ≡ true) whole next in
      let first : 8 * k ≤ b.origin = leb-true (8 * k) b.origin s in
      let low-start : load + k ≤ a = omega arith in
      let end : load + (b.origin / 8 + b.size / 8) ≡ a + length x = omega arith in
      let rest = blocks-cost l (b.origin / 8 + b.size / 8) parts places behind (omega arith) in
      let then = subst (λ (m : ℕ). 16 * cost (pieces_of load image l) + 240 * (m / 65536) + 47 * m ≤ 47 * top + 225 * length l + 240 * (top / 65536))
      end rest in
      let below : (load + k) / 65536 ≤ a / 65536 = div-up (load + k) a low-start in
      join (cost (cut a x ++ pieces_of load image l)) (cost (cut a x)) (cost (pieces_of load image l)) (length x) (load + k) a ((load + k) / 65536) (a / 65536)
      ((a + length x) / 65536) (47 * top) (240 * (top / 65536)) (length l) (cost-append (cut a x) (pieces_of load image l)) below low-start
      (cut-cost (length x) a x (omega arith)) then

  pub pieces-cost : (blocks : List Block) → all_parts (length image) blocks ≡ true → all_placed load blocks ≡ true
      → 16 * cost (pieces_of load image blocks) + 240 * (load / 65536) ≤ 47 * length image + 225 * length blocks + 240 * ((load + length image) / 65536)
  pieces-cost blocks p q =
      let none : load + 0 ≡ load = omega arith in
      let all = subst (λ (m : ℕ). 16 * cost (pieces_of load image blocks) + 240 * (m / 65536) + 47 * m ≤ 47 * top + 225 * length blocks + 240 * (top / 65536))
      none (blocks-cost blocks 0 p q (from_zero blocks) (omega arith)) in
      omega (arith, all)
    where
      from_zero : (l : List Block) → starts_behind 0 l ≡ true
      from_zero [] = refl
      from_zero (b ∷ l) = le-leb 0 b.origin (omega arith)
