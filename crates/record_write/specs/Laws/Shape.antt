-- Laws that Theorems/Shape rests on.
use Rattle.std.specs.Prelude.{◌≡◌, ℕ, zero, suc, ◌+◌, ◌-◌, ◌/◌, ◌%◌, ◌<◌, ◌≤◌, min, Bool, true, false, List, [], ◌∷◌, length, take, drop, ◌==◌}
use Rattle.std.proofs.Common.{sym, ap, subst, ◌∙◌, ⊎_elim, arith, length-take, length-drop, drop-drop}
use mathlib.Core.List.Memᴰ
use mathlib.Core.List.{Memᴰ}
use Rattle.prelude.specs.Pick.{pick}
use Rattle.sort.specs.Agree.{All}
use Rattle.record_lines.specs.Pieces.{Piece, piece}
use Rattle.record_lines.specs.Laws.Spelled.{bytes-none}
use Rattle.record_lines.specs.Telling.{Sits, Rises}
use Rattle.record_ihex_line.specs.Theorems.ReadBack.{written-record-good}
use Rattle.record_ihex_line.specs.Laws.ReadBack.{upper-bytes}
use Rattle.record_srec_line.specs.ReadBack.{Width}
use Rattle.record_srec_line.specs.Theorems.ReadBack.{data-sound, end-sound}
use Rattle.record_write.specs.Cut.{piece_length, cut_in}
use Rattle.record_write.specs.Laws.Rising.{piece-left}
use Rattle.record_write.specs.Laws.Said.{upper_line, data_line, hex_lines, srec_lines}
use Rattle.record_write.specs.Shape.{Good, PieceOf, Sound}

module _ (p : Piece) (from : ℕ) (s : Sits 4294967296 from p) where
  abbrev half : ℕ
  half = p.address / 65536

  half-low : half < 65536
  half-low = omega (arith, s.below, s.some)

  few : length p.bytes < 256
  few = omega (arith, s.few)

  data-good : Good (data_line p)
  data-good = written-record-good 0 (p.address % 65536) p.bytes (omega arith) (omega arith) s.bytes few

  upper-good : Good (upper_line half)
  upper-good = written-record-good 4 0 (half / 256 ∷ half % 256 ∷ []) (omega arith) (omega arith) (upper-bytes half half-low) (omega arith)

  piece-good : (rest : List (List ℕ)) → All Good rest → (t : Bool) → All Good (pick t (data_line p ∷ rest) (upper_line half ∷ data_line p ∷ rest))
  piece-good rest r true = (data-good, r)
  piece-good rest r false = (upper-good, (data-good, r))

pub hex-lines-good : (from state : ℕ) (l : List Piece) → Rises 4294967296 from l → All Good (hex_lines state l)
unfolding hex_lines
hex-lines-good from state [] r = (written-record-good 1 0 [] (omega arith) (omega arith) bytes-none (omega arith), tt)
hex-lines-good from state (p ∷ l) r =
    piece-good p from r.0 (hex_lines (p.address / 65536) l) (hex-lines-good (p.address + length p.bytes) (p.address / 65536) l r.1)
    (p.address / 65536 == state)

pub srec-lines-sound : {w : ℕ} → Width w → (top from : ℕ) (l : List Piece) → Rises top from l → All Sound (srec_lines w l)
unfolding srec_lines
srec-lines-sound v top from [] r = (end-sound v, tt)
srec-lines-sound v top from (p ∷ l) r =
    let few = r.0.few in
    (data-sound v p.address p.bytes r.0.bytes (omega arith), srec-lines-sound v top (p.address + length p.bytes) l r.1)

first_piece : (a : ℕ) (x : List ℕ) → 0 < length x → PieceOf a x (piece a (take (piece_length a (length x)) x))
first_piece a x h =
    let n = piece_length a (length x) in
    let long : length (take n x) ≡ n = length-take n x ∙ omega arith in
    let all : length x ≡ length x - 0 = omega arith in
    record {
      index = 0;
      inside = h;
      place = omega arith;
      long = long ∙ ap (λ (k : ℕ). min 16 (min k (65536 - a % 65536))) all;
      own = sym (ap (λ (k : ℕ). take k x) long);
    }

later-piece : (a n : ℕ) (x : List ℕ) (p : Piece) → n ≤ length x → PieceOf (a + n) (drop n x) p → PieceOf a x p
later-piece a n x p h q =
    let i = q.index in
    let left : length (drop n x) ≡ length x - n = length-drop n x in
    let rest : length (drop n x) - i ≡ length x - (n + i) = omega arith in
    record {
      index = n + i;
      inside = omega (arith, q.inside);
      place = q.place ∙ omega arith;
      long = q.long ∙ ap (λ (k : ℕ). min 16 (min k (65536 - p.address % 65536))) rest;
      own = q.own ∙ ap (take (length p.bytes)) (drop-drop i n x);
    }

pub cut-in-pieces : (turns a : ℕ) (x : List ℕ) (p : Piece) → Memᴰ p (cut_in turns a x) → PieceOf a x p
unfolding cut_in
cut-in-pieces zero a x p m = absurd (Memᴰ.not-nil m)
cut-in-pieces (suc turns) a [] p m = absurd (Memᴰ.not-nil m)
cut-in-pieces (suc turns) a (b ∷ l) p m =
    let n = piece_length a (length (b ∷ l)) in
    ⊎_elim
    (λ e. subst (PieceOf a (b ∷ l)) (sym e) (first_piece a (b ∷ l) (omega arith)))
    (λ k. later-piece a n (b ∷ l) p (piece-left a (length (b ∷ l))) (cut-in-pieces turns (a + n) (drop n (b ∷ l)) p k))
    (Memᴰ.cases_cons m)
