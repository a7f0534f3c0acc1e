-- Laws that Theorems/Bytes rests on.
use Rattle.std.specs.Prelude.{◌≡◌, ℕ, zero, suc, ◌+◌, ◌-◌, ◌/◌, ◌<◌, ◌≤◌, true, List, [], ◌∷◌, length, take, drop, slice_index, refl}
use Rattle.std.proofs.Common.{sym, ap, ◌∙◌, ⊎_elim, not-suc-le-zero, arith, length-take, length-drop, get_or-take, get_or-drop}
use mathlib.Core.List.Memᴰ
use mathlib.Core.List.{Memᴰ}
use Rattle.std.proofs.Math.Decide.{dec_lt}
use Rattle.prelude.specs.Laws.Bools.{both}
use Rattle.bitvec.specs.Part.{is_part}
use Rattle.blocks.specs.declared.Block.{Block}
use Rattle.record_lines.specs.Pieces.{Piece, piece, GivesAt}
use Rattle.record_write.specs.Checks.{all_parts}
use Rattle.record_write.specs.Cut.{piece_length, cut_in, bytes_in, pieces_of}
use Rattle.record_write.specs.Shape.{PieceOf}
use Rattle.record_write.specs.Theorems.Shape.{pieces-long}
use Rattle.record_write.specs.Bytes.{BlockByte}

pub moved : {l : List Piece} {a c b d : ℕ} → a ≡ c → b ≡ d → GivesAt l a b → GivesAt l c d
moved e f g =
    record { from = g.from; among = g.among; index = g.index; inside = g.inside; place = g.place ∙ e; byte = g.byte ∙ f }

pub in-longer : {l m : List Piece} {a b : ℕ} → ((p : Piece) → Memᴰ p l → Memᴰ p m) → GivesAt l a b → GivesAt m a b
in-longer more g =
    record { from = g.from; among = more g.from g.among; index = g.index; inside = g.inside; place = g.place; byte = g.byte }

-- a piece, and pieces that give what is left
one_piece : (a n : ℕ) (x : List ℕ) (rest : List Piece) → ((i : ℕ) → i < length (drop n x) → GivesAt rest (a + n + i) (slice_index (drop n x) i))
    → (j : ℕ) → j < length x → GivesAt (piece a (take n x) ∷ rest) (a + j) (slice_index x j)
one_piece a n x rest more j h =
    elim (dec_lt j n) [
      | yes p ↦
          record {
            from = piece a (take n x);
            among = Memᴰ.head refl;
            index = j;
            inside = omega (arith, length-take n x);
            place = refl;
            byte = get_or-take n x j 0 p;
          }
      | no p ↦
          let place : a + n + (j - n) ≡ a + j = omega arith in
          let index : n + (j - n) ≡ j = omega arith in
          in-longer (λ q m. Memᴰ.tail m)
          (moved place (get_or-drop n x (j - n) 0 ∙ ap (λ (i : ℕ). slice_index x i) index) (more (j - n) (omega (arith, length-drop n x))))
    ]

pub cut-in-gives : (turns a : ℕ) (l : List ℕ) → length l ≤ turns → (j : ℕ) → j < length l → GivesAt (cut_in turns a l) (a + j) (slice_index l j)
unfolding cut_in
cut-in-gives zero a l h j lt = absurd (omega arith)
cut-in-gives (suc turns) a [] h j lt = absurd (not-suc-le-zero lt)
cut-in-gives (suc turns) a (b ∷ l) h j lt =
    let n = piece_length a (length (b ∷ l)) in
    let less : length (drop n (b ∷ l)) ≤ length l = omega (arith, length-drop n (b ∷ l)) in
    one_piece a n (b ∷ l) (cut_in turns (a + n) (drop n (b ∷ l))) (λ i below. cut-in-gives turns (a + n) (drop n (b ∷ l)) (omega arith) i below) j lt

-- a byte of a piece is one of the bytes that the piece was cut from
piece_byte : (start : ℕ) (bytes : List ℕ) (p : Piece) (q : PieceOf start bytes p) (j : ℕ) → j < length p.bytes
    → (q.index + j < length bytes) × (slice_index p.bytes j ≡ slice_index bytes (q.index + j))
piece_byte start bytes p q j h =
    let n = length p.bytes in
    let long : n ≤ length bytes - q.index = omega (arith, q.long) in (
      omega arith,
      ap (λ (l : List ℕ). slice_index l j) q.own ∙ get_or-take n (drop q.index bytes) j 0 h ∙ get_or-drop q.index bytes j 0,
    )

pub given-is-block-byte : (load : ℕ) (image : List ℕ) (blocks : List Block) (a b : ℕ) → GivesAt (pieces_of load image blocks) a b
    → BlockByte load image blocks a b
given-is-block-byte load image blocks a b g =
    let from = pieces-long load image blocks g.from g.among in
    let d = from.of in
    let q = from.piece in
    let (inside, same) = piece_byte (load + d.origin / 8) (bytes_in image d) g.from q g.index g.inside in
    let short : q.index + g.index < d.size / 8 = omega (arith, length-take (d.size / 8) (drop (d.origin / 8) image)) in
    record {
      of = d;
      among = from.among;
      index = q.index + g.index;
      inside = short;
      place = omega (arith, q.place, g.place);
      byte = sym (get_or-take (d.size / 8) (drop (d.origin / 8) image) (q.index + g.index) 0 short ∙ get_or-drop (d.origin / 8) image (q.index + g.index) 0)
          ∙ sym same ∙ g.byte;
    }

pub part-of-all : (len : ℕ) (blocks : List Block) → all_parts len blocks ≡ true → (b : Block) → Memᴰ b blocks → is_part len b.origin b.size ≡ true
unfolding all_parts
part-of-all len [] e b m = absurd (Memᴰ.not-nil m)
part-of-all len (d ∷ l) e b m =
    let (here, rest) = both (is_part len d.origin d.size) (all_parts len l) e in
    ⊎_elim (λ s. rw s here) (λ k. part-of-all len l rest b k) (Memᴰ.cases_cons m)
