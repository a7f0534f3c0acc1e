-- All blocks, one after the other: what holds between two blocks, and a law for a turn.
use Rattle.std.proofs.Common.{◌≡◌, ℕ, ◌+◌, ◌-◌, ◌*◌, ◌/◌, ◌<◌, ◌≤◌, min, true, leb, List, [], ◌∷◌, ◌++◌, length, get_or, take, drop, sym, refl, ap, ◌∙◌, append_assoc, append-nil, arith, length-append, leb-true}
use mathlib.Core.Bool.{and-eq-true_iff}
use Rattle.blocks.specs.declared.Block.{Block}
use Rattle.blocks.specs.Walk.{end_of}
use Rattle.bitvec.specs.Part.{is_part}
use Rattle.bitvec.specs.Theorems.Part.{is_part-true}
use Rattle.record_lines.specs.Pieces.{Piece}
use Rattle.record_lines.specs.Puts.{Puts}
use Rattle.record_write.specs.declared.Place.{Place}
use Rattle.record_write.specs.Checks.{all_parts, starts_behind, placed, all_placed}
use Rattle.record_write.specs.Cut.{cut, blocks_in, pieces_of}
use Rattle.record_write.specs.Going.{Writing, BlockWritten, Ready}
use Rattle.record_write.specs.Text.{end_by, lines_from, state_from, text_of}
use Rattle.record_write.specs.Laws.Text.{lines-append}
use Rattle.record_write.proofs.BlockList.{left, behind, here, blocks_at, blocks-none}
use Rattle.record_write.proofs.BlockTurns.{writing-on}

-- The place is bounded by the address of what is to come.
abbrev pub Few : ℕ → ℕ → List Block → Type 0
Few load at [] = at ≤ 1044 * 4294967296
Few load at (b ∷ l) = at ≤ 1044 * (load + b.origin / 8)

pub few-none : (load : ℕ) (l : List Block) → Few load 0 l
few-none load [] = omega arith
few-none load (b ∷ l) = omega arith

-- What a block that is to be written has.
pub record Fits (len load : ℕ) (b : Block) : Type 0 where
  pub inside : b.origin / 8 + b.size / 8 ≤ len
  pub below : load + b.origin / 8 + b.size / 8 ≤ 4294967296

module _ (len load : ℕ) (b : Block) (l : List Block) (parts : all_parts len (b ∷ l) ≡ true) (places : all_placed load (b ∷ l) ≡ true) where
  is-part : is_part len b.origin b.size ≡ true
  unfolding all_parts
  is-part = ((and-eq-true_iff (is_part len b.origin b.size) (all_parts len l)).0 parts).0

  is-placed : placed load b l ≡ true
  unfolding all_placed
  is-placed = ((and-eq-true_iff (placed load b l) (all_placed load l)).0 places).0

  pub parts-rest : all_parts len l ≡ true
  unfolding all_parts
  parts-rest = ((and-eq-true_iff (is_part len b.origin b.size) (all_parts len l)).0 parts).1

  pub places-rest : all_placed load l ≡ true
  unfolding all_placed
  places-rest = ((and-eq-true_iff (placed load b l) (all_placed load l)).0 places).1

  below_end : load + b.origin / 8 + b.size / 8 ≤ 4294967296
  below_end = leb-true (load + b.origin / 8 + b.size / 8) 4294967296
      ((and-eq-true_iff (starts_behind (end_of b) l) (leb (load + b.origin / 8 + b.size / 8) 4294967296)).0 is-placed).1

  pub block-fits : Fits len load b
  block-fits = let p = is_part-true len b.origin b.size is-part in record { inside = omega (arith, p.starts, p.ends, p.inside); below = below_end }

  -- the next block starts no lower than this one ends
  pub few-rest : (at : ℕ) → at ≤ 1044 * (load + b.origin / 8 + b.size / 8) → Few load at l
  few-rest at h = go l ((and-eq-true_iff (starts_behind (end_of b) l) (leb (load + b.origin / 8 + b.size / 8) 4294967296)).0 is-placed).0
    where
      go : (m : List Block) → starts_behind (end_of b) m ≡ true → Few load at m
      go [] e = let q = below_end in omega arith
      go (d ∷ m) e =
          let p = is_part-true len b.origin b.size is-part in
          let q = leb-true (end_of b) d.origin e in
          omega (arith, p.starts, p.ends)

module _ (image os ss : List ℕ) (load : ℕ) where
  -- What is known of the blocks from the i-th on, and of the place where their lines begin.
  pub record Standing (at i : ℕ) : Type 0 where
    pub within : i ≤ length os
    pub parts : all_parts (length image) (left os ss i) ≡ true
    pub places : all_placed load (left os ss i) ≡ true
    pub few : Few load at (left os ss i)

  pub stands-first : Ready image os ss load → Standing 0 0
  stands-first r = record { within = omega arith; parts = r.parts; places = r.places; few = few-none load (blocks_in os ss) }

  module _ (r : Ready image os ss load) {at i : ℕ} (s : Standing at i) where
    module _ (h : i < length os) where
      pub now-at : left os ss i ≡ here os ss i ∷ behind os ss i
      now-at = blocks_at os ss i h (omega (arith, r.paired))

      parts-now : all_parts (length image) (here os ss i ∷ behind os ss i) ≡ true
      parts-now = rw now-at at s.parts

      places-now : all_placed load (here os ss i ∷ behind os ss i) ≡ true
      places-now = rw now-at at s.places

      pub now-fits : Fits (length image) load (here os ss i)
      now-fits = block-fits (length image) load (here os ss i) (behind os ss i) parts-now places-now

      pub now-few : at ≤ 1044 * (load + get_or os i 0 / 8)
      now-few = rw now-at at s.few

      pub stands_on : (end : ℕ) → end ≤ 1044 * (load + get_or os i 0 / 8 + get_or ss i 0 / 8) → Standing end (i + 1)
      stands_on end b =
          record {
            within = omega arith;
            parts = parts-rest (length image) load (here os ss i) (behind os ss i) parts-now places-now;
            places = places-rest (length image) load (here os ss i) (behind os ss i) parts-now places-now;
            few = few-rest (length image) load (here os ss i) (behind os ss i) parts-now places-now end b;
          }

    module _ (h : length os ≤ i) where
      pub last_none : left os ss i ≡ []
      last_none = blocks-none os ss i (omega (arith, r.paired))

      pub last-few : at ≤ 1044 * 4294967296
      last-few = rw last_none at s.few

-- What is still to come of a text that has room has it.
room-left : {whole old text rest : List ℕ} {at : ℕ} → Writing whole old at text rest → length whole ≤ length old → at + length rest ≤ length old
room-left {rest = rest} w h = omega (arith, w.puts.long, ap length w.split, length-append w.done rest)

module _ (format : ℕ) (image os ss : List ℕ) (load : ℕ) (old : List ℕ) where
  abbrev pub lines_left : ℕ → ℕ → List ℕ
  lines_left state i = lines_from format state (pieces_of load image (left os ss i)) ++ end_by format

  pub record AllGoing (p : Place) (i : ℕ) (text : List ℕ) : Type 0 where
    pub stands : Standing image os ss load p.at i
    pub long : length text ≡ length old
    pub writing : Writing (text_of format load image (blocks_in os ss)) old p.at text (lines_left p.state i)

  pub all_first : Ready image os ss load → AllGoing (record { at = 0; state = 0 }) 0 old
  all_first r = record {
    stands = stands-first image os ss load r;
    long = refl;
    writing = record { done = []; split = refl; puts = record { long = refl; part = refl } };
  }

  module _ (r : Ready image os ss load) {p : Place} {i : ℕ} {text : List ℕ} (g : AllGoing p i text) where
    module _ (h : i < length os) where
      pieces-at : (n : ℕ) → n ≡ get_or ss i 0 / 8
          → pieces_of load image (left os ss i) ≡ cut (load + get_or os i 0 / 8) (take n (drop (get_or os i 0 / 8) image)) ++ pieces_of load image
          (behind os ss i)
      unfolding pieces_of
      pieces-at n e =
          ap (pieces_of load image) (now-at image os ss load r g.stands h)
          ∙ ap (λ (k : ℕ). cut (load + get_or os i 0 / 8) (take k (drop (get_or os i 0 / 8) image)) ++ pieces_of load image (behind os ss i)) (sym e)

      pub all-on : (n : ℕ) (q : Place) (new : List ℕ) → n ≡ get_or ss i 0 / 8
          → BlockWritten format (load + get_or os i 0 / 8) (take n (drop (get_or os i 0 / 8) image)) p text q new
          → q.at ≤ 1044 * (load + get_or os i 0 / 8 + n) → AllGoing q (i + 1) new
      all-on n q new e w b =
          let here-pieces = cut (load + get_or os i 0 / 8) (take n (drop (get_or os i 0 / 8) image)) in
          let rest = pieces_of load image (behind os ss i) in
          let lines : lines_left p.state i ≡ lines_from format p.state here-pieces ++ (lines_from format q.state rest ++ end_by format) =
          ap (λ (x : _). lines_from format p.state x ++ end_by format) (pieces-at n e)
          ∙ ap (λ (x : List ℕ). x ++ end_by format) (lines-append format p.state here-pieces rest)
          ∙ ap (λ (s : ℕ). (lines_from format p.state here-pieces ++ lines_from format s rest) ++ end_by format) (sym w.state)
          ∙ append_assoc (lines_from format p.state here-pieces) (lines_from format q.state rest) (end_by format) in
          record {
            stands = stands_on image os ss load r g.stands h q.at (rw e at b);
            long = w.long ∙ g.long;
            writing = w.adds.goes (text_of format load image (blocks_in os ss)) old (lines_from format q.state rest ++ end_by format)
                (rw lines at g.writing);
          }

      -- there is room for the block
      pub now-room : length (text_of format load image (blocks_in os ss)) ≤ length old → (n : ℕ) → n ≡ get_or ss i 0 / 8
          → p.at + length (lines_from format p.state (cut (load + get_or os i 0 / 8) (take n (drop (get_or os i 0 / 8) image)))) ≤ length text
      now-room room n e =
          let mine = cut (load + get_or os i 0 / 8) (take n (drop (get_or os i 0 / 8) image)) in
          let rest = pieces_of load image (behind os ss i) in
          let after = state_from format p.state mine in
          omega (
            arith,
            room-left g.writing room,
            g.long,
            length-append (lines_from format p.state (pieces_of load image (left os ss i))) (end_by format),
            ap (λ (l : List Piece). length (lines_from format p.state l)) (pieces-at n e),
            ap length (lines-append format p.state mine rest),
            length-append (lines_from format p.state mine) (lines_from format after rest),
          )

    module _ (h : length os ≤ i) where
      -- there is room for the end record
      pub end-room : length (text_of format load image (blocks_in os ss)) ≤ length old → p.at + length (end_by format) ≤ length text
      end-room room =
          omega (
            arith,
            room-left g.writing room,
            g.long,
            length-append (lines_from format p.state (pieces_of load image (left os ss i))) (end_by format),
          )

      -- the end record, and all is written
      pub all_done : {m from : ℕ} {part : List ℕ} → from ≡ min p.at (length text) → Puts (end_by format) (take (length text - from) (drop from text)) m part
          → Puts (text_of format load image (blocks_in os ss)) old (p.at + m) (take from text ++ (part ++ drop (length text - from) (drop from text)))
      unfolding pieces_of lines_from
      all_done {m} {from} {part} e q =
          let rest : lines_left p.state i ≡ end_by format ++ [] = ap
          (λ (l : List Block). lines_from format p.state (pieces_of load image l) ++ end_by format) (last_none image os ss load r g.stands h)
          ∙ sym (append-nil (end_by format)) in
          let w = writing-on (end_by format) [] (rw rest at g.writing) e q in
          rw (w.split ∙ append-nil w.done) w.puts
