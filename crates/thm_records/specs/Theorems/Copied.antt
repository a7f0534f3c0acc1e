-- What was read from a file is accepted for writing, and a file of it gives the same bytes at the same addresses. Document 02, Ticket 12: "A file read from
-- S-records and written as Intel HEX gives the same bytes at the same addresses."
use Rattle.std.specs.Prelude.{◌≡◌, refl, true, List, ◌↔◌, ℕ, suc, ◌+◌, ◌-◌, ◌*◌, ◌/◌, ◌≤◌, length, get_or, take, Result}
use Rattle.std.proofs.Common.{sym, ap, subst, ◌∙◌, arith}
use Rattle.prelude.specs.Told.{gives}
use Rattle.prelude.specs.declared.Refusal.{Refusal}
use Rattle.bitvec.specs.Bits.{Bytes}
use Rattle.blocks.specs.declared.Block.{Block}
use Rattle.blocks.specs.Bits.{InBlock}
use Rattle.blocks.specs.Outcome.{sizes, ToldBy}
use Rattle.record_lines.specs.Pieces.{Piece, GivesAt}
use Rattle.record_scan.specs.Reading.{sound, read_text}
use Rattle.record_scan.specs.Sound.{Fine}
use Rattle.record_scan.specs.Theorems.Sound.{sound-pieces-fine}
use Rattle.record_scan.specs.Steps.{highest}
use Rattle.record_read.specs.Given.{given, filled}
use Rattle.record_read.specs.Theorems.GivenLaws.{filled_at, filled-long}
use Rattle.record_read.specs.Laws.GivenLaws.{given_below}
use Rattle.record_read.specs.Laws.Facts.{given-gives, gives-given}
use Rattle.record_read.specs.Theorems.Facts.{found-good, found_after}
use Rattle.record_read.specs.Theorems.ByteFacts.{own-byte}
use Rattle.record_read.specs.Laws.BlockFacts.{given-runs}
use Rattle.record_read.specs.Theorems.BlockFacts.{blocks-cover-exactly}
use Rattle.record_read.specs.Runs.{is_given, reach, runs_given, blocks_given}
use Rattle.record_read.specs.Outcome.{Lent, taken, Reads}
use Rattle.record_write.specs.Bytes.{BlockByte}
use Rattle.record_write.specs.Theorems.Bytes.{pieces-give-exactly}
use Rattle.record_write.specs.Checks.{all_parts, all_placed}
use Rattle.record_write.specs.Cut.{pieces_of}
use Rattle.record_write.specs.Outcome.{told_written}
use Rattle.record_write.specs.Hex.{WritesHex}
use Rattle.thm_records.specs.Laws.Trip.{highest-within, part_of}
use Rattle.thm_records.specs.Laws.Copied.{fine-within, runs-parts, runs-placed}

-- ---- what was read

module _ (format load : ℕ) (text : List ℕ) (l : List Piece) (reads : read_text format load text ≡ sound l) where
  fine : Fine load l
  fine = sound-pieces-fine format load text l reads

  low-top : highest l ≤ 4294967296
  low-top = highest-within l 4294967296 (λ p m. (fine-within load fine p m).1)

  abbrev blocks : List Block
  blocks = blocks_given load l

  module _ (old image : List ℕ) (is : image ≡ filled load l old) (room : reach load l ≤ length old) (long : length image ≡ length old) where
    -- No block is refused with 16, nor with 4.
    pub read-parts : all_parts (length image) blocks ≡ true
    read-parts = runs-parts (is_given load l) 0 (suc (reach load l)) (length image) (runs_given load l) (given-runs load l) (omega arith)

    pub read-placed : all_placed load blocks ≡ true
    read-placed =
        runs-placed (is_given load l) load 0 (suc (reach load l)) (runs_given load l) (given-runs load l) (λ x some h. let t = low-top in omega arith)

    -- the image's byte
    own : (x b : ℕ) → GivesAt l (load + x) b → get_or image x 0 ≡ b
    own x b g =
        let h = given_below l (load + x) (gives-given l (load + x) b g) in
        ap (λ (m : List ℕ). get_or m x 0) is ∙ filled_at load l old x (omega arith) ∙ own-byte load fine (load + x) b (get_or old x 0) g

    moved : {m : List Piece} {a c b d : ℕ} → a ≡ c → b ≡ d → GivesAt m a b → GivesAt m c d
    moved e f g =
        record { from = g.from; among = g.among; index = g.index; inside = g.inside; place = g.place ∙ e; byte = g.byte ∙ f }

    to : (a b : ℕ) → GivesAt (pieces_of load image blocks) a b → GivesAt l a b
    to a b g =
        let y = (pieces-give-exactly load image blocks read-parts a b).0 g in
        let p = part_of (length image) blocks read-parts y.of y.among in
        let starts = p.starts in
        let ends = p.ends in
        let inside = y.inside in
        let x = y.of.origin / 8 + y.index in
        let in_block : InBlock (8 * x) y.of = (omega arith, omega arith) in
        let there = (blocks-cover-exactly load l (8 * x)).0 (y.of, y.among, in_block) in
        let here : load + 8 * x / 8 ≡ load + x = omega arith in
        let q = given-gives l (load + x) (subst (λ (n : ℕ). given l n ≡ true) here there) in
        moved (omega (arith, y.place)) (sym (own x q.0 q.1) ∙ y.byte) q.1

    from : (a b : ℕ) → GivesAt l a b → GivesAt (pieces_of load image blocks) a b
    from a b g =
        let w = fine-within load fine g.from g.among in
        let above : load ≤ a = omega (arith, w.0, g.place) in
        let x = a - load in
        let here : a ≡ load + x = omega arith in
        let bits : a ≡ load + 8 * x / 8 = omega arith in
        let s = (blocks-cover-exactly load l (8 * x)).1 (subst (λ (n : ℕ). given l n ≡ true) bits (gives-given l a b g)) in
        let p = part_of (length image) blocks read-parts s.0 s.1 in
        let starts = p.starts in
        let ends = p.ends in
        let low = s.2.0 in
        let high = s.2.1 in
        let at : s.0.origin / 8 + (x - s.0.origin / 8) ≡ x = omega arith in
        let y : BlockByte load image blocks a b =
        record {
          of = s.0;
          among = s.1;
          index = x - s.0.origin / 8;
          inside = omega arith;
          place = omega arith;
          byte = ap (λ (i : ℕ). get_or image i 0) at ∙ own x b (moved here refl g);
        } in
        (pieces-give-exactly load image blocks read-parts a b).1 y

    -- A file of the blocks of what was read gives exactly what the file that was read gives.
    pub copied : (a b : ℕ) → GivesAt (pieces_of load image blocks) a b ↔ GivesAt l a b
    copied a b = (to a b, from a b)

module _ (format load : ℕ) (text : List ℕ) (old : Lent) (r : Result ℕ Refusal) (new : Lent) (c : Reads load (read_text format load text) old r new) (n : ℕ)
    (found : ToldBy r ≡ gives n) where
  abbrev given' : List Piece
  given' = (found-good load old (read_text format load text) r new c n found).0

  good-file : read_text format load text ≡ sound given'
  good-file = (found-good load old (read_text format load text) r new c n found).1

  after : new ≡ taken load given' old
  after =
      let g = found-good load old (read_text format load text) r new c n found in
      found_after load old (read_text format load text) r new c given' good-file g.2.0 g.2.1

  bytes-are : new.bytes ≡ filled load given' old.bytes
  bytes-are = ap (λ (x : Lent). x.bytes) after

  long : length new.bytes ≡ length old.bytes
  long = ap length bytes-are ∙ filled-long load given' old.bytes

  room : reach load given' ≤ length old.bytes
  room = (found-good load old (read_text format load text) r new c n found).2.0
