-- What a call that found blocks leaves at the front of what was lent, and what its refusal says of the room.
use Rattle.std.specs.Prelude.{◌≡◌, refl, Bool, true, false, List, ℕ, ◌≤◌, leb, length, take, drop, Ok, Err, Result}
use Rattle.std.proofs.Common.{sym, ap, ap₂, ◌∙◌, take_at}
use Rattle.std.proofs.lemmas.List.{length-map}
use Rattle.prelude.specs.Laws.Bools.{unlike}
use Rattle.prelude.specs.Pick.{pick}
use Rattle.prelude.specs.declared.Refusal.{Refusal}
use Rattle.prelude.specs.declared.Refusal.TheVariants.{TooShort}
use Rattle.blocks.specs.Outcome.{origins, sizes, room_for, ToldBy}
use Rattle.record_scan.specs.Reading.{Read, sound}
use Rattle.record_lines.specs.Pieces.{Piece}
use Rattle.record_read.specs.Outcome.{Lent, answer_of, taken, Reads}
use Rattle.record_read.specs.Runs.{reach, blocks_given}
use Rattle.record_read.specs.Theorems.Facts.{found-good, found_after}

-- ---- refused

not-both : (n : ℕ) (why : Refusal) → Ok n ≡ Err why → ⊥
not-both n why e = unlike cc

pub same-refusal : {a b : Refusal} → ◌≡◌ {A = Result ℕ Refusal} (Err a) (Err b) → a ≡ b
same-refusal e = cc

twice : (t : Bool) → pick t t false ≡ t
twice true = refl
twice false = refl

-- what is told of a refusal is told by two tests, where the lists lent are so long
module _ {A : Type 0} (tell : Refusal → A) (load : ℕ) (l : Lent) (bytes_room blocks_room : ℕ) (hb : length l.bytes ≡ bytes_room)
    (ho : length l.offsets ≡ blocks_room) (hs : length l.sizes ≡ blocks_room) where
  by-room : (p q : Bool) (n : ℕ) (x : A) (why : Refusal) → pick p (pick q (Ok n) (Err (TooShort 2))) (Err (TooShort 0)) ≡ Err why
      → pick p (pick q x (tell (TooShort 2))) (tell (TooShort 0)) ≡ tell why
  by-room true true n x why e = absurd (not-both n why e)
  by-room true false n x why e = ap tell (same-refusal e)
  by-room false q n x why e = ap tell (same-refusal e)

  pub no_room : (pieces : List Piece) (x : A) (why : Refusal) → answer_of load l (sound pieces) ≡ Err why
      → pick (leb (reach load pieces) bytes_room) (pick (leb (length (blocks_given load pieces)) blocks_room) x (tell (TooShort 2))) (tell (TooShort 0)) ≡ tell why
  no_room pieces x why e =
      let blocks = blocks_given load pieces in
      let one : leb (reach load pieces) (length l.bytes) ≡ leb (reach load pieces) bytes_room = ap (leb (reach load pieces)) hb in
      let two : room_for blocks l.offsets l.sizes ≡ leb (length blocks) blocks_room =
      ap₂ (λ (a b : ℕ). pick (leb (length blocks) a) (leb (length blocks) b) false) ho hs ∙ twice (leb (length blocks) blocks_room) in
      sym (ap₂ (λ (p q : Bool). pick p (pick q x (tell (TooShort 2))) (tell (TooShort 0))) one two)
      ∙ by-room (leb (reach load pieces) (length l.bytes)) (room_for blocks l.offsets l.sizes) (length blocks) x why e

-- ---- found

pub record Held (load : ℕ) (l : Lent) (read : Read) (count : ℕ) (new : Lent) : Type 0 where
  pub pieces : List Piece
  pub good : read ≡ sound pieces
  pub room : reach load pieces ≤ length l.bytes
  pub places : (length (blocks_given load pieces) ≤ length l.offsets) × (length (blocks_given load pieces) ≤ length l.sizes)
  pub counted : count ≡ length (blocks_given load pieces)
  pub after : new ≡ taken load pieces l
  pub first : take count new.offsets ≡ origins (blocks_given load pieces)
  pub second : take count new.sizes ≡ sizes (blocks_given load pieces)

pub held : (load : ℕ) (l : Lent) (read : Read) (r : Result ℕ Refusal) (new : Lent) → Reads load read l r new → (count : ℕ) → r ≡ Ok count
    → Held load l read count new
held load l read r new c count found =
    let g = found-good load l read r new c count (ap ToldBy found) in
    let blocks = blocks_given load g.0 in
    let after = found_after load l read r new c g.0 g.1 g.2.0 g.2.1 in
    record {
      pieces = g.0;
      good = g.1;
      room = g.2.0;
      places = g.2.1;
      counted = g.2.2;
      after = after;
      first =
          ap (λ (x : Lent). take count x.offsets) after
          ∙ take_at (origins blocks) (drop (length (origins blocks)) l.offsets) count (length-map blocks (λ b. b.origin) ∙ sym g.2.2);
      second =
          ap (λ (x : Lent). take count x.sizes) after
          ∙ take_at (sizes blocks) (drop (length (sizes blocks)) l.sizes) count (length-map blocks (λ b. b.size) ∙ sym g.2.2);
    }
