-- What was read is written whole: no block of it is refused, and every file of it fits the text.
use Rattle.std.specs.Prelude.{◌≡◌, refl, Bool, true, false, ◌&&◌, List, [], ◌++◌, ℕ, ◌≤◌, ◌<◌, length, take, Err, Result, Ok, None, Some}
use Rattle.std.proofs.Common.{sym, ap₂, subst, ◌∙◌, append-nil, arith, le-leb}
use Rattle.std.proofs.Math.Path.{ap}
use Rattle.std.proofs.lemmas.Bool.{lt-leb}
use Rattle.std.proofs.lemmas.List.{length-map}
use Rattle.prelude.specs.Laws.Bools.{unlike}
use Rattle.prelude.specs.Laws.Pick.{pick_true, pick-false}
use Rattle.prelude.specs.Pick.{pick}
use Rattle.prelude.specs.declared.Refusal.{Refusal}
use Rattle.prelude.specs.declared.Refusal.TheVariants.{Malformed}
use Rattle.blocks.specs.declared.Block.{Block}
use Rattle.print_text.specs.Lines.{refusal_text}
use Rattle.prog_args.specs.Text.{Stands}
use Rattle.record_scan.specs.Outcome.{fault_of}
use Rattle.record_scan.specs.Reading.{Read, sound, faulty, read_text}
use Rattle.record_read.specs.Given.{filled}
use Rattle.record_read.specs.Outcome.{Lent, answer_of, Reads}
use Rattle.record_read.specs.Runs.{reach, blocks_given}
use Rattle.record_read.specs.Laws.Found.{same-refusal, no_room, Held, held}
use Rattle.record_read.specs.Theorems.GivenLaws.{filled-long}
use Rattle.record_write.specs.Checks.{all_parts, all_placed}
use Rattle.record_write.specs.Cut.{blocks_in}
use Rattle.record_write.specs.Text.{text_of}
use Rattle.thm_record_room.specs.Records.{format_ok, records_or}
use Rattle.thm_records.specs.Laws.Copied.{columns}
use Rattle.thm_records.specs.Theorems.Copied.{read-parts, read-placed}
use Rattle.print_rehex.specs.Rehex.{longest, bytes_room, blocks_room, fault_text, turned, turned_text}
use Rattle.print_rehex.specs.Steps.{records_of, Records, Turns}

-- ---- a file that is not read

-- the room that is lent
module _ (format load : ℕ) (l : Lent) (hb : length l.bytes ≡ bytes_room) (ho : length l.offsets ≡ blocks_room) (hs : length l.sizes ≡ blocks_room) where
  not-read : (read : Read) (why : Refusal) → answer_of load l read ≡ Err why
      → turned format load l.bytes read ≡ refusal_text why ++ fault_text read
  not-read (faulty n) why e = ap (λ (w : Refusal). refusal_text w ++ fault_text (faulty n)) (same-refusal e)
  not-read (sound pieces) why e =
      no_room refusal_text load l bytes_room blocks_room hb ho hs pieces
      (pick (format_ok format load (blocks_given load pieces)) (text_of format load (filled load pieces l.bytes) (blocks_given load pieces))
      (refusal_text (Malformed 0))) why e ∙ sym (append-nil (refusal_text why))

  pub unread : {read : Read} {r : Result ℕ Refusal} {new : Lent} {why : Refusal} → Reads load read l r new → r ≡ Err why
      → turned format load l.bytes read ≡ refusal_text why ++ fault_text read
  unread {read} {why = why} c e = not-read read why (sym c.answer ∙ e)

-- ---- a file that is read

module _ (kind format load : ℕ) (source : List ℕ) (l : Lent) (hb : length l.bytes ≡ bytes_room) (ho : length l.offsets ≡ blocks_room)
    (hs : length l.sizes ≡ blocks_room) (r : Result ℕ Refusal) (new : Lent) (c : Reads load (read_text kind load source) l r new) (count : ℕ)
    (found : r ≡ Ok count) where
  h : Held load l (read_text kind load source) count new
  h = held load l (read_text kind load source) r new c count found

  abbrev blocks : List Block
  blocks = blocks_given load h.pieces

  pub few : count ≤ blocks_room
  few = omega (arith, h.counted, h.places.0, ho)

  pub first-long : length (take count new.offsets) ≡ count
  first-long = ap length h.first ∙ length-map blocks _ ∙ sym h.counted

  pub second-long : length (take count new.sizes) ≡ count
  second-long = ap length h.second ∙ length-map blocks _ ∙ sym h.counted

  same-list : blocks_in (take count new.offsets) (take count new.sizes) ≡ blocks
  same-list = ap₂ blocks_in h.first h.second ∙ columns blocks

  bytes-are : new.bytes ≡ filled load h.pieces l.bytes
  bytes-are = ap (λ (x : Lent). x.bytes) h.after

  long : length new.bytes ≡ length l.bytes
  long = ap length bytes-are ∙ filled-long load h.pieces l.bytes

  parts : all_parts (length new.bytes) blocks ≡ true
  parts = read-parts kind load source h.pieces h.good l.bytes new.bytes bytes-are h.room long

  placed : all_placed load blocks ≡ true
  placed = read-placed kind load source h.pieces h.good l.bytes new.bytes bytes-are h.room long

  and-true : (t : Bool) → (t && true) ≡ t
  and-true true = refl
  and-true false = refl

  -- its records are what is to be printed
  accepted : records_of format load new.bytes blocks
      ≡ pick (format_ok format load blocks) (text_of format load new.bytes blocks) (refusal_text (Malformed 0))
  unfolding records_or
  accepted =
      pick_true _ _ parts
      ∙ ap (λ (t : Bool). pick t (text_of format load new.bytes blocks) (refusal_text (Malformed 0)))
      (ap (λ (t : Bool). format_ok format load blocks && t) placed ∙ and-true (format_ok format load blocks))

  printed : turned format load l.bytes (sound h.pieces)
      ≡ pick (format_ok format load blocks) (text_of format load (filled load h.pieces l.bytes) blocks) (refusal_text (Malformed 0))
  printed =
      pick_true _ _ (le-leb (reach load h.pieces) bytes_room (omega (arith, h.room, hb)))
      ∙ pick_true _ _ (le-leb (length blocks) blocks_room (omega (arith, h.places.0, ho)))

  pub text-is : records_of format load new.bytes (blocks_in (take count new.offsets) (take count new.sizes))
      ≡ turned format load l.bytes (read_text kind load source)
  text-is =
      ap (records_of format load new.bytes) same-list ∙ accepted
      ∙ ap (λ (x : List ℕ). pick (format_ok format load blocks) (text_of format load x blocks) (refusal_text (Malformed 0))) bytes-are
      ∙ sym (ap (turned format load l.bytes) h.good ∙ printed)

  pub none-behind : fault_text (read_text kind load source) ≡ []
  none-behind = ap fault_text h.good

  pub turns : (w : Result ℕ Refusal) (old out : List ℕ) → Records format load new.bytes (blocks_in (take count new.offsets) (take count new.sizes)) old w out
      → Turns format load l.bytes (read_text kind load source) old w out
  turns (Ok n) old out p = subst (λ (t : List ℕ). Stands t old n out) text-is p
  turns (Err why) old out p = (sym text-is ∙ p.0 ∙ sym (append-nil (refusal_text why)) ∙ ap (λ (t : List ℕ). refusal_text why ++ t) (sym none-behind), p.1)

-- ---- the line at fault

not_good : {n : ℕ} → None ≡ Some n → ⊥
not_good e = unlike cc

same_line : {m n : ℕ} → Some m ≡ Some n → m ≡ n
same_line e = cc

pub good-behind : (read : Read) → None ≡ fault_of read → fault_text read ≡ []
good-behind (sound pieces) e = refl
good-behind (faulty n) e = absurd (not_good e)

pub fault-behind : (read : Read) (n : ℕ) → Some n ≡ fault_of read → fault_text (faulty n) ≡ fault_text read
fault-behind (sound pieces) n e = absurd (not_good (sym e))
fault-behind (faulty m) n e = ap (λ (k : ℕ). fault_text (faulty k)) (same_line e)

-- ---- a file that is too long

module _ (kind format load : ℕ) (old source : List ℕ) where
  pub too_long : longest < length source → turned_text kind format load old source ≡ refusal_text (Malformed 0)
  unfolding turned_text
  too_long h = pick-false _ _ (lt-leb (length source) longest h)

  pub not-long : length source ≤ longest → turned_text kind format load old source ≡ turned format load old (read_text kind load source)
  unfolding turned_text
  not-long h = pick_true _ _ (le-leb (length source) longest h)
