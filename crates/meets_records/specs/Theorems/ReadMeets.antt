-- What `dk_read_records` promises says its sentences, for Intel HEX and for S-records.
use Rattle.std.specs.Prelude.{◌≡◌, refl, Bool, true, false, ◌&&◌, List, ◌⊎◌, ℕ, ◌+◌, ◌-◌, ◌≤◌, ◌<◌, length, get_or, Ok, Err}
use Rattle.std.proofs.Common.{sym, ap, ◌∙◌, subst, inl, inr, ⊎_elim, arith, leb-true, leb-false, lt-ltb, le-ltb}
use Rattle.std.proofs.Math.Decide.{dec_lt}
use Rattle.std.proofs.lemmas.List.{length-map}
use Rattle.std.proofs.Math.ListN.{get_or-eq_default}
use Rattle.prelude.specs.Laws.Bools.{either, unlike}
use Rattle.prelude.specs.Pick.{pick}
use Rattle.prelude.specs.declared.Refusal.TheVariants.{TooShort}
use Rattle.sort.specs.Laws.Sorted.{le-or-lt}
use Rattle.blocks.specs.declared.Block.{Block}
use Rattle.blocks.specs.Theorems.Exactly.{room-exactly, no-room-exactly}
use Rattle.blocks.specs.Outcome.{origins, sizes, over}
use Rattle.record_lines.specs.Pieces.{Piece}
use Rattle.record_scan.specs.Reading.{Read, sound, faulty, read_text}
use Rattle.record_scan.specs.Sound.{Fine}
use Rattle.record_scan.specs.Theorems.Sound.{sound-pieces-fine}
use Rattle.record_read.specs.Given.{given, byte_at, filled}
use Rattle.record_read.specs.Laws.GivenLaws.{given_below}
use Rattle.record_read.specs.Theorems.GivenLaws.{filled_at, filled-long}
use Rattle.record_read.specs.Laws.Facts.{byte-kept}
use Rattle.record_read.specs.Theorems.ByteFacts.{own-byte}
use Rattle.record_read.specs.Runs.{reach, blocks_given}
use Rattle.record_read.specs.Outcome as fill
use Rattle.record_read.specs.Outcome.{lent, bytes_fit, blocks_fit, answer_of, lent_after}
use Rattle.c_answers.specs.Counts.{blocks_count}
use Rattle.c_answers.specs.declared.DkCount.{DkCount}
use Rattle.c_model.specs.RecordFiles.{read_as, ReadTold}
use Rattle.says.specs.Words.{Tries, refused, passed}
use Rattle.says.specs.Read as s
use Rattle.says.specs.Read.{GivenTo, Good, Lent, Outcome, Filled, Accepts, ReadSays, refusal}
use Rattle.meets_records.specs.Laws.Sits.{solid}
use Rattle.meets_records.specs.Laws.Front.{begins}
use Rattle.meets_records.specs.Laws.GivenBytes.{gives_at, given_to, to-given, top-given}
use Rattle.meets_records.specs.Laws.BlocksRead.{blocks-are}
use Rattle.meets_records.specs.Theorems.FaultMeets.{good-sound, sound-good}

module _ (format load : ℕ) (text : List ℕ) (old : Lent) where
  abbrev before : fill.Lent
  before = lent old.bytes old.offsets old.sizes old.scratch

  abbrev seen : fill.Lent → Lent
  seen l = record { bytes = l.bytes; offsets = l.offsets; sizes = l.sizes; scratch = l.scratch }

  abbrev outcome : Read → Outcome
  outcome x = record {
    answer = blocks_count (answer_of load before x);
    lent = seen (lent_after load before x);
  }

  differ : {l : List Piece} {j : ℕ} → sound l ≡ faulty j → ⊥
  differ e = unlike cc

  above : {ps : List Piece} → Good format load text ps → (a : ℕ) → GivenTo ps a → load ≤ a
  above (s.good x i o) a g = (i g.0 a g.1 g.2).0

  -- ---- a good file
  module _ (ps : List Piece) (fit : Good format load text ps) (fine : Fine load (solid ps)) where
    abbrev out : List Piece
    out = solid ps

    abbrev made : List Block
    made = blocks_given load out

    long : length (origins made) ≡ length made
    long = length-map made (λ (b : Block). b.origin)

    wide : length (sizes made) ≡ length made
    wide = length-map made (λ (b : Block). b.size)

    filled-says : reach load out ≤ length old.bytes → Filled format load text old ps (filled load out old.bytes)
    filled-says room = record {
      as_long = filled-long load out old.bytes;
      given = λ i a b g.
          let low = above fit a (i, b, g) in
          let below = given_below out a (to-given ps a (i, b, g)) in
          let j = a - load in
          let place : load + j ≡ a = omega arith in
          filled_at load out old.bytes j (omega arith) ∙ ap (λ (x : ℕ). byte_at out x (get_or old.bytes j 0)) place
          ∙ own-byte load fine a b (get_or old.bytes j 0) (gives_at ps i a b g);
      kept = λ x none. ⊎_elim
          (λ le.
          get_or-eq_default (filled load out old.bytes) 0 (omega (arith, filled-long load out old.bytes))
          ∙ sym (get_or-eq_default old.bytes 0 le))
          (λ lt.
          filled_at load out old.bytes x lt
          ∙ byte-kept out (load + x) (get_or old.bytes x 0) (either (given out (load + x)) (λ e. absurd (none (given_to ps (load + x) e))) (λ e. e)))
          (le-or-lt (length old.bytes) x);
    }

    tried : (a b : Bool) → bytes_fit load out before ≡ a → blocks_fit load out before ≡ b
        → Tries (λ (x : ℕ). GivenTo ps x × (length old.bytes ≤ x - load)) (λ _. refusal format load text old 14 0)
        (Tries (λ (_ : Unit {0}). (length old.offsets < length (origins made)) ⊎ (length old.sizes < length (origins made)))
        (λ _. refusal format load text old 14 2)
        (Accepts format load text old ps (origins made) (sizes made)))
        (record {
          answer = blocks_count (pick a (pick b (Ok (length made)) (Err (TooShort 2))) (Err (TooShort 0)));
          lent = seen (pick (a && b) (fill.taken load out before) before);
        })
    tried false b x y =
        let few = leb-false (reach load out) (length old.bytes) x in
        let t = top-given ps (omega arith) in
        refused t.0 (t.2, omega (arith, t.1))
    tried true false x y =
        passed (enough (leb-true (reach load out) (length old.bytes) x))
        (refused tt (⊎_elim (λ h. inl (omega (arith, long))) (λ h. inr (omega (arith, long))) ((no-room-exactly made old.offsets old.sizes).0 y)))
      where
        enough : reach load out ≤ length old.bytes → (a : ℕ) → GivenTo ps a × (length old.bytes ≤ a - load) → ⊥
        enough room a h =
            let low = above fit a h.0 in
            let below = given_below out a (to-given ps a h.0) in
            omega (arith, h.1)
    tried true true x y =
        let room = leb-true (reach load out) (length old.bytes) x in
        let places = (room-exactly made old.offsets old.sizes).0 y in
        passed (λ a h.
        let low = above fit a h.0 in
        let below = given_below out a (to-given ps a h.0) in
        omega (arith, h.1))
        (passed (λ _ h. ⊎_elim (λ less. omega (arith, long, places.0)) (λ less. omega (arith, long, places.1)) h)
        (subst (λ (n : ℕ). Accepts format load text old ps (origins made) (sizes made) (record {
          answer = record { refusal = 0; place = 0; count = n };
          lent = seen (fill.taken load out before);
        })) long
        (s.accepts (filled-says room) (begins (origins made) old.offsets (omega (arith, long, places.0)))
        (begins (sizes made) old.sizes (omega (arith, wide, places.1))))))

    good-says : ReadSays format load text old (outcome (sound out))
    good-says = s.read fit (blocks-are format load text ps (above fit)) (tried (bytes_fit load out before) (blocks_fit load out before) refl refl)

  -- ---- any file
  read-says : format < 2 → (x : Read) → read_text format load text ≡ x → ReadSays format load text old (outcome x)
  read-says known (faulty i) e = s.bad (λ ps g. differ (sym (good-sound format load text g) ∙ e))
  read-says known (sound out) e =
      let k = sound-good format load text known out e in
      let fine = subst (Fine load) k.2 (sound-pieces-fine format load text out e) in
      subst (λ (l : List Piece). ReadSays format load text old (outcome (sound l))) (sym k.2) (good-says k.0 k.1 fine)

  -- a format that is neither
  never-good : 2 ≤ format → (ps : List Piece) → Good format load text ps → ⊥
  never-good h ps (s.good (s.hex e lines x) i o) = omega arith
  never-good h ps (s.good (s.s-records e v lines x) i o) = omega arith

  says_all : ReadSays format load text old (outcome (read_as format load text))
  says_all =
      elim (dec_lt format 2) [
        | yes h ↦ rw (lt-ltb format 2 h) (read-says h (read_text format load text) refl)
        | no h ↦ rw (le-ltb format 2 (omega arith)) (s.bad (never-good (omega arith)))
      ]

  pub read_meets : (r : DkCount) (new : Lent)
      → ReadTold load (read_as format load text) (lent old.bytes old.offsets old.sizes old.scratch) r
      (lent new.bytes new.offsets new.sizes new.scratch)
      → ReadSays format load text old (record { answer = r; lent = new })
  read_meets r new c =
      let same : new ≡ (outcome (read_as format load text)).lent = ap seen c.left in
      subst (λ (y : DkCount). ReadSays format load text old (record { answer = y; lent = new })) (sym c.answer)
      (subst (λ (y : Lent). ReadSays format load text old
      (record { answer = blocks_count (answer_of load before (read_as format load text)); lent = y })) (sym same)
      says_all)
