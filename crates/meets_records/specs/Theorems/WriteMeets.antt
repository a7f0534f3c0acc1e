-- What `dk_write_hex` and `dk_write_srec` promise says their sentences, for an image of bytes.
use Rattle.std.specs.Prelude.{◌≡◌, refl, Bool, true, false, ◌&&◌, List, ◌++◌, ℕ, ◌+◌, ◌-◌, ◌^◌, leb, eqb, length, drop, Ok, Err, Result}
use Rattle.std.proofs.Common.{sym, subst, arith, leb-true, leb-false, eqb-true}
use Rattle.std.proofs.lemmas.Bool.{eqb-false}
use Rattle.prelude.specs.Laws.Bools.{either, both}
use Rattle.prelude.specs.Pick.{pick}
use Rattle.prelude.specs.declared.Refusal.TheVariants.{Malformed, TooShort, BadPart as Unfit}
use Rattle.prelude.specs.declared.Refusal.{Refusal}
use Rattle.bitvec.specs.Bits.{Bytes}
use Rattle.blocks.specs.declared.Block.{Block}
use Rattle.record_lines.specs.Pieces.{Piece}
use Rattle.record_srec_line.specs.Srec.{data_digit, end_digit}
use Rattle.record_srec_line.specs.ReadBack as back
use Rattle.record_write.specs.Cut.{blocks_in, pieces_of}
use Rattle.record_write.specs.Checks.{all_parts, all_placed, all_short}
use Rattle.record_write.specs.Exactly.{AllParts, WellPlaced, FitsWidth, wide, narrow}
use Rattle.record_write.specs.Theorems.Exactly.{parts-exactly, placed-exactly}
use Rattle.record_write.specs.Theorems.Rising.{pieces-rise}
use Rattle.record_write.specs.Laws.Said.{hex-text-lines, srec-text-lines}
use Rattle.record_write.specs.Outcome.{input, answer_of, text_after, text, sound}
use Rattle.record_write.specs.Srec.{width_ok, places_ok, answer_srec, lent_srec}
use Rattle.record_write.specs.Theorems.Width.{places-exactly, width_is}
use Rattle.record_write.specs.Laws.Width.{pieces-fit}
use Rattle.c_answers.specs.Counts.{written_count}
use Rattle.c_answers.specs.declared.DkCount.{DkCount}
use Rattle.c_model.specs.RecordFiles.{WriteTold}
use Rattle.says.specs.Words.{Tries, refused, passed}
use Rattle.says.specs.Records as r
use Rattle.says.specs.Write as w
use Rattle.says.specs.Write.{Given, Outcome, HexText, SrecText, HexSays, SrecSays, SrecPlaced}
use Rattle.meets_records.specs.Laws.Front.{begins, Leaves}
use Rattle.meets_records.specs.Laws.WrittenText.{hex-text-meets, srec-text-meets}
use Rattle.meets_records.specs.Laws.Cut.{cuts-meets}
use Rattle.meets_records.specs.Laws.Places.{bad-part, fit, bad-place, well, past-short, lower, well-short}

module _ (g : Given) (old : List ℕ) where
  abbrev len : ℕ
  len = length g.image

  abbrev blocks : List Block
  blocks = blocks_in g.offsets g.sizes

  abbrev pieces : List Piece
  pieces = pieces_of g.load g.image blocks

  abbrev file_by : ℕ → List ℕ
  file_by format = text (input format g.image g.offsets g.sizes g.load)

  room : (file : List ℕ) (c : Bool) → leb (length file) (length old) ≡ c → Leaves g old file (record {
    answer = written_count (pick c (Ok (length file)) (Err (TooShort 3)));
    text = pick c (file ++ drop (length file) old) old;
  })
  room file true e = passed (λ _ lt. omega (arith, leb-true (length file) (length old) e))
      (w.accepts (begins file old (leb-true (length file) (length old) e)))
  room file false e = refused tt (leb-false (length file) (length old) e)

  -- an answer by three tests, and the text by the same
  abbrev by_tests : List ℕ → Bool → Bool → Bool → Outcome
  by_tests file a b c = record {
    answer = written_count (pick a (pick b (pick c (Ok (length file)) (Err (TooShort 3))) (Err (Malformed 0))) (Err Unfit));
    text = pick (a && b && c) (file ++ drop (length file) old) old;
  }

  told-as : (says : Outcome → Type 0) {answer : Result ℕ Refusal} {after : List ℕ} (r : DkCount) (new : List ℕ) → WriteTold answer after r new
      → says (record { answer = written_count answer; text = after }) → says (record { answer = r; text = new })
  told-as says {answer} r new c x =
      subst (λ (y : DkCount). says (record { answer = y; text = new })) (sym c.told)
      (subst (λ (y : List ℕ). says (record { answer = written_count answer; text = y })) (sym c.text) x)

  module _ (bytes : Bytes g.image) where
    -- ---- Intel HEX
    hex-answered : (a b c : Bool) → all_parts len blocks ≡ a → (eqb (length g.offsets) (length g.sizes) && all_placed g.load blocks) ≡ b
        → leb (length (file_by 0)) (length old) ≡ c → HexSays g old (by_tests (file_by 0) a b c)
    hex-answered false b c x y z = refused tt (bad-part g x)
    hex-answered true false c x y z =
        let h = (parts-exactly len g.offsets g.sizes).0 x in
        passed (λ _. fit g h) (refused tt (bad-place g h y))
    hex-answered true true c x y z =
        let h = (parts-exactly len g.offsets g.sizes).0 x in
        let p = (placed-exactly g.load g.offsets g.sizes).0 y in
        let all = (both (eqb (length g.offsets) (length g.sizes)) (all_placed g.load blocks) y).1 in
        let lines = hex-text-meets g.load 0 pieces (pieces-rise g.load g.image blocks bytes x all) in
        passed (λ _. fit g h) (passed (λ _. well g h p)
        (w.written (cuts-meets g g.offsets g.sizes p.paired h) (subst (HexText 0 pieces) (sym (hex-text-lines 0 pieces)) lines)
        (room (file_by 0) c z)))

    pub write-hex-meets : (r : DkCount) (new : List ℕ)
        → WriteTold (answer_of (input 0 g.image g.offsets g.sizes g.load) old)
        (text_after (input 0 g.image g.offsets g.sizes g.load) old) r new
        → HexSays g old (record { answer = r; text = new })
    write-hex-meets r new c = told-as (HexSays g old) r new c
        (hex-answered (all_parts len blocks) (sound (input 0 g.image g.offsets g.sizes g.load))
        (leb (length (file_by 0)) (length old)) refl refl refl)

    -- ---- S-records
    module _ (width : ℕ) where
      abbrev placed : Bool
      placed = eqb (length g.offsets) (length g.sizes) && all_placed g.load blocks

      -- 4 for what is misplaced, by the width
      misplaced : AllParts len g.offsets g.sizes → (a b : Bool) → eqb width 4 ≡ a → eqb width 2 ≡ b
          → places_ok g.offsets g.sizes g.load width ≡ false
          → Tries (λ (_ : Unit {0}). (width ≡ 2 → ⊥) × (width ≡ 4 → ⊥)) (λ _. w.refusal g old 4 0) (SrecPlaced g old width) (w.refusal g old 4 0)
      misplaced h true b x y e =
          let four = eqb-true width 4 x in
          passed (λ _ n. n.1 four) (w.placed (r.four refl refl four refl) (refused tt (bad-place g h (rw x at e))))
      misplaced h false true x y e =
          let two = eqb-true width 2 y in
          passed (λ _ n. n.0 two) (w.placed (r.two refl refl two refl) (refused tt (either (all_short g.load blocks)
          (λ t. lower g (bad-place g h (rw (x, y, t) at e)))
          (λ f. past-short g h f))))
      misplaced h false false x y e = refused tt (eqb-false width 2 y, eqb-false width 4 x)

      -- otherwise the file, if there is room
      filed : AllParts len g.offsets g.sizes → WellPlaced g.load g.offsets g.sizes → {y : Outcome}
          → w.Written g old (SrecText (data_digit width) (end_digit width) width) y → FitsWidth width g.load g.offsets g.sizes
          → Tries (λ (_ : Unit {0}). (width ≡ 2 → ⊥) × (width ≡ 4 → ⊥)) (λ _. w.refusal g old 4 0) (SrecPlaced g old width) y
      filed h p x (wide e) = passed (λ _ n. n.1 e)
          (w.placed {d = data_digit width} {e = end_digit width} (r.four (rw e) (rw e) e refl) (passed (λ _. well g h p) x))
      filed h p x (narrow e short) = passed (λ _ n. n.0 e)
          (w.placed {d = data_digit width} {e = end_digit width} (r.two (rw e) (rw e) e refl) (passed (λ _. well-short g h p short) x))

      srec-answered : (a b c : Bool) → all_parts len blocks ≡ a → places_ok g.offsets g.sizes g.load width ≡ b
          → leb (length (file_by width)) (length old) ≡ c → SrecSays g old width (by_tests (file_by width) a b c)
      srec-answered false b c x y z = refused tt (bad-part g x)
      srec-answered true false c x y z =
          let h = (parts-exactly len g.offsets g.sizes).0 x in
          passed (λ _. fit g h) (misplaced h (eqb width 4) (eqb width 2) refl refl y)
      srec-answered true true c x y z =
          let h = (parts-exactly len g.offsets g.sizes).0 x in
          let both_hold = (places-exactly width g.load g.offsets g.sizes).0 y in
          let p = both_hold.1 in
          let v : back.Width width = width_is width g.load g.offsets g.sizes both_hold.0 in
          let tests = both (width_ok width g.load blocks) placed y in
          let all = (both (eqb (length g.offsets) (length g.sizes)) (all_placed g.load blocks) tests.1).1 in
          let rises = pieces-fit width g.load g.image g.offsets g.sizes bytes x all both_hold.0 in
          let lines = subst (SrecText (data_digit width) (end_digit width) width pieces) (sym (srec-text-lines v (256 ^ width) g.load 0 pieces rises))
          (srec-text-meets v g.load pieces rises) in
          passed (λ _. fit g h)
          (filed h p (w.written (cuts-meets g g.offsets g.sizes p.paired h) lines (room (file_by width) c z)) both_hold.0)

      pub write-srec-meets : (r : DkCount) (new : List ℕ)
          → WriteTold (answer_srec g.image g.offsets g.sizes g.load width old)
          (lent_srec g.image g.offsets g.sizes g.load width old) r new
          → SrecSays g old width (record { answer = r; text = new })
      write-srec-meets r new c = told-as (SrecSays g old width) r new c
          (srec-answered (all_parts len blocks) (places_ok g.offsets g.sizes g.load width) (leb (length (file_by width)) (length old)) refl refl refl)
