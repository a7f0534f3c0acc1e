-- The definitions ask of a format only whether it is 0: every other number is S-records, as 1 is.
use Rattle.std.specs.Prelude.{◌≡◌, List, [], ◌++◌, ltb, leb, eqb, length, get_or}
use Rattle.std.proofs.Math.Path.{refl, ap, ap₂}
use Rattle.std.proofs.Common.{◌∙◌, ne_eqb}
use Rattle.std.proofs.Math.Bool.{Bool}
use Prim.Native.Nat.{ℕ, zero, suc, ◌+◌, ◌-◌, ◌*◌, max}
use Rattle.prelude.specs.Pick.{pick}
use Rattle.record_lines.specs.Digits.{pair_at}
use Rattle.record_lines.specs.Items.{Item, Format}
use Rattle.record_lines.specs.Lines.{lines_of}
use Rattle.record_ihex_line.specs.Format.{word_at, hex_item}
use Rattle.record_srec_line.specs.Srec.{is_s, srec_item}
use Rattle.record_scan.specs.Reading.{format_by, Read, sound, faulty, new_pieces, state_after, is_new, read_from, read_text}
use Rattle.record_scan.specs.Trail.{Trail, trail, line_at, next_of}
use Rattle.record_reason.specs.Spelling.{cause_of, or_else, spelled, hex_typed, srec_typed, own_cause, start_by, many_by, top_by}
use Rattle.record_reason.specs.Reasons.{line_of, item_of, is_end, ends_before, giver, address_in, lowest_from, lowest, span_cause, line_cause, cause_at, told_of, why_of}
use Rattle.record_reason.specs.declared.Cause.{Cause}

module _ (format load : ℕ) (text : List ℕ) (m : format ≡ 0 → ⊥) where
  formats : format_by format ≡ format_by 1
  formats = ap by (ne_eqb format 0 m)
    where
      by : Bool → Format
      by b st l = pick b (hex_item st l) (srec_item st l)

  trails : (n : ℕ) → trail format text n ≡ trail 1 text n
  unfolding trail
  trails zero = refl
  trails (suc n) = ap₂ step formats (trails n)
    where
      step : Format → Trail → Trail
      step f t =
          let item = f t.state (line_at text t.at) in
          record { at = next_of text t.at; state = state_after t.state item; given = t.given ++ new_pieces item }

  items : (n : ℕ) → item_of format text n ≡ item_of 1 text n
  items n = ap₂ (λ (f : Format) (t : Trail). f t.state (line_at text t.at)) formats (trails n)

  endings : (n : ℕ) → ends_before format text n ≡ ends_before 1 text n
  endings zero = refl
  endings (suc n) = ap is_end (items n)

  givers : (first end n : ℕ) → giver format text first end n ≡ giver 1 text first end n
  unfolding giver
  givers first end zero = refl
  givers first end (suc n) =
      ap₂ (λ (g : ℕ) (x : Item). pick (eqb g n) (pick (is_new (new_pieces x) first end) (suc n) n) g) (givers first end n) (items n)

  spans : (n start many top : ℕ) → span_cause format load text n start many top ≡ span_cause 1 load text n start many top
  spans n start many top =
      let g = givers start (start + many) n in
      ap (λ (low : ℕ). shape low (giver format text start (start + many) n) (item_of format text (giver format text start (start + many) n)))
      (ap (λ (f : Format). lowest_from f (lines_of text) 0) formats)
      ∙ ap₂ (shape (lowest 1 text)) g (items (giver format text start (start + many) n) ∙ ap (item_of 1 text) g)
    where
      shape : ℕ → ℕ → Item → Cause
      shape low g x =
          pick (ltb top (start + many)) (cause_of 9 (start + many - 1) (top - 1))
          (pick (ltb start load) (cause_of 10 start low) (cause_of 11 g (max start (address_in x))))

  lines_same : (n st : ℕ) (l : List ℕ) → line_cause format load text n st l ≡ line_cause 1 load text n st l
  unfolding own_cause
  lines_same n st l =
      ap (or_else (own_cause format st l)) (spans n (start_by format st l) (many_by format l) (top_by format l)) ∙ ap shape (ne_eqb format 0 m)
    where
      shape : Bool → Cause
      shape b =
          or_else
          (or_else (spelled (pick b (eqb (get_or l 0 0) 58) (is_s (get_or l 0 0))) (pick b 1 2) (pick b 4 0) (pick b 0 3) (pick b 0 255) l)
          (pick b (hex_typed l) (srec_typed st l)))
          (span_cause 1 load text n
          (pick b (65536 * st + word_at l 3) (pick (eqb (get_or l 1 0) 49) (word_at l 4) (65536 * word_at l 4 + word_at l 8)))
          (pick b (pair_at l 1) (pick (eqb (get_or l 1 0) 49) (pair_at l 2 - 3) (pair_at l 2 - 5)))
          (pick b 4294967296 (pick (eqb (get_or l 1 0) 49) 65536 4294967296)))

  causes : (n : ℕ) → cause_at format load text n ≡ cause_at 1 load text n
  causes n =
      ap₂ (shape (line_cause format load text n (trail format text n).state (line_of format text n))) (endings n) (trails n)
      ∙ ap (λ (c : Cause). shape c (ends_before 1 text n) (trail 1 text n))
      (ap (λ (t : Trail). line_cause format load text n t.state (line_at text t.at)) (trails n)
      ∙ lines_same n (trail 1 text n).state (line_of 1 text n))
    where
      shape : Cause → Bool → Trail → Cause
      shape c e t = pick e (cause_of 12 0 0) (pick (leb (length text) t.at) (cause_of 13 0 0) c)

  pub same_read : read_text format load text ≡ read_text 1 load text
  same_read = ap (λ (f : Format). read_from f load (lines_of text) 0 []) formats

  pub same-why : (x : Read) → why_of format load text x ≡ why_of 1 load text x
  same-why (sound ps) = refl
  same-why (faulty n) = ap (told_of n) (causes n)
