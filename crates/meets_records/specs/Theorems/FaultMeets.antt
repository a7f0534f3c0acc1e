-- What `dk_record_fault` promises says its sentences, for Intel HEX and for S-records.
use Rattle.std.specs.Prelude.{◌≡◌, refl, List, [], ℕ, suc, ◌<◌}
use Rattle.std.proofs.Common.{sym, ap, ◌∙◌, subst, arith, lt-ltb, le-ltb}
use Rattle.std.proofs.Math.Decide.{dec_lt}
use Rattle.prelude.specs.Laws.Bools.{unlike}
use Rattle.prelude.specs.Laws.Pick.{paired}
use Rattle.record_lines.specs.Lines.{lines_of}
use Rattle.record_lines.specs.Pieces.{Piece}
use Rattle.record_scan.specs.Reading.{format_by, Read, sound, faulty, read_from, read_text}
use Rattle.record_scan.specs.Outcome.{fault_of}
use Rattle.c_answers.specs.Parts.{line_told}
use Rattle.c_answers.specs.declared.DkFault.{DkFault}
use Rattle.c_model.specs.RecordFiles.{read_as, FaultTold}
use Rattle.says.specs.Read as s
use Rattle.says.specs.Read.{Good, GoesOn, FaultSays}
use Rattle.meets_records.specs.Laws.One.{lines-one}
use Rattle.meets_records.specs.Laws.Spelled.{lines-meet}
use Rattle.meets_records.specs.Laws.Faults.{same-fault}
use Rattle.meets_records.specs.Laws.Sits.{solid}
use Rattle.meets_records.specs.Laws.Told.{told-sound, sound-told, fault-told}
use Rattle.meets_records.specs.Laws.Formats.{lines-ended, Comes, comes-first, closing, given-on, passed_on, all_above, good_of, of-good}

module _ (format load : ℕ) (text : List ℕ) where
  -- a file that is good is read as sound, and the other way round
  pub good-sound : {ps : List Piece} → Good format load text ps → read_text format load text ≡ sound (solid ps)
  good-sound g = let k = of-good format load g in told-sound (format_by format) load k.0 [] k.1

  pub sound-good : format < 2 → (out : List Piece) → read_text format load text ≡ sound out → (ps : List Piece) × Good format load text ps × (out ≡ solid ps)
  sound-good known out e =
      let m = sound-told (format_by format) load (lines_of text) 0 [] out e in
      (m.0, good_of format load known (lines-meet text) m.1 m.2, m.3)

  -- up to the line at fault some good file goes on
  goes_before : format < 2 → (i : ℕ) → read_text format load text ≡ faulty i → GoesOn format load text i
  goes_before known i e =
      let m = fault-told (format_by format) load (Comes format) (closing format) (given-on format) (passed_on format) (lines_of text) 0 i []
      (comes-first format known) e in
      let lines = lines-ended m.0 (all_above format known m.2) in
      s.goes_on (good_of format load known lines m.2 m.3) (lines-meet text) lines m.4

module _ (format load : ℕ) where
  differ : {l : List Piece} {j : ℕ} → sound l ≡ faulty j → ⊥
  differ e = unlike cc

  -- no good file can go on
  no-good-file : (text : List ℕ) (i : ℕ) → read_text format load text ≡ faulty i → GoesOn format load text (suc i) → ⊥
  no-good-file text i e (s.goes_on {other = other} {ls = ls} {ms = ms} fit a b same) =
      let f = format_by format in
      let here : read_from f load ls 0 [] ≡ faulty i = ap (λ (l : List (List ℕ)). read_from f load l 0 []) (lines-one a (lines-meet text)) ∙ e in
      let there : read_from f load ms 0 [] ≡ faulty i = same-fault f load ls ms i 0 [] same here in
      let read : read_text format load other ≡ faulty i = ap (λ (l : List (List ℕ)). read_from f load l 0 []) (lines-one (lines-meet other) b) ∙ there in
      differ (sym (good-sound format load other fit) ∙ read)

  module _ (text scratch : List ℕ) where
    fault-says : format < 2 → (x : Read) → read_text format load text ≡ x → FaultSays format load text scratch (line_told (fault_of x), scratch)
    fault-says known (sound out) e = s.none (sound-good format load text known out e).1
    fault-says known (faulty i) e = s.at (goes_before format load text known i e) (no-good-file text i e)

    pub fault-meets : (r : DkFault) (new : List ℕ) → FaultTold (read_as format load text) scratch r new → FaultSays format load text scratch (r, new)
    fault-meets r new c =
        subst (FaultSays format load text scratch) (sym (paired c.answer c.left))
        (elim (dec_lt format 2) [
          | yes h ↦ rw (lt-ltb format 2 h) (fault-says h (read_text format load text) refl)
          | no h ↦ rw (le-ltb format 2 (omega arith)) (s.no-format (λ z. omega arith) (λ z. omega arith))
        ])
