-- Lines that give pieces, one after the other, and then end, are a good file if the pieces ascend from the load address on; and it gives those pieces. Whatever
-- the format.
use Rattle.std.specs.Prelude.{◌≡◌, refl, Bool, ℕ, suc, ◌+◌, ◌≤◌, ◌<◌, length}
use Rattle.std.proofs.Common.{sym, ◌∙◌, arith, le-leb, ne_eqb}
use Rattle.std.proofs.Math.Path.{ap}
use Rattle.std.proofs.Math.Bool.{true}
use mathlib.Core.List.{List, [], ◌∷◌, ◌++◌, append_assoc, append-nil}
use Rattle.record_lines.specs.Items.{gives, Format}
use Rattle.record_lines.specs.Lines.{lines_of}
use Rattle.record_lines.specs.Pieces.{Piece, piece, end_of}
use Rattle.record_lines.specs.Telling.{Tells, closes, skips, tells, Rises}
use Rattle.record_ihex_line.specs.Format.{hex_item}
use Rattle.record_srec_line.specs.Srec.{srec_item}
use Rattle.record_scan.specs.Reading.{format_by, Read, sound, later, is_none, go_on, read_from, read_text}
use Rattle.record_scan.specs.Steps.{highest}
use Rattle.record_scan.specs.Laws.TrailLaws.{high-append, new-above}
use Rattle.thm_records.specs.Laws.Back.{tells_alike}

module _ (f : Format) (load : ℕ) where
  -- a line with a piece above all that is given
  goes_on : (given : List Piece) (last : Bool) (rest : ℕ → List Piece → Read) (a after : ℕ) (bytes : List ℕ) → 0 < length bytes → load ≤ a
      → a + length bytes ≤ 4294967296 → highest given ≤ a
      → go_on load given last rest (gives a bytes after) ≡ later (rest after (given ++ (piece a bytes ∷ [])))
  goes_on given last rest a after [] some low high new = absurd (omega arith)
  goes_on given last rest a after (b ∷ l) some low high new =
      rw (le-leb load a low, le-leb (a + suc (length l)) 4294967296 high, new-above given a (a + suc (length l)) new)

  high-more : (given : List Piece) (p : Piece) (from : ℕ) → highest given ≤ from → from ≤ p.address → highest (given ++ (p ∷ [])) ≤ end_of p
  unfolding highest
  high-more given p from h k = omega (arith, high-append given (p ∷ []))

  read-tells : {state : ℕ} {lines : List (List ℕ)} {l : List Piece} → Tells f state lines l → (from : ℕ) (given : List Piece) → load ≤ from
      → highest given ≤ from → Rises 4294967296 from l → read_from f load lines state given ≡ sound (given ++ l)
  unfolding read_from
  read-tells (closes {state} {line} e) from given h k r = ap (go_on load given true (read_from f load [])) e ∙ ap sound (sym (append-nil given))
  read-tells (skips {state} {after} {line} {lines} {l} e t) from given h k r =
      ap (go_on load given (is_none lines) (read_from f load lines)) e ∙ ap later (read-tells t from given h k r)
  read-tells (tells {state} {after} {line} {lines} {p} {l} e t) from given h k r =
      ap (go_on load given (is_none lines) (read_from f load lines)) e
      ∙ goes_on given (is_none lines) (read_from f load lines) p.address after p.bytes r.0.some (omega (arith, r.0.above)) r.0.below
      (omega (arith, r.0.above))
      ∙ ap later (read-tells t (end_of p) (given ++ (p ∷ [])) (omega (arith, r.0.above)) (high-more given p from k r.0.above) r.1)
      ∙ ap sound (append_assoc given (p ∷ []) l)

  pub told-read : (lines : List (List ℕ)) (l : List Piece) → Tells f 0 lines l → Rises 4294967296 load l → read_from f load lines 0 [] ≡ sound l
  unfolding highest
  told-read lines l t r = read-tells t load [] (omega arith) (omega arith) r

module _ (load : ℕ) (text : List ℕ) (l : List Piece) (r : Rises 4294967296 load l) where
  pub hex-read : Tells hex_item 0 (lines_of text) l → read_text 0 load text ≡ sound l
  hex-read t =
      told-read (format_by 0) load (lines_of text) l (tells_alike hex_item (format_by 0) (λ state line. refl) t) r

  -- every number but 0 stands for S-records
  pub srec-read : (format : ℕ) → (format ≡ 0 → ⊥) → Tells srec_item 0 (lines_of text) l → read_text format load text ≡ sound l
  srec-read format other t =
      told-read (format_by format) load (lines_of text) l (tells_alike srec_item (format_by format) (λ state line. rw (ne_eqb format 0 other)) t) r
