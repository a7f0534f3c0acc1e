-- The promises of `write_ihex` and `write_srec` from that of the writing of records: the answer in the paper's figures.
use Rattle.std.specs.Prelude.{Result, Ok, Err}
use Rattle.std.proofs.Common.{◌≡◌, ℕ, Bool, true, false, ◌&&◌, ◌||◌, eqb, leb, List, ◌++◌, length, drop, sym, refl, ap, ◌∙◌, subst, arith, eqb-true}
use mathlib.Core.Bool.{and-false}
use Rattle.prelude.specs.Laws.Bools.{either}
use Rattle.prelude.specs.Pick.{pick}
use Rattle.prelude.specs.declared.Refusal.TheVariants.{Malformed, TooShort, BadPart}
use Rattle.prelude.specs.declared.Refusal.{Refusal}
use Rattle.blocks.specs.declared.Block.{Block}
use Rattle.record_write.specs.Checks.{all_placed, all_short}
use Rattle.record_write.specs.Cut.{blocks_in}
use Rattle.record_write.specs.Theorems.Exactly.{told-answers}
use Rattle.record_write.specs.Outcome.{input, parts_ok, sound, told_written, Writes}
use Rattle.record_write.specs.Hex.{hex_of, WritesHex}
use Rattle.record_write.specs.Hex as hex
use Rattle.record_write.specs.Srec.{format_for, srec_of, places_ok, fits_in, WritesSrec}

pub hex-figures : {image offsets sizes : List ℕ} {load : ℕ} {old : List ℕ} {r : Result ℕ Refusal} {new : List ℕ} → Writes (input 0 image offsets sizes load) old r new
    → WritesHex image offsets sizes load old r new
hex-figures {image} {offsets} {sizes} {load} {old} w =
    record {
      writes = w;
      told = ap told_written w.answer ∙ told-answers (parts_ok image offsets sizes) (hex.places_ok offsets sizes load)
          (leb (length (hex_of image offsets sizes load)) (length old)) (length (hex_of image offsets sizes load));
    }

-- a is that the format is 0, b that it is 2, c that it is 4; x that addresses have 16 bits
tests-are : (a b c x e p : Bool) → a ≡ false → (b ≡ true → c ≡ true → ⊥) → ((a || b || c) && pick b x true && e && p) ≡ ((c || (b && x)) && (e && p))
tests-are a true true x e p z h = absurd (h refl refl)
tests-are a true false true true p z h = rw z
tests-are a true false true false p z h = rw z
tests-are a true false false e p z h = rw z
tests-are a false true x e p z h = rw z
tests-are a false false x e p z h = rw z

module _ (image offsets sizes : List ℕ) (load : ℕ) (old : List ℕ) where
  abbrev blocks : List Block
  blocks = blocks_in offsets sizes

  abbrev parts : Bool
  parts = parts_ok image offsets sizes

  -- no width
  none : {r : Result ℕ Refusal} {new : List ℕ} → Writes (input 1 image offsets sizes load) old r new → WritesSrec image offsets sizes load 0 old r new
  none w =
      record {
        answer = w.answer;
        told = ap told_written w.answer ∙ told-answers parts false true 0;
        lent = w.lent ∙ rw (and-false parts);
      }

  module _ (width : ℕ) where
    abbrev room : Bool
    room = fits_in image offsets sizes load width old

    abbrev file : List ℕ
    file = srec_of image offsets sizes load width

    some : {r : Result ℕ Refusal} {new : List ℕ} → eqb width 0 ≡ false → Writes (input width image offsets sizes load) old r new
        → WritesSrec image offsets sizes load width old r new
    some e w =
        let same : sound (input width image offsets sizes load) ≡ places_ok offsets sizes load width =
        tests-are (eqb width 0) (eqb width 2) (eqb width 4) (all_short load blocks) (eqb (length offsets) (length sizes)) (all_placed load blocks) e
        (λ two four. omega (arith, eqb-true width 2 two, eqb-true width 4 four)) in
        let answer = w.answer ∙ ap (λ (s : Bool). pick parts (pick s (pick room (Ok (length file)) (Err (TooShort 3))) (Err (Malformed 0)))
        (Err BadPart)) same in
        record {
          answer = answer;
          told = ap told_written answer ∙ told-answers parts (places_ok offsets sizes load width) room (length file);
          lent = w.lent ∙ ap (λ (s : Bool). pick (parts && s && room) (file ++ drop (length file) old) old) same;
        }

    pub srec-figures : {r : Result ℕ Refusal} {new : List ℕ} (f : ℕ) → f ≡ format_for width → Writes (input f image offsets sizes load) old r new
        → WritesSrec image offsets sizes load width old r new
    srec-figures {r} {new} f e w =
        either (eqb width 0)
        (λ t.
        let one : f ≡ 1 = e ∙ rw t in
        subst (λ (x : ℕ). WritesSrec image offsets sizes load x old r new) (sym (eqb-true width 0 t))
        (none (subst (λ (x : ℕ). Writes (input x image offsets sizes load) old r new) one w)))
        (λ t.
        let same : f ≡ width = e ∙ rw t in
        some t (subst (λ (x : ℕ). Writes (input x image offsets sizes load) old r new) same w))
