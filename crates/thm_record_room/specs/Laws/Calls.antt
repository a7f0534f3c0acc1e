-- Laws that Theorems/Calls rests on.
use Rattle.std.specs.Prelude.{◌≡◌, refl, Bool, true, false, ◌&&◌, List, [], ◌∷◌, ℕ, ◌≤◌, leb, eqb, length, Result}
use Rattle.std.proofs.Common.{sym, ap, ◌∙◌, arith, le-leb}
use Rattle.prelude.specs.Laws.Bools.{both, clash}
use Rattle.prelude.specs.Told.{told_number}
use Rattle.prelude.specs.declared.Refusal.{Refusal}
use Rattle.record_write.specs.Checks.{all_parts, all_placed}
use Rattle.record_write.specs.Cut.{blocks_in}
use Rattle.record_write.specs.Exactly.{answers}
use Rattle.record_write.specs.Outcome.{parts_ok}
use Rattle.record_write.specs.Text.{text_of}
use Rattle.record_write.specs.Hex as hex
use Rattle.record_write.specs.Hex.{WritesHex}
use Rattle.record_write.specs.Srec as srec
use Rattle.record_write.specs.Srec.{WritesSrec, width_ok}
use Rattle.thm_record_room.specs.Calls.{NotShort}

never-14 : (parts places fits : Bool) (n : ℕ) → (parts ≡ true → places ≡ true → fits ≡ true) → told_number (answers parts places fits n) ≡ 14 → ⊥
never-14 true true true n h e = omega arith
never-14 true true false n h e = clash (h refl refl) refl
never-14 true false fits n h e = omega arith
never-14 false places fits n h e = omega arith

pub blocks-in : (offsets sizes : List ℕ) → length (blocks_in offsets sizes) ≤ length offsets
unfolding blocks_in
blocks-in [] sizes = omega arith
blocks-in (o ∷ offsets) [] = omega arith
blocks-in (o ∷ offsets) (s ∷ sizes) = omega (arith, blocks-in offsets sizes)

module _ (image offsets sizes : List ℕ) (load : ℕ) (old : List ℕ)
    (fit : (format : ℕ) → all_parts (length image) (blocks_in offsets sizes) ≡ true → all_placed load (blocks_in offsets sizes) ≡ true
    → length (text_of format load image (blocks_in offsets sizes)) ≤ length old) where
  pub hex-fits : {r : Result ℕ Refusal} {new : List ℕ} → WritesHex image offsets sizes load old r new → NotShort r
  hex-fits w e =
      never-14 (parts_ok image offsets sizes) (hex.places_ok offsets sizes load) (leb (length (hex.hex_of image offsets sizes load)) (length old))
      (length (hex.hex_of image offsets sizes load))
      (λ p q. le-leb (length (hex.hex_of image offsets sizes load)) (length old)
      (fit 0 p (both (eqb (length offsets) (length sizes)) (all_placed load (blocks_in offsets sizes)) q).1))
      (sym (ap told_number w.told) ∙ e)

  pub srec-fits : {width : ℕ} {r : Result ℕ Refusal} {new : List ℕ} → WritesSrec image offsets sizes load width old r new → NotShort r
  srec-fits {width} w e =
      never-14 (parts_ok image offsets sizes) (srec.places_ok offsets sizes load width) (srec.fits_in image offsets sizes load width old)
      (length (srec.srec_of image offsets sizes load width))
      (λ p q. le-leb (length (srec.srec_of image offsets sizes load width)) (length old)
      (fit width p
      (both (eqb (length offsets) (length sizes)) (all_placed load (blocks_in offsets sizes))
      (both (width_ok width load (blocks_in offsets sizes)) (eqb (length offsets) (length sizes) && all_placed load (blocks_in offsets sizes)) q).1).1))
      (sym (ap told_number w.told) ∙ e)
