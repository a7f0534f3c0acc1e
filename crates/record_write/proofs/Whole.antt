-- What a call owes, by what its tests say.
use Rattle.std.specs.Prelude.{Err, Ok}
use Rattle.std.proofs.Common.{◌≡◌, ℕ, ◌+◌, ◌<◌, ◌≤◌, true, false, ◌&&◌, eqb, List, ◌++◌, length, drop, ap, ◌∙◌, arith, eqb-true, le-leb}
use mathlib.Core.Bool.{and-eq-true_iff}
use borrow.Author.Tests.{lt-leb}
use lib.Seq.{sets, sets-eq}
use Rattle.prelude.specs.declared.Refusal.TheVariants.{Malformed, TooShort, BadPart}
use Rattle.record_write.specs.Checks.{all_parts, all_placed, fits_width}
use Rattle.record_write.specs.Going.{Ready}
use Rattle.record_write.specs.Text.{known}
use Rattle.record_write.specs.Cut.{blocks_in}
use Rattle.record_write.specs.Outcome.{Input, sound, text, Writes}

at_front : (t old : List ℕ) → length t ≤ length old → sets old 0 t ≡ t ++ drop (length t) old
at_front t old h =
    let e : 0 + length t ≡ length t = omega arith in
    sets-eq t old 0 (omega arith) ∙ ap (λ (k : ℕ). t ++ drop k old) e

module _ (i : Input) (old : List ℕ) where
  pub bad-part : all_parts (length i.image) (blocks_in i.offsets i.sizes) ≡ false → Writes i old (Err BadPart) old
  bad-part p = record { answer = rw p; lent = rw p }

  module _ (p : all_parts (length i.image) (blocks_in i.offsets i.sizes) ≡ true) where
    pub malformed : sound i ≡ false → Writes i old (Err (Malformed 0)) old
    malformed s = record { answer = rw (p, s); lent = rw (p, s) }

    module _ (s : sound i ≡ true) where
      pub too_short : (n : ℕ) → n ≡ length (text i) → length old < n → Writes i old (Err (TooShort 3)) old
      too_short n e h =
          let f = lt-leb (length (text i)) (length old) (rw e at h) in
          record { answer = rw (p, s, f); lent = rw (p, s, f) }

      pub all-written : (n : ℕ) (new : List ℕ) → n ≡ length (text i) → n ≤ length old → new ≡ sets old 0 (text i) → Writes i old (Ok n) new
      all-written n new e h w =
          let f = le-leb (length (text i)) (length old) (rw e at h) in
          record { answer = rw (p, s, f) (ap Ok e); lent = rw (p, s, f) (w ∙ at_front (text i) old (rw e at h)) }

      -- what is known when the blocks are written
      pub ready : Ready i.image i.offsets i.sizes i.load
      ready =
          let known-fits = known i.format && fits_width i.format i.load (blocks_in i.offsets i.sizes) in
          let three = (and-eq-true_iff (known-fits && eqb (length i.offsets) (length i.sizes))
          (all_placed i.load (blocks_in i.offsets i.sizes))).0 s in
          let two = (and-eq-true_iff known-fits (eqb (length i.offsets) (length i.sizes))).0 three.0 in
          record { paired = eqb-true (length i.offsets) (length i.sizes) two.1; parts = p; places = three.1 }
