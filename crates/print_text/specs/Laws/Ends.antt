-- Laws of `end_of`, and how a function that measured and wrote meets `Puts`.
use Rattle.std.specs.Prelude.{◌≡◌, List, ℕ, ◌+◌, ◌≤◌, ◌<◌, leb, length, Some, None, Option}
use Rattle.std.proofs.Common.{sym, ap, ◌∙◌, arith, le-leb}
use Rattle.std.proofs.Math.Decide.{dec_le}
use Rattle.std.proofs.lemmas.List.Edits.{sets-eq}
use Rattle.std.proofs.lemmas.Bool.{lt-leb}
use Rattle.prelude.specs.Pick.{pick}
use Rattle.prelude.specs.Laws.Pick.{pick_true, pick-false}
use Rattle.print_text.specs.Puts.{end_of, Writes, Puts}

module _ (size at len : ℕ) where
  pub end_fits : at + len ≤ size → end_of size at len ≡ Some (at + len)
  end_fits h = pick_true _ _ (le-leb (at + len) size h)

  pub end_short : size < at + len → end_of size at len ≡ None
  end_short h = pick-false _ _ (lt-leb (at + len) size h)

-- What an answer tells of the sum: `r` is the answer of a call that measures.
module _ (size at len : ℕ) {r : Option ℕ} (is : r ≡ end_of size at len) where
  pub fits-of : {e : ℕ} → r ≡ Some e → (e ≡ at + len) × (e ≤ size)
  fits-of {e} q =
      elim (dec_le (at + len) size) [
        | yes h ↦ let same : e ≡ at + len = cc (end_fits size at len h) in (same, omega arith)
        | no h ↦ let z : ◌≡◌ {A = ℕ} 0 1 = cc (end_short size at len (omega arith)) in absurd (omega arith)
      ]

  pub short-of : r ≡ None → size < at + len
  short-of q =
      elim (dec_le (at + len) size) [
        | yes h ↦ let z : ◌≡◌ {A = ℕ} 0 1 = cc (end_fits size at len h) in absurd (omega arith)
        | no h ↦ omega arith
      ]

-- Where text ends is the sum alone.
pub end_same : (size at len at' len' : ℕ) → at + len ≡ at' + len' → end_of size at len ≡ end_of size at' len'
end_same size at len at' len' e = ap (λ (k : ℕ). pick (leb k size) (Some k) None) e

-- Where the text ends behind the buffer's end, nothing is written.
pub puts-short : {text old : List ℕ} {at : ℕ} → length old < at + length text → Puts text old at None old
puts-short {text} {old} {at} h =
    record { place = sym (end_short (length old) at (length text) h); buffer = sym (pick-false _ _ (lt-leb (at + length text) (length old) h)) }

-- Where it does not, the text that was written stands in the buffer.
pub puts-writes : {text old : List ℕ} {at e : ℕ} {new : List ℕ} → at + length text ≤ length old → Writes text old at e new → Puts text old at (Some e) new
puts-writes {text} {old} {at} {e} {new} h w =
    record {
      place = ap Some w.place ∙ sym (end_fits (length old) at (length text) h);
      buffer = w.buffer ∙ sets-eq text old at h ∙ sym (pick_true _ _ (le-leb (at + length text) (length old) h));
    }

-- What fits is written, and is not too short.
module _ {text old : List ℕ} {at : ℕ} {r : Option ℕ} {new : List ℕ} (fits : at + length text ≤ length old) (p : Puts text old at r new) where
  pub put-writes : {e : ℕ} → r ≡ Some e → Writes text old at e new
  put-writes {e} q =
      record {
        place = (fits-of (length old) at (length text) p.place q).0;
        buffer = p.buffer ∙ pick_true _ _ (le-leb (at + length text) (length old) fits) ∙ sym (sets-eq text old at fits);
      }

  pub put-fits : r ≡ None → ⊥
  put-fits q = let short = short-of (length old) at (length text) p.place q in omega arith
