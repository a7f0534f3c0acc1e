-- Theorems about what Part defines.
use Rattle.std.specs.Prelude.{◌≡◌, refl, Bool, true, false, ◌↔◌, List, [], ℕ, ◌+◌, ◌*◌, ◌/◌, ◌%◌, ◌<◌, eqb, length, get_or, drop, Err}
use Rattle.std.proofs.Common.{sym, subst, ltb-true, eqb-true, leb-true, leb-false, lt-ltb, le-leb, arith, length-take, length-drop, get_or-take, get_or-drop}
use Rattle.std.proofs.Math.Bool.{and-eq-true_iff}
use Rattle.std.proofs.lemmas.Bool.{eqb-false}
use Rattle.std.proofs.Math.Nat.{min-eq_left}
use Rattle.prelude.specs.Laws.Bools.{either, clash}
use Rattle.prelude.specs.Pick.{pick}
use Rattle.prelude.specs.Told.{Told, Nothing, told_number, told_verdict}
use Rattle.prelude.specs.declared.Refusal.TheVariants.{BadPart}
use Rattle.prelude.specs.Verdict.{Accepted, Verdict}
use Rattle.bitvec.specs.Within.{ends_within}
use Rattle.bitvec.specs.Laws.Part.{fit-not}
use Rattle.bitvec.specs.Part.{IsPart, Judges, PartTold, Unfit, empty, fit, is_part, outside, part_of, part_verdict, ragged-end, ragged-start, unfit}

pub is_part-true : (len offset size : ℕ) → is_part len offset size ≡ true → IsPart len offset size
unfolding is_part
is_part-true len offset size t =
    let both = (and-eq-true_iff _ (ends_within len offset size)).0 t in
    let three = (and-eq-true_iff _ (eqb (size % 8) 0)).0 both.0 in
    let two = (and-eq-true_iff _ (eqb (offset % 8) 0)).0 three.0 in
    record {
      some = omega (arith, ltb-true _ _ two.0);
      starts = eqb-true (offset % 8) 0 two.1;
      ends = eqb-true (size % 8) 0 three.1;
      inside = leb-true (offset + size) (8 * len) both.1;
    }

pub is_part-when : (len offset size : ℕ) → IsPart len offset size → is_part len offset size ≡ true
unfolding is_part
is_part-when len offset size p =
    rw (lt-ltb 0 size p.some, p.starts, p.ends) (le-leb (offset + size) (8 * len) p.inside)

unfit-of : (len offset size : ℕ) → (IsPart len offset size → ⊥) → Unfit len offset size
unfit-of len offset size n =
    either (eqb size 0) (λ a. empty (eqb-true size 0 a))
    (λ a. either (eqb (offset % 8) 0)
    (λ b. either (eqb (size % 8) 0)
    (λ c. either (ends_within len offset size)
    (λ d. absurd (n (record {
      some = omega (arith, eqb-false size 0 a);
      starts = eqb-true (offset % 8) 0 b;
      ends = eqb-true (size % 8) 0 c;
      inside = leb-true (offset + size) (8 * len) d;
    })))
    (λ d. outside (leb-false (offset + size) (8 * len) d)))
    (λ c. ragged-end (eqb-false (size % 8) 0 c)))
    (λ b. ragged-start (eqb-false (offset % 8) 0 b)))

-- What is told by a test that finds each part. That `is_part` finds it is shown anew in each theorem that follows from it here, so
-- that a definition that finds none is refused in each of them alone.
by-test : (len offset size : ℕ) (t : Bool) → (t ≡ true → IsPart len offset size) → (IsPart len offset size → t ≡ true)
    → PartTold len offset size (told_verdict (pick t Accepted (Err BadPart)))
by-test len offset size true is finds = fit (is refl)
by-test len offset size false is finds = unfit (unfit-of len offset size (λ p. clash (finds p) refl))

told-by : (image : List ℕ) (offset size : ℕ) → (IsPart (length image) offset size → is_part (length image) offset size ≡ true)
    → {verdict : Verdict} → verdict ≡ part_verdict image offset size → PartTold (length image) offset size (told_verdict verdict)
told-by image offset size finds e =
    subst (λ (v : Verdict). PartTold (length image) offset size (told_verdict v)) (sym e)
    (by-test (length image) offset size (is_part (length image) offset size) (is_part-true (length image) offset size) finds)

pub part-told : (image : List ℕ) (offset size : ℕ) {verdict : Verdict} → verdict ≡ part_verdict image offset size
    → PartTold (length image) offset size (told_verdict verdict)
unfolding is_part
part-told image offset size =
    told-by image offset size (λ p. rw (lt-ltb 0 size p.some, p.starts, p.ends) (le-leb (offset + size) (8 * length image) p.inside))

-- 16 is given exactly when a part of an image is empty, outside it, or not on byte edges.
pub sixteen-exactly : (image : List ℕ) (offset size : ℕ)
    → (told_number (told_verdict (part_verdict image offset size)) ≡ 16) ↔ Unfit (length image) offset size
unfolding is_part
sixteen-exactly image offset size = (
  from (told-by image offset size
      (λ p. rw (lt-ltb 0 size p.some, p.starts, p.ends) (le-leb (offset + size) (8 * length image) p.inside)) refl),
  λ u. of u,
)
  where
    from : {t : Told Nothing} → PartTold (length image) offset size t → told_number t ≡ 16 → Unfit (length image) offset size
    from (fit p) e = absurd (omega arith)
    from (unfit u) e = u

    of : Unfit (length image) offset size → told_number (told_verdict (part_verdict image offset size)) ≡ 16
    of u = either (is_part (length image) offset size) (λ e. absurd (fit-not u (is_part-true (length image) offset size e))) (λ e. rw e)

pub judged : (image : List ℕ) (offset size : ℕ) {verdict : Verdict} → verdict ≡ part_verdict image offset size → Judges image offset size verdict
unfolding is_part
judged image offset size e = record {
  answer = e;
  told = told-by image offset size
      (λ p. rw (lt-ltb 0 size p.some, p.starts, p.ends) (le-leb (offset + size) (8 * length image) p.inside)) e;
}

-- "Refused (16), the part is empty"
pub part_none : (image : List ℕ) (offset size : ℕ) → Unfit (length image) offset size → part_of image offset size ≡ []
part_none image offset size u =
    either (is_part (length image) offset size) (λ e. absurd (fit-not u (is_part-true (length image) offset size e))) (λ e. rw e)

module _ (image : List ℕ) (offset size : ℕ) (ok : is_part (length image) offset size ≡ true) where
  -- A part that is handed out has the block's bytes, and is never empty: an empty one is a refused one.
  pub part_length : length (part_of image offset size) ≡ size / 8
  part_length =
      let p = is_part-true (length image) offset size ok in
      rw (ok, length-take, length-drop) (min-eq_left (omega arith))

  -- Byte k of it is the image's byte k of the block,
  pub part-byte : (k : ℕ) → k < size / 8 → get_or (part_of image offset size) k 0 ≡ get_or image (offset / 8 + k) 0
  part-byte k h = rw (ok, get_or-take (size / 8) (drop (offset / 8) image) k 0 h) (get_or-drop (offset / 8) image k 0)
