-- `dk_part`, `bitvec::part` and `bitvec::part_verdict`: by their contracts they say the sentences (`part_meets`, `bytes-meet`, `verdict-meets`), which
-- leave one outcome (`part-decides`, `bytes-decide`, `verdict-decides`). What `dk_part` tells is where `bitvec::part`'s bytes stand (`part-is-there`).
use Rattle.std.specs.Prelude.{◌≡◌, refl, Bool, true, false, List, [], ℕ, ◌+◌, ◌/◌, ◌%◌, ◌<◌, eqb, length, get_or}
use Rattle.std.proofs.Common.{sym, ap, ◌∙◌, arith, eqb-true, ext_get_or}
use Rattle.std.proofs.lemmas.Bool.{eqb-false}
use Rattle.prelude.specs.Laws.Bools.{either}
use Rattle.prelude.specs.Told.{gives, refuses, nothing, told_verdict}
use Rattle.prelude.specs.declared.Place.TheVariants.{One}
use Rattle.prelude.specs.Verdict.{Verdict}
use Rattle.bitvec.specs.Part as part
use Rattle.bitvec.specs.Part.{is_part, IsPart, Parts, Judges}
use Rattle.bitvec.specs.Theorems.Part.{is_part-true, sixteen-exactly, part_none, part_length, part-byte}
use Rattle.c_model.specs.Parts.{PartTold}
use Rattle.c_answers.specs.declared.DkPart.{DkPart}
use Rattle.meets.specs.Laws.Words.{OneOnly, tries-one, is_one}
use Rattle.says.specs.Words.{refused, passed, is}
use Rattle.says.specs.Part as says
use Rattle.says.specs.Part.{Unfit, Located, PartSays}
use Rattle.meets_bits.specs.Handed.{Own, BytesSay, VerdictSays}

module _ (image : List ℕ) (offset size : ℕ) where
  -- ---- they leave one outcome

  located-one : OneOnly (Located image offset size)
  located-one y z (says.located {first = a} {count = n} e f) (says.located {first = b} {count = m} g h) =
      let first : a ≡ b = omega arith in
      let count : n ≡ m = omega arith in
      rw (first, count)

  pub part-decides : OneOnly (PartSays image offset size)
  part-decides = tries-one (λ (_ : Unit {0}). Unfit image offset size) (λ _. record { refusal = 16; start = 0; length = 0 }) (Located image offset size)
      (λ a b m n. refl) located-one

  own-one : OneOnly (Own image offset size)
  own-one p q f g =
      let long : length p ≡ length q = omega (arith, f.as_long, g.as_long) in
      let first : f.first ≡ g.first = omega (arith, f.starts, g.starts) in
      ext_get_or 0 p q long (λ k h. f.bytes k h ∙ ap (λ (a : ℕ). get_or image (a + k) 0) first ∙ sym (g.bytes k (omega arith)))

  pub bytes-decide : OneOnly (BytesSay image offset size)
  bytes-decide = tries-one (λ (_ : Unit {0}). Unfit image offset size) (λ _. []) (Own image offset size) (λ a b m n. refl) own-one

  pub verdict-decides : OneOnly (VerdictSays image offset size)
  verdict-decides = tries-one (λ (_ : Unit {0}). Unfit image offset size) (λ _. refuses 16 (One 0)) _ (λ a b m n. refl) (is_one (gives nothing))

  -- ---- the contracts say them

  fit : IsPart (length image) offset size → Unfit image offset size → ⊥
  fit p (says.empty e) = omega (arith, p.some)
  fit p (says.outside h) = omega (arith, p.inside)
  fit p (says.starts-off n) = n p.starts
  fit p (says.ends-off n) = n (omega (arith, p.starts, p.ends))

  unfit : is_part (length image) offset size ≡ false → Unfit image offset size
  unfit e = of ((sixteen-exactly image offset size).0 (rw e))
    where
      of : part.Unfit (length image) offset size → Unfit image offset size
      of (part.empty z) = says.empty z
      of (part.outside h) = says.outside h
      of (part.ragged-start n) = says.starts-off n
      of (part.ragged-end n) = ends (eqb (offset % 8) 0) refl
        where
          ends : (t : Bool) → eqb (offset % 8) 0 ≡ t → Unfit image offset size
          ends true f = says.ends-off (λ g. n (omega (arith, eqb-true (offset % 8) 0 f)))
          ends false f = says.starts-off (eqb-false (offset % 8) 0 f)

  pub part_meets : (r : DkPart) → PartTold image offset size r → PartSays image offset size r
  part_meets r c = rw c.answer (either (is_part (length image) offset size)
      (λ t.
      let p = is_part-true (length image) offset size t in
      rw t (passed (λ _. fit p) (says.located {first = offset / 8} {count = size / 8} (omega (arith, p.starts)) (omega (arith, p.ends)))))
      (λ f. rw f (refused tt (unfit f))))

  pub bytes-meet : (bytes : List ℕ) → Parts image offset size bytes → BytesSay image offset size bytes
  bytes-meet bytes c = either (is_part (length image) offset size)
      (λ t.
      let p = is_part-true (length image) offset size t in
      let long : length bytes ≡ size / 8 = ap length c.bytes ∙ part_length image offset size t in
      passed (λ _. fit p) (record {
        first = offset / 8;
        starts = omega (arith, p.starts);
        as_long = omega (arith, p.ends);
        bytes = λ k h. ap (λ (l : List ℕ). get_or l k 0) c.bytes ∙ part-byte image offset size t k (omega arith);
      }))
      (λ f.
      let none : bytes ≡ [] = c.bytes ∙ part_none image offset size ((sixteen-exactly image offset size).0 (rw f)) in
      rw none (refused tt (unfit f)))

  pub verdict-meets : (verdict : Verdict) → Judges image offset size verdict → VerdictSays image offset size (told_verdict verdict)
  verdict-meets verdict c = rw c.answer (either (is_part (length image) offset size)
      (λ t. let p = is_part-true (length image) offset size t in rw t (passed (λ _. fit p) is))
      (λ f. rw f (refused tt (unfit f))))

-- "that part of its own image": what `dk_part` tells is where the bytes that `bitvec::part` hands out stand in the image.
pub part-is-there : (image : List ℕ) (offset size : ℕ) (r : DkPart) (bytes : List ℕ) → PartSays image offset size r → BytesSay image offset size bytes
    → (length bytes ≡ r.length) × ((k : ℕ) → k < length bytes → get_or bytes k 0 ≡ get_or image (r.start + k) 0)
part-is-there image offset size r bytes (refused x u) (refused y v) = (refl, λ k h. absurd (omega arith))
part-is-there image offset size r bytes (refused x u) (passed n o) = absurd (n tt u)
part-is-there image offset size r bytes (passed n l) (refused y v) = absurd (n tt v)
part-is-there image offset size r bytes (passed n (says.located {first = a} e f)) (passed m o) =
    let first : o.first ≡ a = omega (arith, o.starts) in
    (omega (arith, o.as_long), λ k h. o.bytes k h ∙ ap (λ (i : ℕ). get_or image (i + k) 0) first)
