-- "The same": an accepted read-back lists no run exactly where every byte that the image's blocks ask for is given with its value.
use Rattle.std.specs.Prelude.{◌≡◌, true, List, ◌↔◌, ℕ, ◌+◌, ◌*◌, ◌≤◌, ◌<◌, length, get_or}
use Rattle.std.proofs.Common.{inl, inr, ⊎_elim, arith}
use Rattle.std.proofs.Math.Decide.{dec_le, ℕ_discrete}
use Rattle.prelude.specs.Laws.Bools.{either, clash}
use Rattle.overlay.specs.Cover.{covered_bit}
use Rattle.overlay.specs.Order.{in_order}
use Rattle.verify.specs.Whole.{all_whole, Sound}
use Rattle.verify.specs.Laws.Whole.{sound-from}
use Rattle.meets_overlay.specs.Laws.Blocks.{bad-blocks}
use Rattle.meets_verify.specs.Laws.Blocks.{some-unfit, has-bit, bit-has}
use Rattle.says.specs.Part as part
use Rattle.says.specs.Words.{refused, passed}
use Rattle.says.specs.Verify as says
use Rattle.says.specs.Verify.{BadBlocks, BadPart, Asked, Given, Listed, Runs, VerifySays}

module _ (image os ss bytes gos gss : List ℕ) where
  abbrev Is : ℕ → Type 0
  Is = Listed image os ss bytes gos gss

  abbrev Same : Type 0
  Same = (b : ℕ) → Asked image os ss bytes gos gss b → Given image os ss bytes gos gss b × (get_or image b 0 ≡ get_or bytes b 0)

  none-listed : Same → (b : ℕ) → Is b → ⊥
  none-listed h b l = ⊎_elim (λ m. m.absent (h b m.asked).0) (λ d. d.other (h b d.asked).1) l

  no_run : ((b : ℕ) → Is b → ⊥) → {at : ℕ} {fs ns ks : List ℕ} → Runs image os ss bytes gos gss at fs ns ks → length fs ≡ 0
  no_run h (says.none p) = omega arith
  no_run h (says.run {f = f} {n = n} a some p in_f past r) = absurd (go (in_f f (omega arith) (omega arith)))
    where
      go : {k : ℕ} → says.Of image os ss bytes gos gss f k → ⊥
      go (says.one m) = h f (inl m)
      go (says.two d) = h f (inr d)

  no-listed : {fs ns ks : List ℕ} → length fs ≡ 0 → Runs image os ss bytes gos gss 0 fs ns ks → (b : ℕ) → Is b → ⊥
  no-listed e (says.none p) b l = p b (omega arith) l
  no-listed e (says.run a some p in_f past r) b l = absurd (omega arith)

  module _ (no-bad : BadBlocks image os ss bytes gos gss → ⊥) (no_part : BadPart image os ss bytes gos gss → ⊥) where
    given : Sound gos gss
    given =
        sound-from (length bytes) gos gss
        (either (in_order 0 gos gss) (λ t. t) (λ f. absurd (no-bad (says.of-given (bad-blocks image bytes gos gss f)))))
        (either (all_whole (length bytes) gos gss) (λ t. t) (λ f. let u = some-unfit bytes gos gss f in absurd (no_part (says.of-given u.1 u.2))))

    in_image : (b : ℕ) → Asked image os ss bytes gos gss b → b < length image
    in_image b a =
        let i = a.0 in
        elim (dec_le (get_or os i 0 + get_or ss i 0) (8 * length image)) [
          | yes y ↦ omega (arith, a.3)
          | no n ↦ absurd (no_part (says.of_image {i = i} a.1 (part.outside (omega arith))))
        ]

    all_same : ((b : ℕ) → Is b → ⊥) → Same
    all_same none b a =
        let h = in_image b a in
        either (covered_bit gos gss (8 * b))
        (λ e.
        let g = bit-has gos gss given b e in (
          g,
          elim (ℕ_discrete (get_or image b 0) (get_or bytes b 0)) [
            | yes y ↦ y
            | no n ↦ absurd (none b (inr (record { inside = h; asked = a; given = g; other = n })))
          ],
        ))
        (λ e. absurd (none b (inl (record { inside = h; asked = a; absent = λ g. clash (has-bit gos gss given b g) e }))))

  pub same-exactly : {fs₀ cs₀ ks₀ : List ℕ} (y : says.Outcome image os ss bytes gos gss) → VerifySays image os ss bytes gos gss fs₀ cs₀ ks₀ y
      → y.answer.refusal ≡ 0 → (y.answer.count ≡ 0) ↔ Same
  same-exactly y (refused x b) e = absurd (omega arith)
  same-exactly y (passed no-bad (refused x b)) e = absurd (omega arith)
  same-exactly y (passed no-bad (passed no_part (says.lists r (refused x s)))) e = absurd (omega arith)
  same-exactly y (passed no-bad (passed no_part (says.lists r (passed room (says.accepts f g h))))) e =
      (λ z. all_same (no-bad tt) (no_part tt) (no-listed z r), λ same. no_run (none-listed same) r)
