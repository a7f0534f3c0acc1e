-- The answers that `which` gives, and what an answer that is no refusal says of the range.
use Rattle.std.specs.Prelude.{Err, Ok, Result}
use mathlib.Core.Path.{◌≡◌, refl, sym, ap, ◌∙◌}
use mathlib.Core.Bool.{Bool, true, false}
use Prim.Native.Nat.{ℕ}
use lib.ListN.{length}
use Rattle.prelude.specs.Laws.Bools.{unlike}
use Rattle.prelude.specs.Pick.{pick}
use Rattle.prelude.specs.Told.{gives, refuses}
use Rattle.prelude.specs.declared.Place.TheVariants.{One}
use Rattle.prelude.specs.declared.Refusal.{Refusal}
use Rattle.prelude.specs.declared.Refusal.TheVariants.{Malformed, BadPart, PartlyCovered}
use Rattle.overlay.specs.declared.Source.TheVariants.{Overlay, Released}
use Rattle.overlay.specs.Cover.{covered_bit, all_covered, none_covered}
use Rattle.overlay.specs.Laws.CoverFacts.{either}
use Rattle.overlay.specs.Order.{in_order}
use Rattle.overlay.specs.Range.{inside, Inside, judged, source_of, figures_of, the_overlay, the_released, told_source, Answers}
use Rattle.overlay.specs.Laws.Range.{inside-true}
use Rattle.overlay.specs.Trial.{Trial}
use Rattle.overlay.specs.declared.Source.{Source}

told-judged : (p q : Bool) → told_source (pick p (Ok Overlay) (pick q (Ok Released) (Err PartlyCovered)))
    ≡ pick p (gives the_overlay) (pick q (gives the_released) (refuses 17 (One 0)))
told-judged true q = refl
told-judged false true = refl
told-judged false false = refl

module _ (t : Trial) (first count : ℕ) where
  pub out_of_order : in_order 0 t.offsets t.sizes ≡ false → Answers t first count (Err (Malformed 0))
  unfolding source_of figures_of
  out_of_order e = record { answer = rw e; figures = rw e }

  module _ (e : in_order 0 t.offsets t.sizes ≡ true) where
    pub outside : inside (length t.overlay) (length t.released) first count ≡ false → Answers t first count (Err BadPart)
    unfolding source_of figures_of
    outside f = record { answer = rw (e, f); figures = rw (e, f) }

    pub by-cover : inside (length t.overlay) (length t.released) first count ≡ true
        → (s : Result Source Refusal) → s ≡ judged (covered_bit t.offsets t.sizes) first count → Answers t first count s
    unfolding source_of figures_of
    by-cover f s q =
        record {
          answer = rw (e, f) q;
          figures =
              rw (e, f)
              (ap told_source q
              ∙ told-judged (all_covered (covered_bit t.offsets t.sizes) first count) (none_covered (covered_bit t.offsets t.sizes) first count));
        }

  -- only a range inside both images is answered from one of them
  taken-inside : (s : Result Source Refusal) → source_of t first count ≡ s → ((r : Refusal) → s ≡ Err r → ⊥)
      → Inside (length t.overlay) (length t.released) first count
  unfolding source_of
  taken-inside s q none =
      either (in_order 0 t.offsets t.sizes)
      (λ e.
      either (inside (length t.overlay) (length t.released) first count)
      (λ f. inside-true (length t.overlay) (length t.released) first count f)
      (λ f. absurd (none BadPart (sym q ∙ rw (e, f)))))
      (λ e. absurd (none (Malformed 0) (sym q ∙ rw e)))

  pub answered-inside : (s : Source) → source_of t first count ≡ Ok s → Inside (length t.overlay) (length t.released) first count
  answered-inside s q = taken-inside (Ok s) q (λ r e. unlike cc)
