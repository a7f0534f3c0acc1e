-- Theorems about what Rooms defines.
use Rattle.std.specs.Prelude.{◌≡◌, refl, Bool, true, false, ◌↔◌, ℕ, ◌*◌, ◌<◌, ltb, length}
use Rattle.std.proofs.Common.{sym, ap, ◌∙◌, arith, ltb-false, le-ltb}
use Rattle.prelude.specs.Laws.Bools.{unlike}
use Rattle.prelude.specs.Pick.{pick}
use Rattle.prelude.specs.Laws.Pick.{pick-false}
use Rattle.prelude.specs.Told.{Told, gives, refuses}
use Rattle.prelude.specs.declared.Place.{Place}
use Rattle.prelude.specs.declared.Place.TheVariants.{One}
use Rattle.build_visits.specs.Items.{length_of}
use Rattle.build_plan.specs.Placing.{placed_all}
use Rattle.output.specs.Output.{room_of, fill_of, Figures, told_build, room_told, placed_told, settled_told, visits_of}
use Rattle.output.specs.Calls.{Call, closed_in}
use Rattle.output.specs.Laws.Calls.{passes-are}
use Rattle.output.specs.Rooms.{AllPlaced, ImageShort, SpansShort, length_in, span_count}

module _ (c : Call) (all : AllPlaced c) where
  figures : told_build c.answer.build ≡ room_told (room_of c.old) all.k (length_in c) (span_count c)
  figures =
      c.meets.figures
      ∙ ap (settled_told c.given (room_of c.old)) all.settled
      ∙ ap
      (λ (n : ℕ). placed_told (room_of c.old) all.k
      (length_of (fill_of c.given) (Rattle.build_visits.specs.Items.items_of (visits_of c.given n)))
      (length (Rattle.build_visits.specs.Spans.spans_of (visits_of c.given n)))
      (placed_all (closed_in c) (visits_of c.given n)))
      (sym (passes-are c))
      ∙ ap (placed_told (room_of c.old) all.k (length_in c) (span_count c)) all.placed

  gave : {x : Figures} {a : ℕ} {p : Place} → ◌≡◌ {A = Told Figures} (gives x) (refuses a p) → ⊥
  gave e = unlike cc

  abbrev short : Bool
  short = ltb (8 * length c.old.image) (length_in c)

  abbrev few : Bool
  few = ltb (room_of c.old).spans (span_count c)

  abbrev done : Told Figures
  done = gives (record { k = all.k; length = length_in c; spans = span_count c })

  -- what is told, by the two tests
  abbrev ToldBy : Bool → Bool → Told Figures
  ToldBy a b = pick a (refuses 14 (One 0)) (pick b (refuses 14 (One 1)) done)

  -- Otherwise the build is accepted: with K, that length and so many spans.
  pub accepted-exactly : (told_build c.answer.build ≡ gives (record { k = all.k; length = length_in c; spans = span_count c }))
      ↔ ((ImageShort c → ⊥) × (SpansShort c → ⊥))
  accepted-exactly = (
    λ t. go short few refl refl (sym figures ∙ t),
    λ h.
        let long : 8 * length c.old.image < length_in c → ⊥ = h.0 in
        let many : (room_of c.old).spans < span_count c → ⊥ = h.1 in
        figures
        ∙ pick-false _ _ (le-ltb (8 * length c.old.image) (length_in c) (omega (arith, long)))
        ∙ pick-false _ _ (le-ltb (room_of c.old).spans (span_count c) (omega (arith, many))),
  )
    where
      go : (a b : Bool) → ltb (8 * length c.old.image) (length_in c) ≡ a → ltb (room_of c.old).spans (span_count c) ≡ b
          → ToldBy a b
          ≡ done
          → (ImageShort c → ⊥) × (SpansShort c → ⊥)
      go true b ea eb t = absurd (gave (sym t))
      go false true ea eb t = absurd (gave (sym t))
      go false false ea eb t =
          let enough = ltb-false (8 * length c.old.image) (length_in c) ea in
          let places = ltb-false (room_of c.old).spans (span_count c) eb in
          (λ h. omega (arith, enough), λ h. omega (arith, places))
