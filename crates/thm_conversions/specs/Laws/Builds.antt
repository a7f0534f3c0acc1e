-- Laws that Theorems/Builds rests on.
use Rattle.std.specs.Prelude.{◌<◌, ◌≡◌, refl, ◌∷◌, get_or, replicate, Err, Ok, Result}
use Rattle.std.proofs.Common.{sym, ap, subst, arith}
use Rattle.prelude.specs.Told.{Told, told_number}
use Rattle.prelude.specs.declared.Refusal.{Refusal}
use Rattle.prelude.specs.declared.Refusal.TheVariants.{BankCount, BankNumber, BanksOverlap, Malformed}
use Rattle.prelude.specs.declared.Refusal.TheVariants.{PositionPast, LabelOffBoundary, Unresolved, DefaultBank, PastBank}
use Rattle.prelude.specs.declared.Refusal.TheVariants.{NoOutput, Overlap, StoreFull, TooShort, BadStore, BadPart, PartlyCovered, FillBitDropped, OffProfile}
use Rattle.iter.specs.Step.{no_lost}
use Rattle.output.specs.Output.{Input, Lent, Room, room_of, build_of, Builds}
use Rattle.output.specs.Output.{Figures, told_build}
use Rattle.output.specs.declared.Output.{Output}
use Rattle.output.specs.declared.Built.{Built}
use Rattle.build_paged.specs.InProfile.{leaves}
use Rattle.build_paged.specs.Theorems.Nineteen.{ordinary-below-17}
use Rattle.thm_conversions.specs.Widened.{raised, raised_build, raised_output}
use Rattle.thm_conversions.specs.Laws.Figures.{build-told}
use Rattle.thm_conversions.specs.Raised.{rule_raised}
use Rattle.thm_conversions.specs.Builds.{profile_build, profile_output}

-- ---- the ordinary build, which gives no 19

pub other-stays : (why : Refusal) → told_number (told_build (Err why)) < 17 → rule_raised why ≡ why
other-stays BankCount h = refl
other-stays (BankNumber bank) h = refl
other-stays (BanksOverlap first second) h = refl
other-stays (Malformed node) h = refl
other-stays (PositionPast node) h = refl
other-stays Unresolved h = refl
other-stays (LabelOffBoundary node) h = refl
other-stays (DefaultBank node) h = refl
other-stays (PastBank node) h = refl
other-stays (NoOutput node) h = refl
other-stays (Overlap start size) h = refl
other-stays (StoreFull node) h = refl
other-stays (TooShort buffer) h = refl
other-stays (BadStore entry) h = refl
other-stays BadPart h = refl
other-stays PartlyCovered h = refl
other-stays FillBitDropped h = refl
other-stays (OffProfile rule at) h = absurd (let x : ⊥ = omega (arith, h) in x)

-- the ordinary build meets its contract
pub own : (b : Input) (old : Lent) → Builds b old (build_of b (room_of old)) (leaves b old (build_of b (room_of old)))
own b old = record { answer = refl; figures = build-told b (room_of old); left = refl }

pub ordinary : (b : Input) (room : Room) → raised_output b (build_of b room) ≡ profile_output b (build_of b room)
ordinary b room =
    let low = subst (λ (t : Told Figures). told_number t < 17) (sym (build-told b room)) (ordinary-below-17 b room) in
    with-build (build_of b room) (go (build_of b room).build low)
  where
    go : (x : Result Built Refusal) → told_number (told_build x) < 17 → raised_build b x ≡ profile_build b x
    go (Ok ended) h = refl
    go (Err why) h = ap (λ (y : Refusal). Err (raised b y)) (sym (other-stays why h))

    with-build : (o : Output) {x y : Result Built Refusal} → x ≡ y
        → ◌≡◌ {A = Output} (record { build = x; passes = o.passes; padding = no_lost ∷ get_or o.padding 0 no_lost ∷ replicate 14 no_lost })
        (record { build = y; passes = o.passes; padding = no_lost ∷ get_or o.padding 0 no_lost ∷ replicate 14 no_lost })
    with-build o e = rw e
