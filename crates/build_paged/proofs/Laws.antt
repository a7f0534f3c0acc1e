-- The build in the profile, return by return.
use Rattle.std.specs.Prelude.{Err}
use Prim.Native.Nat.{ℕ}
use mathlib.Core.Path.{◌≡◌, refl, sym, ap, ◌∙◌}
use Rattle.prelude.specs.declared.Refusal.{Refusal}
use Rattle.prelude.specs.Verdict.{Verdict, Accepted}
use Rattle.bankdef.specs.Check.{check_of}
use Rattle.resolver.specs.Layout.{Checked}
use Rattle.nodes.specs.Lists.{lists_of, first_of}
use Rattle.output.specs.Output.{Input, Lent, Room, room_of, refused_after, settled_of, told_build, settled_told, Builds}
use Rattle.output.specs.declared.Output.{Output}
use Rattle.build_profile.specs.Kept.{Judged, keeps, breaks}
use Rattle.build_profile.specs.Theorems.Kept.{judged}
use Rattle.build_profile.specs.Profile.{verdict_of, paged_by, profile_of}
use Rattle.build_profile.specs.Rules.{rules_of}
use Rattle.build_profile.specs.declared.Paged.{Paged}
use Rattle.build_paged.specs.InProfile.{outcome, leaves, built_of, said_of, after_yes, built_in_profile}
use Rattle.build_paged.specs.InProfile.{InProfileTold, table, lists, off, on, BuildsInProfile}

paged-verdict : (v : Verdict) (b : Input) (page : ℕ) → (paged_by v page b.banks).verdict ≡ v
paged-verdict Accepted b page = refl
paged-verdict (Err why) b page = refl

-- the verdict of the profile's answer
pub verdict-is : (page : ℕ) (b : Input) {r : Paged} → r ≡ profile_of b.banks b.lists b.choices.fill page → r.verdict ≡ said_of page b
verdict-is page b e = ap (λ (p : Paged). p.verdict) e ∙ paged-verdict (said_of page b) b page

module _ (page : ℕ) (b : Input) (room : Room) where
  -- what is told by a verdict
  abbrev ToldBy : Verdict → Type 0
  ToldBy Accepted = InProfileTold page b room (settled_told b room (settled_of b))
  ToldBy (Err why) = InProfileTold page b room (told_build (refused_after 0 why).build)

  by-rules : Checked b.banks b.lists b.choices.fill → {v : Verdict} → Judged b.banks b.lists page v → ToldBy v
  by-rules c (keeps h) = on c h
  by-rules c (breaks f) = off c f

  by-lists : check_of b.banks ≡ Accepted → (v : Verdict) → lists_of b.banks.len b.lists b.choices.fill ≡ v
      → ToldBy (first_of v (rules_of b.banks b.lists page))
  by-lists t Accepted e = by-rules (record { table = t; lists = e }) (judged b.banks b.lists page)
  by-lists t (Err why) e = lists why t e

  by-table : (v : Verdict) → check_of b.banks ≡ v
      → ToldBy (first_of v (first_of (lists_of b.banks.len b.lists b.choices.fill) (rules_of b.banks b.lists page)))
  by-table Accepted e = by-lists e (lists_of b.banks.len b.lists b.choices.fill) refl
  by-table (Err why) e = table why e

  tells : ToldBy (said_of page b)
  unfolding verdict_of
  tells = by-table (check_of b.banks) refl

module _ (page : ℕ) (b : Input) (old : Lent) where
  pub says-no : {v : Verdict} {why : Refusal} {r : Output} → v ≡ said_of page b → v ≡ Err why → r ≡ refused_after 0 why
      → BuildsInProfile page b old r old
  unfolding built_in_profile
  says-no {v} {why} {r} e f q =
      let g : said_of page b ≡ Err why = sym e ∙ f in
      rw q (record {
        result = ap (λ (x : Verdict). after_yes x (built_of b old) old) (sym g);
        figures = rw g at (tells page b (room_of old));
      })

  pub says-yes : {v : Verdict} {r : Output} {new : Lent} → v ≡ said_of page b → v ≡ Accepted → Builds b old r new → BuildsInProfile page b old r new
  unfolding built_in_profile
  says-yes {v} {r} {new} e f p =
      let g : said_of page b ≡ Accepted = sym e ∙ f in
      let same : outcome r new ≡ built_of b old = made p.answer (p.left ∙ ap (leaves b old) p.answer) in
      record {
        result = same ∙ ap (λ (x : Verdict). after_yes x (built_of b old) old) (sym g);
        figures = rw p.figures (let t : ToldBy page b (room_of old) Accepted = rw g at (tells page b (room_of old)) in t);
      }
    where
      made : {s : Output} {x y : Lent} → r ≡ s → x ≡ y → outcome r x ≡ outcome s y
      made d h = rw (d, h)
