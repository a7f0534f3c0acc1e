-- The verdict of the profile, as the two calls tell it: 1 to 4 as the build's sentences have them, then the rules, then what comes after a yes.
use Rattle.std.specs.Prelude.{◌≡◌, ℕ, ◌≤◌, Err}
use Rattle.std.proofs.Math.Path.{refl}
use Rattle.std.proofs.Common.{ap, subst, arith}
use Rattle.prelude.specs.Refusals.{number_of, place_of}
use Rattle.prelude.specs.declared.Refusal.{Refusal}
use Rattle.prelude.specs.Verdict.{Verdict, Accepted}
use Rattle.bankdef.specs.Check.{check_of}
use Rattle.nodes.specs.Lists.{lists_of, first_of}
use Rattle.resolver.specs.Layout.{Checked, layout_of}
use Rattle.resolver.proofs.RefusedExactly.{table-first, lists-next}
use Rattle.resolver.specs.declared.Resolution.{Resolution}
use Rattle.build_profile.specs.Profile.{verdict_of}
use Rattle.build_profile.specs.Rules.{rules_of}
use Rattle.c_tables.specs.Tables.{choices_by}
use Rattle.c_answers.specs.Told as told
use Rattle.says.specs.Words as w
use Rattle.says.specs.Build as b
use Rattle.says.specs.Build.{Given, Lent, Outcome, LastPass, Accepts, Built, Laid, BuildSays, refusal}
use Rattle.meets_sentences.specs.Typed.{Typed}
use Rattle.meets_build.specs.Laws.Shown.{listed}
use Rattle.meets_build.specs.Laws.Table.{table}
use Rattle.meets_build.specs.Laws.Checks.{answered, layout-meets}
use Rattle.says.specs.Profile.{Checks, Rules}
use Rattle.meets_profile.specs.Laws.Tried.{Keeps, through, checks-map, tries-all}
use Rattle.meets_profile.specs.Laws.Sound.{clear}
use Rattle.meets_profile.specs.Laws.Ruled.{rules-say}

module _ (g : Given) (old : Lent) where
  -- ---- what comes after 4 has run a pass

  last_runs : {k n : ℕ} → LastPass g k n → 1 ≤ n
  last_runs (b.limit-zero e) = omega arith
  last_runs (b.below h l go r u) = omega arith
  last_runs (b.at-limit h go) = h

  abbrev Ran : Outcome → Type 0
  Ran y = 1 ≤ y.answer.passes

  accepts-ran : {r k n l c : ℕ} {y : Outcome} → 1 ≤ n → Accepts g old r k n l c y → Ran y
  accepts-ran h (b.accepts p f) = h

  built-ran : {r k n : ℕ} {y : Outcome} → 1 ≤ n → Built g old r k n y → Ran y
  built-ran h (b.refused f) = h
  built-ran {y = y} h (b.placed free l c t) = tries-all Ran (λ x. h) y (tries-all Ran (λ x. h) y (accepts-ran h)) t

  laid-ran : {y : Outcome} → Laid g old y → Ran y
  laid-ran (b.stops h l go f s) = h
  laid-ran (b.last-stops p f s) = last_runs p
  laid-ran (b.unresolved p r u) = last_runs p
  laid-ran (b.built p r u q t) = built-ran (last_runs p) t

  module _ (typed : Typed g) where
    -- ---- 1 to 4

    refused-first : (why : Refusal)
        → layout_of (table g) (listed g) (choices_by g.limit g.fill g.closed) ≡ record { settled = Err why; passes = 0 }
        → BuildSays g old (answered g typed old why 0)
    refused-first why e =
        subst (λ (n : ℕ). BuildSays g old (answered g typed old why n)) (ap (λ (r : Resolution). r.passes) e)
        ((layout-meets g typed old).0 why (ap (λ (r : Resolution). r.settled) e))

    module _ {Z : Type 0} (refusing : (number place second : ℕ) → Z) (tells : Outcome → Z)
        (same : (number place second : ℕ) → tells (refusal g old number place second 0) ≡ refusing number place second) (yes : Z) where
      -- a verdict as it is told
      abbrev pub told_as : Verdict → Z
      told_as Accepted = yes
      told_as (Err why) = refusing (number_of why) (told.first_of (place_of why)) (told.second_of (place_of why))

      pub early : (After : Z → Type 0) (why : Refusal)
          → layout_of (table g) (listed g) (choices_by g.limit g.fill g.closed) ≡ record { settled = Err why; passes = 0 }
          → Checks g refusing After (told_as (Err why))
      early After why e =
          subst (Checks g refusing After) (same (number_of why) (told.first_of (place_of why)) (told.second_of (place_of why)))
          (checks-map g (λ number place second. refusal g old number place second 0) (Laid g old) tells same (answered g typed old why 0)
          (λ c l. absurd (let h : 1 ≤ 0 = laid-ran l in omega arith)) (refused-first why e))

      -- ---- the whole

      module _ (page : ℕ) (Then : Z → Type 0) (then : Checked (table g) (listed g) g.fill → Keeps g page → Then yes) where
        rules-next : Checked (table g) (listed g) g.fill
            → Checks g refusing (Rules g page (refusing 19) Then) (told_as (rules_of (table g) (listed g) page))
        rules-next c = through g refusing (clear g typed c) (rules-say g typed c page told_as Then (then c))

        lists-next-say : check_of (table g) ≡ Accepted → (v : Verdict) → lists_of (table g).len (listed g) g.fill ≡ v
            → Checks g refusing (Rules g page (refusing 19) Then) (told_as (first_of v (rules_of (table g) (listed g) page)))
        lists-next-say t Accepted e = rules-next (record { table = t; lists = e })
        lists-next-say t (Err why) e = early _ why (lists-next (table g) (listed g) (choices_by g.limit g.fill g.closed) why t e)

        table-first-says : (v : Verdict) → check_of (table g) ≡ v
            → Checks g refusing (Rules g page (refusing 19) Then)
            (told_as (first_of v (first_of (lists_of (table g).len (listed g) g.fill) (rules_of (table g) (listed g) page))))
        table-first-says Accepted e = lists-next-say e (lists_of (table g).len (listed g) g.fill) refl
        table-first-says (Err why) e = early _ why (table-first (table g) (listed g) (choices_by g.limit g.fill g.closed) why e)

        -- What the profile's verdict is told as is what the sentences say.
        pub verdict-says : Checks g refusing (Rules g page (refusing 19) Then) (told_as (verdict_of (table g) (listed g) g.fill page))
        unfolding verdict_of
        verdict-says = table-first-says (check_of (table g)) refl
