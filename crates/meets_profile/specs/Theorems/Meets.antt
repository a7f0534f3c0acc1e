-- Every outcome of `dk_profile` and of `dk_build_paged` meets its sentences: whatever is given and lent, what the contract tells of the call is what
-- document 02, Ticket 9 says. Of the build: refusals 1 to 4 and 19 before the first pass, and after a yes the contract of `dk_build`.
use Rattle.std.specs.Prelude.{◌≡◌, refl, ℕ, replicate, Err}
use Rattle.std.proofs.Common.{sym, ap, subst, ◌∙◌}
use Rattle.prelude.specs.Verdict.{Verdict, Accepted}
use Rattle.form_build.specs.Paged.{after_said}
use Rattle.nodes.specs.Lists.{lists}
use Rattle.output.specs.Output as out
use Rattle.output.specs.Output.{Input, input, room_of, build_of}
use Rattle.build_profile.specs.Pages.{pages_of}
use Rattle.build_profile.specs.Profile.{verdict_of, paged_by}
use Rattle.build_paged.specs.InProfile.{leaves, said_of}
use Rattle.c_tables.specs.Tables.{given, table_of, choices_by}
use Rattle.c_answers.specs.Told.{profile_told, layout_told}
use Rattle.c_answers.specs.declared.DkLayout.{DkLayout}
use Rattle.c_answers.specs.declared.DkProfile.{DkProfile}
use Rattle.c_model.specs.Profiles.{ProfileSaid, PagedTold}
use Rattle.c_model.specs.Tables.{TablesTold}
use Rattle.says.specs.Build.{Given, Lent, Outcome, Laid, refusal}
use Rattle.meets_sentences.specs.Typed.{Typed}
use Rattle.meets_build.specs.Laws.Contract.{lent_so, input_of}
use Rattle.meets_build.specs.Laws.Shown.{listed}
use Rattle.meets_build.specs.Laws.Table.{table}
use Rattle.meets_build.specs.Theorems.Meets.{lent_of, build-meets}
use Rattle.says.specs.Profile.{Yes, ProfileSays, refused}
use Rattle.says.specs.Paged.{PagedSays}
use Rattle.meets_profile.specs.Laws.Paging.{says-yes}
use Rattle.meets_profile.specs.Laws.Sound.{nothing, by-definition, clear}
use Rattle.meets_profile.specs.Laws.Tried.{cleared}
use Rattle.meets_profile.specs.Laws.Verdicts.{told_as, verdict-says}

-- what `dk_profile` ensures of a call, word for word (crates/denkumari/src/profiles.rt)
abbrev pub ProfileContract : Given → ℕ → DkProfile → Type 0
ProfileContract g page r =
    ProfileSaid
    (table_of (given g.units g.starts g.bank_sizes g.bank_offsets g.aligns g.flags g.fill_bits))
    (lists g.kinds g.operands g.numbers g.states g.rows g.values)
    g.fill page r

-- and `dk_build_paged`
abbrev pub PagedContract : Given → ℕ → Lent → DkLayout → Lent → Type 0
PagedContract g page old r new =
    PagedTold page
    (input
    (table_of (given g.units g.starts g.bank_sizes g.bank_offsets g.aligns g.flags g.fill_bits))
    (lists g.kinds g.operands g.numbers g.states g.rows g.values)
    (choices_by g.limit g.fill g.closed))
    (lent_of old) r (lent_of new)

-- an answer of the profile by what a build would tell: its refusal and place
abbrev profiled : Outcome → DkProfile
profiled y = record { refusal = y.answer.refusal; place = y.answer.place; second = y.answer.second; pages = replicate 16 0 }

module _ (g : Given) (typed : Typed g) (page : ℕ) where
  abbrev answers : Verdict → DkProfile
  answers = told_as g nothing typed (refused g page) profiled (λ number place second. refl)
      (record { refusal = 0; place = 0; second = 0; pages = pages_of page (table g) })

  as-told : (v : Verdict) → answers v ≡ profile_told (paged_by v page (table g))
  as-told Accepted = refl
  as-told (Err why) = refl

  -- What the contract of `dk_profile` says of an answer, the sentences say.
  pub profile-meets : (r : DkProfile) → ProfileContract g page r → ProfileSays g page r
  profile-meets r s =
      subst (ProfileSays g page) (as-told (verdict_of (table g) (listed g) g.fill page) ∙ sym s.answer)
      (verdict-says g nothing typed (refused g page) profiled (λ number place second. refl)
      (record { refusal = 0; place = 0; second = 0; pages = pages_of page (table g) }) page (Yes g page) (λ c k. says-yes g typed page c k))

-- ---- a build in the profile

module _ (g : Given) (typed : Typed g) (page : ℕ) (old : out.Lent) where
  abbrev b : Input
  b = input_of g typed

  -- an outcome of the call
  abbrev pub outcome_of : DkLayout → out.Lent → Outcome
  outcome_of r new = record { answer = r; lent = lent_so new }

  -- the ordinary build's
  abbrev ordinary : Outcome
  ordinary = outcome_of (layout_told (build_of b (room_of old))) (leaves b old (build_of b (room_of old)))

  abbrev turned : (number place second : ℕ) → Outcome
  turned number place second = refusal g (lent_so old) number place second 0

  abbrev comes_to : Verdict → Outcome
  comes_to = told_as g (lent_so old) typed turned (λ y. y) (λ number place second. refl) ordinary

  as-built : (v : Verdict) → comes_to v ≡ outcome_of (layout_told (after_said v (build_of b (room_of old)))) (leaves b old (after_said v (build_of b (room_of old))))
  as-built Accepted = refl
  as-built (Err why) = refl

  comes-to : (r : DkLayout) (new : out.Lent) → PagedTold page b old r new → outcome_of r new ≡ comes_to (said_of page b)
  comes-to r new t =
      ap (λ (x : DkLayout). outcome_of x new) t.answer
      ∙ ap (λ (x : out.Lent). outcome_of (layout_told (after_said (said_of page b) (build_of b (room_of old)))) x) t.built.left
      ∙ sym (as-built (said_of page b))

  -- "A build in the profile is the ordinary build after a yes": the contract of `dk_build_paged` is then that of `dk_build`.
  pub paged-is-build : (r : DkLayout) (new : out.Lent) → PagedTold page b old r new → said_of page b ≡ Accepted → TablesTold b old r new
  paged-is-build r new t e =
      let answer : r ≡ layout_told (build_of b (room_of old)) = t.answer ∙ ap (λ (v : Verdict). layout_told (after_said v (build_of b (room_of old)))) e in
      let left : new ≡ leaves b old (build_of b (room_of old)) =
      t.built.left ∙ ap (λ (v : Verdict). leaves b old (after_said v (build_of b (room_of old)))) e in
      rw (answer, left) (by-definition g typed old)

  meets : (r : DkLayout) (new : out.Lent) → PagedTold page b old r new → PagedSays g page (lent_so old) (outcome_of r new)
  meets r new t =
      subst (PagedSays g page (lent_so old)) (sym (comes-to r new t))
      (verdict-says g (lent_so old) typed turned (λ y. y) (λ number place second. refl) ordinary page (Laid g (lent_so old))
      (λ c k. cleared g turned (clear g typed c)
      (build-meets g typed (lent_so old) (layout_told (build_of b (room_of old))) (lent_so (leaves b old (build_of b (room_of old))))
      (by-definition g typed old))))

-- What the contract of `dk_build_paged` says of an outcome, the sentences say.
pub paged-meets : (g : Given) → Typed g → (page : ℕ) (old : Lent) (r : DkLayout) (new : Lent) → PagedContract g page old r new
    → PagedSays g page old (record { answer = r; lent = new })
paged-meets g typed page old r new told = meets g typed page (lent_of old) r (lent_of new) told
