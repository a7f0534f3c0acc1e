-- Theorems about what PagedPlaces defines: the build with a page size of a layout with one bank, and of the same layout with a bank 1.
use Rattle.std.specs.Prelude.{ℕ, suc, ◌<◌, ◌≡◌, Bool, true, false, Some, Err, Result}
use Rattle.std.proofs.Math.Path.{refl}
use Rattle.std.proofs.Common.{sym, ap, subst, ◌∙◌, arith}
use Rattle.prelude.specs.Laws.Bools.{either, unlike}
use Rattle.prelude.specs.Laws.Pick.{pick_true}
use Rattle.prelude.specs.Pick.{pick}
use Rattle.prelude.specs.Refusals.{number_of}
use Rattle.prelude.specs.Told.{Told, told_number}
use Rattle.prelude.specs.declared.Refusal.{Refusal}
use Rattle.prelude.specs.declared.Refusal.TheVariants.{BankCount, OffProfile}
use Rattle.prelude.specs.Verdict.{Verdict, Accepted}
use Rattle.bankdef.specs.Check.{check_of}
use Rattle.bankdef.specs.Numbers.{bank_fault}
use Rattle.bankdef.specs.declared.Bankdefs.{Bankdefs}
use Rattle.nodes.specs.Lists.{first_of, lists_of}
use Rattle.resolver.specs.declared.Resolution.{Resolution}
use Rattle.output.specs.Output.{Input, Lent, Room, room_of, build_of, settled_build, Figures, told_build}
use Rattle.output.specs.declared.Output.{Output}
use Rattle.output.specs.declared.Built.{Built}
use Rattle.build_profile.specs.Kept as kept
use Rattle.build_profile.specs.Kept.{Breaks, Judged}
use Rattle.build_profile.specs.Profile.{verdict_of}
use Rattle.build_profile.specs.Rules.{rules_of}
use Rattle.build_profile.specs.Theorems.Kept.{judged}
use Rattle.build_paged.specs.InProfile.{leaves, said_of}
use Rattle.build_paged.specs.Theorems.Nineteen.{ordinary-below-17}
use Rattle.form_build.specs.Paged.{after_said, output_in, BuiltIn}
use Rattle.thm_conversions.specs.Builds.{profile_output}
use Rattle.thm_conversions.specs.DefaultBankSame.{TwoBanks}
use Rattle.thm_conversions.specs.Laws.Builds.{ordinary, other-stays, own}
use Rattle.thm_conversions.specs.Laws.DefaultBankSame.{two-banks, build-is, refused-first, after_table}
use Rattle.thm_conversions.specs.Laws.Figures.{build-told}
use Rattle.thm_conversions.specs.Laws.Places.{refused-same}
use Rattle.thm_conversions.specs.PagedPlaces as places
use Rattle.thm_conversions.specs.PagedPlaces.{PagedRises}
use Rattle.thm_conversions.specs.Places.{Rises}
use Rattle.thm_conversions.specs.Raised.{place_raised, rule_raised, raised_verdict}
use Rattle.thm_conversions.specs.Theorems.DefaultBankSame.{check-here, same_answer, same-build}
use Rattle.thm_conversions.specs.Theorems.DefaultProfileSame.{same-verdict}
use Rattle.thm_conversions.specs.Theorems.Places as ordinary-places
use Rattle.thm_conversions.specs.Widened.{only_bank, two_banks, widened, OneBank, counts_sound, raised}

-- ---- the answer, and everything lent

module _ (b : Input) (table : Bankdefs) (one : OneBank b) (two : TwoBanks (only_bank b) table) (page : ℕ) where
  -- The same answer but for places.
  pub same-paged-answer : (room : Room) → output_in (Some page) (widened b table) room ≡ profile_output b (output_in (Some page) b room)
  same-paged-answer room =
      ap (λ (v : Verdict). after_said v (build_of (widened b table) room)) (same-verdict b table one two page) ∙ go (said_of page b)
    where
      go : (v : Verdict) → after_said (raised_verdict b v) (build_of (widened b table) room) ≡ profile_output b (after_said v (build_of b room))
      go Accepted = same_answer b table one two room ∙ ordinary b room
      go (Err why) = refl

  same-leaves : (old : Lent) → leaves (widened b table) old (profile_output b (output_in (Some page) b (room_of old)))
      ≡ leaves b old (output_in (Some page) b (room_of old))
  same-leaves old = go (said_of page b)
    where
      go : (v : Verdict) → leaves (widened b table) old (profile_output b (after_said v (build_of b (room_of old))))
          ≡ leaves b old (after_said v (build_of b (room_of old)))
      go Accepted =
          ap (leaves (widened b table) old) (sym (same_answer b table one two (room_of old) ∙ ordinary b (room_of old)))
          ∙ (same-build b table one two old (own b old) (own (widened b table) old)).1
      go (Err why) = refl

  -- Everything lent is the same.
  pub same-paged-build : {old new : Lent} {r : Output} → BuiltIn (Some page) b old r new → BuiltIn (Some page) (widened b table) old (profile_output b r) new
  same-paged-build {old} {new} {r} p =
      record {
        answer = ap (profile_output b) p.answer ∙ sym (same-paged-answer (room_of old));
        left = p.left ∙ ap (leaves b old) p.answer ∙ sym (same-leaves old)
            ∙ ap (λ (o : Output). leaves (widened b table) old (profile_output b o)) (sym p.answer);
      }

-- ---- the places

abbrev why_of : Verdict → Refusal
why_of Accepted = BankCount
why_of (Err why) = why

module _ (b : Input) (one : OneBank b) (page : ℕ) (room : Room) where
  abbrev Becomes : Refusal → Type 0
  Becomes why = PagedRises b why (raised b (rule_raised why))

  -- a refusal of the ordinary build
  from-build : (why : Refusal) → (build_of b room).build ≡ Err why → Becomes why
  from-build why e =
      let low : told_number (told_build (build_of b room).build) < 17 =
      subst (λ (t : Told Figures). told_number t < 17) (sym (build-told b room)) (ordinary-below-17 b room) in
      let stays : rule_raised why ≡ why = other-stays why (subst (λ (x : Result Built Refusal). told_number (told_build x) < 17) e low) in
      subst (λ (w : Refusal). PagedRises b why (raised b w)) (sym stays) (places.ordinary (ordinary-places.rises b one room why e))

  table-refuses : {why : Refusal} → check_of b.banks ≡ Err why → (build_of b room).build ≡ Err why
  table-refuses {why} e =
      ap (λ (o : Output). o.build) (build-is b room)
      ∙ ap (λ (r : Resolution). settled_build b room r.passes r.settled) (refused-first b.banks b.lists b.choices why e)

  lists-refuse : {why : Refusal} → check_of b.banks ≡ Accepted → lists_of b.banks.len b.lists b.choices.fill ≡ Err why
      → (build_of b room).build ≡ Err why
  lists-refuse {why} c e =
      ap (λ (o : Output). o.build) (build-is b room)
      ∙ ap (λ (r : Resolution). settled_build b room r.passes r.settled) (after_table b.banks b.lists b.choices (Err why) c e)

  -- 19: the one bank is bank 0
  at_zero : {k : ℕ} (why other : ℕ → Refusal) → k < b.banks.len → PagedRises b (why 0) (other 0) → PagedRises b (why k) (other k)
  at_zero {k} why other less h =
      let z : 0 ≡ k = omega (arith, less, one.count) in
      subst (λ (n : ℕ). PagedRises b (why n) (other n)) z h

  off-rule : {rule at : ℕ} → Breaks b.banks b.lists page rule at → PagedRises b (OffProfile rule at) (OffProfile rule (place_raised rule at))
  off-rule (kept.page-size h) = places.page-size
  off-rule (kept.label {k} p f) = places.alignment k
  off-rule (kept.align {i} p l f) = places.alignment i
  off-rule (kept.offset p l a f) = at_zero (λ k. OffProfile 3 k) (λ k. OffProfile 3 (suc k)) f.listed places.offset
  off-rule (kept.size p l a o f) = at_zero (λ k. OffProfile 4 k) (λ k. OffProfile 4 (suc k)) f.listed places.size
  off-rule (kept.unit p l a o s f) = at_zero (λ k. OffProfile 5 k) (λ k. OffProfile 5 k) f.listed places.unit
  off-rule (kept.addr {i} p l a o s u f) = places.addr i

  picked : (s t : Bool) (x w : Refusal) → s ≡ false → pick s x (pick t w w) ≡ w
  picked s true x w e = rw e
  picked s false x w e = rw e

  -- no other refusal stands before it
  stays : check_of b.banks ≡ Accepted → (rule at : ℕ) → raised b (OffProfile rule at) ≡ OffProfile rule at
  stays c rule at =
      either (bank_fault (only_bank b))
      (λ t. absurd (let z : ◌≡◌ {A = (Verdict)} (Err _) Accepted =
      sym (check-here b (two_banks (only_bank b)) one (two-banks (only_bank b)) ∙ pick_true _ _ t) ∙ c in
      unlike cc))
      (λ f. picked (bank_fault (only_bank b)) (counts_sound b) _ (OffProfile rule at) f)

  go : (c : Verdict) → check_of b.banks ≡ c → (v : Verdict) → lists_of b.banks.len b.lists b.choices.fill ≡ v → {w : Verdict}
      → Judged b.banks b.lists page w → (why : Refusal) → first_of c (first_of v w) ≡ Err why → Becomes why
  go (Err x) f v g j why e = subst Becomes (ap why_of e) (from-build x (table-refuses f))
  go Accepted f (Err x) g j why e = subst Becomes (ap why_of e) (from-build x (lists-refuse f g))
  go Accepted f Accepted g (kept.keeps h) why e = unlike cc
  go Accepted f Accepted g (kept.breaks {rule} {at} h) why e =
      subst Becomes (ap why_of e)
      (subst (λ (w : Refusal). PagedRises b (OffProfile rule at) w) (sym (stays f rule (place_raised rule at))) (off-rule h))

  said-becomes : (why : Refusal) → said_of page b ≡ Err why → Becomes why
  unfolding verdict_of
  said-becomes why e = go (check_of b.banks) refl (lists_of b.banks.len b.lists b.choices.fill) refl (judged b.banks b.lists page) why e

  -- Every refusal of the layout with one bank, and what it is in the other.
  pub paged-rises : (why : Refusal) → (output_in (Some page) b room).build ≡ Err why → PagedRises b why (raised b (rule_raised why))
  paged-rises why e = from (said_of page b) refl e
    where
      from : (v : Verdict) → said_of page b ≡ v → (after_said v (build_of b room)).build ≡ Err why → Becomes why
      from Accepted f h = from-build why h
      from (Err x) f h = subst Becomes (refused-same h) (said-becomes x f)

-- The number stays.
pub same-paged-number : {b : Input} {why other : Refusal} → PagedRises b why other → number_of other ≡ number_of why
same-paged-number (places.ordinary h) = ordinary-places.same_number h
same-paged-number places.page-size = refl
same-paged-number (places.alignment at) = refl
same-paged-number places.offset = refl
same-paged-number places.size = refl
same-paged-number places.unit = refl
same-paged-number (places.addr i) = refl
