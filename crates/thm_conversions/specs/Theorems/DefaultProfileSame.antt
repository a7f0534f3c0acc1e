-- Theorems about what Same defines.
use Rattle.std.specs.Prelude.{ℕ, ◌-◌, ◌≡◌, refl, true, false, get_or, Err}
use Rattle.std.proofs.Common.{sym, ◌∙◌}
use Rattle.std.proofs.Math.Path.{ap}
use mathlib.Core.List.{List, [], ◌∷◌, ◌++◌, map}
use Rattle.std.proofs.Math.ListN.{replicate}
use Rattle.prelude.specs.Laws.Bools.{either, both}
use Rattle.prelude.specs.Limits.{max_banks}
use Rattle.prelude.specs.Pick.{pick}
use Rattle.prelude.specs.Laws.Pick.{pick_true}
use Rattle.prelude.specs.declared.Refusal.{Refusal}
use Rattle.prelude.specs.declared.Refusal.TheVariants.{Malformed, OffProfile}
use Rattle.prelude.specs.Verdict.{Verdict, Accepted}
use Rattle.bankdef.specs.Check.{check_of}
use Rattle.bankdef.specs.Numbers.{bank_fault}
use Rattle.bankdef.specs.declared.Bankdef.{Bankdef}
use Rattle.bankdef.specs.declared.Bankdefs.{Bankdefs}
use Rattle.nodes.specs.Lists.{Lists, first_of, row_count_sound, known_fill, lists_of}
use Rattle.output.specs.Output.{Input}
use Rattle.build_profile.specs.Kept.{Judged, keeps, breaks}
use Rattle.build_profile.specs.Theorems.Kept.{judged}
use Rattle.build_profile.specs.Pages.{no_pages, pages_in, pages_of}
use Rattle.build_profile.specs.Profile.{verdict_of, paged_by, profile_of}
use Rattle.build_profile.specs.Rules.{rules_of}
use Rattle.thm_conversions.specs.Widened.{only_bank, two_banks, with_switch, with_bank1, OneBank, counts_sound}
use Rattle.thm_conversions.specs.Laws.Checks.{shifted_verdict, field-here, field-there, lists-shift}
use Rattle.thm_conversions.specs.DefaultBankSame.{TwoBanks}
use Rattle.thm_conversions.specs.Laws.DefaultBankSame.{two-banks}
use Rattle.thm_conversions.specs.Theorems.DefaultBankSame.{counted, single, check-here, check-there, table_here, table-there}
use Rattle.thm_conversions.specs.Theorems.DefaultBankSame.{stays-miscounted, shifts-counted}
use Rattle.thm_conversions.specs.Raised.{place_raised, rule_verdict, raised_verdict, raised_paged}
use Rattle.thm_conversions.specs.Theorems.Rules.{rules-raised}
use Rattle.thm_conversions.specs.DefaultProfileSame.{profiled}
use Rattle.thm_conversions.specs.Laws.DefaultProfileSame.{Four, at, lists-four, none}

module _ (b : Input) (table : Bankdefs) (one : OneBank b) (two : TwoBanks (only_bank b) table) (page : ℕ) where
  abbrev l : Lists
  l = b.lists

  abbrev m : Lists
  m = with_switch b.lists

  abbrev fill : ℕ
  fill = b.choices.fill

  abbrev Goal : Type 0
  Goal = verdict_of table m fill page ≡ raised_verdict b (verdict_of b.banks l fill page)

  -- by what the checks and the rules say of each
  from_parts : {c d x y r s : Verdict} → check_of b.banks ≡ c → check_of table ≡ d → lists_of 1 l fill ≡ x → lists_of 2 m fill ≡ y
      → rules_of b.banks l page ≡ r → rules_of table m page ≡ s → first_of d (first_of y s) ≡ raised_verdict b (first_of c (first_of x r)) → Goal
  unfolding verdict_of
  from_parts {c} {d} {x} {y} {r} {s} e f g h i j k =
      law f (ap (λ (n : ℕ). lists_of n m fill) two.count ∙ h) j ∙ k
      ∙ ap (raised_verdict b) (sym (law e (ap (λ (n : ℕ). lists_of n l fill) one.count ∙ g) i))
    where
      law : {a b c x y z : Verdict} → a ≡ x → b ≡ y → c ≡ z → first_of a (first_of b c) ≡ first_of x (first_of y z)
      law e f g = rw (e, f, g)

  refusing : {why other : Refusal} → why ≡ other → ◌≡◌ {A = (Verdict)} (Err why) (Err other)
  refusing e = rw e

  -- 2
  faulty : bank_fault (only_bank b) ≡ true → Goal
  faulty e =
      from_parts (check-here b table one two ∙ pick_true _ _ e) (check-there b table one two ∙ pick_true _ _ e) refl refl refl refl
      (refusing (sym (pick_true _ _ e)))

  module _ (sound : bank_fault (only_bank b) ≡ false) where
    -- 4 with a field
    miscounted : counts_sound b ≡ false → Goal
    miscounted e =
        let why = Malformed (pick (row_count_sound l) 3 1) in
        from_parts (table_here b table one two sound) (table-there b table one two sound)
        (field-here l (counted b table one two) one.switches one.room fill e)
        (field-there l (counted b table one two) one.switches one.room fill e) refl refl
        (refusing (stays-miscounted b table one two sound e why))

    module _ (counts : counts_sound b ≡ true) where
      -- 19
      in-rules : {v : Verdict} → Judged b.banks l page v → rule_verdict v ≡ raised_verdict b v
      in-rules (keeps h) = refl
      in-rules (breaks {rule} {at} h) = refusing (shifts-counted b table one two sound counts (OffProfile rule (place_raised rule at)))

      -- 4 at a node
      in-lists : {v : Verdict} → Four v
          → first_of (shifted_verdict v) (rule_verdict (rules_of b.banks l page)) ≡ raised_verdict b (first_of v (rules_of b.banks l page))
      in-lists none = in-rules (judged b.banks l page)
      in-lists (at place) = refusing (shifts-counted b table one two sound counts (Malformed place))

      judged-alike : Goal
      judged-alike =
          let both-sound = both (row_count_sound l) (known_fill fill) counts in
          from_parts (table_here b table one two sound) (table-there b table one two sound) refl
          (lists-shift l (counted b table one two) one.switches one.room fill both-sound.0 both-sound.1)
          refl (rules-raised b table one two page) (in-lists (lists-four 1 l fill))

  -- The profile says yes to both or refuses both, for the same reason, its place raised.
  pub same-verdict : verdict_of table m fill page ≡ raised_verdict b (verdict_of b.banks l fill page)
  same-verdict =
      either (bank_fault (only_bank b)) faulty (λ sound. either (counts_sound b) (judged-alike sound) (miscounted sound))

  -- ---- the pages

  pages-here : pages_of page b.banks ≡ pages_in page (only_bank b) ∷ replicate 15 no_pages
  unfolding pages_of
  pages-here = law (single b table one two) one.count
    where
      law : {k : List Bankdef} {n : ℕ} → k ≡ only_bank b ∷ [] → n ≡ 1
          → map (pages_in page) k ++ replicate (max_banks - n) no_pages ≡ pages_in page (only_bank b) ∷ replicate 15 no_pages
      law e f = rw (e, f)

  pages-there : pages_of page table ≡ no_pages ∷ pages_in page (only_bank b) ∷ replicate 14 no_pages
  unfolding pages_of
  pages-there = law two.banks two.count
    where
      law : {k x : List Bankdef} {n : ℕ} → k ≡ x → n ≡ 2
          → map (pages_in page) k ++ replicate (max_banks - n) no_pages ≡ map (pages_in page) x ++ replicate 14 no_pages
      law e f = rw (e, f)

  -- Bank 1 has bank 0's pages, bank 0 none.
  pub same-pages : pages_of page table ≡ no_pages ∷ get_or (pages_of page b.banks) 0 0 ∷ replicate 14 no_pages
  same-pages = pages-there ∙ ap (λ (p : List ℕ). no_pages ∷ get_or p 0 0 ∷ replicate 14 no_pages) (sym pages-here)

  -- The whole answer of the profile call.
  pub same-profile : profile_of table m fill page ≡ raised_paged b (profile_of b.banks l fill page)
  same-profile = ap (λ (v : Verdict). paged_by v page table) same-verdict ∙ go (verdict_of b.banks l fill page)
    where
      go : (v : Verdict) → paged_by (raised_verdict b v) page table ≡ raised_paged b (paged_by v page b.banks)
      go Accepted = ap (λ (p : List ℕ). record { verdict = Accepted; pages = p }) same-pages
      go (Err why) = refl

-- Of the layout with the table that the converter makes.
pub converted-same-profile : (b : Input) → OneBank b → (page : ℕ) → profiled (with_bank1 b) page ≡ raised_paged b (profiled b page)
converted-same-profile b one page = same-profile b (two_banks (only_bank b)) one (two-banks (only_bank b)) page
