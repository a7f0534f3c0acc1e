-- Laws that proofs about Plan need.
use Rattle.std.specs.Prelude.{◌≡◌, refl, Bool, List, ℕ, ◌<◌, length, get_or, Err}
use Rattle.std.proofs.Common.{sym, ap, ◌∙◌}
use Rattle.std.proofs.lemmas.List.{length-map}
use Rattle.std.proofs.Math.ListN.{get_or-map}
use Rattle.prelude.specs.Laws.Bools.{unlike}
use Rattle.prelude.specs.Limits.{max_banks}
use Rattle.prelude.specs.Verdict.{Verdict, Accepted}
use Rattle.bitvec.specs.Lists.{list_of}
use Rattle.bitvec.specs.Laws.Lists.{length-list_of, get_d-list_of}
use Rattle.iter.specs.Laws.Crossing.{any-default}
use Rattle.iter.specs.Step.{no_lost}
use Rattle.iter.specs.declared.Lost.{Lost}
use Rattle.nodes.specs.Lists.{Row}
use Rattle.resolver.specs.Once.{Program}
use Rattle.build_visits.specs.Visits.{visits}
use Rattle.build_visits.specs.Items.{items_of, length_of}
use Rattle.build_visits.specs.Spans.{spans_of}
use Rattle.build_plan.specs.Placing.{Placed, holds, stops, placed_all}
use Rattle.build_plan.specs.declared.Plan.{Plan}
use Rattle.build_plan.specs.Plan.{of_banks, paddings_of, plan_accepted, plan_by, plan_of}

-- ---- of each bank

pub length-of-banks : (f : ℕ → Lost) → length (of_banks f) ≡ max_banks
length-of-banks f = length-map (list_of max_banks (λ bank. bank)) f ∙ length-list_of max_banks (λ bank. bank)

pub get_d-of-banks : (f : ℕ → Lost) (bank : ℕ) → bank < max_banks → get_or (of_banks f) bank no_lost ≡ f bank
get_d-of-banks f bank low =
    any-default (of_banks f) bank no_lost (f 0) (rw (length-of-banks f) low)
    ∙ get_or-map f (list_of max_banks (λ bank. bank)) bank 0
    ∙ ap f (get_d-list_of max_banks (λ bank. bank) bank low)

-- ---- a plan's verdict

abbrev pub verdict_placed : Placed → Verdict
verdict_placed (holds stored) = Accepted
verdict_placed (stops why) = Err why

-- ---- a plan by its parts

pub record Planned (p : Program) (row : Row) (closed : Bool) (fill : ℕ) (plan : Plan) : Type 0 where
  pub verdict : plan.verdict ≡ verdict_placed (placed_all closed (visits p row))
  pub reach : plan.verdict ≡ Accepted → plan.length ≡ length_of fill (items_of (visits p row))
  pub count : plan.verdict ≡ Accepted → plan.spans ≡ length (spans_of (visits p row))
  pub padding : plan.verdict ≡ Accepted → plan.padding ≡ paddings_of p row

module _ (bits spans : ℕ) (sums : List Lost) where
  plan-verdict : (q : Placed) → (plan_by bits spans sums q).verdict ≡ verdict_placed q
  plan-verdict (holds stored) = refl
  plan-verdict (stops why) = refl

  -- a plan that is accepted tells all of its numbers
  plan-accepted : (q : Placed) → (plan_by bits spans sums q).verdict ≡ Accepted
      → plan_by bits spans sums q ≡ plan_accepted bits spans sums
  plan-accepted (holds stored) e = refl
  plan-accepted (stops why) e = unlike cc

pub plan-parts : (p : Program) (row : Row) (closed : Bool) (fill : ℕ) (plan : Plan) → plan ≡ plan_of p row closed fill → Planned p row closed fill plan
plan-parts p row closed fill plan is =
    let bits = length_of fill (items_of (visits p row)) in
    let spans = length (spans_of (visits p row)) in
    let q = placed_all closed (visits p row) in
    let sums = paddings_of p row in
    let told : plan.verdict ≡ Accepted → plan ≡ plan_accepted bits spans sums =
    λ e. is ∙ plan-accepted bits spans sums q (sym (ap (λ (x : Plan). x.verdict) is) ∙ e) in
    record {
      verdict = ap (λ (x : Plan). x.verdict) is ∙ plan-verdict bits spans sums q;
      reach = λ e. ap (λ (x : Plan). x.length) (told e);
      count = λ e. ap (λ (x : Plan). x.spans) (told e);
      padding = λ e. ap (λ (x : Plan). x.padding) (told e);
    }
