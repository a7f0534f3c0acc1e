-- What the first walk over a row finds: the verdict on all its nodes and, where they are all accepted, the image's length, the number of spans
-- and each bank's padding.
use Rattle.std.specs.Prelude.{Bool, List, map, ℕ, length, replicate, Err}
use Rattle.prelude.specs.Limits.{max_banks}
use Rattle.prelude.specs.declared.Refusal.{Refusal}
use Rattle.prelude.specs.Verdict.{Accepted}
use Rattle.bitvec.specs.Lists.{list_of}
use Rattle.iter.specs.Step.{no_lost}
use Rattle.iter.specs.declared.Lost.{Lost}
use Rattle.nodes.specs.Lists.{Row}
use Rattle.resolver.specs.Once.{Program}
use Rattle.resolver.specs.Padding.{padding_of}
use Rattle.build_visits.specs.Visits.{visits}
use Rattle.build_visits.specs.Items.{items_of, length_of}
use Rattle.build_visits.specs.Spans.{spans_of}
use Rattle.build_plan.specs.Placing.{Placed, holds, stops, placed_all}
use Rattle.build_plan.specs.declared.Plan.{Plan}

-- the furthest that an offer can end
abbrev pub max_end : ℕ
max_end = 12884901885

-- of banks 0 to 15
abbrev pub of_banks : (ℕ → Lost) → List Lost
of_banks f = map f (list_of max_banks (λ bank. bank))

-- "each bank should carry the sum of bits lost to `align` and to label alignment in the last pass" (document 02, Ticket 2), and of whole units
abbrev pub paddings_of : Program → Row → List Lost
paddings_of p row = of_banks (padding_of p row)

abbrev pub plan_accepted : ℕ → ℕ → List Lost → Plan
plan_accepted bits spans sums = record { verdict = Accepted; length = bits; spans = spans; padding = sums }

-- refused, a plan tells zeros
abbrev pub plan_refused : Refusal → Plan
plan_refused why = record { verdict = Err why; length = 0; spans = 0; padding = replicate max_banks no_lost }

-- a plan of visits that were placed
abbrev pub plan_by : ℕ → ℕ → List Lost → Placed → Plan
plan_by bits spans sums (holds stored) = plan_accepted bits spans sums
plan_by bits spans sums (stops why) = plan_refused why

-- The plan of a row: whether bank 0 is closed, and the fill's length.
abbrev pub plan_of : Program → Row → Bool → ℕ → Plan
plan_of p row closed fill =
    plan_by (length_of fill (items_of (visits p row))) (length (spans_of (visits p row))) (paddings_of p row) (placed_all closed (visits p row))
