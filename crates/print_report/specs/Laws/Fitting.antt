-- The spans of a layout whose numbers are within document 01's table are within an offer's limits, so the blocks' call accepts them.
use Rattle.std.specs.Prelude.{◌≡◌, refl, Bool, true, false, eqb, length, get_or, Option, None, Some}
use Rattle.std.proofs.Common.{sym, subst, ◌∙◌, arith, le-leb, leb-true, eq-eqb}
use mathlib.Core.List.{List, [], ◌∷◌, ◌++◌, append-nil}
use Prim.Native.Nat.{ℕ, zero, suc, ◌+◌, ◌-◌, ◌*◌, ◌≤◌, min, zero-le}
use Rattle.std.proofs.lemmas.List.{length-map}
use Rattle.prelude.specs.Limits.{max_nodes, max_offer, max_position}
use Rattle.prelude.specs.Pick.{pick}
use Rattle.bankdef.specs.Check.{no_bank}
use Rattle.bankdef.specs.declared.Bankdef.{Bankdef}
use Rattle.iter.specs.Address.{out_at}
use Rattle.iter.specs.Step.{bank_after}
use Rattle.iter.specs.StepCases.{standing}
use Rattle.iter.specs.Laws.StepCases.{step-cases}
use Rattle.iter.specs.WithinLimit.{Small, AllSmall}
use Rattle.iter.specs.Laws.WithinLimit.{Within, seen-within}
use Rattle.iter.specs.Theorems.WithinLimit.{step-within, never-past}
use Rattle.iter.specs.declared.Stepped.{Stepped}
use Rattle.nodes.specs.Kinds.{adds_number}
use Rattle.nodes.specs.Lists.{Row, row_at}
use Rattle.resolver.specs.Theorems.Listed.{either-record}
use Rattle.resolver.specs.Passes.{program, row_of_pass}
use Rattle.resolver.specs.Once.{Program, node, bank_record, bank_of, walk_to}
use Rattle.blocks.specs.Offsets.{offset_of, word_of}
use Rattle.blocks.specs.Laws.Offsets.{at-of-word}
use Rattle.blocks.specs.Spans.{offset_within, spans_of, all_within, acceptable}
use Rattle.output.specs.Output.{Input, visits_of}
use Rattle.build_visits.specs.Visits.{seen_pos, position_of, visit_at, visits_to, each}
use Rattle.build_visits.specs.Laws.VisitLaws.{each_next, visits-none}
use Rattle.build_visits.specs.Spans.{Span, is_span, span_at, span_of, spans_of as spans_in, words, sizes}
use Rattle.form_fields.specs.Laws.Fields.{by-test}
use Rattle.print_report.specs.Laws.Accepted.{small-part}
use Rattle.print_report.specs.Steps.{OffsetFits, OffsetsFit}

-- ---- spans within the limits are accepted

abbrev pub Fit : Span → Type 0
Fit s = (offset_within s.offset ≡ true) × (s.size ≤ max_position)

abbrev pub AllFit : List Span → Type 0
AllFit [] = Unit {0}
AllFit (s ∷ l) = Fit s × AllFit l

fit-last : (l : List Span) (s : Span) → AllFit l → Fit s → AllFit (l ++ s ∷ [])
fit-last [] s h f = (f, tt)
fit-last (x ∷ l) s h f = (h.0, fit-last l s h.1 f)

same-offset : (o : Option ℕ) → offset_within o ≡ true → offset_of (word_of o) ≡ o
same-offset None h = refl
same-offset (Some o) h = at-of-word o (omega (arith, leb-true o max_offer h))

all-within : (l : List Span) → AllFit l → all_within (spans_of (words l) (sizes l)) ≡ true
unfolding spans_of all_within
all-within [] h = refl
all-within (s ∷ l) h =
    rw (same-offset s.offset h.0.0, h.0.0, le-leb s.size max_position h.0.1) (all-within l h.1)

pub fit-acceptable : (l : List Span) → AllFit l → length l ≤ max_nodes → acceptable (words l) (sizes l) ≡ true
fit-acceptable l h few =
    let long : length (words l) ≡ length l = length-map l _ in
    let wide : length (sizes l) ≡ length l = length-map l _ in
    rw (eq-eqb (length (words l)) (length (sizes l)) (long ∙ sym wide), le-leb (length (words l)) max_nodes (rw long few)) (all-within l h)

-- ---- the spans of a row are within the limits

out-fits : (o : Option ℕ) (position : ℕ) → OffsetFits o → position ≤ max_position → offset_within (out_at o position) ≡ true
out-fits None position h k = refl
out-fits (Some o) position h k = le-leb (o + position) max_offer (omega (arith, h, k))

either : (b : Bool) (x y : ℕ) → x ≤ max_position → y ≤ max_position → pick b x y ≤ max_position
either true x y hx hy = hx
either false x y hx hy = hy

module _ (p : Program) (row : Row) (banks : OffsetsFit p.banks) (first : (i : ℕ) → get_or p.first i 0 ≤ max_position)
    (numbers : (i : ℕ) → get_or row.numbers i 0 ≤ max_position) where
  pub small : (i : ℕ) → (node p row i).number ≤ max_position
  small i = either (eqb (get_or p.kinds i 0) 5) (get_or p.first i 0) (get_or row.numbers i 0) (first i) (numbers i)

  walk-small : (i : ℕ) → AllSmall (walk_to p row i)
  unfolding walk_to
  walk-small zero = never-past (λ k. no_bank) [] tt
  walk-small (suc i) = step-within (bank_of p.banks (walk_to p row i) (node p row i)) (walk_to p row i) (node p row i) (small i) (walk-small i)

  seen-small : (i : ℕ) → position_of (visit_at p row i) ≤ max_position
  seen-small i =
      let walk = walk_to p row i in
      let n = node p row i in
      let def = bank_of p.banks walk n in
      step-cases def walk n (λ (s : Stepped). Small (seen_pos s.seen)) (λ why. zero-le)
      (λ a b s e. subst Within s (seen-within def (standing walk n) n (walk-small i (bank_after walk.bank n))))

  pub span_fits : (i : ℕ) → Fit (span_at (visit_at p row i))
  span_fits i =
      let bank = bank_after (walk_to p row i).bank (node p row i) in (
        out-fits (bank_record p.banks bank).offset (position_of (visit_at p row i))
            (either-record p.banks bank (λ (b : Bankdef). OffsetFits b.offset) tt (banks bank)) (seen-small i),
        either (adds_number (node p row i).kind) (node p row i).number 0 (small i) zero-le,
      )

  none-fit : AllFit (spans_in (visits_to p row 0))
  unfolding each
  none-fit = rw (visits-none p row) tt

  pub spans_fit : (n : ℕ) → AllFit (spans_in (visits_to p row n))
  spans_fit zero = none-fit
  spans_fit (suc i) =
      rw (each_next p row span_of i)
      (by-test (is_span (node p row i))
      (λ y. rw y (fit-last (spans_in (visits_to p row i)) (span_at (visit_at p row i)) (spans_fit i) (span_fits i)))
      (λ n. rw (n, append-nil (spans_in (visits_to p row i))) (spans_fit i)))

-- ---- the spans of a build, in the row of any pass

module _ (b : Input) (banks : OffsetsFit b.banks) (numbers : (i : ℕ) → get_or b.lists.numbers i 0 ≤ max_position) where
  pub row_small : (k i : ℕ) → get_or (row_at b.lists k).numbers i 0 ≤ max_position
  row_small k i = small-part (length b.lists.kinds) (k * length b.lists.kinds) b.lists.numbers numbers i

  pub build-spans-fit : (passes : ℕ) → AllFit (spans_in (visits_of b passes))
  build-spans-fit passes =
      spans_fit (program b.banks b.lists) (row_of_pass b.lists passes) banks (row_small 0) (row_small (min passes b.lists.rows - 1))
      (length b.lists.kinds)
