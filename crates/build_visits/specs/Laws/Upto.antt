-- The lists and folds of the first n nodes of a row, as the loops go over them, and what one more node makes of each.
use Rattle.std.specs.Prelude.{◌≡◌, refl, Bool, true, false, ℕ, suc, ◌≤◌, length}
use Rattle.std.proofs.Math.Path.{ap}
use Rattle.std.proofs.Common.{◌∙◌, arith, length-append}
use mathlib.Core.List.{List, [], ◌∷◌, ◌++◌}
use Rattle.prelude.specs.Pick.{pick}
use Rattle.nodes.specs.Lists.{Row}
use Rattle.resolver.specs.Once.{Program}
use Rattle.build_visits.specs.Visits.{visit_at, visits_to, each}
use Rattle.build_visits.specs.Laws.VisitLaws.{visits-none, visits-split, each_append, each_next}
use Rattle.build_visits.specs.Items.{Item, item_of, items_of, length_of, image_of}
use Rattle.build_visits.specs.Laws.ItemLaws.{length-append as lengths-append, image-append}
use Rattle.build_visits.specs.Spans.{Span, is_span, span_at, span_of, spans_of}

abbrev pub items_to : Program → Row → ℕ → List Item
items_to p row n = items_of (visits_to p row n)

abbrev pub spans_to : Program → Row → ℕ → List Span
spans_to p row n = spans_of (visits_to p row n)

abbrev pub length_to : Program → Row → ℕ → ℕ → ℕ
length_to p row fill n = length_of fill (items_to p row n)

abbrev pub image_to : Program → Row → List ℕ → List ℕ → ℕ → List ℕ
image_to p row values blank n = image_of values blank (items_to p row n)

module _ (p : Program) (row : Row) where
  pub spans-next : (i : ℕ) → spans_to p row (suc i) ≡ pick (is_span (visit_at p row i).node) (spans_to p row i ++ span_at (visit_at p row i) ∷ []) (spans_to p row i)
  spans-next i = each_next p row span_of i ∙ either (is_span (visit_at p row i).node) (spans_to p row i)
    where
      open-nil : (l : List Span) → l ++ [] ≡ l
      open-nil l = mathlib.Core.List.append-nil l

      either : (b : Bool) (l : List Span) → l ++ pick b (span_at (visit_at p row i) ∷ []) [] ≡ pick b (l ++ span_at (visit_at p row i) ∷ []) l
      either true l = refl
      either false l = open-nil l

  pub length-next : (fill i : ℕ) → length_to p row fill (suc i) ≡ length_of (length_to p row fill i) (item_of (visit_at p row i))
  length-next fill i = ap (length_of fill) (each_next p row item_of i) ∙ lengths-append fill (items_to p row i) (item_of (visit_at p row i))

  pub image-next : (values blank : List ℕ) (i : ℕ)
      → image_to p row values blank (suc i) ≡ image_of values (image_to p row values blank i) (item_of (visit_at p row i))
  image-next values blank i =
      ap (image_of values blank) (each_next p row item_of i) ∙ image-append values blank (items_to p row i) (item_of (visit_at p row i))

  pub spans-none : spans_to p row 0 ≡ []
  unfolding each
  spans-none = ap spans_of (visits-none p row)

  pub items-none : items_to p row 0 ≡ []
  unfolding each
  items-none = ap items_of (visits-none p row)

  -- the spans grow
  pub spans-grow : (i n : ℕ) → i ≤ n → length (spans_to p row i) ≤ length (spans_to p row n)
  spans-grow i n h =
      let r = visits-split p row i n h in
      let e : spans_to p row n ≡ spans_to p row i ++ spans_of r.0 = ap spans_of r.1 ∙ each_append span_of (visits_to p row i) r.0 in
      omega (arith, ap length e, length-append (spans_to p row i) (spans_of r.0))
