-- Theorems about what Measure defines.
use Rattle.std.specs.Prelude.{◌≡◌, refl, List}
use Rattle.sort.specs.Order.{total}
use Rattle.blocks.specs.Spans.{Span}
use Rattle.blocks.specs.Walk.{blocks_of}
use Rattle.blocks.specs.Laws.Measure.{measure-kept}
use Rattle.blocks.specs.Measure.{of_span}

-- "The sizes of the blocks add up to the sizes of all spans that have an offset."
pub sizes-add-up : (spans : List Span) → total (λ b. b.size) (blocks_of spans) ≡ total (of_span (λ o s. s)) spans
sizes-add-up spans = measure-kept (λ o s. s) (record { none = λ o. refl; more = λ o s t. refl }) spans
