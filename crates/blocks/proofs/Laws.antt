-- The tests of the definitions, as the code makes them.
use Rattle.std.specs.Prelude.{Option, Some}
use mathlib.Core.Path.{◌≡◌, refl}
use mathlib.Core.Bool.{true}
use mathlib.Core.List.{List, [], ◌∷◌}
use Prim.Native.Nat.{ℕ, ◌≤◌}
use borrow.Author.Tests.{leb-true}
use Rattle.std.specs.List.{zip, list_all}
use Rattle.prelude.specs.Laws.Bools.{either}
use Rattle.prelude.specs.Limits.{max_offer}
use Rattle.blocks.specs.Spans.{span, within, offset_within, spans_of, all_within}

pub at_most : (offset : Option ℕ) (o : ℕ) → offset ≡ Some o → offset_within offset ≡ true → o ≤ max_offer
at_most offset o e h = leb-true o max_offer (rw e at h)

-- The words and the sizes side by side.
pub within-pairs : (words sizes : List ℕ) → list_all (λ (p : ℕ × ℕ). within (span p.0 p.1)) (zip words sizes) ≡ all_within (spans_of words sizes)
unfolding all_within spans_of
within-pairs [] sizes = refl
within-pairs (word ∷ words) [] = refl
within-pairs (word ∷ words) (size ∷ sizes) = either (within (span word size)) (λ e. rw e (within-pairs words sizes)) (λ e. rw e)
