-- The bench's two calls, as a caller in another language is told of them.
use Rattle.std.specs.Prelude.{◌≡◌, List, ℕ}
use Rattle.overlay.specs.Trial.{Trial}
use Rattle.overlay.specs.Range.{source_of}
use Rattle.overlay.specs.List.{list_answer, firsts_after, counts_after}
use Rattle.c_answers.specs.Counts.{listed_count}
use Rattle.c_answers.specs.Parts.{overlay_by}
use Rattle.c_answers.specs.declared.DkCount.{DkCount}
use Rattle.c_answers.specs.declared.DkOverlay.{DkOverlay}

-- What `dk_overlay_range` promises: "which of the two, or why none".
pub record RangeTold (t : Trial) (first count : ℕ) (r : DkOverlay) : Type 0 where
  pub answer : r ≡ overlay_by first count (source_of t first count)

-- What `dk_overlay_runs` promises: its answer, and both lent lists.
pub record RunsTold (t : Trial) (firsts counts : List ℕ) (r : DkCount) (firsts' counts' : List ℕ) : Type 0 where
  pub answer : r ≡ listed_count (list_answer t firsts counts)
  pub first : firsts' ≡ firsts_after t firsts counts
  pub second : counts' ≡ counts_after t firsts counts
