-- Ticket 13 with Ticket 9, of files: what a refusal of the layout with one bank becomes where a page size is given, number by number, and what becomes of the
-- answer with a page size or without.
use Rattle.std.specs.Prelude.{ℕ, suc, Option, None, Some}
use Rattle.prelude.specs.declared.Refusal.{Refusal}
use Rattle.prelude.specs.declared.Refusal.TheVariants.{OffProfile}
use Rattle.output.specs.Output.{Input}
use Rattle.output.specs.declared.Output.{Output}
use Rattle.thm_conversions.specs.Builds.{profile_output}
use Rattle.thm_conversions.specs.Places.{Rises}
use Rattle.thm_conversions.specs.Widened.{raised_output}

-- A refusal of the one layout, and what it is in the other. No other refusal comes.
pub data PagedRises (b : Input) : Refusal → Refusal → Type 0 where
  ordinary : {why other : Refusal} → Rises b why other → PagedRises b why other
  -- "page size (place 0)" stays
  page-size : PagedRises b (OffProfile 1 0) (OffProfile 1 0)
  -- of alignments bank 0's becomes bank 1's, and a node rises by one
  alignment : (at : ℕ) → PagedRises b (OffProfile 2 at) (OffProfile 2 (suc at))
  -- rule 5 stays bank 0's, other banks become 1
  offset : PagedRises b (OffProfile 3 0) (OffProfile 3 1)
  size : PagedRises b (OffProfile 4 0) (OffProfile 4 1)
  unit : PagedRises b (OffProfile 5 0) (OffProfile 5 0)
  addr : (i : ℕ) → PagedRises b (OffProfile 6 i) (OffProfile 6 (suc i))

-- what becomes of the answer, with a page size or without
abbrev pub raised_in : Option ℕ → Input → Output → Output
raised_in None b o = raised_output b o
raised_in (Some page) b o = profile_output b o
