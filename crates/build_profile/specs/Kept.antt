-- "It says yes exactly when all of them hold"; otherwise it names the least rule that is broken, and the first bank or node that breaks it.
use Rattle.std.specs.Prelude.{ℕ, length, Err}
use Rattle.prelude.specs.declared.Refusal.TheVariants.{OffProfile}
use Rattle.prelude.specs.Verdict.{Verdict, Accepted}
use Rattle.bankdef.specs.declared.Bankdefs.{Bankdefs}
use Rattle.nodes.specs.Lists.{Lists}
use Rattle.build_profile.specs.Keeping.{LabelAligned, AlignKept, OffsetKept, SizeKept, UnitKept, AddrKept}
use Rattle.build_profile.specs.OneBit.{ExactlyOne}
use Rattle.build_profile.specs.RuleLaws.{Every, First}

-- All six rules hold.
pub record InProfile (banks : Bankdefs) (l : Lists) (page : ℕ) : Type 0 where
  pub page-size : ExactlyOne page
  pub labels : Every (LabelAligned banks) banks.len
  pub aligns : Every (AlignKept l) (length l.kinds)
  pub offsets : Every (OffsetKept banks page) banks.len
  pub sizes : Every (SizeKept banks page) banks.len
  pub units : Every (UnitKept banks) banks.len
  pub addrs : Every (AddrKept banks l) (length l.kinds)

-- A rule is broken, none before it is, and this bank or node is the first that breaks it.
pub data Breaks (banks : Bankdefs) (l : Lists) (page : ℕ) : ℕ → ℕ → Type 0 where
  -- "page size (place 0)"
  page-size : (ExactlyOne page → ⊥) → Breaks banks l page 1 0
  -- "alignments (banks, then nodes in every row)"
  label : {k : ℕ} → ExactlyOne page → First (LabelAligned banks) banks.len k → Breaks banks l page 2 k
  align : {i : ℕ} → ExactlyOne page → Every (LabelAligned banks) banks.len → First (AlignKept l) (length l.kinds) i → Breaks banks l page 2 i
  -- "offset"
  offset : {k : ℕ} → ExactlyOne page → Every (LabelAligned banks) banks.len → Every (AlignKept l) (length l.kinds)
      → First (OffsetKept banks page) banks.len k → Breaks banks l page 3 k
  -- "size (none breaks it)"
  size : {k : ℕ} → ExactlyOne page → Every (LabelAligned banks) banks.len → Every (AlignKept l) (length l.kinds)
      → Every (OffsetKept banks page) banks.len → First (SizeKept banks page) banks.len k → Breaks banks l page 4 k
  -- "unit"
  unit : {k : ℕ} → ExactlyOne page → Every (LabelAligned banks) banks.len → Every (AlignKept l) (length l.kinds)
      → Every (OffsetKept banks page) banks.len → Every (SizeKept banks page) banks.len → First (UnitKept banks) banks.len k
      → Breaks banks l page 5 k
  -- "`addr`"
  addr : {i : ℕ} → ExactlyOne page → Every (LabelAligned banks) banks.len → Every (AlignKept l) (length l.kinds)
      → Every (OffsetKept banks page) banks.len → Every (SizeKept banks page) banks.len → Every (UnitKept banks) banks.len
      → First (AddrKept banks l) (length l.kinds) i → Breaks banks l page 6 i

pub data Judged (banks : Bankdefs) (l : Lists) (page : ℕ) : Verdict → Type 0 where
  keeps : InProfile banks l page → Judged banks l page Accepted
  breaks : {rule at : ℕ} → Breaks banks l page rule at → Judged banks l page (Err (OffProfile rule at))
