-- "Then each pass in node order meets 5, 6 and 7": a pass is refused for what the first node that meets one of them meets, and for nothing else;
-- a pass in which no node does runs to its end.
use Rattle.std.specs.Prelude.{ℕ, ◌%◌, ◌≡◌, Bool, true, get_or, Result, Ok}
use Rattle.prelude.specs.declared.Refusal.{Refusal}
use Rattle.bankdef.specs.declared.Bankdef.{Bankdef}
use Rattle.iter.specs.declared.Pos.{Pos}
use Rattle.nodes.specs.Lists.{Row}
use Rattle.resolver.specs.Once.{Program, node, bank_of, step_at, walk_to}

module _ (p : Program) (row : Row) where
  -- the position that node i sees in the row's walk, or what stops the walk there
  abbrev pub seen_at : ℕ → Result Pos Refusal
  seen_at i = (step_at p row (walk_to p row i) i).seen

  -- the record of the bank that node i stands in
  abbrev pub def_at : ℕ → Bankdef
  def_at i = bank_of p.banks (walk_to p row i) (node p row i)

  -- "a label .. is off an address boundary": node i is one
  pub record OffBoundary (i : ℕ) : Type 0 where
    pub label : get_or p.kinds i 0 ≡ 2
    pub now : Pos
    pub seen : seen_at i ≡ Ok now
    pub off : now.position % (def_at i).unit ≡ 0 → ⊥

  -- The pass goes on past node i: the walk is not stopped there (5), and in the last pass a label is on a boundary (7).
  pub record GoesPast (is_last : Bool) (i : ℕ) : Type 0 where
    pub now : Pos
    pub seen : seen_at i ≡ Ok now
    pub on : is_last ≡ true → get_or p.kinds i 0 ≡ 2 → now.position % (def_at i).unit ≡ 0
