-- The two walks and their passes go alike: after i nodes here and i + 1 nodes there, bank 1 there stands where bank 0 stands here.
use Rattle.std.specs.Prelude.{ℕ, zero, suc, max, ◌≡◌, Bool, ◌∷◌, get_or, length, Result, Ok, Err}
use Rattle.std.proofs.Math.Path.{refl, ap}
use Rattle.std.proofs.Common.{sym, ◌∙◌}
use Rattle.std.proofs.Math.Bool.{true, false}
use Rattle.prelude.specs.Pick.{pick}
use Rattle.prelude.specs.declared.Refusal.{Refusal}
use Rattle.prelude.specs.declared.Refusal.TheVariants.{LabelOffBoundary}
use Rattle.bankdef.specs.declared.Bankdef.{Bankdef}
use Rattle.bankdef.specs.declared.Bankdefs.{Bankdefs}
use Rattle.iter.specs.Step.{origin, no_lost, start_of, seen_of, moved_on, advanced_of, seen_skips, advance_skips, bank_after, step_of}
use Rattle.iter.specs.declared.Lost.{Lost}
use Rattle.nodes.specs.declared.Node.{Node}
use Rattle.iter.specs.declared.Pos.{Pos}
use Rattle.iter.specs.declared.Walk.{Walk}
use Rattle.nodes.specs.Lists.{Row}
use Rattle.resolver.specs.Once.{Program, Going, on, off, node, bank_record, bank_of, step_at, walk_to}
use Rattle.resolver.specs.Once.{label_state, off_boundary, state_of, met, goes_on, meets, pass_to, closed, pass_of}
use Rattle.thm_conversions.specs.Widened.{turned, shifted}
use Rattle.thm_conversions.specs.Steps.{up}
use Rattle.thm_conversions.specs.Laws.Steps.{shifted_moved, in_first, in_second, Alike, stays-first, stays-second, steps_alike}
use Rattle.thm_conversions.specs.Cells.{zeroed}

-- the program with the switch ahead, over a table
abbrev pub leading : Bankdefs → Program → Program
leading table p = record { banks = table; kinds = 1 ∷ p.kinds; operands = 1 ∷ turned p.kinds p.operands; first = 0 ∷ p.first }

abbrev pub shifted_pass : Result ℕ Refusal → Result ℕ Refusal
shifted_pass (Ok s) = Ok s
shifted_pass (Err why) = Err (shifted why)

-- Two passes under way that go alike.
pub data Going-alike : Going → Going → Type 0 where
  both-on : (at : Pos) (lost : Lost) (merged : ℕ) → Going-alike (on (in_first at lost) merged) (on (in_second at lost) merged)
  both-off : (why : Refusal) → Going-alike (off why) (off (shifted why))

pub closed-alike : {g h : Going} → Going-alike g h → closed h ≡ shifted_pass (closed g)
closed-alike (both-on at lost merged) = refl
closed-alike (both-off why) = refl

-- What a program must be: its switches go to bank 0, an operand for each kind; and the table's bank 1 has bank 0's record.
pub record Leads (p : Program) (table : Bankdefs) : Type 0 where
  pub switches : (i : ℕ) → get_or p.kinds i 0 ≡ 1 → get_or p.operands i 0 ≡ 0
  pub nodes : (row : Row) (i : ℕ) → node (leading table p) (zeroed row) (suc i) ≡ up (node p row i)
  pub record-kept : bank_record table 1 ≡ bank_record p.banks 0

module _ (p : Program) (table : Bankdefs) (leads : Leads p table) where
  abbrev here : Bankdef
  here = bank_record p.banks 0

  abbrev there : Program
  there = leading table p

  -- ---- the record of the bank that a node stands in, and the step

  module _ (row : Row) (i : ℕ) where
    pub bank-here : bank_after 0 (node p row i) ≡ 0
    bank-here = stays-first (node p row i) (leads.switches i)

    pub bank-there : bank_after 1 (node there (zeroed row) (suc i)) ≡ 1
    bank-there = ap (bank_after 1) (leads.nodes row i) ∙ stays-second (node p row i) (leads.switches i)

    pub record-here : (at : Pos) (lost : Lost) → bank_of p.banks (in_first at lost) (node p row i) ≡ here
    record-here at lost = ap (bank_record p.banks) bank-here

    pub record-there : (at : Pos) (lost : Lost) → bank_of table (in_second at lost) (node there (zeroed row) (suc i)) ≡ here
    record-there at lost = ap (bank_record table) bank-there ∙ leads.record-kept

    pub step-at-alike : (at : Pos) (lost : Lost) → Alike (step_at p row (in_first at lost) i) (step_at there (zeroed row) (in_second at lost) (suc i))
    step-at-alike at lost =
        law (record-here at lost) (record-there at lost) (leads.nodes row i) (steps_alike (node p row i) (leads.switches i) here at lost)
      where
        law : {d e : Bankdef} {m : Node} → d ≡ here → e ≡ here → m ≡ up (node p row i)
            → Alike (step_of here (in_first at lost) (node p row i)) (step_of here (in_second at lost) (up (node p row i)))
            → Alike (step_of d (in_first at lost) (node p row i)) (step_of e (in_second at lost) m)
        law a b c x = rw (a, b, c) x

  -- ---- the walks

  -- where both walks stand
  pub record Standing (row : Row) (i : ℕ) : Type 0 where
    pub at : Pos
    pub lost : Lost
    pub first : walk_to p row i ≡ in_first at lost
    pub second : walk_to there (zeroed row) (suc i) ≡ in_second at lost

  begins : (row : Row) → walk_to there (zeroed row) 1 ≡ in_second origin no_lost
  unfolding walk_to start_of step_of seen_of moved_on advanced_of seen_skips advance_skips
  begins row = refl

  starts : (row : Row) → walk_to p row 0 ≡ in_first origin no_lost
  unfolding walk_to start_of
  starts row = refl

  next : (row : Row) (i : ℕ) (at : Pos) (lost : Lost) → walk_to p row i ≡ in_first at lost
      → walk_to p row (suc i) ≡ (step_at p row (in_first at lost) i).walk
  unfolding walk_to
  next row i at lost e = ap (λ (w : Walk). (step_at p row w i).walk) e

  next-there : (row : Row) (i : ℕ) (at : Pos) (lost : Lost) → walk_to there (zeroed row) (suc i) ≡ in_second at lost
      → walk_to there (zeroed row) (suc (suc i)) ≡ (step_at there (zeroed row) (in_second at lost) (suc i)).walk
  unfolding walk_to
  next-there row i at lost e = ap (λ (w : Walk). (step_at there (zeroed row) w (suc i)).walk) e

  pub standing : (row : Row) (i : ℕ) → Standing row i
  standing row zero = record { at = origin; lost = no_lost; first = starts row; second = begins row }
  standing row (suc i) =
      let s = standing row i in
      let a = step-at-alike row i s.at s.lost in
      record {
        at = a.at;
        lost = a.lost;
        first = next row i s.at s.lost s.first ∙ a.first;
        second = next-there row i s.at s.lost s.second ∙ a.second;
      }

  -- what node i sees in the walk of its own row
  pub seen_alike : (row : Row) (i : ℕ)
      → (step_at there (zeroed row) (walk_to there (zeroed row) (suc i)) (suc i)).seen ≡ shifted_moved (step_at p row (walk_to p row i) i).seen
  seen_alike row i =
      let s = standing row i in
      ap (λ (w : Walk). (step_at there (zeroed row) w (suc i)).seen) s.second
      ∙ (step-at-alike row i s.at s.lost).seen
      ∙ ap (λ (w : Walk). shifted_moved (step_at p row w i).seen) (sym s.first)

  -- ---- the passes

  label-alike : (def : Bankdef) (now : Pos) (before : Result Pos Refusal) (is_first : Bool)
      → label_state def now (shifted_moved before) is_first ≡ label_state def now before is_first
  label-alike def now (Ok q) is_first = refl
  label-alike def now (Err why) is_first = refl

  pass-starts : (row before : Row) (is_first is_last : Bool) → pass_to p row before is_first is_last 0 ≡ on (in_first origin no_lost) 0
  unfolding pass_to start_of
  pass-starts row before is_first is_last = refl

  -- the switch itself: nothing is merged
  pass-begins : (row before : Row) (is_first is_last : Bool) → pass_to there (zeroed row) (zeroed before) is_first is_last 1 ≡ on (in_second origin no_lost) 0
  unfolding pass_to start_of step_of seen_of moved_on advanced_of seen_skips advance_skips
  pass-begins row before is_first true = refl
  pass-begins row before is_first false = refl

  module _ (row before : Row) (is_first is_last : Bool) where
    met-alike : (n : Node) (earlier seen : Result Pos Refusal) (merged : ℕ) (at : Pos) (lost : Lost)
        → Going-alike (goes_on (in_first at lost) (met here n earlier is_first is_last merged seen))
        (goes_on (in_second at lost) (met here (up n) (shifted_moved earlier) is_first is_last merged (shifted_moved seen)))
    met-alike n earlier (Err why) merged at lost = both-off why
    met-alike n earlier (Ok now) merged at lost =
        rw (label-alike here now earlier is_first) (go (off_boundary here n now is_last) (max merged (state_of n (label_state here now earlier is_first))))
      where
        go : (t : Bool) (s : ℕ)
            → Going-alike (goes_on (in_first at lost) (pick t (Err (LabelOffBoundary n.index)) (Ok s)))
            (goes_on (in_second at lost) (pick t (Err (LabelOffBoundary (suc n.index))) (Ok s)))
        go true s = both-off (LabelOffBoundary n.index)
        go false s = both-on at lost s

    meets-alike : (i : ℕ) {g h : Going} → Going-alike g h
        → Going-alike (meets p row before is_first is_last i g) (meets there (zeroed row) (zeroed before) is_first is_last (suc i) h)
    meets-alike i (both-off why) = both-off why
    meets-alike i (both-on at lost merged) =
        let a = step-at-alike row i at lost in
        law (node p row i) (step_at p before (walk_to p before i) i).seen (step_at p row (in_first at lost) i).seen
        (record-here row i at lost) (record-there row i at lost) (leads.nodes row i) a.first a.second (seen_alike before i) a.seen
        (met-alike (node p row i) (step_at p before (walk_to p before i) i).seen (step_at p row (in_first at lost) i).seen merged a.at a.lost)
      where
        law : (n : Node) (f x : Result Pos Refusal) {d e : Bankdef} {m : Node} {w v : Walk} {y g : Result Pos Refusal} {q : Pos} {k : Lost} → d ≡ here → e ≡ here → m ≡ up n
            → w ≡ in_first q k
            → v ≡ in_second q k → g ≡ shifted_moved f → y ≡ shifted_moved x
            → Going-alike (goes_on (in_first q k) (met here n f is_first is_last merged x))
            (goes_on (in_second q k) (met here (up n) (shifted_moved f) is_first is_last merged (shifted_moved x)))
            → Going-alike (goes_on w (met d n f is_first is_last merged x)) (goes_on v (met e m g is_first is_last merged y))
        law n f x a b c s t u z r = rw (a, b, c, s, t, u, z) r

    pass-next : (i : ℕ) → pass_to p row before is_first is_last (suc i) ≡ meets p row before is_first is_last i (pass_to p row before is_first is_last i)
    unfolding pass_to
    pass-next i = refl

    pass-next-there : (i : ℕ) → pass_to there (zeroed row) (zeroed before) is_first is_last (suc (suc i))
        ≡ meets there (zeroed row) (zeroed before) is_first is_last (suc i) (pass_to there (zeroed row) (zeroed before) is_first is_last (suc i))
    unfolding pass_to
    pass-next-there i = refl

    pass-alike : (i : ℕ)
        → Going-alike (pass_to p row before is_first is_last i) (pass_to there (zeroed row) (zeroed before) is_first is_last (suc i))
    pass-alike zero = rw (pass-starts row before is_first is_last, pass-begins row before is_first is_last) (both-on origin no_lost 0)
    pass-alike (suc i) = rw (pass-next i, pass-next-there i) (meets-alike i (pass-alike i))

    -- The whole pass.
    pub pass-shifts : pass_of there (zeroed row) (zeroed before) is_first is_last ≡ shifted_pass (pass_of p row before is_first is_last)
    pass-shifts = closed-alike (pass-alike (length p.kinds))
