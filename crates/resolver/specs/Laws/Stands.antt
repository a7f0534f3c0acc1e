-- Laws that proofs about Stands need.
use Rattle.std.specs.Prelude.{ℕ, zero, suc, ◌+◌, ◌^◌, ◌<◌, ◌≡◌, refl, eqb, leb, get_or, length}
use Rattle.std.proofs.Common.{sym, ◌∙◌, arith, eqb-true, leb-true}
use Rattle.std.proofs.Math.Path.{ap}
use mathlib.Core.List.{List, [], ◌∷◌}
use Rattle.std.proofs.Math.Numerals.{add-one}
use Rattle.std.proofs.Math.ListN.{set, length-set}
use Rattle.prelude.specs.Laws.Bools.{either}
use Rattle.prelude.specs.Limits.{max_banks}
use Rattle.prelude.specs.Laws.Pick.{pick_true, pick-false}
use Rattle.bankdef.specs.Check.{no_bank}
use Rattle.bankdef.specs.declared.Bankdef.{Bankdef}
use Rattle.iter.specs.Crossing.{crossing_of}
use Rattle.iter.specs.Theorems.Crossing.{crossing-sees, crossing-kept}
use Rattle.iter.specs.Theorems.Padding.{starts-lossless}
use Rattle.iter.specs.Laws.Crossing.{any-default}
use Rattle.iter.specs.Laws.Padding.{part-after}
use Rattle.iter.specs.Laws.StepCases.{step-cases}
use Rattle.iter.specs.Padding.{lost_part, lost_in, Fits}
use Rattle.iter.specs.Step.{origin, no_lost, start_of, bank_after, max_sum, sum_after, kept, step_of}
use Rattle.iter.specs.declared.Crossing.{Crossing}
use Rattle.iter.specs.declared.Lost.{Lost}
use Rattle.nodes.specs.declared.Node.{Node}
use Rattle.iter.specs.declared.Pos.{Pos}
use Rattle.iter.specs.declared.Stepped.{Stepped}
use Rattle.iter.specs.declared.Walk.{Walk}
use Rattle.resolver.specs.Theorems.Listed.{listed-bank}
use Rattle.nodes.specs.Lists.{Row}
use Rattle.resolver.specs.Once.{bank_record, bank_of, Program, node, step_at, walk_to}
use Rattle.resolver.specs.Switches.{Switches}
use Rattle.resolver.specs.Stands.{Stands, both_start}
use Rattle.resolver.specs.declared.TwoWalks.{TwoWalks}

-- what is put in place of something leaves numbers small, if it is
set_below : (g : Lost → ℕ) (l : List Lost) (i j : ℕ) (x : Lost) (n : ℕ) → g x < n → g (get_or l j no_lost) < n → g (get_or (set l i x) j no_lost) < n
set_below g [] i j x n h k = k
set_below g (y ∷ l) zero zero x n h k = h
set_below g (y ∷ l) zero (suc j) x n h k = k
set_below g (y ∷ l) (suc i) zero x n h k = k
set_below g (y ∷ l) (suc i) (suc j) x n h k = set_below g l i j x n h k

-- a sum stops at the largest number of 64 bits
sum_below : (sum more : ℕ) → sum_after sum more < 2 ^ 64
sum_below sum more =
    either (leb (sum + more) max_sum) (λ t. let l = leb-true (sum + more) max_sum t in rw t (omega arith)) (λ t. rw t (omega arith))

-- so every sum of a row's walk is a number of 64 bits
pub sums-small : (p : Program) (row : Row) (i : ℕ) → Fits (walk_to p row i)
unfolding walk_to
sums-small p row zero part j = omega (arith, starts-lossless part j)
sums-small p row (suc i) part j =
    let walk = walk_to p row i in
    let bank = bank_after walk.bank (node p row i) in
    step-cases (bank_of p.banks walk (node p row i)) walk (node p row i) (λ (s : Stepped). lost_in part s.walk j < 2 ^ 64)
    (λ why. sums-small p row i part j)
    (λ s q e a. set_below (lost_part part) walk.lost bank j _ (2 ^ 64)
    (rw (part-after part (get_or walk.lost bank no_lost) _) (sum_below (lost_in part walk bank) _)) (sums-small p row i part j))

module _ (p : Program) (sound : Switches p.banks.len p.kinds p.operands) where
  -- the bank that a node stands in, which no row tells
  pub stands-in : (row : Row) (i bank : ℕ) {b : ℕ} {n : Node} → n ≡ node p row i → b ≡ bank_after bank n → b ≡ bank_after bank (node p row i)
  stands-in row i bank k f = f ∙ ap (λ (x : Node). bank_after bank x) k

  -- where both of two walks start
  stands-start : (row : Row) → Stands p row 0 both_start.at 0
  unfolding walk_to start_of
  stands-start row = record { places = refl; stood = refl; sixteen = refl; listed = sound.some }

  pub both-stand : (row before : Row) {begun : TwoWalks} → begun ≡ both_start → Stands p row 0 begun.at 0 × Stands p before 0 begun.old 0
  both-stand row before e = rw e (stands-start row, stands-start before)

  module _ (room : length p.banks.defs ≡ max_banks) (row : Row) (i : ℕ) {at : List Pos} {bank b : ℕ} (w : Stands p row i at bank)
      (f : b ≡ bank_after bank (node p row i)) where
    pub still-listed : b < p.banks.len
    still-listed =
        either (eqb (get_or p.kinds i 0) 1)
        (λ t. let e : b ≡ get_or p.operands i 0 = f ∙ pick_true _ _ t in
        let h = sound.named i (eqb-true (get_or p.kinds i 0) 1 t) in omega arith)
        (λ t. let e : b ≡ bank = f ∙ pick-false _ _ t in omega (arith, w.listed))

    pub one-of-sixteen : b < max_banks
    one-of-sixteen = omega (arith, still-listed, sound.few)

    here : b ≡ bank_after (walk_to p row i).bank (node p row i)
    here = f ∙ ap (λ (x : ℕ). bank_after x (node p row i)) (sym w.stood)

    -- the record that the table has there is the bank's
    pub record_is : (other : Bankdef) {d : Bankdef} → d ≡ get_or p.banks.defs b other → d ≡ bank_of p.banks (walk_to p row i) (node p row i)
    record_is other g =
        g ∙ any-default p.banks.defs b other no_bank (omega (arith, one-of-sixteen, room))
        ∙ sym (listed-bank p.banks b still-listed)
        ∙ ap (bank_record p.banks) here

    module _ (o : Pos) (d other : Bankdef) {c : Crossing} {n : Node} (k : n ≡ node p row i) (h : c ≡ crossing_of d (get_or at b o) n)
        (g : d ≡ get_or p.banks.defs b other) where
      inside : b < length at
      inside = omega (arith, one-of-sixteen, w.sixteen)

      crosses : c ≡ crossing_of d (get_or (walk_to p row i).at b origin) (node p row i)
      crosses = h ∙ rw (k, any-default at b o origin inside, w.places)

      same_step : step_of d (walk_to p row i) (node p row i) ≡ step_at p row (walk_to p row i) i
      same_step = ap (λ (x : Bankdef). step_of x (walk_to p row i) (node p row i)) (record_is other g)

      -- what the node sees
      pub sees : c.seen ≡ (step_at p row (walk_to p row i) i).seen
      sees =
          sym (crossing-sees d (walk_to p row i) (node p row i) here one-of-sixteen crosses)
          ∙ ap (λ (s : Stepped). s.seen) same_step

      -- and where the walk stands after it, with its step stored, also where it is refused
      pub stands-next : Stands p row (i + 1) (set at b c.after) b
      unfolding walk_to
      stands-next =
          let walk = walk_to p row i in
          let after : (step_at p row walk i).walk ≡ kept walk b c.after c.skipped =
          ap (λ (s : Stepped). s.walk) (sym same_step)
          ∙ crossing-kept d walk (node p row i) here one-of-sixteen crosses (sums-small p row i) in
          record {
            places = rw add-one (ap (λ (x : Walk). x.at) after ∙ ap (λ (l : List Pos). set l b c.after) w.places);
            stood = rw add-one (ap (λ (x : Walk). x.bank) after);
            sixteen = length-set at b c.after ∙ w.sixteen;
            listed = still-listed;
          }
