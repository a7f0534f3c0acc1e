-- Padding in the two layouts: bank 1 has the padding that bank 0 had, and no other bank any.
use Rattle.std.specs.Prelude.{ℕ, zero, suc, ◌+◌, ◌/◌, ◌≡◌, Bool, ◌∷◌, eqb, get_or, length, replicate}
use Rattle.std.proofs.Math.Nat.{zero-div}
use Rattle.std.proofs.Math.Path.{refl, ap, fun_ext}
use Rattle.std.proofs.Common.{sym, ap₂, ◌∙◌}
use Rattle.std.proofs.Math.Bool.{true, false}
use Rattle.prelude.specs.Pick.{pick}
use Rattle.bankdef.specs.declared.Bankdef.{Bankdef}
use Rattle.bankdef.specs.declared.Bankdefs.{Bankdefs}
use Rattle.bitvec.specs.Lists.{list_of}
use Rattle.iter.specs.Step.{origin, no_lost, start_of}
use Rattle.iter.specs.StepCases.{standing}
use Rattle.nodes.specs.declared.Node.{Node}
use Rattle.iter.specs.declared.Lost.{Lost}
use Rattle.iter.specs.declared.Walk.{Walk}
use Rattle.resolver.specs.KnownInPass.{bank_at}
use Rattle.nodes.specs.Lists.{Row}
use Rattle.resolver.specs.NodeOrder.{def_at}
use Rattle.resolver.specs.Once.{Program, node, walk_to}
use Rattle.resolver.specs.Padding.{distance_in, label_loses, lost_by, stands_at, lost_at, units_at, sum_in, padding_to}
use Rattle.build_plan.specs.Plan.{of_banks, paddings_of}
use Rattle.thm_conversions.specs.Steps.{up}
use Rattle.thm_conversions.specs.Laws.Steps.{symbol-alike, in_first, in_second}
use Rattle.thm_conversions.specs.Cells.{zeroed}
use Rattle.thm_conversions.specs.Laws.Walks.{leading, Leads, bank-here, bank-there, standing as stand}
use Rattle.thm_conversions.specs.Laws.Visits.{like}

lost-alike : (def : Bankdef) (position : ℕ) (n : Node) → lost_by def position (up n) ≡ lost_by def position n
lost-alike def position n =
    ap (λ (t : Bool). pick (eqb n.kind 8) (distance_in def position n.number) (pick t (label_loses def def.align position) 0)) (symbol-alike n)

module _ (p : Program) (table : Bankdefs) (leads : Leads p table) (row : Row) where
  abbrev there : Program
  there = leading table p

  stands_here : (i : ℕ) → stands_at p row i ≡ (stand p table leads row i).at.position
  stands_here i =
      let s = stand p table leads row i in
      ap (λ (w : Walk). (standing w (node p row i)).position) s.first
      ∙ ap (λ (k : ℕ). (get_or (in_first s.at s.lost).at k origin).position) (bank-here p table leads row i)

  stands-there : (i : ℕ) → stands_at there (zeroed row) (suc i) ≡ (stand p table leads row i).at.position
  stands-there i =
      let s = stand p table leads row i in
      ap (λ (w : Walk). (standing w (node there (zeroed row) (suc i))).position) s.second
      ∙ ap (λ (k : ℕ). (get_or (in_second s.at s.lost).at k origin).position) (bank-there p table leads row i)

  loses-alike : (i : ℕ) → lost_at there (zeroed row) (suc i) ≡ lost_at p row i
  loses-alike i =
      law (like p table leads row i).def (stands-there i ∙ sym (stands_here i)) (leads.nodes row i)
      ∙ lost-alike (def_at p row i) (stands_at p row i) (node p row i)
    where
      law : {d e : Bankdef} {x y : ℕ} {n m : Node} → d ≡ e → x ≡ y → n ≡ m → lost_by d x n ≡ lost_by e y m
      law e f g = rw (e, f, g)

  add : (t : Bool) (a b : ℕ) → pick t a 0 + pick t b 0 ≡ pick t (a + b) 0
  add true a b = refl
  add false a b = refl

  -- what is added up here of node i is added up there of node i + 1, and the switch that goes ahead adds nothing
  module _ (f h : ℕ → ℕ) (none : h 0 ≡ 0) (alike : (i : ℕ) → h (suc i) ≡ f i) where
    first-sum : (bank : ℕ) → sum_in there (zeroed row) h bank 1 ≡ pick (eqb 1 bank) (sum_in p row f 0 0) 0
    unfolding sum_in walk_to start_of
    first-sum bank = ap (λ (x : ℕ). 0 + pick (eqb 1 bank) x 0) none ∙ go (eqb 1 bank)
      where
        go : (t : Bool) → 0 + pick t 0 0 ≡ pick t 0 0
        go true = refl
        go false = refl

    next : (i : ℕ) → sum_in p row f 0 (suc i) ≡ sum_in p row f 0 i + pick (eqb (bank_at p row i) 0) (f i) 0
    unfolding sum_in
    next i = refl

    next-there : (bank i : ℕ) → sum_in there (zeroed row) h bank (suc (suc i))
        ≡ sum_in there (zeroed row) h bank (suc i) + pick (eqb (bank_at there (zeroed row) (suc i)) bank) (h (suc i)) 0
    unfolding sum_in
    next-there bank i = refl

    sums : (bank i : ℕ) → sum_in there (zeroed row) h bank (suc i) ≡ pick (eqb 1 bank) (sum_in p row f 0 i) 0
    sums bank zero = first-sum bank
    sums bank (suc i) =
        next-there bank i
        ∙ law (sums bank i) (like p table leads row i).second (alike i)
        ∙ add (eqb 1 bank) (sum_in p row f 0 i) (f i)
        ∙ ap (λ (n : ℕ). pick (eqb 1 bank) n 0)
        (sym (next i ∙ ap (λ (k : ℕ). sum_in p row f 0 i + pick (eqb k 0) (f i) 0) (like p table leads row i).first))
      where
        law : {a b c d x : ℕ} → a ≡ b → c ≡ 1 → d ≡ x → a + pick (eqb c bank) d 0 ≡ b + pick (eqb 1 bank) x 0
        law e f g = rw (e, f, g)

  -- bits, and the whole units of each skip
  loses-none : lost_at there (zeroed row) 0 ≡ 0
  unfolding walk_to start_of
  loses-none = refl

  units-none : units_at there (zeroed row) 0 ≡ 0
  units-none = ap (λ (n : ℕ). n / (def_at there (zeroed row) 0).unit) loses-none ∙ zero-div (def_at there (zeroed row) 0).unit

  units-alike : (i : ℕ) → units_at there (zeroed row) (suc i) ≡ units_at p row i
  units-alike i = ap₂ (λ (n : ℕ) (d : Bankdef). n / d.unit) (loses-alike i) (like p table leads row i).def

  both : (bank i : ℕ) → padding_to there (zeroed row) bank (suc i) ≡ pick (eqb 1 bank) (padding_to p row 0 i) no_lost
  both bank i =
      ap₂ (λ (m n : ℕ). record { bits = m; units = n })
      (sums (lost_at p row) (lost_at there (zeroed row)) loses-none loses-alike bank i)
      (sums (units_at p row) (units_at there (zeroed row)) units-none units-alike bank i)
      ∙ joined (eqb 1 bank) (sum_in p row (lost_at p row) 0 i) (sum_in p row (units_at p row) 0 i)
    where
      joined : (t : Bool) (m n : ℕ) → ◌≡◌ {A = Lost} (record { bits = pick t m 0; units = pick t n 0 }) (pick t (record { bits = m; units = n }) no_lost)
      joined true m n = refl
      joined false m n = refl

  -- Sixteen sums: bank 1 has what bank 0 has in the one layout, every other bank none.
  pub paddings : paddings_of there (zeroed row) ≡ no_lost ∷ get_or (paddings_of p row) 0 no_lost ∷ replicate 14 no_lost
  unfolding list_of
  paddings = ap of_banks (fun_ext (λ bank. both bank (length p.kinds)))
