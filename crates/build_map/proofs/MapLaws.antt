-- From the passes to the map of their last row, and from it to the public answer.
use Rattle.std.specs.Prelude.{Result, Err, Ok, None}
use mathlib.Core.Path.{◌≡◌, refl, sym, ap, ap₂, subst, ◌∙◌}
use mathlib.Core.Bool.{Bool}
use mathlib.Core.List.{List}
use Prim.Native.Nat.{ℕ, zero, suc, ◌+◌, ◌-◌, ◌*◌, ◌≤◌, ◌<◌, min}
use native.Mathlib.Omega.{arith}
use lib.ListN.{length, take, drop, replicate, length-set}
use lib.Seq.{ext_get_or}
use Rattle.prelude.specs.Limits.{max_banks, max_nodes}
use Rattle.prelude.specs.Told.{told_verdict}
use Rattle.prelude.specs.declared.Refusal.{Refusal}
use Rattle.bankdef.specs.declared.Bankdefs.{Bankdefs}
use Rattle.bitvec.specs.Lists.{list_of}
use Rattle.iter.specs.Step.{no_lost, start_of, bank_after}
use Rattle.iter.specs.Laws.StepCases.{step-cases}
use Rattle.iter.specs.declared.Lost.{Lost}
use Rattle.iter.specs.declared.Stepped.{Stepped}
use Rattle.resolver.specs.Layout.{layout_of, Checked}
use Rattle.nodes.specs.Lists.{Lists, Row, Rows, row_with}
use Rattle.resolver.specs.Once.{Program, node, bank_of, walk_to, program_with}
use Rattle.resolver.specs.Padding.{padding_to, sum_in}
use Rattle.resolver.specs.Laws.Padding.{Walks}
use Rattle.resolver.specs.Theorems.Padding.{walk-carries-padding}
use Rattle.resolver.specs.Passes.{program, row_of_pass}
use Rattle.resolver.specs.Switches.{Switches}
use Rattle.resolver.specs.Theorems.Switches.{accepted-switches}
use Rattle.nodes.specs.Laws.RowParts.{first_part, row-part}
use Rattle.nodes.specs.Sound.{SoundLists}
use Rattle.nodes.specs.Theorems.Sound.{accepted-lists}
use Rattle.resolver.specs.declared.Choices.{Choices}
use Rattle.resolver.specs.declared.Resolution.{Resolution}
use Rattle.output.specs.Output.{Input, input, closed_of, visits_of, passes_of, settled_of}
use Rattle.build_plan.specs.Laws.Plan.{length-of-banks, get_d-of-banks}
use Rattle.build_plan.specs.Placing.{Placed, holds, stops, placed_all, walked_all}
use Rattle.build_map.specs.Map.{traced_by, settled_reach, paddings_to, map_by, map_of, placed_told, settled_told, Lent, lent}
use Rattle.build_map.specs.Map.{bank_shown, position_shown, output_shown, size_shown, shown, left_by, Maps}
use Rattle.build_map.specs.Theorems.Reached.{Seen, ran-checked, none-run, shown-sees, off-listed}
use Rattle.build_map.specs.Steps.{Few, row_reach, RowMapped, verdict_of, mapless}
use Rattle.build_map.specs.declared.Map.{Map}
use Rattle.build_map.specs.declared.Reach.{Reach}

-- ---- the walk carries each bank's padding

module _ (p : Program) (row : Row) where
  sixteen : (n : ℕ) → length (walk_to p row n).lost ≡ max_banks
  unfolding walk_to start_of
  sixteen zero = refl
  sixteen (suc i) =
      let walk = walk_to p row i in
      step-cases (bank_of p.banks walk (node p row i)) walk (node p row i) (λ (s : Stepped). length s.walk.lost ≡ length walk.lost) (λ why. refl)
      (λ s q e a. length-set walk.lost (bank_after walk.bank (node p row i)) _)
      ∙ sixteen i

  carried : (n : ℕ) → n ≤ max_nodes → Walks p row n → (walk_to p row n).lost ≡ paddings_to p row n
  carried n few walks =
      ext_get_or no_lost (walk_to p row n).lost (paddings_to p row n) (sixteen n ∙ sym (length-of-banks (λ bank. padding_to p row bank n)))
      (λ j h.
      let low : j < max_banks = omega (arith, sixteen n) in
      walk-carries-padding p row n j few walks ∙ sym (get_d-of-banks (λ bank. padding_to p row bank n) j low))

  lost-none : replicate 16 no_lost ≡ paddings_to p row 0
  unfolding list_of sum_in
  lost-none = refl

  left-none : (old : Lent) → left_by p row 0 old ≡ old
  unfolding list_of
  left-none old = refl

-- ---- the verdict's number and place

placed-told : (walked : ℕ) (q : Placed) → told_verdict (traced_by walked q).verdict ≡ placed_told q
placed-told walked (holds stored) = refl
placed-told walked (stops why) = refl

settled-told : (b : Input) (n : ℕ) (s : Result ℕ Refusal)
    → told_verdict (settled_reach (closed_of b) (visits_of b (passes_of b)) n s).verdict ≡ settled_told b s
settled-told b n (Err why) = refl
settled-told b n (Ok k) = let vs = visits_of b (passes_of b) in placed-told (walked_all (closed_of b) vs) (placed_all (closed_of b) vs)

map-told : (b : Input) → told_verdict (map_of b).verdict ≡ settled_told b (settled_of b)
unfolding map_of
map-told b = settled-told b (length b.lists.kinds) (settled_of b)

-- ---- a row's map, from its parts

pub row-mapped : (p : Program) (row : Row) (closed : Bool) (settled : Result ℕ Refusal) (passes : ℕ) (banks positions outputs sizes : List ℕ) (reach : Reach)
    → reach ≡ row_reach p row closed settled → (lost : List Lost) → lost ≡ (walk_to p row reach.nodes).lost → (banks' positions' outputs' sizes' : List ℕ)
    → banks' ≡ shown reach.nodes (bank_shown p row) banks
    → positions' ≡ shown reach.nodes (position_shown p row) positions
    → outputs' ≡ shown reach.nodes (output_shown p row) outputs
    → sizes' ≡ shown reach.nodes (size_shown p row) sizes
    → RowMapped p row closed settled passes (lent banks positions outputs sizes) (map_by passes reach lost) (lent banks' positions' outputs' sizes')
row-mapped p row closed settled passes banks positions outputs sizes reach is lost same banks' positions' outputs' sizes' e f g h =
    record {
      answer = ap (map_by passes reach) same ∙ ap (λ (x : Reach). map_by passes x (walk_to p row x.nodes).lost) is;
      left = rw (e, f, g, h) (ap (λ (x : Reach). left_by p row x.nodes (lent banks positions outputs sizes)) is);
    }

module _ (banks : Bankdefs) (l : Lists) (m : Choices) (r : Resolution) (resolves : r ≡ layout_of banks l m) where
  abbrev given : Input
  given = input banks l m

  abbrev reach_by : Resolution → Reach
  reach_by q = settled_reach (closed_of given) (visits_of given q.passes) (length l.kinds) q.settled

  abbrev map_for : Resolution → Map
  map_for q = map_by q.passes (reach_by q) (paddings_to (program banks l) (row_of_pass l q.passes) (reach_by q).nodes)

  is-map : map_for r ≡ map_of given
  unfolding map_of
  is-map = ap map_for resolves

  -- the contract, from the answer by the passes that were run
  contract : (old new : Lent) (x : Map) → x ≡ map_for r → new ≡ left_by (program banks l) (row_of_pass l r.passes) (reach_by r).nodes old → Maps given old x new
  contract old new x e f =
      record {
        answer = e ∙ is-map;
        told = ap (λ (y : Map). told_verdict y.verdict) (e ∙ is-map) ∙ map-told given;
        left = f ∙ ap (λ (y : Map). left_by (program banks l) (row_of_pass l y.passes) y.nodes old) (sym e);
      }

  -- ---- no pass was run

  abbrev nothing : Reach
  nothing = record { verdict = verdict_of r.settled; nodes = 0; fault = None }

  pub unrun : r.passes ≡ 0 → (old : Lent) (x : Map) → x ≡ mapless r.settled → Maps given old x old
  unrun none old x is =
      let none' : passes_of given ≡ 0 = sym (ap (λ (q : Resolution). q.passes) resolves) ∙ none in
      let reach : reach_by r ≡ record { verdict = verdict_of r.settled; nodes = 0; fault = None } =
      ap reach_by resolves ∙ none-run given none'
      ∙ ap (λ (q : Resolution). record { verdict = verdict_of q.settled; nodes = 0; fault = None }) (sym resolves) in
      contract old old x (is ∙ told reach) (kept reach)
    where
      told : reach_by r ≡ nothing → mapless r.settled ≡ map_for r
      told reach =
          ap (map_by 0 nothing) (lost-none (program banks l) (row_of_pass l r.passes))
          ∙ ap (λ (k : ℕ). map_by k nothing (paddings_to (program banks l) (row_of_pass l r.passes) 0)) (sym none)
          ∙ ap (λ (y : Reach). map_by r.passes y (paddings_to (program banks l) (row_of_pass l r.passes) y.nodes)) (sym reach)

      kept : reach_by r ≡ nothing → old ≡ left_by (program banks l) (row_of_pass l r.passes) (reach_by r).nodes old
      kept reach = sym (left-none (program banks l) (row_of_pass l r.passes) old) ∙ ap
          (λ (y : Reach). left_by (program banks l) (row_of_pass l r.passes) y.nodes old) (sym reach)

  -- ---- a pass was run

  module _ (some : r.passes ≡ 0 → ⊥) where
    checked : Checked banks l m.fill
    checked = ran-checked given (λ e. some (ap (λ (q : Resolution). q.passes) resolves ∙ e))

    sound : SoundLists banks.len l m.fill
    sound = accepted-lists banks.len l m.fill checked.lists

    -- each bank switch names a bank of the table
    pub ran-switches : Switches banks.len l.kinds l.operands
    ran-switches = accepted-switches banks l m.fill refl checked.table refl checked.lists

    pub ran-rows : Rows (length l.kinds) l.rows l.numbers l.states
    ran-rows = sound.rows

    pub ran-few : length l.kinds ≤ max_nodes
    ran-few = sound.few

    pub ran-listed : Few r.settled
    ran-listed = by r.settled (sym (ap (λ (q : Resolution). q.settled) resolves))
      where
        by : (s : Result ℕ Refusal) → settled_of given ≡ s → Few s
        by (Ok k) e = tt
        by (Err why) e = λ seven. (let h = off-listed given why e seven in let f = ran-few in omega arith)

    module _ (start : ℕ) (starts : start ≡ (min r.passes l.rows - 1) * length l.kinds) (closed : Bool) (closes : closed ≡ closed_of given) where
      abbrev parted : Program
      parted = program_with banks l.kinds l.operands (take (length l.kinds - 0) (drop 0 l.numbers))

      abbrev part_of : List ℕ → List ℕ
      part_of xs = take (start + length l.kinds - start) (drop start xs)

      abbrev part_row : Row
      part_row = row_with (part_of l.numbers) (part_of l.states)

      part-program : parted ≡ program banks l
      part-program = ap (program_with banks l.kinds l.operands) (first_part (length l.kinds) l.numbers)

      part : (xs : List ℕ) → part_of xs ≡ take (length l.kinds) (drop ((min r.passes l.rows - 1) * length l.kinds) xs)
      part xs = rw starts (row-part (min r.passes l.rows - 1) (length l.kinds) xs)

      part-row : part_row ≡ row_of_pass l r.passes
      part-row = ap₂ row_with (part l.numbers) (part l.states)

      seen : Seen given (reach_by r).nodes
      seen = subst (λ (q : Resolution). Seen given (reach_by q).nodes) (sym resolves) (shown-sees given)

      pub reach_few : (row_reach parted part_row closed r.settled).nodes ≤ max_nodes
      reach_few =
          let few : (reach_by r).nodes ≤ max_nodes = omega (arith, seen.few, ran-few) in
          rw (part-program, part-row, closes) few

      pub finished : (old new : Lent) (x : Map) → RowMapped parted part_row closed r.settled r.passes old x new → Maps given old x new
      finished old new x raw =
          let mapped : RowMapped (program banks l) (row_of_pass l r.passes) (closed_of given) r.settled r.passes old x new =
          rw (part-program, part-row, closes) at raw in
          let walks = subst (λ (n : ℕ). Walks (program banks l) (row_of_pass l n) (reach_by r).nodes)
          (sym (ap (λ (q : Resolution). q.passes) resolves)) seen.walks in
          contract old new x
          (mapped.answer
          ∙ ap (map_by r.passes (reach_by r))
          (carried (program banks l) (row_of_pass l r.passes) (reach_by r).nodes (omega (arith, seen.few, ran-few)) walks))
          mapped.left
