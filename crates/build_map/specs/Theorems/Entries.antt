-- What stands in the lent lists after a map: of each node that has an entry its bank, the position that it sees, its place in the output and its size;
-- past them what stood there before.
use Rattle.std.specs.Prelude.{◌≡◌, ℕ, ◌≤◌, ◌<◌, get_or}
use Rattle.std.proofs.Common.{sym, ap, subst, ◌∙◌, arith}
use Rattle.std.proofs.Math.Decide.{dec_lt}
use Rattle.prelude.specs.Limits.{max_nodes}
use Rattle.blocks.specs.Offsets.{word_of}
use Rattle.nodes.specs.Kinds.{size_of}
use Rattle.nodes.specs.Theorems.Sound.{accepted-lists}
use Rattle.output.specs.Output.{passes_of}
use Rattle.build_map.specs.Calls.{Call, program_in, row_in, nodes_in, visit_in}
use Rattle.build_map.specs.Theorems.Calls.{reach-is}
use Rattle.build_map.specs.Map.{Lent, bank_shown, position_shown, output_shown, size_shown}
use Rattle.build_map.specs.Theorems.Reached.{ran-checked, none-run, shown-few}
use Rattle.build_map.specs.declared.Reach.{Reach}
use Rattle.build_map.specs.Laws.Entries.{shown-at, shown-past}

module _ (c : Call) where
  -- "bank": the one that the node stands in
  pub entry-is-bank : (i : ℕ) → i < c.answer.nodes → get_or c.new.banks i 0 ≡ (visit_in c i).bank
  entry-is-bank i h =
      ap (λ (l : Lent). get_or l.banks i 0) c.meets.left
      ∙ shown-at c.answer.nodes (bank_shown (program_in c) (row_in c)) c.old.banks i h

  -- "offset plus position", or the word for none
  pub entry-is-output : (i : ℕ) → i < c.answer.nodes → get_or c.new.outputs i 0 ≡ word_of (visit_in c i).out
  entry-is-output i h =
      ap (λ (l : Lent). get_or l.outputs i 0) c.meets.left
      ∙ shown-at c.answer.nodes (output_shown (program_in c) (row_in c)) c.old.outputs i h

  -- the bits of an item or a reserve
  pub entry-is-size : (i : ℕ) → i < c.answer.nodes → get_or c.new.sizes i 0 ≡ size_of (visit_in c i).node
  entry-is-size i h =
      ap (λ (l : Lent). get_or l.sizes i 0) c.meets.left
      ∙ shown-at c.answer.nodes (size_shown (program_in c) (row_in c)) c.old.sizes i h

  -- no more nodes have entries than there are
  pub entries-listed : c.answer.nodes ≤ nodes_in c
  entries-listed = subst (λ (r : Reach). r.nodes ≤ nodes_in c) (sym (reach-is c)) (shown-few c.given)

  -- what is lent past the entries stays
  pub past-entries-kept : (i : ℕ) → c.answer.nodes ≤ i
      → (get_or c.new.banks i 0 ≡ get_or c.old.banks i 0) × (get_or c.new.positions i 0 ≡ get_or c.old.positions i 0)
      × (get_or c.new.outputs i 0 ≡ get_or c.old.outputs i 0) × (get_or c.new.sizes i 0 ≡ get_or c.old.sizes i 0)
  past-entries-kept i h = (
    ap (λ (l : Lent). get_or l.banks i 0) c.meets.left
        ∙ shown-past c.answer.nodes (bank_shown (program_in c) (row_in c)) c.old.banks i h,
    ap (λ (l : Lent). get_or l.positions i 0) c.meets.left
        ∙ shown-past c.answer.nodes (position_shown (program_in c) (row_in c)) c.old.positions i h,
    ap (λ (l : Lent). get_or l.outputs i 0) c.meets.left
        ∙ shown-past c.answer.nodes (output_shown (program_in c) (row_in c)) c.old.outputs i h,
    ap (λ (l : Lent). get_or l.sizes i 0) c.meets.left
        ∙ shown-past c.answer.nodes (size_shown (program_in c) (row_in c)) c.old.sizes i h,
  )

  -- all four at once
  pub entries-are : (i : ℕ) → i < c.answer.nodes
      → (get_or c.new.banks i 0 ≡ bank_shown (program_in c) (row_in c) i) × (get_or c.new.positions i 0 ≡ position_shown (program_in c) (row_in c) i)
      × (get_or c.new.outputs i 0 ≡ output_shown (program_in c) (row_in c) i) × (get_or c.new.sizes i 0 ≡ size_shown (program_in c) (row_in c) i)
  entries-are i h = (
    entry-is-bank i h,
    ap (λ (l : Lent). get_or l.positions i 0) c.meets.left
        ∙ shown-at c.answer.nodes (position_shown (program_in c) (row_in c)) c.old.positions i h,
    entry-is-output i h,
    entry-is-size i h,
  )

  -- no more than a layout can have
  pub entries-few : c.answer.nodes ≤ max_nodes
  entries-few =
      elim (dec_lt 0 (passes_of c.given)) [
        | yes some ↦
            (let ran : passes_of c.given ≡ 0 → ⊥ = λ e. omega arith in
            let sound = accepted-lists c.given.banks.len c.given.lists c.given.choices.fill (ran-checked c.given ran).lists in
            omega (arith, entries-listed, sound.few))
        | no less ↦
            (let none : passes_of c.given ≡ 0 = omega arith in
            let zero : c.answer.nodes ≡ 0 = ap (λ (r : Reach). r.nodes) (reach-is c ∙ none-run c.given none) in omega arith)
      ]
