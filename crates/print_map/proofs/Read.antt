-- The records of the map over the lists of a sound file are the file's text.
use Rattle.std.specs.Prelude.{Option, Err, Ok}
use mathlib.Core.Path.{◌≡◌, refl, sym, ap, subst, ◌∙◌}
use mathlib.Core.List.{List}
use Prim.Native.Nat.{ℕ, zero, suc, ◌*◌, ◌≤◌}
use native.Mathlib.Omega.{arith}
use lib.ListN.{length, take, drop, length-append, length-drop}
use Rattle.prelude.specs.Limits.{max_nodes}
use Rattle.prelude.specs.declared.Refusal.{Refusal}
use Rattle.prelude.specs.Verdict.{Verdict, Accepted}
use Rattle.bankdef.specs.declared.Bankdefs.{Bankdefs}
use Rattle.bitvec.specs.Lists.{list_of}
use Rattle.bitvec.specs.Laws.Lists.{length-list_of}
use Rattle.form_fields.specs.declared.Shape.{Shape}
use Rattle.form_fields.specs.Shape.{form_of}
use Rattle.form_fields.specs.Banks.{table_of}
use Rattle.form_fields.specs.Lists.{kinds_of, operands_of, numbers_of, states_of, values_by}
use Rattle.form_fields.specs.Theorems.Filled.{places}
use Rattle.nodes.specs.Lists.{lists}
use Rattle.resolver.specs.Passes.{program, row_of_pass}
use Rattle.resolver.specs.declared.Choices.{Choices}
use Rattle.output.specs.Output.{Input, input}
use Rattle.form_build.specs.Filed.{choices_of, HeldIn, lists_in}
use Rattle.build_map.specs.Calls.{Call, program_in, row_in}
use Rattle.build_map.specs.Theorems.Entries.{entries-are, entries-few, entries-listed}
use Rattle.build_map.specs.Map.{Lent, bank_shown, position_shown, output_shown, size_shown, shown, Maps}
use Rattle.build_map.specs.declared.Map.{Map}
use Rattle.print_map.specs.Steps.{nodes_held, text_held}
use Rattle.print_map.specs.Text.{nodes_text, refused_text, layout_text, input_of, said_in, map_after, text_by, map_text}

pub broken-text : (file : List ℕ) (fill : ℕ) (page : Option ℕ) (why : Refusal) → form_of file ≡ Err why → refused_text why ≡ map_text file fill page
unfolding map_text
broken-text file fill page why e = sym (ap (text_by file fill page) e)

-- ---- a sound file's map

-- the nodes' lines, from the lists that the map has filled
held-lines : (c : Call) (n : ℕ) → n ≤ c.answer.nodes
    → nodes_held c.given.banks c.given.lists.kinds c.new.banks c.new.positions c.new.outputs c.new.sizes n
    ≡ nodes_text (program_in c) (row_in c) n
unfolding nodes_held nodes_text
held-lines c zero h = refl
held-lines c (suc n) h =
    let before = held-lines c n (omega arith) in
    let (b, p, o, z) = entries-are c n h in
    rw (before, b, p, o, z) refl

-- there is an entry for each
long-enough : (n : ℕ) (f : ℕ → ℕ) (old new : List ℕ) → new ≡ shown n f old → n ≤ length new
long-enough n f old new e = omega (arith, ap length e, length-append (list_of n f) (drop n old), length-list_of n f)

as_long : (n : ℕ) (f : ℕ → ℕ) (old new : List ℕ) → length old ≡ max_nodes → n ≤ max_nodes → new ≡ shown n f old → max_nodes ≡ length new
as_long n f old new long few e =
    omega (arith, ap length e, length-append (list_of n f) (drop n old), length-list_of n f, length-drop n old)

pub nodes-fit : {b : Input} {old new : Lent} {m : Map} → Maps b old m new
    → (m.nodes ≤ length new.banks) × (m.nodes ≤ length new.positions) × (m.nodes ≤ length new.outputs) × (m.nodes ≤ length new.sizes)
nodes-fit {b} {old} {new} {m} meets =
    let p = program b.banks b.lists in
    let row = row_of_pass b.lists m.passes in (
      long-enough m.nodes (bank_shown p row) old.banks new.banks (ap (λ (l : Lent). l.banks) meets.left),
      long-enough m.nodes (position_shown p row) old.positions new.positions (ap (λ (l : Lent). l.positions) meets.left),
      long-enough m.nodes (output_shown p row) old.outputs new.outputs (ap (λ (l : Lent). l.outputs) meets.left),
      long-enough m.nodes (size_shown p row) old.sizes new.sizes (ap (λ (l : Lent). l.sizes) meets.left),
    )

module _ (file : List ℕ) (fill : ℕ) (s : Shape) (sound : form_of file ≡ Ok s) (banks : Bankdefs) (kinds operands numbers states values : List ℕ)
    (choices : Choices) (h : HeldIn file s kinds operands numbers states) (ec : choices ≡ choices_of s fill) (eb : banks ≡ table_of file)
    (ev : values ≡ values_by file (form_of file)) (old new : Lent) (m : Map)
    (meets : Maps (input banks
    (lists (take s.nodes kinds) (take s.nodes operands) (take (s.rows * s.nodes) numbers) (take (s.rows * s.nodes) states) s.rows values)
    choices) old m new) where
  met : Maps (input_of file s fill) old m new
  met =
      subst
      (λ (x : ℕ). Maps (input (table_of file)
      (lists (kinds_of file) (operands_of file) (numbers_of file) (states_of file) x (values_by file (form_of file))) (choices_of s fill)) old m new)
      (places file s sound).rows
      (rw (ec, eb, ev, h.of-kinds, h.of-operands, h.of-numbers, h.of-states) at meets)

  call : Call
  call = record { given = input_of file s fill; old = old; answer = m; new = new; meets = met }

  pub nodes-few : m.nodes ≤ max_nodes
  unfolding call
  nodes-few = entries-few call

  -- the arrays keep their lengths
  pub arrays-long : (length old.banks ≡ max_nodes) × (length old.positions ≡ max_nodes) × (length old.outputs ≡ max_nodes) ×
      (length old.sizes ≡ max_nodes)
      → (max_nodes ≡ length new.banks) × (max_nodes ≡ length new.positions) × (max_nodes ≡ length new.outputs) × (max_nodes ≡ length new.sizes)
  arrays-long long =
      let p = program (table_of file) (lists_in file) in
      let row = row_of_pass (lists_in file) m.passes in (
        as_long m.nodes (bank_shown p row) old.banks new.banks long.0 nodes-few (ap (λ (l : Lent). l.banks) met.left),
        as_long m.nodes (position_shown p row) old.positions new.positions long.1 nodes-few (ap (λ (l : Lent). l.positions) met.left),
        as_long m.nodes (output_shown p row) old.outputs new.outputs long.2 nodes-few (ap (λ (l : Lent). l.outputs) met.left),
        as_long m.nodes (size_shown p row) old.sizes new.sizes long.3 nodes-few (ap (λ (l : Lent). l.sizes) met.left),
      )

  pub nodes-listed : m.nodes ≤ length (take s.nodes kinds)
  unfolding call
  nodes-listed = rw h.of-kinds (entries-listed call)

  -- the map's own records, and those of a layout that the profile refuses, in which no node has an entry
  own-text : text_held s banks m (take s.nodes kinds) new.banks new.positions new.outputs new.sizes ≡ layout_text s (input_of file s fill) m
  unfolding call
  own-text = rw (eb, h.of-kinds, held-lines call m.nodes (omega arith)) refl

  said-text : (v : Verdict) → text_held s banks (map_after v m) (take s.nodes kinds) new.banks new.positions new.outputs new.sizes
      ≡ layout_text s (input_of file s fill) (map_after v m)
  unfolding nodes_held nodes_text
  said-text Accepted = own-text
  said-text (Err why) = rw (eb) refl

  module _ (page : Option ℕ) (shown : Map) (is : shown ≡ map_after (said_in page (input banks
      (lists (take s.nodes kinds) (take s.nodes operands) (take (s.rows * s.nodes) numbers) (take (s.rows * s.nodes) states) s.rows values)
      choices)) m) where
    is_said : shown ≡ map_after (said_in page (input_of file s fill)) m
    is_said =
        subst
        (λ (x : ℕ). shown ≡ map_after (said_in page (input (table_of file)
        (lists (kinds_of file) (operands_of file) (numbers_of file) (states_of file) x (values_by file (form_of file))) (choices_of s fill))) m)
        (places file s sound).rows
        (rw (ec, eb, ev, h.of-kinds, h.of-operands, h.of-numbers, h.of-states) at is)

    -- no more nodes have entries than the map has
    fewer : (v : Verdict) → (map_after v m).nodes ≤ m.nodes
    fewer Accepted = omega arith
    fewer (Err why) = omega arith

    pub shown-fewer : shown.nodes ≤ m.nodes
    shown-fewer = omega (arith, ap (λ (x : Map). x.nodes) is_said, fewer (said_in page (input_of file s fill)))

    pub read-text : text_held s banks shown (take s.nodes kinds) new.banks new.positions new.outputs new.sizes ≡ map_text file fill page
    unfolding map_text
    read-text =
        ap (λ (x : Map). text_held s banks x (take s.nodes kinds) new.banks new.positions new.outputs new.sizes) is_said
        ∙ said-text (said_in page (input_of file s fill))
        ∙ ap (λ (x : Map). layout_text s (input_of file s fill) (map_after (said_in page (input_of file s fill)) x)) met.answer
        ∙ sym (ap (text_by file fill page) sound)
