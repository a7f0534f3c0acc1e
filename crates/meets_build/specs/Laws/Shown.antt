-- What is given to `dk_build`, as the library's definitions see it: the lists, a node of a row, a bank's record. Each number that a definition reads
-- is the one that the sentences name.
use Rattle.std.specs.Prelude.{◌≡◌, refl, Bool, true, false, List, ℕ, zero, suc, ◌+◌, ◌*◌, ◌/◌, ◌%◌, ◌≤◌, ◌<◌, eqb, ℤ, pos, ◌+ℤ◌, ◌*ℤ◌, length, get_or, take, drop, Some, None, Ok}
use Rattle.std.proofs.Common.{sym, ap, subst, ◌∙◌, arith, get_or-take, get_or-drop, eqb-true}
use Rattle.std.proofs.Math.IntN.{+ℤ_assoc}
use Rattle.std.proofs.lemmas.Bool.{eqb-false}
use Rattle.prelude.specs.Laws.Bools.{either}
use Rattle.prelude.specs.declared.Refusal.TheVariants.{Malformed}
use Rattle.bankdef.specs.Numbers.{fill_bit as bit_told}
use Rattle.bankdef.specs.declared.Bankdef.{Bankdef}
use Rattle.bankdef.specs.declared.Bankdefs.{Bankdefs}
use Rattle.iter.specs.Laws.Aligned.{never, skips-same}
use Rattle.iter.specs.Theorems.Aligned.{told-when, four-when, to_none, told-aligns}
use Rattle.iter.specs.Distance.{tellable, address_in_bits, no_skip, distance_of}
use Rattle.nodes.specs.declared.Node.{Node}
use Rattle.iter.specs.declared.Skipped.{Skipped}
use Rattle.nodes.specs.Lists.{Lists, Row, row_at}
use Rattle.resolver.specs.Once.{Program, node, bank_record}
use Rattle.resolver.specs.Passes.{program}
use Rattle.says.specs.Build as says
use Rattle.says.specs.Build.{Given, unit, start, flag, fill_bit, Size, Offset, Align, Filled, nodes, kind, operand, state, Number}
use Rattle.says.specs.Words.{Not}
use Rattle.says.specs.Build.{Aligned, Distance}

-- the lists
abbrev pub listed : Given → Lists
listed g = record { kinds = g.kinds; operands = g.operands; numbers = g.numbers; states = g.states; rows = g.rows; values = g.values }

-- What a bank's record tells is what is given for bank b; its addresses can be told.
pub record Tells (g : Given) (b : ℕ) (def : Bankdef) : Type 0 where
  pub told : tellable def ≡ true
  pub of-unit : def.unit ≡ unit g b
  pub of-start : def.start ≡ start g b
  pub aligned : (a : ℕ) → def.align ≡ Some a → Align g b a
  pub unaligned : def.align ≡ None → Not (flag g b / 4 % 2 ≡ 1)
  pub sized : (m : ℕ) → def.size ≡ Some m → Size g b m
  pub has-size : (m : ℕ) → Size g b m → def.size ≡ Some m
  pub placed : (o : ℕ) → def.offset ≡ Some o → Offset g b o
  pub has-offset : (o : ℕ) → Offset g b o → def.offset ≡ Some o
  pub filled : def.fill ≡ true → Filled g b
  pub has-fill : Filled g b → def.fill ≡ true
  pub of-bit : bit_told def ≡ fill_bit g b

-- The table of banks stands for what is given, and the numbers are within their type.
pub record Shown (g : Given) (banks : Bankdefs) : Type 0 where
  pub count : banks.len ≡ length g.units
  pub whole : banks.len ≤ length banks.defs
  pub tells : (b : ℕ) → b < banks.len → Tells g b (bank_record banks b)
  pub typed : (j : ℕ) → get_or g.numbers j 0 ≤ 4294967295

module _ (g : Given) (banks : Bankdefs) where
  abbrev pub walked : Program
  walked = program banks (listed g)

  abbrev pub row_no : ℕ → Row
  row_no r = row_at (listed g) r

  -- node i as row r shows it
  abbrev pub node_no : ℕ → ℕ → Node
  node_no r i = node walked (row_no r) i

  cell : (r i : ℕ) (xs : List ℕ) → i < nodes g → get_or (take (nodes g) (drop (r * nodes g) xs)) i 0 ≡ get_or xs (r * nodes g + i) 0
  cell r i xs h = get_or-take (nodes g) (drop (r * nodes g) xs) i 0 h ∙ get_or-drop (r * nodes g) xs i 0

  first_cell : (i : ℕ) (xs : List ℕ) → i < nodes g → get_or (take (nodes g) (drop (0 * nodes g) xs)) i 0 ≡ get_or xs i 0
  first_cell i xs h = cell 0 i xs h ∙ ap (λ (k : ℕ). get_or xs k 0) (omega arith)

  -- "Kind 5 takes its number from the first row."
  pub number_is : (r i : ℕ) → i < nodes g → Number g r i (node_no r i).number
  number_is r i h =
      either (eqb (kind g i) 5)
      (λ e. rw e (subst (Number g r i) (sym (first_cell i g.numbers h)) (says.first (eqb-true (kind g i) 5 e))))
      (λ e. rw e (subst (Number g r i) (sym (cell r i g.numbers h)) (says.own (eqb-false (kind g i) 5 e))))

  number_small : {r i n : ℕ} → ((j : ℕ) → get_or g.numbers j 0 ≤ 4294967295) → Number g r i n → n ≤ 4294967295
  number_small {r} {i} typed (says.first e) = typed i
  number_small {r} {i} typed (says.own e) = typed (r * nodes g + i)

  -- a number is within its type
  pub number-typed : (r i : ℕ) → i < nodes g → ((j : ℕ) → get_or g.numbers j 0 ≤ 4294967295) → (node_no r i).number ≤ 4294967295
  number-typed r i h typed = number_small typed (number_is r i h)

  pub state-is : (r i : ℕ) → i < nodes g → (node_no r i).state ≡ state g r i
  state-is r i h = cell r i g.states h

-- The distance is the fewest bits to a multiple.
module _ (g : Given) (b : ℕ) (def : Bankdef) (t : Tells g b def) where
  base : def.start *ℤ pos def.unit ≡ start g b *ℤ pos (unit g b)
  base = ap (λ (z : ℤ). z *ℤ pos def.unit) t.of-start ∙ ap (λ (u : ℕ). start g b *ℤ pos u) t.of-unit

  shifted : (p e : ℕ) → address_in_bits def p +ℤ pos e ≡ (start g b *ℤ pos (unit g b)) +ℤ pos (p + e)
  shifted p e = +ℤ_assoc (def.start *ℤ pos def.unit) (pos p) (pos e) ∙ ap (λ (z : ℤ). z +ℤ pos (p + e)) base

  pub distance_is : (p a index : ℕ) (s : Skipped) → distance_of def p a index ≡ Ok s → Distance g b p a s.bits
  distance_is p a index s e =
      either (eqb a 0)
      (λ z.
      let none : a ≡ 0 = eqb-true a 0 z in
      let same : s.bits ≡ 0 = ap (λ (x : Skipped). x.bits) (skips-same (sym e ∙ to_none def p a index t.told none)) in
      rw (none, same) says.to-zero)
      (λ z.
      let some : 0 < a = omega (arith, eqb-false a 0 z) in
      let aligns = told-aligns def p a index s some e in
      says.next some (aligns.times, sym (shifted p s.bits) ∙ aligns.multiple) (λ d m. aligns.least d m.0 (shifted p d ∙ m.1)))
