-- Ticket 13, "The default bank goes": a layout with one bank, and the same layout with a bank 1 in its place. Definitions alone.
use Rattle.std.specs.Prelude.{ℕ, zero, suc, ◌*◌, ◌≤◌, ◌≡◌, Bool, true, false, not, ◌&&◌, ◌||◌, List, [], ◌∷◌, ◌++◌, eqb, get_or, length, take, drop, replicate, None, Err, Ok, Result}
use Rattle.prelude.specs.Limits.{max_banks, max_nodes}
use Rattle.prelude.specs.Pick.{pick}
use Rattle.prelude.specs.declared.Refusal.{Refusal}
use Rattle.prelude.specs.declared.Refusal.TheVariants.{BankCount, BankNumber, BanksOverlap, Malformed}
use Rattle.prelude.specs.declared.Refusal.TheVariants.{PositionPast, LabelOffBoundary, Unresolved, DefaultBank, PastBank}
use Rattle.prelude.specs.declared.Refusal.TheVariants.{NoOutput, Overlap, StoreFull, TooShort, BadStore, BadPart, PartlyCovered, FillBitDropped, OffProfile}
use Rattle.bankdef.specs.Check.{no_bank}
use Rattle.bankdef.specs.Numbers.{start_sound, fill_bit, bank_fault}
use Rattle.bankdef.specs.declared.Bankdef.{Bankdef}
use Rattle.bankdef.specs.declared.Bankdefs.{Bankdefs}
use Rattle.iter.specs.Step.{no_lost}
use Rattle.nodes.specs.Lists.{Lists, row_count_sound, known_fill}
use Rattle.resolver.specs.Once.{bank_record}
use Rattle.resolver.specs.declared.Choices.{Choices}
use Rattle.output.specs.Output.{Input}
use Rattle.output.specs.declared.Output.{Output}
use Rattle.output.specs.declared.Built.{Built}

-- ---- the layout with a bank 1

-- the one bank of such a layout
abbrev pub only_bank : Input → Bankdef
only_bank b = bank_record b.banks 0

-- "leaves bank 0 only its unit and start (the rest zero)"
abbrev pub bare : Bankdef → Bankdef
bare d = record { unit = d.unit; start = d.start; size = None; offset = None; align = None; fill = false; fill_bit = 0 }

-- "a bank 1 with bank 0's record"
abbrev pub two_banks : Bankdef → Bankdefs
two_banks d = record { defs = bare d ∷ d ∷ replicate 14 no_bank; len = 2 }

-- "turns every other switch to bank 0 into one to bank 1": every switch, since all go to bank 0 where there is no other
abbrev pub turned : List ℕ → List ℕ → List ℕ
turned [] operands = operands
turned (k ∷ kinds) [] = []
turned (k ∷ kinds) (o ∷ operands) = pick (eqb k 1) 1 o ∷ turned kinds operands

-- "zeros in each row", for the switch ahead of the first node: of so many rows of n numbers, or states, each
abbrev pub zeros_ahead : ℕ → ℕ → List ℕ → List ℕ
zeros_ahead n zero cells = []
zeros_ahead n (suc rows) cells = 0 ∷ (take n cells ++ zeros_ahead n rows (drop n cells))

-- "puts a switch to bank 1 ahead of the first node"
abbrev pub with_switch : Lists → Lists
with_switch l =
    record {
      kinds = 1 ∷ l.kinds;
      operands = 1 ∷ turned l.kinds l.operands;
      numbers = zeros_ahead (length l.kinds) l.rows l.numbers;
      states = zeros_ahead (length l.kinds) l.rows l.states;
      rows = l.rows;
      values = l.values;
    }

-- the same limit and fill; bank 0 is closed: "From form 2 on, labels, written items and reserves in bank 0 are refused even when it is alone."
abbrev pub closing : Choices → Choices
closing choices = record { limit = choices.limit; fill = choices.fill; closed = true }

-- the layout with a bank 1, over a table that has these two banks
abbrev pub widened : Input → Bankdefs → Input
widened b table = record { banks = table; lists = with_switch b.lists; choices = closing b.choices }

abbrev pub with_bank1 : Input → Input
with_bank1 b = widened b (two_banks (only_bank b))

-- Of which layouts this is said: one bank, whose fill bit is zero, as in form 1; bank 0 is not closed; no switch to another bank; room for one
-- more node; and lists as long as their counts say, as a file's are.
pub record OneBank (b : Input) : Type 0 where
  pub count : b.banks.len ≡ 1
  pub table : length b.banks.defs ≡ max_banks
  pub bit : fill_bit (only_bank b) ≡ 0
  pub unclosed : b.choices.closed ≡ false
  pub switches : (i : ℕ) → get_or b.lists.kinds i 0 ≡ 1 → get_or b.lists.operands i 0 ≡ 0
  pub room : suc (length b.lists.kinds) ≤ max_nodes
  pub operands : length b.lists.operands ≡ length b.lists.kinds
  pub numbers : length b.lists.numbers ≡ b.lists.rows * length b.lists.kinds
  pub states : length b.lists.states ≡ b.lists.rows * length b.lists.kinds

-- ---- its answer

-- "node numbers in places rise by one": those of 4, 5, 7, 9, 10, 11 and 13. The places of the others are no nodes, but
-- for those of 19, which the ordinary build does not give: `default_profile` has it.
abbrev pub shifted : Refusal → Refusal
shifted (Malformed node) = Malformed (suc node)
shifted (PositionPast node) = PositionPast (suc node)
shifted (LabelOffBoundary node) = LabelOffBoundary (suc node)
shifted (DefaultBank node) = DefaultBank (suc node)
shifted (PastBank node) = PastBank (suc node)
shifted (NoOutput node) = NoOutput (suc node)
shifted (StoreFull node) = StoreFull (suc node)
shifted BankCount = BankCount
shifted (BankNumber bank) = BankNumber bank
shifted (BanksOverlap first second) = BanksOverlap first second
shifted Unresolved = Unresolved
shifted (Overlap start size) = Overlap start size
shifted (TooShort buffer) = TooShort buffer
shifted (BadStore entry) = BadStore entry
shifted BadPart = BadPart
shifted PartlyCovered = PartlyCovered
shifted FillBitDropped = FillBitDropped
shifted (OffProfile rule at) = OffProfile rule at

-- a unit or a start beyond its limit, which bank 0 keeps
abbrev pub misplaced : Bankdef → Bool
misplaced d = eqb d.unit 0 || not (start_sound d.start)

-- the row count and the choice of the fill: fields 1 and 3 of 4
abbrev pub counts_sound : Input → Bool
counts_sound b = row_count_sound b.lists && known_fill b.choices.fill

-- What becomes of a refusal. 2 names bank 1 for a filled bank of size 0, and bank 0 for a bad unit or start; a field of 4 stays; every node rises by one.
abbrev pub raised : Input → Refusal → Refusal
raised b why =
    pick (bank_fault (only_bank b)) (BankNumber (pick (misplaced (only_bank b)) 0 1))
    (pick (counts_sound b) (shifted why) why)

abbrev pub raised_build : Input → Result Built Refusal → Result Built Refusal
raised_build b (Ok ended) = Ok ended
raised_build b (Err why) = Err (raised b why)

-- "The converted file gives the same image and blocks": the same K, length, spans and passes run. Bank 1 has bank 0's padding, every other bank none.
abbrev pub raised_output : Input → Output → Output
raised_output b o =
    record { build = raised_build b o.build; passes = o.passes; padding = no_lost ∷ get_or o.padding 0 no_lost ∷ replicate 14 no_lost }
