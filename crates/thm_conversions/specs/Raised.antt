-- The profile's answer for a layout with one bank, and what it becomes with a bank 1 (document 02, Tickets 9 and 13). Definitions alone.
use Rattle.std.specs.Prelude.{ℕ, suc, ◌||◌, ◌∷◌, eqb, get_or, replicate, Err}
use Rattle.prelude.specs.Pick.{pick}
use Rattle.prelude.specs.declared.Refusal.{Refusal}
use Rattle.prelude.specs.declared.Refusal.TheVariants.{BankCount, BankNumber, BanksOverlap, Malformed}
use Rattle.prelude.specs.declared.Refusal.TheVariants.{PositionPast, LabelOffBoundary, Unresolved, DefaultBank, PastBank}
use Rattle.prelude.specs.declared.Refusal.TheVariants.{NoOutput, Overlap, StoreFull, TooShort, BadStore, BadPart, PartlyCovered, FillBitDropped, OffProfile}
use Rattle.prelude.specs.Verdict.{Verdict, Accepted}
use Rattle.output.specs.Output.{Input}
use Rattle.build_profile.specs.Pages.{no_pages}
use Rattle.build_profile.specs.declared.Paged.{Paged}
use Rattle.thm_conversions.specs.Widened.{raised}

-- 19: bank 0 keeps its unit, so rule 5 still names it; what rules 2, 3 and 4 ask of it bank 1 has now, and nodes, of rules 2 and 6, rise by one. "page size
-- (place 0)" stays.
abbrev pub place_raised : ℕ → ℕ → ℕ
place_raised rule at = pick (eqb rule 1 || eqb rule 5) at (suc at)

-- every other refusal as it is
abbrev pub rule_raised : Refusal → Refusal
rule_raised (OffProfile rule at) = OffProfile rule (place_raised rule at)
rule_raised BankCount = BankCount
rule_raised (BankNumber bank) = BankNumber bank
rule_raised (BanksOverlap first second) = BanksOverlap first second
rule_raised (Malformed node) = Malformed node
rule_raised (PositionPast node) = PositionPast node
rule_raised Unresolved = Unresolved
rule_raised (LabelOffBoundary node) = LabelOffBoundary node
rule_raised (DefaultBank node) = DefaultBank node
rule_raised (PastBank node) = PastBank node
rule_raised (NoOutput node) = NoOutput node
rule_raised (Overlap start size) = Overlap start size
rule_raised (StoreFull node) = StoreFull node
rule_raised (TooShort buffer) = TooShort buffer
rule_raised (BadStore entry) = BadStore entry
rule_raised BadPart = BadPart
rule_raised PartlyCovered = PartlyCovered
rule_raised FillBitDropped = FillBitDropped

abbrev pub rule_verdict : Verdict → Verdict
rule_verdict Accepted = Accepted
rule_verdict (Err why) = Err (rule_raised why)

-- the whole answer: 2 and 4 as the build's
abbrev pub raised_verdict : Input → Verdict → Verdict
raised_verdict b Accepted = Accepted
raised_verdict b (Err why) = Err (raised b (rule_raised why))

-- bank 1 has bank 0's pages, bank 0 none
abbrev pub raised_paged : Input → Paged → Paged
raised_paged b p = record { verdict = raised_verdict b p.verdict; pages = no_pages ∷ get_or p.pages 0 0 ∷ replicate 14 no_pages }
