-- `write_refusal` meets its contract: each number of a place is one of 64 bits, so that the line fits.
use Prim.Native.Nat.{◌+◌, ◌≤◌}
use native.Mathlib.Omega.{arith}
use lib.ListN.{length}
use borrow.Fn.Kinds.{GoodsP}
use contract.Lifetimes.{Lfts}
use Rattle.prelude.specs.Refusals.{place_of}
use Rattle.prelude.specs.declared.Refusal.{Refusal}
use Rattle.prelude.specs.declared.Refusal.TheVariants.{BankCount, BankNumber, BanksOverlap, Malformed, PositionPast, LabelOffBoundary, Unresolved}
use Rattle.prelude.specs.declared.Refusal.TheVariants.{DefaultBank, PastBank, NoOutput, Overlap, StoreFull, TooShort as Short, BadStore, BadPart}
use Rattle.prelude.specs.declared.Refusal.TheVariants.{PartlyCovered, FillBitDropped, OffProfile}
use Rattle.print_text.specs.Laws.Ends.{put-writes, put-fits}
use Rattle.print_text.specs.Lengths.{AllWords}
use Rattle.print_text.specs.Lines.{place_numbers, refusal_text}
use Rattle.print_text.specs.Theorems.Lengths.{refusal-within}
use Rattle.print_text.proofs.write_refusal.Kinds as kinds
use Rattle.print_text.proofs.write_refusal.Goals as goal

words : (κs : Lfts 1) (out : _) (at : _) (why : Refusal) (rest : _) → GoodsP κs kinds.ps (out, (at, (why, rest))) → AllWords (place_numbers (place_of why))
words κs out at BankCount rest g = (omega arith, tt)
words κs out at Unresolved rest g = (omega arith, tt)
words κs out at BadPart rest g = (omega arith, tt)
words κs out at PartlyCovered rest g = (omega arith, tt)
words κs out at FillBitDropped rest g = (omega arith, tt)
words κs out at (BankNumber p) rest g = (omega (arith, g.1.1.0.1.1.1.1.0.1), tt)
words κs out at (Malformed p) rest g = (omega (arith, g.1.1.0.1.1.1.1.0.1), tt)
words κs out at (PositionPast p) rest g = (omega (arith, g.1.1.0.1.1.1.1.0.1), tt)
words κs out at (LabelOffBoundary p) rest g = (omega (arith, g.1.1.0.1.1.1.1.0.1), tt)
words κs out at (DefaultBank p) rest g = (omega (arith, g.1.1.0.1.1.1.1.0.1), tt)
words κs out at (PastBank p) rest g = (omega (arith, g.1.1.0.1.1.1.1.0.1), tt)
words κs out at (NoOutput p) rest g = (omega (arith, g.1.1.0.1.1.1.1.0.1), tt)
words κs out at (StoreFull p) rest g = (omega (arith, g.1.1.0.1.1.1.1.0.1), tt)
words κs out at (Short p) rest g = (omega (arith, g.1.1.0.1.1.1.1.0.1), tt)
words κs out at (BadStore p) rest g = (omega (arith, g.1.1.0.1.1.1.1.0.1), tt)
words κs out at (BanksOverlap p q) rest g = (omega (arith, g.1.1.0.1.1.1.1.0.1), (omega (arith, g.1.1.0.1.1.1.1.1.0.1), tt))
words κs out at (Overlap p q) rest g = (omega (arith, g.1.1.0.1.1.1.1.0.1), (omega (arith, g.1.1.0.1.1.1.1.1.0.1), tt))
words κs out at (OffProfile p q) rest g = (omega (arith, g.1.1.0.1.1.1.1.0.1), (omega (arith, g.1.1.0.1.1.1.1.1.0.1), tt))

pub returns-in-Some-clause-writes : goal.returns-in-Some-clause-writes
returns-in-Some-clause-writes c =
    let short : length (refusal_text c.args.why) ≤ 71 =
    refusal-within c.args.why (words c.lifetimes c.args.out c.args.at c.args.why tt c.well_formed) in
    let fits : c.args.at + length (refusal_text c.args.why) ≤ length c.args.out.now =
    omega (arith, short, c.requires) in
    let w = put-writes (fits) c.put_refusal.ensures c.in-Some.is in w

pub returns-in-Some-clause-upper_bound : goal.returns-in-Some-clause-upper_bound
returns-in-Some-clause-upper_bound c =
    let short : length (refusal_text c.args.why) ≤ 71 =
    refusal-within c.args.why (words c.lifetimes c.args.out c.args.at c.args.why tt c.well_formed) in
    let fits : c.args.at + length (refusal_text c.args.why) ≤ length c.args.out.now =
    omega (arith, short, c.requires) in
    let w = put-writes (fits) c.put_refusal.ensures c.in-Some.is in omega (arith, w.place, short)

pub returns-in-None-clause-writes : goal.returns-in-None-clause-writes
returns-in-None-clause-writes c =
    let short : length (refusal_text c.args.why) ≤ 71 =
    refusal-within c.args.why (words c.lifetimes c.args.out c.args.at c.args.why tt c.well_formed) in
    let fits : c.args.at + length (refusal_text c.args.why) ≤ length c.args.out.now =
    omega (arith, short, c.requires) in
    absurd (put-fits (fits) c.put_refusal.ensures c.in-None.is)
