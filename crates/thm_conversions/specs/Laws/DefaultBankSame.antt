-- Laws that Theorems/Same rests on.
use Rattle.std.specs.Prelude.{ℕ, max, ◌≡◌, refl, [], ◌∷◌, eqb, Err}
use Rattle.std.proofs.Common.{ap, ◌∙◌, arith}
use Rattle.prelude.specs.Pick.{pick}
use Rattle.prelude.specs.declared.Refusal.{Refusal}
use Rattle.prelude.specs.Verdict.{Verdict, Accepted}
use Rattle.bankdef.specs.Check.{check_of}
use Rattle.bankdef.specs.Fill.{fill_from, full_length, fill_by}
use Rattle.bankdef.specs.declared.Bankdef.{Bankdef}
use Rattle.bankdef.specs.declared.Bankdefs.{Bankdefs}
use Rattle.resolver.specs.Layout.{unless, layout_of}
use Rattle.nodes.specs.Lists.{Lists, lists_of}
use Rattle.resolver.specs.Passes.{program, row_of_pass, resolution_of}
use Rattle.resolver.specs.declared.Choices.{Choices}
use Rattle.resolver.specs.declared.Resolution.{Resolution}
use Rattle.output.specs.Output.{Input, Room, output_of, settled_build}
use Rattle.output.specs.Output.{build_of}
use Rattle.output.specs.declared.Output.{Output}
use Rattle.thm_conversions.specs.Widened.{bare, two_banks}
use Rattle.thm_conversions.specs.DefaultBankSame.{TwoBanks}

pub two-banks : (d : Bankdef) → TwoBanks d (two_banks d)
two-banks d = record { count = refl; banks = refl }

-- the build of a layout's passes
abbrev pub built_by : Input → Room → Resolution → Output
built_by b room r =
    output_of (program b.banks b.lists) (row_of_pass b.lists r.passes) r.passes (settled_build b room r.passes r.settled)

pub build-is : (b : Input) (room : Room) → build_of b room ≡ built_by b room (layout_of b.banks b.lists b.choices)
unfolding build_of
build-is b room = refl

-- refused before any pass
abbrev pub turned_away : Refusal → Resolution
turned_away why = record { settled = Err why; passes = 0 }

pub refused-first : (banks : Bankdefs) (l : Lists) (choices : Choices) (why : Refusal) → check_of banks ≡ Err why → layout_of banks l choices ≡ turned_away why
unfolding layout_of
refused-first banks l choices why e =
    ap (λ (v : Verdict). unless v (unless (lists_of banks.len l choices.fill) (resolution_of banks l choices.limit))) e

pub after_table : (banks : Bankdefs) (l : Lists) (choices : Choices) (v : Verdict) → check_of banks ≡ Accepted → lists_of banks.len l choices.fill ≡ v
    → layout_of banks l choices ≡ unless v (resolution_of banks l choices.limit)
unfolding layout_of
after_table banks l choices v e f =
    ap (λ (x : Verdict). unless x (unless (lists_of banks.len l choices.fill) (resolution_of banks l choices.limit))) e
    ∙ ap (λ (x : Verdict). unless x (resolution_of banks l choices.limit)) f

-- the fill's length: bank 0 is not filled any more, bank 1 is as bank 0 was
pub fill-alike : (d : Bankdef) (choice : ℕ) → fill_by choice (bare d ∷ d ∷ []) ≡ fill_by choice (d ∷ [])
unfolding fill_from full_length
fill-alike d choice = ap (λ (n : ℕ). pick (eqb choice 1) n (fill_from 0 (d ∷ []))) (least (full_length (d ∷ [])))
  where
    least : (n : ℕ) → max 0 n ≡ n
    least n = omega arith
