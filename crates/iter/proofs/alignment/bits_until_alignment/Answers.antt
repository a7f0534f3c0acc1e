-- The distance: each return is what the definition picks by the same test.
use Rattle.std.specs.Prelude.{Ok}
use mathlib.Core.Path.{◌≡◌, ◌∙◌, sym, ap}
use mathlib.Core.Bool.{true, false}
use borrow.Author.Rules.{rules}
use Prim.Native.Nat.{ℕ}
use Rattle.iter.specs.Distance.{tellable, skips_of}
use Rattle.iter.specs.Theorems.Aligned.{four-when, told-when}
use Rattle.iter.specs.Theorems.ToldFacts.{distance-answers}
use Rattle.iter.specs.declared.Skipped.{Skipped}
use Rattle.iter.proofs.alignment.bits_until_alignment.Goals as goal

pub returns-then-not-is_tellable-clause-value : goal.returns-then-not-is_tellable-clause-value
returns-then-not-is_tellable-clause-value c =
    let untold : tellable c.args.def ≡ false = search rules in
    sym (four-when _ _ _ _ untold)

pub returns-then-not-is_tellable-clause-told : goal.returns-then-not-is_tellable-clause-told
returns-then-not-is_tellable-clause-told c = (distance-answers _ _ _ _ (returns-then-not-is_tellable-clause-value c)).1

pub returns-clause-value : goal.returns-clause-value
returns-clause-value c =
    let tells : tellable c.args.def ≡ true = search rules in
    ap (λ (s : Skipped). Ok s) (c.in_units.ensures ∙ ap (λ (d : ℕ). skips_of c.args.def d) c.distance_in_bits.ensures)
    ∙ sym (told-when _ _ _ _ tells)

pub returns-clause-told : goal.returns-clause-told
returns-clause-told c = (distance-answers _ _ _ _ (returns-clause-value c)).1
