-- The address: a start within its limit and whole units below 2^32 stay within 64 bits.
use borrow.Author.Rules.{rules}
use mathlib.Core.Path.{◌≡◌, sym}
use mathlib.Core.Bool.{true, false}
use Rattle.iter.specs.Distance.{tellable}
use Rattle.iter.specs.Theorems.ToldFacts.{address-four, address-answers}
use Rattle.iter.proofs.Signed.{address-read}
use Rattle.iter.proofs.places.get_address.Goals as goal

pub returns-then-is_tellable-clause-value : goal.returns-then-is_tellable-clause-value
returns-then-is_tellable-clause-value c =
    let tells : tellable c.args.def ≡ true = search rules in
    address-read c.args.def c.args.position c.args.node _ tells (search rules) (search rules)
    (rw c.from.ensures at c.from-then-is_tellable.ensures)

pub returns-then-is_tellable-clause-told : goal.returns-then-is_tellable-clause-told
returns-then-is_tellable-clause-told c = (address-answers _ _ _ (returns-then-is_tellable-clause-value c)).1

pub returns-else-is_tellable-clause-value : goal.returns-else-is_tellable-clause-value
returns-else-is_tellable-clause-value c =
    let untold : tellable c.args.def ≡ false = search rules in
    sym (address-four _ _ _ untold)

pub returns-else-is_tellable-clause-told : goal.returns-else-is_tellable-clause-told
returns-else-is_tellable-clause-told c = (address-answers _ _ _ (returns-else-is_tellable-clause-value c)).1
