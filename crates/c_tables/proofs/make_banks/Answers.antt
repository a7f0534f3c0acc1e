-- `make_banks` meets its contract: the lists agree on a count, and as many banks, 16 at most, are held.
use Prim.Native.Nat.{ℕ, ◌-◌, min}
use mathlib.Core.Path.{◌≡◌, ap, ◌∙◌}
use mathlib.Core.List.{◌++◌}
use lib.ListN.{length, replicate}
use Rattle.bankdef.specs.Check.{no_bank}
use Rattle.c_tables.specs.Tables.{Given, given, agree, count_of, banks_in}
use Rattle.c_tables.proofs.make_banks.Goals as goal

pub returns : goal.returns
unfolding count_of
returns c =
    let lent : Given =
    let a = c.args in
    given a.units.now a.starts.now a.sizes.now a.offsets.now a.aligns.now a.flags.now a.bits.now in
    let agreed-on : c.agreed-count.result ≡ count_of (lent) =
    let n = length (lent).units in
    c.agreed-count.ensures
    ∙ ap (agree (length (lent).bits) n) (c.agreed-with_flags.ensures
    ∙ ap (agree (length (lent).flags) n) (c.agreed-with_aligns.ensures
    ∙ ap (agree (length (lent).aligns) n) (c.agreed-with_offsets.ensures
    ∙ ap (agree (length (lent).offsets) n) (c.agreed-with_sizes.ensures
    ∙ ap (agree (length (lent).sizes) n) c.agreed-with_starts.ensures)))) in
    let held : c.min-held.result ≡ min (count_of (lent)) 16 =
    c.min-held.ensures ∙ ap (λ (k : ℕ). min k 16) (agreed-on) in
    let defs = c.make_table.ensures ∙ ap (λ (k : ℕ). banks_in (lent) k ++ replicate (16 - k) no_bank) (held) in
    λ i. record { defs = defs i; len = agreed-on i }
