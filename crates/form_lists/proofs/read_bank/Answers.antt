-- `form_lists::read_bank` meets its contract: each number from its own place.
use mathlib.Core.Path.{ap, ◌∙◌}
use Prim.Native.Nat.{◌+◌}
use Rattle.form_fields.specs.Words.{byte}
use mir.Syntax.{w64}
use mir.Val.{to_z}
use mir.ValLaws.{to_z-of_z}
use Rattle.form_fields.specs.Banks.{opt_of, bank_at}
use Rattle.form_lists.proofs.read_bank.Goals as goal

pub returns : goal.returns
unfolding bank_at
returns c =
    let flags = byte c.args.file.now (c.args.at + 25) in
    let start = to_z-of_z w64 c.cast_signed.result (record { sfits = c.cast_signed.type_inv }) ∙ c.cast_signed.ensures ∙ ap (to_z w64) c.read64.ensures in
    let size = c.option.ensures ∙ ap (opt_of flags 1) c.read32.ensures in
    let offset = c.option-2.ensures ∙ ap (opt_of flags 2) c.read32-2.ensures in
    let align = c.option-3.ensures ∙ ap (opt_of flags 4) c.read32-3.ensures in
    λ i. record {
      unit = c.read16.ensures i;
      start = start i;
      size = size i;
      offset = offset i;
      align = align i;
      fill = c.is_set.ensures i;
      fill_bit = c.fill_bit.ensures i;
    }
