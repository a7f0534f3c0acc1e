-- `compare` meets its contract: 4 of either list, 16 of either list, or as the runs are written.
use mathlib.Core.Path.{sym, ◌∙◌}
use lib.ListN.{length}
use Rattle.verify.specs.Laws.Whole.{sound-from}
use Rattle.verify.proofs.compare.Goals as goal

pub invariant_of-asked : goal.invariant_of-asked
invariant_of-asked c =
    let a = c.args in
    record {
      sound = sound-from (length a.image.now) a.offsets.now a.sizes.now (sym c.in_order.ensures ∙ c.if-not-in_order.false)
          (sym c.all_whole.ensures ∙ c.if-not-all_whole.false);
    }

pub invariant_of-given : goal.invariant_of-given
invariant_of-given c =
    let a = c.args in
    record {
      sound = sound-from (length a.bytes.now) a.given_offsets.now a.given_sizes.now (sym c.in_order-2.ensures ∙ c.if-not-in_order-2.false)
          (sym c.all_whole-2.ensures ∙ c.if-not-all_whole-2.false);
    }
