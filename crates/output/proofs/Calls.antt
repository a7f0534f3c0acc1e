-- Theorems about what Calls defines.
use Rattle.std.specs.Prelude.{◌≡◌, List, ℕ, length}
use Rattle.std.proofs.Common.{sym, ap, ◌∙◌}
use Rattle.bankdef.specs.Check.{banks_of}
use Rattle.build_write.specs.Blank.{blank_of}
use Rattle.output.specs.Output.{room_of}
use Rattle.output.specs.Output.{fill_of, settled_of, filled, left_by}
use Rattle.output.specs.Calls.{Accepted, Fine, closed_in, values_in, visits_in}
use Rattle.output.proofs.CallsLaws.{build-is, settled-fine}

module _ (a : Accepted) where
  pub fine : Fine (closed_in a.call) (visits_in a.call) (fill_of a.call.given) (room_of a.call.old) a.bits a.spans
  fine =
      settled-fine a.call.given (room_of a.call.old) a.call.answer.passes (settled_of a.call.given) a.k a.bits a.spans
      (sym (build-is a.call) ∙ a.done)

  -- the image before any item is written
  abbrev pub blank_in : List ℕ
  blank_in = blank_of (banks_of a.call.given.banks) a.bits (length a.call.old.image)

  pub left_is : a.call.new ≡ filled blank_in (visits_in a.call) (values_in a.call) a.call.old
  left_is = a.call.meets.left ∙ ap (left_by a.call.given.banks (visits_in a.call) (values_in a.call) a.call.old) a.done
