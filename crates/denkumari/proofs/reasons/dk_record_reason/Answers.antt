-- `dk_record_reason` says its sentence: the reason, told in numbers, of the format as it is read.
use mathlib.Core.Path.{◌≡◌, ap, ◌∙◌}
use mathlib.Core.List.{List}
use Prim.Native.Nat.{ℕ}
use Rattle.record_scan.specs.Reading.{read_text}
use Rattle.record_reason.specs.Reasons.{why_of}
use Rattle.record_reason.specs.declared.Why.{Why}
use Rattle.c_answers.specs.Parts.{reason_told}
use Rattle.c_answers.specs.declared.DkReason.{DkReason}
use Rattle.c_model.specs.Reasons.{kind_of, ReasonTold}
use Rattle.meets_reason.specs.Theorems.Meets.{dk-reason-meets}
use Rattle.denkumari.proofs.reasons.dk_record_reason.Goals as goal

as_read : {r : DkReason} {w : Why} {load k format : ℕ} {text old new : List ℕ} → r ≡ reason_told w
    → (w ≡ why_of k load text (read_text k load text)) × (new ≡ old) → k ≡ kind_of format → ReasonTold format load text old r new
as_read {load = load} {text = text} told e h =
    record { answer = told ∙ ap reason_told (e.0 ∙ ap (λ (n : ℕ). why_of n load text (read_text n load text)) h); left = e.1 }

pub returns : goal.returns
returns c =
    dk-reason-meets _ _ _ _ _ _ (as_read c.tell_reason.ensures c.reason_of.ensures c.kind_of.ensures)
