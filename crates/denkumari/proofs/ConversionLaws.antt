-- A conversion is told as it is; and each way has one outcome, over its contract's own clause: the answer, and every byte of the lent buffer.
use Rattle.std.specs.Prelude.{Result}
use Rattle.prelude.specs.declared.Refusal.{Refusal}
use mathlib.Core.Path.{◌≡◌, ap, ◌∙◌}
use mathlib.Core.Bool.{Bool}
use mathlib.Core.List.{List}
use Prim.Native.Nat.{ℕ}
use Rattle.form_fields.specs.Contents.{Contents, written}
use Rattle.form_fields.specs.Whole.{contents_in}
use Rattle.form_fields.specs.declared.Kind.{Kind}
use Rattle.form_convert.specs.Convert.{out_after, Converts}
use Rattle.c_model.specs.Conversions.{WayTold}
use Rattle.c_answers.specs.Counts.{conversion_count}
use Rattle.c_answers.specs.declared.DkCount.{DkCount}

pub way-told : {from to : Kind} {turn : Contents → Contents} {drops : Contents → Bool} {file old new : List ℕ} {r : Result ℕ Refusal} {t : DkCount}
    → t ≡ conversion_count r → Converts from to turn drops file old r new → WayTold from to turn drops file old t new
way-told {from} {to} {turn} {drops} {file} {old} told c =
    record {
      answer = told ∙ ap conversion_count c.is;
      out = c.out ∙ ap (λ (a : Result ℕ Refusal). out_after a (written to (turn (contents_in from file))) old) c.is;
    }
