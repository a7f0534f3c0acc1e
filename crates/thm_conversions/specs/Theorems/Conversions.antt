-- Theorems about what Conversions defines.
use Rattle.std.specs.Prelude.{Bool, List, ◌≡◌, refl, ℕ, max, length, take, drop, Ok, Result, Err}
use Rattle.std.proofs.Common.{sym, ap, ◌∙◌, take_at}
use Rattle.prelude.specs.declared.Refusal.{Refusal}
use Rattle.form_fields.specs.declared.Kind.{Kind}
use Rattle.form_fields.specs.Kind.{Known}
use Rattle.form_fields.specs.Contents.{Contents, written}
use Rattle.form_fields.specs.Shape.{form_in}
use Rattle.form_fields.specs.Laws.Rest.{sound-file}
use Rattle.form_fields.specs.Whole.{contents_in, Bytes}
use Rattle.form_fields.proofs.WholeLaws.{contents-fit, file-is-written}
use Rattle.form_fields.specs.declared.Shape.{Shape}
use Rattle.form_convert.specs.Convert.{stray, answer_for, answer_by, Converts}
use Rattle.thm_conversions.specs.Conversions.{Turned}
use Rattle.thm_conversions.specs.Laws.Conversions.{allowed, never}

pub turned-file : {from to : Kind} → Known from → (turn : Contents → Contents) (drops : Contents → Bool) (file old : List ℕ) (n : ℕ) (new : List ℕ)
    → Bytes file → Converts from to turn drops file old (Ok n) new → Turned from to turn drops file old n new
turned-file {from} {to} known turn drops file old n new bytes p = go (form_in from file) refl
  where
    go : (f : Result Shape Refusal) → form_in from file ≡ f → Turned from to turn drops file old n new
    go (Err why) e =
        let c = contents_in from file in
        absurd (never why n (sym (p.is ∙ ap (λ (f : Result Shape Refusal). answer_by to f c (turn c) (drops c) (length old)) e)))
    go (Ok s) e =
        let c = contents_in from file in
        let said : answer_for to c (turn c) (drops c) (length old) ≡ Ok n =
        sym (p.is ∙ ap (λ (f : Result Shape Refusal). answer_by to f c (turn c) (drops c) (length old)) e) in
        let ok = allowed (max (length c.nodes) (length (turn c).nodes)) (length c.rows) (stray c) (length c.nodes) (length (written to (turn c)))
        to.longest (drops c) (length old) n said in
        let is = file-is-written file bytes known s e in
        record {
          shape = s;
          sound = e;
          fits = contents-fit file bytes known s e;
          is = is;
          short = rw is (sound-file from file s e).short;
          made = ap (take n) p.out ∙ take_at (written to (turn c)) (drop (length (written to (turn c))) old) n ok.size_is;
          answer = ok;
        }
