-- Uniqueness: the contract of each public function has one outcome, over its own clause: the answer, and all that is lent afterwards.
use Rattle.std.specs.Prelude.{Result}
use Prim.Native.Nat.{ℕ}
use mathlib.Core.List.{List}
use mathlib.Core.Path.{◌≡◌, sym, ap, ◌∙◌}
use Rattle.prelude.specs.Laws.Outcome.{OneView}
use Rattle.prelude.specs.Laws.Pick.{determined, paired}
use Rattle.prelude.specs.declared.Refusal.{Refusal}
use Rattle.form_fields.specs.Kind.{form1, form2}
use Rattle.form_fields.specs.Contents.{written}
use Rattle.form_fields.specs.Whole.{contents_in}
use Rattle.form_convert.specs.Convert.{out_after}
use Rattle.form_rewrite.specs.Turning.{to_form1, to_form2}
use Rattle.form_convert.proofs.to_form1.Kinds as to-form1-kinds
use Rattle.form_convert.proofs.to_form1.Reads as to-form1-reads
use Rattle.form_convert.proofs.to_form2.Kinds as to-form2-kinds
use Rattle.form_convert.proofs.to_form2.Reads as to-form2-reads

after : (new old : List ℕ) {v w : Result ℕ Refusal} {a b : List ℕ} → v ≡ w → a ≡ out_after v new old → b ≡ out_after w new old → a ≡ b
after new old e p q = p ∙ ap (λ (u : Result ℕ Refusal). out_after u new old) e ∙ sym q

-- the answer, and the buffer afterwards
pub to-form2-unique : OneView 2 to-form2-kinds.ps to-form2-kinds.r to-form2-reads.Learnt ((Result ℕ Refusal) × List ℕ) (λ κs x e. (x, e.1.0.now))
to-form2-unique κs a x y e f p q =
    let v = determined p.0.is q.0.is in
    paired v (after (written form2 (to_form2 (contents_in form1 a.0.now))) a.1.0.now v p.0.out q.0.out)

pub to-form1-unique : OneView 2 to-form1-kinds.ps to-form1-kinds.r to-form1-reads.Learnt ((Result ℕ Refusal) × List ℕ) (λ κs x e. (x, e.1.0.now))
to-form1-unique κs a x y e f p q =
    let v = determined p.0.is q.0.is in
    paired v (after (written form1 (to_form1 (contents_in form2 a.0.now))) a.1.0.now v p.0.out q.0.out)
