-- What a conversion says leaves one outcome: the answer and every byte of the lent buffer.
use Rattle.std.specs.Prelude.{◌≡◌, refl, List, ◌⊎◌, ℕ, ◌<◌, length}
use Rattle.std.proofs.Common.{sym, ap, subst, ◌∙◌}
use Rattle.meets.specs.Laws.Words.{OneOnly, tries-one, first_one, begins-one}
use Rattle.says.specs.Words.{Tries, First, Begins}
use Rattle.says.specs.Files.{Form, form-1, form-2, Held, longest, bytes, Sound}
use Rattle.meets_form.specs.Laws.OneLayout.{broken-one, not-both}
use Rattle.meets_form.specs.Laws.Written.{held, contents, sound-fits, sound-one}
use Rattle.says.specs.Convert as says
use Rattle.says.specs.Convert.{Becomes, NamesOther, Outcome, refusal, Writes, Tried, ConvertSays}
use Rattle.meets_convert.specs.Laws.Answers.{Drops}
use Rattle.meets_convert.specs.Laws.Turns.{other, to-other, so-becomes}

module _ (f : Form) (file old : List ℕ) where
  writes_one : (result : List ℕ) → OneOnly (Writes f file old result)
  writes_one result y z (says.writes {out = a} p) (says.writes {out = b} q) =
      ap (λ (o : List ℕ). record { answer = record { refusal = 0; place = 0; count = length result }; out = o }) (begins-one result old a b p q)

  tried-one : (to : Form) (h d : Held) → OneOnly (Tried f file old to h d)
  tried-one to h d =
      tries-one (λ (_ : Unit {0}). (4096 < length h.nodes) ⊎ (4096 < length d.nodes)) (λ _. refusal f file old 4 0) _ (λ a b s t. refl)
      (tries-one (λ (_ : Unit {0}). 16 < length h.rows) (λ _. refusal f file old 4 1) _ (λ a b s t. refl)
      (tries-one (First (NamesOther h)) (λ i. refusal f file old 4 i) _
      (λ i j s t. ap (λ (n : ℕ). refusal f file old 4 n) (first_one (NamesOther h) i j s t))
      (tries-one (λ (_ : Unit {0}). longest to < length (bytes to d)) (λ _. refusal f file old 4 0) _ (λ a b s t. refl)
      (tries-one (λ (_ : Unit {0}). Drops h f) (λ _. refusal f file old 18 0) _ (λ a b s t. refl)
      (tries-one (λ (_ : Unit {0}). length old < length (bytes to d)) (λ _. refusal f file old 14 0) _ (λ a b s t. refl)
      (writes_one (bytes to d)))))))

  pub convert-decides : OneOnly (ConvertSays f file old)
  convert-decides y z (says.broken b) (says.broken b') = ap (refusal f file old 4) (broken-one b b')
  convert-decides y z (says.broken b) (says.sound s t u) = absurd (not-both b s)
  convert-decides y z (says.sound s t u) (says.broken b) = absurd (not-both b s)
  convert-decides y z (says.sound {to} {h} {d} s t u) (says.sound {to = to'} {h = h'} {d = d'} s' t' u') =
      let same : h' ≡ h = sound-one s' s in
      let there : to ≡ other f = to-other t in
      let there' : to' ≡ other f = to-other t' in
      let t'' = subst (λ (k : Held). Becomes k f (other f) d') same (subst (λ (g : Form). Becomes h' f g d') there' t') in
      let u'' = subst (λ (k : Held). Tried f file old (other f) k d' z) same (subst (λ (g : Form). Tried f file old g h' d' z) there' u') in
      let fits = sound-fits s in
      let one : d' ≡ d = so-becomes f h d' fits t'' ∙ sym (so-becomes f h d fits (subst (λ (g : Form). Becomes h f g d) there t)) in
      tried-one (other f) h d y z (subst (λ (g : Form). Tried f file old g h d y) there u) (subst (λ (k : Held). Tried f file old (other f) h k z) one u'')

pub to-form2-decides : (file old : List ℕ) → OneOnly (ConvertSays form-1 file old)
to-form2-decides file old = convert-decides form-1 file old

pub to-form1-decides : (file old : List ℕ) → OneOnly (ConvertSays form-2 file old)
to-form1-decides file old = convert-decides form-2 file old
