-- What is said of a file, by what is said of the layout in it: the sentences of `dk_form` and of `dk_form_paged` at once. It leaves one outcome where what is
-- said of the layout leaves one: the bytes leave one layout or one broken field.
use Rattle.std.specs.Prelude.{◌≡◌, List, ℕ}
use Rattle.std.proofs.Common.{ap, subst}
use Rattle.says.specs.Words as words
use Rattle.says.specs.Words.{Is}
use Rattle.meets.specs.Laws.Words.{OneOnly}
use Rattle.says.specs.Build.{Given, Lent, Outcome}
use Rattle.says.specs.Files.{Form, Held, Sound, Broken}
use Rattle.says.specs.Form.{OfForm, Layout, broken_at}
use Rattle.meets_form.specs.Laws.OneLayout.{layout-one, broken-one, not-both, form-one}
use Rattle.meets_form.specs.Laws.Written.{sound-one}

module _ (file : List ℕ) (fill : ℕ) (old : Lent) where
  pub data FileSays (Says : Given → Outcome → Type 0) (y : Outcome) : Type 0 where
    broken : {f : Form} {i : ℕ} → OfForm file f → Broken f file i → Is (broken_at file fill old i) y → FileSays Says y
    laid : {f : Form} {h : Held} {g : Given} → OfForm file f → Sound f file h → Layout f h fill g → Says g y → FileSays Says y

  pub file-decides : (Says : Given → Outcome → Type 0) → ((g : Given) → OneOnly (Says g)) → OneOnly (FileSays Says)
  file-decides Says one_only y z (broken {f} {i} o b words.is) (broken {f = f'} {i = i'} o' b' words.is) =
      let e : f' ≡ f = form-one o' o in
      ap (broken_at file fill old) (broken-one b (subst (λ (k : Form). Broken k file i') e b'))
  file-decides Says one_only y z (broken {f} o b x) (laid {f = f'} {h} o' s l t) = absurd (not-both b (subst (λ (k : Form). Sound k file h) (form-one o' o) s))
  file-decides Says one_only y z (laid {f} {h} o s l t) (broken {f = f'} o' b x) = absurd (not-both b (subst (λ (k : Form). Sound k file h) (form-one o o') s))
  file-decides Says one_only y z (laid {f} {h} {g} o s l t) (laid {f = f'} {h = h'} {g = g'} o' s' l' t') =
      let e : f' ≡ f = form-one o' o in
      let s'' = subst (λ (k : Form). Sound k file h') e s' in
      let l'' = subst (λ (k : Form). Layout k h' fill g') e l' in
      let same : h' ≡ h = sound-one s'' s in
      let one : g' ≡ g = layout-one (subst (λ (k : Held). Layout f k fill g') same l'') l in
      one_only g y z t (subst (λ (k : Given). Says k z) one t')
