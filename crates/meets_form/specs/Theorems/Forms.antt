-- What holds of every layout file: form 2 closes bank 0 and form 1 does not, a reader of form 1 refuses form 2 at its first field, and a broken file runs no
-- pass and changes nothing. From the sentences alone.
use Rattle.std.specs.Prelude.{◌≡◌, refl, List, ℕ, ◌≤◌, ◌<◌, length, get_or}
use Rattle.std.proofs.Common.{sym, ap, subst, inr, ⊎_elim, arith}
use Rattle.prelude.specs.declared.Refusal.TheVariants.{Malformed}
use Rattle.form_fields.specs.Theorems.Faults.{old-reader-refuses}
use Rattle.says.specs.Words as words
use Rattle.says.specs.Build as build
use Rattle.says.specs.Build.{Given, Lent, Outcome, banks, Placed, In, Why, BuildSays}
use Rattle.meets_sentences.specs.Laws.Why.{nine-of}
use Rattle.meets_sentences.specs.Theorems.Outcomes.{accepted-says}
use Rattle.says.specs.Files.{Form, form-1, form-2, Held, Sound, Broken}
use Rattle.says.specs.Form as form
use Rattle.says.specs.Form.{Layout, OfForm, broken_at, FormSays}
use Rattle.meets_form.specs.Laws.Breaks.{form-broken}
use Rattle.meets_form.specs.Laws.OneLayout.{layout-one}
use Rattle.meets_form.specs.Laws.Written.{sound-one}
use Rattle.meets_form.specs.Theorems.FormDecides.{form-decides}

-- "labels, written items and reserves in bank 0 are refused even when it is alone": no node of an accepted form 2 file is placed there.
pub form-2-closes-bank-0 : {file : List ℕ} {fill : ℕ} {old : Lent} {o : Outcome} → FormSays file fill old o → get_or file 0 0 ≡ 16
    → o.answer.refusal ≡ 0 → (h : Held) (g : Given) → Sound form-2 file h → Layout form-2 h fill g → (i : ℕ) → Placed g i → In g i 0 → ⊥
form-2-closes-bank-0 {file} {fill} {old} (form.broken of b words.is) first e h g s l i p q = omega (arith, e)
form-2-closes-bank-0 {file} {fill} {old} {o} (form.laid {h = h'} {g = g'} (form.of-1 not) s' l' b) first e h g s l i p q = not first
form-2-closes-bank-0 {file} {fill} {old} {o} (form.laid {h = h'} {g = g'} (form.of-2 x) s' l' b) first e h g s l i p q =
    let same : g' ≡ g = layout-one (subst (λ (k : Held). Layout form-2 k fill g') (sound-one s' s) l') l in
    let a = accepted-says g old o (subst (λ (k : Given). BuildSays k old o) same b) e in
    a.none-refused i (9, i, 0, build.bank-0 p q (inr (omega (arith, l.closed))))

-- "Form 1 files that use it are still read and compared as before": with one bank, no node of a form 1 file is refused for its bank.
pub form-1-opens-bank-0 : {h : Held} {fill : ℕ} {g : Given} → Layout form-1 h fill g → length h.banks ≡ 1 → (r i : ℕ) → Why g r i 9 i 0 → ⊥
form-1-opens-bank-0 {h} {fill} {g} l one r i why =
    ⊎_elim (λ (more : 1 < banks g). omega (arith, l.units.0)) (λ (closed : 1 ≤ g.closed). omega (arith, l.closed)) (nine-of g why refl).2

-- "An old reader refuses form 2 with 4": at field 0, whatever follows.
pub old-reader : (file : List ℕ) → get_or file 0 0 ≡ 16 → Broken form-1 file 0
old-reader file first =
    let b = form-broken form-1 file (Malformed 0) (old-reader-refuses file first) in
    subst (Broken form-1 file) (sym (same b.refusal)) b.says
  where
    same : {a b : ℕ} → Malformed a ≡ Malformed b → a ≡ b
    same e = cc

-- "A broken file .. is 4 with the first such field's index": that answer, no pass, and nothing lent is changed.
pub broken-file : {file : List ℕ} {fill : ℕ} {old : Lent} {o : Outcome} → FormSays file fill old o → (f : Form) (i : ℕ) → OfForm file f → Broken f file i
    → o ≡ broken_at file fill old i
broken-file {file} {fill} {old} {o} says f i of b = form-decides file fill old o (broken_at file fill old i) says (form.broken of b words.is)
