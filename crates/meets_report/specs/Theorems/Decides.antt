-- The sentences of what `layout` prints leave one text: one outcome for what is lent (`form-decides`, `form-paged-decides`), and one text of an outcome.
use Rattle.std.specs.Prelude.{◌≡◌, refl, List, ◌∷◌, [], ◌++◌, ℕ, pos, length, replicate, Option, None, Some}
use Rattle.std.proofs.Common.{ap₂, subst, arith}
use Rattle.std.proofs.lemmas.List.{length-replicate}
use Rattle.print_text.specs.Ascii.{ascii}
use Rattle.says.specs.Blocks.{Block as Run}
use Rattle.says.specs.Build.{Lent, Outcome}
use Rattle.says.specs.Report as report
use Rattle.says.specs.Report.{BlockLines, Reports, Lends, LayoutSays, ReportSays}
use Rattle.meets.specs.Laws.Words.{OneOnly}
use Rattle.meets_form.specs.Theorems.FormDecides.{form-decides}
use Rattle.meets_form_paged.specs.Theorems.Decides.{form-paged-decides}
use Rattle.meets_report.specs.Laws.Lines.{line-one, blocks-one, image-one}
use Rattle.meets_report.specs.Laws.Shown.{refusal-one, blocks-of-one}

pub layout-decides : (file : List ℕ) (fill : ℕ) (page : Option ℕ) (old : Lent) → OneOnly (LayoutSays file fill page old)
layout-decides file fill None old = form-decides file fill old
layout-decides file fill (Some page) old = form-paged-decides file fill page old

pub reports-one : (y : Outcome) → OneOnly (Reports y)
reports-one y t u (report.refused r) (report.refused s) = refusal-one y.answer t u r s
reports-one y t u (report.refused (report.refuses h n l)) (report.accepted e k w b i) = absurd (omega arith)
reports-one y t u (report.accepted e k w b i) (report.refused (report.refuses h n l)) = absurd (omega arith)
reports-one y t u (report.accepted {k} {t = s} {i} {b} e l w bs im) (report.accepted {k = k'} {t = s'} {i = i'} {b = b'} e' l' w' bs' im') =
    let blocks : b' ≡ b = blocks-of-one y b' b w' w in
    let first : k ≡ k' = line-one (ascii "passes") (y.answer.k ∷ []) k k' l l' in
    let second : s ≡ s' = blocks-one bs (subst (λ (r : List Run). BlockLines r s') blocks bs') in
    let third : i ≡ i' = image-one y.lent.image y.answer.length i i' im im' in
    ap₂ (λ (p q : List ℕ). p ++ q) (ap₂ (λ (p q : List ℕ). p ++ q) first second) third

-- Lists of any lengths can be lent.
pub some-lent : (n m : ℕ) → (old : Lent) × (length old.image ≡ n) × (length old.addresses ≡ m) × (length old.offsets ≡ m) × (length old.sizes ≡ m)
some-lent n m = (
  record { image = replicate n 0; addresses = replicate m (pos 0); offsets = replicate m 0; sizes = replicate m 0 },
  length-replicate n 0,
  length-replicate m (pos 0),
  length-replicate m 0,
  length-replicate m 0,
)

pub report-decides : (file : List ℕ) (fill : ℕ) (page : Option ℕ) → OneOnly (ReportSays file fill page)
report-decides file fill page t u f g = go (some-lent 16384 4096)
  where
    go : (old : Lent) × (length old.image ≡ 16384) × (length old.addresses ≡ 4096) × (length old.offsets ≡ 4096) × (length old.sizes ≡ 4096) → t ≡ u
    go x =
        let a = f x.0 (x.1, x.2, x.3, x.4) in
        let b = g x.0 (x.1, x.2, x.3, x.4) in
        reports-one a.0 t u a.2 (subst (λ (y : Outcome). Reports y u) (layout-decides file fill page x.0 b.0 a.0 b.1 a.1) b.2)
