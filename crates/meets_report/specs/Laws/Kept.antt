-- What an accepted outcome leaves is as long as what was lent, its image is bytes, and its spans fit: by the sentences alone, with a page size too.
use Rattle.std.specs.Prelude.{◌≡◌, List, ℕ, ◌≤◌, ◌<◌, length, get_or, Option, None, Some}
use Rattle.std.proofs.Common.{arith}
use Rattle.says.specs.Words as words
use Rattle.says.specs.Build.{Given, Lent, Outcome, BuildSays}
use Rattle.says.specs.Form as form
use Rattle.says.specs.FormPaged as paged
use Rattle.says.specs.Paged.{PagedSays}
use Rattle.says.specs.Report.{LayoutSays}
use Rattle.meets_sentences.specs.Theorems.Outcomes.{accepted-says}
use Rattle.meets_profile.specs.Laws.Answers as answers
use Rattle.meets_profile.specs.Laws.Answers.{Comes, comes}
use Rattle.meets_profile.specs.Theorems.Ticket9.{ordinary-after-yes}

pub record Kept (old : Lent) (y : Outcome) : Type 0 where
  pub image : length y.lent.image ≡ length old.image
  pub offsets : length y.lent.offsets ≡ length old.offsets
  pub sizes : length y.lent.sizes ≡ length old.sizes
  pub bytes : (j : ℕ) → get_or y.lent.image j 0 < 256

build-kept : (g : Given) (old : Lent) (y : Outcome) → BuildSays g old y → y.answer.refusal ≡ 0 → Kept old y
build-kept g old y t e =
    let left = (accepted-says g old y t e).left in
    record { image = left.as_long.0; offsets = left.as_long.2; sizes = left.as_long.3; bytes = left.bytes }

paged-kept : (g : Given) (page : ℕ) (old : Lent) (y : Outcome) → PagedSays g page old y → y.answer.refusal ≡ 0 → Kept old y
paged-kept g page old y s e = from (comes g page old y s) s e
  where
    from : {y : Outcome} → Comes g page old y → PagedSays g page old y → y.answer.refusal ≡ 0 → Kept old y
    from (answers.early lo hi n) s e = absurd (omega arith)
    from (answers.names c n) s e = absurd (let z : ◌≡◌ {A = ℕ} 19 0 = e in omega arith)
    from (answers.laid {y} c h t) s e = build-kept g old y ((ordinary-after-yes g page old h y).0 s) e

pub layout-kept : (file : List ℕ) (fill : ℕ) (page : Option ℕ) (old : Lent) (y : Outcome) → LayoutSays file fill page old y → y.answer.refusal ≡ 0 → Kept old y
layout-kept file fill None old y (form.broken o x words.is) e = absurd (let z : ◌≡◌ {A = ℕ} 4 0 = e in omega arith)
layout-kept file fill None old y (form.laid {g = g} o s l t) e = build-kept g old y t e
layout-kept file fill (Some page) old y (paged.broken o x words.is) e = absurd (let z : ◌≡◌ {A = ℕ} 4 0 = e in omega arith)
layout-kept file fill (Some page) old y (paged.laid {g = g} o s l t) e = paged-kept g page old y t e
