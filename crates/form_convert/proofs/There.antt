-- What the code finds in a file of form 1 is what the answer's definition names.
use Rattle.std.specs.Prelude.{Err, Ok}
use mathlib.Core.Bool.{Bool, true, false}
use mathlib.Core.List.{List, ◌++◌}
use mathlib.Core.Path.{◌≡◌, refl, sym, ap₂, ◌∙◌}
use Prim.Native.Nat.{ℕ, ◌+◌, ◌*◌, ◌≤◌, max}
use native.Mathlib.Omega.{arith}
use lib.Dec.{ltb}
use lib.ListN.{length, drop, length-map}
use borrow.Author.Tests.{ltb-false}
use Rattle.prelude.specs.Laws.Bools.{unlike}
use Rattle.prelude.specs.Limits.{max_nodes, max_rows}
use Rattle.prelude.specs.Pick.{pick}
use Rattle.prelude.specs.declared.Refusal.{Refusal}
use Rattle.prelude.specs.declared.Refusal.TheVariants.{Malformed, FillBitDropped, TooShort}
use Rattle.bankdef.specs.Search.{first_where}
use Rattle.form_fields.specs.declared.Shape.{Shape}
use Rattle.form_fields.specs.Kind.{form1, form2, is1}
use Rattle.form_fields.specs.Columns.{column}
use Rattle.form_fields.specs.Contents.{Contents, written}
use Rattle.form_fields.specs.Shape.{nodes_start_in}
use Rattle.form_fields.specs.Whole.{part, contents_in}
use Rattle.form_rewrite.specs.Turning.{strays, turned, to_form2}
use Rattle.form_rewrite.specs.Fitting.{Read}
use Rattle.form_rewrite.specs.Theorems.Fitting.{lengthened-long, widened-long}
use Rattle.form_rewrite.specs.Laws.Sizes.{fits, banks-many, nodes-many, rows-many, nodes-in, nodes-at, file-long, one-is, alone-is, alone-not}
use Rattle.form_convert.specs.Convert.{stray, answer_of, answer_for, ToForm2}

module _ (file : List ℕ) (s : Shape) (r : Read form1 file s) where
  abbrev c₁ : Contents
  c₁ = contents_in form1 file

  pub nodes-one : s.banks ≡ 1 → s.nodes + 1 ≡ max (length c₁.nodes) (length (to_form2 c₁).nodes)
  nodes-one e = rw (alone-is file s r e) (omega (arith, nodes-many is1 file s r, length-map c₁.nodes (turned 1)))

  pub nodes-other : (s.banks ≡ 1 → ⊥) → s.nodes ≡ max (length c₁.nodes) (length (to_form2 c₁).nodes)
  nodes-other e = rw (alone-not file s r e) (omega (arith, nodes-many is1 file s r))

  pub length-one : s.banks ≡ 1 → length file + 40 + 5 * s.rows ≡ length (written form2 (to_form2 c₁))
  length-one e =
      rw (alone-is file s r e)
      (omega (arith, widened-long c₁ (fits is1 file s r) (one-is file s r e), file-long is1 file s r, rows-many is1 file s r))

  pub length-other : (s.banks ≡ 1 → ⊥) → length file + 4 + s.banks ≡ length (written form2 (to_form2 c₁))
  length-other e =
      rw (alone-not file s r e) (omega (arith, lengthened-long c₁ (fits is1 file s r), file-long is1 file s r, banks-many is1 file s r))

  pub stray-one : s.banks ≡ 1 → first_where (strays 0) (column (part file 5) 8 29 s.nodes) ≡ stray c₁
  stray-one e =
      let at : 29 ≡ nodes_start_in form1 file + 3 = omega (arith, e, nodes-at is1 file s r) in
      rw (alone-is file s r e) (ap₂ (λ (a n : ℕ). first_where (strays 0) (column (part file 5) 8 a n)) at (nodes-in is1 file s r))

  pub stray-other : (s.banks ≡ 1 → ⊥) → s.nodes ≡ stray c₁
  stray-other e = rw (alone-not file s r e) (nodes-many is1 file s r)

  -- the answer from the numbers that the code has found
  pub answer-is : (room : ℕ) {nodes first size : ℕ} → nodes ≡ max (length c₁.nodes) (length (to_form2 c₁).nodes) → first ≡ stray c₁
      → size ≡ length (written form2 (to_form2 c₁))
      → answer_of nodes s.rows first s.nodes size 65536 false room ≡ answer_for form2 c₁ (to_form2 c₁) false room
  answer-is room p q z =
      let nodes = nodes-many is1 file s r in
      let rows = rows-many is1 file s r in
      λ i. answer_of (p i) (rows i) (q i) (nodes i) (z i) 65536 false room

  pub refuses : {old : List ℕ} {why : Refusal} → answer_for form2 c₁ (to_form2 c₁) false (length old) ≡ Err why → ToForm2 file old (Err why) old
  refuses {old} e = record { is = sym e ∙ rw r.sound refl; out = refl }

  pub converts : {old new : List ℕ} {n : ℕ} → answer_for form2 c₁ (to_form2 c₁) false (length old) ≡ Ok n
      → new ≡ written form2 (to_form2 c₁) ++ drop (length (written form2 (to_form2 c₁))) old → ToForm2 file old (Ok n) new
  converts {old} {new} e f = record { is = sym e ∙ rw r.sound refl; out = f }

-- ---- the answer

never : {A : Type 0} {why : Refusal} {m : ℕ} → Err why ≡ Ok m → A
never f = unlike cc

taken : (a b d l s t : Bool) (r₁ r₂ r₃ r₄ r₅ r₆ : Refusal) (size n : ℕ)
    → pick a (Err r₁) (pick b (Err r₂) (pick d (Err r₃) (pick l (Err r₄) (pick s (Err r₅) (pick t (Err r₆) (Ok size))))))
    ≡ Ok n
    → (t ≡ false) × (n ≡ size)
taken true b d l s t r₁ r₂ r₃ r₄ r₅ r₆ size n e = never e
taken false true d l s t r₁ r₂ r₃ r₄ r₅ r₆ size n e = never e
taken false false true l s t r₁ r₂ r₃ r₄ r₅ r₆ size n e = never e
taken false false false true s t r₁ r₂ r₃ r₄ r₅ r₆ size n e = never e
taken false false false false true t r₁ r₂ r₃ r₄ r₅ r₆ size n e = never e
taken false false false false false true r₁ r₂ r₃ r₄ r₅ r₆ size n e = never e
taken false false false false false false r₁ r₂ r₃ r₄ r₅ r₆ size n e = (refl, cc)

-- A result that is taken has its length, and room.
pub converted-room : (nodes rows first count size longest room : ℕ) (drops : Bool) {n : ℕ}
    → answer_of nodes rows first count size longest drops room ≡ Ok n → size ≤ room
unfolding answer_of
converted-room nodes rows first count size longest room drops {n} e =
    let t = taken (ltb max_nodes nodes) (ltb max_rows rows) (ltb first count) (ltb longest size) drops (ltb room size) (Malformed 0) (Malformed 1)
    (Malformed first) (Malformed 0) FillBitDropped (TooShort 0) size n e in
    ltb-false room size t.0
