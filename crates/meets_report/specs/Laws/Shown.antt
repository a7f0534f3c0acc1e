-- What is printed of a build's answer, by the definitions, is the text of its outcome: the refusal's line, the blocks, and all of it.
use Rattle.std.specs.Prelude.{◌≡◌, refl, Bool, false, ◌||◌, List, [], ◌∷◌, map, ℕ, ◌<◌, eqb, length, take, Err, Ok, Result}
use Rattle.std.proofs.Common.{sym, ap, subst, ◌∙◌, inl, inr, ⊎_elim, arith, length-take}
use Rattle.std.proofs.lemmas.Bool.{eqb-false}
use Rattle.prelude.specs.Laws.Bools.{neither}
use Rattle.prelude.specs.Theorems.Told.{number-some}
use Rattle.prelude.specs.Refusals.{number_of, place_of}
use Rattle.prelude.specs.declared.Refusal.{Refusal}
use Rattle.prelude.specs.declared.Refusal.TheVariants.{BankCount, BankNumber, BanksOverlap, Malformed, PositionPast, LabelOffBoundary, Unresolved}
use Rattle.prelude.specs.declared.Refusal.TheVariants.{DefaultBank, PastBank, NoOutput, Overlap, StoreFull, TooShort, BadStore, BadPart, PartlyCovered}
use Rattle.prelude.specs.declared.Refusal.TheVariants.{FillBitDropped, OffProfile}
use Rattle.bitvec.specs.HexDigits.{hex_of}
use Rattle.sort.specs.Numbers.{order}
use Rattle.iter.specs.declared.Lost.{Lost}
use Rattle.blocks.specs.Spans.{spans_of}
use Rattle.blocks.specs.Walk.{blocks_of}
use Rattle.c_answers.specs.Told.{first_of, second_of, build_told}
use Rattle.c_answers.specs.declared.DkLayout.{DkLayout}
use Rattle.print_text.specs.Ascii.{ascii}
use Rattle.print_text.specs.Lines.{place_numbers, refusal_text}
use Rattle.print_answer.specs.Answer.{done_text, answered}
use Rattle.says.specs.Words.{Not}
use Rattle.says.specs.Blocks.{Block as Run, Walks}
use Rattle.says.specs.Build.{Lent, Outcome}
use Rattle.says.specs.Report as report
use Rattle.says.specs.Report.{Two, Numbers, RefusalLine, BlocksOf, Reports}
use Rattle.meets.specs.Laws.Words.{OneOnly}
use Rattle.meets.specs.Theorems.Blocks.{run, runs, walk_is, walk, blocks-in-order}
use Rattle.meets.specs.Theorems.Ordered.{order-decides, order-meets}
use Rattle.meets_report.specs.Laws.Lines.{line-one, line-meets, blocks-meet, image-by}
use Rattle.output.specs.declared.Built.{Built}
use Rattle.output.specs.Built.{done_with}

-- ---- the refusal's line

not-two : (n : ℕ) → (eqb n 3 || (eqb n 12 || eqb n 19)) ≡ false → Not (Two n)
not-two n e t =
    let a = neither (eqb n 3) (eqb n 12 || eqb n 19) e in
    let b = neither (eqb n 12) (eqb n 19) a.1 in
    ⊎_elim (eqb-false n 3 a.0) (⊎_elim (eqb-false n 12 b.0) (eqb-false n 19 b.1)) t

pub numbers-one : (number place second : ℕ) → OneOnly (Numbers number place second)
numbers-one n p s x y (report.one f) (report.one g) = refl
numbers-one n p s x y (report.one f) (report.two t) = absurd (f t)
numbers-one n p s x y (report.two t) (report.one f) = absurd (f t)
numbers-one n p s x y (report.two t) (report.two u) = refl

pub refusal-one : (a : DkLayout) → OneOnly (RefusalLine a)
refusal-one a t u (report.refuses {ns} h n l) (report.refuses {ns = ms} g m k) =
    line-one (ascii "refused") ns t u l (rw (numbers-one a.refusal a.place a.second ms ns m n) at k)

pub numbers-meet : (why : Refusal) → Numbers (number_of why) (first_of (place_of why)) (second_of (place_of why)) (number_of why ∷ place_numbers (place_of why))
numbers-meet BankCount = report.one (not-two 1 refl)
numbers-meet (BankNumber b) = report.one (not-two 2 refl)
numbers-meet (BanksOverlap a b) = report.two (inl refl)
numbers-meet (Malformed p) = report.one (not-two 4 refl)
numbers-meet (PositionPast p) = report.one (not-two 5 refl)
numbers-meet (LabelOffBoundary p) = report.one (not-two 7 refl)
numbers-meet Unresolved = report.one (not-two 8 refl)
numbers-meet (DefaultBank p) = report.one (not-two 9 refl)
numbers-meet (PastBank p) = report.one (not-two 10 refl)
numbers-meet (NoOutput p) = report.one (not-two 11 refl)
numbers-meet (Overlap a b) = report.two (inr (inl refl))
numbers-meet (StoreFull p) = report.one (not-two 13 refl)
numbers-meet (TooShort p) = report.one (not-two 14 refl)
numbers-meet (BadStore p) = report.one (not-two 15 refl)
numbers-meet BadPart = report.one (not-two 16 refl)
numbers-meet PartlyCovered = report.one (not-two 17 refl)
numbers-meet FillBitDropped = report.one (not-two 18 refl)
numbers-meet (OffProfile a b) = report.two (inr (inr refl))

module _ (passes : ℕ) (padding : List Lost) where
  pub refusal-meets : (why : Refusal) → RefusalLine (build_told (Err why) passes padding) (refusal_text why)
  refusal-meets why = report.refuses (number-some why) (numbers-meet why) (line-meets (ascii "refused") (number_of why ∷ place_numbers (place_of why)))

-- ---- the blocks

pub blocks-of-one : (y : Outcome) → OneOnly (BlocksOf y)
blocks-of-one y b c (report.of-spans {order = l} o v) (report.of-spans {order = m} p w) =
    let os = take y.answer.spans y.lent.offsets in
    let ss = take y.answer.spans y.lent.sizes in
    walk_is os ss v ∙ ap (runs os ss 0 0) (order-decides os l m o p) ∙ sym (walk_is os ss w)

-- of spans in lists of one length they are the definition's
module _ (y : Outcome) (same : length y.lent.offsets ≡ length y.lent.sizes) where
  abbrev os : List ℕ
  os = take y.answer.spans y.lent.offsets

  abbrev ss : List ℕ
  ss = take y.answer.spans y.lent.sizes

  as_long : length os ≡ length ss
  as_long = omega (arith, length-take y.answer.spans y.lent.offsets, length-take y.answer.spans y.lent.sizes)

  pub blocks-of-meet : BlocksOf y (map run (blocks_of (spans_of os ss)))
  blocks-of-meet = report.of-spans (order-meets os) (rw (← (blocks-in-order os ss as_long)) (walk os ss 0 0 (order os)))

-- ---- the text, where the spans' lists are of one length

module _ (passes : ℕ) (padding : List Lost) where
  done-spelt : (k bits n : ℕ) (l : Lent) (t : List ℕ) → length l.offsets ≡ length l.sizes
      → t ≡ done_text k bits (take n l.offsets) (take n l.sizes) l.image
      → Reports (record { answer = build_told (done_with k bits n) passes padding; lent = l }) t
  done-spelt k bits n l t same e =
      let y : Outcome = record { answer = build_told (done_with k bits n) passes padding; lent = l } in
      rw e (report.accepted refl (line-meets (ascii "passes") (k ∷ [])) (blocks-of-meet y same)
      (blocks-meet (blocks_of (spans_of (take n l.offsets) (take n l.sizes)))) (image-by l.image bits (hex_of l.image bits) refl))

  done-shown : (k bits n : ℕ) (l : Lent) → length l.offsets ≡ length l.sizes
      → Reports (record { answer = build_told (done_with k bits n) passes padding; lent = l })
      (done_text k bits (take n l.offsets) (take n l.sizes) l.image)
  done-shown k bits n l same = done-spelt k bits n l _ same refl

  pub shown : (q : Result Built Refusal) (l : Lent) → length l.offsets ≡ length l.sizes
      → Reports (record { answer = build_told q passes padding; lent = l }) (answered q l.image l.offsets l.sizes)
  shown (Err why) l same = report.refused (refusal-meets passes padding why)
  shown (Ok ended) l same = done-spelt ended.k ended.length ended.spans l (answered (Ok ended) l.image l.offsets l.sizes) same refl
