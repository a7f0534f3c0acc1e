-- `prog_overlay`: its sentences leave one text.
use Rattle.std.specs.Prelude.{◌≡◌, refl, Bool, List, [], ◌∷◌, ◌++◌, ℕ, ◌+◌, ◌*◌, ◌-◌, ◌≤◌, ◌<◌, length, take, drop}
use Rattle.std.proofs.Common.{sym, ap, ap₂, subst, ◌∙◌, arith}
use Rattle.prelude.specs.Laws.Bools.{clash}
use Rattle.print_text.specs.Ascii.{ascii}
use Rattle.c_answers.specs.declared.DkFault.{DkFault}
use Rattle.meets.specs.Laws.Words.{OneOnly, first_one}
use Rattle.meets_bits.specs.Theorems.Hex.{text-one}
use Rattle.meets_overlay.specs.Theorems.Range.{one_of_two}
use Rattle.meets_overlay.specs.Theorems.Runs.{runs-one}
use Rattle.meets_records.specs.Theorems.FaultDecides.{fault-decides}
use Rattle.meets_records.specs.Theorems.ReadDecides.{read-decides}
use Rattle.meets_report.specs.Laws.Lines.{spaced-is, line-one}
use Rattle.meets_texts.specs.Laws.AnyRoom.{some-list}
use Rattle.meets_texts.specs.Theorems.Rehex.{fault-one}
use Rattle.says.specs.Words.{Not}
use Rattle.says.specs.Read.{Lent, Outcome}
use Rattle.says.specs.Lines.{Spaced, Line}
use Rattle.says.specs.Texts.{Refused, Fault}
use Rattle.says.specs.Bench as says
use Rattle.says.specs.Bench.{File, file, Gives, Digits, RunLines, Alone, ListText, Named, Tells, Answers, RangeText, Reads, Unread, copy, Bench, BenchSays}

-- ---- lines

two : {a b c d : List ℕ} → a ≡ c → b ≡ d → a ++ b ≡ c ++ d
two e f = ap₂ (λ (x y : List ℕ). x ++ y) e f

digits-one : (image : List ℕ) (first count : ℕ) → OneOnly (Digits image first count)
digits-one image first count t u (says.digits {d} x) (says.digits {d = e} y) =
    ap (λ (l : List ℕ). ascii " " ++ l) (text-one (take count (drop first image)) (8 * length (take count (drop first image))) d e x y)

spaced-one : {ns t u : List ℕ} → Spaced ns t → Spaced ns u → t ≡ u
spaced-one a b = spaced-is a ∙ sym (spaced-is b)

module _ (load : ℕ) (released overlay : File) where
  -- ---- every run

  lines-one : {fs ns t u : List ℕ} → RunLines load released overlay fs ns t → RunLines load released overlay fs ns u → t ≡ u
  lines-one says.none says.none = refl
  lines-one (says.run {f} {n} {a = a} {b = b} {t = t} s x y r) (says.run {l = m} {a = c} {b = d} s' x' y' q) =
      ap₂ (λ (i j : List ℕ). ascii "run" ++ i ++ j ++ b ++ ascii "\n" ++ t) (spaced-one s s') (digits-one released.image f n a c x x')
      ∙ ap₂ (λ (i j : List ℕ). ascii "run" ++ m ++ c ++ i ++ ascii "\n" ++ j) (digits-one overlay.image f n b d y y') (lines-one r q)

  alone-one : OneOnly (Alone load released overlay)
  alone-one t u (says.none p) (says.none q) = refl
  alone-one t u (says.none p) (says.first {b} f l) = absurd (f.so.1 (p b f.so.0))
  alone-one t u (says.first {b} f l) (says.none p) = absurd (f.so.1 (p b f.so.0))
  alone-one t u (says.first {b} f l) (says.first {b = c} g m) =
      let same = first_one (λ (x : ℕ). Gives overlay x × Not (Gives released x)) b c f g in
      line-one (ascii "alone") ((load + b) ∷ []) t u l (subst (λ (x : ℕ). Line (ascii "alone") ((load + x) ∷ []) u) (sym same) m)

  list-one : OneOnly (ListText load released overlay)
  list-one t u (says.short r h l) (says.short s k m) = line-one (ascii "refused") (14 ∷ 2 ∷ []) t u l m
  list-one t u (says.short r h l) (says.listed s k x a m) =
      absurd (omega (arith, ap length (runs-one overlay.image released.image overlay.offsets overlay.sizes r s).0))
  list-one t u (says.listed s k x a m) (says.short r h l) =
      absurd (omega (arith, ap length (runs-one overlay.image released.image overlay.offsets overlay.sizes r s).0))
  list-one t u (says.listed {fs} {ns} {t = t₁} {u = u₁} {v = v₁} r h x a l) (says.listed {fs = gs} {ns = ms} {t = t₂} {u = u₂} {v = v₂} s k y b m) =
      let same = runs-one overlay.image released.image overlay.offsets overlay.sizes r s in
      let lines = subst (λ (is : List ℕ). RunLines load released overlay fs is t₂) (sym same.1)
      (subst (λ (is : List ℕ). RunLines load released overlay is ms t₂) (sym same.0) y) in
      two (two (lines-one x lines) (alone-one u₁ u₂ a b))
      (line-one (ascii "runs") (length fs ∷ []) v₁ v₂ l (subst (λ (is : List ℕ). Line (ascii "runs") (length is ∷ []) v₂) (sym same.0) m))

  -- ---- a range

  module _ (first count : ℕ) where
    named-one : (f : File) (name : List ℕ) (n : ℕ) → OneOnly (Named load released overlay first count f name n)
    named-one f name n t u (says.named {b} {t = t₁} {u = u₁} x r l) (says.named {b = c} {t = t₂} {u = u₂} y s m) =
        let same = first_one (λ (i : ℕ). (first ≤ i) × Not (Gives f i)) b c x y in
        two (line-one (ascii "refused") (n ∷ 0 ∷ []) t₁ t₂ r s)
        (line-one name ((load + b) ∷ []) u₁ u₂ l (subst (λ (i : ℕ). Line name ((load + i) ∷ []) u₂) (sym same) m))

    tells-one : 0 < count → OneOnly (Tells load released overlay first count)
    tells-one some t u (says.of-overlay {t = a} w x) (says.of-overlay {t = b} v y) =
        ap (λ (i : List ℕ). ascii "overlay" ++ i ++ ascii "\n") (digits-one overlay.image first count a b x y)
    tells-one some t u (says.of-overlay w x) (says.of-released f g y) =
        absurd (one_of_two overlay.image released.image overlay.offsets overlay.sizes first count some w f)
    tells-one some t u (says.of-overlay w x) (says.gap f l h n y) =
        absurd (one_of_two overlay.image released.image overlay.offsets overlay.sizes first count some w f)
    tells-one some t u (says.of-overlay w x) (says.partly n m y) = absurd (n w)
    tells-one some t u (says.of-released f g y) (says.of-overlay w x) =
        absurd (one_of_two overlay.image released.image overlay.offsets overlay.sizes first count some w f)
    tells-one some t u (says.of-released {t = a} f g x) (says.of-released {t = b} h k y) =
        ap (λ (i : List ℕ). ascii "released" ++ i ++ ascii "\n") (digits-one released.image first count a b x y)
    tells-one some t u (says.of-released f g x) (says.gap {b} h l k n y) = absurd (n (g b l k))
    tells-one some t u (says.of-released f g x) (says.partly n m y) = absurd (m f)
    tells-one some t u (says.gap f l h n y) (says.of-overlay w x) =
        absurd (one_of_two overlay.image released.image overlay.offsets overlay.sizes first count some w f)
    tells-one some t u (says.gap {b} h l k n y) (says.of-released f g x) = absurd (n (g b l k))
    tells-one some t u (says.gap f l h n x) (says.gap g k i m y) = named-one released (ascii "released") 16 t u x y
    tells-one some t u (says.gap f l h n x) (says.partly m k y) = absurd (k f)
    tells-one some t u (says.partly n m y) (says.of-overlay w x) = absurd (n w)
    tells-one some t u (says.partly n m y) (says.of-released f g x) = absurd (m f)
    tells-one some t u (says.partly m k y) (says.gap f l h n x) = absurd (k f)
    tells-one some t u (says.partly n m x) (says.partly k l y) = named-one overlay (ascii "overlay") 17 t u x y

    answers_one : 0 < count → OneOnly (Answers load released overlay first count)
    answers_one some t u (says.past-released h x) (says.past-released k y) = named-one released (ascii "released") 16 t u x y
    answers_one some t u (says.past-released h x) (says.past-overlay k l y) = absurd (omega arith)
    answers_one some t u (says.past-released h x) (says.inside k l y) = absurd (omega arith)
    answers_one some t u (says.past-overlay k l y) (says.past-released h x) = absurd (omega arith)
    answers_one some t u (says.past-overlay h k x) (says.past-overlay l m y) = named-one overlay (ascii "overlay") 16 t u x y
    answers_one some t u (says.past-overlay h k x) (says.inside l m y) = absurd (omega arith)
    answers_one some t u (says.inside k l y) (says.past-released h x) = absurd (omega arith)
    answers_one some t u (says.inside l m y) (says.past-overlay h k x) = absurd (omega arith)
    answers_one some t u (says.inside h k x) (says.inside l m y) = tells-one some t u x y

  range-one : (address count : ℕ) → OneOnly (RangeText load released overlay address count)
  range-one address count t u (says.empty e l) (says.empty f m) = line-one (ascii "refused") (16 ∷ 0 ∷ []) t u l m
  range-one address count t u (says.empty e l) (says.below h k r m) = absurd (omega arith)
  range-one address count t u (says.empty e l) (says.range h k x) = absurd (omega arith)
  range-one address count t u (says.below h k r m) (says.empty e l) = absurd (omega arith)
  range-one address count t u (says.below {t = a} {u = b} h k r m) (says.below {t = c} {u = d} i j s n) =
      two (line-one (ascii "refused") (16 ∷ 0 ∷ []) a c r s) (line-one (ascii "released") (address ∷ []) b d m n)
  range-one address count t u (says.below h k r m) (says.range i j x) = absurd (omega arith)
  range-one address count t u (says.range h k x) (says.empty e l) = absurd (omega arith)
  range-one address count t u (says.range i j x) (says.below h k r m) = absurd (omega arith)
  range-one address count t u (says.range h k x) (says.range i j y) = answers_one (address - load) count h t u x y

-- ---- the two files

module _ (load : ℕ) (source : List ℕ) (old : Lent) where
  reads-one : OneOnly (Reads load source old)
  reads-one y z (says.reads h x e) (says.reads k w f) = read-decides 0 load source old y z x w

  unread-one : (name : List ℕ) → OneOnly (Unread load source old name)
  unread-one name t u (says.too_long {t = a} h l) (says.too_long {t = b} k m) = ap (λ (i : List ℕ). i ++ name) (line-one (ascii "refused") (4 ∷ 0 ∷ []) a b l m)
  unread-one name t u (says.too_long h l) (says.turned k x r f m w) = absurd (omega arith)
  unread-one name t u (says.turned k x r f m w) (says.too_long h l) = absurd (omega arith)
  unread-one name t u (says.turned {y} {f} {t = a} {u = b} h x r s l w) (says.turned {y = z} {f = g} {t = c} {u = d} k v q p m o) =
      let same : z ≡ y = read-decides 0 load source old z y v x in
      let fault : g ≡ f = ap (λ (i : DkFault × List ℕ). i.0) (fault-decides 0 load source [] (g, []) (f, []) p s) in
      ap₂ (λ (i j : List ℕ). i ++ name ++ j)
      (line-one (ascii "refused") (y.answer.refusal ∷ y.answer.place ∷ []) a c l
      (subst (λ (i : Outcome). Refused i.answer.refusal i.answer.place c) same m))
      (fault-one f b d w (subst (λ (i : DkFault). Fault i d) fault o))

  not-both : (name t : List ℕ) (y : Outcome) → Reads load source old y → Unread load source old name t → ⊥
  not-both name t y (says.reads h x e) (says.too_long k l) = omega arith
  not-both name t y (says.reads h x e) (says.turned {y = z} k v r f l w) =
      let same : z ≡ y = read-decides 0 load source old z y v x in
      let none : z.answer.refusal ≡ 0 = ap (λ (i : Outcome). i.answer.refusal) same ∙ e in
      omega arith

-- ---- all of it

module _ (load : ℕ) (all : Bool) (address count : ℕ) (released overlay : List ℕ) where
  module _ (old : Lent) where
    later : (A : Outcome → Type 0) {y z : Outcome} → Reads load overlay old y → Reads load overlay old z → A z → A y
    later A {y} {z} r s a = subst A (reads-one load overlay old z y s r) a

    bench-one : OneOnly (Bench load all address count released overlay old)
    bench-one t u (says.bad-overlay x) (says.bad-overlay y) = unread-one load overlay old (ascii "overlay\n") t u x y
    bench-one t u (says.bad-overlay x) (says.bad-released {y} r w) = absurd (not-both load overlay old (ascii "overlay\n") t y r x)
    bench-one t u (says.bad-overlay x) (says.runs {y} r s e w) = absurd (not-both load overlay old (ascii "overlay\n") t y r x)
    bench-one t u (says.bad-overlay x) (says.ranges {y} r s e w) = absurd (not-both load overlay old (ascii "overlay\n") t y r x)
    bench-one t u (says.bad-released {y} r w) (says.bad-overlay x) = absurd (not-both load overlay old (ascii "overlay\n") u y r x)
    bench-one t u (says.runs {y} r s e w) (says.bad-overlay x) = absurd (not-both load overlay old (ascii "overlay\n") u y r x)
    bench-one t u (says.ranges {y} r s e w) (says.bad-overlay x) = absurd (not-both load overlay old (ascii "overlay\n") u y r x)
    bench-one t u (says.bad-released {y} r w) (says.bad-released s x) =
        unread-one load released (copy y old) (ascii "released\n") t u w
        (later (λ (i : Outcome). Unread load released (copy i old) (ascii "released\n") u) r s x)
    bench-one t u (says.bad-released {y} r w) (says.runs {z} s x e l) =
        absurd (not-both load released (copy y old) (ascii "released\n") t z (later (λ (i : Outcome). Reads load released (copy i old) z) r s x) w)
    bench-one t u (says.bad-released {y} r w) (says.ranges {z} s x e l) =
        absurd (not-both load released (copy y old) (ascii "released\n") t z (later (λ (i : Outcome). Reads load released (copy i old) z) r s x) w)
    bench-one t u (says.runs {y} {z} s x e l) (says.bad-released r w) =
        absurd (not-both load released (copy y old) (ascii "released\n") u z x
        (later (λ (i : Outcome). Unread load released (copy i old) (ascii "released\n") u) s r w))
    bench-one t u (says.ranges {y} {z} s x e l) (says.bad-released r w) =
        absurd (not-both load released (copy y old) (ascii "released\n") u z x
        (later (λ (i : Outcome). Unread load released (copy i old) (ascii "released\n") u) s r w))
    bench-one t u (says.runs {y} {z} r x e l) (says.runs {y = v} {z = w} s q f m) =
        let q' = later (λ (i : Outcome). Reads load released (copy i old) w) r s q in
        let same = reads-one load released (copy y old) w z q' x in
        list-one load (file z) (file y) t u l
        (subst (λ (i : Outcome). ListText load (file i) (file y) u) same
        (later (λ (i : Outcome). ListText load (file w) (file i) u) r s m))
    bench-one t u (says.runs r x e l) (says.ranges s q f m) = absurd (clash e f)
    bench-one t u (says.ranges s q f m) (says.runs r x e l) = absurd (clash e f)
    bench-one t u (says.ranges {y} {z} r x e l) (says.ranges {y = v} {z = w} s q f m) =
        let q' = later (λ (i : Outcome). Reads load released (copy i old) w) r s q in
        let same = reads-one load released (copy y old) w z q' x in
        range-one load (file z) (file y) address count t u l
        (subst (λ (i : Outcome). RangeText load (file i) (file y) address count u) same
        (later (λ (i : Outcome). RangeText load (file w) (file i) address count u) r s m))

  pub bench-text-decides : OneOnly (BenchSays load all address count released overlay)
  bench-text-decides t u p q = go (some-list 524288) (some-list 4096)
    where
      go : (l : List ℕ) × (length l ≡ 524288) → (m : List ℕ) × (length m ≡ 4096) → t ≡ u
      go x m =
          let old : Lent = record { bytes = x.0; offsets = m.0; sizes = m.0; scratch = [] } in
          bench-one old t u (p old x.1 m.1 m.1) (q old x.1 m.1 m.1)
