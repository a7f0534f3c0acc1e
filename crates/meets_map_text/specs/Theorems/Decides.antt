-- The sentences of what the map's program prints leave one text: the bytes leave one layout or one broken field, a layout one outcome (`map-decides`), and an
-- outcome one text. From the sentences alone.
use Rattle.std.specs.Prelude.{◌≡◌, refl, List, [], ◌∷◌, ◌++◌, ℕ, length, replicate, Option, None, Some}
use Rattle.std.proofs.Common.{sym, ap₂, subst, ◌∙◌, arith}
use Rattle.std.proofs.lemmas.List.{length-replicate}
use Rattle.iter.specs.declared.Lost.{Lost}
use Rattle.print_text.specs.Ascii.{ascii}
use Rattle.c_answers.specs.declared.DkMap.{DkMap}
use Rattle.says.specs.Build.{Given, Size, Offset, Align}
use Rattle.says.specs.Files.{Form, Held, Sound, Broken}
use Rattle.says.specs.Form.{Layout}
use Rattle.says.specs.Map.{Lent, Outcome, refusal, Mapped}
use Rattle.says.specs.MapText as says
use Rattle.says.specs.MapText.{Word, Fill, BankLine, BankLines, NodeLine, NodeLines, FaultLine, Verdict, Prints, LaidSays, Lends, MapText}
use Rattle.meets.specs.Laws.Words.{OneOnly}
use Rattle.meets_form.specs.Laws.OneLayout.{layout-one, broken-one, not-both, form-one}
use Rattle.meets_form.specs.Laws.Written.{sound-one}
use Rattle.meets_map.specs.Theorems.Decides.{mapped-one, map-decides}
use Rattle.meets_profile.specs.Laws.Tried.{checks-one, rules-one}
use Rattle.meets_report.specs.Laws.Lines.{line-one}
use Rattle.meets_report.specs.Laws.Shown.{numbers-one}
use Rattle.meets_map_text.specs.Laws.Records.{record-one, whole-one, optional-one}

module _ (g : Given) where
  -- ---- a bank

  size-one : (b : ℕ) → OneOnly (Size g b)
  size-one b m n x y = x.1 ∙ sym y.1

  offset-one : (b : ℕ) → OneOnly (Offset g b)
  offset-one b m n x y = x.1 ∙ sym y.1

  align-one : (b : ℕ) → OneOnly (Align g b)
  align-one b m n x y = x.1 ∙ sym y.1

  fill_one : (b : ℕ) → OneOnly (Fill g b)
  fill_one b m n (says.filled h) (says.filled k) = refl
  fill_one b m n (says.filled h) (says.unfilled k) = absurd (k h)
  fill_one b m n (says.unfilled h) (says.filled k) = absurd (h k)
  fill_one b m n (says.unfilled h) (says.unfilled k) = refl

  bank-one : (b : ℕ) (lost : Lost) → OneOnly (BankLine g b lost)
  bank-one b lost t u (says.bank {s} {m} {o} {a} {f} ws xm xo xa xf r) (says.bank {s = s'} {m = m'} {o = o'} {a = a'} {f = f'} ws' xm' xo' xa' xf' r') =
      let start : s' ≡ s = whole-one _ s' s ws' ws in
      let size : m' ≡ m = optional-one (Size g b) (size-one b) m' m xm' xm in
      let offset : o' ≡ o = optional-one (Offset g b) (offset-one b) o' o xo' xo in
      let align : a' ≡ a = optional-one (Align g b) (align-one b) a' a xa' xa in
      let fill : f' ≡ f = fill_one b f' f xf' xf in
      record-one (ascii "bank") _ t u r (rw (start, size, offset, align, fill) at r')

  banks-one : (lost : List Lost) {n : ℕ} {t u : List ℕ} → BankLines g lost n t → BankLines g lost n u → t ≡ u
  banks-one lost says.no-bank says.no-bank = refl
  banks-one lost (says.more {b} {l = l} x y) (says.more {l = l'} z w) = ap₂ (λ (p q : List ℕ). p ++ q) (banks-one lost x z) (bank-one b _ l l' y w)

  -- ---- a node

  word-one : (word : ℕ) → OneOnly (Word word)
  word-one word m n x y = x.0 ∙ sym y.0

  node-one : (l : Lent) (i : ℕ) → OneOnly (NodeLine g l i)
  node-one l i t u (says.node {b} {p} {a} {o} eb ep wa xo r) (says.node {b = b'} {p = p'} {a = a'} {o = o'} eb' ep' wa' xo' r') =
      let bank : b' ≡ b = eb' ∙ sym eb in
      let position : p' ≡ p = ep' ∙ sym ep in
      let address : a' ≡ a = whole-one _ a' a (rw (bank, position) at wa') wa in
      let output : o' ≡ o = optional-one (Word _) (word-one _) o' o xo' xo in
      record-one (ascii "node") _ t u r (rw (bank, position, address, output) at r')

  nodes-one : (l : Lent) {n : ℕ} {t u : List ℕ} → NodeLines g l n t → NodeLines g l n u → t ≡ u
  nodes-one l says.no-node says.no-node = refl
  nodes-one l (says.more {i} {s = s} x y) (says.more {s = s'} z w) = ap₂ (λ (p q : List ℕ). p ++ q) (nodes-one l x z) (node-one l i s s' y w)

  -- ---- the node at fault and the verdict

  fault-one : (i : ℕ) → OneOnly (FaultLine i)
  fault-one i t u (says.at-fault h l) (says.at-fault k m) = line-one (ascii "fault") (i ∷ []) t u l m
  fault-one i t u (says.at-fault h l) (says.no-fault e) = absurd (h e)
  fault-one i t u (says.no-fault e) (says.at-fault h l) = absurd (h e)
  fault-one i t u (says.no-fault e) (says.no-fault f) = refl

  verdict-one : (a : DkMap) → OneOnly (Verdict a)
  verdict-one a t u (says.accepted e f) (says.accepted e' f') = refl
  verdict-one a t u (says.accepted e f) (says.refused h n l) = absurd (omega arith)
  verdict-one a t u (says.accepted e f) (says.stopped h k n l) = absurd (omega arith)
  verdict-one a t u (says.refused h n l) (says.accepted e f) = absurd (omega arith)
  verdict-one a t u (says.refused {ns} h n l) (says.refused {ns = ms} h' n' l') =
      line-one (ascii "refused") ns t u l (rw (numbers-one a.refusal a.place a.second ms ns n' n) at l')
  verdict-one a t u (says.refused h n l) (says.stopped e k n' l') = absurd (omega arith)
  verdict-one a t u (says.stopped h k n l) (says.accepted e f) = absurd (omega arith)
  verdict-one a t u (says.stopped e k n l) (says.refused h n' l') = absurd (omega arith)
  verdict-one a t u (says.stopped {ns} e k n l) (says.stopped {ns = ms} e' k' n' l') =
      line-one (ascii "refused") ns t u l (rw (numbers-one a.stopped a.place a.second ms ns n' n) at l')

  -- ---- the text of an outcome

  joined : {a a' b b' c c' d d' e e' : List ℕ} → a ≡ a' → b ≡ b' → c ≡ c' → d ≡ d' → e ≡ e' → a ++ b ++ c ++ d ++ e ≡ a' ++ b' ++ c' ++ d' ++ e'
  joined p q r s t = rw (p, q, r, s, t)

  pub prints-one : (f : Form) (y : Outcome) → OneOnly (Prints g f y)
  prints-one f y t u (says.prints {h} {b} {n} {e} {v} ph pb pn pe pv) (says.prints {h = h'} {b = b'} {n = n'} {e = e'} {v = v'} qh qb qn qe qv) =
      joined (line-one (ascii "file") _ h h' ph qh) (banks-one y.answer.padding pb qb) (nodes-one y.lent pn qn) (fault-one y.answer.node e e' pe qe)
      (verdict-one y.answer v v' pv qv)

  -- ---- what is said of the layout

  pub laid-decides : (page : Option ℕ) (old : Lent) → OneOnly (LaidSays g page old)
  laid-decides None old = map-decides g old
  laid-decides (Some page) old =
      checks-one g (refusal g old) _ (λ c. rules-one g page (refusal g old 19) (Mapped g old) (mapped-one g old))

-- Lists of any length can be lent.
abbrev Long : ℕ → Lent → Type 0
Long n old = (length old.banks ≡ n) × (length old.positions ≡ n) × (length old.outputs ≡ n) × (length old.sizes ≡ n)

some-lent : (n : ℕ) → (old : Lent) × Long n old
some-lent n = (
  record { banks = replicate n 0; positions = replicate n 0; outputs = replicate n 0; sizes = replicate n 0 },
  (length-replicate n 0, length-replicate n 0, length-replicate n 0, length-replicate n 0),
)

module _ (file : List ℕ) (fill : ℕ) (page : Option ℕ) where
  -- of one layout
  same_layout : (f : Form) (g : Given) (t u : List ℕ)
      → ((old : Lent) → Lends old → (y : Outcome) × LaidSays g page old y × Prints g f y t)
      → ((old : Lent) → Lends old → (y : Outcome) × LaidSays g page old y × Prints g f y u) → t ≡ u
  same_layout f g t u p q = go (some-lent 4096)
    where
      go : (old : Lent) × Lends old → t ≡ u
      go x =
          let a = p x.0 x.1 in
          let b = q x.0 x.1 in
          prints-one g f a.0 t u a.2 (subst (λ (y : Outcome). Prints g f y u) (laid-decides g page x.0 b.0 a.0 b.1 a.1) b.2)

  pub map-text-decides : OneOnly (MapText file fill page)
  map-text-decides t u (says.broken {f} {i} o b l) (says.broken {f = f'} {i = i'} o' b' l') =
      let same : i' ≡ i = broken-one (subst (λ (k : Form). Broken k file i') (form-one o' o) b') b in
      line-one (ascii "refused") (4 ∷ i ∷ []) t u l (rw same at l')
  map-text-decides t u (says.broken {f} o b l) (says.laid {f = f'} {h} o' s y x) =
      absurd (not-both b (subst (λ (k : Form). Sound k file h) (form-one o' o) s))
  map-text-decides t u (says.laid {f} {h} o s y x) (says.broken {f = f'} o' b l) =
      absurd (not-both b (subst (λ (k : Form). Sound k file h) (form-one o o') s))
  map-text-decides t u (says.laid {f} {h} {g} o s l x) (says.laid {f = f'} {h = h'} {g = g'} o' s' l' x') =
      let e : f' ≡ f = form-one o' o in
      let held : h' ≡ h = sound-one (subst (λ (k : Form). Sound k file h') e s') s in
      let one : g' ≡ g =
      layout-one (subst (λ (k : Held). Layout f k fill g') held (subst (λ (k : Form). Layout k h' fill g') e l')) l in
      same_layout f g t u x
      (subst (λ (k : Given). (old : Lent) → Lends old → (y : Outcome) × LaidSays k page old y × Prints k f y u) one
      (subst (λ (k : Form). (old : Lent) → Lends old → (y : Outcome) × LaidSays g' page old y × Prints g' k y u) e x'))
