-- What the fields of a file become, in the sentences and in the definitions: the same, both ways.
use Rattle.std.specs.Prelude.{◌≡◌, refl, Bool, true, false, not, ◌&&◌, List, [], ◌∷◌, ◌++◌, map, ℕ, zero, suc, ◌+◌, ◌*◌, ◌≤◌, ◌<◌, eqb, length, get_or, take, drop, replicate}
use Rattle.std.proofs.Common.{sym, ap, ap₂, subst, ◌∙◌, arith, ext_get_or, eqb-true, eq-eqb, ne_eqb}
use Rattle.std.proofs.Math.Decide.{dec_le}
use Rattle.std.proofs.lemmas.List.{length-map}
use Rattle.std.proofs.lemmas.Bool.{eqb-false, not-true, not-false}
use Rattle.prelude.specs.Laws.Bools.{either, both, clash}
use Rattle.prelude.specs.Pick.{pick}
use Rattle.bankdef.specs.Search.{first_where}
use Rattle.bankdef.specs.Laws.Search.{not-before, first_passes}
use Rattle.form_fields.specs.Contents as made
use Rattle.form_fields.specs.Contents.{Contents}
use Rattle.form_fields.specs.Kind.{form1, form2}
use Rattle.form_rewrite.specs.Turning.{switch_to, is_switch, names_bank, strays, zeros}
use Rattle.form_rewrite.specs.Turning.{lengthened, widened, alone, to_form2, shortened, narrowed, shaped, to_form1}
use Rattle.form_rewrite.specs.Turning as turning
use Rattle.form_rewrite.specs.Laws.Fitting.{narrowed-fits, shape_two, shape-some}
use Rattle.thm_conversions.specs.Laws.ThereAndBack.{first-within}
use Rattle.thm_conversions.specs.Theorems.RoundTrips.{widened-shaped, narrowed-back, widened-again}
use Rattle.thm_conversions.specs.Laws.Shaped.{none-stray}
use Rattle.says.specs.Files.{four, Held, Form, form-1, form-2}
use Rattle.says.specs.Files as files
use Rattle.meets_form.specs.Laws.Written.{kind, held, contents, fits-so, so-fits}
use Rattle.says.specs.Convert as says
use Rattle.says.specs.Convert.{switch, Turned, Widened, each_bank, NamesOther, ShapeOf, Becomes}

-- ---- lists

pub map_at : {A B : Type 0} (f : A → B) (l : List A) (i : ℕ) (d : A) (e : B) → i < length l → get_or (map f l) i e ≡ f (get_or l i d)
map_at f [] i d e less = absurd (omega arith)
map_at f (x ∷ l) zero d e less = refl
map_at f (x ∷ l) (suc i) d e less = map_at f l i d e (omega arith)

-- a list made of another, thing by thing
map_is : {A B : Type 0} (f : A → B) (l : List A) (m : List B) (d : A) (e : B) → length m ≡ length l → ((i : ℕ) → i < length l → get_or m i e ≡ f (get_or l i d))
    → m ≡ map f l
map_is f l m d e long each =
    ext_get_or e m (map f l) (long ∙ sym (length-map l f)) (λ i less.
    let there : i < length l = omega (arith, long) in
    each i there ∙ sym (map_at f l i d e there))

-- ---- nodes

-- a switch to another bank than 0
abbrev pub Strays : List ℕ → Type 0
Strays node = (get_or node 0 0 ≡ 1) × (four node 1 ≡ 0 → ⊥)

-- a switch to another bank, by its bytes
pub strays-of : (node : List ℕ) → strays 0 node ≡ true → Strays node
strays-of node e =
    let p = both (is_switch node) (not (names_bank 0 node)) e in
    (eqb-true (get_or node 0 0) 1 p.0, λ z. clash (names z) (not-true (names_bank 0 node) p.1))
  where
    names : four node 1 ≡ 0 → names_bank 0 node ≡ true
    names z =
        rw (
          eq-eqb (get_or node 1 0) 0 (omega (arith, z)),
          eq-eqb (get_or node 2 0) 0 (omega (arith, z)),
          eq-eqb (get_or node 3 0) 0 (omega (arith, z)),
          eq-eqb (get_or node 4 0) 0 (omega (arith, z)),
        )

pub of-strays : (node : List ℕ) → Strays node → strays 0 node ≡ true
of-strays node s =
    either (names_bank 0 node)
    (λ t.
    let a = both (eqb (get_or node 1 0) 0) _ t in
    let b = both (eqb (get_or node 2 0) 0) _ a.1 in
    let c = both (eqb (get_or node 3 0) 0) (eqb (get_or node 4 0) 0) b.1 in
    let x = eqb-true (get_or node 1 0) 0 a.0 in
    let y = eqb-true (get_or node 2 0) 0 b.0 in
    let z = eqb-true (get_or node 3 0) 0 c.0 in
    let w = eqb-true (get_or node 4 0) 0 c.1 in
    absurd (s.1 (omega (arith, x, y, z, w))))
    (λ t. rw (eq-eqb (get_or node 0 0) 1 s.0, t))

turned_so : (node : List ℕ) → Turned node (turning.turned 1 node)
turned_so node =
    either (is_switch node)
    (λ t. subst (Turned node) (sym (ap (λ (b : Bool). pick b (switch_to 1) node) t)) (says.turned (eqb-true (get_or node 0 0) 1 t)))
    (λ t. subst (Turned node) (sym (ap (λ (b : Bool). pick b (switch_to 1) node) t)) (says.same (eqb-false (get_or node 0 0) 1 t)))

so-turned : (node x : List ℕ) → Turned node x → x ≡ turning.turned 1 node
so-turned node x (says.turned e) = sym (ap (λ (b : Bool). pick b (switch_to 1) node) (eq-eqb (get_or node 0 0) 1 e))
so-turned node x (says.same e) = sym (ap (λ (b : Bool). pick b (switch_to 1) node) (ne_eqb (get_or node 0 0) 1 e))

-- no switch of a one-bank file names another bank
pub none-names : (c : Contents) → ((i : ℕ) → NamesOther (held c) i → ⊥) → length c.banks ≡ 1 → length c.nodes ≤ first_where (strays 0) c.nodes
none-names c none one =
    elim (dec_le (length c.nodes) (first_where (strays 0) c.nodes)) [
      | yes le ↦ le
      | no gt ↦
          let less : first_where (strays 0) c.nodes < length c.nodes = omega arith in
          let node = get_or c.nodes (first_where (strays 0) c.nodes) [] in
          let s = strays-of node (first_passes (strays 0) [] c.nodes less) in
          absurd (none (first_where (strays 0) c.nodes) (one, less, s.0, s.1))
    ]

-- ---- to form 2

pub widened-so : (c : Contents) → length c.banks ≡ 1 → Widened (held c) (held (widened c))
widened-so c one =
    record {
      one = one;
      banks = refl;
      count = ap suc (length-map c.nodes (turning.turned 1));
      ahead = refl;
      nodes = λ i less. subst (Turned (get_or c.nodes i [])) (sym (map_at (turning.turned 1) c.nodes i [] [] less)) (turned_so (get_or c.nodes i []));
      rows = (length-map c.rows (λ (row : List ℕ). zeros 5 ++ row), λ r less. map_at (λ (row : List ℕ). zeros 5 ++ row) c.rows r [] [] less);
      values = refl;
      limit = refl;
    }

same-held : {h d : Held} → h.banks ≡ d.banks → h.nodes ≡ d.nodes → h.rows ≡ d.rows → h.values ≡ d.values → h.limit ≡ d.limit → h ≡ d
same-held p q r v l = λ i. record { banks = p i; nodes = q i; rows = r i; values = v i; limit = l i }

pub so-widened : (h d : Held) → Widened h d → d ≡ held (widened (contents h))
so-widened h d w =
    same-held w.banks
    (ext_get_or [] d.nodes (switch_to 1 ∷ map (turning.turned 1) h.nodes) (w.count ∙ ap suc (sym (length-map h.nodes (turning.turned 1)))) node-is)
    (map_is (λ (row : List ℕ). zeros 5 ++ row) h.rows d.rows [] [] w.rows.0 w.rows.1) w.values w.limit
  where
    node-is : (i : ℕ) → i < length d.nodes → get_or d.nodes i [] ≡ get_or (switch_to 1 ∷ map (turning.turned 1) h.nodes) i []
    node-is zero less = w.ahead
    node-is (suc i) less =
        let there : i < length h.nodes = omega (arith, w.count) in
        so-turned (get_or h.nodes i []) (get_or d.nodes (suc i) []) (w.nodes i there) ∙ sym (map_at (turning.turned 1) h.nodes i [] [] there)

-- ---- the shape

pub shape-so : (c : Contents) → made.Fits form2 c → shaped c ≡ true → ShapeOf (held (narrowed c)) (held c)
shape-so c fits e =
    let n = narrowed c in (
      so-fits form-1 n (narrowed-fits c fits (shape_two c e) (shape-some c e)),
      λ i x.
          let first = not-before (strays 0) [] n.nodes i x.1 (of-strays (get_or n.nodes i []) (x.2, x.3)) in
          omega (arith, x.1, first, none-stray (drop 1 c.nodes)),
      subst (λ (d : Contents). Widened (held n) (held d)) (widened-again c fits e) (widened-so n refl),
    )

pub so-shape : (d h : Held) → ShapeOf d h → (shaped (contents h) ≡ true) × (d ≡ held (narrowed (contents h)))
so-shape d h s =
    let c = contents d in
    let fits = fits-so s.0 in
    let one = s.2.one in
    let alone-is : alone c ≡ true = eq-eqb (length c.banks) 1 one in
    let is : h ≡ held (widened c) = so-widened d h s.2 in
    let none = none-names c s.1 one in
    let exact : first_where (strays 0) c.nodes ≡ length c.nodes = omega (arith, none, first-within (strays 0) c.nodes) in (
      ap (λ (x : Held). shaped (contents x)) is ∙ widened-shaped c fits alone-is,
      ap held (sym (ap (λ (x : Held). narrowed (contents x)) is ∙ narrowed-back c fits alone-is exact)),
    )

-- ---- what a file becomes

abbrev pub other : Form → Form
other form-1 = form-2
other form-2 = form-1

abbrev pub turn : Form → Contents → Contents
turn form-1 = to_form2
turn form-2 = to_form1

pub becomes-so : (f : Form) (c : Contents) → made.Fits (kind f) c → Becomes (held c) f (other f) (held (turn f c))
becomes-so form-1 c fits =
    either (alone c)
    (λ t. subst (λ (d : Contents). Becomes (held c) form-1 form-2 (held d)) (sym (ap (λ (b : Bool). pick b (widened c) (lengthened c)) t))
    (says.one-bank (widened-so c (eqb-true (length c.banks) 1 t))))
    (λ t. subst (λ (d : Contents). Becomes (held c) form-1 form-2 (held d)) (sym (ap (λ (b : Bool). pick b (widened c) (lengthened c)) t))
    (says.longer (eqb-false (length c.banks) 1 t) refl))
becomes-so form-2 c fits =
    either (shaped c)
    (λ t. subst (λ (d : Contents). Becomes (held c) form-2 form-1 (held d)) (sym (ap (λ (b : Bool). pick b (narrowed c) (shortened c)) t))
    (says.shape (shape-so c fits t)))
    (λ t. subst (λ (d : Contents). Becomes (held c) form-2 form-1 (held d)) (sym (ap (λ (b : Bool). pick b (narrowed c) (shortened c)) t))
    (says.shorter (λ e s. clash (so-shape e (held c) s).0 t) refl))

pub to-other : {f to : Form} {h d : Held} → Becomes h f to d → to ≡ other f
to-other (says.one-bank w) = refl
to-other (says.longer more e) = refl
to-other (says.shape s) = refl
to-other (says.shorter none e) = refl

pub so-becomes : (f : Form) (h d : Held) → made.Fits (kind f) (contents h) → Becomes h f (other f) d → d ≡ held (turn f (contents h))
so-becomes form-1 h d fits (says.one-bank w) =
    so-widened h d w
    ∙ sym (ap (λ (b : Bool). held (pick b (widened (contents h)) (lengthened (contents h)))) (eq-eqb (length h.banks) 1 w.one))
so-becomes form-1 h d fits (says.longer more e) =
    e
    ∙ sym (ap (λ (b : Bool). held (pick b (widened (contents h)) (lengthened (contents h)))) (ne_eqb (length h.banks) 1 more))
so-becomes form-2 h d fits (says.shape s) =
    let p = so-shape d h s in
    p.1 ∙ sym (ap (λ (b : Bool). held (pick b (narrowed (contents h)) (shortened (contents h)))) p.0)
so-becomes form-2 h d fits (says.shorter none e) =
    e
    ∙ sym (ap (λ (b : Bool). held (pick b (narrowed (contents h)) (shortened (contents h))))
    (either (shaped (contents h)) (λ t. absurd (none _ (shape-so (contents h) fits t))) (λ t. t)))
