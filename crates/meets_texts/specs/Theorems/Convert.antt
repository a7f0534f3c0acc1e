-- `prog_convert`: its text meets the sentences, and they leave one.
use Rattle.std.specs.Prelude.{◌≡◌, refl, Bool, true, false, List, [], ◌∷◌, ◌⊎◌, ℕ, ◌<◌, eqb, ltb, length, take, drop, Result, Ok, Err}
use Rattle.std.proofs.Common.{sym, ap, subst, ◌∙◌, inl, inr, arith, take_at, eqb-true}
use Rattle.std.proofs.lemmas.Bool.{eqb-false}
use Rattle.form_fields.specs.declared.Shape.{Shape}
use Rattle.prelude.specs.Laws.Bools as bools
use Rattle.prelude.specs.Limits.{max_nodes, max_rows}
use Rattle.prelude.specs.Pick.{pick}
use Rattle.prelude.specs.Refusals.{number_of, place_of}
use Rattle.prelude.specs.Theorems.Told.{number-some}
use Rattle.prelude.specs.declared.Refusal.{Refusal}
use Rattle.form_fields.specs.Contents.{Contents, written}
use Rattle.form_fields.specs.Kind.{form1, form2}
use Rattle.form_fields.specs.Shape.{form_in}
use Rattle.form_fields.specs.Whole.{Bytes, contents_in}
use Rattle.form_convert.specs.Convert.{answer_of, answer_by, out_after}
use Rattle.c_answers.specs.Counts.{conversion_count}
use Rattle.c_answers.specs.Told.{first_of}
use Rattle.c_answers.specs.declared.DkCount.{DkCount}
use Rattle.print_text.specs.Ascii.{ascii}
use Rattle.print_text.specs.Lines.{place_numbers, refusal_text}
use Rattle.meets.specs.Laws.Words.{OneOnly}
use Rattle.meets_form.specs.Laws.Breaks.{form-broken}
use Rattle.meets_form.specs.Laws.Written.{kind}
use Rattle.meets_convert.specs.Laws.Answers.{drops_of}
use Rattle.meets_convert.specs.Laws.Turns.{turn, other}
use Rattle.meets_convert.specs.Theorems.Decides.{convert-decides}
use Rattle.meets_convert.specs.Theorems.Meets.{convert-meets}
use Rattle.says.specs.Files.{Form, form-1, form-2}
use Rattle.says.specs.Convert.{Outcome, ConvertSays}
use Rattle.says.specs.Lines.{Line}
use Rattle.says.specs.Texts as says
use Rattle.says.specs.Texts.{Prints, ConvertText}
use Rattle.meets_report.specs.Laws.Lines.{line-one, line-meets}
use Rattle.meets_texts.specs.Laws.AnyRoom.{some-list}
use Rattle.meets_texts.specs.Printed.{printed, form1_text, form2_text, convert_text}

module _ (f : Form) (file : List ℕ) where
  abbrev contents : Contents
  contents = contents_in (kind f) file

  abbrev result : List ℕ
  result = written (kind (other f)) (turn f contents)

  abbrev answer_in : ℕ → Result ℕ Refusal
  answer_in room = answer_by (kind (other f)) (form_in (kind f) file) contents (turn f contents) (drops_of f contents) room

-- ---- an answer that is given says the result's size, and a refusal's place is one number

abbrev Plain : ℕ → Result ℕ Refusal → Type 0
Plain size (Ok n) = n ≡ size
Plain size (Err why) = place_numbers (place_of why) ≡ first_of (place_of why) ∷ []

record Sized (size : ℕ) (answer : Result ℕ Refusal) : Type 0 where
  is : Plain size answer

either : {size : ℕ} (t : Bool) {x y : Result ℕ Refusal} → Sized size x → Sized size y → Sized size (pick t x y)
either true a b = a
either false a b = b

answer-sized : (nodes rows first count size longest : ℕ) (drops : Bool) (room : ℕ) → Sized size (answer_of nodes rows first count size longest drops room)
unfolding answer_of
answer-sized nodes rows first count size longest drops room =
    either (ltb max_nodes nodes) (record { is = refl })
    (either (ltb max_rows rows) (record { is = refl })
    (either (ltb first count) (record { is = refl })
    (either (ltb longest size) (record { is = refl })
    (either drops (record { is = refl })
    (either (ltb room size) (record { is = refl }) (record { is = refl }))))))

module _ (f : Form) (file : List ℕ) (small : Bytes file) where
  sized : (room : ℕ) (g : Result Shape Refusal) → form_in (kind f) file ≡ g
      → Sized (length (result f file)) (answer_by (kind (other f)) g (contents f file) (turn f (contents f file)) (drops_of f (contents f file)) room)
  sized room (Err why) e = record { is = let b = form-broken f file why e in rw b.refusal refl }
  sized room (Ok s) e = answer-sized _ _ _ _ (length (result f file)) _ (drops_of f (contents f file)) room

  abbrev way_in : List ℕ
  way_in = printed (answer_in f file 65537) (result f file)

pub convert-text-meets : (asked : ℕ) (file : List ℕ) → Bytes file → ConvertText asked file (convert_text asked file)
unfolding form1_text form2_text
convert-text-meets asked file small =
    bools.either (eqb asked 1)
    (λ t. rw t (says.converts (inl (eqb-true asked 1 t, refl)) (way-meets form-2)))
    (λ f. rw f (says.converts (inr (eqb-false asked 1 f, refl)) (way-meets form-1)))
  where
    prints : (f : Form) (old : List ℕ) (a : Result ℕ Refusal) → Sized (length (result f file)) a
        → Prints (conversion_count a) (out_after a (result f file) old) (printed a (result f file))
    prints f old (Ok n) s =
        subst (Prints (conversion_count (Ok n)) (out_after (Ok n) (result f file) old))
        (take_at (result f file) (drop (length (result f file)) old) n (sym s.is)) (says.accepted refl)
    prints f old (Err why) s =
        says.refused (number-some why)
        (subst (λ (ns : List ℕ). Line (ascii "refused") (number_of why ∷ ns) (refusal_text why)) s.is
        (line-meets (ascii "refused") (number_of why ∷ place_numbers (place_of why))))

    way-meets : (f : Form) (old : List ℕ) → length old ≡ 65537 → (y : Outcome) × ConvertSays f file old y × Prints y.answer y.out (way_in f file small)
    way-meets f old long =
        let a = answer_in f file (length old) in
        let y : Outcome = record { answer = conversion_count a; out = out_after a (result f file) old } in (
          y,
          convert-meets f file old small y.answer y.out (record { answer = refl; out = refl }),
          subst (λ (n : ℕ). Prints y.answer y.out (printed (answer_in f file n) (result f file))) long
              (prints f old a (sized f file small (length old) (form_in (kind f) file) refl)),
        )

-- ---- they leave one

pub prints-one : (a : DkCount) (out : List ℕ) → OneOnly (Prints a out)
prints-one a out t u (says.refused h l) (says.refused g m) = line-one (ascii "refused") _ t u l m
prints-one a out t u (says.refused h l) (says.accepted e) = absurd (omega arith)
prints-one a out t u (says.accepted e) (says.refused h l) = absurd (omega arith)
prints-one a out t u (says.accepted e) (says.accepted g) = refl

-- the form of the file, by the form that is asked for
abbrev From : ℕ → Form → Type 0
From asked f = ((asked ≡ 1) × (f ≡ form-2)) ⊎ ((asked ≡ 1 → ⊥) × (f ≡ form-1))

from_one : (asked : ℕ) → OneOnly (From asked)
from_one asked f g (inl x) (inl y) = x.1 ∙ sym y.1
from_one asked f g (inl x) (inr y) = absurd (y.0 x.0)
from_one asked f g (inr x) (inl y) = absurd (x.0 y.0)
from_one asked f g (inr x) (inr y) = x.1 ∙ sym y.1

abbrev Each : Form → List ℕ → List ℕ → Type 0
Each f file t = (old : List ℕ) → length old ≡ 65537 → (y : Outcome) × ConvertSays f file old y × Prints y.answer y.out t

each-one : (f : Form) (file t u : List ℕ) → Each f file t → Each f file u → t ≡ u
each-one f file t u p q = go (some-list 65537)
  where
    go : (l : List ℕ) × (length l ≡ 65537) → t ≡ u
    go x =
        let a = p x.0 x.1 in
        let b = q x.0 x.1 in
        prints-one a.0.answer a.0.out t u a.2
        (subst (λ (y : Outcome). Prints y.answer y.out u) (convert-decides f file x.0 b.0 a.0 b.1 a.1) b.2)

pub convert-text-decides : (asked : ℕ) (file : List ℕ) → OneOnly (ConvertText asked file)
convert-text-decides asked file t u (says.converts {f} x p) (says.converts {f = g} y q) =
    each-one f file t u p (subst (λ (h : Form). Each h file u) (from_one asked g f y x) q)
