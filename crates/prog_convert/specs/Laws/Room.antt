-- Laws that Theorems/Room rests on.
use Rattle.std.specs.Prelude.{◌≡◌, refl, Bool, true, false, List, ℕ, ◌≤◌, max, ltb, length, Result, Err, Ok}
use Rattle.std.proofs.Common.{subst, arith, ltb-true, ltb-false}
use Rattle.prelude.specs.Limits.{max_nodes, max_rows}
use Rattle.prelude.specs.Pick.{pick}
use Rattle.prelude.specs.Told.{Told, told_number}
use Rattle.prelude.specs.declared.Refusal.TheVariants.{Malformed, FillBitDropped, TooShort}
use Rattle.prelude.specs.declared.Refusal.{Refusal}
use Rattle.form_fields.specs.Contents.{Contents, written}
use Rattle.form_fields.specs.Kind.{Known}
use Rattle.form_fields.specs.Laws.Kind.{known-longest}
use Rattle.form_fields.specs.Shape.{form_in}
use Rattle.form_fields.specs.Told.{FormTold, told_form, long, no-head, no-values, no-limit, extra, sound}
use Rattle.form_fields.specs.Theorems.Told.{form-told}
use Rattle.form_fields.specs.Whole.{contents_in}
use Rattle.form_fields.specs.declared.Kind.{Kind}
use Rattle.form_fields.specs.declared.Shape.{Shape}
use Rattle.form_convert.specs.Convert.{stray, answer_of, answer_by}
use Rattle.prog_convert.specs.Room.{Held, longest_file}

module _ (room : ℕ) where
  choice : (t : Bool) (x y : Result ℕ Refusal) → Held room x → Held room y → Held room (pick t x y)
  choice true x y a b = a
  choice false x y a b = b

  malformed : (place : ℕ) → Held room (Err (Malformed place))
  malformed place = record { not-14 = λ e. omega arith; within = omega arith }

  dropped : Held room (Err FillBitDropped)
  dropped = record { not-14 = λ e. omega arith; within = omega arith }

  module _ (size longest : ℕ) (enough : longest ≤ room) (drops : Bool) where
    last : (t : Bool) → ltb room size ≡ t → size ≤ longest → Held room (pick t (Err (TooShort 0)) (Ok size))
    last true e h = absurd (omega (arith, ltb-true room size e))
    last false e h = record { not-14 = λ e. omega arith; within = omega arith }

    sized : (t : Bool) → ltb longest size ≡ t
        → Held room (pick t (Err (Malformed 0)) (pick drops (Err FillBitDropped) (pick (ltb room size) (Err (TooShort 0)) (Ok size))))
    sized true e = malformed 0
    sized false e =
        choice drops (Err FillBitDropped) (pick (ltb room size) (Err (TooShort 0)) (Ok size)) dropped
        (last (ltb room size) refl (ltb-false longest size e))

    answer-held : (nodes rows first count : ℕ) → Held room (answer_of nodes rows first count size longest drops room)
    unfolding answer_of
    answer-held nodes rows first count =
        choice (ltb max_nodes nodes) _ _ (malformed 0)
        (choice (ltb max_rows rows) _ _ (malformed 1) (choice (ltb first count) _ _ (malformed first) (sized (ltb longest size) refl)))

-- a broken file is 4
four-or-none : {k : Kind} {file : List ℕ} {t : Told Shape} → FormTold k file t → told_number t ≡ 14 → ⊥
four-or-none (long h) e = omega arith
four-or-none (no-head h a) e = omega arith
four-or-none (no-values h a b) e = omega arith
four-or-none (no-limit h a b c) e = omega arith
four-or-none (extra h a b c d) e = omega arith
four-or-none (sound h a b c d) e = omega arith

module _ (from : Kind) {to : Kind} (known : Known to) (turn : Contents → Contents) (drops : Contents → Bool) (file : List ℕ) (room : ℕ)
    (enough : longest_file ≤ room) where
  abbrev pub said : Contents
  said = contents_in from file

  pub by_form : (f : Result Shape Refusal) → form_in from file ≡ f → Held room (answer_by to f said (turn said) (drops said) room)
  by_form (Err why) e =
      record {
        not-14 = four-or-none (subst (λ (g : Result Shape Refusal). FormTold from file (told_form g)) e (form-told from file));
        within = omega arith;
      }
  by_form (Ok s) e =
      answer-held room (length (written to (turn said))) to.longest (omega (arith, known-longest known)) (drops said)
      (max (length said.nodes) (length (turn said).nodes)) (length said.rows) (stray said) (length said.nodes)
