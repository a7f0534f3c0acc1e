-- Laws of what is handed on: a converted file is as long as the answer says, and stands in the front of the buffer.
use Rattle.std.specs.Prelude.{◌≡◌, Bool, true, false, List, ℕ, ◌+◌, ◌≤◌, min, max, ltb, length, take, drop, Result, Ok, Err}
use Rattle.std.proofs.Math.Path.{refl}
use Rattle.std.proofs.Common.{sym, ap, subst, ◌∙◌, arith, length-append, take_at}
use Rattle.std.proofs.Math.Seq.{length-sets}
use Rattle.std.proofs.lemmas.List.Edits.{sets-eq}
use Rattle.prelude.specs.Limits.{max_nodes, max_rows}
use Rattle.prelude.specs.Pick.{pick}
use Rattle.prelude.specs.declared.Refusal.{Refusal}
use Rattle.prelude.specs.declared.Refusal.TheVariants.{Malformed, FillBitDropped, TooShort}
use Rattle.form_fields.specs.Contents.{Contents, written}
use Rattle.form_fields.specs.Kind.{Known}
use Rattle.form_fields.specs.Shape.{form_in}
use Rattle.form_fields.specs.Whole.{contents_in}
use Rattle.form_fields.specs.declared.Kind.{Kind}
use Rattle.form_fields.specs.declared.Shape.{Shape}
use Rattle.form_convert.specs.Convert.{stray, answer_of, answer_by, Converts}
use Rattle.print_text.specs.Puts.{Writes}
use Rattle.prog_args.specs.Text.{Shows}
use Rattle.meets_texts.specs.Printed.{file_room, printed, way_text}
use Rattle.prog_convert.specs.Program.{Handed}
use Rattle.prog_convert.specs.Theorems.Room.{conversion-held}

-- an answer that is given says this size
abbrev Says : ℕ → Result ℕ Refusal → Type 0
Says size (Ok n) = n ≡ size
Says size (Err why) = Unit {0}

pub record Sized (size : ℕ) (answer : Result ℕ Refusal) : Type 0 where
  pub says : Says size answer

module _ (size : ℕ) where
  either : (t : Bool) (x y : Result ℕ Refusal) → Sized size x → Sized size y → Sized size (pick t x y)
  either true x y a b = a
  either false x y a b = b

  none : (why : Refusal) → Sized size (Err why)
  none why = record { says = tt }

  answer-sized : (nodes rows first count longest : ℕ) (drops : Bool) (room : ℕ) → Sized size (answer_of nodes rows first count size longest drops room)
  unfolding answer_of
  answer-sized nodes rows first count longest drops room =
      either (ltb max_nodes nodes) _ _ (none (Malformed 0))
      (either (ltb max_rows rows) _ _ (none (Malformed 1))
      (either (ltb first count) _ _ (none (Malformed first))
      (either (ltb longest size) _ _ (none (Malformed 0))
      (either drops _ _ (none FillBitDropped)
      (either (ltb room size) _ _ (none (TooShort 0)) (record { says = refl }))))))

by-sized : (k : Kind) (f : Result Shape Refusal) (c d : Contents) (drops : Bool) (room : ℕ) → Sized (length (written k d)) (answer_by k f c d drops room)
by-sized k (Err why) c d drops room = record { says = tt }
by-sized k (Ok s) c d drops room =
    answer-sized (length (written k d)) (max (length c.nodes) (length d.nodes)) (length c.rows) (stray c) (length c.nodes) k.longest drops room

-- Text that is written from the front on, and handed on as far as it goes.
pub shows-written : {text old new : List ℕ} {end : ℕ} (count : ℕ) → Writes text old 0 end new → end ≤ length old → count ≡ min end (length new)
    → Shows text count new
shows-written {text} {old} {new} {end} count w fits e =
    let long : length new ≡ length old = ap length w.buffer ∙ length-sets old 0 text in
    let counted : count ≡ length text = omega (arith, w.place) in
    record {
      counted = counted;
      front = ap (take count) (w.buffer ∙ sets-eq text old 0 (omega (arith, w.place))) ∙ take_at text (drop (0 + length text) old) count (sym counted);
    }

-- What a conversion left and what was handed on of it make what the program prints.
module _ (from to : Kind) (turn : Contents → Contents) (drops : Contents → Bool) (file old new : List ℕ) (known : Known to)
    (room : length old ≡ file_room) where
  abbrev result : List ℕ
  result = written to (turn (contents_in from file))

  by_answer : (count : ℕ) (last : List ℕ) (a : Result ℕ Refusal) → Converts from to turn drops file old a new → Handed a new count last
      → Shows (printed a result) count last
  by_answer count last (Err why) q h = h
  by_answer count last (Ok n) q h =
      let c = contents_in from file in
      let size = (subst (Sized (length result)) (sym q.is) (by-sized to (form_in from file) c (turn c) (drops c) (length old))).says in
      let held = (conversion-held known (omega (arith, room)) q).within in
      let long = ap length q.out ∙ length-append result (drop (length result) old) in
      let counted : count ≡ length result = omega (arith, h.0, size, long) in
      record {
        counted = counted;
        front = ap (take count) (h.1 ∙ q.out) ∙ take_at result (drop (length result) old) count (sym counted);
      }

  pub handed-shows : {answer : Result ℕ Refusal} {count : ℕ} {last : List ℕ} → Converts from to turn drops file old answer new → Handed answer new count last
      → Shows (way_text from to turn drops file) count last
  handed-shows {answer} {count} {last} p h =
      let c = contents_in from file in
      subst (λ (a : Result ℕ Refusal). Shows (printed a result) count last)
      (p.is ∙ ap (answer_by to (form_in from file) c (turn c) (drops c)) room)
      (by_answer count last answer p h)
