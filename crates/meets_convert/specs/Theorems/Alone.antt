-- A one-bank form 2 file that uses bank 0 is refused 9, and is accepted once it has gone back to form 1 (docs/DECISIONS.md): one bank of unit 8, a reserve of
-- 8 bits, limit 1, in both forms.
use Rattle.std.specs.Prelude.{◌≡◌, refl, Bool, true, ◌&&◌, List, [], ◌∷◌, ℕ, ltb, replicate, None, Result}
use Rattle.std.proofs.Common.{ap, ◌∙◌, ltb-true}
use Rattle.prelude.specs.Laws.Bools.{both}
use Rattle.prelude.specs.declared.Refusal.{Refusal}
use Rattle.form_fields.specs.Contents.{bytes16, field, flat, written}
use Rattle.form_fields.specs.Kind.{form1, form2}
use Rattle.form_fields.specs.Whole.{Bytes}
use Rattle.form_rewrite.specs.Turning.{to_form1}
use Rattle.thm_conversions.specs.Alone.{reserve}
use Rattle.thm_conversions.specs.Theorems.Alone.{alone-refused-in-form2, alone-accepted-in-form1}
use Rattle.form_build.specs.Filed.{file_output}
use Rattle.output.specs.Output.{room_of}
use Rattle.output.specs.declared.Built.{Built}
use Rattle.c_answers.specs.Told.{build_told, layout_told}
use Rattle.c_answers.specs.declared.DkLayout.{DkLayout}
use Rattle.record_lines.specs.Laws.Spelled.{bytes-none, bytes-cons}
use Rattle.says.specs.Build.{Lent, Outcome}
use Rattle.says.specs.Form.{FormSays}
use Rattle.meets_build.specs.Theorems.Meets.{lent_of}
use Rattle.meets_form.specs.Theorems.FormExactly.{form-told}
use Rattle.meets_convert.specs.Built.{unpadded}

abbrev pub in_form2 : List ℕ
in_form2 =
    16 ∷ 0 ∷ 1 ∷ 2 ∷ 17 ∷ 0 ∷ 24 ∷ 0 ∷ 8 ∷ 0 ∷ 0 ∷ 0 ∷ 0 ∷ 0 ∷ 0 ∷ 0 ∷ 0 ∷ 0 ∷ 0 ∷ 0 ∷ 0 ∷ 0 ∷ 0 ∷ 0 ∷ 0 ∷ 0 ∷ 0 ∷ 0 ∷ 0 ∷ 0 ∷ 0
    ∷ 2 ∷ 0 ∷ 5 ∷ 7 ∷ 0 ∷ 0 ∷ 0 ∷ 0 ∷ 3 ∷ 0 ∷ 5 ∷ 0 ∷ 0 ∷ 0 ∷ 8 ∷ 0 ∷ 4 ∷ 0 ∷ 0 ∷ 5 ∷ 0 ∷ 1 ∷ 1 ∷ []

abbrev pub in_form1 : List ℕ
in_form1 =
    1 ∷ 0 ∷ 23 ∷ 0 ∷ 8 ∷ 0 ∷ 0 ∷ 0 ∷ 0 ∷ 0 ∷ 0 ∷ 0 ∷ 0 ∷ 0 ∷ 0 ∷ 0 ∷ 0 ∷ 0 ∷ 0 ∷ 0 ∷ 0 ∷ 0 ∷ 0 ∷ 0 ∷ 0 ∷ 0
    ∷ 2 ∷ 0 ∷ 5 ∷ 7 ∷ 0 ∷ 0 ∷ 0 ∷ 0 ∷ 3 ∷ 0 ∷ 5 ∷ 0 ∷ 0 ∷ 0 ∷ 8 ∷ 0 ∷ 4 ∷ 0 ∷ 0 ∷ 5 ∷ 0 ∷ 1 ∷ 1 ∷ []

is-2 : in_form2 ≡ written form2 reserve
unfolding written flat field bytes16
is-2 = refl

is-1 : in_form1 ≡ written form1 (to_form1 reserve)
unfolding written flat field bytes16
is-1 = refl

-- they hold bytes
unfoldable small : List ℕ → Bool
small [] = true
small (b ∷ l) = ltb b 256 && small l

small_bytes : (l : List ℕ) → small l ≡ true → Bytes l
unfolding small
small_bytes [] e = bytes-none
small_bytes (b ∷ l) e =
    let p = both (ltb b 256) (small l) e in
    bytes-cons b l (ltb-true b 256 p.0) (small_bytes l p.1)

bytes_2 : Bytes in_form2
unfolding small
bytes_2 = small_bytes in_form2 refl

bytes-1 : Bytes in_form1
unfolding small
bytes-1 = small_bytes in_form1 refl

-- 9 with node 0, after one pass,
pub alone-is-9 : (old : Lent) (o : Outcome) → FormSays in_form2 0 old o
    → o.answer ≡ record { refusal = 9; place = 0; second = 0; passes = 1; k = 0; length = 0; spans = 0; padding = replicate 16 unpadded }
alone-is-9 old o says =
    let room = room_of (lent_of old) in
    (form-told in_form2 bytes_2 0 old o says).answer ∙ ap (λ (f : List ℕ). layout_told (file_output f 0 None room)) is-2
    ∙ ap layout_told (alone-refused-in-form2 room)

-- and accepted in form 1.
pub alone-accepted : (old : Lent) (o : Outcome) → FormSays in_form1 0 old o → o.answer.refusal ≡ 0
alone-accepted old o says =
    let room = room_of (lent_of old) in
    let x = file_output (written form1 (to_form1 reserve)) 0 None room in
    ap (λ (r : DkLayout). r.refusal)
    ((form-told in_form1 bytes-1 0 old o says).answer ∙ ap (λ (f : List ℕ). layout_told (file_output f 0 None room)) is-1)
    ∙ ap (λ (b : Result Built Refusal). (build_told b x.passes x.padding).refusal) (alone-accepted-in-form1 room)
