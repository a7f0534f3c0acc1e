-- What the map's program prints for a file, by the definitions, says the sentences: a broken file is its refusal's line; a sound one has the text of its
-- layout.
use Rattle.std.specs.Prelude.{◌≡◌, refl, List, [], ℕ, ◌≤◌, ◌<◌, length, get_or, Option, Err, Ok, Result}
use Rattle.std.proofs.Math.Path.{sym, subst}
use Rattle.std.proofs.Common.{◌∙◌, arith}
use Rattle.form_fields.specs.declared.Shape.{Shape}
use Rattle.prelude.specs.declared.Refusal.{Refusal}
use Rattle.prelude.specs.declared.Refusal.TheVariants.{Malformed}
use Rattle.form_fields.specs.Laws.Columns.{column-length}
use Rattle.form_fields.specs.Shape.{shape_in, form_of}
use Rattle.form_fields.specs.Whole.{Bytes, contents_in}
use Rattle.output.specs.Output.{Input}
use Rattle.print_map.specs.Text.{map_in, layout_text, text_by, map_text}
use Rattle.says.specs.Build.{Given, banks, flag, nodes}
use Rattle.says.specs.Files as files
use Rattle.says.specs.Files.{Form, form-1, form-2, Sound, Bank}
use Rattle.says.specs.Map.{Outcome}
use Rattle.says.specs.MapText as says
use Rattle.says.specs.MapText.{Prints, LaidSays, MapText}
use Rattle.meets_build.specs.Laws.Table.{table}
use Rattle.meets_form.specs.Laws.FileSo as so
use Rattle.meets_form.specs.Laws.FileSo.{FileSo, file-so}
use Rattle.meets_form.specs.Laws.Read.{given_by, layout_is, typed, count-is}
use Rattle.meets_form.specs.Laws.Written.{kind, held}
use Rattle.meets_map_text.specs.Laws.Shown.{refused-meets}
use Rattle.meets_map_text.proofs.LayoutMeets.{Shaped, layout-meets}

bank-flags : (f : Form) (p : List ℕ) → Bank p f → get_or p 22 0 ≤ 15
bank-flags form-1 p (files.of-1 e l) = l
bank-flags form-2 p (files.of-2 e l m) = l

module _ (file : List ℕ) (small : Bytes file) (fill : ℕ) where
  module _ (f : Form) (sound : Sound f file (held (contents_in (kind f) file))) where
    abbrev g : Given
    g = given_by f file fill

    flags-few : (i : ℕ) → i < banks g → flag g i ≤ 15
    flags-few i h =
        let l = layout_is f file fill small in
        let less : i < length (held (contents_in (kind f) file)).banks = omega (arith, h, l.units.0) in
        let few = bank-flags f (get_or (held (contents_in (kind f) file)).banks i []) (sound.fits.banks i less) in
        omega (arith, few, l.flags.1 i less)

    counted : (table g).len ≡ banks g
    counted = count-is f file fill ∙ sym (column-length _ _ _ _)

    shaped : (f : Form) → Shaped (given_by f file fill) f (shape_in (kind f) file)
    unfolding shape_in
    shaped form-1 = record { form = refl; limit = refl; rows = refl; nodes = sym (column-length _ _ _ _) }
    shaped form-2 = record { form = refl; limit = refl; rows = refl; nodes = sym (column-length _ _ _ _) }

  module _ (page : Option ℕ) where
    text-by : (x : Result Shape Refusal) → form_of file ≡ x → MapText file fill page (text_by file fill page x) → MapText file fill page (map_text file fill page)
    unfolding map_text
    text-by x e t = subst (λ (y : Result Shape Refusal). MapText file fill page (text_by file fill page y)) (sym e) t

    by : FileSo file small fill → MapText file fill page (map_text file fill page)
    by (so.broken {i = i} of x e) = text-by (Err (Malformed i)) e (says.broken of x (refused-meets (Malformed i)))
    by (so.sound {f = f} {s = s} of x e shape same) =
        text-by (Ok s) e
        (says.laid of x (layout_is f file fill small) (λ old lends.
        subst (λ (b : Input). (y : Outcome) × LaidSays (given_by f file fill) page old y × Prints (given_by f file fill) f y (layout_text s b (map_in page b)))
        (sym same)
        (layout-meets (given_by f file fill) (typed f file fill small) (counted f x) (flags-few f x) f s
        (subst (Shaped (given_by f file fill) f) (sym shape) (shaped f x f)) old
        (record { banks = lends.0; positions = lends.1; outputs = lends.2; sizes = lends.3 }) page)))

    pub map-text-meets : MapText file fill page (map_text file fill page)
    map-text-meets = by (file-so file small fill)
