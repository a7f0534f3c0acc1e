-- Meets and decides together: what `print_map::write_map` writes is the one text that the sentences leave; and the first 65,537 bytes of an input, which are
-- all that the program reads, have the text of the whole.
use Rattle.std.specs.Prelude.{◌≡◌, List, ◌↔◌, ℕ, ◌≤◌, ◌<◌, length, take, Option}
use Rattle.std.proofs.Common.{sym, ap, subst, ◌∙◌, ⊎_elim, arith, length-take, take_all}
use Rattle.prelude.specs.declared.Refusal.TheVariants.{Malformed}
use Rattle.sort.specs.Laws.Sorted.{le-or-lt}
use Rattle.form_fields.specs.Kind.{kind_of}
use Rattle.form_fields.specs.Laws.Kind.{known-longest}
use Rattle.form_fields.specs.Laws.Rest.{form-long}
use Rattle.form_fields.specs.Theorems.Kind.{kind-known}
use Rattle.form_fields.specs.Whole.{Bytes}
use Rattle.print_map.specs.Text.{refused_text, text_by, map_text}
use Rattle.says.specs.MapText.{MapText}
use Rattle.meets_report.specs.Theorems.Promised.{bytes_take}
use Rattle.meets_map_text.specs.Theorems.Decides.{map-text-decides}
use Rattle.meets_map_text.proofs.Meets.{map-text-meets}

-- the text is the definition's, and nothing else
pub map-text-exactly : (file : List ℕ) → Bytes file → (fill : ℕ) (page : Option ℕ) (text : List ℕ) → MapText file fill page text ↔ (text ≡ map_text file fill page)
map-text-exactly file small fill page text = (
  λ s. map-text-decides file fill page text (map_text file fill page) s (map-text-meets file small fill page),
  λ e. subst (MapText file fill page) (sym e) (map-text-meets file small fill page),
)

-- a file that is longer than the longest is refused 4, place 0, whatever stands in it
longer : (file : List ℕ) (fill : ℕ) (page : Option ℕ) → 65537 ≤ length file → map_text file fill page ≡ refused_text (Malformed 0)
unfolding map_text
longer file fill page h = ap (text_by file fill page) (form-long (kind_of file) file (omega (arith, h, known-longest (kind-known file))))

enough : (input : List ℕ) (fill : ℕ) (page : Option ℕ) → map_text (take 65537 input) fill page ≡ map_text input fill page
enough input fill page =
    ⊎_elim
    (λ (h : 65537 ≤ length input). longer (take 65537 input) fill page (omega (arith, length-take 65537 input)) ∙ sym (longer input fill page h))
    (λ (h : length input < 65537). ap (λ (l : List ℕ). map_text l fill page) (take_all 65537 input (omega arith)))
    (le-or-lt 65537 (length input))

pub map-read-enough : (input : List ℕ) → Bytes input → (fill : ℕ) (page : Option ℕ) (text : List ℕ)
    → MapText (take 65537 input) fill page text → MapText input fill page text
map-read-enough input small fill page text s =
    (map-text-exactly input small fill page text).1
    ((map-text-exactly (take 65537 input) (bytes_take 65537 input small) fill page text).0 s ∙ enough input fill page)
