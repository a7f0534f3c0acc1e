-- Theorems about what OneBank defines.
use Rattle.std.specs.Prelude.{List, [], ◌≡◌, refl, ℕ, suc, ◌≤◌, length, get_or, take, Option, Ok}
use Rattle.std.proofs.Common.{sym, ap, subst, ◌∙◌, arith, eq-eqb}
use Rattle.std.proofs.lemmas.List.{length-map}
use Rattle.bankdef.specs.Search.{first_where}
use Rattle.output.specs.Output.{Lent}
use Rattle.output.specs.declared.Output.{Output}
use Rattle.form_fields.specs.Kind.{form1, form2, is1}
use Rattle.form_fields.specs.Contents.{Contents, written}
use Rattle.form_fields.specs.Whole.{contents_in, Bytes}
use Rattle.form_build.specs.Filed.{FileBuilt}
use Rattle.form_rewrite.specs.Turning.{strays, turned, widened, to_form2}
use Rattle.form_convert.specs.Convert.{drops_none, ToForm2}
use Rattle.thm_conversions.specs.Says.{input_for}
use Rattle.thm_conversions.specs.Theorems.Conversions.{turned-file}
use Rattle.thm_conversions.specs.Laws.OneBank.{Single, build-raised-in, is-single}
use Rattle.thm_conversions.specs.OneBank.{holding}
use Rattle.thm_conversions.specs.PagedPlaces.{raised_in}

-- So it is with a page size, where 19 comes too.
pub widened-same-build-in : (c : Contents) (fill : ℕ) (page : Option ℕ) {old new : Lent} {r : Output} → Single c → FileBuilt (written form1 c) fill page old r new
    → FileBuilt (written form2 (widened c)) fill page old (raised_in page (input_for form1 c fill) r) new
widened-same-build-in c fill page {old} {new} {r} s =
    subst (λ (d : Contents). Single d → FileBuilt (written form1 d) fill page old r new
    → FileBuilt (written form2 (widened d)) fill page old (raised_in page (input_for form1 d fill) r) new) (is-single c s.one)
    (λ (t : Single (holding (get_or c.banks 0 []) c.nodes c.rows c.values c.limit)).
    build-raised-in (get_or c.banks 0 []) c.nodes c.rows c.values c.limit t.fits t.few t.none fill t.short t.short2 page) s

-- ---- the call

-- What is known of a one-bank file that was converted to form 2: it is the file of contents with one bank, and what was written is that of what they become.
pub converted-single : (file out : List ℕ) (n : ℕ) (new : List ℕ) → Bytes file → ToForm2 file out (Ok n) new
    → length (contents_in form1 file).banks ≡ 1
    → Single (contents_in form1 file) × (file ≡ written form1 (contents_in form1 file)) × (take n new ≡ written form2 (widened (contents_in form1 file)))
converted-single file out n new bytes call one =
    let c = contents_in form1 file in
    let t = turned-file is1 to_form2 drops_none file out n new bytes call in
    let alone = eq-eqb (length c.banks) 1 one in
    let becomes : to_form2 c ≡ widened c = rw alone refl in
    let short2 : length (written form2 (widened c)) ≤ form2.longest = rw becomes at t.answer.short in
    let nodes : length (to_form2 c).nodes ≡ suc (length c.nodes) =
    ap (λ (d : Contents). length d.nodes) becomes ∙ ap suc (length-map c.nodes (turned 1)) in
    let stays : length c.nodes ≤ first_where (strays 0) c.nodes = rw alone at t.answer.none-strays in
    let ok : Single c =
    record { fits = t.fits; one = one; few = omega (arith, nodes, t.answer.few); none = stays; short = t.short; short2 = short2 } in
    (ok, sym t.is, t.made ∙ ap (written form2) becomes)
