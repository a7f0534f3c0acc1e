-- What the map's program prints of a layout, by the definitions, says the sentences: it is the text of the outcome of `dk_map` (`map-meets`), in the profile
-- where there is a page size, whatever the lists that are lent hold.
use Rattle.std.specs.Prelude.{◌≡◌, refl, List, [], ◌∷◌, ◌++◌, ℕ, ◌≤◌, ◌<◌, min, replicate, Option, None, Some, Err}
use Rattle.std.proofs.Math.Path.{sym}
use Rattle.std.proofs.Common.{arith}
use Rattle.prelude.specs.Theorems.Told.{number-some}
use Rattle.prelude.specs.Verdict.{Verdict, Accepted}
use Rattle.iter.specs.Step.{no_lost}
use Rattle.iter.specs.declared.Lost.{Lost}
use Rattle.form_fields.specs.declared.Shape.{Shape}
use Rattle.output.specs.Output.{Input}
use Rattle.build_map.specs.Map.{map_of}
use Rattle.c_answers.specs.Maps.{ToldBy, node_told}
use Rattle.print_text.specs.Ascii.{ascii}
use Rattle.print_map.specs.Text.{file_line, nodes_text, said_in, map_after, map_in, layout_text, verdict_text}
use Rattle.says.specs.Build as build
use Rattle.says.specs.Build.{Given, banks, flag, nodes}
use Rattle.says.specs.Files.{Form}
use Rattle.says.specs.Lines.{Line}
use Rattle.says.specs.Map.{Lent, Outcome, refusal, Mapped, MapSays}
use Rattle.says.specs.MapText as says
use Rattle.says.specs.MapText.{form_number, BankLines, NodeLines, FaultLine, Prints, LaidSays}
use Rattle.meets_sentences.specs.Typed.{Typed}
use Rattle.meets_build.specs.Laws.Contract.{input_of}
use Rattle.meets_build.specs.Laws.Table.{table}
use Rattle.meets_form.specs.Laws.Read.{typed}
use Rattle.meets_map.specs.Places.{Places, nothing}
use Rattle.meets_map.specs.Theorems.Meets.{map-meets}
use Rattle.meets_map.specs.Theorems.Promised.{outcome_of, has-outcome}
use Rattle.meets_profile.specs.Laws.Sound.{clear}
use Rattle.meets_profile.specs.Laws.Tried.{cleared}
use Rattle.meets_profile.specs.Laws.Verdicts.{told_as, verdict-says}
use Rattle.meets_report.specs.Laws.Shown.{numbers-meet}
use Rattle.meets_map_text.specs.Laws.Banks.{all-banks-meet}
use Rattle.meets_map_text.specs.Laws.Records.{numbers-meet-line}
use Rattle.meets_map_text.specs.Laws.Shown.{refused-meets, verdict-meets, fault-meets}
use Rattle.meets_map_text.proofs.NodesMeet.{nodes-meet}

-- the shape of a file that says the layout
pub record Shaped (g : Given) (f : Form) (s : Shape) : Type 0 where
  pub form : s.form ≡ form_number f
  pub limit : s.limit ≡ g.limit
  pub rows : s.rows ≡ g.rows
  pub nodes : s.nodes ≡ nodes g

module _ (g : Given) (typed : Typed g) (counted : (table g).len ≡ banks g) (small : (b : ℕ) → b < banks g → flag g b ≤ 15) (f : Form) (s : Shape)
    (shaped : Shaped g f s) (old : Lent) (places : Places old) where
  abbrev b : Input
  b = input_of g typed

  map-says : MapSays g old (outcome_of g typed old places)
  map-says =
      let y = outcome_of g typed old places in
      map-meets g typed old places y.answer y.lent (has-outcome g typed old places)

  -- the outcome by what the profile says
  abbrev comes_to : Verdict → Outcome
  comes_to = told_as g nothing typed (refusal g old) (λ (y : build.Outcome). refusal g old y.answer.refusal y.answer.place y.answer.second)
      (λ number place second. refl) (outcome_of g typed old places)

  laid-meets : (page : Option ℕ) → LaidSays g page old (comes_to (said_in page b))
  laid-meets None = map-says
  laid-meets (Some page) =
      verdict-says g nothing typed (refusal g old) (λ (y : build.Outcome). refusal g old y.answer.refusal y.answer.place y.answer.second)
      (λ number place second. refl) (outcome_of g typed old places) page (Mapped g old)
      (λ c k. cleared g (refusal g old) (clear g typed c) map-says)

  file-line : (n : ℕ) → Line (ascii "file") (form_number f ∷ g.limit ∷ g.rows ∷ n ∷ nodes g ∷ []) (file_line s n)
  file-line n =
      rw (sym shaped.form, sym shaped.limit, sym shaped.rows, sym shaped.nodes)
      (numbers-meet-line (ascii "file") (s.form ∷ s.limit ∷ s.rows ∷ n ∷ s.nodes ∷ []))

  -- an answer as it is told, whatever its verdict
  prints-told : (v : Verdict) (node n c : ℕ) (lost : List Lost) (l : Lent) {banked noded faulted : List ℕ}
      → BankLines g lost (min (banks g) 16) banked → NodeLines g l c noded → FaultLine node faulted
      → Prints g f (record { answer = ToldBy v node n c lost; lent = l }) (file_line s n ++ banked ++ noded ++ faulted ++ verdict_text v)
  prints-told Accepted node n c lost l x y z = says.prints (file-line n) x y z (verdict-meets Accepted node n c lost)
  prints-told (Err why) node n c lost l x y z = says.prints (file-line n) x y z (verdict-meets (Err why) node n c lost)

  prints : (v : Verdict) → Prints g f (comes_to v) (layout_text s b (map_after v (map_of b)))
  unfolding nodes_text
  prints Accepted =
      let m = map_of b in
      prints-told m.verdict (node_told m.fault) m.passes m.nodes m.padding (outcome_of g typed old places).lent
      (all-banks-meet g counted small m.padding) (nodes-meet g typed old places m.nodes (omega arith)) (fault-meets g typed old places)
  prints (Err why) =
      says.prints (file-line 0) (all-banks-meet g counted small (replicate 16 no_lost)) says.no-node (says.no-fault refl)
      (says.refused (number-some why) (numbers-meet why) (refused-meets why))

  pub layout-meets : (page : Option ℕ) → (y : Outcome) × LaidSays g page old y × Prints g f y (layout_text s b (map_in page b))
  layout-meets page = (comes_to (said_in page b), laid-meets page, prints (said_in page b))
