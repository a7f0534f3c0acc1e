-- Every outcome of `dk_map` meets its sentences: whatever it is given, and whatever stands in the four lists of 4,096 that are lent to it.
use Rattle.std.specs.Prelude.{◌≡◌, refl, List, ℕ, ◌-◌, ◌≤◌, replicate, Err, None, Result, Ok}
use Rattle.std.proofs.Common.{sym, ap, subst, ◌∙◌, arith, lt-ltb}
use Rattle.prelude.specs.Refusals.{number_of, place_of}
use Rattle.prelude.specs.declared.Refusal.{Refusal}
use Rattle.prelude.specs.Verdict.{Accepted, Verdict}
use Rattle.bankdef.specs.Check.{check_of}
use Rattle.bankdef.specs.Theorems.Refused.{decided}
use Rattle.bitvec.specs.Lists.{list_of}
use Rattle.iter.specs.Step.{no_lost}
use Rattle.iter.specs.declared.Lost.{Lost}
use Rattle.nodes.specs.Lists.{lists, lists_of, Row}
use Rattle.resolver.specs.Laws.RefusedExactly.{table-number, lists-four}
use Rattle.resolver.specs.Layout.{Checked, layout_of}
use Rattle.resolver.specs.Once.{Program}
use Rattle.resolver.specs.Padding.{sum_in}
use Rattle.resolver.proofs.RefusedExactly.{table-first, lists-next}
use Rattle.resolver.specs.declared.Resolution.{Resolution}
use Rattle.output.specs.Output.{Input, input, passes_of, settled_of}
use Rattle.build_map.specs.Map as map
use Rattle.build_map.specs.Map.{reach_of, paddings_to, left_by}
use Rattle.build_map.specs.Steps.{verdict_of}
use Rattle.build_map.specs.Theorems.Reached.{none-run}
use Rattle.build_map.specs.declared.Reach.{Reach}
use Rattle.c_answers.specs.Told.{first_of, second_of}
use Rattle.c_tables.specs.Tables.{given, table_of, choices_by}
use Rattle.c_model.specs.Maps.{MapTold}
use Rattle.c_answers.specs.Maps.{ToldBy, node_told}
use Rattle.c_answers.specs.declared.DkMap.{DkMap}
use Rattle.says.specs.Build as build
use Rattle.says.specs.Build.{Given}
use Rattle.meets_sentences.specs.Typed.{Typed}
use Rattle.meets_build.specs.Laws.Contract.{input_of}
use Rattle.meets_build.specs.Laws.Shown.{listed, walked, row_no}
use Rattle.meets_build.specs.Laws.Table.{table, shown}
use Rattle.meets_profile.specs.Laws.Sound.{clear}
use Rattle.meets_profile.specs.Laws.Tried.{through}
use Rattle.meets_profile.specs.Laws.Verdicts.{early}
use Rattle.says.specs.Map.{Lent, Outcome, refusal, Mapped, MapSays}
use Rattle.meets_map.specs.Places.{Places, nothing}
use Rattle.meets_map.specs.Laws.Shown.{lent_of, outcome, row_now, answer-is, left_is}
use Rattle.meets_map.specs.Laws.Ended.{refused-mapped, settled-mapped}

-- what `dk_map` ensures of a call, word for word (crates/denkumari/src/maps.rt)
abbrev pub Contract : Given → Lent → DkMap → Lent → Type 0
Contract g old r new =
    MapTold
    (input
    (table_of (given g.units g.starts g.bank_sizes g.bank_offsets g.aligns g.flags g.fill_bits))
    (lists g.kinds g.operands g.numbers g.states g.rows g.values)
    (choices_by g.limit g.fill g.closed))
    (lent_of old) r (lent_of new)

-- no node loses nothing
no-sums : (p : Program) (row : Row) → paddings_to p row 0 ≡ replicate 16 no_lost
unfolding list_of sum_in
no-sums p row = refl

none_left : (p : Program) (row : Row) (old : map.Lent) → left_by p row 0 old ≡ old
unfolding list_of
none_left p row old = refl

-- what is lent, in the sentences
abbrev pub lent_so : map.Lent → Lent
lent_so l = record { banks = l.banks; positions = l.positions; outputs = l.outputs; sizes = l.sizes }

module _ (g : Given) (typed : Typed g) (old : Lent) (places : Places old) (r : DkMap) (new : Lent) (told : Contract g old r new) where
  abbrev b : Input
  b = input_of g typed

  -- ---- 1 to 4

  module _ (why : Refusal) (few : number_of why ≤ 4)
      (refused : layout_of (table g) (listed g) (choices_by g.limit g.fill g.closed) ≡ record { settled = Err why; passes = 0 }) where
    none : passes_of b ≡ 0
    none = ap (λ (x : Resolution). x.passes) refused

    reach-none : reach_of b ≡ record { verdict = Err why; nodes = 0; fault = None }
    reach-none =
        none-run b none
        ∙ ap (λ (s : Result ℕ Refusal). record { verdict = verdict_of s; nodes = 0; fault = None }) (ap (λ (x : Resolution). x.settled) refused)

    abbrev p : Program
    p = walked g (table g)

    abbrev row : Row
    row = row_no g (table g) (row_now g typed old r new told)

    told-refused : (n : ℕ) (sums : List Lost) → n ≡ 0 → sums ≡ replicate 16 no_lost
        → ToldBy (Err why) (node_told None) n 0 sums ≡ (refusal g old (number_of why) (first_of (place_of why)) (second_of (place_of why))).answer
    told-refused n sums e f = rw (e, f, lt-ltb (number_of why) 5 (omega arith))

    answer-none : r ≡ (refusal g old (number_of why) (first_of (place_of why)) (second_of (place_of why))).answer
    answer-none =
        answer-is g typed old r new told
        ∙ ap (λ (x : Reach). ToldBy x.verdict (node_told x.fault) (passes_of b) x.nodes (paddings_to p row x.nodes)) reach-none
        ∙ told-refused (passes_of b) (paddings_to p row 0) none (no-sums p row)

    lent_none : new ≡ old
    lent_none =
        ap lent_so
        (left_is g typed old r new told ∙ ap (λ (x : Reach). left_by p row x.nodes (lent_of old)) reach-none ∙ none_left p row (lent_of old))

    -- A layout that is refused before any pass is answered so, and what is lent stays.
    refused-outcome : refusal g old (number_of why) (first_of (place_of why)) (second_of (place_of why)) ≡ outcome g typed old r new told
    refused-outcome =
        sym (ap (λ (x : DkMap). record { answer = x; lent = new }) answer-none
        ∙ ap (λ (x : Lent). record { answer = (refusal g old (number_of why) (first_of (place_of why)) (second_of (place_of why))).answer; lent = x }) lent_none)

    says-refused : MapSays g old (outcome g typed old r new told)
    says-refused =
        subst (MapSays g old) refused-outcome
        (early g nothing typed (refusal g old) (λ (y : build.Outcome). refusal g old y.answer.refusal y.answer.place y.answer.second)
        (λ number place second. refl) (outcome g typed old r new told) (Mapped g old) why refused)

  -- ---- 5 on

  passed-checks : Checked (table g) (listed g) g.fill → MapSays g old (outcome g typed old r new told)
  passed-checks c = through g (refusal g old) (clear g typed c) (by (settled_of b) refl)
    where
      by : (s : Result ℕ Refusal) → settled_of b ≡ s → Mapped g old (outcome g typed old r new told)
      by (Err why) e = refused-mapped g typed old places r new told (shown g typed c.table) c why e
      by (Ok k) e = settled-mapped g typed old places r new told (shown g typed c.table) c k e

  listed_next : check_of (table g) ≡ Accepted → (v : Verdict) → lists_of (table g).len (listed g) g.fill ≡ v
      → MapSays g old (outcome g typed old r new told)
  listed_next t Accepted e = passed-checks (record { table = t; lists = e })
  listed_next t (Err why) e =
      says-refused why ((lists-four (table g).len (listed g) g.fill).four why e)
      (lists-next (table g) (listed g) (choices_by g.limit g.fill g.closed) why t e)

  table-next : (v : Verdict) → check_of (table g) ≡ v → MapSays g old (outcome g typed old r new told)
  table-next Accepted e = listed_next e (lists_of (table g).len (listed g) g.fill) refl
  table-next (Err why) e =
      says-refused why (let few = table-number (table g) (check_of (table g)) (decided (table g)) why e in omega arith)
      (table-first (table g) (listed g) (choices_by g.limit g.fill g.closed) why e)

  -- What the contract of `dk_map` says of an outcome, the sentences say.
  pub map-meets : MapSays g old (record { answer = r; lent = new })
  map-meets = table-next (check_of (table g)) refl
