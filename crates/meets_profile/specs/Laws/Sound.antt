-- Where the library's checks of the table and of the lists accept, none of refusals 1 to 4 of the sentences is met: an ordinary build has then run a pass,
-- and by its sentences one that is refused 1 to 4 has run none.
use Rattle.std.specs.Prelude.{◌≡◌, List, [], ℕ, ◌≤◌, ◌<◌, Err, Ok, Result}
use Rattle.std.proofs.Math.Path.{refl}
use Rattle.std.proofs.Common.{◌∙◌, arith}
use Rattle.prelude.specs.Verdict.{Accepted}
use Rattle.prelude.specs.declared.Refusal.{Refusal}
use Rattle.bankdef.specs.Check.{check_of}
use Rattle.bankdef.specs.declared.Bankdefs.{Bankdefs}
use Rattle.nodes.specs.Lists.{Lists, lists_of}
use Rattle.iter.specs.declared.Lost.{Lost}
use Rattle.output.specs.Output as out
use Rattle.output.specs.Output.{Input, room_of, build_of, passes_of}
use Rattle.output.specs.declared.Output.{Output}
use Rattle.output.specs.declared.Built.{Built}
use Rattle.build_paged.specs.InProfile.{leaves}
use Rattle.resolver.specs.Layout.{Checked, layout_of}
use Rattle.resolver.specs.Passes.{pass_at, resolution_of}
use Rattle.resolver.proofs.Run.{passes-bounded}
use Rattle.resolver.specs.declared.Choices.{Choices}
use Rattle.c_tables.specs.Tables.{choices_by}
use Rattle.c_answers.specs.Told.{build_told, layout_told}
use Rattle.c_model.specs.Tables.{TablesTold}
use Rattle.says.specs.Build.{Given, Lent, Outcome, nodes, BadNode, refusal}
use Rattle.meets_sentences.specs.Laws.First.{none_at_all}
use Rattle.meets_sentences.specs.Typed.{Typed}
use Rattle.meets_build.specs.Laws.Contract.{lent_so, input_of}
use Rattle.meets_build.specs.Laws.Shown.{listed}
use Rattle.meets_build.specs.Laws.Table.{table}
use Rattle.meets_build.specs.Theorems.Meets.{lent_of, build-meets}
use Rattle.meets_build.specs.Theorems.Promised.{has-outcome}
use Rattle.meets_profile.specs.Laws.Tried.{Clear, checks-clear}

-- a layout that passes its checks comes to what its passes come to
checked-passes : (banks : Bankdefs) (l : Lists) (choices : Choices) → check_of banks ≡ Accepted → lists_of banks.len l choices.fill ≡ Accepted
    → (layout_of banks l choices).passes ≡ (resolution_of banks l choices.limit).passes
unfolding layout_of
checked-passes banks l choices e f = rw (e, f)

-- nothing lent
abbrev pub nothing : Lent
nothing = record { image = []; addresses = []; offsets = []; sizes = [] }

module _ (g : Given) (typed : Typed g) where
  abbrev b : Input
  b = input_of g typed

  -- The contract of `dk_build` holds of what the definitions say.
  pub by-definition : (old : out.Lent) → TablesTold b old (layout_told (build_of b (room_of old))) (leaves b old (build_of b (room_of old)))
  unfolding build_of
  by-definition old = has-outcome g typed (lent_so old)

  told-passes : (x : Result Built Refusal) (n : ℕ) (sums : List Lost) → (build_told x n sums).passes ≡ n
  told-passes (Ok ended) n sums = refl
  told-passes (Err why) n sums = refl

  abbrev built : Output
  built = build_of b (room_of (lent_of nothing))

  built-passes : built.passes ≡ passes_of b
  unfolding build_of
  built-passes = refl

  module _ (c : Checked (table g) (listed g) g.fill) where
    ran : 1 ≤ (layout_told built).passes
    ran =
        let n = told-passes built.build built.passes built.padding ∙ built-passes
        ∙ checked-passes (table g) (listed g) (choices_by g.limit g.fill g.closed) c.table c.lists in
        omega (arith, n, (passes-bounded (pass_at (table g) (listed g)) g.limit).0)

    pub clear : Clear g
    clear =
        checks-clear g (λ number place second. refusal g nothing number place second 0) _ (λ (y : Outcome). 1 ≤ y.answer.passes)
        (λ number place second h. omega arith)
        (record { answer = layout_told built; lent = lent_so (leaves b (lent_of nothing) built) }) ran
        (build-meets g typed nothing (layout_told built) (lent_so (leaves b (lent_of nothing) built)) (by-definition (lent_of nothing)))

    pub no-node-bad : (i : ℕ) → i < nodes g → BadNode g i → ⊥
    no-node-bad i h bad = none_at_all (λ i. (i < nodes g) × BadNode g i) clear.noded i (h, bad)
