-- Every outcome of `dk_build` meets its sentences: whatever it is given and lent, what its contract tells of the call is what document 01 and document 02 say.
use Rattle.std.specs.Prelude.{◌≡◌, refl, Result, ℕ, Err, Ok}
use Rattle.std.proofs.Common.{sym, ap, subst}
use Rattle.prelude.specs.declared.Refusal.{Refusal}
use Rattle.output.specs.Output as out
use Rattle.output.specs.Output.{Builds, build_of, room_of, settled_of}
use Rattle.c_model.specs.Tables.{TablesTold}
use Rattle.nodes.specs.Lists.{lists}
use Rattle.output.specs.Output.{input, lent}
use Rattle.c_tables.specs.Tables.{given, table_of, choices_by}
use Rattle.c_answers.specs.declared.DkLayout.{DkLayout}
use Rattle.says.specs.Build.{Given, Lent, BuildSays}
use Rattle.meets_sentences.specs.Typed.{Typed}
use Rattle.meets_build.specs.Laws.Contract.{input_of, refused-meets}
use Rattle.meets_build.specs.Laws.Placed.{settled-meets}

-- what is lent, in the definitions
abbrev pub lent_of : Lent → out.Lent
lent_of l = lent l.image l.addresses l.offsets l.sizes

-- what `dk_build` ensures of a call, word for word (crates/denkumari/src/builds.rt)
abbrev pub Contract : Given → Lent → DkLayout → Lent → Type 0
Contract g old r new =
    TablesTold
    (input
    (table_of (given g.units g.starts g.bank_sizes g.bank_offsets g.aligns g.flags g.fill_bits))
    (lists g.kinds g.operands g.numbers g.states g.rows g.values)
    (choices_by g.limit g.fill g.closed))
    (lent_of old) r (lent_of new)

pub build-meets : (g : Given) → Typed g → (old : Lent) (r : DkLayout) (new : Lent) → Contract g old r new
    → BuildSays g old (record { answer = r; lent = new })
build-meets g typed old r new told = by (settled_of (input_of g typed)) refl
  where
    by : (s : Result ℕ Refusal) → settled_of (input_of g typed) ≡ s → BuildSays g old (record { answer = r; lent = new })
    by (Err why) e = refused-meets g typed (lent_of old) r (lent_of new) told.answer told.built why e
    by (Ok k) e = settled-meets g typed (lent_of old) r (lent_of new) told.answer told.built k e
