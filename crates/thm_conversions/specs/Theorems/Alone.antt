-- Theorems about what Alone defines.
use Rattle.std.specs.Prelude.{◌≡◌, ◌*◌, None}
use Rattle.std.proofs.Math.Path.{refl}
use Rattle.std.proofs.Common.{ap, ◌∙◌, arith, le-ltb}
use Rattle.prelude.specs.Laws.Pick.{pick-false}
use Rattle.prelude.specs.declared.Refusal.TheVariants.{DefaultBank}
use Rattle.bankdef.specs.Check.{first_pair}
use Rattle.bankdef.specs.Fill.{fill_from}
use Rattle.bankdef.specs.Search.{first_where}
use Rattle.iter.specs.Distance.{distance_of}
use Rattle.iter.specs.Step.{start_of, seen_of, moved_on, advanced_of, seen_skips, advance_skips, step_of}
use Rattle.resolver.specs.Layout.{layout_of}
use Rattle.nodes.specs.Lists.{nodes_to, any_row_fault, lists_of}
use Rattle.resolver.specs.Once.{walk_to, pass_to}
use Rattle.resolver.specs.Passes.{first, settled_by}
use Rattle.build_visits.specs.Visits.{visits_to, each}
use Rattle.build_visits.specs.Items.{length_of}
use Rattle.build_plan.specs.Placing.{checked, placed_from}
use Rattle.output.specs.Output.{Room, room_for, refused_after, build_of}
use Rattle.output.specs.declared.Output.{Output}
use Rattle.output.specs.Built.{done_with}
use Rattle.form_fields.specs.Words.{word16, word32, word64}
use Rattle.form_fields.specs.Columns.{column}
use Rattle.form_fields.specs.Kind.{form1, form2, is1, is2}
use Rattle.form_fields.specs.Contents.{flat, written}
use Rattle.form_fields.specs.Banks.{bank_of}
use Rattle.form_build.specs.Filed.{file_output}
use Rattle.form_rewrite.specs.Turning.{to_form1}
use Rattle.form_rewrite.specs.Theorems.Fitting.{form1-fits}
use Rattle.thm_conversions.specs.Says.{input_for}
use Rattle.thm_conversions.specs.Theorems.Says.{written-output}
use Rattle.thm_conversions.specs.Alone.{reserve}
use Rattle.thm_conversions.specs.Laws.Alone.{back-short, reserve-fits, reserve-short}

module _ (room : Room) where
  enough : room_for room 1 0 0 ≡ done_with 1 0 0
  enough = pick-false _ _ (le-ltb (8 * room.image) 0 (omega arith)) ∙ pick-false _ _ (le-ltb room.spans 0 (omega arith))

  refused : build_of (input_for form2 reserve 0) room ≡ refused_after 1 (DefaultBank 0)
  unfolding build_of layout_of lists_of nodes_to any_row_fault settled_by first pass_to walk_to start_of seen_of moved_on advanced_of seen_skips advance_skips step_of
      first_where first_pair fill_from length_of placed_from visits_to each checked distance_of bank_of word16 word32 word64 flat column
  refused = refl

  allowed : (build_of (input_for form1 (to_form1 reserve) 0) room).build ≡ room_for room 1 0 0
  unfolding build_of layout_of lists_of nodes_to any_row_fault settled_by first pass_to walk_to start_of seen_of moved_on advanced_of seen_skips advance_skips step_of
      first_where first_pair fill_from length_of placed_from visits_to each checked distance_of bank_of word16 word32 word64 flat column
  allowed = refl

  -- 9 with its node in form 2, after one pass,
  pub alone-refused-in-form2 : file_output (written form2 reserve) 0 None room ≡ refused_after 1 (DefaultBank 0)
  alone-refused-in-form2 = written-output is2 reserve reserve-fits reserve-short 0 None room ∙ refused

  -- and accepted once it has gone back to form 1.
  pub alone-accepted-in-form1 : (file_output (written form1 (to_form1 reserve)) 0 None room).build ≡ done_with 1 0 0
  alone-accepted-in-form1 =
      ap (λ (o : Output). o.build) (written-output is1 (to_form1 reserve) (form1-fits reserve reserve-fits) back-short 0 None room) ∙ allowed ∙ enough
