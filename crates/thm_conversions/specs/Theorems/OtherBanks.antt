-- A file that does not have exactly one bank, converted. Document 02, Ticket 7: "A converter goes from form 1 to form 2, with fill bits zero, and back."
-- To form 2, and back from form 2 where the file has not Ticket 13's shape: the same verdict, place, K, passes, length, spans and padding, and everything
-- lent the same afterwards, with a page size or without.
use Rattle.std.specs.Prelude.{Bool, true, false, List, ◌++◌, ◌≡◌, ℕ, ◌≤◌, ◌<◌, length, take, Err, Option, None, Some, Ok}
use Rattle.std.proofs.Common.{⊎_elim, sym, ap₂, subst, ◌∙◌, ne_eqb}
use Rattle.std.proofs.Math.Path.{refl, ap}
use Rattle.std.proofs.lemmas.Bool.{not-false}
use Rattle.std.proofs.lemmas.List.{length-map}
use Rattle.prelude.specs.Pick.{pick}
use Rattle.prelude.specs.declared.Refusal.TheVariants.{BankCount}
use Rattle.prelude.specs.Verdict.{Verdict}
use Rattle.bankdef.specs.Check.{count_sound, check_banks, banks_of}
use Rattle.bankdef.specs.declared.Bankdef.{Bankdef}
use Rattle.nodes.specs.Lists.{lists_of}
use Rattle.resolver.specs.Passes.{program, row_of_pass, resolution_of}
use Rattle.resolver.specs.Layout.{layout_of, unless}
use Rattle.resolver.specs.declared.Choices.{Choices}
use Rattle.resolver.specs.declared.Resolution.{Resolution}
use Rattle.output.specs.DefaultBank.{with_closed}
use Rattle.output.specs.Theorems.DefaultBank.{same-with-other-banks}
use Rattle.output.specs.Output.{Input, input, Lent, Room, room_of, output_of, settled_build, build_of}
use Rattle.output.specs.declared.Output.{Output}
use Rattle.build_paged.specs.InProfile.{said_of}
use Rattle.form_fields.specs.Kind.{form1, form2, is1, is2}
use Rattle.form_fields.specs.Contents.{Contents, written, BankFits, Fits}
use Rattle.form_fields.specs.Whole.{contents_in, Bytes}
use Rattle.form_fields.specs.Banks.{bank_of}
use Rattle.form_build.specs.Filed.{file_output, FileBuilt}
use Rattle.form_build.specs.Paged.{after_said, output_in, BuiltIn}
use Rattle.form_rewrite.specs.Turning.{zeros, lengthened, shortened, shaped, all_of, bit_clear, drops_bit, to_form2, to_form1}
use Rattle.form_convert.specs.Convert.{drops_none, ToForm2, ToForm1}
use Rattle.form_rewrite.specs.Theorems.Fitting.{lengthened-fits}
use Rattle.form_rewrite.specs.Laws.Fitting.{shortened-fits}
use Rattle.thm_conversions.specs.Says.{table_for, lists_for, input_for}
use Rattle.thm_conversions.specs.Theorems.Says.{written-output, from-written, to-written}
use Rattle.thm_conversions.specs.Theorems.Conversions.{turned-file}
use Rattle.thm_conversions.specs.Laws.OtherBanks.{bank-lengthened, bank-shortened, each-clear, map-over, none-or-more}

module _ (b : Input) (closed : Bool) (room : Room) where
  abbrev built_by : Input → Resolution → Output
  built_by x r =
      output_of (program x.banks x.lists) (row_of_pass x.lists r.passes) r.passes (settled_build x room r.passes r.settled)

  build-is : (x : Input) → build_of x room ≡ built_by x (layout_of x.banks x.lists x.choices)
  unfolding build_of
  build-is x = refl

  abbrev counted : Resolution
  counted = record { settled = Err BankCount; passes = 0 }

  -- 1
  no-bank : b.banks.len ≡ 0 → (choices : Choices) → layout_of b.banks b.lists choices ≡ counted
  unfolding layout_of
  no-bank e choices =
      ap (λ (v : Verdict). unless v (unless (lists_of b.banks.len b.lists choices.fill) (resolution_of b.banks b.lists choices.limit)))
      (law (check_banks (banks_of b.banks)) e)
    where
      law : {n : ℕ} (v : Verdict) → n ≡ 0 → pick (count_sound n) v (Err BankCount) ≡ Err BankCount
      law v f = rw f

  none : b.banks.len ≡ 0 → build_of (with_closed b closed) room ≡ build_of b room
  none e =
      build-is (with_closed b closed) ∙ ap (built_by (with_closed b closed)) (no-bank e (with_closed b closed).choices)
      ∙ sym (build-is b ∙ ap (built_by b) (no-bank e b.choices))

  pub same-unless-one : (b.banks.len ≡ 1 → ⊥) → build_of (with_closed b closed) room ≡ build_of b room
  same-unless-one other =
      ⊎_elim (λ (e : b.banks.len ≡ 0). none e) (λ (e : 1 < b.banks.len). same-with-other-banks b closed e room) (none-or-more b.banks.len other)

  -- in the profile too, which does not read that choice
  pub same-in-profile : (page : Option ℕ) → (b.banks.len ≡ 1 → ⊥) → output_in page (with_closed b closed) room ≡ output_in page b room
  same-in-profile None other = same-unless-one other
  same-in-profile (Some bits) other = ap (after_said (said_of bits b)) (same-unless-one other)

-- ---- to form 2

module _ (c : Contents) (fits : Fits form1 c) where
  pub lengthened-input : (fill : ℕ) → input_for form2 (lengthened c) fill ≡ with_closed (input_for form1 c fill) true
  lengthened-input fill =
      ap₂ (λ (n : ℕ) (l : List Bankdef). input (table_for n l) (lists_for c) (record { limit = c.limit; fill = fill; closed = true }))
      (length-map c.banks (λ (b : List ℕ). b ++ zeros 1))
      (map-over (BankFits form1) (bank_of form1) (bank_of form2) (λ (b : List ℕ). b ++ zeros 1) bank-lengthened c.banks fits.of-banks)

  module _ (short : length (written form1 c) ≤ form1.longest) (short2 : length (written form2 (lengthened c)) ≤ form2.longest)
      (other : length c.banks ≡ 1 → ⊥) (fill : ℕ) (page : Option ℕ) where
    pub lengthened-same-answer : (room : Room) → file_output (written form2 (lengthened c)) fill page room ≡ file_output (written form1 c) fill page room
    lengthened-same-answer room =
        written-output is2 (lengthened c) (lengthened-fits c fits) short2 fill page room
        ∙ ap (λ (b : Input). output_in page b room) (lengthened-input fill)
        ∙ same-in-profile (input_for form1 c fill) true room page other
        ∙ sym (written-output is1 c fits short fill page room)

    pub lengthened-same-build : {old new : Lent} {r : Output} → FileBuilt (written form1 c) fill page old r new
        → FileBuilt (written form2 (lengthened c)) fill page old r new
    lengthened-same-build {old} {new} {r} p =
        let q = from-written is1 c fits short p in
        let mine : BuiltIn page (with_closed (input_for form1 c fill) true) old r new =
        record { answer = q.answer ∙ sym (same-in-profile (input_for form1 c fill) true (room_of old) page other); left = q.left } in
        to-written is2 (lengthened c) (lengthened-fits c fits) short2
        (subst (λ (b : Input). BuiltIn page b old r new) (sym (lengthened-input fill)) mine)

-- ---- back to form 1

module _ (c : Contents) (fits : Fits form2 c) (clear : all_of bit_clear c.banks ≡ true) where
  pub shortened-input : (fill : ℕ) → input_for form1 (shortened c) fill ≡ with_closed (input_for form2 c fill) false
  shortened-input fill =
      ap₂ (λ (n : ℕ) (l : List Bankdef). input (table_for n l) (lists_for c) (record { limit = c.limit; fill = fill; closed = false }))
      (length-map c.banks (take 23))
      (map-over (λ (b : List ℕ). BankFits form2 b × (bit_clear b ≡ true)) (bank_of form2) (bank_of form1) (take 23) bank-shortened c.banks
      (each-clear c.banks fits.of-banks clear))

  module _ (short : length (written form2 c) ≤ form2.longest) (short1 : length (written form1 (shortened c)) ≤ form1.longest)
      (other : length c.banks ≡ 1 → ⊥) (fill : ℕ) (page : Option ℕ) where
    pub shortened-same-answer : (room : Room) → file_output (written form1 (shortened c)) fill page room ≡ file_output (written form2 c) fill page room
    shortened-same-answer room =
        written-output is1 (shortened c) (shortened-fits c fits) short1 fill page room
        ∙ ap (λ (b : Input). output_in page b room) (shortened-input fill)
        ∙ same-in-profile (input_for form2 c fill) false room page other
        ∙ sym (written-output is2 c fits short fill page room)

    pub shortened-same-build : {old new : Lent} {r : Output} → FileBuilt (written form2 c) fill page old r new
        → FileBuilt (written form1 (shortened c)) fill page old r new
    shortened-same-build {old} {new} {r} p =
        let q = from-written is2 c fits short p in
        let mine : BuiltIn page (with_closed (input_for form2 c fill) false) old r new =
        record { answer = q.answer ∙ sym (same-in-profile (input_for form2 c fill) false (room_of old) page other); left = q.left } in
        to-written is1 (shortened c) (shortened-fits c fits) short1
        (subst (λ (b : Input). BuiltIn page b old r new) (sym (shortened-input fill)) mine)

-- ---- the calls

-- A file that was converted to form 2 and has not exactly one bank is built as before: the same answer, and everything lent the same afterwards.
pub form2-same-build : (file out : List ℕ) (n : ℕ) (new : List ℕ) → Bytes file → ToForm2 file out (Ok n) new
    → (length (contents_in form1 file).banks ≡ 1 → ⊥) → (fill : ℕ) (page : Option ℕ) {old left : Lent} {r : Output}
    → FileBuilt file fill page old r left → FileBuilt (take n new) fill page old r left
form2-same-build file out n new bytes call other fill page {old} {left} {r} p =
    let c = contents_in form1 file in
    let t = turned-file is1 to_form2 drops_none file out n new bytes call in
    let becomes : to_form2 c ≡ lengthened c = rw (ne_eqb (length c.banks) 1 other) refl in
    let made = t.made ∙ ap (written form2) becomes in
    let short2 : length (written form2 (lengthened c)) ≤ form2.longest = rw becomes at t.answer.short in
    subst (λ (f : List ℕ). FileBuilt f fill page old r left) (sym made)
    (lengthened-same-build c t.fits t.short short2 other fill page
    (subst (λ (f : List ℕ). FileBuilt f fill page old r left) (sym t.is) p))

-- So is one that was converted back and has neither exactly one bank nor the shape of Ticket 13.
pub form1-same-build : (file out : List ℕ) (n : ℕ) (new : List ℕ) → Bytes file → ToForm1 file out (Ok n) new
    → (length (contents_in form2 file).banks ≡ 1 → ⊥) → shaped (contents_in form2 file) ≡ false → (fill : ℕ) (page : Option ℕ) {old left : Lent} {r : Output}
    → FileBuilt file fill page old r left → FileBuilt (take n new) fill page old r left
form1-same-build file out n new bytes call other plain fill page {old} {left} {r} p =
    let c = contents_in form2 file in
    let t = turned-file is2 to_form1 drops_bit file out n new bytes call in
    let becomes : to_form1 c ≡ shortened c = rw plain refl in
    let made = t.made ∙ ap (written form1) becomes in
    let short1 : length (written form1 (shortened c)) ≤ form1.longest = rw becomes at t.answer.short in
    let clear : all_of bit_clear c.banks ≡ true = not-false (all_of bit_clear c.banks) t.answer.none_dropped in
    subst (λ (f : List ℕ). FileBuilt f fill page old r left) (sym made)
    (shortened-same-build c t.fits clear t.short short1 other fill page
    (subst (λ (f : List ℕ). FileBuilt f fill page old r left) (sym t.is) p))
