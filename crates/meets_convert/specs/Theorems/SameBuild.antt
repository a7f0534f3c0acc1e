-- "The converted file gives the same image and blocks; node numbers in places rise by one" (document 02, Ticket 13), over a call of `dk_to_form2` or
-- `dk_to_form1` and two of `dk_form` or `dk_form_paged`: the file and what was made of it. One-bank files and the shape that goes back to one bank.
use Rattle.std.specs.Prelude.{Bool, true, ◌≡◌, ℕ, suc, ◌*◌, ◌-◌, ◌/◌, ◌%◌, ◌≤◌, ◌<◌, length, take, replicate, eqb, ltb, nat_abs, Some, None, Option, Err, Ok, Result}
use Rattle.std.proofs.Math.Bool.{false}
use Rattle.std.proofs.Math.Path.{refl}
use Rattle.std.proofs.Common.{sym, ap, ap₂, subst, ◌∙◌, inl, inr, arith, to_z}
use mathlib.Core.List.{List, [], ◌∷◌, map}
use Rattle.std.proofs.Math.Decide.{dec_le}
use Rattle.std.proofs.Math.ListN.{get_or, get_or-eq_default}
use Rattle.std.proofs.lemmas.List.{length-map}
use Rattle.std.specs.Int.{w64}
use borrow.Author.Tests.{eqb-true, eqb-false, ltb-true, ltb-false}
use Rattle.prelude.specs.Laws.Bools.{either, clash}
use Rattle.prelude.specs.Limits.{max_nodes}
use Rattle.prelude.specs.Refusals.{number_of, place_of}
use Rattle.prelude.specs.Pick.{pick}
use Rattle.prelude.specs.declared.Refusal.{Refusal}
use Rattle.bankdef.specs.Search.{first_where}
use Rattle.iter.specs.declared.Lost.{Lost}
use Rattle.bankdef.specs.Laws.Search.{not-before}
use Rattle.form_fields.specs.Laws.Columns.{column-length}
use Rattle.form_fields.specs.Banks.{opt_of, is_set, bank_of}
use Rattle.form_fields.specs.Contents.{Contents, written, Fits}
use Rattle.form_fields.specs.Kind.{form1, form2, is1, is2}
use Rattle.form_fields.proofs.Parts.{Any, each-any}
use Rattle.form_fields.specs.Whole.{Bytes, contents_in}
use Rattle.form_fields.specs.Words.{byte, word16, word32, word64}
use Rattle.form_fields.proofs.Written.{flat-length}
use Rattle.form_rewrite.specs.Turning.{strays, widened, narrowed, shaped, drops_bit, to_form1}
use Rattle.thm_conversions.specs.Builds.{profile_build}
use Rattle.thm_conversions.specs.Laws.OneBank.{Single, is-single}
use Rattle.thm_conversions.specs.PagedPlaces as paged
use Rattle.thm_conversions.specs.PagedPlaces.{PagedRises, raised_in}
use Rattle.thm_conversions.specs.Says.{kind_on, operand_on, numbers_on, states_on, input_for}
use Rattle.thm_conversions.specs.Places as places
use Rattle.thm_conversions.specs.Places.{Rises}
use Rattle.thm_conversions.specs.Theorems.OneBank.{widened-same-build-in, converted-single}
use Rattle.thm_conversions.specs.Theorems.Conversions.{turned-file}
use Rattle.thm_conversions.specs.Theorems.OtherBanks.{form2-same-build, form1-same-build}
use Rattle.thm_conversions.specs.Theorems.PagedPlaces.{paged-rises, same-paged-number}
use Rattle.thm_conversions.specs.Theorems.Places.{rises, same_number}
use Rattle.thm_conversions.specs.Theorems.Says.{written-output}
use Rattle.thm_conversions.specs.Theorems.Shaped.{converted-back-single}
use Rattle.thm_conversions.specs.Widened.{OneBank, only_bank, raised_build}
use Rattle.form_build.specs.Filed.{file_output}
use Rattle.form_build.specs.Paged.{output_in}
use Rattle.form_build.specs.Theorems.Unique.{one-file-build}
use Rattle.output.specs.Output as out
use Rattle.output.specs.Output.{Room, room_of, build_of}
use Rattle.output.specs.declared.Output.{Output}
use Rattle.output.specs.declared.Built.{Built}
use Rattle.output.specs.Built.{done_with}
use Rattle.c_answers.specs.Told.{first_of, second_of, build_told, layout_told}
use Rattle.c_answers.specs.declared.DkLayout.{DkLayout}
use Rattle.c_model.specs.Forms.{FormTold}
use Rattle.says.specs.Blocks.{DkBlocksSay}
use Rattle.meets_bits.specs.Theorems.Blocks.{dk-blocks-decides}
use Rattle.says.specs.Files.{two, four, eight, form-1, form-2, Held, Sound}
use Rattle.meets_form.specs.Laws.Written.{held, contents, sound-contents}
use Rattle.meets_convert.specs.Built as built
use Rattle.meets_convert.specs.Built.{made, StartPast, Risen, PagedRisen, unpadded, Answers, SameBuild}
use Rattle.says.specs.Build.{Lent, Outcome}
use Rattle.says.specs.Convert as convert
use Rattle.says.specs.Convert.{ShapeOf, ConvertSays}
use Rattle.says.specs.Form.{FormSays}
use Rattle.says.specs.FormPaged.{FormPagedSays}
use Rattle.meets_build.specs.Laws.Contract.{lent_so}
use Rattle.meets_build.specs.Theorems.Meets.{lent_of}
use Rattle.meets_form.specs.Theorems.FormExactly.{form-told}
use Rattle.meets_form_paged.specs.Theorems.Exactly.{form-paged-told}
use Rattle.meets_convert.specs.Laws.Calls.{called, made_bytes}
use Rattle.meets_convert.specs.Laws.Turns.{map_at, of-strays, shape-so, so-shape}

-- ---- the start and the size, by their bytes

module _ (n : ℕ) where
  from_zero : ltb n 9223372036854775808 ≡ true → nat_abs (to_z w64 n) ≡ n
  from_zero t = rw t

  below-zero : ltb n 9223372036854775808 ≡ false → nat_abs (to_z w64 n) ≡ suc (18446744073709551616 - suc n)
  below-zero t = rw t

  beyond : 1099511627776 < nat_abs (to_z w64 n) → (1099511627776 < n) × (n < 18446742974197923840)
  beyond h =
      either (ltb n 9223372036854775808)
      (λ t. (omega (arith, h, from_zero t), omega (arith, ltb-true n 9223372036854775808 t)))
      (λ t. (omega (arith, ltb-false n 9223372036854775808 t), omega (arith, h, below-zero t)))

  within : nat_abs (to_z w64 n) ≤ 1099511627776 → (1099511627776 < n) × (n < 18446742974197923840) → ⊥
  within h p =
      either (ltb n 9223372036854775808)
      (λ t. omega (arith, h, from_zero t, p.0))
      (λ t. omega (arith, h, below-zero t, p.1, ltb-false n 9223372036854775808 t))

start-past : (b : List ℕ) → 1099511627776 < nat_abs (to_z w64 (eight b 2)) → StartPast b
start-past b h = beyond (eight b 2) h

past-start : (b : List ℕ) → nat_abs (to_z w64 (eight b 2)) ≤ 1099511627776 → StartPast b → ⊥
past-start b h = within (eight b 2) h

size-there : (flags n : ℕ) → opt_of flags 1 n ≡ Some 0 → (flags % 2 ≡ 1) × (n ≡ 0)
size-there flags n e =
    either (is_set flags 1)
    (λ t. (
      omega (arith, eqb-true (flags / 1 % 2) 1 t),
      some_same (sym (ap (λ (b : Bool). pick b (Some n) None) t) ∙ e),
    ))
    (λ t. absurd (not_none (sym (ap (λ (b : Bool). pick b (Some n) None) t) ∙ e)))
  where
    in-it : Option ℕ → ℕ
    in-it None = 1
    in-it (Some m) = m

    some_same : {m k : ℕ} → Some m ≡ Some k → m ≡ k
    some_same p = ap in-it p

    not_none : ◌≡◌ {A = Option ℕ} None (Some 0) → ⊥
    not_none p = omega (arith, ap in-it p)

-- ---- an answer in numbers

-- with a page size or without
abbrev RisenWith : Option ℕ → List ℕ → (rows fill : ℕ) → (number place second place' second' : ℕ) → Type 0
RisenWith None bank rows fill number place second place' second' = Risen bank rows fill number place second place' second'
RisenWith (Some page) bank rows fill number place second place' second' = PagedRisen bank rows fill number place second place' second'

-- a build, and what becomes of it
data Changed (Rise : (number place second place' second' : ℕ) → Type 0) : Result Built Refusal → Result Built Refusal → Type 0 where
  done : {k bits spans : ℕ} → Changed Rise (done_with k bits spans) (done_with k bits spans)
  turns : {why other : Refusal} → number_of other ≡ number_of why
      → Rise (number_of why) (first_of (place_of why)) (second_of (place_of why)) (first_of (place_of other)) (second_of (place_of other))
      → Changed Rise (Err why) (Err other)

told-so : (Rise : (number place second place' second' : ℕ) → Type 0) (passes : ℕ) (sums : List Lost) {x y : Result Built Refusal} → Changed Rise x y
    → Answers Rise (build_told x passes sums) (build_told y passes (unpadded ∷ get_or sums 0 unpadded ∷ replicate 14 unpadded))
told-so Rise passes sums done = built.accepted
told-so Rise passes sums (turns {why} {other} e h) =
    subst (λ (n : ℕ). Answers Rise (build_told (Err why) passes sums) (record {
      refusal = n;
      place = first_of (place_of other);
      second = second_of (place_of other);
      passes = passes;
      k = 0;
      length = 0;
      spans = 0;
      padding = replicate 16 unpadded;
    })) (sym e) (built.refused h)

-- That 2 becomes bank 1's for a filled bank of size 0 is handed on as a fact: each theorem says it of `Risen` itself.
abbrev Filled : Type 0
Filled = (b : List ℕ) (rows fill : ℕ) → (two b 0 ≡ 0 → ⊥) → (StartPast b → ⊥) → is_set (get_or b 22 0) 8 ≡ true → get_or b 22 0 % 2 ≡ 1
    → four b 10 ≡ 0 → Risen b rows fill 2 0 0 1 0

-- ---- the layout of a one-bank file

module _ (b : List ℕ) (nodes rows : List (List ℕ)) (values : List ℕ) (limit fill : ℕ) (few : suc (length nodes) ≤ max_nodes)
    (none : length nodes ≤ first_where (strays 0) nodes) where
  abbrev c : Contents
  c = record { banks = b ∷ []; nodes = nodes; rows = rows; values = values; limit = limit }

  no-bit : (bank_of form1 b).fill_bit ≡ 0
  unfolding bank_of
  no-bit = refl

  operand-zero : (i : ℕ) → i < length nodes → kind_on (get_or nodes i []) ≡ 1 → operand_on (get_or nodes i []) ≡ 0
  unfolding word32 word16
  operand-zero i less k =
      either (strays 0 (get_or nodes i []))
      (λ t. absurd (omega (arith, none, not-before (strays 0) [] nodes i less t)))
      (λ t. to-zero (get_or nodes i []) k t)
    where
      to-zero : (node : List ℕ) → get_or node 0 0 ≡ 1 → strays 0 node ≡ false → word32 node 1 ≡ 0
      to-zero node e f =
          either (eqb (four node 1) 0)
          (λ t. eqb-true (four node 1) 0 t)
          (λ t. absurd (clash (of-strays node (e, eqb-false (four node 1) 0 t)) f))

  one : OneBank (input_for form1 c fill)
  one =
      let many = length-map nodes kind_on in
      record {
        count = refl;
        table = refl;
        bit = no-bit;
        unclosed = refl;
        switches = λ i k.
            elim (dec_le (length nodes) i) [
              | yes le ↦ get_or-eq_default (map operand_on nodes) 0 (omega (arith, le, length-map nodes operand_on))
              | no gt ↦
                  let less : i < length nodes = omega arith in
                  map_at operand_on nodes i [] 0 less ∙ operand-zero i less (sym (map_at kind_on nodes i [] 0 less) ∙ k)
            ];
        room = omega (arith, many, few);
        operands = length-map nodes operand_on ∙ sym many;
        numbers = flat-length [] (numbers_on (length nodes)) Any (length nodes) (λ row e. column-length (word32 row) 5 0 (length nodes)) rows (each-any rows)
            ∙ ap (λ (n : ℕ). length rows * n) (sym many);
        states = flat-length [] (states_on (length nodes)) Any (length nodes) (λ row e. column-length (byte row) 5 4 (length nodes)) rows (each-any rows)
            ∙ ap (λ (n : ℕ). length rows * n) (sym many);
      }

  -- the numbers of the bank, by the bytes of its payload
  unit-is : (only_bank (input_for form1 c fill)).unit ≡ two b 0
  unfolding bank_of word16
  unit-is = refl

  start_is : (only_bank (input_for form1 c fill)).start ≡ to_z w64 (eight b 2)
  unfolding bank_of word64 word32 word16
  start_is = refl

  size_is : (only_bank (input_for form1 c fill)).size ≡ opt_of (get_or b 22 0) 1 (four b 10)
  unfolding bank_of word32 word16
  size_is = refl

  fill_is : (only_bank (input_for form1 c fill)).fill ≡ is_set (get_or b 22 0) 8
  unfolding bank_of
  fill_is = refl

  module _ (filled : Filled) where
    in-numbers : {why other : Refusal} → Rises (input_for form1 c fill) why other
        → Risen b (length rows) fill (number_of why) (first_of (place_of why)) (second_of (place_of why)) (first_of (place_of other))
        (second_of (place_of other))
    in-numbers (places.bad-unit e) = built.bank-0 (inl (sym unit-is ∙ e))
    in-numbers (places.bad-start e) = built.bank-0 (inr (start-past b (rw start_is at e)))
    in-numbers (places.empty-fill u s f z) =
        let size = size-there (get_or b 22 0) (four b 10) (sym size_is ∙ z) in
        filled b (length rows) fill (λ e. omega (arith, u, unit-is, e)) (past-start b (rw start_is at s)) (sym fill_is ∙ f) size.0 size.1
    in-numbers (places.rows h) = built.row_count h
    in-numbers (places.fill h) = built.choice h
    in-numbers (places.four low high f i) = built.node-4 low high f i
    in-numbers (places.five i) = built.node-5 i
    in-numbers (places.seven i) = built.node-7 i
    in-numbers (places.ten i) = built.node-10 i
    in-numbers (places.eleven i) = built.node-11 i
    in-numbers (places.thirteen i) = built.node-13 i
    in-numbers places.eight = built.stays-8
    in-numbers (places.twelve start size) = built.stays-12 start size
    in-numbers (places.fourteen buffer) = built.stays-14 buffer

    paged-numbers : {why other : Refusal} → PagedRises (input_for form1 c fill) why other
        → PagedRisen b (length rows) fill (number_of why) (first_of (place_of why)) (second_of (place_of why)) (first_of (place_of other))
        (second_of (place_of other))
    paged-numbers (paged.ordinary h) = built.ordinary (in-numbers h)
    paged-numbers paged.page-size = built.page-size
    paged-numbers (paged.alignment at) = built.alignment at
    paged-numbers paged.offset = built.offset
    paged-numbers paged.size = built.size
    paged-numbers paged.unit = built.unit
    paged-numbers (paged.addr i) = built.addr i

    -- every answer of the build of such a file
    changed : (room : Room) (x : Result Built Refusal) → (build_of (input_for form1 c fill) room).build ≡ x
        → Changed (Risen b (length rows) fill) x (raised_build (input_for form1 c fill) x)
    changed room (Ok ended) e = done
    changed room (Err why) e = let z = rises (input_for form1 c fill) one room why e in turns (same_number z) (in-numbers z)

    paged-changed : (page : ℕ) (room : Room) (x : Result Built Refusal) → (output_in (Some page) (input_for form1 c fill) room).build ≡ x
        → Changed (PagedRisen b (length rows) fill) x (profile_build (input_for form1 c fill) x)
    paged-changed page room (Ok ended) e = done
    paged-changed page room (Err why) e =
        let z = paged-rises (input_for form1 c fill) one page room why e in
        turns (same-paged-number z) (paged-numbers z)

    answers : (page : Option ℕ) (room : Room) → Answers (RisenWith page b (length rows) fill) (layout_told (output_in page (input_for form1 c fill) room))
        (layout_told (raised_in page (input_for form1 c fill) (output_in page (input_for form1 c fill) room)))
    answers None room =
        let o = build_of (input_for form1 c fill) room in
        told-so (Risen b (length rows) fill) o.passes o.padding (changed room o.build refl)
    answers (Some page) room =
        let o = output_in (Some page) (input_for form1 c fill) room in
        told-so (PagedRisen b (length rows) fill) o.passes o.padding (paged-changed page room o.build refl)

-- ---- two files, of contents with one bank and of what they become

spans-alike : {Rise : (number place second place' second' : ℕ) → Type 0} {a b : DkLayout} → Answers Rise a b → b.spans ≡ a.spans
spans-alike built.accepted = refl
spans-alike (built.refused h) = refl

module _ (Rise : (number place second place' second' : ℕ) → Type 0) where
  -- the same answers and everything lent the same: the same image and blocks
  alike : {a b : DkLayout} {left left' : Lent} → Answers Rise a b → left' ≡ left
      → SameBuild Rise (record { answer = a; lent = left }) (record { answer = b; lent = left' })
  alike {a} {b} {left} {left'} said same =
      record {
        answers = said;
        image = ap (λ (l : Lent). l.image) same;
        blocks = λ starts sizes x y f h.
            dk-blocks-decides (take a.spans left.offsets) (take a.spans left.sizes) starts sizes x y f
            (subst (λ (n : ℕ). DkBlocksSay (take n left.offsets) (take n left.sizes) starts sizes y) (spans-alike said)
            (subst (λ (l : Lent). DkBlocksSay (take b.spans l.offsets) (take b.spans l.sizes) starts sizes y) same h));
        all-lent = same;
      }

-- an outcome, by its answer and what is lent
one-outcome : {a b : Outcome} → b.answer ≡ a.answer → lent_of b.lent ≡ lent_of a.lent → b ≡ a
one-outcome e l = ap₂ (λ (r : DkLayout) (x : out.Lent). record { answer = r; lent = lent_so x }) e l

-- a contract of a file's build, of an outcome of the sentences
abbrev Told : List ℕ → ℕ → Option ℕ → Lent → Outcome → Type 0
Told file fill page old x = FormTold file fill page (lent_of old) x.answer (lent_of x.lent)

module _ (filled : Filled) (x : Contents) (single : Single x) (fill : ℕ) (page : Option ℕ) (old : Lent) (a b : Outcome) where
  said_of : (room : Room) → Answers (RisenWith page (get_or x.banks 0 []) (length x.rows) fill) (layout_told (output_in page (input_for form1 x fill) room))
      (layout_told (raised_in page (input_for form1 x fill) (output_in page (input_for form1 x fill) room)))
  said_of room =
      subst (λ (y : Contents). Answers (RisenWith page (get_or y.banks 0 []) (length y.rows) fill)
      (layout_told (output_in page (input_for form1 y fill) room))
      (layout_told (raised_in page (input_for form1 y fill) (output_in page (input_for form1 y fill) room))))
      (is-single x single.one)
      (answers (get_or x.banks 0 []) x.nodes x.rows x.values x.limit fill single.few single.none filled page room)

  both-files : Told (written form1 x) fill page old a → Told (written form2 (widened x)) fill page old b
      → SameBuild (RisenWith page (get_or x.banks 0 []) (length x.rows) fill) a b
  both-files told-a told-b =
      let here = input_for form1 x fill in
      let room = room_of (lent_of old) in
      let Rise = RisenWith page (get_or x.banks 0 []) (length x.rows) fill in
      let o_is : file_output (written form1 x) fill page room ≡ output_in page here room = written-output is1 x single.fits single.short fill page room in
      let q = one-file-build (widened-same-build-in x fill page single told-a.built) told-b.built in
      let of-a : layout_told (output_in page here room) ≡ a.answer = ap layout_told (sym o_is) ∙ sym told-a.answer in
      let of-b : layout_told (raised_in page here (output_in page here room)) ≡ b.answer =
      ap (λ (o : Output). layout_told (raised_in page here o)) (sym o_is) ∙ ap layout_told q.0 ∙ sym told-b.answer in
      alike Rise (subst (λ (y : DkLayout). Answers Rise a.answer y) of-b
      (subst (λ (y : DkLayout). Answers Rise y (layout_told (raised_in page here (output_in page here room)))) of-a (said_of room)))
      (ap lent_so (sym q.1))

-- ---- the calls

-- a one-bank file that was converted to form 2
module _ (file out : List ℕ) (v : convert.Outcome) (small : Bytes file) (first : ConvertSays form-1 file out v) (nought : v.answer.refusal ≡ 0) (h : Held)
    (sound : Sound form-1 file h) (one : length h.banks ≡ 1) (fill : ℕ) (old : Lent) (a b : Outcome) where
  to-form2 : Filled → (page : Option ℕ) → Told file fill page old a → Told (made v) fill page old b
      → SameBuild (RisenWith page (get_or h.banks 0 []) (length h.rows) fill) a b
  to-form2 filled page told-a told-b =
      let same : contents_in form1 file ≡ contents h = sound-contents sound in
      let (ok, is, at) = converted-single file out v.answer.count v.out small (called form-1 file out v small first nought)
      (ap (λ (y : Contents). length y.banks) same ∙ one) in
      subst (λ (y : Contents). SameBuild (RisenWith page (get_or y.banks 0 []) (length y.rows) fill) a b) same
      (both-files filled (contents_in form1 file) ok fill page old a b
      (subst (λ (f : List ℕ). Told f fill page old a) is told-a)
      (subst (λ (f : List ℕ). Told f fill page old b) at told-b))

-- a file with the shape, which was converted back: the one-bank file is what was made
module _ (file out : List ℕ) (v : convert.Outcome) (small : Bytes file) (first : ConvertSays form-2 file out v) (nought : v.answer.refusal ≡ 0) (h d : Held)
    (sound : Sound form-2 file h) (shape : ShapeOf d h) (fill : ℕ) (old : Lent) (a b : Outcome) where
  to-form1 : Filled → (page : Option ℕ) → Told (made v) fill page old a → Told file fill page old b
      → SameBuild (RisenWith page (get_or d.banks 0 []) (length d.rows) fill) a b
  to-form1 filled page told-a told-b =
      let same : contents_in form2 file ≡ contents h = sound-contents sound in
      let s = so-shape d h shape in
      let (ok, at, is) = converted-back-single file out v.answer.count v.out small (called form-2 file out v small first nought)
      (ap (λ (y : Contents). shaped y) same ∙ s.0) in
      let x = narrowed (contents_in form2 file) in
      let d-is : held x ≡ d = ap (λ (y : Contents). held (narrowed y)) same ∙ sym s.1 in
      subst (λ (y : Held). SameBuild (RisenWith page (get_or y.banks 0 []) (length y.rows) fill) a b) d-is
      (both-files filled x ok fill page old a b
      (subst (λ (f : List ℕ). Told f fill page old a) at told-a)
      (subst (λ (f : List ℕ). Told f fill page old b) is told-b))

-- A one-bank file and the form 2 file that was made of it: the same image and blocks, everything lent the same, and places as `Risen` says.
pub one-bank-same-build : (file out : List ℕ) (v : convert.Outcome) → Bytes file → ConvertSays form-1 file out v → v.answer.refusal ≡ 0
    → (h : Held) → Sound form-1 file h → length h.banks ≡ 1 → (fill : ℕ) (old : Lent) (a b : Outcome)
    → FormSays file fill old a → FormSays (made v) fill old b → SameBuild (Risen (get_or h.banks 0 []) (length h.rows) fill) a b
one-bank-same-build file out v small first nought h sound one fill old a b x y =
    to-form2 file out v small first nought h sound one fill old a b
    (λ c n k u s f z g. built.bank-1 u s (eqb-true (get_or c 22 0 / 8 % 2) 1 f) z g) None (form-told file small fill old a x)
    (form-told (made v) (made_bytes form-1 file out v small first nought) fill old b y)

-- So it is with a page size.
pub one-bank-same-paged-build : (file out : List ℕ) (v : convert.Outcome) → Bytes file → ConvertSays form-1 file out v → v.answer.refusal ≡ 0
    → (h : Held) → Sound form-1 file h → length h.banks ≡ 1 → (fill page : ℕ) (old : Lent) (a b : Outcome)
    → FormPagedSays file fill page old a → FormPagedSays (made v) fill page old b
    → SameBuild (PagedRisen (get_or h.banks 0 []) (length h.rows) fill) a b
one-bank-same-paged-build file out v small first nought h sound one fill page old a b x y =
    to-form2 file out v small first nought h sound one fill old a b
    (λ c n k u s f z g. built.bank-1 u s (eqb-true (get_or c 22 0 / 8 % 2) 1 f) z g) (Some page) (form-paged-told file small fill page old a x)
    (form-paged-told (made v) (made_bytes form-1 file out v small first nought) fill page old b y)

-- A file with the shape and the one-bank file that was made of it: the same image and blocks.
pub shape-same-build : (file out : List ℕ) (v : convert.Outcome) → Bytes file → ConvertSays form-2 file out v → v.answer.refusal ≡ 0
    → (h d : Held) → Sound form-2 file h → ShapeOf d h → (fill : ℕ) (old : Lent) (a b : Outcome)
    → FormSays (made v) fill old a → FormSays file fill old b → SameBuild (Risen (get_or d.banks 0 []) (length d.rows) fill) a b
shape-same-build file out v small first nought h d sound shape fill old a b x y =
    to-form1 file out v small first nought h d sound shape fill old a b
    (λ c n k u s f z g. built.bank-1 u s (eqb-true (get_or c 22 0 / 8 % 2) 1 f) z g) None
    (form-told (made v) (made_bytes form-2 file out v small first nought) fill old a x) (form-told file small fill old b y)

-- So it is with a page size.
pub shape-same-paged-build : (file out : List ℕ) (v : convert.Outcome) → Bytes file → ConvertSays form-2 file out v → v.answer.refusal ≡ 0
    → (h d : Held) → Sound form-2 file h → ShapeOf d h → (fill page : ℕ) (old : Lent) (a b : Outcome)
    → FormPagedSays (made v) fill page old a → FormPagedSays file fill page old b
    → SameBuild (PagedRisen (get_or d.banks 0 []) (length d.rows) fill) a b
shape-same-paged-build file out v small first nought h d sound shape fill page old a b x y =
    to-form1 file out v small first nought h d sound shape fill old a b
    (λ c n k u s f z g. built.bank-1 u s (eqb-true (get_or c 22 0 / 8 % 2) 1 f) z g) (Some page)
    (form-paged-told (made v) (made_bytes form-2 file out v small first nought) fill page old a x) (form-paged-told file small fill page old b y)

-- ---- other files: one outcome, the answer and everything lent

other-banks : (file out : List ℕ) (v : convert.Outcome) → Bytes file → ConvertSays form-1 file out v → v.answer.refusal ≡ 0
    → (h : Held) → Sound form-1 file h → (length h.banks ≡ 1 → ⊥) → (fill : ℕ) (page : Option ℕ) (old : Lent) (a b : Outcome)
    → Told file fill page old a → Told (made v) fill page old b → b ≡ a
other-banks file out v small first nought h sound more fill page old a b told-a told-b =
    let call = called form-1 file out v small first nought in
    let other : length (contents_in form1 file).banks ≡ 1 → ⊥ = λ e. more (ap (λ (y : Contents). length y.banks) (sym (sound-contents sound)) ∙ e) in
    let q = one-file-build (form2-same-build file out v.answer.count v.out small call other fill page told-a.built) told-b.built in
    one-outcome (told-b.answer ∙ ap layout_told (sym q.0) ∙ sym told-a.answer) (sym q.1)

-- a form 1 file that does not have exactly one bank
pub other-banks-same-build : (file out : List ℕ) (v : convert.Outcome) → Bytes file → ConvertSays form-1 file out v → v.answer.refusal ≡ 0
    → (h : Held) → Sound form-1 file h → (length h.banks ≡ 1 → ⊥) → (fill : ℕ) (old : Lent) (a b : Outcome)
    → FormSays file fill old a → FormSays (made v) fill old b → b ≡ a
other-banks-same-build file out v small first nought h sound more fill old a b x y =
    other-banks file out v small first nought h sound more fill None old a b (form-told file small fill old a x)
    (form-told (made v) (made_bytes form-1 file out v small first nought) fill old b y)

pub other-banks-same-paged-build : (file out : List ℕ) (v : convert.Outcome) → Bytes file → ConvertSays form-1 file out v → v.answer.refusal ≡ 0
    → (h : Held) → Sound form-1 file h → (length h.banks ≡ 1 → ⊥) → (fill page : ℕ) (old : Lent) (a b : Outcome)
    → FormPagedSays file fill page old a → FormPagedSays (made v) fill page old b → b ≡ a
other-banks-same-paged-build file out v small first nought h sound more fill page old a b x y =
    other-banks file out v small first nought h sound more fill (Some page) old a b (form-paged-told file small fill page old a x)
    (form-paged-told (made v) (made_bytes form-1 file out v small first nought) fill page old b y)

plain : (file out : List ℕ) (v : convert.Outcome) → Bytes file → ConvertSays form-2 file out v → v.answer.refusal ≡ 0
    → (h : Held) → Sound form-2 file h → (length h.banks ≡ 1 → ⊥) → ((d : Held) → ShapeOf d h → ⊥)
    → (fill : ℕ) (page : Option ℕ) (old : Lent) (a b : Outcome) → Told file fill page old a → Told (made v) fill page old b → b ≡ a
plain file out v small first nought h sound more none fill page old a b told-a told-b =
    let call = called form-2 file out v small first nought in
    let c = contents_in form2 file in
    let same : c ≡ contents h = sound-contents sound in
    let other : length c.banks ≡ 1 → ⊥ = λ e. more (ap (λ (y : Contents). length y.banks) (sym same) ∙ e) in
    let fits : Fits form2 c = (turned-file is2 to_form1 drops_bit file out v.answer.count v.out small call).fits in
    let unshaped : shaped c ≡ false =
    either (shaped c) (λ t. absurd (none (held (narrowed c)) (subst (ShapeOf (held (narrowed c))) (ap held same) (shape-so c fits t)))) (λ f. f) in
    let q = one-file-build (form1-same-build file out v.answer.count v.out small call other unshaped fill page told-a.built) told-b.built in
    one-outcome (told-b.answer ∙ ap layout_told (sym q.0) ∙ sym told-a.answer) (sym q.1)

-- a form 2 file that has neither exactly one bank nor the shape
pub plain-same-build : (file out : List ℕ) (v : convert.Outcome) → Bytes file → ConvertSays form-2 file out v → v.answer.refusal ≡ 0
    → (h : Held) → Sound form-2 file h → (length h.banks ≡ 1 → ⊥) → ((d : Held) → ShapeOf d h → ⊥)
    → (fill : ℕ) (old : Lent) (a b : Outcome) → FormSays file fill old a → FormSays (made v) fill old b → b ≡ a
plain-same-build file out v small first nought h sound more none fill old a b x y =
    plain file out v small first nought h sound more none fill None old a b (form-told file small fill old a x)
    (form-told (made v) (made_bytes form-2 file out v small first nought) fill old b y)

pub plain-same-paged-build : (file out : List ℕ) (v : convert.Outcome) → Bytes file → ConvertSays form-2 file out v → v.answer.refusal ≡ 0
    → (h : Held) → Sound form-2 file h → (length h.banks ≡ 1 → ⊥) → ((d : Held) → ShapeOf d h → ⊥)
    → (fill page : ℕ) (old : Lent) (a b : Outcome) → FormPagedSays file fill page old a → FormPagedSays (made v) fill page old b → b ≡ a
plain-same-paged-build file out v small first nought h sound more none fill page old a b x y =
    plain file out v small first nought h sound more none fill (Some page) old a b (form-paged-told file small fill page old a x)
    (form-paged-told (made v) (made_bytes form-2 file out v small first nought) fill page old b y)
