-- There and back, over two calls by their sentences alone. "Form 1 to 2 to 1 gives the same bytes; form 2 to 1 to 2 does too, for every file that can go
-- back" (document 02, Ticket 7), and what Ticket 13 and a full file except.
use Rattle.std.specs.Prelude.{◌≡◌, refl, Bool, true, false, List, ◌++◌, ℕ, ◌≤◌, ◌<◌, eqb, length, take, drop}
use Rattle.std.proofs.Common.{sym, ap, subst, ◌∙◌, arith, eqb-true, eq-eqb, ne_eqb}
use Rattle.std.proofs.lemmas.List.{length-map}
use Rattle.std.proofs.lemmas.Bool.{eqb-false}
use Rattle.prelude.specs.Laws.Bools.{either, clash}
use Rattle.prelude.specs.Pick.{pick}
use Rattle.prelude.specs.declared.Refusal.TheVariants.{Malformed}
use Rattle.bankdef.specs.Search.{first_where}
use Rattle.form_fields.specs.Contents.{Contents, written}
use Rattle.form_fields.specs.Kind.{form1, form2, is1, is2}
use Rattle.form_fields.specs.Whole.{Bytes, contents_in}
use Rattle.form_fields.proofs.Whole.{contents-back}
use Rattle.form_convert.specs.Convert.{Converts, stray, out_after, drops_none}
use Rattle.form_rewrite.specs.Laws.Fitting.{shortened-fits, rest-long, narrowed-long, shape_two, shape-some}
use Rattle.form_rewrite.specs.Theorems.Fitting.{lengthened-fits, lengthened-long, form1-fits, form2-fits}
use Rattle.thm_conversions.specs.Laws.ThereAndBack.{first-within}
use Rattle.form_rewrite.specs.Turning.{strays, turned, zeros, lengthened, widened, alone, shaped, shortened, narrowed, to_form2, to_form1, drops_bit}
use Rattle.thm_conversions.specs.Theorems.Conversions.{turned-file}
use Rattle.thm_conversions.specs.Theorems.Exceptions.{one-bank-comes-back-as-shape, full-one-bank-not-again}
use Rattle.thm_conversions.specs.Theorems.RoundTrips.{narrowed-back}
use Rattle.thm_conversions.specs.Theorems.ThereAndBack.{to-form2-and-back, to-form1-and-again}
use Rattle.thm_conversions.specs.Laws.ThereAndBack.{Fine, makes2, second_call, stray-none}
use Rattle.c_answers.specs.Counts.{conversion_count}
use Rattle.c_answers.specs.declared.DkCount.{DkCount}
use Rattle.c_model.specs.Conversions.{answer_in}
use Rattle.says.specs.Words.{Begins}
use Rattle.says.specs.Files.{Form, form-1, form-2, Held, bytes, Sound}
use Rattle.meets_form.specs.Laws.Written.{held, contents, bytes_same, sound-contents, sound-fits, form-sound}
use Rattle.says.specs.Convert as says
use Rattle.says.specs.Convert.{Becomes, ShapeOf, Outcome, ConvertSays}
use Rattle.meets_convert.specs.Built.{made}
use Rattle.meets_convert.specs.Laws.Answers.{begins-so}
use Rattle.meets_convert.specs.Laws.Calls.{any-call, converted, called, made_bytes}
use Rattle.meets_convert.specs.Laws.Turns.{so-widened, shape-so, so-shape, becomes-so, so-becomes}
use Rattle.meets_convert.specs.Theorems.Exactly.{convert-told}

abbrev pub wrote : ℕ → DkCount
wrote n = record { refusal = 0; place = 0; count = n }

-- ---- the same bytes

-- "Form 1 to 2 to 1": but for a file of two banks that becomes the shape
pub form-1-and-back : (file out : List ℕ) (v : Outcome) → Bytes file → ConvertSays form-1 file out v → v.answer.refusal ≡ 0
    → ((h d e : Held) → Sound form-1 file h → (length h.banks ≡ 1 → ⊥) → Becomes h form-1 form-2 d → ShapeOf e d → ⊥)
    → (old : List ℕ) (w : Outcome) → length file ≤ length old → ConvertSays form-2 (made v) old w
    → (w.answer ≡ wrote (length file)) × Begins file old w.out
form-1-and-back file out v small first zero none old w room again =
    let call = called form-1 file out v small first zero in
    let t = turned-file is1 to_form2 drops_none file out v.answer.count v.out small call in
    let bytes' = made_bytes form-1 file out v small first zero in
    let second = convert-told form-2 (made v) bytes' old w again in
    let c = contents_in form1 file in
    let other : alone c ≡ false → shaped (lengthened c) ≡ false =
    λ a.
    either (shaped (lengthened c))
    (λ b.
    let more = eqb-false (length c.banks) 1 a in
    absurd (none (held c) (held (lengthened c)) (held (narrowed (lengthened c))) (form-sound form-1 file small t.shape t.sound) more
    (says.longer more refl) (shape-so (lengthened c) (lengthened-fits c t.fits) b)))
    (λ b. b) in
    let mid' = made v in
    let p = to-form2-and-back file out v.out v.answer.count small call other old w.out (answer_in form2 form1 to_form1 drops_bit mid' old) room
    (any-call form2 form1 to_form1 drops_bit mid' old w.answer w.out second) in (
      second.answer ∙ ap conversion_count p.0,
      subst (Begins file old) (sym p.1) (begins-so file old room),
    )

-- "form 2 to 1 to 2 does too, for every file that can go back": but for one of one bank
pub form-2-and-again : (file out : List ℕ) (v : Outcome) → Bytes file → ConvertSays form-2 file out v → v.answer.refusal ≡ 0
    → ((h : Held) → Sound form-2 file h → length h.banks ≡ 1 → ⊥)
    → (old : List ℕ) (w : Outcome) → length file ≤ length old → ConvertSays form-1 (made v) old w
    → (w.answer ≡ wrote (length file)) × Begins file old w.out
form-2-and-again file out v small first zero none old w room again =
    let call = called form-2 file out v small first zero in
    let t = turned-file is2 to_form1 drops_bit file out v.answer.count v.out small call in
    let bytes' = made_bytes form-2 file out v small first zero in
    let second = convert-told form-1 (made v) bytes' old w again in
    let c = contents_in form2 file in
    let more : alone c ≡ false = ne_eqb (length c.banks) 1 (none (held c) (form-sound form-2 file small t.shape t.sound)) in
    let mid' = made v in
    let p = to-form1-and-again file out v.out v.answer.count small call more old w.out (answer_in form1 form2 to_form2 drops_none mid' old) room
    (any-call form1 form2 to_form2 drops_none mid' old w.answer w.out second) in (
      second.answer ∙ ap conversion_count p.0,
      subst (Begins file old) (sym p.1) (begins-so file old room),
    )

-- ---- the exceptions

-- a one-bank form 2 file of 4,096 nodes goes back, and coming again is refused 4 (docs/DECISIONS.md)
pub full-file-not-again : (file out : List ℕ) (v : Outcome) → Bytes file → ConvertSays form-2 file out v → v.answer.refusal ≡ 0
    → (h : Held) → Sound form-2 file h → length h.banks ≡ 1 → length h.nodes ≡ 4096
    → (old : List ℕ) (w : Outcome) → ConvertSays form-1 (made v) old w
    → (w.answer ≡ record { refusal = 4; place = 0; count = 0 }) × (w.out ≡ old)
full-file-not-again file out v small first zero h sound one full old w again =
    let call = called form-2 file out v small first zero in
    let t = turned-file is2 to_form1 drops_bit file out v.answer.count v.out small call in
    let bytes' = made_bytes form-2 file out v small first zero in
    let second = convert-told form-1 (made v) bytes' old w again in
    let c = contents_in form2 file in
    let same : c ≡ contents h = sound-contents sound in
    let alone-is : alone c ≡ true = eq-eqb (length c.banks) 1 (ap (λ (x : Contents). length x.banks) same ∙ one) in
    let many : length c.nodes ≡ 4096 = ap (λ (x : Contents). length x.nodes) same ∙ full in
    let back = any-call form1 form2 to_form2 drops_none (made v) old w.answer w.out second in
    let a = answer_in form1 form2 to_form2 drops_none (made v) old in
    let p = full-one-bank-not-again c t.fits alone-is many t.answer.short old w.out a
    (subst (λ (x : List ℕ). Converts form1 form2 to_form2 drops_none x old a w.out) t.made back) in
    (second.answer ∙ ap conversion_count p.0, p.1)

-- "a one-bank form 2 file, which comes back as the shape": where both calls answer, what stands in the buffer is the shape of what the file became
pub one-bank-comes-as-shape : (file out : List ℕ) (v : Outcome) → Bytes file → ConvertSays form-2 file out v → v.answer.refusal ≡ 0
    → (h : Held) → Sound form-2 file h → length h.banks ≡ 1
    → (old : List ℕ) (w : Outcome) → ConvertSays form-1 (made v) old w → w.answer.refusal ≡ 0
    → (e : Held) × (d : Held) × Becomes h form-2 form-1 e × ShapeOf e d × (made w ≡ bytes form-2 d)
one-bank-comes-as-shape file out v small first zero h sound one old w again nought =
    let call = called form-2 file out v small first zero in
    let t = turned-file is2 to_form1 drops_bit file out v.answer.count v.out small call in
    let bytes' = made_bytes form-2 file out v small first zero in
    let second = convert-told form-1 (made v) bytes' old w again in
    let c = contents_in form2 file in
    let alone-is : alone c ≡ true = eq-eqb (length c.banks) 1 (ap (λ (x : Contents). length x.banks) (sound-contents sound) ∙ one) in
    let mid' = made v in
    let way = converted form1 form2 to_form2 drops_none mid' old w.answer w.out second nought in
    let u = turned-file is1 to_form2 drops_none mid' old w.answer.count w.out bytes' way in
    let back : contents_in form1 mid' ≡ to_form1 c = ap (contents_in form1) t.made ∙ contents-back is1 (to_form1 c) (form1-fits c t.fits) in
    let x = to_form2 (to_form1 c) in
    let fits = form2-fits (to_form1 c) (form1-fits c t.fits) in
    let plain = ne_eqb (length c.banks) 2 (λ e. omega (arith, e, eqb-true (length c.banks) 1 alone-is)) in
    let goes : to_form1 c ≡ shortened c = rw plain refl in
    let still : alone (to_form1 c) ≡ true =
    ap (λ (y : Contents). alone y) goes ∙ ap (λ (n : ℕ). eqb n 1) (length-map c.banks (take 23)) ∙ alone-is in
    let in-mid : alone (contents_in form1 mid') ≡ true = ap (λ (y : Contents). alone y) back ∙ still in
    let few : length (contents_in form1 mid').nodes ≤ first_where (strays 0) (contents_in form1 mid').nodes = rw in-mid at u.answer.none-strays in
    let none : length (to_form1 c).nodes ≤ first_where (strays 0) (to_form1 c).nodes =
    subst (λ (y : Contents). length y.nodes ≤ first_where (strays 0) y.nodes) back few in
    let exact : first_where (strays 0) (to_form1 c).nodes ≡ length (to_form1 c).nodes =
    omega (arith, none, first-within (strays 0) (to_form1 c).nodes) in
    let wide : x ≡ widened (to_form1 c) = ap (λ (b : Bool). pick b (widened (to_form1 c)) (lengthened (to_form1 c))) still in
    let again : narrowed x ≡ to_form1 c =
    ap (λ (y : Contents). narrowed y) wide ∙ narrowed-back (to_form1 c) (form1-fits c t.fits) still exact in (
      held (to_form1 c),
      held x,
      subst (λ (y : Held). Becomes y form-2 form-1 (held (to_form1 c))) (ap held (sound-contents sound)) (becomes-so form-2 c t.fits),
      subst (λ (y : Contents). ShapeOf (held y) (held x)) again (shape-so x fits (one-bank-comes-back-as-shape c t.fits alone-is)),
      u.made ∙ ap (λ (y : Contents). written form2 (to_form2 y)) back ∙ bytes_same form-2 (held x),
    )

-- "a two-bank form 1 file that already has the shape, which comes back as one bank"
pub shape-comes-as-one-bank : (file out : List ℕ) (v : Outcome) → Bytes file → ConvertSays form-1 file out v → v.answer.refusal ≡ 0
    → (h d e : Held) → Sound form-1 file h → (length h.banks ≡ 1 → ⊥) → Becomes h form-1 form-2 d → ShapeOf e d
    → (old : List ℕ) (w : Outcome) → ConvertSays form-2 (made v) old w → w.answer.refusal ≡ 0
    → (length e.banks ≡ 1) × (made w ≡ bytes form-1 e)
shape-comes-as-one-bank file out v small first zero h d e sound more becomes shape old w again nought =
    let call = called form-1 file out v small first zero in
    let t = turned-file is1 to_form2 drops_none file out v.answer.count v.out small call in
    let bytes' = made_bytes form-1 file out v small first zero in
    let second = convert-told form-2 (made v) bytes' old w again in
    let c = contents_in form1 file in
    let same : c ≡ contents h = sound-contents sound in
    let d-is : d ≡ held (to_form2 c) = so-becomes form-1 h d (sound-fits sound) becomes ∙ ap (λ (x : Contents). held (to_form2 x)) (sym same) in
    let p = so-shape e d shape in
    let shaped-is : shaped (to_form2 c) ≡ true = ap (λ (x : Held). shaped (contents x)) (sym d-is) ∙ p.0 in
    let e-is : e ≡ held (to_form1 (to_form2 c)) =
    p.1 ∙ ap (λ (x : Held). held (narrowed (contents x))) d-is
    ∙ sym (ap (λ (b : Bool). held (pick b (narrowed (to_form2 c)) (shortened (to_form2 c)))) shaped-is) in
    let mid' = made v in
    let way = converted form2 form1 to_form1 drops_bit mid' old w.answer w.out second nought in
    let u = turned-file is2 to_form1 drops_bit mid' old w.answer.count w.out bytes' way in
    let back : contents_in form2 mid' ≡ to_form2 c = ap (contents_in form2) t.made ∙ contents-back is2 (to_form2 c) (form2-fits c t.fits) in (
      shape.2.one,
      u.made ∙ ap (λ (y : Contents). written form1 (to_form1 y)) back ∙ bytes_same form-1 (held (to_form1 (to_form2 c)))
          ∙ ap (bytes form-1) (sym e-is),
    )

-- ---- and neither is refused where there is room

-- the shape comes back
pub shape-comes-back : (file out : List ℕ) (v : Outcome) → Bytes file → ConvertSays form-1 file out v → v.answer.refusal ≡ 0
    → (h d e : Held) → Sound form-1 file h → (length h.banks ≡ 1 → ⊥) → Becomes h form-1 form-2 d → ShapeOf e d
    → (old : List ℕ) (w : Outcome) → length (bytes form-1 e) ≤ length old → ConvertSays form-2 (made v) old w
    → (w.answer ≡ wrote (length (bytes form-1 e))) × Begins (bytes form-1 e) old w.out
shape-comes-back file out v small first zero h d e sound more becomes shape old w room again =
    let call = called form-1 file out v small first zero in
    let t = turned-file is1 to_form2 drops_none file out v.answer.count v.out small call in
    let bytes' = made_bytes form-1 file out v small first zero in
    let second = convert-told form-2 (made v) bytes' old w again in
    let c = contents_in form1 file in
    let x = to_form2 c in
    let m = makes2 c t.fits in
    let d-is : d ≡ held x = so-becomes form-1 h d (sound-fits sound) becomes ∙ ap (λ (y : Contents). held (to_form2 y)) (sym (sound-contents sound)) in
    let p = so-shape e d shape in
    let shaped-is : shaped x ≡ true = ap (λ (y : Held). shaped (contents y)) (sym d-is) ∙ p.0 in
    let e-is : e ≡ held (narrowed x) = p.1 ∙ ap (λ (y : Held). held (narrowed (contents y))) d-is in
    let goes : to_form1 x ≡ narrowed x = rw shaped-is refl in
    let not-alone : alone c ≡ false =
    ne_eqb (length c.banks) 1 (λ z. more (ap (λ (y : Contents). length y.banks) (sym (sound-contents sound)) ∙ z)) in
    let longer-is : x ≡ lengthened c = ap (λ (b : Bool). pick b (widened c) (lengthened c)) not-alone in
    let two : length c.banks ≡ 2 =
    sym (length-map c.banks (λ (b : List ℕ). b ++ zeros 1)) ∙ ap (λ (y : Contents). length y.banks) (sym longer-is) ∙ shape_two x shaped-is in
    let from-c = ap (λ (y : Contents). length (written form2 y)) longer-is in
    let fits = form2-fits c t.fits in
    let is_made : written form1 (narrowed x) ≡ bytes form-1 e = bytes_same form-1 (held (narrowed x)) ∙ ap (bytes form-1) (sym e-is) in
    let long = ap length is_made in
    let ok : Fine form1 x (narrowed x) (drops_bit x) (length old) =
    record {
      few = omega (arith, t.answer.few, rest-long x fits (shape_two x shaped-is) (shape-some x shaped-is));
      few-rows = omega (arith, m.rows, t.answer.few-rows);
      none = stray-none x m.more;
      short = omega (arith, t.short, two, from-c, lengthened-long c t.fits, narrowed-long x fits (shape_two x shaped-is) (shape-some x shaped-is));
      kept = m.clear;
      fits = omega (arith, long, room);
    } in
    let mid' = made v in
    let a = answer_in form2 form1 to_form1 drops_bit mid' old in
    let back = any-call form2 form1 to_form1 drops_bit mid' old w.answer w.out second in
    let q = second_call is2 to_form1 drops_bit x (narrowed x) fits t.answer.short goes old w.out a ok
    (subst (λ (f : List ℕ). Converts form2 form1 to_form1 drops_bit f old a w.out) t.made back) in (
      second.answer ∙ ap conversion_count q.0 ∙ ap wrote long,
      subst (Begins (bytes form-1 e) old) (sym (q.1 ∙ ap (λ (f : List ℕ). f ++ drop (length f) old) is_made)) (begins-so (bytes form-1 e) old room),
    )

-- and a one-bank form 2 file comes again, where it has fewer than 4,096 nodes and the result is within its form's length
pub one-bank-comes-again : (file out : List ℕ) (v : Outcome) → Bytes file → ConvertSays form-2 file out v → v.answer.refusal ≡ 0
    → (h d e : Held) → Sound form-2 file h → length h.banks ≡ 1 → length h.nodes < 4096 → Becomes h form-2 form-1 e → ShapeOf e d
    → (old : List ℕ) (w : Outcome) → length (bytes form-2 d) ≤ 65536 → length (bytes form-2 d) ≤ length old → ConvertSays form-1 (made v) old w
    → (w.answer ≡ wrote (length (bytes form-2 d))) × Begins (bytes form-2 d) old w.out
one-bank-comes-again file out v small first zero h d e sound one few becomes shape old w low room again =
    let call = called form-2 file out v small first zero in
    let t = turned-file is2 to_form1 drops_bit file out v.answer.count v.out small call in
    let bytes' = made_bytes form-2 file out v small first zero in
    let second = convert-told form-1 (made v) bytes' old w again in
    let c = contents_in form2 file in
    let same : c ≡ contents h = sound-contents sound in
    let single : length c.banks ≡ 1 = ap (λ (y : Contents). length y.banks) same ∙ one in
    let many : length c.nodes ≡ length h.nodes = ap (λ (y : Contents). length y.nodes) same in
    let alone-is : alone c ≡ true = eq-eqb (length c.banks) 1 single in
    let plain = ne_eqb (length c.banks) 2 (λ z. omega (arith, z, single)) in
    let goes : to_form1 c ≡ shortened c = rw plain refl in
    let y = shortened c in
    let still : alone y ≡ true = ap (λ (n : ℕ). eqb n 1) (length-map c.banks (take 23)) ∙ alone-is in
    let again : to_form2 y ≡ widened y = ap (λ (b : Bool). pick b (widened y) (lengthened y)) still in
    let e-is : e ≡ held y = so-becomes form-2 h e (sound-fits sound) becomes ∙ ap (λ (z : Contents). held (to_form1 z)) (sym same) ∙ ap held goes in
    let d-is : d ≡ held (widened y) = so-widened e d shape.2 ∙ ap (λ (z : Held). held (widened (contents z))) e-is in
    let is_made : written form2 (widened y) ≡ bytes form-2 d = bytes_same form-2 (held (widened y)) ∙ ap (bytes form-2) (sym d-is) in
    let long = ap length is_made in
    let none-c : length c.nodes ≤ first_where (strays 0) c.nodes = rw alone-is at t.answer.none-strays in
    let none-y : length y.nodes ≤ stray y = rw still none-c in
    let ok : Fine form2 y (widened y) false (length old) =
    record {
      few = omega (arith, many, few, length-map c.nodes (turned 1));
      few-rows = omega (arith, t.answer.few-rows);
      none = none-y;
      short = omega (arith, long, low);
      kept = refl;
      fits = omega (arith, long, room);
    } in
    let mid' = made v in
    let a = answer_in form1 form2 to_form2 drops_none mid' old in
    let back = any-call form1 form2 to_form2 drops_none mid' old w.answer w.out second in
    let short : length (written form1 y) ≤ form1.longest = rw goes at t.answer.short in
    let q = second_call is1 to_form2 drops_none y (widened y) (shortened-fits c t.fits) short again old w.out a ok
    (subst (λ (f : List ℕ). Converts form1 form2 to_form2 drops_none f old a w.out) (t.made ∙ ap (written form1) goes) back) in (
      second.answer ∙ ap conversion_count q.0 ∙ ap wrote long,
      subst (Begins (bytes form-2 d) old) (sym (q.1 ∙ ap (λ (f : List ℕ). f ++ drop (length f) old) is_made)) (begins-so (bytes form-2 d) old room),
    )
