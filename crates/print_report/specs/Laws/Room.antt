-- Laws that Theorems/Room rests on.
use Rattle.std.specs.Prelude.{◌≡◌, Bool, true, false, List, ℕ, ◌+◌, ◌*◌, ◌≤◌, ◌<◌, ltb, length, Result, Err, Ok}
use Rattle.std.proofs.Common.{ap, subst, arith}
use Rattle.prelude.specs.Laws.Bools.{unlike}
use Rattle.prelude.specs.Limits.{max_position}
use Rattle.prelude.specs.Pick.{pick}
use Rattle.prelude.specs.Refusals.{place_of}
use Rattle.prelude.specs.Told.{Told, gives, refuses}
use Rattle.prelude.specs.declared.Place.{Place}
use Rattle.prelude.specs.declared.Place.TheVariants.{One, Two}
use Rattle.prelude.specs.declared.Refusal.{Refusal}
use Rattle.prelude.specs.declared.Refusal.TheVariants.{TooShort as ShortOf}
use Rattle.bitvec.specs.Bits.{Bytes}
use Rattle.resolver.proofs.Answer.{accepted-layout}
use Rattle.build_visits.specs.Items.{items_of, length_of}
use Rattle.output.specs.Output.{Input, Room, placed_build, settled_build, visits_of, closed_of, fill_of, settled_of}
use Rattle.output.specs.declared.Built.{Built}
use Rattle.output.specs.Built.{done_with}
use Rattle.build_plan.specs.Placing.{Placed, holds, stops, placed_all}
use Rattle.build_visits.specs.Spans.{spans_of as spans_in}
use Rattle.form_fields.specs.Kind.{kind_of}
use Rattle.form_fields.specs.Theorems.Kind.{kind-known, kind-headed}
use Rattle.form_fields.specs.Laws.Kind.{known-longest}
use Rattle.form_fields.specs.Shape.{form_of, rows_start_in, limit_start_in, bank_count, shape_in}
use Rattle.form_fields.specs.Laws.Shape.{node_count}
use Rattle.form_fields.specs.Told.{FormTold, told_form, long, no-head, no-values, no-limit, extra, sound}
use Rattle.form_fields.specs.Theorems.Told.{form-told}
use Rattle.form_fields.specs.Laws.Within.{nodes-within, rows-within, banks-within, fields_within}
use Rattle.form_fields.specs.declared.Shape.{Shape}
use Rattle.print_text.specs.Lengths.{AllFew}
use Rattle.print_text.specs.Theorems.Lengths.{refusal-few}
use Rattle.print_text.specs.Lines.{place_numbers, refusal_text}
use Rattle.print_report.specs.Blocks.{farthest}
use Rattle.print_report.specs.Places.{place_sum, sum_of}
use Rattle.print_report.specs.Room.{report_room}

-- K is no higher than the limit
abbrev pub k_of : Result Built Refusal → ℕ
k_of (Ok ended) = ended.k
k_of (Err why) = 0

choice-k : (t : Bool) (x y : Result Built Refusal) (k : ℕ) → k_of x ≤ k → k_of y ≤ k → k_of (pick t x y) ≤ k
choice-k true x y k a b = a
choice-k false x y k a b = b

placed-k : (room : Room) (k bits spans : ℕ) (q : Placed) → k_of (placed_build room k bits spans q) ≤ k
placed-k room k bits spans (stops why) = omega arith
placed-k room k bits spans (holds s) =
    let fits = pick (ltb room.spans spans) (Err (ShortOf 1)) (done_with k bits spans) in
    choice-k (ltb (8 * room.image) bits) (Err (ShortOf 0)) fits k (omega arith)
    (choice-k (ltb room.spans spans) (Err (ShortOf 1)) (done_with k bits spans) k (omega arith) (omega arith))

pub settled-k : (b : Input) (room : Room) (passes : ℕ) (s : Result ℕ Refusal) → settled_of b ≡ s → k_of (settled_build b room passes s) ≤ b.choices.limit
settled-k b room passes (Err why) e = omega arith
settled-k b room passes (Ok k) e =
    let vs = visits_of b passes in
    omega (
      arith,
      placed-k room k (length_of (fill_of b) (items_of vs)) (length (spans_in vs)) (placed_all (closed_of b) vs),
      (accepted-layout b.banks b.lists b.choices k e).0.within,
    )

-- ---- the text of a refusal

few-numbers : (p : Place) → place_sum p ≤ farthest → AllFew (place_numbers p)
few-numbers (One p) h = (omega arith, tt)
few-numbers (Two p q) h = (omega arith, (omega arith, tt))

pub refused-short : (why : Refusal) → sum_of why ≤ farthest → length (refusal_text why) ≤ report_room
refused-short why h = omega (arith, refusal-few why (few-numbers (place_of why) h))

-- ---- a file by its form

abbrev told_sum : Told Shape → ℕ
told_sum (gives s) = 0
told_sum (refuses n p) = place_sum p

not-given : {n : ℕ} {p : Place} {s : Shape} → refuses n p ≡ gives s → ⊥
not-given e = unlike cc

shape_same : {s r : Shape} → ◌≡◌ {A = Told Shape} (gives s) (gives r) → r ≡ s
shape_same e = cc

module _ (file : List ℕ) where
  told-near : {t : Told Shape} → FormTold (kind_of file) file t → told_sum t ≤ farthest
  told-near (long h) = omega arith
  told-near (no-head h a) = omega arith
  told-near (no-values h a b) = omega (arith, h, fields_within (kind-known file) file a, known-longest (kind-known file))
  told-near (no-limit h a b c) = omega (arith, h, fields_within (kind-known file) file a, known-longest (kind-known file))
  told-near (extra h a b c d) = omega (arith, h, fields_within (kind-known file) file a, known-longest (kind-known file))
  told-near (sound h a b c d) = omega arith

  pub broken-near : (why : Refusal) → form_of file ≡ Err why → sum_of why ≤ farthest
  broken-near why e = told-near (subst (λ (f : Result Shape Refusal). FormTold (kind_of file) file (told_form f)) e (form-told (kind_of file) file))

  told-sound : {t : Told Shape} → FormTold (kind_of file) file t → (s : Shape) → t ≡ gives s
      → (length file ≤ (kind_of file).longest) × (s ≡ shape_in (kind_of file) file)
  told-sound (long h) s e = absurd (not-given e)
  told-sound (no-head h a) s e = absurd (not-given e)
  told-sound (no-values h a b) s e = absurd (not-given e)
  told-sound (no-limit h a b c) s e = absurd (not-given e)
  told-sound (extra h a b c d) s e = absurd (not-given e)
  told-sound (sound h a b c d) s e = (h, shape_same e)

  pub sound-is : (s : Shape) → form_of file ≡ Ok s → (length file ≤ (kind_of file).longest) × (s ≡ shape_in (kind_of file) file)
  sound-is s e = told-sound (form-told (kind_of file) file) s (ap told_form e)

  pub few-banks : length file ≤ (kind_of file).longest → bank_count file ≤ max_position
  few-banks h =
      omega (
        arith,
        h,
        known-longest (kind-known file),
        banks-within (kind-known file) file (kind-headed file),
        nodes-within (kind-known file) file (kind-headed file),
      )

  pub few-nodes : length file ≤ (kind_of file).longest → node_count file ≤ max_position
  unfolding rows_start_in
  few-nodes h = omega (arith, h, known-longest (kind-known file), rows-within (kind-known file) file (kind-headed file))

  pub limit-byte : Bytes file → (shape_in (kind_of file) file).limit < 256
  unfolding shape_in
  limit-byte bytes = bytes (limit_start_in (kind_of file) file + 3)
