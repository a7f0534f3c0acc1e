-- `prog_rehex`: its text meets the sentences, and they leave one.
use Rattle.std.specs.Prelude.{◌≡◌, refl, Bool, true, false, ◌&&◌, List, [], ◌∷◌, ◌++◌, ◌⊎◌, ℕ, zero, suc, ◌≤◌, ◌<◌, leb, ltb, eqb, length, get_or, take, drop, replicate, Ok, Err, Result}
use Rattle.std.proofs.Common.{sym, ap, ◌∙◌, inl, inr, arith, take_at}
use Rattle.std.proofs.Math.Path.{subst}
use borrow.Author.Tests.{le-leb, leb-true, leb-false, lt-ltb, eqb-true, eqb-false, eq-eqb}
use Rattle.std.proofs.lemmas.List.{length-replicate}
use Rattle.prelude.specs.Laws.Bools.{either, clash, both}
use Rattle.prelude.specs.Pick.{pick}
use Rattle.prelude.specs.Refusals.{number_of, place_of}
use Rattle.prelude.specs.Theorems.Told.{number-some}
use Rattle.prelude.specs.Told.{gives, refuses}
use Rattle.prelude.specs.declared.Place.TheVariants.{One}
use Rattle.prelude.specs.declared.Refusal.TheVariants.{Malformed, BadPart, TooShort}
use Rattle.prelude.specs.declared.Refusal.{Refusal}
use Rattle.bitvec.specs.Bits.{Bytes}
use Rattle.blocks.specs.declared.Block.{Block}
use Rattle.blocks.specs.Outcome.{ToldBy}
use Rattle.record_scan.specs.Outcome.{fault_of}
use Rattle.record_scan.specs.Reading.{Read, sound, faulty, read_text}
use Rattle.record_read.specs.Laws.Found.{Held, held}
use Rattle.record_read.specs.Outcome as records
use Rattle.record_read.specs.Outcome.{lent, bytes_fit, blocks_fit, answer_of, told_of, lent_after, Reads}
use Rattle.record_read.specs.Runs.{blocks_given}
use Rattle.record_read.specs.Theorems.GivenLaws.{filled-long}
use Rattle.record_write.specs.Checks.{all_parts, all_placed}
use Rattle.record_write.specs.Cut.{blocks_in}
use Rattle.record_write.specs.Srec as srec
use Rattle.record_write.specs.Text.{text_of}
use Rattle.thm_record_room.specs.Laws.Calls.{blocks-in}
use Rattle.thm_record_room.specs.Records.{format_ok, records_or}
use Rattle.thm_record_room.specs.Theorems.Room.{turned-files-fit}
use Rattle.print_text.specs.Ascii.{ascii}
use Rattle.print_text.specs.Lines.{place_numbers, refusal_text}
use Rattle.print_rehex.specs.Laws.Turned.{unread, few, first-long, second-long, text-is, too_long, not-long}
use Rattle.print_rehex.specs.Rehex.{longest, fault_text, turned, turned_text}
use Rattle.print_rehex.specs.Steps.{records_of}
use Rattle.c_answers.specs.Counts.{blocks_count, written_count}
use Rattle.c_answers.specs.Parts.{line_told}
use Rattle.c_answers.specs.Told.{first_of}
use Rattle.c_answers.specs.declared.DkFault.{DkFault}
use Rattle.c_model.specs.RecordFiles.{read_as, ReadTold, FaultTold}
use Rattle.meets.specs.Laws.Words.{OneOnly}
use Rattle.meets_reason.specs.Laws.Formats.{same_read}
use Rattle.meets_records.specs.Theorems.FaultDecides.{fault-decides}
use Rattle.meets_records.specs.Theorems.FaultMeets.{fault-meets}
use Rattle.meets_records.specs.Theorems.ReadDecides.{read-decides}
use Rattle.meets_records.specs.Theorems.ReadMeets.{read_meets}
use Rattle.meets_records.specs.Theorems.WriteDecides.{write-hex-decides, write-srec-decides}
use Rattle.meets_records.specs.Theorems.WriteMeets.{write-hex-meets, write-srec-meets}
use Rattle.says.specs.Read as read
use Rattle.says.specs.Read.{Lent, ReadSays, FaultSays}
use Rattle.says.specs.Write as write
use Rattle.says.specs.Write.{Given, HexSays, SrecSays}
use Rattle.says.specs.Lines.{Line}
use Rattle.says.specs.Texts as says
use Rattle.says.specs.Texts.{Refused, Prints, taken, Fault, Turns, RehexText}
use Rattle.meets_texts.specs.Laws.AnyRoom.{any-room}
use Rattle.meets_texts.specs.Laws.Bytes.{filled-bytes}
use Rattle.meets_report.specs.Laws.Lines.{line-one, line-meets}
use Rattle.meets_texts.specs.Theorems.Convert.{prints-one}

-- ---- what the sentences say in place: as what a file is read, how it is written, what is lent

abbrev ReadAs : ℕ → ℕ → Type 0
ReadAs kind k = ((kind ≡ 0) × (k ≡ 0)) ⊎ ((kind ≡ 0 → ⊥) × (k ≡ 1))

abbrev WriteSays : ℕ → Given → List ℕ → write.Outcome → Type 0
WriteSays format g old z = ((format ≡ 0) × HexSays g old z) ⊎ ((format ≡ 0 → ⊥) × SrecSays g old format z)

record Lends (old : Lent) (out : List ℕ) : Type 0 where
  bytes : (length old.bytes ≡ 1048576) × ((i : ℕ) → get_or old.bytes i 0 < 256)
  blocks : (length old.offsets ≡ 4096) × (length old.sizes ≡ 4096)
  text : length out ≡ 3145728

-- ---- the call that writes, in a room in which every file fits

module _ (text old : List ℕ) where
  abbrev by_tests : (p q f : Bool) → write.Outcome
  by_tests p q f =
      record {
        answer = written_count (pick p (pick q (pick f (Ok (length text)) (Err (TooShort 3))) (Err (Malformed 0))) (Err BadPart));
        text = pick (p && q && f) (text ++ drop (length text) old) old;
      }

  prints : (p q f : Bool) → (p ≡ true → q ≡ true → f ≡ true)
      → Prints (by_tests p q f).answer (by_tests p q f).text (pick p (pick q text (refusal_text (Malformed 0))) (refusal_text BadPart))
  prints true true true h =
      subst (Prints (by_tests true true true).answer (by_tests true true true).text) (take_at text (drop (length text) old) (length text) refl)
      (says.accepted refl)
  prints true true false h = absurd (clash (h refl refl) refl)
  prints true false f h = says.refused (omega arith) (line-meets (ascii "refused") (4 ∷ 0 ∷ []))
  prints false q f h = says.refused (omega arith) (line-meets (ascii "refused") (16 ∷ 0 ∷ []))

module _ (g : Given) (good : Bytes g.image) (paired : length g.offsets ≡ length g.sizes) (old : List ℕ)
    (fit : (format : ℕ) → all_parts (length g.image) (blocks_in g.offsets g.sizes) ≡ true
    → all_placed g.load (blocks_in g.offsets g.sizes) ≡ true
    → length (text_of format g.load g.image (blocks_in g.offsets g.sizes)) ≤ length old) where
  abbrev listed : List Block
  listed = blocks_in g.offsets g.sizes

  abbrev text : ℕ → List ℕ
  text format = text_of format g.load g.image listed

  abbrev placed : Bool
  placed = all_placed g.load listed

  alike : eqb (length g.offsets) (length g.sizes) ≡ true
  alike = eq-eqb (length g.offsets) (length g.sizes) paired

  printed-by : (format : ℕ) (q : Bool) → q ≡ (format_ok format g.load listed && placed)
      → Prints (by_tests (text format) old (all_parts (length g.image) listed) q (leb (length (text format)) (length old))).answer
      (by_tests (text format) old (all_parts (length g.image) listed) q (leb (length (text format)) (length old))).text
      (records_of format g.load g.image listed)
  unfolding records_or
  printed-by format q e =
      let z = by_tests (text format) old (all_parts (length g.image) listed) q (leb (length (text format)) (length old)) in
      subst (λ (r : Bool). Prints z.answer z.text
      (pick (all_parts (length g.image) listed) (pick r (text format) (refusal_text (Malformed 0))) (refusal_text BadPart))) e
      (prints (text format) old (all_parts (length g.image) listed) q (leb (length (text format)) (length old))
      (λ p h. le-leb (length (text format)) (length old) (fit format p (both (format_ok format g.load listed) placed (sym e ∙ h)).1)))

  abbrev Done-by : ℕ → Type 0
  Done-by format = (z : write.Outcome) × WriteSays format g old z × Prints z.answer z.text (records_of format g.load g.image listed)

  hex-done : Done-by 0
  hex-done =
      let q = eqb (length g.offsets) (length g.sizes) && placed in
      let z = by_tests (text 0) old (all_parts (length g.image) listed) q (leb (length (text 0)) (length old)) in
      (z, inl (refl, write-hex-meets g old good z.answer z.text (record { told = refl; text = refl })), printed-by 0 q (rw alike))

  srec-done : (format : ℕ) → eqb format 0 ≡ false → Done-by format
  srec-done format e =
      let q = srec.places_ok g.offsets g.sizes g.load format in
      let z = by_tests (text format) old (all_parts (length g.image) listed) q (leb (length (text format)) (length old)) in (
        z,
        inr (eqb-false format 0 e, write-srec-meets g old good format z.answer z.text (record { told = refl; text = refl })),
        printed-by format q (rw (alike, e)),
      )

  done : (format : ℕ) → Done-by format
  done format = either (eqb format 0) (λ t. subst Done-by (sym (eqb-true format 0 t)) hex-done) (λ f. srec-done format f)

-- ---- the call that reads

-- a refusal's place is one number
abbrev pub Plain : Result ℕ Refusal → Type 0
Plain (Ok n) = Unit {0}
Plain (Err why) = place_numbers (place_of why) ≡ first_of (place_of why) ∷ []

pub record Placed (r : Result ℕ Refusal) : Type 0 where
  pub is : Plain r

module _ (load : ℕ) (l : records.Lent) where
  pub plain : (x : Read) → Placed (answer_of load l x)
  plain (faulty n) = record { is = refl }
  plain (sound ps) = by (bytes_fit load ps l) (blocks_fit load ps l)
    where
      by : (p q : Bool) → Placed (pick p (pick q (Ok (length (blocks_given load ps))) (Err (TooShort 2))) (Err (TooShort 0)))
      by true true = record { is = tt }
      by true false = record { is = refl }
      by false q = record { is = refl }

  pub figured : (x : Read) → ToldBy (answer_of load l x) ≡ told_of load l x
  figured (faulty n) = refl
  figured (sound ps) = by (bytes_fit load ps l) (blocks_fit load ps l)
    where
      by : (p q : Bool) → ToldBy (pick p (pick q (Ok (length (blocks_given load ps))) (Err (TooShort 2))) (Err (TooShort 0)))
          ≡ pick p (pick q (gives (length (blocks_given load ps))) (refuses 14 (One 2))) (refuses 14 (One 0))
      by true true = refl
      by true false = refl
      by false q = refl

pub fault-meets-text : (x : Read) → Fault (line_told (fault_of x)) (fault_text x)
fault-meets-text (sound ps) = says.none refl
fault-meets-text (faulty n) = says.at-line refl (line-meets (ascii "line") (n ∷ []))

module _ (k format load : ℕ) (known : k < 2) (source : List ℕ) where
  abbrev said : Read
  said = read_text k load source

  as-known : read_as k load source ≡ said
  as-known = rw (lt-ltb k 2 known) refl

  fault-so : FaultSays k load source [] (line_told (fault_of said), [])
  fault-so =
      fault-meets k load source [] (line_told (fault_of said)) []
      (subst (λ (x : Read). FaultTold x [] (line_told (fault_of said)) []) (sym as-known) (record { answer = refl; left = refl }))

  module _ (old : Lent) (out : List ℕ) (lends : Lends old out) where
    abbrev l : records.Lent
    l = lent old.bytes old.offsets old.sizes old.scratch

    abbrev r : Result ℕ Refusal
    r = answer_of load l said

    abbrev new : records.Lent
    new = lent_after load l said

    abbrev left : Lent
    left = record { bytes = new.bytes; offsets = new.offsets; sizes = new.sizes; scratch = new.scratch }

    read-so : ReadSays k load source old (record { answer = blocks_count r; lent = left })
    read-so =
        read_meets k load source old (blocks_count r) left
        (subst (λ (x : Read). ReadTold load x l (blocks_count r) new) (sym as-known) (record { answer = refl; left = refl }))

    reads : Reads load said l r new
    reads = record { answer = refl; figures = figured load l said; after = refl }

    module _ (n : ℕ) (e : r ≡ Ok n) where
      h : Held load l said n new
      h = held load l said r new reads n e

      abbrev g : Given
      g = record { image = new.bytes; offsets = take n new.offsets; sizes = take n new.sizes; load = load }

      bytes-are : new.bytes ≡ (records.taken load h.pieces l).bytes
      bytes-are = ap (λ (x : records.Lent). x.bytes) h.after

      good : Bytes new.bytes
      good = subst Bytes (sym bytes-are) (filled-bytes k load known source h.pieces h.good old.bytes lends.bytes.1)

      long : length new.bytes ≡ 1048576
      long = ap length bytes-are ∙ filled-long load h.pieces old.bytes ∙ lends.bytes.0

      firsts : length (take n new.offsets) ≡ n
      firsts = first-long k format load source l lends.bytes.0 lends.blocks.0 lends.blocks.1 r new reads n e

      seconds : length (take n new.sizes) ≡ n
      seconds = second-long k format load source l lends.bytes.0 lends.blocks.0 lends.blocks.1 r new reads n e

      fits : (m : ℕ) → all_parts (length new.bytes) (blocks_in g.offsets g.sizes) ≡ true → all_placed load (blocks_in g.offsets g.sizes) ≡ true
          → length (text_of m load new.bytes (blocks_in g.offsets g.sizes)) ≤ length out
      fits m p q =
          let small = few k format load source l lends.bytes.0 lends.blocks.0 lends.blocks.1 r new reads n e in
          omega (
            arith,
            turned-files-fit m load new.bytes (blocks_in g.offsets g.sizes) good p q (omega (arith, long))
                (omega (arith, blocks-in g.offsets g.sizes, firsts, small)),
            lends.text,
          )

      found-turns : Turns format load (line_told (fault_of said)) out (record { answer = blocks_count (Ok n); lent = left })
          (turned format load old.bytes said)
      found-turns =
          let d = done g good (firsts ∙ sym seconds) out fits format in
          subst (Turns format load (line_told (fault_of said)) out (record { answer = blocks_count (Ok n); lent = left }))
          (text-is k format load source l lends.bytes.0 lends.blocks.0 lends.blocks.1 r new reads n e)
          (says.written refl d.1 d.2)

    turns-by : (x : Result ℕ Refusal) → r ≡ x → Placed x
        → Turns format load (line_told (fault_of said)) out (record { answer = blocks_count x; lent = left }) (turned format load old.bytes said)
    turns-by (Ok n) e p = found-turns n e
    turns-by (Err why) e p =
        subst (Turns format load (line_told (fault_of said)) out (record { answer = blocks_count (Err why); lent = left }))
        (sym (unread format load l lends.bytes.0 lends.blocks.0 lends.blocks.1 reads e))
        (says.unread (number-some why)
        (subst (λ (ns : List ℕ). Line (ascii "refused") (number_of why ∷ ns) (refusal_text why)) p.is
        (line-meets (ascii "refused") (number_of why ∷ place_numbers (place_of why))))
        (fault-meets-text said))

    turns-so : Turns format load (line_told (fault_of said)) out (record { answer = blocks_count r; lent = left }) (turned format load old.bytes said)
    turns-so = turns-by r refl (plain load l said)

-- ---- the text

module _ (kind format load : ℕ) (source bytes : List ℕ) (room : length bytes ≡ 1048576) where
  by_kind : (k : ℕ) → k < 2 → ReadAs kind k → read_text kind load source ≡ read_text k load source → length source ≤ longest
      → RehexText kind format load source (turned format load bytes (read_text kind load source))
  by_kind k known kinds same short =
      says.turns short kinds (fault-so k format load known source) (λ old out bytes-are blocks-are text-is-long.
      let lends : Lends old out = record { bytes = bytes-are; blocks = blocks-are; text = text-is-long } in (
        record { answer = blocks_count (r k format load known source old out lends); lent = left k format load known source old out lends },
        read-so k format load known source old out lends,
        subst (Turns format load (line_told (fault_of (read_text k load source))) out _)
            (any-room k format load source old.bytes bytes lends.bytes.0 room ∙ sym (ap (turned format load bytes) same))
            (turns-so k format load known source old out lends),
      ))

  pub rehex-text-meets : RehexText kind format load source (turned_text kind format load bytes source)
  rehex-text-meets =
      either (leb (length source) longest)
      (λ t.
      let short = leb-true (length source) longest t in
      subst (RehexText kind format load source) (sym (not-long kind format load bytes source short))
      (either (eqb kind 0)
      (λ z. let e = eqb-true kind 0 z in by_kind 0 (omega arith) (inl (e, refl)) (ap (λ (k : ℕ). read_text k load source) e) short)
      (λ z. let n = eqb-false kind 0 z in by_kind 1 (omega arith) (inr (n, refl)) (same_read kind load source n) short)))
      (λ f.
      let long = leb-false (length source) longest f in
      subst (RehexText kind format load source) (sym (too_long kind format load bytes source long))
      (says.too_long long (line-meets (ascii "refused") (4 ∷ 0 ∷ []))))

-- ---- they leave one

read-as-one : (kind : ℕ) → OneOnly (ReadAs kind)
read-as-one kind j k (inl x) (inl y) = omega (arith, x.1, y.1)
read-as-one kind j k (inl x) (inr y) = absurd (y.0 x.0)
read-as-one kind j k (inr x) (inl y) = absurd (x.0 y.0)
read-as-one kind j k (inr x) (inr y) = omega (arith, x.1, y.1)

write-one : (format : ℕ) (g : Given) (old : List ℕ) → OneOnly (WriteSays format g old)
write-one format g old y z (inl a) (inl c) = write-hex-decides g old y z a.1 c.1
write-one format g old y z (inl a) (inr c) = absurd (c.0 a.0)
write-one format g old y z (inr a) (inl c) = absurd (a.0 c.0)
write-one format g old y z (inr a) (inr c) = write-srec-decides g old format y z a.1 c.1

pub fault-one : (f : DkFault) → OneOnly (Fault f)
fault-one f t u (says.none e) (says.none h) = refl
fault-one f t u (says.none e) (says.at-line h l) = absurd (omega arith)
fault-one f t u (says.at-line h l) (says.none e) = absurd (omega arith)
fault-one f t u (says.at-line e l) (says.at-line h m) = line-one (ascii "line") (f.line ∷ []) t u l m

turns-one : (format load : ℕ) (f : DkFault) (out : List ℕ) (y : read.Outcome) → OneOnly (Turns format load f out y)
turns-one format load f out y t u (says.unread {t = a} {u = b} h l x) (says.unread {t = c} {u = d} e m z) =
    ap (λ (w : List ℕ). w ++ b) (line-one (ascii "refused") (y.answer.refusal ∷ y.answer.place ∷ []) a c l m)
    ∙ ap (λ (w : List ℕ). c ++ w) (fault-one f b d x z)
turns-one format load f out y t u (says.unread h l x) (says.written e w p) = absurd (omega arith)
turns-one format load f out y t u (says.written e w p) (says.unread h l x) = absurd (omega arith)
turns-one format load f out y t u (says.written {z} e w p) (says.written {z = v} h x q) =
    prints-one z.answer z.text t u p
    (subst (λ (o : write.Outcome). Prints o.answer o.text u) (write-one format (taken load y) out v z x w) q)

-- rooms of some lengths
some_bytes : (n : ℕ) → (l : List ℕ) × (length l ≡ n) × Bytes l
some_bytes n = (replicate n 0, length-replicate n 0, zeros n)
  where
    zeros : (m : ℕ) (j : ℕ) → get_or (replicate m 0) j 0 < 256
    zeros zero j = omega arith
    zeros (suc m) zero = omega arith
    zeros (suc m) (suc j) = zeros m j

module _ (kind format load : ℕ) (source : List ℕ) where
  abbrev Each : ℕ → DkFault → List ℕ → Type 0
  Each k f t =
      (old : Lent) (out : List ℕ) → (length old.bytes ≡ 1048576) × ((i : ℕ) → get_or old.bytes i 0 < 256)
      → (length old.offsets ≡ 4096) × (length old.sizes ≡ 4096) → length out ≡ 3145728
      → (y : read.Outcome) × ReadSays k load source old y × Turns format load f out y t

  each-one : (k : ℕ) (f : DkFault) (t u : List ℕ) → Each k f t → Each k f u → t ≡ u
  each-one k f t u p q = go (some_bytes 1048576) (some_bytes 4096) (some_bytes 3145728)
    where
      go : (l : List ℕ) × (length l ≡ 1048576) × Bytes l → (m : List ℕ) × (length m ≡ 4096) × Bytes m → (o : List ℕ) × (length o ≡ 3145728) × Bytes o → t ≡ u
      go x m o =
          let old : Lent = record { bytes = x.0; offsets = m.0; sizes = m.0; scratch = [] } in
          let a = p old o.0 (x.1, x.2) (m.1, m.1) o.1 in
          let b = q old o.0 (x.1, x.2) (m.1, m.1) o.1 in
          turns-one format load f o.0 a.0 t u a.2
          (subst (λ (y : read.Outcome). Turns format load f o.0 y u) (read-decides k load source old b.0 a.0 b.1 a.1) b.2)

  pub rehex-text-decides : OneOnly (RehexText kind format load source)
  rehex-text-decides t u (says.too_long h l) (says.too_long g m) = line-one (ascii "refused") (4 ∷ 0 ∷ []) t u l m
  rehex-text-decides t u (says.too_long h l) (says.turns g a s e) = absurd (omega arith)
  rehex-text-decides t u (says.turns g a s e) (says.too_long h l) = absurd (omega arith)
  rehex-text-decides t u (says.turns {k} {f} g a s e) (says.turns {k = j} {f = c} h b v x) =
      let same : j ≡ k = read-as-one kind j k b a in
      let said = subst (λ (i : ℕ). FaultSays i load source [] (c, [])) same v in
      let alike : c ≡ f = ap (λ (z : DkFault × List ℕ). z.0) (fault-decides k load source [] (c, []) (f, []) said s) in
      each-one k f t u e (subst (λ (d : DkFault). Each k d u) alike (subst (λ (i : ℕ). Each i c u) same x))
