-- `prog_overlay`: its text meets the sentences.
use Rattle.std.specs.Prelude.{◌≡◌, Bool, true, false, List, [], ◌∷◌, ◌++◌, ◌⊎◌, ℕ, ◌+◌, ◌-◌, ◌*◌, ◌/◌, ◌≤◌, ◌<◌, leb, ltb, eqb, length, take, drop, Result, Err, Ok}
use Rattle.std.proofs.Math.Path.{refl, subst}
use Rattle.std.proofs.Common.{sym, ap, ap₂, ◌∙◌, append-nil, inl, inr, ⊎_elim, arith, length-take}
use Rattle.std.proofs.Math.Decide.{dec_lt}
use borrow.Author.Tests.{le-leb, lt-leb, leb-true, leb-false, lt-ltb, ltb-true, ltb-false, eqb-true, eqb-false}
use Rattle.std.proofs.lemmas.List.{length-map}
use Rattle.prelude.specs.Laws.Bools.{either, clash}
use Rattle.prelude.specs.Laws.Pick.{pick_true, pick-false}
use Rattle.prelude.specs.Pick.{pick}
use Rattle.prelude.specs.Refusals.{number_of, place_of}
use Rattle.prelude.specs.Theorems.Told.{number-some}
use Rattle.prelude.specs.declared.Refusal.{Refusal}
use Rattle.prelude.specs.declared.Refusal.TheVariants.{Malformed, TooShort, BadPart, PartlyCovered}
use Rattle.blocks.specs.Outcome.{origins, sizes}
use Rattle.blocks.specs.declared.Block.{Block}
use Rattle.overlay.specs.Cover.{covered_bit, all_covered, none_covered}
use Rattle.overlay.specs.Laws.Range.{inside-true}
use Rattle.overlay.specs.Range.{inside, source_of}
use Rattle.overlay.specs.Runs.{runs_of}
use Rattle.overlay.specs.Trial.{Trial}
use Rattle.overlay.specs.declared.Source.TheVariants.{Overlay, Released}
use Rattle.overlay.specs.declared.Source.{Source}
use Rattle.print_text.specs.Ascii.{ascii}
use Rattle.print_text.specs.Lines.{line, place_numbers, refusal_text}
use Rattle.record_lines.specs.Pieces.{Piece}
use Rattle.record_scan.specs.Outcome.{fault_of}
use Rattle.record_scan.specs.Reading.{Read, sound, faulty, read_text}
use Rattle.record_read.specs.Given.{given, filled}
use Rattle.record_read.specs.Laws.BlockFacts.{all-below}
use Rattle.record_read.specs.Laws.Found.{Held, held}
use Rattle.record_read.specs.Outcome as records
use Rattle.record_read.specs.Outcome.{lent, answer_of, lent_after}
use Rattle.record_read.specs.Runs.{reach, blocks_given}
use Rattle.record_read.specs.Theorems.GivenLaws.{filled-long}
use Rattle.c_answers.specs.Counts.{blocks_count}
use Rattle.c_answers.specs.Parts.{line_told}
use Rattle.c_answers.specs.Told.{first_of}
use Rattle.c_model.specs.RecordFiles.{read_as, ReadTold, FaultTold}
use Rattle.print_bench.specs.declared.Asked.{Asked}
use Rattle.print_bench.specs.declared.Asked.TheVariants.{Runs, Range}
use Rattle.print_bench.specs.Images as image
use Rattle.print_bench.specs.Images.{bytes_room, blocks_room, unread, read_file, file_of, fault_in, unread_text, extent_of, free_from, alone_in}
use Rattle.print_bench.specs.Laws.Loading.{too_long, not-long, fault-long, fault-short, released-unread, released-read, bench-unread, bench-read}
use Rattle.print_bench.specs.Program.{runs_room, field, run_text, run_lines, alone_text, list_text, named_text, ToldBy, source_text, range_text}
use Rattle.print_bench.specs.Program.{answer_text, released_text, bench_text}
use Rattle.print_bench.specs.Theorems.Given.{before-it-is-given}
use Rattle.print_bench.specs.Theorems.Printed.{good-is}
use Rattle.print_bench.specs.Theorems.Runs.{images, alone-is-the-overlays, alone-is-the-first}
use Rattle.meets_bits.specs.Theorems.Hex.{text-meets}
use Rattle.meets_overlay.specs.Theorems.Range.{whole, free, some-free, some-covered}
use Rattle.meets_overlay.specs.Theorems.Runs.{runs-meets}
use Rattle.meets_records.specs.Theorems.FaultMeets.{fault-meets}
use Rattle.meets_records.specs.Theorems.ReadMeets.{read_meets}
use Rattle.meets_report.specs.Laws.Lines.{spaced-meets, line-meets}
use Rattle.meets_texts.specs.Laws.AnyRoom.{byte-same}
use Rattle.meets_texts.specs.Theorems.Rehex.{figured, fault-meets-text}
use Rattle.says.specs.Words.{Not}
use Rattle.says.specs.Read.{Lent, Outcome, ReadSays, FaultSays}
use Rattle.says.specs.Lines.{Line}
use Rattle.says.specs.Overlay as trial
use Rattle.says.specs.Bench as says
use Rattle.says.specs.Bench.{File, file_in, file, Gives, Digits, RunLines, ListText, Named, Tells, Answers, RangeText, Reads, Unread, copy, Bench, BenchSays}
use Rattle.meets_bench.specs.Laws.Files.{in_order_lem, in-extent, gives, is-given, lacks, first-lack}
use Rattle.meets_bench.specs.Laws.Same.{answers-same}

-- ---- two good files, and what stood in the room for the overlay's bytes

module _ (load : ℕ) (old : List ℕ) (under issued : List Piece) (near : reach load under ≤ length old) where
  abbrev os : List ℕ
  os = origins (blocks_given load under)

  abbrev ss : List ℕ
  ss = sizes (blocks_given load under)

  abbrev os₁ : List ℕ
  os₁ = origins (blocks_given load issued)

  abbrev ss₁ : List ℕ
  ss₁ = sizes (blocks_given load issued)

  abbrev o : File
  o = file_in (filled load under old) os ss

  abbrev r : File
  r = file_in (filled load issued (filled load under old)) os₁ ss₁

  abbrev t : Trial
  t = images load old under issued

  -- a byte that the overlay gives is of its image
  in_image : (x : ℕ) → given under (load + x) ≡ true → x < length t.overlay
  in_image x e =
      let low = all-below load under x e in
      omega (arith, in-extent load under x e, length-take (extent_of os ss) (filled load under old), filled-long load under old, low)

  -- ---- every run

  abbrev alone : ℕ
  alone = alone_in os₁ ss₁ os ss (length t.overlay)

  not-given : (x : ℕ) → Not (Gives r x) → given issued (load + x) ≡ false
  not-given x n = either (given issued (load + x)) (λ e. absurd (n (gives load issued (filled load issued (filled load under old)) x e))) (λ e. e)

  alone-so : alone < length t.overlay → says.Alone load r o (line (ascii "alone") ((load + alone) ∷ []))
  alone-so h =
      ⊎_elim
      (λ e. absurd (omega (arith, e)))
      (λ e.
      says.first
      (record {
        so = (gives load under (filled load under old) alone e.0, lacks load issued (filled load issued (filled load under old)) alone e.1);
        none_below = λ j s.
            alone-is-the-first load old under issued (length t.overlay) j (is-given load under (filled load under old) j s.0, not-given j s.1);
      })
      (line-meets (ascii "alone") ((load + alone) ∷ [])))
      (alone-is-the-overlays load old under issued (length t.overlay))

  none_so : length t.overlay ≤ alone → says.Alone load r o []
  none_so h =
      says.none (λ b g.
      let e = is-given load under (filled load under old) b g in
      either (given issued (load + b))
      (λ y. gives load issued (filled load issued (filled load under old)) b y)
      (λ n. absurd (omega (arith, alone-is-the-first load old under issued (length t.overlay) b (e, n), in_image b e))))

  many : length (origins (runs_of t)) ≡ length (runs_of t)
  many = length-map (runs_of t) (λ b. b.origin)

  runs-are : trial.Runs o.image r.image os ss 0 (origins (runs_of t)) (sizes (runs_of t))
  runs-are = runs-meets o.image r.image os ss (in_order_lem load under)

  -- where each run's line says what it shows, and the last line which byte the overlay alone gives
  list-meets : ((l : List Block) → RunLines load r o (origins l) (sizes l) (run_lines load r.image o.image (origins l) (sizes l)))
      → says.Alone load r o (alone_text load (length t.overlay) alone) → ListText load r o (answer_text load Runs t os₁ ss₁)
  unfolding list_text
  list-meets lines last =
      subst (ListText load r o) (sym (pick_true _ _ (in_order_lem load under)))
      (either (leb (length (runs_of t)) runs_room)
      (λ y.
      let few = leb-true (length (runs_of t)) runs_room y in
      subst (ListText load r o) (sym (pick_true _ _ y))
      (says.listed runs-are (omega (arith, many)) (lines (runs_of t)) last
      (subst (λ (n : ℕ). Line (ascii "runs") (n ∷ []) (line (ascii "runs") (length (runs_of t) ∷ []))) (sym many)
      (line-meets (ascii "runs") (length (runs_of t) ∷ [])))))
      (λ n.
      let lots = leb-false (length (runs_of t)) runs_room n in
      subst (ListText load r o) (sym (pick-false _ _ n))
      (says.short runs-are (omega (arith, many)) (line-meets (ascii "refused") (14 ∷ 2 ∷ [])))))

  -- ---- a range

  module _ (first count : ℕ) (some : 0 < count) where
    abbrev gap : ℕ
    gap = free_from os₁ ss₁ first

    abbrev lack : ℕ
    lack = free_from os ss first

    named-released : (why : Refusal) → place_numbers (place_of why) ≡ 0 ∷ []
        → Named load r o first count r (ascii "released") (number_of why) (named_text why (ascii "released") (load + gap))
    named-released why p =
        says.named (first-lack load issued (filled load issued (filled load under old)) first)
        (subst (λ (ns : List ℕ). Line (ascii "refused") (number_of why ∷ ns) (refusal_text why)) p
        (line-meets (ascii "refused") (number_of why ∷ place_numbers (place_of why))))
        (line-meets (ascii "released") ((load + gap) ∷ []))

    named-overlay : (why : Refusal) → place_numbers (place_of why) ≡ 0 ∷ []
        → Named load r o first count o (ascii "overlay") (number_of why) (named_text why (ascii "overlay") (load + lack))
    named-overlay why p =
        says.named (first-lack load under (filled load under old) first)
        (subst (λ (ns : List ℕ). Line (ascii "refused") (number_of why ∷ ns) (refusal_text why)) p
        (line-meets (ascii "refused") (number_of why ∷ place_numbers (place_of why))))
        (line-meets (ascii "overlay") ((load + lack) ∷ []))

    abbrev Told : Result Source Refusal → Type 0
    Told s = Answers load r o first count (ToldBy load first count gap lack t s)

    outside : inside (length t.overlay) (length t.released) first count ≡ false → Told (Err BadPart)
    unfolding inside
    outside e =
        either (leb (first + count) (length t.released))
        (λ y.
        let within = leb-true (first + count) (length t.released) y in
        subst (Answers load r o first count) (sym (pick_true _ _ y))
        (says.past-overlay (omega arith)
        (elim (dec_lt (length t.overlay) (first + count)) [
          | yes h ↦ h
          | no h ↦ absurd (clash refl (rw (lt-ltb 0 count some, y, le-leb (first + count) (length t.overlay) (omega arith)) at e))
        ]) (named-overlay BadPart refl)))
        (λ n.
        subst (Answers load r o first count) (sym (pick-false _ _ n))
        (says.past-released (leb-false (first + count) (length t.released) n) (named-released BadPart refl)))

    module _ (within : inside (length t.overlay) (length t.released) first count ≡ true) where
      fits : leb (first + count) (length t.released) ≡ true
      fits = le-leb (first + count) (length t.released) (inside-true (length t.overlay) (length t.released) first count within).issued

      told-inside : {x : List ℕ} → Tells load r o first count x → Answers load r o first count x
      told-inside y =
          let i = inside-true (length t.overlay) (length t.released) first count within in
          says.inside i.issued i.overlaid y

      bit-free : (k : ℕ) → given issued (load + k) ≡ true → Gives r k
      bit-free = gives load issued (filled load issued (filled load under old))

      of-released : Digits r.image first count (field (take count (drop first r.image))) → says.Free load r o first count → Told (Ok Released)
      of-released shown f =
          either (leb (first + count) gap)
          (λ y.
          let all = leb-true (first + count) gap y in
          subst (Answers load r o first count) (sym (pick_true _ _ y))
          (told-inside (says.of-released f (λ b l h. bit-free b (before-it-is-given load issued first b l (omega arith)))
          shown)))
          (λ n.
          let past = leb-false (first + count) gap n in
          let low = first-lack load issued (filled load issued (filled load under old)) first in
          subst (Answers load r o first count) (sym (pick-false _ _ n))
          (told-inside (says.gap f low.so.0 (omega arith) low.so.1 (named-released BadPart refl))))

      judged-so : ((image : List ℕ) → Digits image first count (field (take count (drop first image))))
          → (w n : Bool) → all_covered (covered_bit os ss) first count ≡ w → none_covered (covered_bit os ss) first count ≡ n
          → Told (pick w (Ok Overlay) (pick n (Ok Released) (Err PartlyCovered)))
      judged-so shown true n e f = told-inside (says.of-overlay (whole o.image r.image os ss first count e) (shown o.image))
      judged-so shown false true e f = of-released (shown r.image) (free o.image r.image os ss first count (in_order_lem load under) f)
      judged-so shown false false e f =
          let bare = some-free o.image r.image os ss first count (in_order_lem load under) e in
          let held = some-covered o.image r.image os ss first count f in
          subst (Answers load r o first count) (sym (pick_true _ _ fits))
          (told-inside
          (says.partly
          (λ w. bare.2 (w (bare.0 / 8) (omega (arith, bare.1.0)) (omega (arith, bare.1.1)) bare.0 (omega arith) (omega arith)))
          (λ g. g held.0 held.1 held.2) (named-overlay PartlyCovered refl)))

    source-meets : ((image : List ℕ) → Digits image first count (field (take count (drop first image))))
        → Answers load r o first count (source_text load first count gap lack t)
    unfolding source_text source_of
    source-meets shown =
        subst Told (sym (pick_true _ _ (in_order_lem load under)))
        (either (inside (length t.overlay) (length t.released) first count)
        (λ y.
        subst Told (sym (pick_true _ _ y))
        (judged-so y shown (all_covered (covered_bit os ss) first count) (none_covered (covered_bit os ss) first count) refl refl))
        (λ n. subst Told (sym (pick-false _ _ n)) (outside n)))

  -- where the digits of each range are its bytes
  range-meets : ((image : List ℕ) (first count : ℕ) → Digits image first count (field (take count (drop first image))))
      → (address count : ℕ) → RangeText load r o address count (answer_text load (Range address count) t os₁ ss₁)
  unfolding range_text
  range-meets shown address count =
      either (eqb count 0)
      (λ y.
      subst (RangeText load r o address count) (sym (pick_true _ _ y))
      (says.empty (eqb-true count 0 y) (line-meets (ascii "refused") (16 ∷ 0 ∷ []))))
      (λ n.
      let some : 0 < count = elim (dec_lt 0 count) [ yes h ↦ h | no h ↦ absurd (eqb-false count 0 n (omega arith)) ] in
      subst (RangeText load r o address count) (sym (pick-false _ _ n))
      (either (ltb address load)
      (λ y.
      subst (RangeText load r o address count) (sym (pick_true _ _ y))
      (says.below some (ltb-true address load y) (line-meets (ascii "refused") (16 ∷ 0 ∷ [])) (line-meets (ascii "released") (address ∷ []))))
      (λ m.
      subst (RangeText load r o address count) (sym (pick-false _ _ m))
      (says.range some (ltb-false address load m) (source-meets (address - load) count some (λ image. shown image (address - load) count))))))

-- ---- a file

abbrev Room : Lent → Type 0
Room old = (length old.bytes ≡ bytes_room) × (length old.offsets ≡ blocks_room) × (length old.sizes ≡ blocks_room)

abbrev lent_of : Lent → records.Lent
lent_of old = lent old.bytes old.offsets old.sizes old.scratch

abbrev left : records.Lent → Lent
left l = record { bytes = l.bytes; offsets = l.offsets; sizes = l.sizes; scratch = l.scratch }

module _ (load : ℕ) (source : List ℕ) where
  abbrev said : Read
  said = read_text 0 load source

  as-known : read_as 0 load source ≡ said
  as-known = refl

  read-so : (old : Lent) (x : Result ℕ Refusal) → answer_of load (lent_of old) said ≡ x
      → ReadSays 0 load source old (record { answer = blocks_count x; lent = left (lent_after load (lent_of old) said) })
  read-so old x e =
      read_meets 0 load source old (blocks_count x) (left (lent_after load (lent_of old) said))
      (subst (λ (z : Read). ReadTold load z (lent_of old) (blocks_count x) (lent_after load (lent_of old) said)) (sym as-known)
      (record { answer = ap blocks_count (sym e); left = refl }))

  fault-so : FaultSays 0 load source [] (line_told (fault_of said), [])
  fault-so =
      fault-meets 0 load source [] (line_told (fault_of said)) []
      (subst (λ (z : Read). FaultTold z [] (line_told (fault_of said)) []) (sym as-known) (record { answer = refl; left = refl }))

  -- one that is refused, whatever the room holds
  record Bad : Type 0 where
    why : Refusal
    file-is : (old : List ℕ) → file_of load old source ≡ unread why
    says_so : (name : List ℕ) (old : Lent) → Room old → Unread load source old name (unread_text name why (fault_in load source))

  record Fine : Type 0 where
    pieces : List Piece
    short : length source ≤ 1048576
    reads : said ≡ sound pieces
    near : reach load pieces ≤ bytes_room
    few : length (blocks_given load pieces) ≤ blocks_room

  long-bad : 1048576 < length source → Bad
  long-bad h =
      record {
        why = Malformed 0;
        file-is = λ old. too_long load old source h;
        says_so = λ name old room.
            subst (λ (x : List ℕ). Unread load source old name (refusal_text (Malformed 0) ++ name ++ x)) (fault-long load source h)
            (subst (Unread load source old name) (sym (append-nil (refusal_text (Malformed 0) ++ name)))
            (says.too_long h (line-meets (ascii "refused") (4 ∷ 0 ∷ []))));
      }

  module _ (short : length source ≤ 1048576) where
    bad-by : (why : Refusal) → place_numbers (place_of why) ≡ first_of (place_of why) ∷ [] → ((old : List ℕ) → read_file load old said ≡ unread why)
        → ((old : Lent) → Room old → answer_of load (lent_of old) said ≡ Err why) → Bad
    bad-by why p f g =
        record {
          why = why;
          file-is = λ old. not-long load old source short ∙ f old;
          says_so = λ name old room.
              subst (λ (x : List ℕ). Unread load source old name (refusal_text why ++ name ++ x)) (fault-short load source short)
              (says.turned short (read-so old (Err why) (g old room)) (number-some why) fault-so
              (subst (λ (ns : List ℕ). Line (ascii "refused") (number_of why ∷ ns) (refusal_text why)) p
              (line-meets (ascii "refused") (number_of why ∷ place_numbers (place_of why))))
              (fault-meets-text said));
        }

    module _ (l : List Piece) (e : said ≡ sound l) where
      abbrev n : ℕ
      n = length (blocks_given load l)

      far-bad : bytes_room < reach load l → Bad
      far-bad h =
          bad-by (TooShort 0) refl
          (λ old. ap (read_file load old) e ∙ pick-false _ _ (lt-leb (reach load l) bytes_room h))
          (λ old room. ap (answer_of load (lent_of old)) e ∙ pick-false _ _ (lt-leb (reach load l) (length old.bytes) (omega (arith, room.0))))

      many-bad : reach load l ≤ bytes_room → blocks_room < n → Bad
      many-bad h k =
          bad-by (TooShort 2) refl
          (λ old. ap (read_file load old) e ∙ pick_true _ _ (le-leb (reach load l) bytes_room h) ∙ pick-false _ _ (lt-leb n blocks_room k))
          (λ old room.
          ap (answer_of load (lent_of old)) e ∙ pick_true _ _ (le-leb (reach load l) (length old.bytes) (omega (arith, room.0)))
          ∙ pick-false _ _ (pick-false _ _ (lt-leb n (length old.offsets) (omega (arith, room.1)))))

      sound-ways : Bad ⊎ Fine
      sound-ways =
          elim (dec_lt bytes_room (reach load l)) [
            | yes h ↦ inl (far-bad h)
            | no h ↦
                elim (dec_lt blocks_room n) [
                  | yes k ↦ inl (many-bad (omega arith) k)
                  | no k ↦ inr (record { pieces = l; short = short; reads = e; near = omega arith; few = omega arith })
                ]
          ]

    ways-by : (x : Read) → said ≡ x → Bad ⊎ Fine
    ways-by (faulty k) e = inl (bad-by (Malformed 0) refl (λ old. ap (read_file load old) e) (λ old room. ap (answer_of load (lent_of old)) e))
    ways-by (sound l) e = sound-ways l e

  ways : Bad ⊎ Fine
  ways = elim (dec_lt 1048576 (length source)) [ yes h ↦ inl (long-bad h) | no h ↦ ways-by (omega arith) said refl ]

  -- one that is read
  module _ (f : Fine) where
    abbrev blocks : List Block
    blocks = blocks_given load f.pieces

    given_is : (old : List ℕ) → file_of load old source ≡ image.given (filled load f.pieces old) (origins blocks) (sizes blocks)
    given_is old = good-is load old source f.short f.pieces f.reads f.near f.few

    module _ (old : Lent) (room : Room old) where
      found : answer_of load (lent_of old) said ≡ Ok (length blocks)
      found =
          ap (answer_of load (lent_of old)) f.reads
          ∙ pick_true _ _ (le-leb (reach load f.pieces) (length old.bytes) (omega (arith, room.0, f.near)))
          ∙ pick_true _ _ (pick_true _ _ (le-leb (length blocks) (length old.offsets) (omega (arith, room.1, f.few)))
          ∙ le-leb (length blocks) (length old.sizes) (omega (arith, room.2, f.few)))

      abbrev after : records.Lent
      after = lent_after load (lent_of old) said

      abbrev y : Outcome
      y = record { answer = blocks_count (Ok (length blocks)); lent = left after }

      reads_so : Reads load source old y
      reads_so = says.reads f.short (read-so old (Ok (length blocks)) found) refl

      h : Held load (lent_of old) said (length blocks) after
      h =
          held load (lent_of old) said (answer_of load (lent_of old) said) after
          (record { answer = refl; figures = figured load (lent_of old) said; after = refl }) (length blocks) found

      same-pieces : {k l : List Piece} → sound k ≡ sound l → k ≡ l
      same-pieces e = cc

      pieces_are : h.pieces ≡ f.pieces
      pieces_are = same-pieces (sym h.good ∙ f.reads)

      bytes-are : after.bytes ≡ filled load f.pieces old.bytes
      bytes-are = ap (λ (x : records.Lent). x.bytes) h.after ∙ ap (λ (l : List Piece). filled load l old.bytes) pieces_are

      file-of : file_in (filled load f.pieces old.bytes) (origins blocks) (sizes blocks) ≡ file y
      file-of =
          sym (ap (λ (b : List ℕ). file_in b (take (length blocks) after.offsets) (take (length blocks) after.sizes)) bytes-are
          ∙ ap₂ (file_in (filled load f.pieces old.bytes))
          (h.first ∙ ap (λ (l : List Piece). origins (blocks_given load l)) pieces_are)
          (h.second ∙ ap (λ (l : List Piece). sizes (blocks_given load l)) pieces_are))

-- ---- the text

module _ (load : ℕ) (asked : Asked) (released overlay mine : List ℕ) (room : length mine ≡ 524288) where
  abbrev Text : List ℕ
  Text = bench_text load asked mine released overlay

  bad-text : (b : Bad load overlay) → unread_text (ascii "overlay\n") b.why (fault_in load overlay) ≡ Text
  bad-text b = bench-unread load asked mine released overlay (b.file-is mine)

  module _ (f : Fine load overlay) where
    abbrev bytes : List ℕ
    bytes = filled load f.pieces mine

    read-text : released_text load asked bytes (origins (blocks load overlay f)) (sizes (blocks load overlay f)) released ≡ Text
    read-text = bench-read load asked mine released overlay (given_is load overlay f mine)

    bad-next : (b : Bad load released) → unread_text (ascii "released\n") b.why (fault_in load released) ≡ Text
    bad-next b =
        released-unread load asked bytes (origins (blocks load overlay f)) (sizes (blocks load overlay f)) released (b.file-is bytes) ∙ read-text

    module _ (g : Fine load released) where
      good-text : answer_text load asked (images load mine f.pieces g.pieces) (origins (blocks load released g)) (sizes (blocks load released g)) ≡ Text
      good-text =
          released-read load asked bytes (origins (blocks load overlay f)) (sizes (blocks load overlay f)) released (given_is load released g bytes)
          ∙ read-text

      -- whatever stood in another room
      any-text : (old : List ℕ) → length old ≡ 524288
          → answer_text load asked (images load old f.pieces g.pieces) (origins (blocks load released g)) (sizes (blocks load released g)) ≡ Text
      any-text old long =
          answers-same load old mine (long ∙ sym room) f.pieces g.pieces
          (byte-same 0 load overlay f.pieces f.reads old mine (long ∙ sym room) (omega (arith, f.near, long)))
          (byte-same 0 load released g.pieces g.reads (filled load f.pieces old) (filled load f.pieces mine)
          (filled-long load f.pieces old ∙ long ∙ sym (filled-long load f.pieces mine ∙ room))
          (omega (arith, g.near, filled-long load f.pieces old, long))) asked
          ∙ good-text

module _ (load address count : ℕ) (released overlay mine : List ℕ) (long : length mine ≡ 524288) where
  abbrev text_of : Bool → List ℕ
  text_of all = bench_text load (pick all Runs (Range address count)) mine released overlay

  module _ (old : Lent) (room : Room old) where
    copy-room : (f : Fine load overlay) → Room (copy (y load overlay f old room) old)
    copy-room f = (ap length (bytes-are load overlay f old room) ∙ filled-long load f.pieces old.bytes ∙ room.0, room.1, room.2)

    module _ (f : Fine load overlay) (g : Fine load released) where
      abbrev over : Outcome
      over = y load overlay f old room

      abbrev under : Outcome
      under = y load released g (copy over old) (copy-room f)

      -- the released file's bytes, in the overlay's
      over-is : file_in (filled load f.pieces old.bytes) (origins (blocks load overlay f)) (sizes (blocks load overlay f)) ≡ file over
      over-is = file-of load overlay f old room

      under-is : file_in (filled load g.pieces (filled load f.pieces old.bytes)) (origins (blocks load released g)) (sizes (blocks load released g))
          ≡ file under
      under-is =
          ap (λ (b : List ℕ). file_in (filled load g.pieces b) (origins (blocks load released g)) (sizes (blocks load released g)))
          (sym (bytes-are load overlay f old room))
          ∙ file-of load released g (copy over old) (copy-room f)

      there : reach load f.pieces ≤ length old.bytes
      there = omega (arith, f.near, room.0)

      abbrev shown : Asked → List ℕ
      shown asked =
          answer_text load asked (images load old.bytes f.pieces g.pieces) (origins (blocks load released g)) (sizes (blocks load released g))

      abbrev before : File
      before = file_in (filled load g.pieces (filled load f.pieces old.bytes)) (origins (blocks load released g)) (sizes (blocks load released g))

      abbrev o-before : File
      o-before = file_in (filled load f.pieces old.bytes) (origins (blocks load overlay f)) (sizes (blocks load overlay f))

      -- what is said of the two files, said of what was read of them, and of the text in any room
      carried : (Says : File → File → List ℕ → Type 0) (asked : Asked)
          → Says before (file_in (filled load f.pieces old.bytes) (origins (blocks load overlay f)) (sizes (blocks load overlay f))) (shown asked)
          → Says (file under) (file over) (bench_text load asked mine released overlay)
      carried Says asked x =
          subst (Says (file under) (file over)) (any-text load asked released overlay mine long f g old.bytes room.0)
          (subst (λ (z : File). Says z (file over) (shown asked)) under-is (subst (λ (z : File). Says before z (shown asked)) over-is x))

      -- what is shown of the two files as they were read, where it says what is asked
      abbrev Listed : Type 0
      Listed = ListText load before o-before (shown Runs)

      abbrev Ranged : Type 0
      Ranged = RangeText load before o-before address count (shown (Range address count))

      both-good : Listed → Ranged → (all : Bool) → Bench load all address count released overlay old (text_of all)
      both-good l x true =
          says.runs (reads_so load overlay f old room) (reads_so load released g (copy over old) (copy-room f)) refl
          (carried (λ (z y : File) (t : List ℕ). ListText load z y t) Runs l)
      both-good l x false =
          says.ranges (reads_so load overlay f old room) (reads_so load released g (copy over old) (copy-room f)) refl
          (carried (λ (z y : File) (t : List ℕ). RangeText load z y address count t) (Range address count) x)

    meets-by : ((f : Fine load overlay) (g : Fine load released) → Listed f g) → ((f : Fine load overlay) (g : Fine load released) → Ranged f g)
        → (all : Bool) → Bad load overlay ⊎ Fine load overlay → Bad load released ⊎ Fine load released
        → Bench load all address count released overlay old (text_of all)
    meets-by l x all (inl b) w =
        says.bad-overlay
        (subst (Unread load overlay old (ascii "overlay\n")) (bad-text load (pick all Runs (Range address count)) released overlay mine long b)
        (b.says_so (ascii "overlay\n") old room))
    meets-by l x all (inr f) (inl b) =
        says.bad-released (reads_so load overlay f old room)
        (subst (Unread load released (copy (y load overlay f old room) old) (ascii "released\n"))
        (bad-next load (pick all Runs (Range address count)) released overlay mine long f b)
        (b.says_so (ascii "released\n") (copy (y load overlay f old room) old) (copy-room f)))
    meets-by l x all (inr f) (inr g) = both-good f g (l f g) (x f g) all

  pub bench-text-meets : (all : Bool) → BenchSays load all address count released overlay (text_of all)
  unfolding field run_lines run_text alone_text
  bench-text-meets all old bs fs ns =
      meets-by old (bs, fs, ns)
      (λ f g.
      list-meets load old.bytes f.pieces g.pieces (there old (bs, fs, ns) f g) (lines-meet _ _)
      (alone-meets old.bytes f.pieces g.pieces (there old (bs, fs, ns) f g)))
      (λ f g. range-meets load old.bytes f.pieces g.pieces (there old (bs, fs, ns) f g) digits-meet address count)
      all (ways load overlay) (ways load released)
    where
      digits-meet : (image : List ℕ) (first count : ℕ) → Digits image first count (field (take count (drop first image)))
      digits-meet image first count = says.digits (text-meets (take count (drop first image)) (8 * length (take count (drop first image))))

      lines-meet : (released overlay : File) (l : List Block)
          → RunLines load released overlay (origins l) (sizes l) (run_lines load released.image overlay.image (origins l) (sizes l))
      lines-meet released overlay [] = says.none
      lines-meet released overlay (r ∷ l) =
          says.run (spaced-meets ((load + r.origin) ∷ r.size ∷ [])) (digits-meet released.image r.origin r.size)
          (digits-meet overlay.image r.origin r.size) (lines-meet released overlay l)

      alone-meets : (old : List ℕ) (under issued : List Piece) (near : reach load under ≤ length old)
          → says.Alone load (r load old under issued near) (o load old under issued near)
          (alone_text load (length (t load old under issued near).overlay) (alone load old under issued near))
      alone-meets old under issued near =
          let size : ℕ = length (t load old under issued near).overlay in
          let first = alone load old under issued near in
          either (ltb first size)
          (λ y.
          subst (says.Alone load (r load old under issued near) (o load old under issued near)) (sym (pick_true _ _ y))
          (alone-so load old under issued near (ltb-true first size y)))
          (λ n.
          subst (says.Alone load (r load old under issued near) (o load old under issued near)) (sym (pick-false _ _ n))
          (none_so load old under issued near (ltb-false first size n)))
