-- Blocks: what `blocks::get_blocks` promises, its answer in numbers, says the sentences of `dk_blocks` (`blocks-meets`), and they leave one outcome, the
-- answer and both lists lent for it (`blocks-decides`).
use Rattle.std.specs.Prelude.{◌≡◌, false, ◌⊎◌, leb, eqb, length, get_or, drop, Some, Result, Ok, Err}
use Rattle.std.proofs.Math.Path.{refl, fun_ext}
use Rattle.std.proofs.Common.{sym, ap, ◌∙◌, inl, inr, suc-ne-zero, arith, drop_of_length-le, drop-cons}
use mathlib.Core.List.{List, [], ◌∷◌, ◌++◌, map, tail}
use Rattle.std.proofs.Math.Logic.{⊎_elim}
use Prim.Native.Nat.{ℕ, zero, suc, ◌+◌, ◌≤◌, ◌<◌}
use Rattle.std.proofs.Math.Nat.{suc_inj}
use borrow.Author.Tests.{le-leb, lt-leb, leb-false, eq-eqb, ne_eqb, eqb-true, eqb-false}
use Rattle.std.proofs.lemmas.List.{length-map}
use Rattle.std.proofs.Math.ListN.{get_or-map}
use Rattle.prelude.specs.Laws.Bools.{either, clash, unlike}
use Rattle.prelude.specs.Refusals.{number_of, place_of}
use Rattle.prelude.specs.Told.{gives, refuses}
use Rattle.prelude.specs.declared.Place.TheVariants.{One}
use Rattle.prelude.specs.declared.Refusal.{Refusal}
use Rattle.sort.proofs.Agree.{sorted-map}
use Rattle.sort.specs.Numbers.{numbers_from, numbers_of, key_at, order}
use Rattle.sort.specs.Sorted.{sorted_by}
use Rattle.sort.specs.Laws.Sorted.{le-or-lt}
use Rattle.blocks.specs.declared.Block.{Block}
use Rattle.blocks.specs.Acceptable.{WellLent}
use Rattle.blocks.specs.Theorems.Acceptable.{acceptable-exactly}
use Rattle.blocks.specs.Theorems.Exactly as exactly
use Rattle.blocks.specs.Numbered.{span_at, numbered_blocks}
use Rattle.blocks.specs.Offsets.{word_of}
use Rattle.blocks.specs.Laws.Offsets.{word-of-offset}
use Rattle.blocks.specs.Outcome.{room_for, ToldBy, Contract}
use Rattle.blocks.specs.Laws.Passed.{same_blocks}
use Rattle.blocks.specs.Spans.{Span, span, within, spans_of, all_within, acceptable, rank_of}
use Rattle.blocks.specs.Walk.{block, kept, blocks_from, blocks_of}
use Rattle.c_answers.specs.Counts.{blocks_count}
use Rattle.c_answers.specs.declared.DkCount.{DkCount}
use Rattle.says.specs.Blocks as says
use Rattle.says.specs.Blocks.{Block as Run, offset, size, NoOffset, Malformed, Walks, TooShort, Written, Taken, DkBlocksSay, refusal}
use Rattle.meets.specs.Theorems.Ordered.{order-decides, order-meets}
use Rattle.meets.specs.Laws.Words.{OneOnly, tries-one, begins-one}
use Rattle.says.specs.Words.{Tries, refused, passed}

-- ---- they leave one outcome

abbrev pub run : Block → Run
run b = (b.origin, b.size)

abbrev pub runs : List ℕ → List ℕ → ℕ → ℕ → List ℕ → List Run
runs offsets lengths o n l = map run (blocks_from (block o n) (map (span_at offsets lengths) l))

-- A walk's blocks are the definition's: a clause for each of its sentences, and so no two walks differ.
module _ (offsets lengths : List ℕ) where
  pub walk_is : {o n : ℕ} {l : List ℕ} {b : List Run} → Walks offsets lengths o n l b → b ≡ runs offsets lengths o n l
  unfolding blocks_from
  walk_is (says.ends {o} {m = n} h) = rw (ne_eqb n 0 (λ e. omega arith))
  walk_is (says.ends-empty {o}) = refl
  walk_is (says.passes {o} {m = n} {i = k} h w) = rw (eq-eqb (offset offsets lengths k) 18446744073709551615 h) (walk_is w)
  walk_is (says.joins {o} {m = n} {i = k} h e w) =
      rw (ne_eqb (offset offsets lengths k) 18446744073709551615 h, eq-eqb (offset offsets lengths k) (o + n) e) (walk_is w)
  walk_is (says.closes {o} {m = n} {i = k} h e p w) =
      rw (ne_eqb (offset offsets lengths k) 18446744073709551615 h, ne_eqb (offset offsets lengths k) (o + n) e, ne_eqb n 0 (λ z. omega arith))
      (ap (λ (m : List Run). (o, n) ∷ m) (walk_is w))
  walk_is (says.drops {o} {i = k} h e w) =
      rw (ne_eqb (offset offsets lengths k) 18446744073709551615 h, ne_eqb (offset offsets lengths k) (o + 0) e) (walk_is w)

  module _ (starts₀ sizes₀ : List ℕ) where
    written_one : (b : List Run) → OneOnly (Written offsets lengths starts₀ sizes₀ b)
    written_one b y z (says.written f g) (says.written h k) =
        rw (begins-one (map (λ (r : Run). r.0) b) starts₀ _ _ f h, begins-one (map (λ (r : Run). r.1) b) sizes₀ _ _ g k)

    after_one : (b : List Run) → OneOnly (Tries (λ (_ : Unit {0}). TooShort offsets lengths starts₀ sizes₀ b) (λ _. refusal offsets lengths starts₀ sizes₀ 14 2)
        (Written offsets lengths starts₀ sizes₀ b))
    after_one b = tries-one (λ (_ : Unit {0}). TooShort offsets lengths starts₀ sizes₀ b) (λ _. refusal offsets lengths starts₀ sizes₀ 14 2) _
        (λ x y m n. refl) (written_one b)

    taken-one : OneOnly (Taken offsets lengths starts₀ sizes₀)
    taken-one y z (says.taken {order = l} {b = a} t v s) (says.taken {order = m} {b} u w r) =
        let same : l ≡ m = order-decides offsets l m t u in
        let blocks : a ≡ b = walk_is v ∙ ap (runs offsets lengths 0 0) same ∙ sym (walk_is w) in
        after_one a y z s (rw (← blocks) at r)

    pub blocks-decides : OneOnly (DkBlocksSay offsets lengths starts₀ sizes₀)
    blocks-decides = tries-one (λ (_ : Unit {0}). Malformed offsets lengths) (λ _. refusal offsets lengths starts₀ sizes₀ 4 0) _
        (λ x y m n. refl) taken-one

-- ---- the contract says them

module _ (offsets lengths : List ℕ) where
  pub walk : (o n : ℕ) (l : List ℕ) → Walks offsets lengths o n l (runs offsets lengths o n l)
  unfolding blocks_from
  walk o zero [] = says.ends-empty
  walk o (suc n) [] = rw (ne_eqb (suc n) 0 (λ e. omega arith)) (says.ends {m = suc n} (omega arith))
  walk o n (k ∷ l) =
      let w = offset offsets lengths k in
      either (eqb w 18446744073709551615)
      (λ t. rw t (says.passes (eqb-true w 18446744073709551615 t) (walk o n l)))
      (λ f. either (eqb w (o + n))
      (λ t. rw (f, t) (says.joins (eqb-false w 18446744073709551615 f) (eqb-true w (o + n) t) (walk o (n + size offsets lengths k) l)))
      (λ g. rw (f, g) (go n (eqb-false w 18446744073709551615 f) (eqb-false w (o + n) g) (walk w (size offsets lengths k) l))))
    where
      go : (n : ℕ) → (NoOffset offsets lengths k → ⊥) → (offset offsets lengths k ≡ o + n → ⊥)
          → Walks offsets lengths (offset offsets lengths k) (size offsets lengths k) l
          (runs offsets lengths (offset offsets lengths k) (size offsets lengths k) l)
          → Walks offsets lengths o n (k ∷ l)
          (map run (kept (block o n) ++ blocks_from (block (offset offsets lengths k) (size offsets lengths k)) (map (span_at offsets lengths) l)))
      go zero h e w = says.drops h e w
      go (suc n) h e w = rw (ne_eqb (suc n) 0 (λ z. omega arith)) (says.closes {m = suc n} h e (omega arith) w)

-- The numbers in the order of their words stand for the spans taken by offset (as in blocks/proofs/Ordered, which is not open to other crates).
module _ (x : List ℕ) (i y : ℕ) (t : List ℕ) (e : drop i x ≡ y ∷ t) where
  within-list : i < length x
  within-list = ⊎_elim (λ le. absurd (suc-ne-zero (length t) (ap length (sym e ∙ drop_of_length-le x le)))) (λ lt. lt) (le-or-lt (length x) i)

  cut : get_or x i 0 ∷ drop (suc i) x ≡ y ∷ t
  cut = sym (drop-cons x i 0 within-list) ∙ e

  first-of : get_or x i 0 ≡ y
  first-of = ap (λ (m : List ℕ). get_or m 0 0) cut

  rest_of : drop (suc i) x ≡ t
  rest_of = ap tail cut

abbrev word_rank : Span → ℕ
word_rank s = word_of s.offset

alike : (s b : Span) (o p : ℕ) → s.offset ≡ Some o → b.offset ≡ Some p → leb (word_rank s) (word_rank b) ≡ leb (rank_of s) (rank_of b)
alike s b o p e f = rw (e, f) (⊎_elim
    (λ le. le-leb o p le ∙ sym (le-leb (suc o) (suc p) (omega arith)))
    (λ lt. lt-leb o p lt ∙ sym (lt-leb (suc o) (suc p) (omega arith)))
    (le-or-lt o p))

module _ (words lengths : List ℕ) where
  spans-from : (l s : List ℕ) (i : ℕ) → drop i words ≡ l → drop i lengths ≡ s → length l ≡ length s
      → map (span_at words lengths) (numbers_from i (length l)) ≡ spans_of l s
  unfolding numbers_from spans_of
  spans-from [] s i e d h = refl
  spans-from (w ∷ l) [] i e d h = absurd (suc-ne-zero (length l) h)
  spans-from (w ∷ l) (z ∷ s) i e d h =
      rw (first-of words i w l e, first-of lengths i z s d, spans-from l s (suc i) (rest_of words i w l e) (rest_of lengths i z s d) (suc_inj h))

  by_word : key_at words ≡ λ i. word_rank (span_at words lengths i)
  by_word = fun_ext (λ i. sym (word-of-offset (get_or words i 0)))

  module _ (paired : length words ≡ length lengths) where
    taken : map (span_at words lengths) (order words) ≡ sorted_by word_rank (spans_of words lengths)
    taken =
        ap (λ (r : ℕ → ℕ). map (span_at words lengths) (sorted_by r (numbers_of (length words)))) by_word
        ∙ sorted-map (span_at words lengths) word_rank (numbers_of (length words))
        ∙ ap (sorted_by word_rank) (spans-from words lengths 0 refl refl paired)

    pub blocks-in-order : numbered_blocks words lengths (order words) ≡ blocks_of (spans_of words lengths)
    blocks-in-order = ap (blocks_from (block 0 0)) taken ∙ same_blocks word_rank rank_of alike (block 0 0) (spans_of words lengths)

-- a span that is past a limit, where not all are within
OutOf : List ℕ → List ℕ → Type 0
OutOf ws zs = (k : ℕ) × (k < length ws) × (((get_or ws k 0 ≡ 18446744073709551615 → ⊥) × (8589934590 < get_or ws k 0)) ⊎ (4294967295 < get_or zs k 0))

out_of : (w z : ℕ) → within (span w z) ≡ false → ((w ≡ 18446744073709551615 → ⊥) × (8589934590 < w)) ⊎ (4294967295 < z)
out_of w z e = either (eqb w 18446744073709551615)
    (λ t. inr (leb-false z 4294967295 (rw t at e)))
    (λ f. either (leb w 8589934590)
    (λ g. inr (leb-false z 4294967295 (rw (f, g) at e)))
    (λ g. inl (eqb-false w 18446744073709551615 f, leb-false w 8589934590 g)))

some_out : (ws zs : List ℕ) → length ws ≡ length zs → all_within (spans_of ws zs) ≡ false → OutOf ws zs
unfolding all_within spans_of OutOf
some_out [] zs h e = absurd (clash refl e)
some_out (w ∷ ws) [] h e = absurd (suc-ne-zero (length ws) h)
some_out (w ∷ ws) (z ∷ zs) h e = either (within (span w z))
    (λ t. let r = some_out ws zs (suc_inj h) (rw t at e) in (suc r.0, omega (arith, r.1), r.2))
    (λ f. (0, omega arith, out_of w z f))

module _ (words lengths : List ℕ) where
  malformed : acceptable words lengths ≡ false → Malformed words lengths
  unfolding OutOf
  malformed e = either (eqb (length words) (length lengths))
      (λ p. either (leb (length words) 4096)
      (λ q. let r = some_out words lengths (eqb-true (length words) (length lengths) p) (rw (p, q) at e) in
      ⊎_elim (λ f. says.too_far {i = r.0} r.1 f.0 f.1) (λ l. says.too_long {i = r.0} r.1 l) r.2)
      (λ q. says.too_many (leb-false (length words) 4096 q)))
      (λ p. says.unpaired (eqb-false (length words) (length lengths) p))

  well-formed : WellLent words lengths → Malformed words lengths → ⊥
  well-formed w (says.unpaired f) = f w.paired
  well-formed w (says.too_many h) = omega (arith, w.few)
  well-formed w (says.too_far {i = k} h p f) =
      let q = (w.each k h).0 in
      let r : get_or words k 0 ≤ 8589934590 = rw (ne_eqb (get_or words k 0) 18446744073709551615 p) at q in
      omega arith
  well-formed w (says.too_long {i = k} h l) = omega (arith, (w.each k h).1)

-- an answer in document 01's figures, in the call's numbers
counted : (r : Result ℕ Refusal) (n : ℕ) → ToldBy r ≡ gives n → blocks_count r ≡ record { refusal = 0; place = 0; count = n }
counted (Ok m) n e = let s : m ≡ n = cc in rw s
counted (Err w) n e = unlike cc

turned : (r : Result ℕ Refusal) (number place : ℕ) → ToldBy r ≡ refuses number (One place) → blocks_count r ≡ record { refusal = number; place = place; count = 0 }
turned (Ok m) number place e = unlike cc
turned (Err w) number place e =
    let s : number_of w ≡ number = cc in
    let t : place_of w ≡ One place = cc in
    rw (s, t)

module _ (words lengths os ss : List ℕ) (r : Result ℕ Refusal) (os₁ ss₁ : List ℕ) (c : Contract words lengths os ss r os₁ ss₁) where
  abbrev made : List Block
  made = blocks_of (spans_of words lengths)

  abbrev b : List Run
  b = map run made

  count : length b ≡ length made
  count = length-map made run

  column : (i : ℕ) → get_or b i (0, 0) ≡ run (get_or made i (block 0 0))
  column i = get_or-map run made i (block 0 0)

  outcome : WellLent words lengths
      → Tries (λ (_ : Unit {0}). TooShort words lengths os ss b) (λ _. refusal words lengths os ss 14 2) (Written words lengths os ss b)
      (record { answer = blocks_count r; starts = os₁; sizes = ss₁ })
  outcome w = either (room_for made os ss)
      (λ t.
      let fits = (exactly.room-exactly made os ss).0 t in
      let found : ToldBy r ≡ gives (length made) = (exactly.found-exactly words lengths os ss r os₁ ss₁ c).1 (w, fits.0, fits.1) in
      let at = exactly.found-written words lengths os ss r os₁ ss₁ c (length made) found in
      let past = exactly.past-written-kept words lengths os ss r os₁ ss₁ c (length made) found in
      let long = exactly.lengths-kept words lengths os ss r os₁ ss₁ c (length made) found in
      rw (counted r (length made) found, ← count) (passed
      (λ x s. ⊎_elim (λ h. omega (arith, count, fits.0)) (λ h. omega (arith, count, fits.1)) s)
      (says.written
      (record {
        as_long = long.0;
        front = λ i h. (at i (let h' : i < length b = rw length-map at h in omega (arith, count))).0
            ∙ sym (get_or-map (λ (x : Run). x.0) b i (0, 0) ∙ ap (λ (x : Run). x.0) (column i));
        kept = λ i h. (past i (let h' : length b ≤ i = rw length-map at h in omega (arith, count))).0;
      })
      (record {
        as_long = long.1;
        front = λ i h. (at i (let h' : i < length b = rw length-map at h in omega (arith, count))).1
            ∙ sym (get_or-map (λ (x : Run). x.1) b i (0, 0) ∙ ap (λ (x : Run). x.1) (column i));
        kept = λ i h. (past i (let h' : length b ≤ i = rw length-map at h in omega (arith, count))).1;
      }))))
      (λ f.
      let short = (exactly.no-room-exactly made os ss).0 f in
      let told : ToldBy r ≡ refuses 14 (One 2) = (exactly.refused-14-exactly words lengths os ss r os₁ ss₁ c).1 (w, short) in
      let kept = exactly.refused-keeps words lengths os ss r os₁ ss₁ c 14 (One 2) told in
      rw (turned r 14 2 told, kept.0, kept.1) (refused tt (⊎_elim (λ h. inl (omega (arith, count))) (λ h. inr (omega (arith, count))) short)))

  pub blocks-meets : DkBlocksSay words lengths os ss (record { answer = blocks_count r; starts = os₁; sizes = ss₁ })
  blocks-meets = either (acceptable words lengths)
      (λ t.
      let w = (acceptable-exactly words lengths).0 t in
      passed (λ x m. well-formed words lengths w m) (says.taken {order = order words} {b = b} (order-meets words)
      (rw (← (blocks-in-order words lengths w.paired)) (walk words lengths 0 0 (order words))) (outcome w)))
      (λ f.
      let told : ToldBy r ≡ refuses 4 (One 0) = (exactly.refused-4-exactly words lengths os ss r os₁ ss₁ c).1
      (λ w. clash ((acceptable-exactly words lengths).1 w) f) in
      let kept = exactly.refused-keeps words lengths os ss r os₁ ss₁ c 4 (One 0) told in
      rw (turned r 4 0 told, kept.0, kept.1) (refused tt (malformed words lengths f)))
