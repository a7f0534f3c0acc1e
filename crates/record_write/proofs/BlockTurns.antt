-- One block, piece by piece: what holds between two pieces, and a law for a turn.
use Rattle.std.proofs.Common.{◌≡◌, ℕ, zero, suc, ◌+◌, ◌-◌, ◌*◌, ◌/◌, ◌<◌, ◌≤◌, min, List, [], ◌∷◌, ◌++◌, length, take, drop, sym, refl, ap, ◌∙◌, ap₂, append_assoc, le_refl, arith, length-append, length-drop, length-take, take-take, drop-drop}
use borrow.Rule.Slice.PartMut.{same_len_mid}
use lib.Seq.{take-nil, drop-nil}
use Rattle.record_lines.specs.Pieces.{Piece, piece}
use Rattle.record_lines.specs.Puts.{Puts}
use Rattle.record_lines.specs.Laws.Puts.{puts-rest, puts-long}
use Rattle.record_write.specs.Cut.{piece_length, cut_in, cut}
use Rattle.record_write.specs.Theorems.Cut.{cut-first}
use Rattle.record_write.specs.Text.{text_by, lines_from, state_from}
use Rattle.record_write.specs.Going.{Writing, BlockWritten}

drop-take : (n m : ℕ) (l : List ℕ) → drop n (take m l) ≡ take (m - n) (drop n l)
drop-take zero m l = ap (λ (k : ℕ). take k l) {x = m} {y = m - 0} (omega arith)
drop-take (suc n) zero l = drop-nil (suc n) ∙ ap (λ (k : ℕ). take k (drop (suc n) l)) {x = 0} {y = 0 - suc n} (omega arith)
drop-take (suc n) (suc m) [] = sym (take-nil (suc m - suc n))
drop-take (suc n) (suc m) (x ∷ l) = drop-take n m l ∙ ap (λ (k : ℕ). take k (drop n l)) {x = m - n} {y = suc m - suc n} (omega arith)

-- the image's bytes from k to the block's end
abbrev pub part_of : List ℕ → ℕ → ℕ → List ℕ
part_of image k end = take (end - k) (drop k image)

part-rest : (image : List ℕ) (k n end : ℕ) → drop n (part_of image k end) ≡ part_of image (k + n) end
part-rest image k n end =
    drop-take n (end - k) (drop k image)
    ∙ ap₂ (λ (j : ℕ) (l : List ℕ). take j l) {x = end - k - n} {y = end - (k + n)} (omega arith) (drop-drop n k image)

part-long : (image : List ℕ) (k end : ℕ) → end ≤ length image → length (part_of image k end) ≡ end - k
part-long image k end h = length-take (end - k) (drop k image) ∙ ap (min (end - k)) (length-drop k image) ∙ omega arith

-- Text behind text.
pub writing-on : (b rest : List ℕ) {whole old mid part : List ℕ} {at m from : ℕ} → Writing whole old at mid (b ++ rest) → from ≡ min at (length mid)
    → Puts b (take (length mid - from) (drop from mid)) m part
    → Writing whole old (at + m) (take from mid ++ (part ++ drop (length mid - from) (drop from mid))) rest
writing-on b rest w e q = record { done = w.done ++ b; split = w.split ∙ sym (append_assoc w.done b rest); puts = puts-rest w.done b w.puts e q }

module _ (format : ℕ) (image : List ℕ) (start end address at₀ state₀ : ℕ) (old : List ℕ) where
  -- the lines of the bytes from k on, at the address `here`
  abbrev pub lines_at : ℕ → ℕ → ℕ → List ℕ
  lines_at state here k = lines_from format state (cut here (part_of image k end))

  abbrev pub state_at : ℕ → ℕ → ℕ → ℕ
  state_at state here k = state_from format state (cut here (part_of image k end))

  pub record Going (at state here k : ℕ) (text : List ℕ) : Type 0 where
    pub low : start ≤ k
    pub high : k ≤ end
    pub place : here + start ≡ address + k
    pub few : at ≤ 1044 * here
    pub room : at + length (lines_at state here k) ≤ length text
    pub long : length text ≡ length old
    pub states : state_at state here k ≡ state_at state₀ address start
    pub goes : (whole first rest : List ℕ) → Writing whole first at₀ old (lines_at state₀ address start ++ rest) → Writing whole first at text
        (lines_at state here k ++ rest)

  pub going-first : start ≤ end → at₀ ≤ 1044 * address → at₀ + length (lines_at state₀ address start) ≤ length old → Going at₀ state₀ address start old
  going-first h f r = record {
    low = le_refl start;
    high = h;
    place = refl;
    few = f;
    room = r;
    long = refl;
    states = refl;
    goes = λ whole first rest w. w;
  }

  -- what is written next, and the rest
  next-pieces : (here k n : ℕ) → k < end → end ≤ length image → n ≡ piece_length here (end - k) → n ≤ end - k
      → cut here (part_of image k end) ≡ piece here (take n (drop k image)) ∷ cut (here + n) (part_of image (k + n) end)
  next-pieces here k n h l e b =
      let part = part_of image k end in
      let long = part-long image k end l in
      let same : piece_length here (length part) ≡ n = ap (piece_length here) long ∙ sym e in
      let some : 0 < length part = some_left k h long in
      cut-first here part some ∙ ap (λ (j : ℕ). piece here (take j part) ∷ cut (here + j) (drop j part)) same
      ∙ ap₂ (λ (x : List ℕ) (q : List Piece). piece here x ∷ q) (take-take n (end - k) (drop k image) b) (ap (cut (here + n)) (part-rest image k n end))
    where
      some_left : (k : ℕ) → k < end → {x : ℕ} → x ≡ end - k → 0 < x
      some_left k h e = omega arith

  -- the lines of the next piece, and those behind it
  next-lines : (state here k n : ℕ) → k < end → end ≤ length image → n ≡ piece_length here (end - k) → n ≤ end - k
      → lines_at state here k ≡ text_by format state (piece here (take n (drop k image))) ++ lines_at (here / 65536) (here + n) (k + n)
  unfolding lines_from
  next-lines state here k n h l e b = ap (lines_from format state) (next-pieces here k n h l e b)

  abbrev text_at : ℕ → ℕ → ℕ → ℕ → List ℕ
  text_at state here k n = text_by format state (piece here (take (k + n - k) (drop k image)))

  same_text : (state here k n : ℕ) → text_at state here k n ≡ text_by format state (piece here (take n (drop k image)))
  same_text state here k n = let count : k + n - k ≡ n = omega arith in ap (λ (j : ℕ). text_by format state (piece here (take j (drop k image)))) count

  -- there is room for them
  pub next-room : {at state here k : ℕ} {text : List ℕ} → Going at state here k text → k < end → end ≤ length image → (n : ℕ)
      → n ≡ piece_length here (end - k) → n ≤ end - k → at + length (text_at state here k n) ≤ length text
  next-room {at} {state} {here} {k} {text} g h l n e b =
      let t = text_by format state (piece here (take n (drop k image))) in
      omega (
        arith,
        g.room,
        ap length (next-lines state here k n h l e b),
        length-append t (lines_at (here / 65536) (here + n) (k + n)),
        ap length (same_text state here k n),
      )

  pub going_on : {at state here k m : ℕ} {text part : List ℕ} → Going at state here k text → k < end → end ≤ length image → (n : ℕ)
      → n ≡ piece_length here (end - k) → n ≤ 16 → n ≤ end - k → 0 < n
      → Puts (text_at state here k n) (take (length text - at) (drop at text)) m part → m ≤ 1044
      → Going (at + m) (here / 65536) (here + n) (k + n) (take at text ++ (part ++ drop (length text - at) (drop at text)))
  unfolding lines_from state_from
  going_on {at} {state} {here} {k} {m} {text} {part} g h l n e b16 bn b0 q b =
      let next = next-pieces here k n h l e bn in
      let rest = cut (here + n) (part_of image (k + n) end) in
      let puts = rw (same_text state here k n) at q in
      let lines = next-lines state here k n h l e bn in
      let t = text_by format state (piece here (take n (drop k image))) in
      let ef : at ≡ min at (length text) = omega (arith, g.room) in
      record {
        low = omega (arith, g.low);
        high = high-stays k n h bn;
        place = omega (arith, g.place);
        few = omega (arith, g.few);
        room = omega (
          arith,
          g.room,
          kept-long at text part (puts-long puts),
          ap length lines,
          length-append t (lines_at (here / 65536) (here + n) (k + n)),
          puts.long,
        );
        long = kept-long at text part (puts-long puts) ∙ g.long;
        states = sym (ap (state_from format state) next) ∙ g.states;
        goes = λ whole first r w.
            writing-on (text_by format state (piece here (take n (drop k image)))) (lines_from format (here / 65536) rest ++ r)
            (rw (lines, append_assoc) at (g.goes whole first r w)) ef puts;
      }
    where
      high-stays : (k n : ℕ) → k < end → n ≤ end - k → k + n ≤ end
      high-stays k n h b = omega arith

      kept-long : (from : ℕ) (text part : List ℕ) → length part ≡ length (take (length text - from) (drop from text))
          → length (take from text ++ (part ++ drop (length text - from) (drop from text))) ≡ length text
      kept-long from text part e = same_len_mid from (length text - from) text part e

  -- At the block's end nothing is left.
  pub going_done : {at state here k : ℕ} {text : List ℕ} → Going at state here k text → end ≤ k
      → BlockWritten format address (part_of image start end) (record { at = at₀; state = state₀ }) old (record { at = at; state = state }) text
  unfolding cut_in lines_from state_from
  going_done {at} {state} {here} {k} {text} g h =
      let zero_left : end - k ≡ 0 = omega arith in
      let none : part_of image k end ≡ [] = ap (λ (j : ℕ). take j (drop k image)) zero_left in
      let lines : lines_at state here k ≡ [] = ap (λ (l : List ℕ). lines_from format state (cut here l)) none in
      let states : state_at state here k ≡ state = ap (λ (l : List ℕ). state_from format state (cut here l)) none in
      record {
        adds = record { goes = λ whole first rest w. rw lines at (g.goes whole first rest w) };
        state = sym states ∙ g.states;
        long = g.long;
      }

-- The numbers of a turn.
module _ (address start end here k : ℕ) (low : start ≤ k) (place : here + start ≡ address + k) where
  pub here-fits : k < end → address + (end - start) ≤ 4294967296 → here < 4294967296
  here-fits h f = omega arith

  pub here-last : k ≤ end → end ≤ k → start ≤ end → here ≡ address + (end - start)
  here-last h g s = omega arith

module _ (end k n : ℕ) (h : k < end) where
  pub some_left : 0 < end - k
  some_left = omega arith

  pub less-left : 0 < n → end - (k + n) < end - k
  less-left p = omega arith

  pub next-within : {len : ℕ} → n ≤ end - k → end ≤ len → k + n ≤ len
  next-within b l = omega arith

-- A piece is short.
pub few_bytes : (k n : ℕ) (x : List ℕ) → n ≤ 16 → length (take (k + n - k) x) ≤ 16
few_bytes k n x h = omega (arith, length-take (k + n - k) x)
