-- The room of a text, added up piece by piece and block by block: what holds between two, and a law for a turn.
use Rattle.std.proofs.Common.{◌≡◌, ℕ, ◌+◌, ◌-◌, ◌*◌, ◌/◌, ◌<◌, ◌≤◌, List, [], ◌∷◌, ◌++◌, length, get_or, take, drop, sym, refl, ap, ◌∙◌, arith, length-append, length-drop, drop_of_length-le, length-take-le, drop-drop}
use Rattle.blocks.specs.declared.Block.{Block}
use Rattle.record_lines.specs.Pieces.{Piece, piece}
use Rattle.record_write.specs.declared.Place.{Place}
use Rattle.record_write.specs.Cut.{piece_length, cut_in, cut, blocks_in, pieces_of}
use Rattle.record_write.specs.Theorems.Cut.{cut-first}
use Rattle.record_write.specs.Going.{PieceRoom, BlockRoom, Ready}
use Rattle.record_write.specs.Text.{text_by, end_by, lines_from, state_from, text_of}
use Rattle.record_write.specs.Laws.Text.{lines-append}
use Rattle.record_write.proofs.BlockList.{left, behind}
use Rattle.record_write.proofs.AllBlocks.{Standing, stands-first, stands_on, now-at, now-fits, last_none}

-- ---- one block
module _ (format address count at₀ state₀ : ℕ) where
  pub record Adding (at state here k : ℕ) : Type 0 where
    pub high : k ≤ count
    pub place : here ≡ address + k
    pub few : at ≤ 1044 * here
    pub long : (bytes : List ℕ) → length bytes ≡ count
        → at + length (lines_from format state (cut here (drop k bytes))) ≡ at₀ + length (lines_from format state₀ (cut address bytes))
    pub states : (bytes : List ℕ) → length bytes ≡ count → state_from format state (cut here (drop k bytes)) ≡ state_from format state₀ (cut address bytes)

  pub adding-first : at₀ ≤ 1044 * address → Adding at₀ state₀ address 0
  adding-first f = record { high = omega arith; place = omega arith; few = f; long = λ bytes e. refl; states = λ bytes e. refl }

  -- what comes next, and the rest
  next-cut : (here k n : ℕ) (bytes : List ℕ) → length bytes ≡ count → k < count → n ≡ piece_length here (count - k)
      → cut here (drop k bytes) ≡ piece here (take n (drop k bytes)) ∷ cut (here + n) (drop (k + n) bytes)
  next-cut here k n bytes e h p =
      let part = drop k bytes in
      let long : length part ≡ count - k = length-drop k bytes ∙ ap (λ (m : ℕ). m - k) e in
      let same : piece_length here (length part) ≡ n = ap (piece_length here) long ∙ sym p in
      cut-first here part (some (length part) k h long) ∙ ap (λ (j : ℕ). piece here (take j part) ∷ cut (here + j) (drop j part)) same
      ∙ ap (λ (l : List ℕ). piece here (take n part) ∷ cut (here + n) l) (drop-drop n k bytes)
    where
      some : (x k : ℕ) → k < count → x ≡ count - k → 0 < x
      some x k h e = omega arith

  pub adding-on : {at state here k : ℕ} → Adding at state here k → k < count → (n m : ℕ) → n ≡ piece_length here (count - k) → n ≤ count - k
      → 0 < n → PieceRoom format state here n m → m ≤ 1044 → Adding (at + m) (here / 65536) (here + n) (k + n)
  unfolding lines_from state_from
  adding-on {at} {state} {here} {k} a h n m e b b0 r few = record {
    high = stays n h b;
    place = omega (arith, a.place);
    few = omega (arith, a.few);
    long = λ bytes p.
        let t = text_by format state (piece here (take n (drop k bytes))) in
        let rest = lines_from format (here / 65536) (cut (here + n) (drop (k + n) bytes)) in
        let mine : length (take n (drop k bytes)) ≡ n = length-take-le n (drop k bytes) (within n bytes p b) in
        longer m (length rest) (r (take n (drop k bytes)) mine)
        (sym (ap (λ (l : List Piece). length (lines_from format state l)) (next-cut here k n bytes p h e) ∙ length-append t rest)) ∙ a.long bytes p;
    states = λ bytes p. sym (ap (state_from format state) (next-cut here k n bytes p h e)) ∙ a.states bytes p;
  }
    where
      stays : (n : ℕ) → k < count → n ≤ count - k → k + n ≤ count
      stays n h b = omega arith

      within : (n : ℕ) (bytes : List ℕ) → length bytes ≡ count → n ≤ count - k → n ≤ length (drop k bytes)
      within n bytes p b = omega (arith, length-drop k bytes)

      longer : (m rest : ℕ) {t whole : ℕ} → m ≡ t → t + rest ≡ whole → at + m + rest ≡ at + whole
      longer m rest e f = omega arith

  pub adding-done : {at state here k : ℕ} → Adding at state here k → count ≤ k
      → BlockRoom format address count (record { at = at₀; state = state₀ }) (record { at = at; state = state })
  unfolding cut_in lines_from state_from
  adding-done {at} {state} {here} {k} a h = record {
    at = λ bytes e.
        let none : drop k bytes ≡ [] = drop_of_length-le bytes {i = k} (omega arith) in
        let z : length (lines_from format state (cut here (drop k bytes))) ≡ 0 = ap (λ (l : List ℕ). length (lines_from format state (cut here l))) none in
        omega (arith, a.long bytes e);
    state = λ bytes e.
        let none : drop k bytes ≡ [] = drop_of_length-le bytes {i = k} (omega arith) in
        sym (ap (λ (l : List ℕ). state_from format state (cut here l)) none) ∙ a.states bytes e;
  }

-- ---- all blocks
module _ (format : ℕ) (image os ss : List ℕ) (load : ℕ) where
  pub record AllAdding (p : Place) (i : ℕ) : Type 0 where
    pub stands : Standing image os ss load p.at i
    pub long : p.at + length (lines_from format p.state (pieces_of load image (left os ss i)))
        ≡ length (lines_from format 0 (pieces_of load image (blocks_in os ss)))

  pub adds-first : Ready image os ss load → AllAdding (record { at = 0; state = 0 }) 0
  adds-first r = record { stands = stands-first image os ss load r; long = omega arith }

  module _ (r : Ready image os ss load) {p : Place} {i : ℕ} (a : AllAdding p i) where
    module _ (h : i < length os) where
      pub adds_on : (q : Place) → BlockRoom format (load + get_or os i 0 / 8) (get_or ss i 0 / 8) p q
          → q.at ≤ 1044 * (load + get_or os i 0 / 8 + get_or ss i 0 / 8) → AllAdding q (i + 1)
      unfolding pieces_of
      adds_on q w b =
          let bytes = take (get_or ss i 0 / 8) (drop (get_or os i 0 / 8) image) in
          let mine = cut (load + get_or os i 0 / 8) bytes in
          let rest = pieces_of load image (behind os ss i) in
          let full : length bytes ≡ get_or ss i 0 / 8 = length-take-le (get_or ss i 0 / 8) (drop (get_or os i 0 / 8) image)
          (omega (arith, length-drop (get_or os i 0 / 8) image, (now-fits image os ss load r a.stands h).inside)) in
          let pieces : pieces_of load image (left os ss i) ≡ mine ++ rest = ap (pieces_of load image) (now-at image os ss load r a.stands h) in
          let lines : lines_from format p.state (pieces_of load image (left os ss i)) ≡ lines_from format p.state mine ++ lines_from format q.state rest =
          ap (lines_from format p.state) pieces ∙ lines-append format p.state mine rest
          ∙ ap (λ (s : ℕ). lines_from format p.state mine ++ lines_from format s rest) (sym (w.state bytes full)) in
          record {
            stands = stands_on image os ss load r a.stands h q.at b;
            long = grown p.at (length (lines_from format p.state mine)) (length (lines_from format q.state rest)) (w.at bytes full) (ap length
                lines ∙ length-append (lines_from format p.state mine) (lines_from format q.state rest)) ∙ a.long;
          }
        where
          grown : (x u v : ℕ) {y w : ℕ} → y ≡ x + u → w ≡ u + v → y + v ≡ x + w
          grown x u v e f = omega arith

    module _ (h : length os ≤ i) where
      pub adds-done : (m : ℕ) → m ≡ length (end_by format) → p.at + m ≡ length (text_of format load image (blocks_in os ss))
      unfolding pieces_of lines_from
      adds-done m e =
          let none : length (lines_from format p.state (pieces_of load image (left os ss i))) ≡ 0 =
          ap (λ (l : List Block). length (lines_from format p.state (pieces_of load image l))) (last_none image os ss load r a.stands h) in
          omega (arith, a.long, length-append (lines_from format 0 (pieces_of load image (blocks_in os ss))) (end_by format))
