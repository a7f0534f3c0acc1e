-- The records of a file's own bytes are the same whatever stood in the room for the bytes.
use Rattle.std.specs.Prelude.{◌≡◌, true, ℕ, ◌+◌, ◌*◌, ◌/◌, ◌≤◌, ◌<◌, leb, replicate, length, get_or, take, drop}
use Rattle.std.proofs.Math.Path.{refl, ap₂}
use Rattle.std.proofs.Common.{sym, ap, subst, ◌∙◌, arith, leb-true, length-take, length-drop, ext_get_or, get_or-take, get_or-drop}
use mathlib.Core.List.{List, [], ◌∷◌, ◌++◌, Memᴰ}
use Rattle.std.proofs.lemmas.List.{length-replicate}
use Rattle.prelude.specs.Laws.Bools.{either}
use Rattle.prelude.specs.Laws.Pick.{pick-false}
use Rattle.prelude.specs.Pick.{pick}
use Rattle.prelude.specs.declared.Refusal.TheVariants.{Malformed, TooShort}
use Rattle.blocks.specs.declared.Block.{Block}
use Rattle.print_text.specs.Lines.{refusal_text}
use Rattle.record_lines.specs.Pieces.{Piece}
use Rattle.record_scan.specs.Reading.{Read, sound, faulty, read_text}
use Rattle.record_scan.specs.Sound.{Fine}
use Rattle.record_scan.specs.Theorems.Sound.{sound-pieces-fine}
use Rattle.record_read.specs.Given.{given, filled}
use Rattle.record_read.specs.Laws.Facts.{given-gives}
use Rattle.record_read.specs.Laws.GivenLaws.{given_below}
use Rattle.record_read.specs.Runs.{reach, blocks_given}
use Rattle.record_read.specs.Theorems.BlockFacts.{blocks-cover-exactly}
use Rattle.record_read.specs.Theorems.ByteFacts.{own-byte}
use Rattle.record_read.specs.Theorems.GivenLaws.{filled_at, filled-long}
use Rattle.record_write.specs.Checks.{all_parts}
use Rattle.record_write.specs.Cut.{bytes_in, cut, pieces_of}
use Rattle.record_write.specs.Text.{end_by, lines_from, text_of}
use Rattle.thm_record_room.specs.Records.{format_ok}
use Rattle.thm_records.specs.Laws.Trip.{part_of}
use Rattle.thm_records.specs.Theorems.Copied.{read-parts}
use Rattle.print_rehex.specs.Rehex.{bytes_room, blocks_room, turned}

module _ (kind load : ℕ) (source : List ℕ) (l : List Piece) (reads : read_text kind load source ≡ sound l) (a b : List ℕ) (same : length a ≡ length b)
    (room : reach load l ≤ length a) where
  abbrev one : List ℕ
  one = filled load l a

  abbrev two : List ℕ
  two = filled load l b

  abbrev blocks : List Block
  blocks = blocks_given load l

  fine : Fine load l
  fine = sound-pieces-fine kind load source l reads

  parts : all_parts (length one) blocks ≡ true
  parts = read-parts kind load source l reads a one refl room (filled-long load l a)

  pub byte-same : (x : ℕ) → given l (load + x) ≡ true → get_or one x 0 ≡ get_or two x 0
  byte-same x e =
      let g = given-gives l (load + x) e in
      let h = given_below l (load + x) e in
      filled_at load l a x (omega arith) ∙ own-byte load fine (load + x) g.0 (get_or a x 0) g.1
      ∙ sym (filled_at load l b x (omega arith) ∙ own-byte load fine (load + x) g.0 (get_or b x 0) g.1)

  covered : (d : Block) → Memᴰ d blocks → (i : ℕ) → i < d.size / 8 → given l (load + (d.origin / 8 + i)) ≡ true
  covered d m i h =
      let p = part_of (length one) blocks parts d m in
      let starts = p.starts in
      let x = d.origin / 8 + i in
      let there = (blocks-cover-exactly load l (8 * x)).0 (d, m, (omega arith, omega arith)) in
      let here : load + 8 * x / 8 ≡ load + x = omega arith in
      subst (λ (n : ℕ). given l n ≡ true) here there

  block_same : (d : Block) → Memᴰ d blocks → bytes_in one d ≡ bytes_in two d
  block_same d m =
      let n = d.size / 8 in
      let k = d.origin / 8 in
      let left : length one ≡ length two = filled-long load l a ∙ same ∙ sym (filled-long load l b) in
      let long : length (take n (drop k one)) ≡ length (take n (drop k two)) =
      omega (arith, length-take n (drop k one), length-take n (drop k two), length-drop k one, length-drop k two, left) in
      ext_get_or 0 (bytes_in one d) (bytes_in two d) long
      (λ i h.
      let low : i < n = omega (arith, length-take n (drop k one)) in
      get_or-take n (drop k one) i 0 low ∙ get_or-drop k one i 0 ∙ byte-same (k + i) (covered d m i low)
      ∙ sym (get_or-take n (drop k two) i 0 low ∙ get_or-drop k two i 0))

  pieces-same : (bs : List Block) → ((d : Block) → Memᴰ d bs → bytes_in one d ≡ bytes_in two d) → pieces_of load one bs ≡ pieces_of load two bs
  unfolding pieces_of
  pieces-same [] f = refl
  pieces-same (d ∷ bs) f =
      ap₂ (λ (x : List ℕ) (y : List Piece). cut (load + d.origin / 8) x ++ y) (f d (Memᴰ.head refl)) (pieces-same bs (λ e m. f e (Memᴰ.tail m)))

  text_same : (format : ℕ) → text_of format load one blocks ≡ text_of format load two blocks
  text_same format = ap (λ (ps : List Piece). lines_from format 0 ps ++ end_by format) (pieces-same blocks block_same)

module _ (kind format load : ℕ) (source a b : List ℕ) (first : length a ≡ bytes_room) (second : length b ≡ bytes_room) where
  by_read : (read : Read) → read_text kind load source ≡ read → turned format load a read ≡ turned format load b read
  by_read (faulty n) e = refl
  by_read (sound l) e =
      either (leb (reach load l) bytes_room)
      (λ t.
      let room = leb-true (reach load l) bytes_room t in
      ap (λ (x : List ℕ). pick (leb (reach load l) bytes_room) (pick (leb (length (blocks_given load l)) blocks_room)
      (pick (format_ok format load (blocks_given load l)) x (refusal_text (Malformed 0))) (refusal_text (TooShort 2))) (refusal_text (TooShort 0)))
      (text_same kind load source l e a b (first ∙ sym second) (omega arith) format))
      (λ f. pick-false _ _ f ∙ sym (pick-false _ _ f))

  pub any-room : turned format load a (read_text kind load source) ≡ turned format load b (read_text kind load source)
  any-room = by_read (read_text kind load source) refl

-- a room of some length
pub some-list : (n : ℕ) → (l : List ℕ) × (length l ≡ n)
some-list n = (replicate n 0, length-replicate n 0)
