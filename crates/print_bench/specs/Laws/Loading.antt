-- A file that is read: what stands in what was lent, or why nothing does.
use Rattle.std.specs.Prelude.{◌≡◌, refl, List, [], ◌∷◌, ℕ, ◌≤◌, ◌<◌, length, take, drop, Err, Result, Ok, None, Some}
use Rattle.std.proofs.Math.Path.{sym}
use Rattle.std.proofs.Common.{ap, ap₂, ◌∙◌, arith, le-leb, length-append, length-drop, length-take-le}
use Rattle.std.proofs.lemmas.Bool.{lt-leb}
use Rattle.std.proofs.lemmas.List.{length-map}
use Rattle.prelude.specs.Laws.Bools.{unlike}
use Rattle.prelude.specs.Laws.Pick.{pick_true, pick-false}
use Rattle.prelude.specs.declared.Refusal.{Refusal}
use Rattle.prelude.specs.declared.Refusal.TheVariants.{Malformed}
use Rattle.blocks.specs.Outcome.{origins, sizes, over}
use Rattle.blocks.specs.declared.Block.{Block}
use Rattle.print_text.specs.Ascii.{ascii}
use Rattle.print_text.specs.Lines.{line}
use Rattle.record_scan.specs.Outcome.{fault_of}
use Rattle.record_scan.specs.Reading.{Read, sound, faulty, read_text}
use Rattle.record_read.specs.Given.{filled}
use Rattle.record_read.specs.Outcome.{Lent, answer_of, Reads}
use Rattle.record_read.specs.Runs.{reach, blocks_given}
use Rattle.record_read.specs.Laws.Found.{same-refusal, no_room, Held, held}
use Rattle.record_read.specs.Theorems.GivenLaws.{filled-long}
use Rattle.print_bench.specs.declared.Asked.{Asked}
use Rattle.print_bench.specs.Images.{longest, bytes_room, blocks_room, File, given, unread, read_file, file_of, fault_text, fault_in, unread_text}
use Rattle.print_bench.specs.Program.{images_text, by_released, released_text, by_overlay, bench_text}
use Rattle.print_bench.specs.Steps.{Loads}

-- ---- too long

pub too_long : (load : ℕ) (old source : List ℕ) → longest < length source → file_of load old source ≡ unread (Malformed 0)
unfolding file_of
too_long load old source h = pick-false _ _ (lt-leb (length source) longest h)

pub not-long : (load : ℕ) (old source : List ℕ) → length source ≤ longest → file_of load old source ≡ read_file load old (read_text 0 load source)
unfolding file_of
not-long load old source h = pick_true _ _ (le-leb (length source) longest h)

-- ---- refused

ap₃ : {a b : List ℕ} {c d : List ℕ} {e f : List ℕ} (g : List ℕ → List ℕ → List ℕ → File) → a ≡ b → c ≡ d → e ≡ f → g a c e ≡ g b d f
ap₃ {a} {b} {c} {d} {e} {f} g p q r = ap₂ (λ (x y : List ℕ). g x y e) p q ∙ ap (g b d) r

module _ (load : ℕ) (l : Lent) (hb : length l.bytes ≡ bytes_room) (ho : length l.offsets ≡ blocks_room) (hs : length l.sizes ≡ blocks_room) where
  not-read : (read : Read) (why : Refusal) → answer_of load l read ≡ Err why → read_file load l.bytes read ≡ unread why
  not-read (faulty n) why e = ap unread (same-refusal e)
  not-read (sound pieces) why e =
      no_room unread load l bytes_room blocks_room hb ho hs pieces
      (given (filled load pieces l.bytes) (origins (blocks_given load pieces)) (sizes (blocks_given load pieces))) why e

  -- ---- read

  module _ (source : List ℕ) (short : length source ≤ longest) (r : Result ℕ Refusal) (new : Lent) (c : Reads load (read_text 0 load source) l r new) where
    module _ (count : ℕ) (found : r ≡ Ok count) where
      h : Held load l (read_text 0 load source) count new
      h = held load l (read_text 0 load source) r new c count found

      abbrev blocks : List Block
      blocks = blocks_given load h.pieces

      pub read-file : file_of load l.bytes source ≡ given new.bytes (take count new.offsets) (take count new.sizes)
      read-file =
          not-long load l.bytes source short ∙ ap (read_file load l.bytes) h.good
          ∙ pick_true _ _ (le-leb (reach load h.pieces) bytes_room (omega (arith, h.room, hb)))
          ∙ pick_true _ _ (le-leb (length blocks) blocks_room (omega (arith, h.places.0, ho)))
          ∙ sym (ap₃ given (ap (λ (x : Lent). x.bytes) h.after) h.first h.second)

      over-long : (a b : List ℕ) → length a ≤ length b → length (over a b) ≡ length b
      over-long a b h = omega (arith, length-append a (drop (length a) b), length-drop (length a) b)

      pub all-loaded : Loads (file_of load l.bytes source) (Ok count) new.bytes new.offsets new.sizes
      all-loaded = (
        read-file,
        omega (arith, h.counted, h.places.0, ho),
        ap (λ (x : Lent). length x.bytes) h.after ∙ filled-long load h.pieces l.bytes ∙ hb,
        ap (λ (x : Lent). length x.offsets) h.after
            ∙ over-long (origins blocks) l.offsets (omega (arith, length-map blocks (λ b. b.origin), h.places.0)) ∙ ho,
        ap (λ (x : Lent). length x.sizes) h.after
            ∙ over-long (sizes blocks) l.sizes (omega (arith, length-map blocks (λ b. b.size), h.places.1)) ∙ hs,
      )

    loaded-by : (x : Result ℕ Refusal) → r ≡ x → Loads (file_of load l.bytes source) x new.bytes new.offsets new.sizes
    loaded-by (Ok count) e = all-loaded count e
    loaded-by (Err why) e =
        not-long load l.bytes source short ∙ not-read (read_text 0 load source) why (sym c.answer ∙ e)

    pub loaded : Loads (file_of load l.bytes source) r new.bytes new.offsets new.sizes
    loaded = loaded-by r refl

-- ---- its blocks, at the front of what was lent

pub record Fronts (n : ℕ) (os ss : List ℕ) : Type 0 where
  pub offsets : n ≤ length os
  pub sizes : n ≤ length ss
  pub long : n ≡ length (take n os)
  pub lengths : n ≡ length (take n ss)

pub fronts : {file : File} {n : ℕ} {bytes os ss : List ℕ} → Loads file (Ok n) bytes os ss → Fronts n os ss
fronts {n = n} {os = os} {ss = ss} l =
    let o : n ≤ length os = omega (arith, l.1, l.3) in
    let s : n ≤ length ss = omega (arith, l.1, l.4) in
    record { offsets = o; sizes = s; long = sym (length-take-le n os o); lengths = sym (length-take-le n ss s) }

-- ---- the line at fault

not_good : {n : ℕ} → None ≡ Some n → ⊥
not_good e = unlike cc

same_line : {m n : ℕ} → Some m ≡ Some n → m ≡ n
same_line e = cc

pub fault-long : (load : ℕ) (source : List ℕ) → longest < length source → [] ≡ fault_in load source
unfolding fault_in
fault-long load source h = sym (pick-false _ _ (lt-leb (length source) longest h))

pub fault-short : (load : ℕ) (source : List ℕ) → length source ≤ longest → fault_text (read_text 0 load source) ≡ fault_in load source
unfolding fault_in
fault-short load source h = sym (pick_true _ _ (le-leb (length source) longest h))

good-text : (read : Read) → None ≡ fault_of read → [] ≡ fault_text read
good-text (sound pieces) e = refl
good-text (faulty n) e = absurd (not_good e)

at-text : (read : Read) (n : ℕ) → Some n ≡ fault_of read → line (ascii "line") (n ∷ []) ≡ fault_text read
at-text (sound pieces) n e = absurd (not_good (sym e))
at-text (faulty m) n e = ap (λ (k : ℕ). fault_text (faulty k)) (same_line e)

module _ (load : ℕ) (source : List ℕ) (short : length source ≤ longest) where
  pub fault-good : None ≡ fault_of (read_text 0 load source) → [] ≡ fault_in load source
  fault-good e = good-text (read_text 0 load source) e ∙ fault-short load source short

  pub fault-at : (n : ℕ) → Some n ≡ fault_of (read_text 0 load source) → line (ascii "line") (n ∷ []) ≡ fault_in load source
  fault-at n e = at-text (read_text 0 load source) n e ∙ fault-short load source short

-- ---- the whole text, by what the files give

module _ (load : ℕ) (asked : Asked) (overlay offsets sizes source : List ℕ) where
  pub released-unread : {why : Refusal} → file_of load overlay source ≡ unread why
      → unread_text (ascii "released\n") why (fault_in load source) ≡ released_text load asked overlay offsets sizes source
  unfolding released_text
  released-unread e = sym (ap (by_released load asked overlay offsets sizes source) e)

  pub released-read : {b o s : List ℕ} → file_of load overlay source ≡ given b o s
      → images_text load asked b o s overlay offsets sizes ≡ released_text load asked overlay offsets sizes source
  unfolding released_text
  released-read e = sym (ap (by_released load asked overlay offsets sizes source) e)

module _ (load : ℕ) (asked : Asked) (old released overlay : List ℕ) where
  pub bench-unread : {why : Refusal} → file_of load old overlay ≡ unread why
      → unread_text (ascii "overlay\n") why (fault_in load overlay) ≡ bench_text load asked old released overlay
  unfolding bench_text
  bench-unread e = sym (ap (by_overlay load asked released overlay) e)

  pub bench-read : {b o s : List ℕ} → file_of load old overlay ≡ given b o s
      → released_text load asked b o s released ≡ bench_text load asked old released overlay
  unfolding bench_text
  bench-read e = sym (ap (by_overlay load asked released overlay) e)
