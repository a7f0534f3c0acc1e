-- Whether there is room, and what is written.
use Rattle.std.specs.Prelude.{Err, Ok, Result}
use mathlib.Core.Path.{◌≡◌, refl, sym, ap, subst, ◌∙◌}
use mathlib.Core.Bool.{Bool, true, false}
use mathlib.Core.List.{List}
use Prim.Native.Nat.{ℕ, ◌-◌, ◌≤◌, ◌<◌}
use borrow.Author.Tests.{le-leb, lt-leb}
use lib.Dec.{leb}
use lib.ListN.{length, length-map}
use Rattle.prelude.specs.declared.Refusal.TheVariants.{Malformed, TooShort}
use Rattle.prelude.specs.declared.Refusal.{Refusal}
use Rattle.blocks.specs.declared.Block.{Block}
use Rattle.blocks.specs.Outcome.{origins, sizes, over}
use Rattle.blocks.specs.Put.{Put}
use Rattle.blocks.specs.Laws.Room.{sets_over}
use Rattle.record_lines.specs.Pieces.{Piece}
use Rattle.record_scan.specs.Reading.{Read, sound, faulty, read_text}
use Rattle.record_scan.specs.Trail.{trail}
use Rattle.record_scan.specs.Steps.{AllGood, rises, Scanned, ScanIs, whole_file}
use Rattle.record_scan.specs.Sound.{Fine}
use Rattle.record_scan.specs.Theorems.Sound.{sound-pieces-fine}
use Rattle.record_scan.specs.declared.Whole.{Whole}
use Rattle.record_read.specs.Given.{filled}
use Rattle.record_read.specs.Runs.{reach, blocks_given}
use Rattle.record_read.specs.Outcome.{Lent, lent, Reads}
use Rattle.record_read.specs.Steps.{Ready}
use Rattle.record_read.proofs.Parts.{within-fine, within_low, parts-are-blocks}

pub reads-bad : (load : ℕ) (read : Read) (bytes os ss scratch : List ℕ) {scratch₂ : List ℕ} → scratch₂ ≡ scratch → (line : ℕ) → read ≡ faulty line
    → Reads load read (lent bytes os ss scratch) (Err (Malformed 0)) (lent bytes os ss scratch₂)
reads-bad load read bytes os ss scratch same line e = rw (e, same) (record { answer = refl; figures = refl; after = refl })

module _ (load : ℕ) (pieces : List Piece) (bytes os ss scratch : List ℕ) (end : ℕ) (is : end ≡ reach load pieces) where
  abbrev blocks : List Block
  blocks = blocks_given load pieces

  pub reads_short : length bytes < end → Reads load (sound pieces) (lent bytes os ss scratch) (Err (TooShort 0)) (lent bytes os ss scratch)
  reads_short h =
      let e : leb (reach load pieces) (length bytes) ≡ false = lt-leb (reach load pieces) (length bytes) (rw is at h) in
      record { answer = rw e; figures = rw e; after = rw e }

  -- There is room for the bytes, and the blocks are counted.
  module _ (room : end ≤ length bytes) (count : ℕ) (is_all : count ≡ length blocks) {scratch₂ : List ℕ} (same : scratch₂ ≡ scratch) where
    e : leb (reach load pieces) (length bytes) ≡ true
    e = le-leb (reach load pieces) (length bytes) (rw is at room)

    pub reads-short-first : length os < count → Reads load (sound pieces) (lent bytes os ss scratch) (Err (TooShort 2)) (lent bytes os ss scratch₂)
    reads-short-first h =
        let f : leb (length blocks) (length os) ≡ false = lt-leb (length blocks) (length os) (rw is_all at h) in
        record { answer = rw (e, f); figures = rw (e, f); after = rw (e, f, same) }

    module _ (first : count ≤ length os) where
      f : leb (length blocks) (length os) ≡ true
      f = le-leb (length blocks) (length os) (rw is_all at first)

      pub reads-short-second : length ss < count → Reads load (sound pieces) (lent bytes os ss scratch) (Err (TooShort 2)) (lent bytes os ss scratch₂)
      reads-short-second h =
          let g : leb (length blocks) (length ss) ≡ false = lt-leb (length blocks) (length ss) (rw is_all at h) in
          record { answer = rw (e, f, g); figures = rw (e, f, g); after = rw (e, f, g, same) }

      pub reads_all : count ≤ length ss → {r : ℕ} {os₂ ss₂ new last : List ℕ}
          → (new ≡ filled load pieces bytes) × Put blocks 0 os ss r os₂ ss₂ × (last ≡ scratch₂)
          → Reads load (sound pieces) (lent bytes os ss scratch) (Ok count) (lent new os₂ ss₂ last)
      reads_all h {r} {os₂} {ss₂} {new} {last} p =
          let k : length blocks ≤ length ss = rw is_all at h in
          let g : leb (length blocks) (length ss) ≡ true = le-leb (length blocks) (length ss) k in
          let o : os₂ ≡ over (origins blocks) os = p.1.first ∙ sets_over os (origins blocks) (rw length-map (rw is_all at first)) in
          let s : ss₂ ≡ over (sizes blocks) ss = p.1.second ∙ sets_over ss (sizes blocks) (rw length-map k) in
          record { answer = rw (e, f, g, is_all); figures = rw (e, f, g, is_all); after = rw (e, f, g, p.0, o, s, p.2, same) }

-- ---- what the scan found

module _ (format load : ℕ) (text : List ℕ) (r : Result Whole ℕ) (p : ScanIs format load text r) where
  pub scan-bad : (line : ℕ) → r ≡ Err line → read_text format load text ≡ faulty line
  scan-bad line e = subst (ScanIs format load text) e p

  pub scan-whole : (lines high : ℕ) (ascend : Bool) (parts : ℕ) → r ≡ whole_file lines high ascend parts → Scanned format load text lines high ascend parts
  scan-whole lines high ascend parts e = subst (ScanIs format load text) e p

module _ {format load : ℕ} {text : List ℕ} {lines high : ℕ} {ascend : Bool} {parts : ℕ} (s : Scanned format load text lines high ascend parts) where
  fine : Fine load (trail format text lines).given
  fine = sound-pieces-fine format load text (trail format text lines).given s.reads

  pub scanned-ready : {end : ℕ} → end ≡ high - load → Ready format text lines load end
  scanned-ready e =
      record {
        ends = e ∙ ap (λ (h : ℕ). h - load) s.top;
        low = within_low load (trail format text lines).given (within-fine fine);
        once = s.once;
      }

  pub scanned-parts : (ascend ≡ rises format text lines) × (ascend ≡ true → parts ≡ length (blocks_given load (trail format text lines).given))
  scanned-parts = (s.order, λ up. s.begun ∙ parts-are-blocks format load text lines (sym s.order ∙ up) (within-fine fine))

  pub scanned-good : AllGood format text lines
  scanned-good = s.good

  pub scanned-reads : {bytes os ss scratch scratch₂ : List ℕ} {new : Lent} {r : Result ℕ Refusal} → scratch₂ ≡ scratch
      → Reads load (sound (trail format text lines).given) (lent bytes os ss scratch₂) r new
      → Reads load (read_text format load text) (lent bytes os ss scratch) r new
  scanned-reads {bytes} {os} {ss} {scratch} {scratch₂} {new} {r} same w =
      subst (λ (x : Read). Reads load x (lent bytes os ss scratch) r new) (sym s.reads)
      (subst (λ (m : List ℕ). Reads load (sound (trail format text lines).given) (lent bytes os ss m) r new) same w)
