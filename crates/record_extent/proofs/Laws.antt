-- The loop over a file's lines: what is known before each turn, and a law for each way on; and what is answered.
use Rattle.std.specs.Prelude.{Err, Result}
use mathlib.Core.Path.{◌≡◌, refl, sym, ap, subst, ◌∙◌}
use mathlib.Core.Bool.{Bool}
use mathlib.Core.List.{List, [], ◌∷◌, ◌++◌}
use Prim.Native.Nat.{ℕ, suc, ◌+◌, ◌<◌, ◌≤◌, min}
use native.Mathlib.Nat.{le_antisymm}
use native.Mathlib.Omega.{arith}
use borrow.Author.Tests.{ne_eqb}
use lib.Dec.{eqb}
use lib.ListN.{length}
use Rattle.prelude.specs.Pick.{pick}
use Rattle.prelude.specs.declared.Refusal.TheVariants.{Malformed}
use Rattle.record_lines.specs.Items.{Item, gives, passes, ends, bad, as_line, Says}
use Rattle.record_lines.specs.Pieces.{Piece}
use Rattle.record_lines.specs.declared.Line.{Line}
use Rattle.record_scan.specs.Reading.{new_pieces, read_text, faulty}
use Rattle.record_scan.specs.Trail.{trail}
use Rattle.record_scan.specs.Steps.{Stepped, Scanned, ScanIs, highest, whole_file}
use Rattle.record_scan.specs.Laws.TrailLaws.{moved, next-at, next-state, next-given, said}
use Rattle.record_scan.specs.declared.Step.{Step}
use Rattle.record_scan.specs.declared.Whole.{Whole}
use Rattle.record_extent.specs.Extent.{lowest_of, extent_of, reaches}

-- ---- the lowest address of pieces

low-few : (l : List Piece) → lowest_of l ≤ 4294967296
unfolding lowest_of
low-few [] = omega arith
low-few (p ∷ l) = omega (arith, low-few l)

low-append : (a b : List Piece) → lowest_of (a ++ b) ≡ min (lowest_of a) (lowest_of b)
unfolding lowest_of
low-append [] b = omega (arith, low-few b)
low-append (p ∷ a) b = ap (min p.address) (low-append a b) ∙ omega arith

-- with a line's
abbrev lower_by : ℕ → Line → ℕ
lower_by low r = pick (eqb r.count 0) low (min low r.address)

lower-item : (s f low : ℕ) (i : Item) → low ≤ 4294967296 → lower_by low (as_line s f i) ≡ min low (lowest_of (new_pieces i))
unfolding lowest_of
lower-item s f low (gives a [] t) h = omega arith
lower-item s f low (gives a (b ∷ l) t) h = rw (ne_eqb (suc (length l)) 0 (λ e. omega arith)) (omega arith)
lower-item s f low (passes t) h = omega arith
lower-item s f low ends h = omega arith
lower-item s f low bad h = omega arith

says-lower : {l : List ℕ} {s f : ℕ} {r : Line} {i : Item} (low : ℕ) → low ≤ 4294967296 → Says l s f r i → lower_by low r ≡ min low (lowest_of (new_pieces i))
says-lower {l} {s} {f} {r} {i} low h p = ap (lower_by low) p.answer ∙ lower-item s f low i h

-- ---- the loop

pub record Sinking (format : ℕ) (text : List ℕ) (n at state low k : ℕ) : Type 0 where
  pub few : k ≤ n
  pub place : at ≡ (trail format text k).at
  pub force : state ≡ (trail format text k).state
  pub inside : at ≤ length text
  pub least : low ≡ lowest_of (trail format text k).given

module _ (format : ℕ) (text : List ℕ) (n : ℕ) where
  pub sinking-starts : Sinking format text n 0 0 4294967296 0
  unfolding trail lowest_of
  sinking-starts = record { few = omega arith; place = refl; force = refl; inside = omega arith; least = refl }

  module _ {at state low k : ℕ} (w : Sinking format text n at state low k) where
    pub sinking-on : k < n → {r : Step} {next : ℕ} → Stepped format text at state r → next ≡ lower_by low r.line
        → Sinking format text n r.next r.line.state next (k + 1)
    sinking-on h {r} {next} s e =
        let t = moved format text k r at state w.place w.force s in
        let given = (trail format text k).given in
        let new = new_pieces (said format text k r) in
        record {
          few = omega arith;
          place = next-at format text k r t;
          force = next-state format text k r t;
          inside = s.inside w.inside;
          least =
              e ∙ says-lower low (omega (arith, w.least, low-few given)) t.says
              ∙ ap (λ (x : ℕ). min x (lowest_of new)) w.least ∙ sym (low-append given new) ∙ ap lowest_of (next-given format text k r);
        }

    pub sinking-ends : n ≤ k → low ≡ lowest_of (trail format text n).given
    sinking-ends h = w.least ∙ ap (λ (j : ℕ). lowest_of (trail format text j).given) (le_antisymm w.few h)

-- ---- what is answered

module _ (format : ℕ) (text : List ℕ) (r : Result Whole ℕ) (p : ScanIs format 0 text r) where
  pub whole : {lines high : ℕ} {ascend : Bool} {parts : ℕ} → r ≡ whole_file lines high ascend parts → Scanned format 0 text lines high ascend parts
  whole e = subst (ScanIs format 0 text) e p

  pub broken : {line : ℕ} → r ≡ Err line → Err (Malformed 0) ≡ extent_of (read_text format 0 text)
  broken {line} e = let w : read_text format 0 text ≡ faulty line = subst (ScanIs format 0 text) e p in sym (ap extent_of w)

module _ {format : ℕ} {text : List ℕ} {lines high : ℕ} {ascend : Bool} {parts : ℕ} (w : Scanned format 0 text lines high ascend parts) where
  abbrev given : List Piece
  given = (trail format text lines).given

  pub spans-none : high ≡ 0 → reaches 0 0 ≡ extent_of (read_text format 0 text)
  spans-none e =
      let none : highest given ≡ 0 = sym w.top ∙ e in
      sym (ap extent_of w.reads ∙ ap (λ (h : ℕ). reaches (pick (eqb h 0) 0 (lowest_of given)) h) none)

  pub spans-some : {low : ℕ} → (high ≡ 0 → ⊥) → low ≡ lowest_of given → reaches low high ≡ extent_of (read_text format 0 text)
  spans-some {low} n e =
      let some : highest given ≡ 0 → ⊥ = λ z. n (w.top ∙ z) in
      sym (ap extent_of w.reads ∙ ap (λ (t : Bool). reaches (pick t 0 (lowest_of given)) (highest given)) (ne_eqb (highest given) 0 some)
      ∙ ap (λ (x : ℕ). reaches x (highest given)) (sym e) ∙ ap (reaches low) (sym w.top))
