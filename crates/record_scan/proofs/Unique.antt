-- Uniqueness over each public function's own contract: two answers that meet it for the same file are equal.
use Rattle.std.specs.Prelude.{Option, Err, Result, Ok}
use mathlib.Core.Path.{◌≡◌, refl, sym, ap, ap₂, subst, ◌∙◌}
use mathlib.Core.Bool.{Bool, true, false}
use mathlib.Core.List.{List}
use Prim.Native.Nat.{ℕ, ◌+◌, ◌<◌}
use native.Mathlib.Decide.{dec_lt}
use native.Mathlib.Omega.{arith}
use Rattle.prelude.specs.Laws.Bools.{clash, unlike}
use Rattle.prelude.specs.Pick.{pick}
use Rattle.bitvec.specs.Theorems.Bits.{same_bits}
use Rattle.prelude.specs.Laws.Pick.{determined, paired}
use Rattle.prelude.specs.Laws.Outcome.{OneOutcome, OneView}
use Rattle.record_lines.specs.Spelling.{Spells}
use Rattle.record_lines.specs.declared.Line.{Line}
use Rattle.record_lines.specs.Laws.Items.{one_line}
use Rattle.record_lines.specs.Pieces.{Piece}
use Rattle.record_scan.specs.Reading.{sound, faulty, read_text}
use Rattle.record_scan.specs.Steps.{highest, rises, nowhere, parts_of, Stepped, ScanIs, Scanned, whole_file}
use Rattle.record_scan.specs.Once.{is_free}
use Rattle.record_scan.specs.Trail.{trail}
use Rattle.record_scan.specs.Windows.{Windowed}
use Rattle.record_scan.specs.declared.Window.{Window}
use Rattle.record_scan.specs.declared.Step.{Step}
use Rattle.record_scan.proofs.all_zero.Kinds as all-zero-kinds
use Rattle.record_scan.proofs.all_zero.Reads as all-zero-reads
use Rattle.record_scan.proofs.leaves.Kinds as leaves-kinds
use Rattle.record_scan.proofs.leaves.Reads as leaves-reads
use Rattle.record_scan.proofs.line_at_fault.Kinds as line-at-fault-kinds
use Rattle.record_scan.proofs.line_at_fault.Reads as line-at-fault-reads
use Rattle.record_scan.proofs.scan_lines.Kinds as scan-lines-kinds
use Rattle.record_scan.proofs.scan_lines.Reads as scan-lines-reads
use Rattle.record_scan.proofs.known_line.Kinds as known-line-kinds
use Rattle.record_scan.proofs.known_line.Reads as known-line-reads
use Rattle.record_scan.proofs.mark_window.Kinds as mark-window-kinds
use Rattle.record_scan.proofs.mark_window.Reads as mark-window-reads
use Rattle.record_scan.proofs.search_line.Kinds as search-line-kinds
use Rattle.record_scan.proofs.search_line.Reads as search-line-reads
use Rattle.record_scan.proofs.take_line.Kinds as take-line-kinds
use Rattle.record_scan.proofs.take_line.Reads as take-line-reads
use Rattle.record_scan.specs.declared.Whole.{Whole}

-- the answer, and the scratch afterwards
pub line-at-fault-unique : OneView 2 line-at-fault-kinds.ps line-at-fault-kinds.r line-at-fault-reads.Learnt ((Option ℕ) × List ℕ)
    (λ κs x e. (x, e.1.1.1.0.now))
line-at-fault-unique κs a x y e f p q = paired (determined p.0 q.0) (determined p.1 q.1)

pub all-zero-unique : OneOutcome 1 all-zero-kinds.ps all-zero-kinds.r all-zero-reads.Learnt
all-zero-unique κs a x y e f p q = determined p q

pub leaves-unique : OneOutcome 0 leaves-kinds.ps leaves-kinds.r leaves-reads.Learnt
leaves-unique κs a x y e f p q = determined p q

one-step : {format : ℕ} {text : List ℕ} {at state : ℕ} (r s : Step) → Stepped format text at state r → Stepped format text at state s → r ≡ s
one-step r s p q =
    let lines = one_line p.says q.says in
    let stops = determined p.stop q.stop in
    let nexts = determined p.next q.next in
    ap₂ (λ (l : Line) (n : ℕ). record { line = l; stop = r.stop; next = n }) lines nexts
    ∙ ap (λ (m : ℕ). record { line = s.line; stop = m; next = s.next }) stops

pub known-line-unique : OneOutcome 2 known-line-kinds.ps known-line-kinds.r known-line-reads.Learnt
known-line-unique κs a x y e f p q = one-step x y p q

-- by a table that spells the digits
pub search-line-unique : OneOutcome 2 search-line-kinds.ps search-line-kinds.r (λ κs a x e. Spells a.1.1.0.now × search-line-reads.Learnt κs a x e)
search-line-unique κs a x y e f p q = one-step x y (p.1 p.0) (q.1 q.0)

pub take-line-unique : OneOutcome 2 take-line-kinds.ps take-line-kinds.r take-line-reads.Learnt
take-line-unique κs a x y e f p q = one-step x y p q

module _ (format load : ℕ) (text : List ℕ) where
  sound-or-faulty : {l : List Piece} {n : ℕ} → read_text format load text ≡ sound l → read_text format load text ≡ faulty n → ⊥
  sound-or-faulty p q = let e = sym p ∙ q in unlike cc

  one-whole : (n m h k : ℕ) (a b : Bool) (x y : ℕ) → Scanned format load text n h a x → Scanned format load text m k b y → whole_file n h a x ≡ whole_file m k b y
  one-whole n m h k a b x y p q =
      let lines : n ≡ m = omega (arith, p.all, q.all) in
      let tops : h ≡ k = p.top ∙ ap (λ (j : ℕ). highest (trail format text j).given) lines ∙ sym q.top in
      let orders : a ≡ b = p.order ∙ ap (rises format text) lines ∙ sym q.order in
      let begun : x ≡ y = p.begun ∙ ap (λ (j : ℕ). parts_of nowhere (trail format text j).given) lines ∙ sym q.begun in
      ap₂ (λ (j : ℕ) (i : ℕ). whole_file j i a x) lines tops ∙ ap₂ (whole_file m k) orders begun

  one-scan : (r s : Result Whole ℕ) → ScanIs format load text r → ScanIs format load text s → r ≡ s
  one-scan (Ok w) (Ok v) p q = one-whole w.lines v.lines w.high v.high w.ascend v.ascend w.parts v.parts p q
  one-scan (Ok w) (Err m) p q = absurd (sound-or-faulty p.reads q)
  one-scan (Err n) (Ok w) p q = absurd (sound-or-faulty q.reads p)
  one-scan (Err n) (Err m) p q = let e = sym p ∙ q in let same : n ≡ m = cc in ap Err same

-- ---- a window

module _ (format : ℕ) (text : List ℕ) (n low : ℕ) (scratch : List ℕ) where
  -- no line before the first that gives a byte twice does so
  none-earlier : (a b : List ℕ) (r s : Window) → Windowed format text n low scratch a r → Windowed format text n low scratch b s → r.line < s.line → ⊥
  none-earlier a b r s p q l =
      let m = p.shared (omega (arith, l, q.few)) in
      let one = q.once r.line l m.at m.above m.below in
      let z : ◌≡◌ {A = Bool} false true = rw (m.old, m.again) at one in
      clash z refl

  same_line : (a b : List ℕ) (r s : Window) → Windowed format text n low scratch a r → Windowed format text n low scratch b s → r.line ≡ s.line
  same_line a b r s p q =
      elim (dec_lt r.line s.line) [
        | yes l ↦ absurd (none-earlier a b r s p q l)
        | no l ↦ elim (dec_lt s.line r.line) [ yes m ↦ absurd (none-earlier b a s r q p m) | no m ↦ omega arith ]
      ]

  -- nothing is given between two next addresses
  none-nearer : (a b : List ℕ) (r s : Window) → Windowed format text n low scratch a r → Windowed format text n low scratch b s → r.next < s.next → ⊥
  none-nearer a b r s p q l =
      let old = p.least (omega (arith, l, q.near)) in
      let free = q.free r.next p.onward l in
      clash (subst (λ (k : ℕ). is_free (trail format text k).given r.next ≡ true) (sym (same_line a b r s p q)) free) old

  one-window : (a b : List ℕ) (r s : Window) → Windowed format text n low scratch a r → Windowed format text n low scratch b s → (r ≡ s) × (a ≡ b)
  one-window a b r s p q =
      let lines = same_line a b r s p q in
      let nexts : r.next ≡ s.next = elim (dec_lt r.next s.next) [
        | yes l ↦ absurd (none-nearer a b r s p q l)
        | no l ↦ elim (dec_lt s.next r.next) [ yes m ↦ absurd (none-nearer b a s r q p m) | no m ↦ omega arith ]
      ] in (
        ap₂ (λ (k : ℕ) (x : ℕ). record { line = k; next = x }) lines nexts,
        same_bits a b p.bytes q.bytes (p.long ∙ sym q.long) (λ j h.
            p.marked j h ∙ ap (λ (k : ℕ). pick (is_free (trail format text k).given (low + j)) 0 1) lines
            ∙ sym (q.marked j (omega (arith, h, p.long, q.long)))),
      )

-- the answer, and the scratch afterwards
pub mark-window-unique : OneView 3 mark-window-kinds.ps mark-window-kinds.r mark-window-reads.Learnt (Window × List ℕ)
    (λ κs x e. (x, e.1.1.1.1.1.0.now))
mark-window-unique κs a x y e f p q =
    let same = one-window a.0 a.1.0.now a.1.1.1.0 a.1.1.1.1.0 a.1.1.1.1.1.0.now e.1.1.1.1.1.0.now
    f.1.1.1.1.1.0.now x y p q in
    paired same.0 same.1

-- the answer, and the scratch afterwards
pub scan-lines-unique : OneView 3 scan-lines-kinds.ps scan-lines-kinds.r scan-lines-reads.Learnt ((Result Whole ℕ) × List ℕ)
    (λ κs x e. (x, e.1.1.1.1.0.now))
scan-lines-unique κs a x y e f p q = paired (one-scan a.0 a.1.1.1.0 a.1.0.now x y p.0 q.0) (determined p.1 q.1)
