-- Scratch: the first bit of a kind, a window gone through, and a file's windows.
use mathlib.Core.Path.{◌≡◌, refl, sym, ap, subst, ◌∙◌}
use mathlib.Core.Bool.{Bool, true, false}
use mathlib.Core.List.{List, [], ◌∷◌, map}
use mathlib.Core.Logic.{◌⊎◌, inl, inr, ⊎_elim}
use Prim.Native.Nat.{ℕ, ◌+◌, ◌-◌, ◌*◌, ◌/◌, ◌%◌, ◌≤◌, ◌<◌}
use native.Mathlib.Nat.{zero-div, add-zero, le_antisymm}
use native.Mathlib.Decide.{dec_lt, ℕ_discrete}
use native.Mathlib.Omega.{arith}
use borrow.Author.Tests.{le-leb, lt-leb, lt-ltb, eq-eqb, ne_eqb}
use lib.Dec.{leb, eqb}
use lib.ListN.{length, get_or, replicate}
use Rattle.prelude.specs.Laws.Bools.{either, clash}
use Rattle.prelude.specs.Pick.{pick}
use Rattle.bitvec.specs.Bits.{bit_at}
use Rattle.bitvec.specs.Clear.{cleared}
use Rattle.bitvec.specs.Numeral.{numeral, bit_of}
use Rattle.bitvec.specs.Laws.Bits.{bit_at_lt}
use Rattle.bitvec.specs.Laws.Numeral.{bit_of-numeral}
use Rattle.blocks.specs.Put.{Put}
use Rattle.record_lines.specs.Pieces.{Piece, end_of}
use Rattle.record_scan.specs.Reading.{is_new}
use Rattle.record_scan.specs.Trail.{trail}
use Rattle.record_scan.specs.Once.{is_free, Once}
use Rattle.record_scan.specs.Windows.{Windowed}
use Rattle.record_scan.specs.declared.Window.{Window}
use Rattle.record_read.specs.Given.{given, holds}
use Rattle.record_read.specs.Laws.ByteFacts.{new-outside}
use Rattle.record_read.specs.Runs.{is_given, in_bits}
use Rattle.record_read.specs.Steps.{run, closed_by, joined_by, Small, Listed, Ready, FirstBit, MarkedBy, Underway, Passes}
use Rattle.record_read.specs.declared.Run.{Run}
use Rattle.record_read.specs.declared.Walk.{Walk}
use Rattle.record_read.proofs.Loops.{or-in}
use Rattle.record_read.proofs.Walks.{listed-room, listed-long, listed-on, listed-idle, listed-past}

-- ---- the first bit of a kind

-- The bits of a byte of ones, and of one of zeros.
full-bit : (b : ℕ) → b < 8 → bit_of 8 255 b ≡ 1
unfolding numeral
full-bit b h = bit_of-numeral 8 (λ i. 1) (λ i. omega arith) b h

same_bit : (want b : ℕ) → want < 2 → b < 8 → bit_of 8 (255 * (1 - want)) b ≡ 1 - want
same_bit want b w h =
    elim (ℕ_discrete want 0) [
      | yes e ↦ rw e (full-bit b h)
      | no e ↦
          let one : want ≡ 1 = elim (dec_lt 0 want) [ yes p ↦ omega arith | no p ↦ absurd (e (omega arith)) ] in
          rw one (ap (λ (x : ℕ). x % 2) (zero-div _))
    ]

-- All bits of a byte that is passed over.
passed : (scratch : List ℕ) (want j x : ℕ) → want < 2 → get_or scratch (j / 8) 0 ≡ 255 * (1 - want) → x / 8 ≡ j / 8 → bit_at scratch x ≡ 1 - want
unfolding bit_at
passed scratch want j x w e s =
    ap (λ (k : ℕ). bit_of 8 (get_or scratch k 0) (x % 8)) s ∙ ap (λ (byte : ℕ). bit_of 8 byte (x % 8)) e ∙ same_bit want (x % 8) w (omega arith)

-- A bit that was read out of its byte.
pub bit_is : (scratch : List ℕ) (j : ℕ) {b : ℕ} → b ≡ bit_of 8 (get_or scratch (j / 8) 0) (j % 8) → b ≡ bit_at scratch j
unfolding bit_at
bit_is scratch j e = e

-- What was looked at before bit j.
pub record Seeking (scratch : List ℕ) (want from j : ℕ) : Type 0 where
  pub onward : from ≤ j
  pub within : j ≤ 8 * length scratch
  pub others : (x : ℕ) → from ≤ x → x < j → bit_at scratch x ≡ 1 - want

module _ (scratch : List ℕ) (want from : ℕ) where
  pub seeking-starts : from ≤ 8 * length scratch → Seeking scratch want from from
  seeking-starts h = record { onward = omega arith; within = h; others = λ x l u. absurd (omega arith) }

  module _ {j : ℕ} (w : Seeking scratch want from j) (h : j < 8 * length scratch) where
    pub seeking-found : bit_at scratch j ≡ want → FirstBit scratch want from j
    seeking-found e = record { onward = w.onward; within = w.within; others = w.others; found = λ u. e }

    module _ (small : want < 2) (other : bit_at scratch j ≡ want → ⊥) {next : ℕ}
        (is : next ≡ pick (eqb (get_or scratch (j / 8) 0) (255 * (1 - want))) (8 * (j / 8) + 8) (j + 1)) where
      -- by a byte or by a bit
      to-next : ((next ≡ 8 * (j / 8) + 8) × (get_or scratch (j / 8) 0 ≡ 255 * (1 - want))) ⊎ (next ≡ j + 1)
      to-next =
          elim (ℕ_discrete (get_or scratch (j / 8) 0) (255 * (1 - want))) [
            | yes e ↦ inl (is ∙ rw (eq-eqb (get_or scratch (j / 8) 0) (255 * (1 - want)) e), e)
            | no e ↦ inr (is ∙ rw (ne_eqb (get_or scratch (j / 8) 0) (255 * (1 - want)) e))
          ]

      here : bit_at scratch j ≡ 1 - want
      here =
          let two = bit_at_lt scratch j in
          elim (ℕ_discrete (bit_at scratch j) want) [
            | yes e ↦ absurd (other e)
            | no e ↦ elim (dec_lt (bit_at scratch j) want) [ yes p ↦ omega (arith, two) | no p ↦ apart two p e ]
          ]
        where
          apart : bit_at scratch j < 2 → (bit_at scratch j < want → ⊥) → (bit_at scratch j ≡ want → ⊥) → bit_at scratch j ≡ 1 - want
          apart two p e = elim (dec_lt want (bit_at scratch j)) [ yes q ↦ omega arith | no q ↦ absurd (e (omega arith)) ]

      pub seeking-on : Seeking scratch want from next
      seeking-on =
          ⊎_elim
          (λ b.
          record {
            onward = omega (arith, b.0, w.onward);
            within = omega (arith, b.0);
            others = λ x l u.
                elim (dec_lt x j) [
                  | yes p ↦ w.others x l p
                  | no p ↦ passed scratch want j x small b.1 (omega (arith, b.0))
                ];
          })
          (λ b.
          record {
            onward = omega (arith, b, w.onward);
            within = omega (arith, b);
            others = λ x l u.
                elim (dec_lt x j) [
                  | yes p ↦ w.others x l p
                  | no p ↦ let e : x ≡ j = omega (arith, b) in ap (bit_at scratch) e ∙ here
                ];
          })
          to-next

      pub seeking-less : j < next
      seeking-less = ⊎_elim (λ b. omega (arith, b.0)) (λ b. omega (arith, b)) to-next

  pub seeking-ends : {j : ℕ} → Seeking scratch want from j → 8 * length scratch ≤ j → FirstBit scratch want from j
  seeking-ends w h = record { onward = w.onward; within = w.within; others = w.others; found = λ u. absurd (omega arith) }

-- ---- a window

module _ (scratch : List ℕ) (from j first end : ℕ) (f : FirstBit scratch 1 j first) (g : FirstBit scratch 0 first end) where
  -- nothing marked from there on
  none-marked : first ≡ end → first ≡ 8 * length scratch
  none-marked e =
      elim (dec_lt first (8 * length scratch)) [
        | yes p ↦
            let one = f.found p in
            let zero : bit_at scratch first ≡ 0 = ap (bit_at scratch) e ∙ g.found (omega arith) in
            absurd (omega arith)
        | no p ↦ omega (arith, f.within)
      ]

  pub window-less : j < 8 * length scratch → j < end
  window-less h =
      elim (dec_lt first end) [
        | yes p ↦ omega (arith, f.onward)
        | no p ↦ let e : first ≡ end = omega (arith, g.onward) in let z = none-marked e in omega arith
      ]

  module _ (test : ℕ → Bool) (os₀ ss₀ : List ℕ) (m : MarkedBy test from scratch) {r : Run} {count : ℕ} {os ss : List ℕ}
      (w : Listed test os₀ ss₀ r (from + j) count os ss) where
    gap : (x : ℕ) → from + j ≤ x → x < from + first → test x ≡ false
    gap x l u =
        let e : x ≡ from + (x - from) = omega arith in
        ap test e ∙ m (x - from) (omega (arith, f.within)) ∙ ap (λ (b : ℕ). eqb b 1) (f.others (x - from) (omega arith) (omega arith))

    full : (x : ℕ) → from + first ≤ x → x < from + end → test x ≡ true
    full x l u =
        let e : x ≡ from + (x - from) = omega arith in
        ap test e ∙ m (x - from) (omega (arith, g.within)) ∙ ap (λ (b : ℕ). eqb b 1) (g.others (x - from) (omega arith) (omega arith))

    pub window_on : {count' : ℕ} {os' ss' : List ℕ} {r' : Run} → Put (map in_bits (closed_by r (run (from + first) (from + end)))) count os ss count' os' ss'
        → r' ≡ joined_by r (run (from + first) (from + end)) → from + end ≤ 8589934592 → Listed test os₀ ss₀ r' (from + end) count' os' ss'
    window_on {count'} {os'} {ss'} p e small =
        subst (λ (z : Run). Listed test os₀ ss₀ z (from + end) count' os' ss') (sym e)
        (elim (dec_lt first end) [
          | yes some ↦
              listed-on test os₀ ss₀ w (run (from + first) (from + end)) p small (omega arith) (omega (arith, f.onward)) gap full
          | no idle ↦
              listed-past test os₀ ss₀ (listed-idle test os₀ ss₀ w (run (from + first) (from + end)) p small (omega arith)) (from + end)
              (omega (arith, f.onward, g.onward)) (λ x l u. gap x l (omega arith))
        ])

-- How far the walk over a window came, from whatever it began with.
pub record Passing (scratch : List ℕ) (from : ℕ) (w : Walk) (os ss : List ℕ) (r : Walk) (j : ℕ) (os' ss' : List ℕ) : Type 0 where
  pub inside : j ≤ 8 * length scratch
  pub listed : Passes scratch from w os ss r (from + j) os' ss'

module _ (scratch : List ℕ) (from : ℕ) (w : Walk) (os ss : List ℕ) where
  pub passing-starts : Passing scratch from w os ss w 0 os ss
  passing-starts =
      record {
        inside = omega arith;
        listed = λ test os₀ ss₀ m l. subst (λ (x : ℕ). Listed test os₀ ss₀ w.run x w.count os ss) (sym (add-zero from)) l;
      }

  module _ {r : Walk} {j : ℕ} {os' ss' : List ℕ} (p : Passing scratch from w os ss r j os' ss') where
    pub passing-on : (first end : ℕ) → FirstBit scratch 1 j first → FirstBit scratch 0 first end → {os'' ss'' : List ℕ} {r'' : Walk}
        → Put (map in_bits (closed_by r.run (run (from + first) (from + end)))) r.count os' ss' r''.count os'' ss''
        → r''.run ≡ joined_by r.run (run (from + first) (from + end)) → from + end ≤ 8589934592 → Passing scratch from w os ss r'' end os'' ss''
    passing-on first end f g put e small =
        record {
          inside = g.within;
          listed = λ test os₀ ss₀ m l. window_on scratch from j first end f g test os₀ ss₀ m (p.listed test os₀ ss₀ m l) put e small;
        }

    pub passing-ends : 8 * length scratch ≤ j → Passes scratch from w os ss r (from + 8 * length scratch) os' ss'
    passing-ends h =
        subst (λ (x : ℕ). Passes scratch from w os ss r (from + x) os' ss') (le_antisymm p.inside h) p.listed

-- Whatever is underway has room for its next block.
module _ {scratch : List ℕ} {from : ℕ} {w : Walk} {os ss : List ℕ} (u : Underway scratch from w os ss) {r : Walk} {j : ℕ} {os' ss' : List ℕ}
    (p : Passing scratch from w os ss r j os' ss') where
  reached : Listed u.test u.first u.second r.run (from + j) r.count os' ss'
  reached = p.listed u.test u.first u.second u.marked u.listed

  pub passing-room : (r.run.first ≤ r.run.end) × (r.count ≤ r.run.first) × Small r.run
  passing-room = listed-room reached

  pub passing-long : (length os' ≡ length os) × (length ss' ≡ length ss)
  passing-long =
      let l = listed-long reached in
      let k = listed-long u.listed in
      (l.0 ∙ sym k.0, l.1 ∙ sym k.1)

-- ---- the windows of a file

pub low-inside : {format : ℕ} {text : List ℕ} {n load end from : ℕ} → Ready format text n load end → from < end → load + from < 4294967296
low-inside r h = omega (arith, r.ends, r.low)

pub some-scratch : (scratch : List ℕ) → (length scratch ≡ 0 → ⊥) → 0 < length scratch
some-scratch scratch h = elim (dec_lt 0 (length scratch)) [ yes p ↦ p | no p ↦ absurd (h (omega arith)) ]

-- A byte that is not free is given.
not_free : (l : List Piece) (x : ℕ) → is_free l x ≡ false → given l x ≡ true
unfolding is_new given
not_free [] x e = absurd (clash refl e)
not_free (p ∷ l) x e =
    elim (dec_lt x p.address) [
      | yes h ↦
          rw (lt-leb p.address x h)
          (not_free l x (rw (or-in (leb (end_of p) x) (le-leb (x + 1) p.address (omega arith))) at e))
      | no h ↦ elim (dec_lt x (end_of p)) [
        | yes k ↦ rw (le-leb p.address x (omega arith), lt-ltb x (end_of p) k)
        | no k ↦
            or-in (holds p x) (not_free l x (rw (le-leb (end_of p) x (omega arith)) at e))
      ]
    ]

given-marked : (l : List Piece) (x : ℕ) → given l x ≡ eqb (pick (is_free l x) 0 1) 1
given-marked l x =
    either (is_free l x)
    (λ e. rw e (new-outside l x (x + 1) x e (omega arith) (omega arith)))
    (λ e. rw e (not_free l x e))

module _ (format : ℕ) (text : List ℕ) (n load : ℕ) (once : Once format text n) where
  abbrev pieces : List Piece
  pieces = (trail format text n).given

  module _ {low : ℕ} {scratch after : List ℕ} {r : Window} (w : Windowed format text n low scratch after r) where
    every-line : r.line ≡ n
    every-line = elim (dec_lt r.line n) [ yes p ↦ absurd (clash (once r.line p) (w.twice p)) | no p ↦ omega (arith, w.few) ]

    pub window-marked : (from : ℕ) → low ≡ load + from → MarkedBy (is_given load pieces) from after
    window-marked from e j h =
        let place : load + (from + j) ≡ low + j = omega arith in
        ap (given pieces) place ∙ given-marked pieces (low + j)
        ∙ ap (λ (b : ℕ). eqb b 1)
        (sym (subst (λ (k : ℕ). bit_at after j ≡ pick (is_free (trail format text k).given (low + j)) 0 1) every-line (w.marked j h)))

    -- cleared behind the window, the scratch is what it was
    pub window-cleared : {first last : List ℕ} → scratch ≡ first → first ≡ cleared first → last ≡ cleared after → last ≡ first
    window-cleared e z c = c ∙ ap (λ (k : ℕ). replicate k 0) (w.long ∙ ap length e) ∙ sym z

    module _ (from : ℕ) (e : low ≡ load + from) (few : length scratch ≤ 536870912) (inside : low < 4294967296) where
      pub window-next : {to : ℕ} → to ≡ r.next - load → from + 8 * length scratch ≤ to
      window-next t = omega (arith, w.onward)

      pub window-past : (os₀ ss₀ : List ℕ) {q : Run} {count : ℕ} {os ss : List ℕ} {to : ℕ} → to ≡ r.next - load
          → Listed (is_given load pieces) os₀ ss₀ q (from + 8 * length after) count os ss → Listed (is_given load pieces) os₀ ss₀ q to count os ss
      window-past os₀ ss₀ {to = to} t l =
          listed-past (is_given load pieces) os₀ ss₀ l to (omega (arith, window-next t, w.long))
          (λ x a u.
          new-outside pieces (load + x) (load + x + 1) (load + x)
          (subst (λ (k : ℕ). is_free (trail format text k).given (load + x) ≡ true) every-line
          (w.free (load + x) (omega (arith, w.long)) (omega arith))) (omega arith) (omega arith))
