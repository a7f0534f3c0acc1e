-- The loops over a file's lines: what is known before each turn, and a law for each way on.
use Rattle.std.specs.Prelude.{None, Some}
use mathlib.Core.Path.{◌≡◌, refl, sym, ap, ap₂, ◌∙◌}
use mathlib.Core.Bool.{Bool, true, false}
use mathlib.Core.List.{List, [], ◌∷◌}
use Prim.Native.Nat.{ℕ, zero, suc, ◌+◌, ◌<◌, ◌≤◌, min}
use native.Mathlib.Nat.{le_antisymm}
use native.Mathlib.Numerals.{add-one}
use native.Mathlib.Omega.{arith}
use native.Mathlib.Decide.{dec_lt, ℕ_discrete}
use lib.Dec.{eqb}
use lib.ListN.{length, drop}
use borrow.Author.Tests.{eq-eqb, ne_eqb}
use Rattle.prelude.specs.Laws.Bools.{unlike}
use Rattle.prelude.specs.Pick.{pick}
use Rattle.record_lines.specs.Items.{Item, gives, passes, ends, bad, as_line, Says}
use Rattle.record_lines.specs.Lines.{lines_of}
use Rattle.record_lines.specs.Pieces.{Piece}
use Rattle.record_lines.specs.declared.Line.{Line}
use Rattle.record_scan.specs.Reading.{format_by, Read, sound, faulty, new_pieces, state_after, is_new}
use Rattle.record_scan.specs.Trail.{trail, item_at, next_of}
use Rattle.record_scan.specs.Steps.{Stepped}
use Rattle.record_scan.specs.Laws.Steps.{leaves_of, leaves-new}
use Rattle.record_scan.specs.Laws.TrailLaws.{lines_at, lines-past, moved, next-at, next-state, says-state}
use Rattle.record_scan.specs.declared.Step.{Step}
use Rattle.record_scan.specs.Outcome.{fault_of}
use Rattle.record_reason.specs.Spelling.{nothing}
use Rattle.record_reason.specs.Reasons.{item_of, is_end, ends_before, giver, address_in, lower, lowest_from, lowest, cause_at, told_of, why_of, Placed}

-- ---- a line that was read

end-item : (s f : ℕ) (i : Item) → eqb (as_line s f i).kind 3 ≡ is_end i
end-item s f (gives a l t) = refl
end-item s f (passes t) = refl
end-item s f ends = refl
end-item s f bad = refl

address-item : (s f : ℕ) (i : Item) → (as_line s f i).address ≡ address_in i
address-item s f (gives a l t) = refl
address-item s f (passes t) = refl
address-item s f ends = refl
address-item s f bad = refl

-- the lower of an address and a line's
abbrev pub lower_by : Line → ℕ → ℕ
lower_by r low = pick (eqb r.kind 1) (pick (eqb r.count 0) low (min r.address low)) low

lower-item : (s f low : ℕ) (i : Item) → lower_by (as_line s f i) low ≡ lower (new_pieces i) low
lower-item s f low (gives a [] t) = refl
lower-item s f low (gives a (b ∷ l) t) = rw (ne_eqb (suc (length l)) 0 (λ e. omega arith))
lower-item s f low (passes t) = refl
lower-item s f low ends = refl
lower-item s f low bad = refl

module _ {l : List ℕ} {s f : ℕ} {r : Line} {i : Item} (p : Says l s f r i) where
  pub says-end : eqb r.kind 3 ≡ is_end i
  says-end = ap (λ (x : Line). eqb x.kind 3) p.answer ∙ end-item s f i

  pub says-address : r.address ≡ address_in i
  says-address = ap (λ (x : Line). x.address) p.answer ∙ address-item s f i

  pub says-lower : (low : ℕ) → lower_by r low ≡ lower (new_pieces i) low
  says-lower low = ap (λ (x : Line). lower_by x low) p.answer ∙ lower-item s f low i

-- ---- to line n

pub record Walking (format : ℕ) (text : List ℕ) (n at state : ℕ) (ended : Bool) (k : ℕ) : Type 0 where
  pub few : k ≤ n
  pub place : at ≡ (trail format text k).at
  pub force : state ≡ (trail format text k).state
  pub last : ended ≡ ends_before format text k
  pub inside : at ≤ length text

module _ (format : ℕ) (text : List ℕ) (n : ℕ) where
  pub walking-starts : Walking format text n 0 0 false 0
  unfolding trail
  walking-starts = record { few = omega arith; place = refl; force = refl; last = refl; inside = omega arith }

  module _ {at state : ℕ} {ended : Bool} {k : ℕ} (w : Walking format text n at state ended k) where
    pub walking_on : k < n → {r : Step} {found : Bool} → Stepped format text at state r → found ≡ eqb r.line.kind 3
        → Walking format text n r.next r.line.state found (k + 1)
    walking_on h {r} {found} s e =
        let t = moved format text k r at state w.place w.force s in
        record {
          few = omega arith;
          place = next-at format text k r t;
          force = next-state format text k r t;
          last = e ∙ says-end t.says ∙ ap (ends_before format text) (sym (add-one k));
          inside = s.inside w.inside;
        }

    pub walking-ends : n ≤ k → Placed format text n (record { at = at; state = state; ended = ended })
    walking-ends h =
        let all = le_antisymm w.few h in
        record {
          at = w.place ∙ ap (λ (j : ℕ). (trail format text j).at) all;
          state = w.force ∙ ap (λ (j : ℕ). (trail format text j).state) all;
          ended = w.last ∙ ap (ends_before format text) all;
          inside = w.inside;
        }

-- ---- the first giver

pub record Seeking (format : ℕ) (text : List ℕ) (n first end at state k : ℕ) : Type 0 where
  pub few : k ≤ n
  pub place : at ≡ (trail format text k).at
  pub force : state ≡ (trail format text k).state
  pub none : k ≡ giver format text first end k
  pub inside : at ≤ length text

module _ (format : ℕ) (text : List ℕ) (n first end : ℕ) where
  -- where no line before line k gives a byte, that line tells
  giver-next : (k : ℕ) {left : Bool} → giver format text first end k ≡ k → is_new (new_pieces (item_of format text k)) first end ≡ left
      → giver format text first end (suc k) ≡ pick left (suc k) k
  unfolding giver
  giver-next k {left} e l = rw (e, eq-eqb k k refl, l)

  -- the first stays the first
  giver-stays : (m k : ℕ) → k < m → giver format text first end (suc k) ≡ k → giver format text first end m ≡ k
  unfolding giver
  giver-stays zero k h e = absurd (omega arith)
  giver-stays (suc m) k h e =
      elim (ℕ_discrete k m) [
        | yes p ↦ ap (λ (i : ℕ). giver format text first end (suc i)) (sym p) ∙ e
        | no p ↦
            let w = giver-stays m k (elim (dec_lt k m) [ yes q ↦ q | no q ↦ absurd (p (omega arith)) ]) e in
            rw (ne_eqb (giver format text first end m) m (λ z. p (sym w ∙ z))) w
      ]

  pub seeking-starts : Seeking format text n first end 0 0 0
  unfolding trail giver
  seeking-starts = record { few = omega arith; place = refl; force = refl; none = refl; inside = omega arith }

  module _ {at state k : ℕ} (w : Seeking format text n first end at state k) where
    module _ (h : k < n) {r : Step} (s : Stepped format text at state r) {left : Bool} (e : left ≡ leaves_of r.line first end) where
      stepped : Stepped format text (trail format text k).at (trail format text k).state r
      stepped = moved format text k r at state w.place w.force s

      next : giver format text first end (suc k) ≡ pick left (suc k) k
      next = giver-next k (sym w.none) (sym (e ∙ leaves-new first end stepped.says))

      pub seeking-on : left ≡ true → Seeking format text n first end r.next r.line.state (k + 1)
      seeking-on y =
          record {
            few = omega arith;
            place = next-at format text k r stepped;
            force = next-state format text k r stepped;
            none =
                add-one k ∙ sym (next ∙ ap (λ (x : Bool). pick x (suc k) k) y) ∙ ap (giver format text first end) (sym (add-one k));
            inside = s.inside w.inside;
          }

      pub seeking-found : left ≡ false → k ≡ giver format text first end n
      seeking-found y = sym (giver-stays n k h (next ∙ ap (λ (x : Bool). pick x (suc k) k) y))

    pub seeking-ends : n ≤ k → n ≡ giver format text first end n
    seeking-ends h = let all = le_antisymm w.few h in sym all ∙ w.none ∙ ap (giver format text first end) all

-- ---- the lowest address

pub record Sinking (format : ℕ) (text : List ℕ) (at state low : ℕ) : Type 0 where
  pub left : lowest format text ≡ min low (lowest_from (format_by format) (lines_of (drop at text)) state)
  pub inside : at ≤ length text
  pub least : low ≤ 4294967296

lower-under : (l : List Piece) (low x : ℕ) → min low (lower l x) ≡ min (lower l low) x
lower-under [] low x = refl
lower-under (p ∷ l) low x = omega arith

lower-least : (l : List Piece) (low : ℕ) → lower l low ≤ low
lower-least [] low = omega arith
lower-least (p ∷ l) low = omega arith

lowest-bounded : (format : ℕ) (lines : List (List ℕ)) (state : ℕ) → lowest_from (format_by format) lines state ≤ 4294967296
unfolding lowest_from
lowest-bounded format [] state = omega arith
lowest-bounded format (l ∷ ls) state =
    let rest = lowest-bounded format ls (state_after state (format_by format state l)) in
    let own = lower-least (new_pieces (format_by format state l)) (lowest_from (format_by format) ls (state_after state (format_by format state l))) in
    omega (arith, rest, own)

module _ (format : ℕ) (text : List ℕ) where
  pub sinking-starts : Sinking format text 0 0 4294967296
  sinking-starts = record { left = omega (arith, lowest-bounded format (lines_of text) 0); inside = omega arith; least = omega arith }

  module _ {at state low : ℕ} (w : Sinking format text at state low) where
    pub sinking-on : at < length text → {r : Step} {next : ℕ} → Stepped format text at state r → next ≡ lower_by r.line low
        → Sinking format text r.next r.line.state next
    unfolding lowest_from
    sinking-on h {r} {next} s e =
        let item = item_at format text at state in
        let own = e ∙ says-lower s.says low in
        let rest = lowest_from (format_by format) (lines_of (drop (next_of text at) text)) (state_after state item) in
        record {
          left =
              w.left
              ∙ ap (λ (ls : List (List ℕ)). min low (lowest_from (format_by format) ls state)) (lines_at text at h)
              ∙ lower-under (new_pieces item) low rest
              ∙ ap₂ (λ (x y : ℕ). min (lower (new_pieces item) low) (lowest_from (format_by format) (lines_of (drop x text)) y)) (sym s.next)
              (sym (says-state s.says))
              ∙ ap (λ (x : ℕ). min x (lowest_from (format_by format) (lines_of (drop r.next text)) r.line.state)) (sym own);
          inside = s.inside w.inside;
          least = omega (arith, own, lower-least (new_pieces item) low, w.least);
        }

    pub sinking-ends : length text ≤ at → low ≡ lowest format text
    unfolding lowest_from
    sinking-ends h =
        let none : lowest_from (format_by format) (lines_of (drop at text)) state ≡ 4294967296 =
        ap (λ (ls : List (List ℕ)). lowest_from (format_by format) ls state) (lines-past text at h) in
        omega (arith, w.left, none, w.least)

-- ---- what is answered

module _ (format load : ℕ) (text : List ℕ) where
  pub why-good : (r : Read) → fault_of r ≡ None → told_of 0 nothing ≡ why_of format load text r
  why-good (sound l) e = refl
  why-good (faulty n) e = unlike cc

  pub why-at : (r : Read) (n : ℕ) → fault_of r ≡ Some n → told_of n (cause_at format load text n) ≡ why_of format load text r
  why-at (sound l) n e = unlike cc
  why-at (faulty m) n e = let same : m ≡ n = cc in ap (λ (k : ℕ). told_of k (cause_at format load text k)) (sym same)
