-- Bytes that are stored one behind the other.
use mathlib.Core.Path.{◌≡◌, refl, sym, ap, ap₂, ◌∙◌}
use mathlib.Core.List.{List, [], ◌∷◌}
use mathlib.Core.Logic.{◌⊎◌, inl, inr}
use Prim.Native.Nat.{ℕ, zero, suc, ◌+◌, ◌-◌, ◌*◌, ◌/◌, ◌%◌, ◌≤◌, ◌<◌}
use native.Mathlib.Nat.{le_antisymm}
use native.Mathlib.Decide.{dec_lt, ℕ_discrete}
use native.Mathlib.Omega.{arith}
use lib.ListN.{length, get_or, set, take, drop, length-set}
use lib.Seq.{get_or-set_same, get_or-set_other}
use Rattle.std.specs.Simd.{first_chunks}
use Rattle.std.proofs.Common.{length-drop}
use Rattle.std.proofs.lemmas.List.{get_or-take, get_or-drop, length-take}
use Rattle.bitvec.specs.Lists.{list_of}
use Rattle.bitvec.specs.Laws.Lists.{length-list_of}
use Rattle.record_lines.specs.Digits.{value_of, pair_at, bytes_at}
use Rattle.record_lines.specs.Pieces.{Piece, piece}
use Rattle.record_lines.specs.Laws.Sums.{list-one-more}
use Rattle.record_scan.specs.Reading.{new_pieces}
use Rattle.record_scan.specs.Trail.{trail, line_at}
use Rattle.record_scan.specs.Laws.TrailLaws.{said, moved, next-at, next-state, next-given}
use Rattle.record_scan.specs.Steps.{Stepped}
use Rattle.record_scan.specs.declared.Step.{Step}
use Rattle.record_read.specs.Given.{filled}
use Rattle.record_read.specs.Theorems.GivenLaws.{filled-long, filled_is, filled_none, filled-append, filled-split}
use Rattle.record_read.specs.Laws.GivenLaws.{byte-in, byte-before, byte-behind}
use Rattle.record_read.proofs.LineLaws.{line-fills}

-- ---- one byte

module _ (load address value : ℕ) (old : List ℕ) where
  -- one that has no place
  pub byte-out : (address < load) ⊎ (length old ≤ address - load) → old ≡ filled load (piece address (value ∷ []) ∷ []) old
  byte-out o =
      filled_is load (piece address (value ∷ []) ∷ []) old old refl
      (λ j h. sym (elim o [
        | inl p ↦ byte-behind address (value ∷ []) (load + j) (get_or old j 0) (omega arith)
        | inr p ↦ byte-before address (value ∷ []) (load + j) (get_or old j 0) (omega arith)
      ]))

  pub byte-set : load ≤ address → address - load < length old → set old (address - load) value ≡ filled load (piece address (value ∷ []) ∷ []) old
  byte-set p q =
      filled_is load (piece address (value ∷ []) ∷ []) old (set old (address - load) value) (length-set old (address - load) value)
      (λ j h.
      elim (ℕ_discrete j (address - load)) [
        | yes e ↦
            let place : load + j - address ≡ 0 = omega arith in
            ap (λ (i : ℕ). get_or (set old (address - load) value) i 0) e ∙ get_or-set_same old (address - load) value 0 q
            ∙ sym (byte-in address (value ∷ []) (load + j) (get_or old j 0) (omega arith) (omega arith) ∙ ap (λ (i : ℕ). get_or (value ∷ []) i 0) place)
        | no e ↦
            get_or-set_other old (address - load) j value 0 e
            ∙ sym (elim (dec_lt (load + j) address) [
              | yes s ↦ byte-before address (value ∷ []) (load + j) (get_or old j 0) s
              | no s ↦ byte-behind address (value ∷ []) (load + j) (get_or old j 0) (elim (dec_lt (load + j) (address + 1)) [
                | yes t ↦ absurd (e (omega arith))
                | no t ↦ omega arith
              ])
            ])
      ])

-- ---- the bytes of a line

module _ (line : List ℕ) (first address load : ℕ) (old : List ℕ) where
  abbrev spelled : ℕ → List ℕ
  spelled j = filled load (piece address (bytes_at line first j) ∷ []) old

  pub spelled_none : old ≡ spelled 0
  unfolding list_of
  spelled_none =
      filled_is load (piece address [] ∷ []) old old refl
      (λ j h. sym (elim (dec_lt (load + j) address) [
        | yes p ↦ byte-before address [] (load + j) (get_or old j 0) p
        | no p ↦ byte-behind address [] (load + j) (get_or old j 0) (omega arith)
      ]))

  pub spelled-more : (j : ℕ) {mid new : List ℕ} {value : ℕ} → mid ≡ spelled j → value ≡ pair_at line (first + 2 * j)
      → new ≡ filled load (piece (address + j) (value ∷ []) ∷ []) mid → new ≡ spelled (j + 1)
  spelled-more j {mid} {new} {value} m v e =
      let f : ℕ → ℕ = λ i. pair_at line (first + 2 * i) in
      let place : address + j ≡ address + length (list_of j f) = ap (λ (i : ℕ). address + i) (sym (length-list_of j f)) in
      e ∙ ap₂ (λ (b : ℕ) (l : List ℕ). filled load (piece (address + j) (b ∷ []) ∷ []) l) v m
      ∙ ap (λ (a : ℕ). filled load (piece a (f j ∷ []) ∷ []) (spelled j)) place
      ∙ filled-split load address (list_of j f) (f j ∷ []) old
      ∙ ap (λ (l : List ℕ). filled load (piece address l ∷ []) old) (sym (list-one-more j f))

-- ---- the characters of a line, in pairs

digit_in : (k j : ℕ) (l : List ℕ) (i : ℕ) → j < k → i < 2 → get_or (get_or (first_chunks 2 k l) j []) i 0 ≡ get_or l (2 * j + i) 0
digit_in zero j l i h u = absurd (omega arith)
digit_in (suc k) zero l i h u = get_or-take 2 l i 0 u ∙ ap (λ (n : ℕ). get_or l n 0) (omega arith)
digit_in (suc k) (suc j) l i h u =
    digit_in k j (drop 2 l) i (omega arith) u ∙ get_or-drop 2 l (2 * j + i) 0 ∙ ap (λ (n : ℕ). get_or l n 0) (omega arith)

module _ (line : List ℕ) (first m k j : ℕ) {pairs : List (List ℕ)} (e : pairs ≡ first_chunks 2 k (take m (drop first line))) where
  digit_is : (i : ℕ) → j < k → 2 * j + 1 < m → i < 2 → get_or (get_or pairs j []) i 0 ≡ get_or line (first + 2 * j + i) 0
  digit_is i h g u =
      ap (λ (p : List (List ℕ)). get_or (get_or p j []) i 0) e ∙ digit_in k j (take m (drop first line)) i h u
      ∙ get_or-take m (drop first line) (2 * j + i) 0 (omega arith) ∙ get_or-drop first line (2 * j + i) 0
      ∙ ap (λ (n : ℕ). get_or line n 0) (omega arith)

  pub pair_is : j < k → 2 * j + 1 < m
      → 16 * (value_of (get_or (get_or pairs j []) 0 0) % 16) + value_of (get_or (get_or pairs j []) 1 0) % 16 ≡ pair_at line (first + 2 * j)
  pair_is h g =
      ap₂ (λ (x y : ℕ). 16 * (value_of x % 16) + value_of y % 16)
      (digit_is 0 h g (omega arith) ∙ ap (λ (n : ℕ). get_or line n 0) (omega arith)) (digit_is 1 h g (omega arith))

pub pairs_all : (line : List ℕ) (first count : ℕ) → first + 2 * count ≤ length line
    → length (take (first + 2 * count - first) (drop first line)) / 2 ≡ count
pairs_all line first count h =
    let n : length (take (first + 2 * count - first) (drop first line)) ≡ 2 * count =
    omega (arith, length-take (first + 2 * count - first) (drop first line), length-drop first line) in
    omega arith

-- ---- the bytes of a file

pub record Filling (format : ℕ) (text : List ℕ) (n load : ℕ) (old : List ℕ) (at state : ℕ) (bytes : List ℕ) (k : ℕ) : Type 0 where
  pub few : k ≤ n
  pub place : at ≡ (trail format text k).at
  pub force : state ≡ (trail format text k).state
  pub inside : at ≤ length text
  pub stored : bytes ≡ filled load (trail format text k).given old

module _ (format : ℕ) (text : List ℕ) (n load : ℕ) (old : List ℕ) where
  pub filling-starts : Filling format text n load old 0 0 old 0
  unfolding trail
  filling-starts = record { few = omega arith; place = refl; force = refl; inside = omega arith; stored = filled_none load old }

  module _ {at state : ℕ} {bytes : List ℕ} {k : ℕ} (w : Filling format text n load old at state bytes k) where
    pub filling-on : k < n → {r : Step} → Stepped format text at state r → {line new : List ℕ} → line ≡ line_at text at
        → new ≡ filled load (piece r.line.address (bytes_at line r.line.first r.line.count) ∷ []) bytes
        → Filling format text n load old r.next r.line.state new (k + 1)
    filling-on h {r} s {line} {new} l e =
        let t = moved format text k r at state w.place w.force s in
        let pieces = (trail format text k).given in
        record {
          few = omega arith;
          place = next-at format text k r t;
          force = next-state format text k r t;
          inside = s.inside w.inside;
          stored =
              e ∙ ap (λ (m : List ℕ). filled load (piece r.line.address (bytes_at m r.line.first r.line.count) ∷ []) bytes)
              (l ∙ ap (line_at text) w.place)
              ∙ line-fills t.says load bytes ∙ ap (filled load (new_pieces (said format text k r))) w.stored
              ∙ filled-append load pieces (new_pieces (said format text k r)) old ∙ ap (λ (m : List Piece). filled load m old) (next-given format text k r);
        }

    pub filling-long : length bytes ≡ length old
    filling-long = ap length w.stored ∙ filled-long load (trail format text k).given old

    pub filling-ends : n ≤ k → bytes ≡ filled load (trail format text n).given old
    filling-ends h = w.stored ∙ ap (λ (j : ℕ). filled load (trail format text j).given old) (le_antisymm w.few h)
