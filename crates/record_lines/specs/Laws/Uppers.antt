-- Laws that proofs about Uppers need.
use Rattle.std.specs.Prelude.{◌≡◌, ℕ, suc, ◌+◌, ◌/◌, ◌%◌, ◌<◌, List, [], ◌∷◌, ◌++◌, refl}
use Rattle.std.proofs.Common.{ap, ◌∙◌, arith, lt-ltb, le-ltb, ne_eqb}
use Rattle.std.proofs.Math.Decide.{dec_lt}
use Rattle.bitvec.specs.Bits.{Bytes}
use Rattle.record_lines.specs.Digits.{letter_of, bytes_text}
use Rattle.record_lines.specs.Lines.{lines_of, in_front}
use Rattle.record_lines.specs.Uppers.{Upper, Uppers, colon, ended, ess, figure, letter}

-- lines of such characters
abbrev pub UpperLines : List (List ℕ) → Type 0
UpperLines [] = Unit {0}
UpperLines (l ∷ ls) = Uppers l × UpperLines ls

-- Neither LF nor CR is among them.
upper-above : {c : ℕ} → Upper c → 13 < c
upper-above (figure h k) = omega arith
upper-above (letter h k) = omega arith
upper-above colon = omega arith
upper-above ess = omega arith

line-then : (l t : List ℕ) → Uppers l → lines_of (l ++ (10 ∷ t)) ≡ l ∷ lines_of t
unfolding lines_of
line-then [] t h = refl
line-then (c ∷ l) t h =
    let above : 13 < c = upper-above h.0 in
    rw (ne_eqb c 10 (λ e. omega arith), ne_eqb c 13 (λ e. omega arith)) (ap (in_front c) (line-then l t h.1))

-- The lines that a text was made of.
pub lines-of-ended : (ls : List (List ℕ)) → UpperLines ls → lines_of (ended ls) ≡ ls
unfolding ended lines_of
lines-of-ended [] h = refl
lines-of-ended (l ∷ ls) h = line-then l (ended ls) h.0 ∙ ap (λ (x : List (List ℕ)). l ∷ x) (lines-of-ended ls h.1)

-- Bytes are written so.
letter-upper : (n : ℕ) → n < 16 → Upper (letter_of n)
letter-upper n h =
    elim (dec_lt n 10) [
      | yes p ↦ rw (lt-ltb n 10 p) (figure {c = 48 + n} (omega arith) (omega arith))
      | no p ↦ rw (le-ltb n 10 (omega arith)) (letter {c = 55 + n} (omega arith) (omega arith))
    ]

pub bytes-upper : (l : List ℕ) → Bytes l → Uppers (bytes_text l)
unfolding bytes_text
bytes-upper [] h = tt
bytes-upper (b ∷ l) h =
    let s : b < 256 = h 0 in
    (letter-upper (b / 16) (omega arith), (letter-upper (b % 16) (omega arith), bytes-upper l (λ k. h (suc k))))
