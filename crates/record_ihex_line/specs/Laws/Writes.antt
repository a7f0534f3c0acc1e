-- A record's line, put together from its bytes and the byte that makes their sum zero.
use Rattle.std.specs.Prelude.{◌≡◌, List, [], ◌∷◌, ◌++◌, ℕ, ◌+◌, ◌-◌, ◌*◌, ◌/◌, ◌%◌, ◌<◌, length}
use Rattle.std.proofs.Common.{sym, ap, ◌∙◌, arith, length-append}
use Rattle.std.proofs.lemmas.List.Edits.{sets}
use Rattle.record_lines.specs.Digits.{bytes_text}
use Rattle.record_lines.specs.Laws.DigitLaws.{length-bytes_text}
use Rattle.record_lines.specs.Puts.{Puts}
use Rattle.record_lines.specs.Sums.{sum_of}
use Rattle.record_ihex_line.specs.Format.{record_bytes, check_of, line_text, record_text}

added : (x y s1 s2 s : ℕ) → s1 ≡ x % 256 → s2 ≡ y % 256 → s ≡ (s1 + s2) % 256 → s ≡ (x + y) % 256
added x y s1 s2 s e1 e2 e = e ∙ omega arith

negated : (s r x : ℕ) → s ≡ x % 256 → (r + s) % 256 ≡ 0 → r < 256 → r ≡ (256 - x % 256) % 256
negated s r x e z h = let b : s < 256 = omega arith in go s r b h z ∙ ap (λ (k : ℕ). (256 - k) % 256) e
  where
    go : (s r : ℕ) → s < 256 → r < 256 → (r + s) % 256 ≡ 0 → r ≡ (256 - s) % 256
    go s r b h z = omega arith

pub check-byte : (b : List ℕ) (n hi lo type s1 s2 s r : ℕ) → s1 ≡ sum_of (n ∷ hi ∷ lo ∷ type ∷ []) % 256 → s2 ≡ sum_of b % 256 → s ≡ (s1 + s2) % 256
    → (r + s) % 256 ≡ 0 → r < 256 → r ≡ check_of (n ∷ hi ∷ lo ∷ type ∷ b)
unfolding sum_of
check-byte b n hi lo type s1 s2 s r e1 e2 e z h =
    negated s r (sum_of (n ∷ hi ∷ lo ∷ type ∷ b)) (added (sum_of (n ∷ hi ∷ lo ∷ type ∷ [])) (sum_of b) s1 s2 s e1 e2 e ∙ ap (λ (k : ℕ). k % 256) (omega arith))
    z h

-- The line that was stored is the record's.
pub record-put : (old b : List ℕ) (n hi lo type field ck : ℕ) {new : List ℕ} → length b ≡ n → hi ≡ field / 256 → lo ≡ field % 256 → ck ≡ check_of
    (n ∷ hi ∷ lo ∷ type ∷ b)
    → new ≡ sets old 0 (58 ∷ bytes_text (n ∷ hi ∷ lo ∷ type ∷ b) ++ bytes_text (ck ∷ []) ++ 10 ∷ []) → Puts (record_text type field b) old (9 + 2 * n + 2 + 1)
    new
unfolding record_text bytes_text
record-put old b n hi lo type field ck en eh el ec e =
    let same : n ∷ hi ∷ lo ∷ type ∷ b ≡ record_bytes type field b =
    ap (λ (k : ℕ). k ∷ hi ∷ lo ∷ type ∷ b) (sym en) ∙ ap (λ (k : ℕ). length b ∷ k ∷ lo ∷ type ∷ b) eh ∙ ap
    (λ (k : ℕ). length b ∷ field / 256 ∷ k ∷ type ∷ b) el in
    let text = e ∙ ap (λ (k : ℕ). sets old 0 (58 ∷ bytes_text (n ∷ hi ∷ lo ∷ type ∷ b) ++ bytes_text (k ∷ []) ++ 10 ∷ [])) ec ∙ ap
    (λ (l : List ℕ). sets old 0 (line_text l)) same in
    let check = check_of (record_bytes type field b) ∷ [] in
    record {
      long = omega
          (arith, length-append (bytes_text b ++ bytes_text check) (10 ∷ []), length-append (bytes_text b) (bytes_text check), length-bytes_text b, en);
      part =
          text;
    }
