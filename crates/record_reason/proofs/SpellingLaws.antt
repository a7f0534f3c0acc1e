-- Laws of how a line is spelled, on plain values: one for each way that a function goes.
use mathlib.Core.Path.{◌≡◌, refl, sym, ap, ◌∙◌}
use mathlib.Core.Bool.{Bool, true, false, cond, ◌&&◌, ◌||◌}
use mathlib.Core.List.{List, [], ◌∷◌}
use Prim.Native.Nat.{ℕ, suc, ◌+◌, ◌-◌, ◌*◌, ◌%◌, ◌<◌}
use native.Mathlib.Omega.{arith}
use lib.Dec.{leb, ltb}
use borrow.Author.Tests.{eq-eqb, ne_eqb, lt-ltb, leb-true}
use Rattle.std.specs.Char.{is_ascii_hexdigit}
use Rattle.std.specs.List.{prefix_len}
use Rattle.prelude.specs.Laws.Bools.{both}
use Rattle.prelude.specs.Pick.{pick}
use Rattle.record_lines.specs.Digits.{value_of, is_digit, pair_at, bytes_at}
use Rattle.record_lines.specs.Sums.{sum_of}
use Rattle.record_reason.specs.Spelling.{cause_of, nothing, or_else, leading, starts_by, spelled, spelled_by, sum_cause, data_typed, end_typed, typed_as}
use Rattle.record_reason.specs.declared.Cause.{Cause}

-- ---- digits, and how many stand at the front

in_ranges : (a b d : Bool) (x y z : ℕ) → (a ≡ true → x < 16) → (b ≡ true → y < 16) → (d ≡ true → z < 16)
    → ((a || b) || d) ≡ ltb (pick a x (pick b y (pick d z 16))) 16
in_ranges true b d x y z p q r = sym (lt-ltb x 16 (p refl))
in_ranges false true d x y z p q r = sym (lt-ltb y 16 (q refl))
in_ranges false false true x y z p q r = sym (lt-ltb z 16 (r refl))
in_ranges false false false x y z p q r = refl

hex-digit : (c : ℕ) → is_ascii_hexdigit c ≡ is_digit c
unfolding value_of
hex-digit c =
    in_ranges (leb 48 c && leb c 57) (leb 65 c && leb c 70) (leb 97 c && leb c 102) (c - 48) (c - 55) (c - 87)
    (λ e. let top = leb-true c 57 (both (leb 48 c) (leb c 57) e).1 in omega arith)
    (λ e. let top = leb-true c 70 (both (leb 65 c) (leb c 70) e).1 in omega arith)
    (λ e. let top = leb-true c 102 (both (leb 97 c) (leb c 102) e).1 in omega arith)

one-more : (b c : Bool) (n m : ℕ) → b ≡ c → n ≡ m → cond b (1 + n) 0 ≡ pick c (suc m) 0
one-more true true n m p e = omega arith
one-more false false n m p e = refl
one-more true false n m p e = cc
one-more false true n m p e = cc

pub leading-prefix : (l : List ℕ) → prefix_len is_ascii_hexdigit l ≡ leading l
unfolding leading
leading-prefix [] = refl
leading-prefix (c ∷ l) = one-more (is_ascii_hexdigit c) (is_digit c) (prefix_len is_ascii_hexdigit l) (leading l) (hex-digit c) (leading-prefix l)

-- ---- by the format

pub spelled-otherwise : (format : ℕ) (line : List ℕ) {begun : Bool} {x : Cause} → (format ≡ 0 → ⊥) → begun ≡ starts_by format line
    → x ≡ spelled begun 2 0 3 255 line → x ≡ spelled_by format line
spelled-otherwise format line h b e =
    e ∙ ap (λ (t : Bool). spelled t 2 0 3 255 line) b
    ∙ ap (λ (t : Bool). spelled (starts_by format line) (pick t 1 2) (pick t 4 0) (pick t 0 3) (pick t 0 255) line) (sym (ne_eqb format 0 h))

-- ---- the checksum

module _ (line : List ℕ) (from body target : ℕ) {p s : ℕ} (e : p ≡ pair_at line from) (f : s ≡ sum_of (bytes_at line from (body + p + 1)) % 256) where
  whole : s ≡ sum_of (bytes_at line from (body + pair_at line from + 1)) % 256
  whole = f ∙ ap (λ (n : ℕ). sum_of (bytes_at line from (body + n + 1)) % 256) e

  pub sum-right : s ≡ target → nothing ≡ sum_cause from body target line
  sum-right g = rw (eq-eqb (sum_of (bytes_at line from (body + pair_at line from + 1)) % 256) target (sym whole ∙ g))

  pub sum-wrong : (s ≡ target → ⊥) → {b o : ℕ} → b ≡ pair_at line (from + 2 * (body + p)) → o ≡ sum_of (bytes_at line from (body + p)) % 256
      → cause_of 5 b ((256 + target - o) % 256) ≡ sum_cause from body target line
  sum-wrong g {b} {o} u v =
      let found : b ≡ pair_at line (from + 2 * (body + pair_at line from)) = u ∙ ap (λ (n : ℕ). pair_at line (from + 2 * (body + n))) e in
      let others : o ≡ sum_of (bytes_at line from (body + pair_at line from)) % 256 = v ∙ ap (λ (n : ℕ). sum_of (bytes_at line from (body + n)) % 256) e in
      rw (
        ne_eqb (sum_of (bytes_at line from (body + pair_at line from + 1)) % 256) target (λ z. g (whole ∙ z)),
        found,
        others,
      )

-- ---- one reason or another

pub or-first : {a x : Cause} (b : Cause) → x ≡ a → (x.reason ≡ 0 → ⊥) → x ≡ or_else a b
or-first {a} {x} b e h = rw (ne_eqb a.reason 0 (λ z. h (ap (λ (y : Cause). y.reason) e ∙ z))) e

pub or-second : {x y b : Cause} (a : Cause) → x ≡ a → x.reason ≡ 0 → y ≡ b → y ≡ or_else a b
or-second {x} {y} {b} a e h f = rw (eq-eqb a.reason 0 (sym (ap (λ (z : Cause). z.reason) e) ∙ h)) f

-- ---- types by their digits

module _ (t state : ℕ) (line : List ℕ) where
  pub typed-1 : t ≡ 49 → data_typed 2 state line ≡ typed_as t state line
  typed-1 e = rw e

  pub typed-3 : t ≡ 51 → data_typed 4 state line ≡ typed_as t state line
  typed-3 e = rw e

  pub typed-7 : t ≡ 55 → end_typed 4 state line ≡ typed_as t state line
  typed-7 e = rw e

  pub typed-9 : t ≡ 57 → end_typed 2 state line ≡ typed_as t state line
  typed-9 e = rw e

  pub typed-other : (t ≡ 49 → ⊥) → (t ≡ 51 → ⊥) → (t ≡ 55 → ⊥) → (t ≡ 57 → ⊥) → cause_of 6 t 0 ≡ typed_as t state line
  typed-other a b c d = rw (ne_eqb t 49 a, ne_eqb t 51 b, ne_eqb t 55 c, ne_eqb t 57 d)
