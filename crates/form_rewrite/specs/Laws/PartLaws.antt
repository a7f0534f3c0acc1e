-- Laws of a part of a file: its length, its front, what is behind that, its bytes.
use Rattle.std.specs.Prelude.{List, [], ◌++◌, ◌≡◌, ℕ, ◌+◌, ◌≤◌, ◌<◌, length, get_or, take, drop}
use Rattle.std.proofs.Common.{append-nil, sym, ap, ◌∙◌, arith, length-drop, drop_of_length-le, length-take-le, get_or-take, get_or-drop}
use Rattle.std.proofs.Common.{drop-drop, drop_at, take-add, take_all, take-take}
use Rattle.std.proofs.Math.Decide.{dec_le}
use Rattle.std.proofs.Math.Seq.{take-nil}
use Rattle.form_fields.specs.Words.{byte}
use Rattle.form_fields.specs.Whole.{part}

pub part_length : (file : List ℕ) (n at : ℕ) → at + n ≤ length file → length (part file n at) ≡ n
part_length file n at h = length-take-le n (drop at file) (omega (arith, length-drop at file))

drop-take : (m n : ℕ) (l : List ℕ) → drop m (take (m + n) l) ≡ take n (drop m l)
drop-take m n l =
    ap (drop m) (take-add m n l)
    ∙ go
  where
    go : drop m (take m l ++ take n (drop m l)) ≡ take n (drop m l)
    go =
        elim (dec_le m (length l)) [
          | yes h ↦ drop_at (take m l) (take n (drop m l)) m (length-take-le m l h)
          | no h ↦
              let none : drop m l ≡ [] = drop_of_length-le l {i = m} (omega arith) in
              let all : take m l ≡ l = take_all m l (omega arith) in
              rw (none, all) (ap (drop m) (ap (λ (k : List ℕ). l ++ k) (take-nil n) ∙ append-nil l) ∙ none ∙ sym (take-nil n))
        ]

pub part-front : (file : List ℕ) (m n at : ℕ) → m ≤ n → take m (part file n at) ≡ part file m at
part-front file m n at h = take-take m n (drop at file) h

pub part-back : (file : List ℕ) (m n k at : ℕ) → n ≡ m + k → drop m (part file n at) ≡ part file k (at + m)
part-back file m n k at e =
    ap (λ (j : ℕ). drop m (take j (drop at file))) e ∙ drop-take m k (drop at file) ∙ ap (take k) (drop-drop m at file)

pub part_at : (file : List ℕ) (n at i : ℕ) → i < n → get_or (part file n at) i 0 ≡ byte file (at + i)
part_at file n at i h = get_or-take n (drop at file) i 0 h ∙ get_or-drop at file i 0
