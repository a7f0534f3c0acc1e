-- Numbers in a payload and in the file that it stands in; two's complement; what stands at a place of a column or of the cells of rows.
use Rattle.std.specs.Prelude.{◌≡◌, refl, true, false, List, [], ◌∷◌, ◌++◌, ltb, pos, negsuc, ◌-ℤ◌, length, get_or}
use Rattle.std.proofs.Common.{sym, subst, ◌∙◌, get_or-append-add, to_z, lt-ltb, ltb-true, ltb-false}
use Rattle.std.proofs.Math.Path.{ap, ap₂}
use Prim.Native.Nat.{ℕ, zero, suc, ◌+◌, ◌*◌, ◌-◌, ◌≤◌, ◌<◌}
use native.Mathlib.Omega.{arith}
use Rattle.std.proofs.Math.ListN.{get_or-append}
use Rattle.std.specs.Int.{w64}
use Rattle.prelude.specs.Laws.Bools.{either}
use Rattle.form_fields.specs.Columns.{column}
use Rattle.form_fields.specs.Laws.Columns.{column-length, column-at}
use Rattle.form_fields.specs.Lists.{cells}
use Rattle.form_fields.specs.Words.{byte, word16, word32, word64}
use Rattle.says.specs.Files.{two, four, eight}
use Rattle.says.specs.Form.{Signed, from-0, below-0}

-- ---- a payload of so many bytes stands in the file from `at` on

abbrev pub Stands : List ℕ → ℕ → ℕ → List ℕ → Type 0
Stands file at len p = (i : ℕ) → i < len → get_or p i 0 ≡ byte file (at + i)

module _ (file : List ℕ) (at len : ℕ) (p : List ℕ) (stands : Stands file at len p) where
  pub two_at : (o : ℕ) → o + 1 < len → two p o ≡ word16 file (at + o)
  unfolding word16
  two_at o less =
      ap₂ (λ (a b : ℕ). a * 256 + b) (stands o (omega arith)) (stands (o + 1) less ∙ ap (byte file) {x = at + (o + 1)} {y = at + o + 1} (omega arith))

  pub four-at : (o : ℕ) → o + 3 < len → four p o ≡ word32 file (at + o)
  unfolding word32
  four-at o less =
      ap₂ (λ (a b : ℕ). a * 65536 + b) (two_at o (omega arith))
      (two_at (o + 2) (omega arith) ∙ ap (word16 file) {x = at + (o + 2)} {y = at + o + 2} (omega arith))

  pub eight-at : (o : ℕ) → o + 7 < len → eight p o ≡ word64 file (at + o)
  unfolding word64
  eight-at o less =
      ap₂ (λ (a b : ℕ). a * 4294967296 + b) (four-at o (omega arith))
      (four-at (o + 4) (omega arith) ∙ ap (word32 file) {x = at + (o + 4)} {y = at + o + 4} (omega arith))

-- ---- two's complement

less-is : (n m : ℕ) → n < m → pos n -ℤ pos m ≡ negsuc (m - suc n)
less-is n zero h = absurd (omega arith)
less-is n (suc m) h = rw (lt-ltb n (suc m) h)

pub signed_is : (n : ℕ) → n < 18446744073709551616 → Signed n (to_z w64 n)
signed_is n h =
    either (ltb n 9223372036854775808)
    (λ t. subst (Signed n) (sym (up t)) (from-0 (ltb-true n 9223372036854775808 t)))
    (λ t. subst (Signed n) (less-is n 18446744073709551616 h ∙ sym (down t)) (below-0 (ltb-false n 9223372036854775808 t)))
  where
    up : ltb n 9223372036854775808 ≡ true → to_z w64 n ≡ pos n
    up t = rw t

    down : ltb n 9223372036854775808 ≡ false → to_z w64 n ≡ negsuc (18446744073709551616 - suc n)
    down t = rw t

-- ---- columns and cells

pub column-from : {A : Type 0} (read : ℕ → A) (step base off n : ℕ) (d : A) (i : ℕ) → i < n
    → get_or (column read step (base + off) n) i d ≡ read (base + i * step + off)
column-from read step base off n d i less =
    column-at read step d (base + off) n i less ∙ ap read {x = base + off + i * step} {y = base + i * step + off} (omega arith)

pub columns-same : {A : Type 0} (f g : ℕ → A) (s t a b n : ℕ) → ((i : ℕ) → i < n → f (a + i * s) ≡ g (b + i * t)) → column f s a n ≡ column g t b n
unfolding column
columns-same f g s t a b zero h = refl
columns-same f g s t a b (suc n) h =
    ap₂ ◌∷◌ (ap f {x = a} {y = a + 0 * s} (omega arith) ∙ h 0 (omega arith) ∙ ap g {x = b + 0 * t} {y = b} (omega arith))
    (columns-same f g s t (a + s) (b + t) n (λ i less.
    ap f {x = a + s + i * s} {y = a + suc i * s} (omega arith) ∙ h (suc i) (omega arith) ∙ ap g {x = b + suc i * t} {y = b + t + i * t} (omega arith)))

pub cells_at : (read : ℕ → ℕ) (nodes rows at r i : ℕ) → r < rows → i < nodes
    → get_or (cells read nodes at rows) (r * nodes + i) 0 ≡ read (at + r * (3 + 5 * nodes) + i * 5)
unfolding cells
cells_at read nodes zero at r i p q = absurd (omega arith)
cells_at read nodes (suc rows) at zero i p q =
    let long = column-length read 5 at nodes in
    ap (λ (j : ℕ). get_or (column read 5 at nodes ++ cells read nodes (at + (3 + 5 * nodes)) rows) j 0) {x = 0 * nodes + i} {y = i} (omega arith)
    ∙ get_or-append (column read 5 at nodes) (cells read nodes (at + (3 + 5 * nodes)) rows) 0 i (omega (arith, long))
    ∙ column-at read 5 0 at nodes i q ∙ ap read {x = at + i * 5} {y = at + 0 * (3 + 5 * nodes) + i * 5} (omega arith)
cells_at read nodes (suc rows) at (suc r) i p q =
    let col = column read 5 at nodes in
    let next = at + (3 + 5 * nodes) in
    let long : length col ≡ nodes = column-length read 5 at nodes in
    let place : suc r * nodes + i ≡ length col + (r * nodes + i) = omega (arith, long) in
    ap (λ (j : ℕ). get_or (col ++ cells read nodes next rows) j 0) place
    ∙ get_or-append-add col (cells read nodes next rows) (r * nodes + i) 0
    ∙ cells_at read nodes rows next r i (omega arith) q
    ∙ ap read {x = next + r * (3 + 5 * nodes) + i * 5} {y = at + suc r * (3 + 5 * nodes) + i * 5} (omega arith)

-- ---- numbers no larger than those that are read

small-append : (most : ℕ) (l m : List ℕ) → ((i : ℕ) → get_or l i 0 ≤ most) → ((i : ℕ) → get_or m i 0 ≤ most) → (i : ℕ) → get_or (l ++ m) i 0 ≤ most
small-append most [] m p q i = q i
small-append most (x ∷ l) m p q zero = p 0
small-append most (x ∷ l) m p q (suc i) = small-append most l m (λ j. p (suc j)) q i

module _ (read : ℕ → ℕ) (most : ℕ) (few : (at : ℕ) → read at ≤ most) where
  pub small-column : (step at n i : ℕ) → get_or (column read step at n) i 0 ≤ most
  unfolding column
  small-column step at zero i = omega arith
  small-column step at (suc n) zero = few at
  small-column step at (suc n) (suc i) = small-column step (at + step) n i

  pub small-cells : (nodes rows at i : ℕ) → get_or (cells read nodes at rows) i 0 ≤ most
  unfolding cells
  small-cells nodes zero at i = omega arith
  small-cells nodes (suc rows) at i =
      small-append most (column read 5 at nodes) (cells read nodes (at + (3 + 5 * nodes)) rows) (small-column 5 at nodes)
      (small-cells nodes rows (at + (3 + 5 * nodes))) i
