-- Laws that Theorems/Says rests on.
use mathlib.Core.List.{List, [], ◌∷◌, ◌++◌}
use Rattle.std.specs.Prelude.{◌≡◌, ltb, length, take}
use Rattle.std.proofs.Math.Path.{refl, ap₂}
use Rattle.std.proofs.Common.{sym, ap, ◌∙◌, add-zero, arith, to_z}
use Prim.Native.Nat.{ℕ, zero, suc, ◌+◌, ◌*◌, ◌≤◌, ◌<◌}
use Rattle.std.specs.Int.{w64}
use Rattle.prelude.specs.Pick.{pick}
use Rattle.form_fields.specs.declared.Kind.{Kind}
use Rattle.form_fields.specs.Words.{byte, word16, word32, word64}
use Rattle.form_fields.specs.Kind.{Known, is1, is2}
use Rattle.form_fields.specs.Laws.Kind.{known-bank}
use Rattle.form_fields.specs.Columns.{column}
use Rattle.form_fields.specs.Banks.{is_set, opt_of, bank_at, bank_of}
use Rattle.form_fields.specs.Lists.{cells}
use Rattle.form_fields.specs.Contents.{field, flat, Each, Long, BankFits}
use Rattle.form_fields.specs.Has.{Has}
use Rattle.form_fields.proofs.Has.{has_left, has_right, field-payload}
use Rattle.form_fields.proofs.Parts.{has-at, field-long}

-- ---- numbers inside a part of a file

module _ (file part : List ℕ) (p : ℕ) (h : Has file p part) where
  pub byte-in : (i q : ℕ) → q ≡ p + i → i < length part → byte file q ≡ byte part i
  byte-in i q e less = ap (byte file) e ∙ has-at file part p i less h

  pub word16-in : (i q : ℕ) → q ≡ p + i → i + 2 ≤ length part → word16 file q ≡ word16 part i
  unfolding word16
  word16-in i q e less =
      ap₂ (λ (x y : ℕ). x * 256 + y) (byte-in i q e (omega (arith, less))) (byte-in (i + 1) (q + 1) (omega (arith, e)) (omega (arith, less)))

  pub word32-in : (i q : ℕ) → q ≡ p + i → i + 4 ≤ length part → word32 file q ≡ word32 part i
  unfolding word32
  word32-in i q e less =
      ap₂ (λ (x y : ℕ). x * 65536 + y) (word16-in i q e (omega (arith, less))) (word16-in (i + 2) (q + 2) (omega (arith, e)) (omega (arith, less)))

  pub word64-in : (i q : ℕ) → q ≡ p + i → i + 8 ≤ length part → word64 file q ≡ word64 part i
  unfolding word64
  word64-in i q e less =
      ap₂ (λ (x y : ℕ). x * 4294967296 + y) (word32-in i q e (omega (arith, less)))
      (word32-in (i + 4) (q + 4) (omega (arith, e)) (omega (arith, less)))

-- two payloads that have the same bytes but the fill bit's, and the same fill bit
pub record Alike (k m : Kind) (b d : List ℕ) : Type 0 where
  pub unit : word16 b 0 ≡ word16 d 0
  pub start : word64 b 2 ≡ word64 d 2
  pub size : word32 b 10 ≡ word32 d 10
  pub offset : word32 b 14 ≡ word32 d 14
  pub align : word32 b 18 ≡ word32 d 18
  pub flags : byte b 22 ≡ byte d 22
  pub bit : pick (ltb 23 k.bank) (byte b 23) 0 ≡ pick (ltb 23 m.bank) (byte d 23) 0

pub alike-banks : (k m : Kind) (b d : List ℕ) → Alike k m b d → bank_of k b ≡ bank_of m d
unfolding bank_of
alike-banks k m b d a =
    λ i.
    record {
      unit = a.unit i;
      start = to_z w64 (a.start i);
      size = opt_of (a.flags i) 1 (a.size i);
      offset = opt_of (a.flags i) 2 (a.offset i);
      align = opt_of (a.flags i) 4 (a.align i);
      fill = is_set (a.flags i) 8;
      fill_bit = a.bit i;
    }

-- ---- what is read where it stands

bit-read : {k : Kind} → Known k → (file b : List ℕ) (at : ℕ) → Long k.bank b → Has file (at + 3) b
    → pick (ltb 23 k.bank) (byte file (at + 26)) 0 ≡ pick (ltb 23 k.bank) (byte b 23) 0
bit-read is1 file b at e h = refl
bit-read is2 file b at e h = byte-in file b (at + 3) h 23 (at + 26) (omega arith) (omega (arith, e))

pub bank-read : {k : Kind} → Known k → (file b : List ℕ) → BankFits k b → (at : ℕ) → Has file at (field k.tag b) → bank_at k file (at + 0) ≡ bank_of k b
unfolding bank_at bank_of
bank-read {k} known file b fits at g =
    let h = field-payload k.tag b g in
    let long : 23 ≤ length b = omega (arith, fits.0, (known-bank known).0) in
    let flags = byte-in file b (at + 3) h 22 (at + 0 + 25) (omega arith) (omega (arith, long)) in
    let unit = word16-in file b (at + 3) h 0 (at + 0 + 3) (omega arith) (omega (arith, long)) in
    let start = word64-in file b (at + 3) h 2 (at + 0 + 5) (omega arith) (omega (arith, long)) in
    let size = word32-in file b (at + 3) h 10 (at + 0 + 13) (omega arith) (omega (arith, long)) in
    let offset = word32-in file b (at + 3) h 14 (at + 0 + 17) (omega arith) (omega (arith, long)) in
    let align = word32-in file b (at + 3) h 18 (at + 0 + 21) (omega arith) (omega (arith, long)) in
    let bit = ap (λ (a : ℕ). pick (ltb 23 k.bank) (byte file (a + 26)) 0) (add-zero at) ∙ bit-read known file b at fits.0 h in
    λ i.
    record {
      unit = unit i;
      start = to_z w64 (start i);
      size = opt_of (flags i) 1 (size i);
      offset = opt_of (flags i) 2 (offset i);
      align = opt_of (flags i) 4 (align i);
      fill = is_set (flags i) 8;
      fill_bit = bit i;
    }

-- the first of a column
pub column-front : {A : Type 0} (read : ℕ → A) (step at j n : ℕ) → j ≤ n → column read step at j ≡ take j (column read step at n)
unfolding column
column-front read step at zero n h = refl
column-front read step at (suc j) zero h = absurd (omega (arith, h))
column-front read step at (suc j) (suc n) h = ap (λ (l : List _). read at ∷ l) (column-front read step (at + step) j n (omega (arith, h)))

-- What reads w bytes reads the same inside a part.
abbrev pub ReadsIn : (List ℕ → ℕ → ℕ) → ℕ → Type 0
ReadsIn read w = (file part : List ℕ) (p : ℕ) → Has file p part → (i q : ℕ) → q ≡ p + i → i + w ≤ length part → read file q ≡ read part i

pub byte_reads : ReadsIn (λ (l : List ℕ) (i : ℕ). byte l i) 1
byte_reads file part p h i q e less = byte-in file part p h i q e (omega (arith, less))

pub word32-reads : ReadsIn word32 4
word32-reads file part p h i q e less = word32-in file part p h i q e less

module _ (read : List ℕ → ℕ → ℕ) (w : ℕ) (reads : ReadsIn read w) where
  pub column-in : (file part : List ℕ) (p : ℕ) → Has file p part → (n i q : ℕ) → q ≡ p + i → i + w + 5 * n ≤ 5 + length part
      → column (read file) 5 q n ≡ column (read part) 5 i n
  unfolding column
  column-in file part p h zero i q e less = refl
  column-in file part p h (suc n) i q e less =
      ap₂ ◌∷◌ (reads file part p h i q e (omega (arith, less)))
      (column-in file part p h n (i + 5) (q + 5) (omega (arith, e)) (omega (arith, less)))

  -- row by row
  pub cells_in : (file : List ℕ) (n off : ℕ) → off + w ≤ 5 → (rows : List (List ℕ)) → Each (Long (5 * n)) rows → (at q : ℕ) → q ≡ at + 3 + off
      → Has file at (flat (field 3) rows) → cells (read file) n q (length rows) ≡ flat (λ (row : List ℕ). column (read row) 5 off n) rows
  unfolding cells flat
  cells_in file n off small [] e at q eq h = refl
  cells_in file n off small (row ∷ rows) e at q eq h =
      let first = has_left (field 3 row) (flat (field 3) rows) h in
      let step = field-long 3 (5 * n) row e.0 in
      let next = has_right (field 3 row) (flat (field 3) rows) (at + (3 + 5 * n)) (ap (λ (m : ℕ). at + m) (sym step)) h in
      ap₂ ◌++◌
      (column-in file row (at + 3) (field-payload 3 row first) n off q eq (omega (arith, small, e.0)))
      (cells_in file n off small rows e.1 (at + (3 + 5 * n)) (q + (3 + 5 * n)) (omega (arith, eq)) next)
