-- A sound file says one layout, and a file is broken at one field.
use Rattle.std.specs.Prelude.{◌≡◌, refl, List, ℕ, zero, suc, ◌+◌, ◌*◌, ◌-◌, ◌<◌, ℤ, pos, length, get_or}
use Rattle.std.proofs.Common.{sym, ap, ◌∙◌, arith, ext_get_or}
use Rattle.std.proofs.Math.Decide.{dec_le}
use Rattle.meets.specs.Laws.Words.{first_one}
use Rattle.says.specs.Build.{Given}
use Rattle.says.specs.Files.{two, four, Form, Held, Sound, Broken, GoodField, long, at_field}
use Rattle.says.specs.Form.{fill_bit, Signed, from-0, below-0, Column, Cells, Layout, OfForm, of-1, of-2}

column-one : (payloads : List (List ℕ)) (read : List ℕ → ℕ) (l m : List ℕ) → Column l payloads read → Column m payloads read → l ≡ m
column-one payloads read l m p q =
    ext_get_or 0 l m (p.0 ∙ sym q.0) (λ i less. p.1 i (omega (arith, p.0)) ∙ sym (q.1 i (omega (arith, p.0))))

signed-one : {n : ℕ} {a b : ℤ} → Signed n a → Signed n b → a ≡ b
signed-one (from-0 x) (from-0 y) = refl
signed-one (from-0 x) (below-0 y) = absurd (omega arith)
signed-one (below-0 x) (from-0 y) = absurd (omega arith)
signed-one (below-0 x) (below-0 y) = refl

-- a number of rows and nodes, by its row and its node
record Cell (rows nodes j : ℕ) : Type 0 where
  row : ℕ
  node : ℕ
  row_fits : row < rows
  node-fits : node < nodes
  is : j ≡ row * nodes + node

cell-of : (rows nodes j : ℕ) → j < rows * nodes → Cell rows nodes j
cell-of zero nodes j less = absurd (omega arith)
cell-of (suc rows) nodes j less =
    elim (dec_le (rows * nodes) j) [
      | yes le ↦ record { row = rows; node = j - rows * nodes; row_fits = omega arith; node-fits = omega arith; is = omega arith }
      | no gt ↦
          let c = cell-of rows nodes j (omega arith) in
          record { row = c.row; node = c.node; row_fits = omega (arith, c.row_fits); node-fits = c.node-fits; is = c.is }
    ]

cells-one : (h : Held) (read : List ℕ → ℕ → ℕ) (l m : List ℕ) → Cells l h read → Cells m h read → l ≡ m
cells-one h read l m p q =
    ext_get_or 0 l m (p.0 ∙ sym q.0) (λ j less.
    let c = cell-of (length h.rows) (length h.nodes) j (omega (arith, p.0)) in
    ap (λ (n : ℕ). get_or l n 0) c.is ∙ p.1 c.row c.node c.row_fits c.node-fits
    ∙ sym (q.1 c.row c.node c.row_fits c.node-fits) ∙ ap (λ (n : ℕ). get_or m n 0) (sym c.is))

pub layout-one : {f : Form} {h : Held} {fill : ℕ} {g k : Given} → Layout f h fill g → Layout f h fill k → g ≡ k
layout-one {f} {h} {fill} {g} {k} p q =
    let units = column-one h.banks (λ b. two b 0) g.units k.units p.units q.units in
    let starts = ext_get_or (pos 0) g.starts k.starts (p.starts.0 ∙ sym q.starts.0) (λ b less.
    signed-one (p.starts.1 b (omega (arith, p.starts.0))) (q.starts.1 b (omega (arith, p.starts.0)))) in
    let sizes = column-one h.banks (λ b. four b 10) g.bank_sizes k.bank_sizes p.sizes q.sizes in
    let offsets = column-one h.banks (λ b. four b 14) g.bank_offsets k.bank_offsets p.offsets q.offsets in
    let aligns = column-one h.banks (λ b. four b 18) g.aligns k.aligns p.aligns q.aligns in
    let flags = column-one h.banks (λ b. get_or b 22 0) g.flags k.flags p.flags q.flags in
    let bits = column-one h.banks (fill_bit f) g.fill_bits k.fill_bits p.fill_bits q.fill_bits in
    let kinds = column-one h.nodes (λ n. get_or n 0 0) g.kinds k.kinds p.kinds q.kinds in
    let operands = column-one h.nodes (λ n. four n 1) g.operands k.operands p.operands q.operands in
    let numbers = cells-one h four g.numbers k.numbers p.numbers q.numbers in
    let states = cells-one h (λ r at. get_or r (at + 4) 0) g.states k.states p.states q.states in
    let rows = p.rows ∙ sym q.rows in
    let values = p.values ∙ sym q.values in
    let limit = p.limit ∙ sym q.limit in
    let choice = p.choice ∙ sym q.choice in
    let closed = p.closed ∙ sym q.closed in
    λ i.
    record {
      units = units i;
      starts = starts i;
      bank_sizes = sizes i;
      bank_offsets = offsets i;
      aligns = aligns i;
      flags = flags i;
      fill_bits = bits i;
      kinds = kinds i;
      operands = operands i;
      numbers = numbers i;
      states = states i;
      rows = rows i;
      values = values i;
      limit = limit i;
      fill = choice i;
      closed = closed i;
    }

pub broken-one : {f : Form} {file : List ℕ} {i j : ℕ} → Broken f file i → Broken f file j → i ≡ j
broken-one (long x) (long y) = refl
broken-one (long x) (at_field y n p) = absurd (omega arith)
broken-one (at_field x n p) (long y) = absurd (omega arith)
broken-one {f} {file} (at_field {i} x n p) (at_field {i = j} y m q) = first_one (λ k. GoodField f file k → ⊥) i j p q

pub not-both : {f : Form} {file : List ℕ} {i : ℕ} {h : Held} → Broken f file i → Sound f file h → ⊥
not-both (long x) s = omega (arith, s.short)
not-both {h = h} (at_field x n p) s = n h s

pub form-one : {file : List ℕ} {f k : Form} → OfForm file f → OfForm file k → f ≡ k
form-one (of-1 a) (of-1 b) = refl
form-one (of-1 a) (of-2 b) = absurd (a b)
form-one (of-2 a) (of-1 b) = absurd (b a)
form-one (of-2 a) (of-2 b) = refl
