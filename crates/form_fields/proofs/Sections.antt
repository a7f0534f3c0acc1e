-- Laws that proofs about Sections need.
use Rattle.std.specs.Prelude.{true, List, [], ◌∷◌, ◌++◌, ◌≡◌, ℕ, ◌+◌, ◌*◌}
use Rattle.std.proofs.Common.{append-nil, sym, ◌∙◌, arith, eq-eqb}
use Rattle.std.proofs.Math.Path.{refl, ap, ap₂}
use Rattle.std.proofs.Math.ListN.{length}
use Rattle.form_fields.specs.declared.Kind.{Kind}
use Rattle.form_fields.specs.Words.{byte}
use Rattle.form_fields.specs.Fields.{sound_at, run}
use Rattle.form_fields.specs.Theorems.Fields.{run-stop}
use Rattle.form_fields.specs.Kind.{Known, is1, is2, begins2, headed}
use Rattle.form_fields.specs.Laws.Kind.{known-apart}
use Rattle.form_fields.specs.Shape.{bank_count_in, nodes_start_in, node_count_in, rows_start_in, row_count_in, values_start_in}
use Rattle.form_fields.specs.Contents.{bytes16, field, flat, Contents, head_bytes, Long, BankFits}
use Rattle.form_fields.specs.Has.{Has}
use Rattle.form_fields.proofs.Has.{has_left, has_right, has-byte, field-payload, field-there}
use Rattle.form_fields.proofs.Parts.{field-long, bank-sound, node-sound, row-sound}
use Rattle.form_fields.proofs.Written.{Other, no_run, flat-skip, run_of}
use Rattle.form_fields.specs.Sections.{Begins, Stops}

pub bank-long : (k : Kind) (b : List ℕ) → BankFits k b → length (field k.tag b) ≡ 3 + k.bank
bank-long k b e = field-long k.tag k.bank b e.0

rows_other : (row : List ℕ) (rows : List (List ℕ)) (rest : List ℕ) (tag : ℕ) → (tag ≡ 3 → ⊥) → Other tag (flat (field 3) (row ∷ rows) ++ rest)
unfolding flat field
rows_other row rows rest tag h = record { first = 3; tail = _; is = refl; apart = h }

nodes-other : (n : List ℕ) (nodes : List (List ℕ)) (rest : List ℕ) (tag : ℕ) → (tag ≡ 2 → ⊥) → Other tag (flat (field 2) (n ∷ nodes) ++ rest)
unfolding flat field
nodes-other n nodes rest tag h = record { first = 2; tail = _; is = refl; apart = h }

flat-none : {X : Type 0} (write : X → List ℕ) (rest : List ℕ) → flat write [] ++ rest ≡ rest
unfolding flat
flat-none write rest = refl

module _ {k : Kind} (known : Known k) (file : List ℕ) (rest : List ℕ) where
  -- no bank behind the banks
  no-bank-at : (nodes rows : List (List ℕ)) (at end : ℕ) → (nodes ≡ [] → rows ≡ [] → end ≡ at)
      → Has file at (flat (field 2) nodes ++ (flat (field 3) rows ++ rest)) → Stops k file nodes rows end → run file k.tag k.bank at ≡ 0
  no-bank-at [] [] at end e h stops =
      run-stop file k.tag k.bank at (ap (sound_at file k.tag k.bank) (sym (e refl refl)) ∙ stops.no-bank refl refl)
  no-bank-at [] (row ∷ rows) at end e h stops =
      no_run file k.tag k.bank at (flat (field 3) (row ∷ rows) ++ rest)
      (rows_other row rows rest k.tag (known-apart known 3 (omega arith) (omega arith)))
      (rw (flat-none (field 2) (flat (field 3) (row ∷ rows) ++ rest)) at h)
  no-bank-at (n ∷ nodes) rows at end e h stops =
      no_run file k.tag k.bank at (flat (field 2) (n ∷ nodes) ++ (flat (field 3) rows ++ rest))
      (nodes-other n nodes (flat (field 3) rows ++ rest) k.tag (known-apart known 2 (omega arith) (omega arith))) h

  -- no node behind the nodes
  no-node-at : (nodes rows : List (List ℕ)) (at end : ℕ) → (rows ≡ [] → end ≡ at)
      → Has file at (flat (field 3) rows ++ rest) → Stops k file nodes rows end → run file 2 5 at ≡ 0
  no-node-at nodes [] at end e h stops = run-stop file 2 5 at (ap (sound_at file 2 5) (sym (e refl)) ∙ stops.no-node refl)
  no-node-at nodes (row ∷ rows) at end e h stops =
      no_run file 2 5 at (flat (field 3) (row ∷ rows) ++ rest) (rows_other row rows rest 2 (λ f. omega (arith, f))) h

-- Where the sections of some contents stand.
module _ (k : Kind) (c : Contents) where
  abbrev pub nodes_at : ℕ
  nodes_at = k.heads * 4 + length c.banks * (3 + k.bank)

  abbrev pub rows_at : ℕ
  rows_at = nodes_at + length c.nodes * 8

  abbrev pub values_at : ℕ
  values_at = rows_at + length c.rows * (3 + 5 * length c.nodes)

pub head-length : {k : Kind} → Known k → length (head_bytes k) ≡ k.heads * 4
unfolding field bytes16
head-length is1 = refl
head-length is2 = refl

-- a file that begins with the head of form 2
pub begins-head : (file rest : List ℕ) → file ≡ field 16 (2 ∷ []) ++ rest → begins2 file ≡ true
unfolding begins2
begins-head file rest e =
    let h : Has file 0 (field 16 (2 ∷ [])) = record { rest = rest; is = e } in
    rw (field-there 16 (2 ∷ []) h, eq-eqb (byte file 3) 2 (has-byte 2 [] (field-payload 16 (2 ∷ []) h))) refl

pub begins-headed : {k : Kind} → Known k → (file rest : List ℕ) → file ≡ head_bytes k ++ rest → headed k file ≡ true
begins-headed is1 file rest e = refl
begins-headed is2 file rest e = begins-head file rest e

module _ {k : Kind} (known : Known k) (file : List ℕ) (c : Contents) (rest : List ℕ) (begins : Begins k file c rest) where
  pub has-head : headed k file ≡ true
  has-head = begins-headed known file (flat (field k.tag) c.banks ++ (flat (field 2) c.nodes ++ (flat (field 3) c.rows ++ rest))) begins.is

  pub from-banks : Has file (k.heads * 4) (flat (field k.tag) c.banks ++ (flat (field 2) c.nodes ++ (flat (field 3) c.rows ++ rest)))
  from-banks =
      has_right {at = 0} (head_bytes k) (flat (field k.tag) c.banks ++ (flat (field 2) c.nodes ++ (flat (field 3) c.rows ++ rest))) (k.heads * 4)
      (omega (arith, head-length known)) (record { rest = []; is = begins.is ∙ sym (append-nil _) })

  pub from-nodes : Has file (nodes_at k c) (flat (field 2) c.nodes ++ (flat (field 3) c.rows ++ rest))
  from-nodes =
      flat-skip file (field k.tag) (BankFits k) (3 + k.bank) (bank-long k) c.banks begins.fits.of-banks (k.heads * 4) (nodes_at k c) _ refl
      from-banks

  pub from-rows : Has file (rows_at k c) (flat (field 3) c.rows ++ rest)
  from-rows =
      flat-skip file (field 2) (Long 5) 8 (field-long 2 5) c.nodes begins.fits.of-nodes (nodes_at k c) (rows_at k c) _ refl from-nodes

  pub from-values : Has file (values_at k c) rest
  from-values =
      flat-skip file (field 3) (Long (5 * length c.nodes)) (3 + 5 * length c.nodes) (field-long 3 (5 * length c.nodes)) c.rows
      begins.fits.of-rows (rows_at k c) (values_at k c) _ refl from-rows

  no_rows : c.rows ≡ [] → length c.rows * (3 + 5 * length c.nodes) ≡ 0
  no_rows e = ap (λ (r : List (List ℕ)). length r * (3 + 5 * length c.nodes)) e ∙ omega arith

  -- ---- how many of each there are

  module _ (stops : Stops k file c.nodes c.rows (values_at k c)) where
    pub banks-are : bank_count_in k file ≡ length c.banks
    unfolding bank_count_in
    banks-are =
        let whole = run_of file (field k.tag) (BankFits k) (3 + k.bank) (bank-long k) k.tag k.bank refl (bank-sound file known) c.banks
        begins.fits.of-banks (k.heads * 4) (has_left (flat (field k.tag) c.banks) _ from-banks) in
        let none =
        no-bank-at known file rest c.nodes c.rows (nodes_at k c) (values_at k c)
        (λ e f. omega (arith, ap length e, no_rows f)) from-nodes stops in
        omega (arith, whole, none)

    pub nodes-start : nodes_start_in k file ≡ nodes_at k c
    unfolding nodes_start_in
    nodes-start = ap (λ (n : ℕ). k.heads * 4 + n * (3 + k.bank)) banks-are

    pub nodes-are : node_count_in k file ≡ length c.nodes
    unfolding node_count_in
    nodes-are =
        let whole = run_of file (field 2) (Long 5) 8 (field-long 2 5) 2 5 refl (node-sound file) c.nodes begins.fits.of-nodes (nodes_at k c) (has_left
        (flat (field 2) c.nodes) _ from-nodes) in
        let none = no-node-at known file rest c.nodes c.rows (rows_at k c) (values_at k c) (λ e. omega (arith, no_rows e)) from-rows stops in
        omega (arith, ap (run file 2 5) nodes-start, whole, none)

    pub rows_start : rows_start_in k file ≡ rows_at k c
    unfolding rows_start_in
    rows_start = ap₂ (λ (a n : ℕ). a + n * 8) nodes-start nodes-are

    pub rows_are : row_count_in k file ≡ length c.rows
    unfolding row_count_in
    rows_are =
        let n = length c.nodes in
        let whole = run_of file (field 3) (Long (5 * n)) (3 + 5 * n) (field-long 3 (5 * n)) 3 (5 * n) refl (row-sound file n) c.rows begins.fits.of-rows
        (rows_at k c) (has_left (flat (field 3) c.rows) _ from-rows) in
        let none = run-stop file 3 (5 * n) (values_at k c) stops.no_row in
        ap₂ (λ (m a : ℕ). run file 3 (5 * m) a) nodes-are rows_start ∙ omega (arith, whole, none)

    pub values-start : values_start_in k file ≡ values_at k c
    unfolding values_start_in
    values-start =
        ap₂ (λ (a r : ℕ). a + r * (3 + 5 * node_count_in k file)) rows_start rows_are
        ∙ ap (λ (n : ℕ). rows_at k c + length c.rows * (3 + 5 * n)) nodes-are
