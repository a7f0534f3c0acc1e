-- The passes of the two layouts come to the same, and so do K and the passes run; a refusal's node is one higher.
use Rattle.std.specs.Prelude.{ℕ, ◌+◌, ◌-◌, ◌≤◌, min, ◌≡◌, refl, Bool, not, List, eqb, ltb, get_or, Result, Ok, Err}
use Rattle.std.proofs.Common.{ap, ◌∙◌, arith}
use Rattle.std.proofs.Math.Path.{fun_ext}
use Rattle.std.proofs.Math.Bool.{true, false}
use Rattle.prelude.specs.Pick.{pick}
use Rattle.prelude.specs.declared.Refusal.TheVariants.{Unresolved}
use Rattle.prelude.specs.declared.Refusal.{Refusal}
use Rattle.bankdef.specs.declared.Bankdefs.{Bankdefs}
use Rattle.nodes.specs.Lists.{Lists, Row, row_at}
use Rattle.resolver.specs.Once.{Program, bank_record, pass_of}
use Rattle.resolver.specs.Passes.{program, row_of_pass, pass_at, unresolved, first, pass_k, last_of, after_k, settled_by, resolution_of}
use Rattle.resolver.specs.declared.Resolution.{Resolution}
use Rattle.thm_conversions.specs.Widened.{shifted, with_switch}
use Rattle.thm_conversions.specs.Cells.{zeroed, Counted}
use Rattle.thm_conversions.specs.Theorems.Cells.{row-zeroed, node-up}
use Rattle.thm_conversions.specs.Laws.Walks.{leading, Leads, shifted_pass, pass-shifts}

abbrev pub shifted_settled : Result ℕ Refusal → Result ℕ Refusal
shifted_settled (Ok k) = Ok k
shifted_settled (Err why) = Err (shifted why)

abbrev pub shifted_resolution : Resolution → Resolution
shifted_resolution r = record { settled = shifted_settled r.settled; passes = r.passes }

-- ---- over any passes

module _ (pass : ℕ → Bool → Result ℕ Refusal) where
  abbrev later : ℕ → Bool → Result ℕ Refusal
  later n is_last = shifted_pass (pass n is_last)

  unresolved-alike : (q : Result ℕ Refusal) → unresolved (shifted_pass q) ≡ unresolved q
  unresolved-alike (Ok s) = refl
  unresolved-alike (Err why) = refl

  k-alike : (m : ℕ) → pass_k later m ≡ pass_k pass m
  k-alike m = ap (λ (test : ℕ → Bool). first test 1 m) (fun_ext (λ n. ap not (unresolved-alike (pass n (eqb n m)))))

  last-shifts : (k : ℕ) (q : Result ℕ Refusal) → last_of k (shifted_pass q) ≡ shifted_settled (last_of k q)
  last-shifts k (Ok s) = go (eqb s 2)
    where
      go : (t : Bool) → pick t (Err Unresolved) (Ok k) ≡ shifted_settled (pick t (Err Unresolved) (Ok k))
      go true = refl
      go false = refl
  last-shifts k (Err why) = refl

  ended : (n : ℕ) {x y : Result ℕ Refusal} → x ≡ y → ◌≡◌ {A = Resolution} (record { settled = x; passes = n }) (record { settled = y; passes = n })
  ended n e = rw e

  after-shifts : (k : ℕ) (q : Result ℕ Refusal) → after_k later k (shifted_pass q) ≡ shifted_resolution (after_k pass k q)
  after-shifts k (Ok s) = ended (k + 1) (last-shifts k (pass (k + 1) true))
  after-shifts k (Err why) = refl

  pub settled-shifts : (m : ℕ) → settled_by later m ≡ shifted_resolution (settled_by pass m)
  unfolding settled_by
  settled-shifts m = rw (k-alike m) (go (eqb m 0) (ltb (pass_k pass m) m))
    where
      go : (s t : Bool)
          → pick s (record { settled = last_of 0 (later 1 true); passes = 1 })
          (pick t (after_k later (pass_k pass m) (later (pass_k pass m) false)) (record { settled = last_of m (later m true); passes = m }))
          ≡ shifted_resolution
          (pick s (record { settled = last_of 0 (pass 1 true); passes = 1 })
          (pick t (after_k pass (pass_k pass m) (pass (pass_k pass m) false)) (record { settled = last_of m (pass m true); passes = m })))
      go true t = ended 1 (last-shifts 0 (pass 1 true))
      go false true = after-shifts (pass_k pass m) (pass (pass_k pass m) false)
      go false false = ended m (last-shifts m (pass m true))

-- ---- over the lists

module _ (banks table : Bankdefs) (l : Lists) (c : Counted l) (some : 1 ≤ l.rows)
    (switches : (i : ℕ) → get_or l.kinds i 0 ≡ 1 → get_or l.operands i 0 ≡ 0)
    (kept : bank_record table 1 ≡ bank_record banks 0) where
  pub leads : Leads (program banks l) table
  leads = record { switches = switches; nodes = node-up l c (row_at l 0).numbers; record-kept = kept }

  pub program-leads : program table (with_switch l) ≡ leading table (program banks l)
  program-leads = ap (λ (r : Row). with_first r.numbers) (row-zeroed l c 0 some)
    where
      with_first : List ℕ → Program
      with_first first = record { banks = table; kinds = (with_switch l).kinds; operands = (with_switch l).operands; first = first }

  pub row-of-pass : (n : ℕ) → row_of_pass (with_switch l) n ≡ zeroed (row_of_pass l n)
  row-of-pass n = row-zeroed l c (min n l.rows - 1) (omega (arith, some))

  passes-shift : (n : ℕ) (is_last : Bool) → pass_at table (with_switch l) n is_last ≡ shifted_pass (pass_at banks l n is_last)
  passes-shift n is_last =
      same program-leads (row-of-pass n) (row-of-pass (n - 1))
      ∙ pass-shifts (program banks l) table leads (row_of_pass l n) (row_of_pass l (n - 1)) (eqb n 1) is_last
    where
      same : {p q : Program} {r s before earlier : Row} → p ≡ q → r ≡ s → before ≡ earlier
          → pass_of p r before (eqb n 1) is_last ≡ pass_of q s earlier (eqb n 1) is_last
      same e f g = rw (e, f, g)

  -- K, the passes run, and a refusal with its node one higher.
  pub resolution-shifts : (m : ℕ) → resolution_of table (with_switch l) m ≡ shifted_resolution (resolution_of banks l m)
  resolution-shifts m =
      ap (λ (pass : ℕ → Bool → Result ℕ Refusal). settled_by pass m) (fun_ext (λ n. fun_ext (λ is_last. passes-shift n is_last)))
      ∙ settled-shifts (pass_at banks l) m
