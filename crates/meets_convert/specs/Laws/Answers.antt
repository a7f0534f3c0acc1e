-- A call's outcome by the tests of the definition, one after the other.
use Rattle.std.specs.Prelude.{◌≡◌, Bool, true, false, List, [], ◌++◌, ◌⊎◌, ltb, eqb, get_or, drop, Result, Ok}
use Rattle.std.proofs.Math.Path.{refl}
use Rattle.std.proofs.Common.{sym, ap, subst, ◌∙◌, arith, length-append, length-drop, get_or-append-add, get_or-drop}
use Rattle.std.proofs.Math.Logic.{inl, inr, ⊎_elim}
use Prim.Native.Nat.{ℕ, zero, suc, ◌+◌, ◌-◌, ◌≤◌, ◌<◌, max}
use Rattle.std.proofs.Math.Decide.{dec_le}
use Rattle.std.proofs.Math.ListN.{length, get_or-append}
use borrow.Author.Tests.{ltb-true, ltb-false, eqb-true, eq-eqb}
use Rattle.prelude.specs.Laws.Bools.{either, clash, unlike}
use Rattle.prelude.specs.Limits.{max_nodes, max_rows}
use Rattle.prelude.specs.Pick.{pick}
use Rattle.prelude.specs.declared.Refusal.TheVariants.{Malformed}
use Rattle.prelude.specs.declared.Refusal.{Refusal}
use Rattle.bankdef.specs.Search.{first_where}
use Rattle.bankdef.specs.Laws.Search.{not-before, first_passes}
use Rattle.form_fields.specs.Contents as made
use Rattle.form_fields.specs.Contents.{Contents, written}
use Rattle.form_convert.specs.Convert.{stray, answer_of, answer_for, out_after, drops_none}
use Rattle.form_rewrite.specs.Turning.{strays, alone, drops_bit}
use Rattle.thm_conversions.specs.Theorems.Exactly.{drops-bit-exactly}
use Rattle.c_answers.specs.Counts.{conversion_count}
use Rattle.says.specs.Words as words
use Rattle.says.specs.Words.{Tries, First, Begins}
use Rattle.says.specs.Files as files
use Rattle.says.specs.Files.{Held, Form, form-1, form-2, longest, bytes}
use Rattle.meets_form.specs.Laws.Written.{kind, held, so-fits, bytes_same, longest-same}
use Rattle.says.specs.Convert as says
use Rattle.says.specs.Convert.{Outcome, NamesOther, refusal, Writes, Tried}
use Rattle.meets_convert.specs.Laws.Turns.{strays-of, of-strays, other}

-- text in front of what was there
pub begins-so : (new old : List ℕ) → length new ≤ length old → Begins new old (new ++ drop (length new) old)
begins-so new old h =
    record {
      as_long = omega (arith, length-append new (drop (length new) old), length-drop (length new) old);
      front = λ i less. get_or-append new (drop (length new) old) 0 i less;
      kept = λ i le.
          ap (λ (n : ℕ). get_or (new ++ drop (length new) old) n 0) {x = i} {y = length new + (i - length new)} (omega arith)
          ∙ get_or-append-add new (drop (length new) old) (i - length new) 0 ∙ get_or-drop (length new) old (i - length new) 0
          ∙ ap (λ (n : ℕ). get_or old n 0) {x = length new + (i - length new)} {y = i} (omega arith);
    }

-- one test
step : {X : Type 0} (Met : X → Type 0) (refuse : X → Outcome) (Then : Outcome → Type 0) (tell : Result ℕ Refusal → Outcome) (t : Bool)
    (this rest : Result ℕ Refusal) (x : X)
    → tell this ≡ refuse x → (t ≡ true → Met x) → (t ≡ false → (z : X) → Met z → ⊥) → (t ≡ false → Then (tell rest))
    → Tries Met refuse Then (tell (pick t this rest))
step Met refuse Then tell true this rest x e met none then = subst (Tries Met refuse Then) (sym e) (words.refused x (met refl))
step Met refuse Then tell false this rest x e met none then = words.passed (none refl) (then refl)

-- the fill bits
abbrev pub drops_of : Form → Contents → Bool
drops_of form-1 = drops_none
drops_of form-2 = drops_bit

-- the way back would drop a fill bit of one
abbrev pub Drops : Held → Form → Type 0
Drops h f = (f ≡ form-2) × ((b : ℕ) × (b < length h.banks) × (get_or (get_or h.banks b []) 23 0 ≡ 1))

pub drops-so : (f : Form) (c : Contents) → made.Fits (kind f) c → drops_of f c ≡ true → Drops (held c) f
drops-so form-1 c fits e = absurd (clash e refl)
drops-so form-2 c fits e =
    let p = (drops-bit-exactly c).0 e in
    let few = last (get_or c.banks p.0 []) ((so-fits form-2 c fits).banks p.0 p.1) in
    (refl, (p.0, p.1, at_most_one (get_or (get_or c.banks p.0 []) 23 0) few p.2))
  where
    last : (p : List ℕ) → files.Bank p form-2 → get_or p 23 0 ≤ 1
    last p (files.of-2 l a b) = b

    at_most_one : (n : ℕ) → n ≤ 1 → (n ≡ 0 → ⊥) → n ≡ 1
    at_most_one zero h z = absurd (z refl)
    at_most_one (suc n) h z = omega arith

pub so-drops : (f : Form) (c : Contents) → Drops (held c) f → drops_of f c ≡ true
so-drops form-1 c (f, x) = unlike cc
so-drops form-2 c (f, (b, less, e)) = (drops-bit-exactly c).1 (b, less, λ z. omega (arith, z, e))

module _ (f : Form) (file old : List ℕ) (c d : Contents) (fits : made.Fits (kind f) c) where
  abbrev result : List ℕ
  result = written (kind (other f)) d

  abbrev pub outcome_of : Result ℕ Refusal → Outcome
  outcome_of a = record { answer = conversion_count a; out = out_after a result old }

  result-is : result ≡ bytes (other f) (held d)
  result-is = bytes_same (other f) (held d)

  long-is : length result ≡ length (bytes (other f) (held d))
  long-is = ap length result-is

  -- the first node that names another bank
  stray-is : alone c ≡ true → stray c ≡ first_where (strays 0) c.nodes
  stray-is a = ap (λ (b : Bool). pick b (first_where (strays 0) c.nodes) (length c.nodes)) a

  stray-first : ltb (stray c) (length c.nodes) ≡ true → First (NamesOther (held c)) (stray c)
  stray-first t =
      either (alone c)
      (λ a.
      let e = stray-is a in
      let less : stray c < length c.nodes = ltb-true (stray c) (length c.nodes) t in
      let there : first_where (strays 0) c.nodes < length c.nodes = omega (arith, e, less) in
      let s = strays-of (get_or c.nodes (first_where (strays 0) c.nodes) []) (first_passes (strays 0) [] c.nodes there) in
      subst (First (NamesOther (held c))) (sym e) (record {
        so = (eqb-true (length c.banks) 1 a, there, s.0, s.1);
        none_below = λ k x. not-before (strays 0) [] c.nodes k x.1 (of-strays (get_or c.nodes k []) (x.2, x.3));
      }))
      (λ a.
      let e : stray c ≡ length c.nodes = ap (λ (b : Bool). pick b (first_where (strays 0) c.nodes) (length c.nodes)) a in
      absurd (omega (arith, e, ltb-true (stray c) (length c.nodes) t)))

  stray-none : ltb (stray c) (length c.nodes) ≡ false → (i : ℕ) → First (NamesOther (held c)) i → ⊥
  stray-none t i x =
      let y = x.so in
      let e = stray-is (eq-eqb (length c.banks) 1 y.0) in
      let first = not-before (strays 0) [] c.nodes i y.1 (of-strays (get_or c.nodes i []) (y.2, y.3)) in
      omega (arith, e, first, y.1, ltb-false (stray c) (length c.nodes) t)

  wrote : ltb (length old) (length result) ≡ false → Writes f file old (bytes (other f) (held d)) (outcome_of (Ok (length result)))
  wrote t =
      subst (λ (l : List ℕ). Writes f file old l (outcome_of (Ok (length result)))) result-is
      (says.writes (begins-so result old (ltb-false (length old) (length result) t)))

  pub answer-meets : Tried f file old (other f) (held c) (held d) (outcome_of (answer_for (kind (other f)) c d (drops_of f c) (length old)))
  unfolding answer_of
  answer-meets =
      let most = max (length c.nodes) (length d.nodes) in
      let to = kind (other f) in
      let same = longest-same (other f) in
      step _ (λ (_ : Unit {0}). refusal f file old 4 0) _ outcome_of (ltb max_nodes most) _ _ tt refl
      (λ t. let h = ltb-true max_nodes most t in
      elim (dec_le (length c.nodes) 4096) [ yes le ↦ inr (omega arith) | no gt ↦ inl (omega arith) ])
      (λ t _ x. let h = ltb-false max_nodes most t in ⊎_elim (λ (p : 4096 < length c.nodes). omega arith) (λ (p : 4096 < length d.nodes). omega arith) x)
      (λ _.
      step _ (λ (_ : Unit {0}). refusal f file old 4 1) _ outcome_of (ltb max_rows (length c.rows)) _ _ tt refl
      (λ t. ltb-true max_rows (length c.rows) t) (λ t _ x. omega (arith, x, ltb-false max_rows (length c.rows) t))
      (λ _.
      step (First (NamesOther (held c))) (λ i. refusal f file old 4 i) _ outcome_of (ltb (stray c) (length c.nodes)) _ _ (stray c) refl
      stray-first stray-none
      (λ _.
      step _ (λ (_ : Unit {0}). refusal f file old 4 0) _ outcome_of (ltb to.longest (length result)) _ _ tt refl
      (λ t. omega (arith, same, long-is, ltb-true to.longest (length result) t))
      (λ t _ x. omega (arith, same, long-is, x, ltb-false to.longest (length result) t))
      (λ _.
      step _ (λ (_ : Unit {0}). refusal f file old 18 0) _ outcome_of (drops_of f c) _ _ tt refl
      (drops-so f c fits) (λ t _ x. clash (so-drops f c x) t)
      (λ _.
      step _ (λ (_ : Unit {0}). refusal f file old 14 0) _ outcome_of (ltb (length old) (length result)) _ _ tt refl
      (λ t. omega (arith, long-is, ltb-true (length old) (length result) t))
      (λ t _ x. omega (arith, long-is, x, ltb-false (length old) (length result) t))
      wrote)))))
