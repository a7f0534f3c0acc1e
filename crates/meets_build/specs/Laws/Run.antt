-- The passes of a layout that has passed its checks: which run, which is the last, K, and what refuses them, as the sentences say. A layout that the
-- library's passes refuse is laid out by the sentences with that refusal; of one that they accept, the last pass has run and is not unresolved.
use Rattle.std.specs.Prelude.{◌≡◌, refl, Bool, true, false, ℕ, ◌+◌, ◌-◌, ◌≤◌, ◌<◌, max, eqb, Result, Ok, Err}
use Rattle.std.proofs.Common.{sym, ap, subst, ◌∙◌, arith, add-one, eqb-true}
use Rattle.std.proofs.lemmas.Bool.{eqb-false}
use Rattle.prelude.specs.Laws.Bools.{either, clash, unlike}
use Rattle.prelude.specs.Refusals.{number_of, place_of}
use Rattle.prelude.specs.declared.Place.TheVariants.{One}
use Rattle.prelude.specs.declared.Refusal.{Refusal}
use Rattle.prelude.specs.declared.Refusal.TheVariants.{Unresolved as EndedUnresolved}
use Rattle.bankdef.specs.declared.Bankdefs.{Bankdefs}
use Rattle.resolver.proofs.Ends as end
use Rattle.resolver.specs.Ends as end-words
use Rattle.resolver.specs.Ends.{Unsettled, RunsBefore, RunsLast, SettlesBelow}
use Rattle.resolver.proofs.Ends.{Ending, ends, settled-below, settled-limit}
use Rattle.resolver.specs.Theorems.LabelStates.{before-ran}
use Rattle.resolver.specs.Layout.{Checked}
use Rattle.resolver.specs.Theorems.NodeOrder.{ran-to-end, first-met}
use Rattle.resolver.specs.Passes.{row_of_pass, pass_at, unresolved, last_of, settled_by}
use Rattle.resolver.specs.declared.Resolution.{Resolution}
use Rattle.says.specs.Words.{First}
use Rattle.says.specs.Build as says
use Rattle.says.specs.Build.{Given, Lent, nodes, Reads, Unresolved, Stops, Stopped, RunsThrough, UnresolvedBefore, LastPass, Laid, refusal}
use Rattle.meets_build.specs.Laws.Shown.{Shown, listed, walked}
use Rattle.meets_build.specs.Laws.Stops.{row_for, reads-row, runs-meets, stops-meets}
use Rattle.meets_build.specs.Laws.States.{Passes, past_all, unresolved-when, unresolved-only}

two-of : (x : Result ℕ Refusal) → unresolved x ≡ true → x ≡ Ok 2
two-of (Ok s) e = ap Ok (eqb-true s 2 e)
two-of (Err why) e = absurd (clash e refl)

module _ (g : Given) (banks : Bankdefs) (shown : Shown g banks) (c : Checked banks (listed g) g.fill) where
  abbrev pass : ℕ → Bool → Result ℕ Refusal
  pass = pass_at banks (listed g)

  abbrev m : ℕ
  m = g.limit

  -- a pass that ends has gone past every node
  ended : (n : ℕ) (last : Bool) (s : ℕ) → pass n last ≡ Ok s → Passes g banks shown c n last
  ended n last s e = ran-to-end (walked g banks) (row_of_pass (listed g) n) (row_of_pass (listed g) (n - 1)) (eqb n 1) last s e

  ended-runs : (n : ℕ) → 1 ≤ n → (last : Bool) (s : ℕ) → pass n last ≡ Ok s → RunsThrough g n last
  ended-runs n h last s e = runs-meets g banks shown c n h last (ended n last s e)

  before_of : (n : ℕ) → Unsettled pass n → 2 ≤ n → Passes g banks shown c (n - 1) false
  before_of n u h = ended (n - 1) false 2 (two-of (pass (n - 1) false) (u (n - 1) (omega arith) (omega arith)))

  -- "passes 1, 2, .. run until one is not unresolved"
  pub goes_on : (n : ℕ) → Unsettled pass n → UnresolvedBefore g n
  goes_on n u j low high =
      let e = two-of (pass j false) (u j low high) in
      let before : Unsettled pass j = λ k l l'. u k l (omega arith) in
      (ended-runs j low false 2 e, unresolved-when g banks shown c j low false 2 e (before_of j before) refl)

  -- a pass that ends with another state than 2 is not unresolved
  settles-says : (n : ℕ) → 1 ≤ n → (last : Bool) (s : ℕ) → pass n last ≡ Ok s → (2 ≤ n → Passes g banks shown c (n - 1) false) → eqb s 2 ≡ false
      → Unresolved g n → ⊥
  settles-says n h last s e prior other u = eqb-false s 2 other (unresolved-only g banks shown c n h last s e prior u)

  after-meets : (k : ℕ) → SettlesBelow pass m k → LastPass g k (k + 1)
  after-meets k s =
      let w = s.settles in
      subst (LastPass g k) (sym (add-one k))
      (says.below s.runs.counted s.runs.below (goes_on k s.runs.unsettled) (ended-runs k s.runs.counted false w.0 w.1)
      (settles-says k s.runs.counted false w.0 w.1 (before_of k s.runs.unsettled) w.2))

  limit-meets : (n : ℕ) → n ≡ max 1 m → Unsettled pass n → LastPass g m n
  limit-meets n e u =
      either (eqb m 0)
      (λ t.
      let z : m ≡ 0 = eqb-true m 0 t in
      let one : n ≡ 1 = omega arith in
      subst (λ (x : ℕ). LastPass g x n) (sym z) (subst (LastPass g 0) (sym one) (says.limit-zero z)))
      (λ t.
      let some = eqb-false m 0 t in
      let same : n ≡ m = omega arith in
      subst (LastPass g m) (sym same) (says.at-limit (omega arith) (goes_on m (subst (Unsettled pass) same u))))

  -- The last pass, and K: and what that pass comes to is what the layout comes to.
  pub last_meets : (n : ℕ) → RunsLast pass m n → (k : ℕ) × LastPass g k n × (settled_by pass m ≡ record { settled = last_of k (pass n true); passes = n })
  last_meets n (end-words.after k s e) = (k, subst (LastPass g k) (sym e) (after-meets k s), rw e (settled-below pass m k s))
  last_meets n (end-words.at_limit e u) = (m, limit-meets n e u, settled-limit pass m n e u)

  last-counted : (n : ℕ) → RunsLast pass m n → 1 ≤ n
  last-counted n (end-words.after k s e) = omega arith
  last-counted n (end-words.at_limit e u) = omega arith

  before_last : (n : ℕ) → RunsLast pass m n → 2 ≤ n → Passes g banks shown c (n - 1) false
  before_last n x h = before-ran banks (listed g) m n true h x

  -- What ends the passes, where something does, after n of them: a node of a pass that is not the last or of the last one, or that the last one ends
  -- unresolved.
  pub data Halts (why : Refusal) (n : ℕ) : Type 0 where
    early : {i : ℕ} → 1 ≤ n → n < g.limit → UnresolvedBefore g n → First (Stopped g n false) i → Stops g n false i (number_of why)
        → place_of why ≡ One i → Halts why n
    at_last : {k i : ℕ} → LastPass g k n → First (Stopped g n true) i → Stops g n true i (number_of why) → place_of why ≡ One i → Halts why n
    unsettled : {k : ℕ} → LastPass g k n → RunsThrough g n true → Unresolved g n → why ≡ EndedUnresolved → Halts why n

  module _ (old : Lent) where
    -- The refusal of a layout, in the sentences: "Then each pass in node order meets 5, 6 and 7, and 8 at its end."
    abbrev pub RefusedSo : Refusal → ℕ → Type 0
    RefusedSo why n = (i : ℕ) × (place_of why ≡ One i) × Laid g old (refusal g old (number_of why) i 0 n)

    -- and of one that is accepted with K = k after n passes
    pub record SettledSo (k n : ℕ) : Type 0 where
      pub last : LastPass g k n
      pub runs : RunsThrough g n true
      pub not-unresolved : Unresolved g n → ⊥
      pub counted : 1 ≤ n
      pub past : Passes g banks shown c n true

    abbrev Meets : Resolution → Type 0
    Meets r = ((why : Refusal) → r.settled ≡ Err why → Halts why r.passes) × ((k : ℕ) → r.settled ≡ Ok k → SettledSo k r.passes)

    refused-same : {a b : Refusal} → ◌≡◌ {A = Result ℕ Refusal} (Err a) (Err b) → a ≡ b
    refused-same e = cc

    at_same : {a b : ℕ} → ◌≡◌ {A = Result ℕ Refusal} (Ok a) (Ok b) → a ≡ b
    at_same e = cc

    not-both : {a : ℕ} {b : Refusal} → Ok a ≡ Err b → ⊥
    not-both e = unlike cc

    -- a pass before the last is refused
    early-meets : (n : ℕ) (why : Refusal) → RunsBefore pass m n → pass n false ≡ Err why → Halts why n
    early-meets n why x e =
        let f = first-met (walked g banks) (row_of_pass (listed g) n) (row_of_pass (listed g) (n - 1)) (eqb n 1) false why e in
        let s = stops-meets g banks shown c n x.counted false f.0 why f.1 in
        early x.counted x.below (goes_on n x.unsettled) s.0 s.1 s.2

    -- the last pass is refused
    last-refused : (n k : ℕ) → 1 ≤ n → LastPass g k n → (why : Refusal) → pass n true ≡ Err why → Halts why n
    last-refused n k h l why e =
        let f = first-met (walked g banks) (row_of_pass (listed g) n) (row_of_pass (listed g) (n - 1)) (eqb n 1) true why e in
        let s = stops-meets g banks shown c n h true f.0 why f.1 in
        at_last l s.0 s.1 s.2

    decided : (n k : ℕ) → RunsLast pass m n → LastPass g k n → (x : Result ℕ Refusal) → pass n true ≡ x → Meets (record { settled = last_of k x; passes = n })
    decided n k w l (Err why) e = (
      λ other f. subst (λ (y : Refusal). Halts y n) (refused-same f) (last-refused n k (last-counted n w) l why e),
      λ j f. absurd (not-both (sym f)),
    )
    decided n k w l (Ok s) e = tested (eqb s 2) refl
      where
        tested : (t : Bool) → eqb s 2 ≡ t → Meets (record { settled = last_of k (Ok s); passes = n })
        tested true t = rw t (
          λ why f.
              unsettled l (ended-runs n (last-counted n w) true s e)
              (unresolved-when g banks shown c n (last-counted n w) true s e (before_last n w) (eqb-true s 2 t)) (sym (refused-same f)),
          λ j f. absurd (not-both (sym f)),
        )
        tested false t = rw t (
          λ why f. absurd (not-both f),
          λ j f.
              subst (λ (y : ℕ). SettledSo y n) (at_same f) (record {
                last = l;
                runs = ended-runs n (last-counted n w) true s e;
                not-unresolved = settles-says n (last-counted n w) true s e (before_last n w) t;
                counted = last-counted n w;
                past = ended n true s e;
              }),
        )

    from-ending : (r : Resolution) → r ≡ settled_by pass m → Ending pass m r → Meets r
    from-ending r same (end.early n why x e f) =
        subst Meets (sym f) (
          λ other q. subst (λ (y : Refusal). Halts y n) (refused-same q) (early-meets n why x e),
          λ j q. absurd (not-both (sym q)),
        )
    from-ending r same (end.last n k x f) =
        let d = last_meets n x in subst Meets (sym (same ∙ d.2)) (decided n d.0 x d.1 (pass n true) refl)

    -- What the passes come to is what the sentences say.
    pub passes-meet : Meets (settled_by pass m)
    passes-meet = from-ending (settled_by pass m) refl (ends pass m)

    -- and what ends them is the refusal that they say.
    pub halts-laid : (why : Refusal) (n : ℕ) → Halts why n → RefusedSo why n
    halts-laid why n (early h l go f s p) = (_, p, says.stops h l go f s)
    halts-laid why n (at_last l f s p) = (_, p, says.last-stops l f s)
    halts-laid why n (unsettled l r u e) = rw e (0, refl, says.unresolved l r u)
