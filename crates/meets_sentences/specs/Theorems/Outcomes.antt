-- What every outcome of a build is, from the sentences alone: accepted, with what stands behind it; or refused, with a number from 1 to 14 that is not 6,
-- and then everything lent is as it was. The passes run never exceed the larger of 1 and the limit.
use Rattle.std.specs.Prelude.{◌≡◌, refl, Bool, true, false, ◌⊎◌, ℕ, suc, ◌*◌, ◌≤◌, ◌<◌, max, length}
use Rattle.std.proofs.Common.{sym, ap, subst, inl, inr, ⊎_elim, arith}
use Rattle.sort.specs.Laws.Sorted.{le-or-lt}
use Rattle.says.specs.Words as w
use Rattle.says.specs.Words.{First}
use Rattle.says.specs.Build as b
use Rattle.says.specs.Build.{Given, Lent, Outcome, banks, NoBanks, BadBank, Overlap, nodes, BadField, BadNode, LastPass, RunsThrough, Unresolved}
use Rattle.says.specs.Words.{Not}
use Rattle.says.specs.Build.{Reads, Stops, Refuses, FirstWhy, Length, Spans, Padding, Left, Built, Laid, refusal, BuildSays}
use Rattle.meets_sentences.specs.Laws.First.{none_at_all, no-pair-at-all}
use Rattle.meets_sentences.specs.Laws.Why.{nine-to-13}

module _ (g : Given) (old : Lent) where
  -- refused: a number of document 01's table, a place, the passes run, and nothing lent is changed
  pub record RefusedSo (o : Outcome) : Type 0 where
    pub number : ℕ
    pub place : ℕ
    pub second : ℕ
    pub passes : ℕ
    pub least : 1 ≤ number
    pub most : number ≤ 14
    pub not-six : Not (number ≡ 6)
    pub bounded : passes ≤ max 1 g.limit
    pub is : o ≡ refusal g old number place second passes

  -- accepted: everything that could refuse it does not, and what it answers and leaves is so
  pub record AcceptedSo (o : Outcome) : Type 0 where
    pub banks-there : Not (NoBanks g)
    pub banks-good : (b : ℕ) → b < banks g → Not (BadBank g b)
    pub banks-apart : (b c : ℕ) → Not (Overlap g b c)
    pub fields-good : (f : ℕ) → Not (BadField g f)
    pub nodes-good : (i : ℕ) → i < nodes g → Not (BadNode g i)
    pub numbered : o.answer.refusal ≡ 0
    pub row : ℕ
    pub last : LastPass g o.answer.k o.answer.passes
    pub runs : RunsThrough g o.answer.passes true
    pub settled : Not (Unresolved g o.answer.passes)
    pub reads : Reads g o.answer.passes row
    pub none-refused : (i : ℕ) → Not (Refuses g row i)
    pub long : Length g row o.answer.length
    pub image-room : o.answer.length ≤ 8 * length old.image
    pub spans : Spans g (nodes g) o.answer.spans
    pub span-room : (o.answer.spans ≤ length old.addresses) × (o.answer.spans ≤ length old.offsets) × (o.answer.spans ≤ length old.sizes)
    pub padding : Padding g row o.answer.padding
    pub left : Left g old row o.answer.length o.answer.spans o.lent

  -- the last pass is within the limit, or it is pass 1
  pub last-bounded : {k n : ℕ} → LastPass g k n → n ≤ max 1 g.limit
  last-bounded (b.limit-zero e) = omega arith
  last-bounded (b.below o l go r u) = omega arith
  last-bounded (b.at-limit o go) = omega arith

  pub stops-five-or-seven : {n i number : ℕ} {last : Bool} → Stops g n last i number → (number ≡ 5) ⊎ (number ≡ 7)
  stops-five-or-seven (b.lead-past h r x i l p) = inl refl
  stops-five-or-seven (b.move-past h r s a p) = inl refl
  stops-five-or-seven (b.off-boundary h t e r s o) = inr refl

  stopped : {n i number : ℕ} {last : Bool} → Stops g n last i number → n ≤ max 1 g.limit → RefusedSo (refusal g old number i 0 n)
  stopped {n} {i} {number} s h =
      let two = stops-five-or-seven s in
      record {
        number = number;
        place = i;
        second = 0;
        passes = n;
        least = ⊎_elim (λ (e : number ≡ 5). omega arith) (λ (e : number ≡ 7). omega arith) two;
        most = ⊎_elim (λ (e : number ≡ 5). omega arith) (λ (e : number ≡ 7). omega arith) two;
        not-six = λ six. ⊎_elim (λ (e : number ≡ 5). omega arith) (λ (e : number ≡ 7). omega arith) two;
        bounded = h;
        is = refl;
      }

  refused-with : (number place second passes : ℕ) → 1 ≤ number → number ≤ 14 → Not (number ≡ 6) → passes ≤ max 1 g.limit
      → RefusedSo (refusal g old number place second passes)
  refused-with number place second passes l m n p =
      record { number = number; place = place; second = second; passes = passes; least = l; most = m; not-six = n; bounded = p; is = refl }

  at-node : {r n i number place second : ℕ} → FirstWhy g r i number place second → n ≤ max 1 g.limit → RefusedSo (refusal g old number place second n)
  at-node {n = n} {number = number} {place = place} {second = second} f h =
      let e = nine-to-13 g f.why in
      refused-with number place second n (omega (arith, e.0)) (omega (arith, e.1)) (λ six. omega (arith, e.0)) h

  least-room : (n room : ℕ) → Not (room < n) → n ≤ room
  least-room n room none = ⊎_elim (λ (h : n ≤ room). h) (λ (h : room < n). absurd (none h)) (le-or-lt n room)

  module _ (there : Not (NoBanks g)) (good : (c : ℕ) → c < banks g → Not (BadBank g c)) (apart : (c d : ℕ) → Not (Overlap g c d))
      (fields : (f : ℕ) → Not (BadField g f)) (listed : (i : ℕ) → i < nodes g → Not (BadNode g i)) where
    laid : (o : Outcome) → Laid g old o → RefusedSo o ⊎ AcceptedSo o
    laid o (b.stops h l go f s) = inl (stopped s (omega arith))
    laid o (b.last-stops p f s) = inl (stopped s (last-bounded p))
    laid o (b.unresolved {n = n} p r u) = inl (refused-with 8 0 0 n (omega arith) (omega arith) (λ e. omega arith) (last-bounded p))
    laid o (b.built p r u q (b.refused f)) = inl (at-node f (last-bounded p))
    laid o (b.built {n = n} p r u q (b.placed clear l c (w.refused x m))) =
        inl (refused-with 14 0 0 n (omega arith) (omega arith) (λ e. omega arith) (last-bounded p))
    laid o (b.built {n = n} p r u q (b.placed clear l c (w.passed a (w.refused x m)))) =
        inl (refused-with 14 1 0 n (omega arith) (omega arith) (λ e. omega arith) (last-bounded p))
    laid o (b.built {r = row} p r u q (b.placed {l = bits} {c = count} clear l c (w.passed wide (w.passed room (b.accepts sums left))))) =
        inr (record {
          banks-there = there;
          banks-good = good;
          banks-apart = apart;
          fields-good = fields;
          nodes-good = listed;
          numbered = refl;
          row = row;
          last = p;
          runs = r;
          settled = u;
          reads = q;
          none-refused = clear;
          long = l;
          image-room = least-room bits (8 * length old.image) (λ h. wide tt h);
          spans = c;
          span-room = (
            least-room count (length old.addresses) (λ h. room tt (inl h)),
            least-room count (length old.offsets) (λ h. room tt (inr (inl h))),
            least-room count (length old.sizes) (λ h. room tt (inr (inr h))),
          );
          padding = sums;
          left = left;
        })

  -- Every outcome is one or the other.
  pub outcome-told : (o : Outcome) → BuildSays g old o → RefusedSo o ⊎ AcceptedSo o
  outcome-told o (w.refused x m) = inl (refused-with 1 0 0 0 (omega arith) (omega arith) (λ e. omega arith) (omega arith))
  outcome-told o (w.passed a (w.refused x m)) = inl (refused-with 2 x 0 0 (omega arith) (omega arith) (λ e. omega arith) (omega arith))
  outcome-told o (w.passed a (w.passed c (w.refused x m))) = inl (refused-with 3 x.0 x.1 0 (omega arith) (omega arith) (λ e. omega arith) (omega arith))
  outcome-told o (w.passed a (w.passed c (w.passed d (w.refused x m)))) =
      inl (refused-with 4 x 0 0 (omega arith) (omega arith) (λ e. omega arith) (omega arith))
  outcome-told o (w.passed a (w.passed c (w.passed d (w.passed e (w.refused x m))))) =
      inl (refused-with 4 x 0 0 (omega arith) (omega arith) (λ e. omega arith) (omega arith))
  outcome-told o (w.passed a (w.passed c (w.passed d (w.passed e (w.passed f l))))) =
      laid (λ n. a tt n) (λ x h s. none_at_all (λ y. (y < banks g) × BadBank g y) c x (h, s)) (no-pair-at-all (Overlap g) (λ x y p. d (x, y) p))
      (none_at_all (BadField g) e) (λ i h s. none_at_all (λ y. (y < nodes g) × BadNode g y) f i (h, s)) o l

  -- ---- accepted and refused, told by the answer's number

  refused-not-0 : {o : Outcome} → RefusedSo o → o.answer.refusal ≡ 0 → ⊥
  refused-not-0 {o} x e =
      let same : o.answer.refusal ≡ x.number = ap (λ (y : Outcome). y.answer.refusal) x.is in
      omega (arith, x.least)

  pub accepted-says : (o : Outcome) → BuildSays g old o → o.answer.refusal ≡ 0 → AcceptedSo o
  accepted-says o s e = ⊎_elim (λ (x : RefusedSo o). absurd (refused-not-0 x e)) (λ (x : AcceptedSo o). x) (outcome-told o s)

  pub refused_says : (o : Outcome) → BuildSays g old o → Not (o.answer.refusal ≡ 0) → RefusedSo o
  refused_says o s e = ⊎_elim (λ (x : RefusedSo o). x) (λ (x : AcceptedSo o). absurd (e x.numbered)) (outcome-told o s)

  -- "Each refusal .. changes nothing lent."
  pub refused-changes-nothing : (o : Outcome) → BuildSays g old o → Not (o.answer.refusal ≡ 0) → o.lent ≡ old
  refused-changes-nothing o s e = ap (λ (y : Outcome). y.lent) (refused_says o s e).is

  -- Ticket 3: "6 is no longer given."
  pub six-never : (o : Outcome) → BuildSays g old o → Not (o.answer.refusal ≡ 6)
  six-never o s six =
      let x = refused_says o s (λ e. omega arith) in
      x.not-six (let same = ap (λ (y : Outcome). y.answer.refusal) x.is in omega arith)

  -- Ticket 14: "passes run never exceed the larger of 1 and the limit, refused builds included"
  pub passes-within-limit : (o : Outcome) → BuildSays g old o → o.answer.passes ≤ max 1 g.limit
  passes-within-limit o s =
      ⊎_elim
      (λ (x : RefusedSo o). let same = ap (λ (y : Outcome). y.answer.passes) x.is in omega (arith, x.bounded))
      (λ (x : AcceptedSo o). last-bounded x.last) (outcome-told o s)
