-- Runs that are found one behind the other: those that are closed, and one that goes on.
use mathlib.Core.Path.{◌≡◌, refl, sym, ap, ap₂, subst, ◌∙◌}
use mathlib.Core.Bool.{Bool, true, false}
use mathlib.Core.List.{List, [], ◌∷◌, ◌++◌, map, map-append, append-nil}
use Prim.Native.Nat.{ℕ, suc, ◌+◌, ◌-◌, ◌*◌, ◌≤◌, ◌<◌}
use native.Mathlib.Decide.{dec_lt, ℕ_discrete}
use native.Mathlib.Omega.{arith}
use borrow.Author.Tests.{lt-ltb, le-ltb, eq-eqb, ne_eqb}
use lib.Dec.{ltb, eqb}
use lib.ListN.{length, length-append, length-map}
use Rattle.prelude.specs.Laws.Bools.{either}
use Rattle.prelude.specs.Pick.{pick}
use Rattle.blocks.specs.declared.Block.{Block}
use Rattle.blocks.specs.Walk.{block, kept}
use Rattle.blocks.specs.Laws.Put.{kept-some as block-kept, kept-none as Block-none, put-nothing, put_then, put-long}
use Rattle.blocks.specs.Put.{Put}
use Rattle.record_read.specs.Runs.{runs, in_bits}
use Rattle.record_read.specs.RunLaws.{Clear, Holds, AreRuns}
use Rattle.record_read.specs.Theorems.RunLaws.{runs-are, one_list, runs-more}
use Rattle.record_read.specs.Laws.RunLaws.{runs-agree}
use Rattle.record_read.specs.Steps.{run, kept_run, closed_by, joined_by, Small, Walked, Listed}
use Rattle.record_read.specs.declared.Run.{Run}

-- ---- runs

pub kept-some : (r : Run) → r.first < r.end → kept_run r ≡ block r.first (r.end - r.first) ∷ []
kept-some r h = block-kept (block r.first (r.end - r.first)) (λ z. omega arith)

pub kept-none : (r : Run) → r.end ≤ r.first → kept_run r ≡ []
kept-none r h = Block-none (block r.first (r.end - r.first)) (omega arith)

-- An empty block is empty in bits.
kept-bits : (r : Run) → kept (block (8 * r.first) (8 * (r.end - r.first))) ≡ map in_bits (kept_run r)
kept-bits r =
    elim (dec_lt r.first r.end) [
      | yes p ↦ block-kept (block (8 * r.first) (8 * (r.end - r.first))) (λ z. omega arith) ∙ sym (ap (map in_bits) (kept-some r p))
      | no p ↦ Block-none (block (8 * r.first) (8 * (r.end - r.first))) (omega arith) ∙ sym (ap (map in_bits) (kept-none r (omega arith)))
    ]

module _ (r next : Run) where
  pub closed-idle : next.end ≤ next.first → (closed_by r next ≡ []) × (joined_by r next ≡ r)
  closed-idle h = (rw (le-ltb next.first next.end h), rw (le-ltb next.first next.end h))

  pub closed-touching : next.first < next.end → next.first ≡ r.end → (closed_by r next ≡ []) × (joined_by r next ≡ run r.first next.end)
  closed-touching h e = (
    rw (lt-ltb next.first next.end h, eq-eqb next.first r.end e),
    rw (lt-ltb next.first next.end h, eq-eqb next.first r.end e),
  )

  pub closed-apart : next.first < next.end → (next.first ≡ r.end → ⊥) → (closed_by r next ≡ kept_run r) × (joined_by r next ≡ next)
  closed-apart h e = (
    rw (lt-ltb next.first next.end h, ne_eqb next.first r.end e),
    rw (lt-ltb next.first next.end h, ne_eqb next.first r.end e),
  )

module _ (test : ℕ → Bool) where
  pub walked-starts : Walked test [] (run 0 0) 0
  walked-starts =
      record {
        order = omega arith;
        reached = omega arith;
        few = omega arith;
        closed = λ x l u. absurd (omega arith);
        inside = λ x l u. absurd (omega arith);
        clear = λ x l u. absurd (omega arith);
        none = λ e. (refl, refl);
      }

  module _ {done : List Block} {r : Run} {from : ℕ} (w : Walked test done r from) where
    pub walked-past : (to : ℕ) → from ≤ to → Clear test from to → Walked test done r to
    walked-past to h c =
        record {
          order = w.order;
          reached = omega (arith, w.reached);
          few = w.few;
          closed = w.closed;
          inside = w.inside;
          clear = λ x l u. elim (dec_lt x from) [ yes p ↦ w.clear x l p | no p ↦ c x (omega arith) u ];
          none = w.none;
        }

    -- the run that goes on, closed
    kept-runs : (hi : ℕ) → r.end < hi → Clear test r.end hi → AreRuns test 0 hi (done ++ kept_run r)
    kept-runs hi h c =
        elim (dec_lt r.first r.end) [
          | yes p ↦
              subst (λ (l : List Block). AreRuns test 0 hi (done ++ l)) (sym (kept-some r p))
              (runs-more test 0 r.first hi r.first r.end done w.closed (omega arith) (omega arith) (λ x l u. absurd (omega arith)) p w.inside h
              c)
          | no p ↦
              let e : r.first ≡ r.end = omega (arith, w.order) in
              let n = w.none e in
              subst (λ (l : List Block). AreRuns test 0 hi l)
              (sym (ap₂ (λ (a b : List Block). a ++ b) n.0 (kept-none r (omega arith)))) (λ x l u. c x (omega (arith, n.1)) u)
        ]

    kept-few : length (done ++ kept_run r) ≤ r.end
    kept-few =
        elim (dec_lt r.first r.end) [
          | yes p ↦
              subst (λ (l : List Block). length (done ++ l) ≤ r.end) (sym (kept-some r p))
              (omega (arith, w.few, length-append done (block r.first (r.end - r.first) ∷ [])))
          | no p ↦
              subst (λ (l : List Block). length (done ++ l) ≤ r.end) (sym (kept-none r (omega arith)))
              (omega (arith, w.few, w.order, ap length (append-nil done)))
        ]

    module _ (next : Run) (some : next.first < next.end) (behind : from ≤ next.first) (gap : Clear test from next.first)
        (full : Holds test next.first next.end) where
      to-next : Clear test r.end next.first
      to-next x l u = elim (dec_lt x from) [ yes p ↦ w.clear x l p | no p ↦ gap x (omega arith) u ]

      joins : next.first ≡ r.end → Walked test done (run r.first next.end) next.end
      joins e =
          record {
            order = omega (arith, w.order);
            reached = omega arith;
            few = w.few;
            closed = w.closed;
            inside = λ x l u. elim (dec_lt x r.end) [ yes p ↦ w.inside x l p | no p ↦ full x (omega arith) u ];
            clear = λ x l u. absurd (omega arith);
            none = λ z. absurd (omega (arith, w.order));
          }

      closes : (next.first ≡ r.end → ⊥) → Walked test (done ++ kept_run r) next next.end
      closes e =
          let apart : r.end < next.first = elim (dec_lt r.end next.first) [ yes p ↦ p | no p ↦ absurd (e (omega (arith, w.reached))) ] in
          record {
            order = omega arith;
            reached = omega arith;
            few = omega (arith, kept-few);
            closed = kept-runs next.first apart to-next;
            inside = full;
            clear = λ x l u. absurd (omega arith);
            none = λ z. absurd (omega arith);
          }

      pub walked_on : Walked test (done ++ closed_by r next) (joined_by r next) next.end
      walked_on =
          elim (ℕ_discrete next.first r.end) [
            | yes e ↦
                let c = closed-touching r next some e in
                rw (c.0, c.1, append-nil done) (joins e)
            | no e ↦
                let c = closed-apart r next some e in
                rw (c.0, c.1) (closes e)
          ]

    pub walked-idle : (next : Run) → next.end ≤ next.first → Walked test (done ++ closed_by r next) (joined_by r next) from
    walked-idle next h =
        let c = closed-idle r next h in
        rw (c.0, c.1, append-nil done) w

    -- all of them
    pub walked_all : (n : ℕ) → Clear test from (suc n) → ((x : ℕ) → test x ≡ true → x < n) → runs test 0 n ≡ done ++ kept_run r
    walked_all n c below =
        let end : r.end ≤ n = elim (dec_lt n r.end) [
          | yes p ↦
              elim (dec_lt r.first r.end) [
                | yes q ↦
                    let last : test (r.end - 1) ≡ true = w.inside (r.end - 1) (omega arith) (omega arith) in
                    let low = below (r.end - 1) last in
                    omega arith
                | no q ↦
                    let e : r.first ≡ r.end = omega (arith, w.order) in
                    omega (arith, (w.none e).1)
              ]
          | no p ↦ omega arith
        ] in
        let off : test (0 + n) ≡ false = either (test (0 + n)) (λ t. let z = below (0 + n) t in absurd (omega arith)) (λ t. t) in
        one_list test 0 (suc (0 + n)) (runs test 0 n) (done ++ kept_run r) (runs-are test n 0 off)
        (kept-runs (suc (0 + n)) (omega arith)
        (λ x l u. elim (dec_lt x from) [ yes p ↦ w.clear x l p | no p ↦ c x (omega arith) (omega arith) ]))

-- Tests that agree up to where the walk stands.
pub walked-agree : (test other : ℕ → Bool) {done : List Block} {r : Run} {from : ℕ} → ((x : ℕ) → x < from → test x ≡ other x)
    → Walked test done r from → Walked other done r from
walked-agree test other {done} {r} {from} same w =
    record {
      order = w.order;
      reached = w.reached;
      few = w.few;
      closed = runs-agree test other 0 r.first done (λ x l u. same x (omega (arith, w.order, w.reached))) w.closed;
      inside = λ x l u. sym (same x (omega (arith, w.reached))) ∙ w.inside x l u;
      clear = λ x l u. sym (same x u) ∙ w.clear x l u;
      none = w.none;
    }

-- ---- what is written

-- What writing the run asks, and the lengths of what is lent.
module _ {test : ℕ → Bool} {os₀ ss₀ : List ℕ} {r : Run} {from count : ℕ} {os ss : List ℕ} (w : Listed test os₀ ss₀ r from count os ss) where
  pub listed-room : (r.first ≤ r.end) × (count ≤ r.first) × Small r
  listed-room = (w.walked.order, omega (arith, w.put.counted, length-map w.done in_bits, w.walked.few), w.small)

  pub listed-long : (length os ≡ length os₀) × (length ss ≡ length ss₀)
  listed-long = put-long w.put

module _ (test : ℕ → Bool) (os₀ ss₀ : List ℕ) where
  pub listed-starts : Listed test os₀ ss₀ (run 0 0) 0 0 os₀ ss₀
  listed-starts = record { done = []; walked = walked-starts test; put = put-nothing 0 os₀ ss₀; small = omega arith }

  module _ {r : Run} {from count : ℕ} {os ss : List ℕ} (w : Listed test os₀ ss₀ r from count os ss) where
    more : (next : Run) {count' : ℕ} {os' ss' : List ℕ} → Put (map in_bits (closed_by r next)) count os ss count' os' ss'
        → Put (map in_bits (w.done ++ closed_by r next)) 0 os₀ ss₀ count' os' ss'
    more next {count'} {os'} {ss'} p =
        subst (λ (l : List Block). Put l 0 os₀ ss₀ count' os' ss') (sym (map-append in_bits w.done (closed_by r next)))
        (put_then (map in_bits w.done) (map in_bits (closed_by r next)) w.put p)

    small-join : (next : Run) → Small next → Small (joined_by r next)
    small-join next s = go (ltb next.first next.end) (eqb next.first r.end)
      where
        go : (a b : Bool) → Small (pick a (pick b (run r.first next.end) next) r)
        go true true = s
        go true false = s
        go false b = w.small

    module _ (next : Run) {count' : ℕ} {os' ss' : List ℕ} (p : Put (map in_bits (closed_by r next)) count os ss count' os' ss') (s : Small next) where
      pub listed-on : next.first < next.end → from ≤ next.first → Clear test from next.first → Holds test next.first next.end
          → Listed test os₀ ss₀ (joined_by r next) next.end count' os' ss'
      listed-on some behind gap full =
          record {
            done = w.done ++ closed_by r next;
            walked = walked_on test w.walked next some behind gap full;
            put = more next p;
            small = small-join next s;
          }

      pub listed-idle : next.end ≤ next.first → Listed test os₀ ss₀ (joined_by r next) from count' os' ss'
      listed-idle h =
          record { done = w.done ++ closed_by r next; walked = walked-idle test w.walked next h; put = more next p; small = small-join next s }

    pub listed-past : (to : ℕ) → from ≤ to → Clear test from to → Listed test os₀ ss₀ r to count os ss
    listed-past to h c = record { done = w.done; walked = walked-past test w.walked to h c; put = w.put; small = w.small }

    pub listed-all : (n : ℕ) → Clear test from (suc n) → ((x : ℕ) → test x ≡ true → x < n) → {count' : ℕ} {os' ss' : List ℕ}
        → Put (map in_bits (kept_run r)) count os ss count' os' ss' → Put (map in_bits (runs test 0 n)) 0 os₀ ss₀ count' os' ss'
    listed-all n c below {count'} {os'} {ss'} p =
        subst (λ (l : List Block). Put l 0 os₀ ss₀ count' os' ss')
        (sym (map-append in_bits w.done (kept_run r)) ∙ ap (map in_bits) (sym (walked_all test w.walked n c below)))
        (put_then (map in_bits w.done) (map in_bits (kept_run r)) w.put p)

pub listed-agree : (test other : ℕ → Bool) {os₀ ss₀ : List ℕ} {r : Run} {from count : ℕ} {os ss : List ℕ} → ((x : ℕ) → x < from → test x ≡ other x)
    → Listed test os₀ ss₀ r from count os ss → Listed other os₀ ss₀ r from count os ss
listed-agree test other same w = record { done = w.done; walked = walked-agree test other same w.walked; put = w.put; small = w.small }

-- ---- a run that is written, in bits, one that is closed, and one that is not

pub push-bits : (r : Run) {count count' : ℕ} {os ss os' ss' : List ℕ}
    → Put (kept (block (8 * r.first) (8 * (r.end - r.first)))) count os ss count' os' ss' → Put (map in_bits (kept_run r)) count os ss count' os' ss'
push-bits r {count} {count'} {os} {ss} {os'} {ss'} p = subst (λ (l : List Block). Put l count os ss count' os' ss') (kept-bits r) p

module _ (r next : Run) where
  pub close-none : closed_by r next ≡ [] → (count : ℕ) (os ss : List ℕ) → Put (map in_bits (closed_by r next)) count os ss count os ss
  close-none e count os ss = subst (λ (l : List Block). Put (map in_bits l) count os ss count os ss) (sym e) (put-nothing count os ss)

  pub close-kept : closed_by r next ≡ kept_run r → {count : ℕ} {os ss : List ℕ} {count' : ℕ} {os' ss' : List ℕ}
      → Put (map in_bits (kept_run r)) count os ss count' os' ss' → Put (map in_bits (closed_by r next)) count os ss count' os' ss'
  close-kept e {count} {os} {ss} {count'} {os'} {ss'} p = subst (λ (l : List Block). Put (map in_bits l) count os ss count' os' ss') (sym e) p
