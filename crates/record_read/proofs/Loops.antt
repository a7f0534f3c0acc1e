-- The loops over a file's lines: what is known before each turn, and a law for each way on.
use mathlib.Core.Path.{◌≡◌, refl, sym, ap, subst, ◌∙◌}
use mathlib.Core.Bool.{Bool, true, false, ◌||◌}
use mathlib.Core.List.{List, [], map}
use Prim.Native.Nat.{ℕ, zero, suc, ◌+◌, ◌-◌, ◌≤◌, ◌<◌, max}
use native.Mathlib.Nat.{le_antisymm}
use native.Mathlib.Decide.{dec_lt, ℕ_discrete}
use native.Mathlib.Omega.{arith}
use borrow.Author.Tests.{le-leb, lt-leb, lt-ltb, le-ltb}
use lib.Dec.{leb, ltb}
use lib.ListN.{length}
use Rattle.prelude.specs.Laws.Bools.{either, both}
use Rattle.prelude.specs.Pick.{pick}
use Rattle.blocks.specs.Put.{Put}
use Rattle.record_lines.specs.Pieces.{Piece}
use Rattle.record_scan.specs.Reading.{new_pieces, is_new}
use Rattle.record_scan.specs.Trail.{trail, item_at}
use Rattle.record_scan.specs.Laws.TrailLaws.{said, moved, next-at, next-state, next-given, high-append}
use Rattle.record_scan.specs.Steps.{Stepped, highest, rises}
use Rattle.record_scan.specs.declared.Step.{Step}
use Rattle.record_read.specs.Given.{given}
use Rattle.record_read.specs.Laws.BlockFacts.{none_above, all-below}
use Rattle.record_read.specs.Runs.{is_given, reach, in_bits, runs_given, blocks_given}
use Rattle.record_read.specs.Steps.{run, in_run, extent_of, kept_run, closed_by, joined_by, Small, Lowest, Betters, Listed}
use Rattle.record_read.specs.declared.Run.{Run}
use Rattle.record_read.proofs.LineLaws.{line-high, line-none, line-above, given-more}
use Rattle.record_read.proofs.Walks.{closed-idle, closed-touching, closed-apart, listed-starts, listed-on, listed-idle, listed-past, listed-all}
use Rattle.record_read.proofs.Walks.{listed-agree}

-- ---- runs by their bytes

pub in-run : (r : Run) (x : ℕ) → r.first ≤ x → x < r.end → in_run r x ≡ true
in-run r x h k = rw (le-leb r.first x h, lt-ltb x r.end k)

pub before-run : (r : Run) (x : ℕ) → x < r.first → in_run r x ≡ false
before-run r x h = rw (lt-leb r.first x h)

pub behind-run : (r : Run) (x : ℕ) → r.end ≤ x → in_run r x ≡ false
behind-run r x h = either (leb r.first x) (λ e. rw (e, le-ltb x r.end h)) (λ e. rw e)

pub empty-run : (r : Run) (x : ℕ) → r.end ≤ r.first → in_run r x ≡ false
empty-run r x h =
    elim (dec_lt x r.first) [
      | yes p ↦ before-run r x p
      | no p ↦ behind-run r x (omega arith)
    ]

or-false : (b : Bool) → (b || false) ≡ b
or-false true = refl
or-false false = refl

or-true : (b : Bool) → (b || true) ≡ true
or-true true = refl
or-true false = refl

pub or-out : (a : Bool) {b : Bool} → b ≡ false → (a || b) ≡ a
or-out a e = ap (λ (x : Bool). a || x) e ∙ or-false a

pub or-in : (a : Bool) {b : Bool} → b ≡ true → (a || b) ≡ true
or-in a e = ap (λ (x : Bool). a || x) e ∙ or-true a

-- ---- the lowest stretch

pub lowest-agree : (test other : ℕ → Bool) (from : ℕ) (r : Run) → ((x : ℕ) → test x ≡ other x) → Lowest test from r → Lowest other from r
lowest-agree test other from r same w =
    record {
      behind = w.behind;
      inside = λ x l u. sym (same x) ∙ w.inside x l u;
      clear = λ x l u. sym (same x) ∙ w.clear x l u;
    }

pub record Looking (format : ℕ) (text : List ℕ) (n load from at state : ℕ) (best : Run) (k : ℕ) : Type 0 where
  pub few : k ≤ n
  pub place : at ≡ (trail format text k).at
  pub force : state ≡ (trail format text k).state
  pub inside : at ≤ length text
  pub low : Lowest (is_given load (trail format text k).given) from best
  pub small : Small best

module _ (format : ℕ) (text : List ℕ) (n load from : ℕ) where
  pub looking-starts : Looking format text n load from 0 0 (run 0 0) 0
  unfolding trail given
  looking-starts =
      record {
        few = omega arith;
        place = refl;
        force = refl;
        inside = omega arith;
        low = record { behind = λ h. absurd (omega arith); inside = λ x l u. absurd (omega arith); clear = λ x l u. refl };
        small = omega arith;
      }

  module _ {at state : ℕ} {best : Run} {k : ℕ} (w : Looking format text n load from at state best k) where
    pub looking-on : k < n → {r : Step} → Stepped format text at state r → {next best' : Run}
        → (next ≡ extent_of r.line.address r.line.count load) × Small next → Betters from best next best'
        → Looking format text n load from r.next r.line.state best' (k + 1)
    looking-on h {r} s {next} {best'} e b =
        let t = moved format text k r at state w.place w.force s in
        let pieces = (trail format text k).given in
        record {
          few = omega arith;
          place = next-at format text k r t;
          force = next-state format text k r t;
          inside = s.inside w.inside;
          low =
              lowest-agree (λ x. is_given load pieces x || in_run next x) (is_given load (trail format text (k + 1)).given) from best'
              (λ x.
              ap (λ (q : Run). is_given load pieces x || in_run q x) e.0 ∙ sym (given-more t.says load pieces x)
              ∙ ap (λ (l : List Piece). is_given load l x) (next-given format text k r))
              (b.goes (is_given load pieces) w.low);
          small = b.small w.small e.1;
        }

    pub looking-ends : n ≤ k → Lowest (is_given load (trail format text n).given) from best × Small best
    looking-ends h =
        (subst (λ (j : ℕ). Lowest (is_given load (trail format text j).given) from best) (le_antisymm w.few h) w.low, w.small)

-- ---- records that ascend

rises-at : (format : ℕ) (text : List ℕ) (n k : ℕ) → k < n → rises format text n ≡ true
    → is_new (new_pieces (item_at format text (trail format text k).at (trail format text k).state)) 0 (highest (trail format text k).given) ≡ true
unfolding rises
rises-at format text zero k h e = absurd (omega arith)
rises-at format text (suc n) k h e =
    let t = trail format text n in
    let two = both (rises format text n) (is_new (new_pieces (item_at format text t.at t.state)) 0 (highest t.given)) e in
    elim (ℕ_discrete k n) [
      | yes p ↦
          subst (λ (j : ℕ). is_new (new_pieces (item_at format text (trail format text j).at (trail format text j).state)) 0
          (highest (trail format text j).given) ≡ true) (sym p) two.1
      | no p ↦ rises-at format text n k (elim (dec_lt k n) [ yes q ↦ q | no q ↦ absurd (p (omega arith)) ]) two.0
    ]

-- on plain numbers
top-on : (h a c m load : ℕ) → h ≤ a → m ≡ a + c → max h m - load ≡ a + c - load
top-on h a c m load k e = let z : max h m ≡ a + c = omega arith in ap (λ (x : ℕ). x - load) z

top-low : (h m load : ℕ) → m ≤ load → max h m - load ≡ h - load
top-low h m load k = elim (dec_lt h m) [
  | yes p ↦ let e : max h m ≡ m = omega arith in ap (λ (x : ℕ). x - load) e ∙ omega arith
  | no p ↦ let e : max h m ≡ h = omega arith in ap (λ (x : ℕ). x - load) e
]

pub joined_end : (r next : Run) → next.first < next.end → (joined_by r next).end ≡ next.end
joined_end r next h =
    elim (ℕ_discrete next.first r.end) [
      | yes e ↦ ap (λ (q : Run). q.end) (closed-touching r next h e).1
      | no e ↦ ap (λ (q : Run). q.end) (closed-apart r next h e).1
    ]

pub record Rising (format : ℕ) (text : List ℕ) (n load : ℕ) (os₀ ss₀ : List ℕ) (at state : ℕ) (r : Run) (count : ℕ) (os ss : List ℕ) (k : ℕ) : Type 0 where
  pub few : k ≤ n
  pub place : at ≡ (trail format text k).at
  pub force : state ≡ (trail format text k).state
  pub inside : at ≤ length text
  pub listed : Listed (is_given load (trail format text k).given) os₀ ss₀ r r.end count os ss
  pub top : r.end ≡ reach load (trail format text k).given

module _ (format : ℕ) (text : List ℕ) (n load : ℕ) (os₀ ss₀ : List ℕ) where
  pub rising-starts : Rising format text n load os₀ ss₀ 0 0 (run 0 0) 0 os₀ ss₀ 0
  unfolding trail highest
  rising-starts =
      record {
        few = omega arith;
        place = refl;
        force = refl;
        inside = omega arith;
        listed = listed-starts (is_given load []) os₀ ss₀;
        top = omega arith;
      }

  module _ {at state : ℕ} {q : Run} {count : ℕ} {os ss : List ℕ} {k : ℕ} (w : Rising format text n load os₀ ss₀ at state q count os ss k) where
    abbrev pieces : List Piece
    pieces = (trail format text k).given

    abbrev after : List Piece
    after = (trail format text (k + 1)).given

    module _ (order : rises format text n ≡ true) (h : k < n) {r : Step} (s : Stepped format text at state r) where
      stepped : Stepped format text (trail format text k).at (trail format text k).state r
      stepped = moved format text k r at state w.place w.force s

      abbrev next : Run
      next = extent_of r.line.address r.line.count load

      -- what is given behind the line
      given-after : (x : ℕ) → is_given load after x ≡ (is_given load pieces x || in_run next x)
      given-after x = ap (λ (l : List Piece). is_given load l x) (sym (next-given format text k r)) ∙ given-more stepped.says load pieces x

      high_after : highest after ≡ max (highest pieces) (highest (new_pieces (said format text k r)))
      high_after = ap highest (sym (next-given format text k r)) ∙ high-append pieces (new_pieces (said format text k r))

      module _ {count' : ℕ} {os' ss' : List ℕ} (small : Small next) (p : Put (map in_bits (closed_by q next)) count os ss count' os' ss') where
        on_some : next.first < next.end → Rising format text n load os₀ ss₀ r.next r.line.state (joined_by q next) count' os' ss' (k + 1)
        on_some some =
            let c : 0 < r.line.count = omega arith in
            let up : highest pieces ≤ r.line.address = line-above stepped.says (highest pieces) (rises-at format text n k h order) c in
            let behind : q.end ≤ next.first = omega (arith, w.top) in
            let joined = joined_end q next some in
            let listed : Listed (is_given load after) os₀ ss₀ (joined_by q next) next.end count' os' ss' =
            listed-on (is_given load after) os₀ ss₀
            (listed-agree (is_given load pieces) (is_given load after)
            (λ x u. sym (given-after x ∙ or-out (is_given load pieces x) (before-run next x (omega arith)))) w.listed)
            next p small some behind
            (λ x l u. given-after x ∙ or-out (is_given load pieces x) (before-run next x u) ∙ none_above load pieces x (omega (arith, w.top)))
            (λ x l u. given-after x ∙ or-in (is_given load pieces x) (in-run next x l u)) in
            record {
              few = omega arith;
              place = next-at format text k r stepped;
              force = next-state format text k r stepped;
              inside = s.inside w.inside;
              listed = subst (λ (e : ℕ). Listed (is_given load after) os₀ ss₀ (joined_by q next) e count' os' ss') (sym joined) listed;
              top =
                  joined
                  ∙ sym (ap (λ (x : ℕ). x - load) high_after
                  ∙ top-on (highest pieces) r.line.address r.line.count (highest (new_pieces (said format text k r))) load up
                  (line-high stepped.says c));
            }

        low-line : next.end ≤ next.first → highest (new_pieces (said format text k r)) ≤ load
        low-line idle =
            elim (dec_lt 0 r.line.count) [
              | yes c ↦ let e = line-high stepped.says c in omega arith
              | no c ↦ let e = line-none stepped.says (omega arith) in omega arith
            ]

        on-idle : next.end ≤ next.first → Rising format text n load os₀ ss₀ r.next r.line.state (joined_by q next) count' os' ss' (k + 1)
        on-idle idle =
            let same : joined_by q next ≡ q = (closed-idle q next idle).1 in
            let listed : Listed (is_given load after) os₀ ss₀ (joined_by q next) q.end count' os' ss' =
            listed-idle (is_given load after) os₀ ss₀
            (listed-agree (is_given load pieces) (is_given load after) (λ x u. sym (given-after x ∙ or-out (is_given load pieces x) (empty-run next x idle)))
            w.listed) next p small idle in
            record {
              few = omega arith;
              place = next-at format text k r stepped;
              force = next-state format text k r stepped;
              inside = s.inside w.inside;
              listed =
                  subst (λ (e : ℕ). Listed (is_given load after) os₀ ss₀ (joined_by q next) e count' os' ss') (ap (λ (z : Run). z.end) (sym same)) listed;
              top =
                  ap (λ (z : Run). z.end) same ∙ w.top
                  ∙ sym (ap (λ (x : ℕ). x - load) high_after
                  ∙ top-low (highest pieces) (highest (new_pieces (said format text k r))) load (low-line idle));
            }

        on-next : Rising format text n load os₀ ss₀ r.next r.line.state (joined_by q next) count' os' ss' (k + 1)
        on-next =
            elim (dec_lt next.first next.end) [
              | yes some ↦ on_some some
              | no idle ↦ on-idle (omega arith)
            ]

      pub rising-on : {e q' : Run} {count' : ℕ} {os' ss' : List ℕ} → (e ≡ next) × Small e → Put (map in_bits (closed_by q e)) count os ss count' os' ss'
          → q' ≡ joined_by q e → Rising format text n load os₀ ss₀ r.next r.line.state q' count' os' ss' (k + 1)
      rising-on {e} {q'} {count'} {os'} {ss'} x p j =
          subst (λ (z : Run). Rising format text n load os₀ ss₀ r.next r.line.state z count' os' ss' (k + 1))
          (sym (j ∙ ap (joined_by q) x.0))
          (on-next (subst Small x.0 x.1) (subst (λ (z : Run). Put (map in_bits (closed_by q z)) count os ss count' os' ss') x.0 p))

    pub rising-ends : n ≤ k → {count' : ℕ} {os' ss' : List ℕ} → Put (map in_bits (kept_run q)) count os ss count' os' ss'
        → Put (blocks_given load (trail format text n).given) 0 os₀ ss₀ count' os' ss'
    unfolding runs_given
    rising-ends h {count'} {os'} {ss'} p =
        subst (λ (j : ℕ). Put (blocks_given load (trail format text j).given) 0 os₀ ss₀ count' os' ss') (le_antisymm w.few h)
        (listed-all (is_given load pieces) os₀ ss₀ w.listed (reach load pieces)
        (λ x l u. none_above load pieces x (omega (arith, w.top))) (all-below load pieces) p)

-- ---- records in any order

module _ (load : ℕ) (pieces : List Piece) (end : ℕ) (os₀ ss₀ : List ℕ) where
  module _ {r : Run} {from count : ℕ} {os ss : List ℕ} (w : Listed (is_given load pieces) os₀ ss₀ r from count os ss) where
    pub finding-on : from < end → {next r' : Run} {count' from' : ℕ} {os' ss' : List ℕ} → Lowest (is_given load pieces) from next × Small next
        → Put (map in_bits (closed_by r next)) count os ss count' os' ss' → r' ≡ joined_by r next → from' ≡ pick (ltb next.first next.end) next.end end
        → Listed (is_given load pieces) os₀ ss₀ r' from' count' os' ss'
    finding-on h {next} {r'} {count'} {from'} {os'} {ss'} low p j f =
        elim (dec_lt next.first next.end) [
          | yes some ↦
              let e : next.end ≡ from' = sym (f ∙ rw (lt-ltb next.first next.end some)) in
              subst (λ (x : ℕ). Listed (is_given load pieces) os₀ ss₀ r' x count' os' ss') e
              (subst (λ (z : Run). Listed (is_given load pieces) os₀ ss₀ z next.end count' os' ss') (sym j)
              (listed-on (is_given load pieces) os₀ ss₀ w next p low.1 some (low.0.behind some) (λ x l u. low.0.clear x l (λ s. u)) low.0.inside))
          | no none ↦
              let idle : next.end ≤ next.first = omega arith in
              let e : end ≡ from' = sym (f ∙ rw (le-ltb next.first next.end idle)) in
              subst (λ (x : ℕ). Listed (is_given load pieces) os₀ ss₀ r' x count' os' ss') e
              (subst (λ (z : Run). Listed (is_given load pieces) os₀ ss₀ z end count' os' ss') (sym j)
              (listed-past (is_given load pieces) os₀ ss₀ (listed-idle (is_given load pieces) os₀ ss₀ w next p low.1 idle) end (omega arith)
              (λ x l u. low.0.clear x l (λ s. absurd (none s)))))
        ]

    pub finding-ends : end ≡ reach load pieces → end ≤ from → {count' : ℕ} {os' ss' : List ℕ} → Put (map in_bits (kept_run r)) count os ss count' os' ss'
        → Put (blocks_given load pieces) 0 os₀ ss₀ count' os' ss'
    unfolding runs_given
    finding-ends e h p =
        listed-all (is_given load pieces) os₀ ss₀ w (reach load pieces) (λ x l u. none_above load pieces x (omega arith)) (all-below load pieces) p

  -- a turn goes on by a byte at least
  pub finding-less : {from from' : ℕ} {next : Run} → from < end → Lowest (is_given load pieces) from next × Small next
      → from' ≡ pick (ltb next.first next.end) next.end end → from < from'
  finding-less {from} {from'} {next} h low f =
      elim (dec_lt next.first next.end) [
        | yes some ↦ let e : from' ≡ next.end = f ∙ rw (lt-ltb next.first next.end some) in let b = low.0.behind some in omega arith
        | no none ↦ let e : from' ≡ end = f ∙ rw (le-ltb next.first next.end (omega arith)) in omega arith
      ]
