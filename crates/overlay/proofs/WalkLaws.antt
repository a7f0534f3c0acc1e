-- The walk over the blocks: chain by chain, what lies between two chains is passed over, and a chain's whole bytes are looked at.
use mathlib.Core.Path.{◌≡◌, sym, ap, ◌∙◌, subst}
use mathlib.Core.Bool.{Bool, true, false}
use mathlib.Core.List.{List, [], ◌++◌}
use Prim.Native.Nat.{ℕ, ◌+◌, ◌-◌, ◌*◌, ◌/◌, ◌≤◌, ◌<◌, min}
use native.Mathlib.Nat.{min-le_left, min-le_right, min-eq_left, min-eq_right}
use native.Mathlib.Decide.{dec_lt, dec_le}
use native.Mathlib.Omega.{arith}
use lib.ListN.{length, get_or}
use Rattle.blocks.specs.declared.Block.{Block}
use Rattle.blocks.specs.Put.{Put}
use Rattle.blocks.specs.Laws.Put.{Filling, filling-starts, filling-on, filling-ends}
use Rattle.overlay.specs.Cover.{covered_bit, covered_byte}
use Rattle.overlay.specs.Theorems.CoverFacts.{byte-from, byte-fails}
use Rattle.overlay.specs.Laws.Order.{Row}
use Rattle.overlay.specs.Runs.{runs_from, differ, listed, shorter, runs_of}
use Rattle.overlay.specs.Steps.{Chain}
use Rattle.overlay.specs.Trial.{Trial}
use Rattle.overlay.proofs.BlockLaws.{starts-rise, gap-free, chain-covers, chain-rises, chain_next, chain-gap}
use Rattle.overlay.proofs.RunLaws.{skip, cut, runs_same, runs-end, runs_none, few-runs}

-- the smaller of two numbers
record Least (a b m : ℕ) : Type 0 where
  pub left : m ≤ a
  pub right : m ≤ b
  pub one : m < b → m ≡ a

least : (a b m : ℕ) → m ≡ min a b → Least a b m
least a b m e =
    record {
      left = omega (arith, min-le_left a b);
      right = omega (arith, min-le_right a b);
      one = λ h. elim (dec_le a b) [
        | yes y ↦ e ∙ min-eq_left y
        | no y ↦ let k : b ≤ a = omega arith in absurd (omega (arith, min-eq_right k))
      ];
    }

least_above : (a b m k : ℕ) → Least a b m → k ≤ a → k ≤ b → k ≤ m
least_above a b m k l h g = elim (dec_lt m b) [ yes y ↦ omega (arith, l.one y) | no y ↦ omega arith ]

split : (p f n : ℕ) → p ≤ f → f ≤ n → n - p ≡ (f - p) + (n - f)
split p f n h g = omega arith

unfinished : (n p : ℕ) → 0 < n - p → p < n
unfinished n p h = omega arith

joined : (p f : ℕ) → p ≤ f → p + (f - p) ≡ f
joined p f h = omega arith

module _ (t : Trial) where
  abbrev os : List ℕ
  os = t.offsets

  abbrev ss : List ℕ
  ss = t.sizes

  abbrev covered : ℕ → Bool
  covered = covered_byte (covered_bit t.offsets t.sizes)

  not_listed : (x : ℕ) → covered x ≡ false → listed t x ≡ false
  unfolding listed
  not_listed x e = rw e

  listed-differ : (x : ℕ) → covered x ≡ true → listed t x ≡ differ t.overlay t.released x
  unfolding listed
  listed-differ x e = rw e

  -- the runs that begin at byte `place` or later
  abbrev left : ℕ → List Block
  left place = runs_from (listed t) place (shorter t - place) false

  -- Before block i: the runs of the bytes below `place` are written, and no byte from there on is covered that begins before block i.
  pub record Walked (i place : ℕ) : Type 0 where
    pub low : place ≤ shorter t
    pub under : i < length os → 8 * place ≤ get_or os i 0
    pub free : (x : ℕ) → place ≤ x → x < shorter t → (i < length os → 8 * x < get_or os i 0) → covered x ≡ false

  module _ (r : Row 0 t.offsets t.sizes) where
    walked-starts : Walked 0 0
    walked-starts =
        record {
          low = omega arith;
          under = λ h. omega arith;
          free = λ x l u h.
              byte-fails (covered_bit os ss) x (8 * x) (omega arith) (omega arith)
              (gap-free os ss r 0 (8 * x) (λ m v. absurd (omega arith)) (λ m v w. omega (arith, h (omega arith), starts-rise os ss r 0 m (omega arith) w)));
        }

    module _ (i last from to : ℕ) (c : Chain os ss i last)
        (f : from ≡ min ((get_or os i 0 + 0 + 7) / 8) (shorter t)) (g : to ≡ min ((get_or os last 0 + get_or ss last 0) / 8) (shorter t)) where
      lf : Least ((get_or os i 0 + 0 + 7) / 8) (shorter t) from
      lf = least ((get_or os i 0 + 0 + 7) / 8) (shorter t) from f

      lt : Least ((get_or os last 0 + get_or ss last 0) / 8) (shorter t) to
      lt = least ((get_or os last 0 + get_or ss last 0) / 8) (shorter t) to g

      walked_next : Walked (last + 1) to
      walked_next =
          record {
            low = lt.right;
            under = λ h. omega (arith, lt.left, chain_next os ss r i last c h);
            free = λ x l u h.
                let is : to ≡ (get_or os last 0 + get_or ss last 0) / 8 = lt.one (omega arith) in
                elim (dec_lt (8 * x) (get_or os last 0 + get_or ss last 0)) [
                  | yes y ↦
                      byte-fails (covered_bit os ss) x (get_or os last 0 + get_or ss last 0) (omega arith) (omega arith)
                      (chain-gap os ss r i last c (get_or os last 0 + get_or ss last 0) (omega arith) (chain_next os ss r i last c))
                  | no y ↦
                      byte-fails (covered_bit os ss) x (8 * x) (omega arith) (omega arith)
                      (chain-gap os ss r i last c (8 * x) (omega arith) h)
                ];
          }

      -- the chain's whole bytes
      whole : (x : ℕ) → from ≤ x → x < to → covered x ≡ true
      whole x l u =
          let is : from ≡ (get_or os i 0 + 0 + 7) / 8 = lf.one (omega (arith, lt.right)) in
          byte-from (covered_bit os ss) x (λ k m v. chain-covers os ss r i last c k (omega arith) (omega (arith, lt.left)))

      -- and the byte behind them
      stops : to < shorter t → listed t to ≡ false
      stops h = not_listed to (walked_next.free to (omega arith) h (λ v. omega (arith, lt.left, chain_next os ss r i last c v)))

      module _ (place : ℕ) (w : Walked i place) (more : i < length os) where
        pub from-above : place ≤ from
        from-above = least_above ((get_or os i 0 + 0 + 7) / 8) (shorter t) from place lf (omega (arith, w.under more)) w.low

        to-above : place ≤ to
        to-above =
            least_above ((get_or os last 0 + get_or ss last 0) / 8) (shorter t) to place lt
            (omega (arith, w.under more, chain-rises os ss r i last c)) w.low

        -- what lies before the chain's whole bytes is passed over
        passed : (x : ℕ) → place ≤ x → x < from → listed t x ≡ false
        passed x l u = not_listed x (w.free x l (omega (arith, lf.right)) (λ h. omega (arith, lf.left)))

        left_cut : left place ≡ runs_from (differ t.overlay t.released) from (to - from) false ++ left to
        left_cut =
            elim (dec_le from to) [
              | yes y ↦
                  let a = from-above in
                  let n : shorter t - place ≡ (from - place) + (shorter t - from) = split place from (shorter t) a lf.right in
                  let m : shorter t - from ≡ (to - from) + (shorter t - to) = split from to (shorter t) y lt.right in
                  let stop : (0 < shorter t - to → listed t (from + (to - from)) ≡ false) =
                  λ p. subst (λ (x : ℕ). listed t x ≡ false) (sym (joined from to y)) (stops (unfinished (shorter t) to p)) in
                  ap (λ (k : ℕ). runs_from (listed t) place k false) n
                  ∙ skip (listed t) (from - place) (shorter t - from) place (λ x l u. passed x l (subst (λ (k : ℕ). x < k) (joined place from a) u))
                  ∙ ap (λ (k : ℕ). runs_from (listed t) k (shorter t - from) false) (joined place from a)
                  ∙ ap (λ (k : ℕ). runs_from (listed t) from k false) m
                  ∙ cut (listed t) (to - from) (shorter t - to) from false stop
                  ∙ ap (λ (l : List Block). l ++ runs_from (listed t) (from + (to - from)) (shorter t - to) false)
                  (runs_same (listed t) (differ t.overlay t.released) (to - from) from false
                  (λ x l u. listed-differ x (whole x l (subst (λ (k : ℕ). x < k) (joined from to y) u))))
                  ∙ ap (λ (k : ℕ). runs_from (differ t.overlay t.released) from (to - from) false ++ runs_from (listed t) k (shorter t - to) false)
                  (joined from to y)
              | no y ↦
                  let b = to-above in
                  let n : shorter t - place ≡ (to - place) + (shorter t - to) = split place to (shorter t) b lt.right in
                  ap (λ (k : ℕ). runs_from (listed t) place k false) n
                  ∙ skip (listed t) (to - place) (shorter t - to) place (λ x l u. passed x l (omega arith))
                  ∙ ap (λ (k : ℕ). runs_from (listed t) k (shorter t - to) false) (joined place to b)
                  ∙ ap (λ (l : List Block). l ++ left to) (sym (runs-end (differ t.overlay t.released) from to (omega arith)))
            ]

    left-ends : (i place : ℕ) → Walked i place → length os ≤ i → left place ≡ []
    left-ends i place w h =
        let n : shorter t - place ≡ (shorter t - place) + 0 = omega arith in
        ap (λ (k : ℕ). runs_from (listed t) place k false) n
        ∙ skip (listed t) (shorter t - place) 0 place (λ x l u. not_listed x (w.free x l (omega (arith, w.low)) (λ v. absurd (omega arith))))
        ∙ runs_none (listed t) (place + (shorter t - place)) false

  -- what the loop holds before block i
  pub record Walking (i count : ℕ) (fs₀ cs₀ fs cs : List ℕ) : Type 0 where
    pub place : ℕ
    pub walked : Walked i place
    pub few : count ≤ place
    pub filling : Filling (runs_of t) (left place) 0 count fs₀ cs₀ fs cs

  module _ (r : Row 0 t.offsets t.sizes) (fs₀ cs₀ : List ℕ) where
    pub walking-starts : Walking 0 0 fs₀ cs₀ fs₀ cs₀
    unfolding runs_of
    walking-starts = record { place = 0; walked = walked-starts r; few = omega arith; filling = all_left }
      where
        all_left : Filling (runs_of t) (left 0) 0 0 fs₀ cs₀ fs₀ cs₀
        all_left =
            subst (λ (k : ℕ). Filling (runs_of t) (runs_from (listed t) 0 k false) 0 0 fs₀ cs₀ fs₀ cs₀) (omega arith) filling-starts

    pub walking_on : (i last from to count count' : ℕ) (fs cs fs' cs' : List ℕ) → i < length os → Chain os ss i last
        → from ≡ min ((get_or os i 0 + 0 + 7) / 8) (shorter t) → to ≡ min ((get_or os last 0 + get_or ss last 0) / 8) (shorter t)
        → Walking i count fs₀ cs₀ fs cs
        → Put (runs_from (differ t.overlay t.released) from (to - from) false) count fs cs count' fs' cs'
        → Walking (last + 1) count' fs₀ cs₀ fs' cs'
    walking_on i last from to count count' fs cs fs' cs' more c f g w p =
        let a = from-above r i last from to c f g w.place w.walked more in
        let b = to-above r i last from to c f g w.place w.walked more in
        record {
          place = to;
          walked = walked_next r i last from to c f g;
          few = omega (arith, w.few, p.counted, few-runs (differ t.overlay t.released) from (to - from) false);
          filling =
              filling-on (runs_from (differ t.overlay t.released) from (to - from) false) (left to)
              (left_cut r i last from to c f g w.place w.walked more) w.filling p;
        }

    pub walking-ends : (i count : ℕ) (fs cs : List ℕ) → length os ≤ i → Walking i count fs₀ cs₀ fs cs → Put (runs_of t) 0 fs₀ cs₀ count fs cs
    walking-ends i count fs cs h w =
        filling-ends (left-ends r i w.place w.walked h) w.filling
