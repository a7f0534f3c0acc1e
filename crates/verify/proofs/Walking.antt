-- The walk over the bytes: what it holds at byte b, one turn, and its end.
use mathlib.Core.Path.{◌≡◌, refl, ap, ◌∙◌, subst}
use mathlib.Core.Bool.{Bool}
use mathlib.Core.List.{List, ◌++◌}
use Prim.Native.Nat.{ℕ, suc, ◌+◌, ◌-◌, ◌*◌, ◌≤◌, ◌<◌}
use native.Mathlib.Numerals.{add-one}
use native.Mathlib.Omega.{arith}
use native.Mathlib.Decide.{ℕ_discrete}
use borrow.Author.Tests.{eq-eqb, ne_eqb}
use lib.Dec.{eqb}
use lib.ListN.{length, get_or}
use Rattle.overlay.specs.Cover.{covered_bit}
use Rattle.verify.specs.Whole.{Sound}
use Rattle.verify.specs.Runs.{Readback, Run, kind_by, kind_of, closed, closed_at, started_at, runs_from, runs_of}
use Rattle.verify.specs.Put.{Cursor, Put}
use Rattle.verify.proofs.Cursors.{cursor-starts}
use Rattle.verify.proofs.Filling.{Filling, filling-starts, filling-on, filling-ends}

-- what is to be said of byte b, by its parts
pub kind-is : (t : Readback) (b : ℕ) {n x y : ℕ} {a g : Bool} → n ≡ kind_by a g (eqb x y) → a ≡ covered_bit t.offsets t.sizes (8 * b)
    → g ≡ covered_bit t.given_offsets t.given_sizes (8 * b) → x ≡ get_or t.image b 0 → y ≡ get_or t.bytes b 0 → n ≡ kind_of t b
unfolding kind_of
kind-is t b e f g h i = e ∙ rw (f, g, h, i)

started_below : (kind next first b : ℕ) → first ≤ b → started_at kind next first b ≤ b
started_below kind next first b h =
    elim (ℕ_discrete next kind) [
      | yes y ↦ rw (eq-eqb next kind y) h
      | no y ↦ rw (ne_eqb next kind y) (omega arith)
    ]

-- the list by its first byte, and by none
runs-more : (kinds : ℕ → ℕ) (kind first b n : ℕ)
    → runs_from kinds kind first b (suc n) ≡ closed_at kind (kinds b) first b ++ runs_from kinds (kinds b) (started_at kind (kinds b) first b) (suc b) n
unfolding runs_from
runs-more kinds kind first b n = refl

runs_last : (kinds : ℕ → ℕ) (kind first b : ℕ) → runs_from kinds kind first b 0 ≡ closed kind first b
unfolding runs_from
runs_last kinds kind first b = refl

module _ (t : Readback) (fs₀ cs₀ ks₀ : List ℕ) where
  abbrev pub left : ℕ → ℕ → ℕ → List Run
  left kind first b = runs_from (kind_of t) kind first b (length t.image - b)

  pub record Walking (fs cs ks : List ℕ) (at given kind first n b : ℕ) : Type 0 where
    pub asks : Cursor t.offsets t.sizes b at
    pub gives : Cursor t.given_offsets t.given_sizes b given
    pub started : first ≤ b
    pub few : n ≤ b
    pub filling : Filling (runs_of t) (left kind first b) n fs₀ cs₀ ks₀ fs cs ks

  pub walking-starts : Sound t.offsets t.sizes → Sound t.given_offsets t.given_sizes → Walking fs₀ cs₀ ks₀ 0 0 0 0 0 0
  unfolding runs_of
  walking-starts s g = let e : length t.image ≡ length t.image - 0 = omega arith in record {
    asks = cursor-starts t.offsets t.sizes s;
    gives = cursor-starts t.given_offsets t.given_sizes g;
    started = omega arith;
    few = omega arith;
    filling = subst (λ (m : ℕ). Filling (runs_of t) (runs_from (kind_of t) 0 0 0 m) 0 fs₀ cs₀ ks₀ fs₀ cs₀ ks₀) e filling-starts;
  }

  turn : (kind first b : ℕ) → b < length t.image
      → left kind first b ≡ closed_at kind (kind_of t b) first b ++ left (kind_of t b) (started_at kind (kind_of t b) first b) (b + 1)
  turn kind first b h =
      let e : length t.image - b ≡ suc (length t.image - (b + 1)) = omega arith in
      ap (runs_from (kind_of t) kind first b) e ∙ runs-more (kind_of t) kind first b (length t.image - (b + 1)) ∙ rw add-one

  pub walking_on : {fs cs ks fs' cs' ks' : List ℕ} {at given kind first n b next r at' given' first' : ℕ} → b < length t.image
      → Walking fs cs ks at given kind first n b → next ≡ kind_of t b → Put (closed_at kind next first b) n fs cs ks (n + r) fs' cs' ks' → r ≤ 1
      → first' ≡ started_at kind next first b → Cursor t.offsets t.sizes (b + 1) at' → Cursor t.given_offsets t.given_sizes (b + 1) given'
      → Walking fs' cs' ks' at' given' next first' (n + r) (b + 1)
  walking_on {kind = kind} {first} {n} {b} {next} {r} {first' = first'} h w e p one f a g =
      let low : started_at kind next first b ≤ b = started_below kind next first b w.started in
      record {
        asks = a;
        gives = g;
        started = omega arith;
        few = omega (arith, w.few);
        filling = filling-on (closed_at kind next first b) (left next first' (b + 1)) (rw (f, e) (turn kind first b h)) w.filling p;
      }

  pub walking-ends : {fs cs ks fs' cs' ks' : List ℕ} {at given kind first n b m : ℕ} → b ≤ length t.image → length t.image ≤ b
      → Walking fs cs ks at given kind first n b → Put (closed kind first (length t.image)) n fs cs ks m fs' cs' ks'
      → Put (runs_of t) 0 fs₀ cs₀ ks₀ m fs' cs' ks'
  walking-ends {fs} {cs} {ks} {kind = kind} {first} {n} {b} h k w p =
      let e : length t.image - b ≡ 0 = omega arith in
      let f : b ≡ length t.image = omega arith in
      let last : left kind first b ≡ closed kind first (length t.image) = ap (runs_from (kind_of t) kind first b) e ∙ runs_last (kind_of t) kind first b
      ∙ ap (closed kind first) f in
      filling-ends (closed kind first (length t.image)) (subst (λ (l : List Run). Filling (runs_of t) l n fs₀ cs₀ ks₀ fs cs ks) last w.filling) p
