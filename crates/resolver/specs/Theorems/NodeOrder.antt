-- Theorems about what NodeOrder defines.
use Prim.Native.Nat.{ℕ, zero, suc, ◌%◌, ◌<◌, ◌≤◌, max}
use Rattle.std.specs.Prelude.{◌≡◌, Bool, not, ◌&&◌, ◌⊎◌, eqb, get_or, length, Err, Result, Ok}
use Rattle.std.proofs.Math.Path.{refl}
use Rattle.std.proofs.Common.{sym, ◌∙◌, subst, ⊎_elim, eq-or-lt_of_le, le_of_suc-le-suc, not-suc-le-zero, arith, eq-eqb, eqb-true}
use Rattle.std.proofs.Math.Bool.{true, false}
use Rattle.std.proofs.Math.Logic.{inl, inr}
use Rattle.std.proofs.lemmas.Bool.{eqb-false, not-true}
use Rattle.prelude.specs.Pick.{pick}
use Rattle.prelude.specs.declared.Refusal.{Refusal}
use Rattle.prelude.specs.declared.Refusal.TheVariants.{LabelOffBoundary}
use Rattle.prelude.specs.Laws.Bools.{clash, both}
use Rattle.iter.specs.Address.{on_boundary}
use Rattle.iter.specs.declared.Pos.{Pos}
use Rattle.resolver.specs.Laws.Least.{or-past}
use Rattle.nodes.specs.Lists.{Row}
use Rattle.resolver.specs.Once.{Program, Going, on, off, node, step_at, walk_to, label_state}
use Rattle.resolver.specs.Once.{state_of, off_boundary, met, goes_on, meets, pass_to, pass_of}
use Rattle.resolver.specs.Laws.NodeOrder.{ended, not-ended, refused-by, refused-for, seen_apart, stopped-same}
use Rattle.resolver.specs.NodeOrder.{GoesPast, OffBoundary, def_at, seen_at}

module _ (p : Program) (row : Row) where
  -- what a pass is refused for at node i: what stops the walk there, or 7 in the last pass
  abbrev pub StopsAt : Bool → ℕ → Refusal → Type 0
  StopsAt is_last i why = ((seen_at p row) i ≡ Err why) ⊎ ((is_last ≡ true) × (OffBoundary p row) i × (why ≡ LabelOffBoundary i))

  -- node i, one of the first n, is the first that a pass is refused at
  pub record MeetsFirst (is_last : Bool) (n i : ℕ) (why : Refusal) : Type 0 where
    pub listed : i < n
    pub here : StopsAt is_last i why
    pub before : (j : ℕ) → j < i → (GoesPast p row) is_last j

  stops-not-goes : (is_last : Bool) (i : ℕ) {why : Refusal} → StopsAt is_last i why → (GoesPast p row) is_last i → ⊥
  stops-not-goes is_last i (inl e) g = seen_apart g.seen e
  stops-not-goes is_last i (inr o) g =
      let same : g.now ≡ o.1.now = to_same (sym g.seen ∙ o.1.seen) in
      o.1.off (rw same at (g.on o.0 o.1.label))
    where
      to_same : {a b : Pos} → ◌≡◌ {A = Result Pos Refusal} (Ok a) (Ok b) → a ≡ b
      to_same e = cc

  stops-one : (is_last : Bool) (i : ℕ) {why other : Refusal} → StopsAt is_last i why → StopsAt is_last i other → why ≡ other
  stops-one is_last i (inl e) (inl f) = stopped-same e f
  stops-one is_last i (inl e) (inr o) = absurd (seen_apart o.1.seen e)
  stops-one is_last i (inr o) (inl f) = absurd (seen_apart o.1.seen f)
  stops-one is_last i (inr o) (inr q) = o.2 ∙ sym q.2

  -- the test of 7, by what it tells
  off-told : (is_last : Bool) (i : ℕ) (now : Pos) → off_boundary ((def_at p row) i) (node p row i) now is_last ≡ true
      → (is_last ≡ true) × (get_or p.kinds i 0 ≡ 2) × (now.position % ((def_at p row) i).unit ≡ 0 → ⊥)
  off-told is_last i now e =
      let a = both is_last (eqb (get_or p.kinds i 0) 2 && not (on_boundary ((def_at p row) i) now.position)) e in
      let b = both (eqb (get_or p.kinds i 0) 2) (not (on_boundary ((def_at p row) i) now.position)) a.1 in (
        a.0,
        eqb-true (get_or p.kinds i 0) 2 b.0,
        eqb-false (now.position % ((def_at p row) i).unit) 0 (not-true (on_boundary ((def_at p row) i) now.position) b.1),
      )

  on-told : (is_last : Bool) (i : ℕ) (now : Pos) → off_boundary ((def_at p row) i) (node p row i) now is_last ≡ false → is_last ≡ true → get_or p.kinds i 0 ≡ 2
      → now.position % ((def_at p row) i).unit ≡ 0
  on-told is_last i now e l k = go (eqb (now.position % ((def_at p row) i).unit) 0) refl
    where
      go : (t : Bool) → eqb (now.position % ((def_at p row) i).unit) 0 ≡ t → now.position % ((def_at p row) i).unit ≡ 0
      go true f = eqb-true (now.position % ((def_at p row) i).unit) 0 f
      go false f =
          let y : off_boundary ((def_at p row) i) (node p row i) now is_last ≡ true = rw (l, eq-eqb (get_or p.kinds i 0) 2 k, f) in
          absurd (clash y e)

  module _ (before : Row) (is_first is_last : Bool) where
    -- where a pass over the first n nodes stands: at the row's walk, every node passed; or at the first node that it is refused at
    abbrev Way : ℕ → Going → Type 0
    Way n g =
        ((s : ℕ) × (g ≡ on (walk_to p row n) s) × ((j : ℕ) → j < n → (GoesPast p row) is_last j))
        ⊎ ((i : ℕ) × (why : Refusal) × (g ≡ off why) × MeetsFirst is_last n i why)

    later : {n i : ℕ} {why : Refusal} → MeetsFirst is_last n i why → MeetsFirst is_last (suc n) i why
    later a = record { listed = omega (arith, a.listed); here = a.here; before = a.before }

    and-this : (n : ℕ) → ((j : ℕ) → j < n → (GoesPast p row) is_last j) → (GoesPast p row) is_last n → (j : ℕ) → j < suc n → (GoesPast p row) is_last j
    and-this n all this j h =
        ⊎_elim (λ (q : j ≡ n). rw q this) (λ (g : j < n). all j g) (eq-or-lt_of_le (le_of_suc-le-suc h))

    met-way : (n s : ℕ) → ((j : ℕ) → j < n → (GoesPast p row) is_last j) → (seen : Result Pos Refusal) → (seen_at p row) n ≡ seen →
        Way (suc n) (goes_on (step_at p row (walk_to p row n) n).walk
        (met ((def_at p row) n) (node p row n) (step_at p before (walk_to p before n) n).seen is_first is_last s seen))
    unfolding walk_to
    met-way n s all (Err why) e = inr (n, why, refl, record { listed = omega arith; here = inl e; before = all })
    met-way n s all (Ok now) e = tested (off_boundary ((def_at p row) n) (node p row n) now is_last) refl
      where
        tested : (t : Bool) → off_boundary ((def_at p row) n) (node p row n) now is_last ≡ t →
            Way (suc n) (goes_on (step_at p row (walk_to p row n) n).walk
            (pick t (Err (LabelOffBoundary n)) (Ok
            (max s (state_of (node p row n) (label_state ((def_at p row) n) now (step_at p before (walk_to p before n) n).seen is_first))))))
        tested true f =
            let o = off-told is_last n now f in
            inr (
              n,
              LabelOffBoundary n,
              refl,
              record {
                listed = omega arith;
                here = inr
                    (o.0, record { label = o.1; now = now; seen = e; off = o.2 }, refl);
                before = all;
              },
            )
        tested false f = inl (_, refl, and-this n all (record { now = now; seen = e; on = on-told is_last n now f }))

    next_way : (n : ℕ) (g : Going) → Way n g → Way (suc n) (meets p row before is_first is_last n g)
    next_way n g (inl a) = rw a.1 (met-way n a.0 a.2 ((seen_at p row) n) refl)
    next_way n g (inr b) = rw b.2 (inr (b.0, b.1, refl, later b.3))

    way : (n : ℕ) → Way n (pass_to p row before is_first is_last n)
    unfolding pass_to walk_to
    way zero = inl (0, refl, λ j. λ h. absurd (not-suc-le-zero h))
    way (suc n) = next_way n (pass_to p row before is_first is_last n) (way n)

    -- A pass is refused for what the first node meets that meets 5 or 7.
    pub first-met : (why : Refusal) → pass_of p row before is_first is_last ≡ Err why → (i : ℕ) × MeetsFirst is_last (length p.kinds) i why
    first-met why e =
        ⊎_elim (λ a. absurd (ended a.1 e))
        (λ b. (b.0, subst (MeetsFirst is_last (length p.kinds) b.0) (refused-for b.2 e) b.3))
        (way (length p.kinds))

    -- And where a node meets one first, the pass is refused for it.
    pub met-first : (i : ℕ) (why : Refusal) → MeetsFirst is_last (length p.kinds) i why → pass_of p row before is_first is_last ≡ Err why
    met-first i why m =
        ⊎_elim (λ a. absurd (stops-not-goes is_last i m.here (a.2 i m.listed)))
        (λ b. refused-by b.2 (same-why b.0 b.1 b.3))
        (way (length p.kinds))
      where
        at_one : (j : ℕ) (other : Refusal) → MeetsFirst is_last (length p.kinds) j other → i ≡ j → other ≡ why
        at_one j other n q = stops-one is_last i (rw q n.here) m.here

        same-why : (j : ℕ) (other : Refusal) → MeetsFirst is_last (length p.kinds) j other → other ≡ why
        same-why j other n =
            ⊎_elim
            (λ (h : i ≤ j).
            ⊎_elim (λ (q : i ≡ j). at_one j other n q) (λ (g : i < j). absurd (stops-not-goes is_last i m.here (n.before i g))) (eq-or-lt_of_le h))
            (λ (g : j < i). absurd (stops-not-goes is_last j n.here (m.before j g)))
            (or-past i j)

    -- A pass that comes to a state has gone past every node, and one that goes past every node comes to a state.
    pub ran-to-end : (s : ℕ) → pass_of p row before is_first is_last ≡ Ok s → (i : ℕ) → i < length p.kinds → (GoesPast p row) is_last i
    ran-to-end s e = ⊎_elim (λ a. a.2) (λ b. absurd (not-ended b.2 e)) (way (length p.kinds))

    pub runs-to-end : ((i : ℕ) → i < length p.kinds → (GoesPast p row) is_last i) → (s : ℕ) × (pass_of p row before is_first is_last ≡ Ok s)
    runs-to-end all =
        ⊎_elim (λ a. (a.0, rw a.1)) (λ b. absurd (stops-not-goes is_last b.0 b.3.here (all b.0 b.3.listed))) (way (length p.kinds))
