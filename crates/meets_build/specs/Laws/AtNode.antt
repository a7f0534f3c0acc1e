-- A node that the build gets to: it is refused there with 9, 10, 11, 12 or 13 exactly when the sentences say so of it, each where those before it are not
-- met.
-- Whom 12 names stands in Naming.
use Rattle.std.specs.Prelude.{◌≡◌, refl, Bool, true, false, ◌⊎◌, ◌↔◌, ℕ, zero, suc, ◌+◌, ◌-◌, ◌≤◌, ◌<◌, min, length}
use Rattle.std.proofs.Common.{sym, ap, subst, ◌∙◌, inl, inr, ⊎_elim, arith}
use mathlib.Core.List.{List, [], ◌∷◌, Memᴰ}
use Rattle.prelude.specs.declared.Place.{Place}
use Rattle.prelude.specs.declared.Place.TheVariants.{One}
use Rattle.overlap_checker.specs.Folds.{nonzero, empties}
use Rattle.overlap_checker.specs.Interval.{interval}
use Rattle.overlap_checker.specs.declared.Entry.{Entry}
use Rattle.output.specs.Calls.{Call, visit_in}
use Rattle.output.specs.Output as out
use Rattle.output.specs.Output.{Builds}
use Rattle.output.specs.RefusedAtNode as at-node
use Rattle.output.specs.RefusedAtNode.{Reaches, RefusedThere}
use Rattle.output.proofs.RefusedAtNode.{GetsPast, refused-9-exactly, refused-10-exactly, refused-11-exactly, refused-12-exactly}
use Rattle.output.proofs.RefusedAtNode.{refused-12-empty-exactly, refused-13-exactly, refused-13-empty-exactly}
use Rattle.output.specs.declared.Output.{Output}
use Rattle.build_plan.specs.Placing.{offer_of}
use Rattle.resolver.specs.Layout.{Checked}
use Rattle.build_visits.specs.Visits.{seen_pos, position_of}
use Rattle.build_visits.specs.declared.Visit.{Visit}
use Rattle.says.specs.Build as says
use Rattle.says.specs.Build.{Given, nodes, Offer}
use Rattle.meets_sentences.specs.Grounds.{Overlaps, Nine, Ten, Eleven}
use Rattle.meets_build.specs.Laws.Shown.{Shown, listed}
use Rattle.meets_sentences.specs.Typed.{Typed}
use Rattle.meets_build.specs.Laws.Table.{table}
use Rattle.meets_build.specs.Laws.Walk.{Goes}
use Rattle.meets_build.specs.Laws.Contract.{input_of}
use Rattle.meets_build.specs.Laws.Visited.{visited, offer-when, nine-exactly, ten-exactly, eleven-exactly}
use Rattle.meets_build.specs.Laws.Offers.{offers_to}
use Rattle.meets_build.specs.Laws.Clashes.{overlaps-exactly, inside-exactly}

module _ (g : Given) (typed : Typed g) (shown : Shown g (table g)) (ck : Checked (table g) (listed g) g.fill) (old : out.Lent) (answer : Output)
    (new : out.Lent) (meets : Builds (input_of g typed) old answer new) where
  abbrev pub call : Call
  call = record { given = input_of g typed; old = old; answer = answer; new = new; meets = meets }

  -- "The build uses the row of the last pass."
  abbrev pub row_here : ℕ
  row_here = min answer.passes g.rows - 1

  abbrev r : ℕ
  r = row_here

  module _ (all : Goes g (table g) shown ck r (nodes g)) (i : ℕ) (x : Reaches call i) where
    h : i < nodes g
    h = x.listed

    at-is : position_of (visited g (table g) shown ck r all i h) ≡ x.at.position
    at-is = ap (λ m. (seen_pos m).position) x.sees

    ten-here : at-node.Ten (visit_in call i) x.at.position ↔ Ten g r i
    ten-here = subst (λ (p : ℕ). at-node.Ten (visit_in call i) p ↔ Ten g r i) at-is (ten-exactly g (table g) shown ck r all i h)

    nine-here : at-node.Nine (input_of g typed) (visit_in call i) ↔ Nine g r i
    nine-here = nine-exactly g typed shown ck r all i h

    eleven-here : at-node.Eleven (visit_in call i) ↔ Eleven g r i
    eleven-here = eleven-exactly g (table g) shown ck r all i h

    pub nine-there : RefusedThere call i 9 (One i) ↔ Nine g r i
    nine-there = (
      λ t. nine-here.0 ((refused-9-exactly call i x).0 t),
      λ t. (refused-9-exactly call i x).1 (nine-here.1 t),
    )

    pub ten-there : RefusedThere call i 10 (One i) ↔ ((Nine g r i → ⊥) × Ten g r i)
    ten-there = (
      λ t. let y = (refused-10-exactly call i x).0 t in (λ n. y.0 (nine-here.1 n), ten-here.0 y.1),
      λ t. (refused-10-exactly call i x).1 (λ n. t.0 (nine-here.0 n), ten-here.1 t.1),
    )

    pub eleven-there : RefusedThere call i 11 (One i) ↔ ((Nine g r i → ⊥) × (Ten g r i → ⊥) × Eleven g r i)
    eleven-there = (
      λ t. let y = (refused-11-exactly call i x).0 t in (λ n. y.0 (nine-here.1 n), λ n. y.1 (ten-here.1 n), eleven-here.0 y.2),
      λ t. (refused-11-exactly call i x).1 (λ n. t.0 (nine-here.0 n), λ n. t.1 (ten-here.0 n), eleven-here.1 t.2),
    )

    module _ (not-9 : Nine g r i → ⊥) (not-10 : Ten g r i → ⊥) (not-11 : Eleven g r i → ⊥) where
      pub gets-past : GetsPast call i x
      gets-past = record { nine = λ n. not-9 (nine-here.0 n); ten = λ n. not-10 (ten-here.0 n); eleven = λ n. not-11 (eleven-here.0 n) }

      module _ (y m : ℕ) (o : Offer g r i y m) where
        abbrev e : Entry
        e = interval y m

        offered : Memᴰ e (offer_of (visit_in call i))
        offered = subst (Memᴰ e) (sym (offer-when g (table g) shown ck r all i h o)) (Memᴰ.head refl)

        low : i ≤ nodes g
        low = let k = h in omega arith

        -- 12: "a placement overlaps"
        pub twelve-there : ((place : Place) × RefusedThere call i 12 place) ↔ Overlaps g r i y m
        twelve-there =
            ⊎_elim
            (λ (z : m ≡ 0).
            let a = refused-12-empty-exactly call i x gets-past e offered z in
            let b = inside-exactly g (table g) shown ck r all i low e z in
            (λ t. b.0 (a.0 t), λ t. a.1 (b.1 t)))
            (λ (s : 0 < m).
            let a = refused-12-exactly call i x gets-past e offered s in
            let b = overlaps-exactly g (table g) shown ck r all i low e s in
            (λ t. b.0 (a.0 t), λ t. a.1 (b.1 t)))
            (zero_or m)
          where
            zero_or : (k : ℕ) → (k ≡ 0) ⊎ (0 < k)
            zero_or zero = inl refl
            zero_or (suc k) = inr (omega arith)

        -- 13: "the store holds 512": of intervals, for an offer of bits,
        pub thirteen-there : 0 < m → RefusedThere call i 13 (One i)
            ↔ ((length (nonzero (offers_to g (table g) shown ck r all i)) ≡ 512) × (Overlaps g r i y m → ⊥))
        thirteen-there s =
            let a = refused-13-exactly call i x gets-past e offered s in
            let b = overlaps-exactly g (table g) shown ck r all i low e s in (
              λ t. let k = a.0 t in (k.0, λ q. ⊎_elim k.1 k.2 (b.1 q)),
              λ t. a.1 (t.0, λ q. t.1 (b.0 (inl q)), λ q. t.1 (b.0 (inr q))),
            )

        -- of marks, for one of size 0
        pub thirteen-mark : m ≡ 0 → RefusedThere call i 13 (One i)
            ↔ ((length (empties (offers_to g (table g) shown ck r all i)) ≡ 512) × (Overlaps g r i y m → ⊥))
        thirteen-mark z =
            let a = refused-13-empty-exactly call i x gets-past e offered z in
            let b = inside-exactly g (table g) shown ck r all i low e z in (
              λ t. let k = a.0 t in (k.0, λ q. k.1 (b.1 q)),
              λ t. a.1 (t.0, λ q. t.1 (b.0 q)),
            )
