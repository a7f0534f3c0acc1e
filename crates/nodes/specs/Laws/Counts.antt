-- The counts of the list check: each count that the code turns away, the choice that it does, and the nodes where all of them are sound.
use Rattle.std.specs.Prelude.{ℕ, ◌*◌, ◌<◌, ◌≤◌, ◌≡◌, Err}
use Rattle.std.proofs.Math.ListN.{length}
use borrow.Author.Tests.{le-leb, lt-leb, eq-eqb, ne_eqb}
use Rattle.prelude.specs.Limits.{max_nodes, max_rows}
use Rattle.prelude.specs.declared.Refusal.TheVariants.{Malformed}
use Rattle.prelude.specs.Verdict.{Verdict}
use Rattle.nodes.specs.Lists.{Lists, nodes_to, lists_of}

module _ (banks : ℕ) (l : Lists) (fill : ℕ) where
  pub too-many-nodes : max_nodes < length l.kinds → Err (Malformed 0) ≡ lists_of banks l fill
  unfolding lists_of
  too-many-nodes h = rw (lt-leb (length l.kinds) max_nodes)

  module _ (nodes : length l.kinds ≤ max_nodes) where
    pub other-operands : (length l.operands ≡ length l.kinds → ⊥) → Err (Malformed 0) ≡ lists_of banks l fill
    unfolding lists_of
    other-operands h = rw (le-leb (length l.kinds) max_nodes, ne_eqb (length l.operands) (length l.kinds))

    module _ (operands : length l.operands ≡ length l.kinds) where
      pub no_rows : l.rows < 1 → Err (Malformed 1) ≡ lists_of banks l fill
      unfolding lists_of
      no_rows h = rw (le-leb (length l.kinds) max_nodes, eq-eqb (length l.operands) (length l.kinds), lt-leb 1 l.rows)

      module _ (some : 1 ≤ l.rows) where
        pub too_many_rows : max_rows < l.rows → Err (Malformed 1) ≡ lists_of banks l fill
        unfolding lists_of
        too_many_rows h =
            rw (le-leb (length l.kinds) max_nodes, eq-eqb (length l.operands) (length l.kinds), le-leb 1 l.rows, lt-leb l.rows max_rows)

        module _ (few : l.rows ≤ max_rows) where
          pub other-numbers : (length l.numbers ≡ l.rows * length l.kinds → ⊥) → Err (Malformed 1) ≡ lists_of banks l fill
          unfolding lists_of
          other-numbers h =
              rw (
                le-leb (length l.kinds) max_nodes,
                eq-eqb (length l.operands) (length l.kinds),
                le-leb 1 l.rows,
                le-leb l.rows
                    max_rows,
                ne_eqb (length l.numbers) (l.rows * length l.kinds),
              )

          module _ (numbers : length l.numbers ≡ l.rows * length l.kinds) where
            pub other-states : (length l.states ≡ l.rows * length l.kinds → ⊥) → Err (Malformed 1) ≡ lists_of banks l fill
            unfolding lists_of
            other-states h =
                rw (
                  le-leb (length l.kinds) max_nodes,
                  eq-eqb (length l.operands) (length l.kinds),
                  le-leb 1 l.rows,
                  le-leb l.rows
                      max_rows,
                  eq-eqb (length l.numbers) (l.rows * length l.kinds),
                  ne_eqb (length l.states) (l.rows * length l.kinds),
                )

            module _ (states : length l.states ≡ l.rows * length l.kinds) where
              pub unknown-choice : 1 < fill → Err (Malformed 3) ≡ lists_of banks l fill
              unfolding lists_of
              unknown-choice h =
                  rw (
                    le-leb (length l.kinds) max_nodes,
                    eq-eqb (length l.operands) (length l.kinds),
                    le-leb 1 l.rows,
                    le-leb l.rows max_rows,
                    eq-eqb (length l.numbers) (l.rows * length l.kinds),
                    eq-eqb (length l.states) (l.rows * length l.kinds),
                    lt-leb fill 1,
                  )

              pub sound-counts : fill ≤ 1 → {v : Verdict} → v ≡ nodes_to banks l (length l.kinds) → v ≡ lists_of banks l fill
              unfolding lists_of
              sound-counts h e =
                  rw (
                    le-leb (length l.kinds) max_nodes,
                    eq-eqb (length l.operands) (length l.kinds),
                    le-leb 1 l.rows,
                    le-leb l.rows max_rows,
                    eq-eqb (length l.numbers) (l.rows * length l.kinds),
                    eq-eqb (length l.states) (l.rows * length l.kinds),
                    le-leb fill 1,
                  ) e
