-- Theorems about what ListsExactly defines.
use Rattle.std.specs.Prelude.{ℕ, ◌≤◌, ◌≡◌, Bool, true, false, ◌↔◌, length, Err}
use Rattle.std.proofs.Math.Path.{refl}
use Rattle.std.proofs.Common.{ap}
use borrow.Author.Tests.{leb-true, leb-false, le-leb, lt-leb}
use Rattle.prelude.specs.Pick.{pick}
use Rattle.prelude.specs.Refusals.{place_of}
use Rattle.prelude.specs.declared.Place.TheVariants.{One}
use Rattle.prelude.specs.declared.Refusal.{Refusal}
use Rattle.prelude.specs.declared.Refusal.TheVariants.{Malformed}
use Rattle.prelude.specs.Verdict.{Verdict}
use Rattle.nodes.specs.Lists.{Lists, node_count_sound, row_count_sound, known_fill, nodes_to, lists_of}
use Rattle.nodes.specs.Theorems.Sound.{lowest-node, lowest-refused}
use Rattle.resolver.specs.ListsExactly.{MalformedAt, choice, node, node_count, row_count}

module _ (banks : ℕ) (l : Lists) (fill : ℕ) where
  refused-same : {a b : Refusal} → ◌≡◌ {A = Verdict} (Err a) (Err b) → a ≡ b
  refused-same e = cc

  place_same : {i j : ℕ} → Malformed i ≡ Malformed j → i ≡ j
  place_same e = one (ap place_of e)
    where
      one : {i j : ℕ} → One i ≡ One j → i ≡ j
      one e = cc

  nodes-at : (i : ℕ) → node_count_sound l ≡ true → row_count_sound l ≡ true → fill ≤ 1 → nodes_to banks l (length l.kinds) ≡ Err (Malformed i)
      → MalformedAt banks l fill i
  nodes-at i a b h e =
      let w = lowest-node banks l (length l.kinds) (Malformed i) e in
      rw (place_same w.2) (node a b h w.0 w.1)

  choice-at : (i : ℕ) → node_count_sound l ≡ true → row_count_sound l ≡ true → (t : Bool) → known_fill fill ≡ t
      → pick t (nodes_to banks l (length l.kinds)) (Err (Malformed 3)) ≡ Err (Malformed i) → MalformedAt banks l fill i
  choice-at i a b true h e = nodes-at i a b (leb-true fill 1 h) e
  choice-at i a b false h e = rw (← (place_same (refused-same e))) (choice a b (leb-false fill 1 h))

  rows_at : (i : ℕ) → node_count_sound l ≡ true → (t : Bool) → row_count_sound l ≡ t
      → pick t (pick (known_fill fill) (nodes_to banks l (length l.kinds)) (Err (Malformed 3))) (Err (Malformed 1)) ≡ Err (Malformed i)
      → MalformedAt banks l fill i
  rows_at i a true b e = choice-at i a b (known_fill fill) refl e
  rows_at i a false b e = rw (← (place_same (refused-same e))) (row_count a b)

  nodes-first : (i : ℕ) (t : Bool) → node_count_sound l ≡ t
      → pick t (pick (row_count_sound l) (pick (known_fill fill) (nodes_to banks l (length l.kinds)) (Err (Malformed 3))) (Err (Malformed 1)))
      (Err (Malformed 0)) ≡ Err (Malformed i)
      → MalformedAt banks l fill i
  nodes-first i true a e = rows_at i a (row_count_sound l) refl e
  nodes-first i false a e = rw (← (place_same (refused-same e))) (node_count a)

  at_place : (i : ℕ) → MalformedAt banks l fill i → lists_of banks l fill ≡ Err (Malformed i)
  unfolding lists_of
  at_place i (node_count a) = rw a
  at_place i (row_count a b) = rw (a, b)
  at_place i (choice a b h) = rw (a, b, lt-leb fill 1 h)
  at_place i (node a b h j w) = rw (a, b, le-leb fill 1 h, lowest-refused banks l (length l.kinds) j w)

  to-place : (i : ℕ) → lists_of banks l fill ≡ Err (Malformed i) → MalformedAt banks l fill i
  unfolding lists_of
  to-place i e = nodes-first i (node_count_sound l) refl e

  -- The lists are refused 4 at a place exactly when they are malformed there.
  pub malformed-exactly : (i : ℕ) → (lists_of banks l fill ≡ Err (Malformed i)) ↔ MalformedAt banks l fill i
  malformed-exactly i = (to-place i, at_place i)
