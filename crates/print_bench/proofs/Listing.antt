-- The list of runs: how long its lines can be, and what `differences` leaves of it in what was lent.
use Rattle.std.specs.Prelude.{Result, Ok, Err}
use mathlib.Core.Path.{◌≡◌, refl, sym, ap, ap₂, subst, ◌∙◌}
use mathlib.Core.Bool.{Bool, true, false}
use mathlib.Core.List.{List, [], ◌∷◌, ◌++◌}
use Prim.Native.Nat.{ℕ, zero, suc, ◌+◌, ◌*◌, ◌≤◌, ◌<◌}
use native.Mathlib.Nat.{min-le_left, min-le_right}
use native.Mathlib.Omega.{arith}
use borrow.Author.Tests.{leb-true}
use lib.Dec.{leb}
use lib.ListN.{length, take, drop, get_or, length-append, length-map, get_or-map}
use lib.Seq.{take_at}
use Rattle.prelude.specs.Laws.Bools.{unlike}
use Rattle.prelude.specs.Laws.Pick.{pick_true}
use Rattle.prelude.specs.Pick.{pick}
use Rattle.prelude.specs.declared.Refusal.{Refusal}
use Rattle.prelude.specs.declared.Refusal.TheVariants.{Malformed, TooShort}
use Rattle.blocks.specs.declared.Block.{Block}
use Rattle.blocks.specs.Outcome.{origins, sizes, room_for}
use Rattle.blocks.specs.Walk.{block}
use Rattle.overlay.specs.Laws.RunFacts.{each-good}
use Rattle.overlay.specs.List.{Lists}
use Rattle.overlay.specs.Order.{in_order}
use Rattle.overlay.specs.Runs.{length_from, begun, runs_from, listed, shorter, runs_of}
use Rattle.overlay.specs.Trial.{Trial}
use Rattle.print_text.specs.Ascii.{ascii}
use Rattle.print_text.specs.Laws.Lengths.{spaced-few}
use Rattle.print_text.specs.Lines.{line, refusal_text}
use Rattle.print_bench.specs.Images.{bytes_room}
use Rattle.print_bench.specs.Program.{runs_room, run_text, run_lines, alone_text, list_text}
use Rattle.print_bench.specs.Steps.{EachInBoth}
use Rattle.print_bench.proofs.Laws.{length_run}

-- ---- the bytes of all runs, and one behind each but the last, are no more than those of the shorter image

abbrev total : List ℕ → ℕ
total [] = 0
total (x ∷ l) = x + total l

module _ (test : ℕ → Bool) where
  counts-few : (at n : ℕ) (inside : Bool)
      → total (sizes (runs_from test at n inside)) + length (runs_from test at n inside) + pick inside (suc (length_from test at n)) 0 ≤ suc n
  unfolding runs_from length_from
  counts-few at zero true = omega arith
  counts-few at zero false = omega arith
  counts-few at (suc n) inside = go (test at) inside (counts-few (suc at) n (test at))
    where
      go : (here inside : Bool)
          → total (sizes (runs_from test (suc at) n here)) + length (runs_from test (suc at) n here) + pick here (suc (length_from test (suc at) n)) 0 ≤ suc n
          → total (sizes (begun here inside (block at (pick here (suc (length_from test (suc at) n)) 0)) ++ runs_from test (suc at) n here))
          + length (begun here inside (block at (pick here (suc (length_from test (suc at) n)) 0)) ++ runs_from test (suc at) n here)
          + pick inside (suc (pick here (suc (length_from test (suc at) n)) 0)) 0 ≤ suc (suc n)
      go true true h = omega (arith, h)
      go true false h = omega (arith, h)
      go false true h = omega (arith, h)
      go false false h = omega (arith, h)

-- ---- the lines

module _ (load : ℕ) (released overlay : List ℕ) (low : load ≤ 4294967295) where
  lines-few : (fs cs : List ℕ) → EachInBoth released overlay fs cs → length (run_lines load released overlay fs cs) ≤ 30 * length fs + 4 * total cs
  unfolding run_lines
  lines-few [] cs each = omega arith
  lines-few (f ∷ fs) [] each = omega arith
  lines-few (f ∷ fs) (c ∷ cs) each =
      let b = each 0 (omega arith) in
      let near = b.near in
      omega (
        arith,
        length-append (run_text load released overlay f c) (run_lines load released overlay fs cs),
        length_run load released overlay f c b.issued b.overlaid,
        spaced-few ((load + f) ∷ c ∷ []) (omega arith, (omega arith, tt)),
        lines-few fs cs (λ i h. each (suc i) (omega arith)),
      )

module _ (t : Trial) (small : length t.released ≤ bytes_room) (little : length t.overlay ≤ bytes_room) where
  below : shorter t ≤ length t.overlay
  unfolding shorter
  below = min-le_left (length t.overlay) (length t.released)

  below-too : shorter t ≤ length t.released
  unfolding shorter
  below-too = min-le_right (length t.overlay) (length t.released)

  inside_both : (i : ℕ) → i < length (runs_of t) → (get_or (runs_of t) i (block 0 0)).origin + (get_or (runs_of t) i (block 0 0)).size ≤ shorter t
  unfolding runs_of
  inside_both i h = omega (arith, (each-good (listed t) 0 (shorter t) false i h).within)

  all-counts : total (sizes (runs_of t)) + length (runs_of t) ≤ suc (shorter t)
  unfolding runs_of
  all-counts = omega (arith, counts-few (listed t) 0 (shorter t) false)

  each-run : EachInBoth t.released t.overlay (origins (runs_of t)) (sizes (runs_of t))
  each-run i h =
      let few : i < length (runs_of t) = omega (arith, length-map (runs_of t) (λ r. r.origin)) in
      let first = get_or-map (λ (r : Block). r.origin) (runs_of t) i (block 0 0) in
      let count = get_or-map (λ (r : Block). r.size) (runs_of t) i (block 0 0) in
      let both : get_or (origins (runs_of t)) i 0 + get_or (sizes (runs_of t)) i 0 ≤ shorter t = omega (arith, first, count, inside_both i few) in
      record {
        issued = omega (arith, both, below-too);
        overlaid = omega (arith, both, below);
        near = omega (arith, both, below, little);
      }

  all_lines : (load : ℕ) → load ≤ 4294967295 → length (runs_of t) ≤ runs_room
      → length (run_lines load t.released t.overlay (origins (runs_of t)) (sizes (runs_of t))) ≤ 3801092
  all_lines load low few =
      omega (
        arith,
        lines-few load t.released t.overlay low (origins (runs_of t)) (sizes (runs_of t)) each-run,
        length-map (runs_of t) (λ (r : Block). r.origin),
        few,
        all-counts,
        below,
        little,
      )

  -- ---- what stands in what was lent

  module _ (fs cs : List ℕ) (r : Result ℕ Refusal) (fs' cs' : List ℕ) (met : Lists t fs cs r fs' cs') (long : length fs ≡ runs_room) (wide : length cs ≡ runs_room) where
    twice : (b : Bool) → pick b b false ≡ b
    twice true = refl
    twice false = refl

    abbrev n : ℕ
    n = length (runs_of t)

    roomy : room_for (runs_of t) fs cs ≡ leb n runs_room
    roomy = ap₂ (λ (a b : ℕ). pick (leb n a) (leb n b) false) long wide ∙ twice (leb n runs_room)

    answered : r ≡ pick (in_order 0 t.offsets t.sizes) (pick (leb n runs_room) (Ok n) (Err (TooShort 2))) (Err (Malformed 0))
    answered = met.answer ∙ ap (λ (b : Bool). pick (in_order 0 t.offsets t.sizes) (pick b (Ok n) (Err (TooShort 2))) (Err (Malformed 0))) roomy

    same-refusal : {a b : Refusal} → ◌≡◌ {A = Result ℕ Refusal} (Err a) (Err b) → a ≡ b
    same-refusal e = cc

    not-refused : {m : ℕ} {why : Refusal} → Ok m ≡ Err why → ⊥
    not-refused e = unlike cc

    by_tests : (o b : Bool) (why : Refusal) (text : List ℕ) → Err why ≡ pick o (pick b (Ok n) (Err (TooShort 2))) (Err (Malformed 0))
        → refusal_text why ≡ pick o (pick b text (refusal_text (TooShort 2))) (refusal_text (Malformed 0))
    by_tests true true why text e = absurd (not-refused (sym e))
    by_tests true false why text e = ap refusal_text (same-refusal e)
    by_tests false b why text e = ap refusal_text (same-refusal e)

    pub list-refused : (load alone : ℕ) (why : Refusal) → r ≡ Err why → refusal_text why ≡ list_text load alone t
    unfolding list_text
    list-refused load alone why e = by_tests (in_order 0 t.offsets t.sizes) (leb n runs_room) why _ (sym e ∙ answered)

    module _ (count : ℕ) (found : r ≡ Ok count) where
      tests : (o b : Bool) → Ok count ≡ pick o (pick b (Ok n) (Err (TooShort 2))) (Err (Malformed 0)) → (o ≡ true) × (b ≡ true) × (count ≡ n)
      tests true true e = (refl, refl, cc)
      tests true false e = absurd (not-refused e)
      tests false b e = absurd (not-refused e)

      all_three : (in_order 0 t.offsets t.sizes ≡ true) × (leb n runs_room ≡ true) × (count ≡ n)
      all_three = tests (in_order 0 t.offsets t.sizes) (leb n runs_room) (sym found ∙ answered)

      pub counted : count ≡ n
      counted = all_three.2

      first : take count fs' ≡ origins (runs_of t)
      first =
          ap (take count) (met.first ∙ pick_true _ _ all_three.0 ∙ pick_true _ _ (roomy ∙ all_three.1))
          ∙ take_at (origins (runs_of t)) (drop (length (origins (runs_of t))) fs) count (length-map (runs_of t) (λ (x : Block). x.origin) ∙ sym counted)

      second : take count cs' ≡ sizes (runs_of t)
      second =
          ap (take count) (met.second ∙ pick_true _ _ all_three.0 ∙ pick_true _ _ (roomy ∙ all_three.1))
          ∙ take_at (sizes (runs_of t)) (drop (length (sizes (runs_of t))) cs) count (length-map (runs_of t) (λ (x : Block). x.size) ∙ sym counted)

      pub each-listed : EachInBoth t.released t.overlay (take count fs') (take count cs')
      each-listed = subst (λ (x : List ℕ). EachInBoth t.released t.overlay x (take count cs')) (sym first)
          (subst (λ (x : List ℕ). EachInBoth t.released t.overlay (origins (runs_of t)) x) (sym second) each-run)

      same_lines : (load : ℕ) → run_lines load t.released t.overlay (take count fs') (take count cs')
          ≡ run_lines load t.released t.overlay (origins (runs_of t)) (sizes (runs_of t))
      same_lines load = ap₂ (run_lines load t.released t.overlay) first second

      pub lines_fit : (load : ℕ) → load ≤ 4294967295 → length (run_lines load t.released t.overlay (take count fs') (take count cs')) ≤ 3801092
      lines_fit load low = omega (arith, ap length (same_lines load), all_lines load low (leb-true n runs_room all_three.1))

      pub list-is : (load alone : ℕ)
          → run_lines load t.released t.overlay (take count fs') (take count cs') ++ alone_text load (length t.overlay) alone
          ++ line (ascii "runs") (count ∷ [])
          ≡ list_text load alone t
      unfolding list_text
      list-is load alone =
          ap₂ (λ (x : List ℕ) (k : ℕ). x ++ alone_text load (length t.overlay) alone ++ line (ascii "runs") (k ∷ [])) (same_lines load) counted
          ∙ sym (pick_true _ _ all_three.0 ∙ pick_true _ _ all_three.1)
