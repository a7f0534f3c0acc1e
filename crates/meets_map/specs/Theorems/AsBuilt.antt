-- The map and the build of one layout, from the sentences of both alone: the map is refused or stops exactly where the build is refused, with the same number
-- and places and after as many passes, but for 14, which is the build's alone; of a layout that is built it shows every node, the build's padding, and of each
-- label and written item the build's span.
use Rattle.std.specs.Prelude.{◌≡◌, refl, true, ◌⊎◌, ℕ, ◌/◌, ◌≤◌, ◌<◌, ℤ, pos, ◌+ℤ◌, get_or}
use Rattle.std.proofs.Common.{sym, subst, ◌∙◌, inl, inr, arith}
use Rattle.says.specs.Words as w
use Rattle.says.specs.Build as build
use Rattle.says.specs.Build.{Given, losing, unit, start, nodes, IsSpan, Spans, SpanAt, Extent, Laid, BuildSays}
use Rattle.says.specs.Words.{Not}
use Rattle.meets_sentences.specs.Laws.One.{number-one, at_one, sees-one, reads-one, word-one, three}
use Rattle.meets_sentences.specs.Theorems.Decides.{last_one, early, spans-less, build-decides}
use Rattle.meets_sentences.specs.Theorems.Outcomes.{AcceptedSo}
use Rattle.meets_profile.specs.Laws.Tried.{Clear, cleared, through}
use Rattle.says.specs.Map as m
use Rattle.says.specs.Map.{Lent, Outcome, no_node, Bits, Entry, refusal, Shows, Mapped, MapSays}

-- A map's outcome beside a build's: both refused for 1 to 4; the map stopped where the build is refused; or the map whole, and the build accepted or
-- refused 14.
pub data Agree (g : Given) (lent : build.Lent) (o : Outcome) : build.Outcome → Type 0 where
  refused : o.answer.stopped ≡ 0
      → Agree g lent o (build.refusal g lent o.answer.refusal o.answer.place o.answer.second o.answer.passes)
  stopped : o.answer.refusal ≡ 0
      → Agree g lent o (build.refusal g lent o.answer.stopped o.answer.place o.answer.second o.answer.passes)
  whole : {y : build.Outcome} → o.answer.refusal ≡ 0 → o.answer.stopped ≡ 0 → o.answer.nodes ≡ nodes g
      → (y.answer.refusal ≡ 0) ⊎ (y.answer.refusal ≡ 14) → y.answer.passes ≡ o.answer.passes → Agree g lent o y

module _ (g : Given) (old : Lent) (lent : build.Lent) where
  module _ (y : build.Outcome) (says : BuildSays g lent y) where
    -- what the build's sentences say is what the build comes to
    same-as : (number place second n : ℕ) → BuildSays g lent (build.refusal g lent number place second n) → build.refusal g lent number place second n ≡ y
    same-as number place second n s = build-decides g lent (build.refusal g lent number place second n) y s says

    early-agrees : (number place second : ℕ) → BuildSays g lent (build.refusal g lent number place second 0)
        → Agree g lent (refusal g old number place second) y
    early-agrees number place second s = subst (Agree g lent (refusal g old number place second)) (same-as number place second 0 s) (refused refl)

    module _ (c : Clear g) where
      through-checks : (z : build.Outcome) → Laid g lent z → BuildSays g lent z
      through-checks z l = through g (λ number place second. build.refusal g lent number place second 0) c l

      shown-agrees : {n r count number place second node : ℕ} (o : Outcome) → Shows g old n r count number place second node o
          → Laid g lent (build.refusal g lent number place second n) → Agree g lent o y
      shown-agrees {n = n} {number = number} {place = place} {second = second} o (m.shows {sums} {new} p f) l =
          subst (Agree g lent o) (same-as number place second n (through-checks _ l)) (stopped refl)

      whole-agrees : {k n r : ℕ} (o : Outcome) (z : build.Outcome) → Shows g old n r (nodes g) 0 0 0 no_node o → build.LastPass g k n
          → build.RunsThrough g n true
          → Not (build.Unresolved g n) → build.Reads g n r → ((i : ℕ) → build.Refuses g r i → ⊥) → Laid g lent z → Agree g lent o z
      whole-agrees o z s p run settled q clear (build.stops h l go f t) = absurd (early g h l go f.so p)
      whole-agrees o z s p run settled q clear (build.last-stops {i = i} p' f t) = absurd (run i (rw (last_one g p' p).1 at f.so))
      whole-agrees o z s p run settled q clear (build.unresolved p' run' u) = absurd (settled (rw (last_one g p' p).1 at u))
      whole-agrees o z s p run settled q clear (build.built p' run' u q' (build.refused {i = i} f)) =
          let pass = (last_one g p' p).1 in
          absurd (clear i (rw (reads-one g (rw pass at q') q) at f.first.so))
      whole-agrees o z (m.shows a b) p run settled q clear (build.built p' run' u q' (build.placed none l c (w.refused x h))) =
          whole refl refl refl (inr refl) (last_one g p' p).1
      whole-agrees o z (m.shows a b) p run settled q clear (build.built p' run' u q' (build.placed none l c (w.passed x (w.refused v h)))) =
          whole refl refl refl (inr refl) (last_one g p' p).1
      whole-agrees o z (m.shows a b) p run settled q clear
          (build.built p' run' u q' (build.placed none l c (w.passed x (w.passed v (build.accepts sums left))))) =
          whole refl refl refl (inl refl) (last_one g p' p).1

      mapped-agrees : (o : Outcome) → Mapped g old o → Agree g lent o y
      mapped-agrees o (m.stops h l go f s q u t) = shown-agrees o t (build.stops h l go f s)
      mapped-agrees o (m.last-stops p f s q u t) = shown-agrees o t (build.last-stops p f s)
      mapped-agrees o (m.unresolved p run v q t) = shown-agrees o t (build.unresolved p run v)
      mapped-agrees o (m.tried p run v q (m.refused f t)) = shown-agrees o t (build.built p run v q (build.refused f))
      mapped-agrees o (m.tried p run v q (m.placed clear t)) =
          whole-agrees o y t p run v q clear (cleared g (λ number place second. build.refusal g lent number place second 0) c says)

    -- The map is refused or stops exactly where the build is refused, but for 14.
    pub map-agrees-with-build : (o : Outcome) → MapSays g old o → Agree g lent o y
    map-agrees-with-build o (w.refused x k) = early-agrees 1 0 0 (w.refused x k)
    map-agrees-with-build o (w.passed a (w.refused x k)) = early-agrees 2 x 0 (w.passed a (w.refused x k))
    map-agrees-with-build o (w.passed a (w.passed c (w.refused x k))) = early-agrees 3 x.0 x.1 (w.passed a (w.passed c (w.refused x k)))
    map-agrees-with-build o (w.passed a (w.passed c (w.passed d (w.refused x k)))) =
        early-agrees 4 x 0 (w.passed a (w.passed c (w.passed d (w.refused x k))))
    map-agrees-with-build o (w.passed a (w.passed c (w.passed d (w.passed e (w.refused x k))))) =
        early-agrees 4 x 0 (w.passed a (w.passed c (w.passed d (w.passed e (w.refused x k)))))
    map-agrees-with-build o (w.passed a (w.passed c (w.passed d (w.passed e (w.passed f t))))) =
        mapped-agrees (record { counted = a; banked = c; apart = d; fielded = e; noded = f }) o t

  -- ---- a layout that is built

  module _ (y : build.Outcome) (a : AcceptedSo g lent y) (o : Outcome) (says : MapSays g old o) where
    clear : Clear g
    clear =
        record {
          counted = λ x n. a.banks-there n;
          banked = λ c f. a.banks-good c f.so.0 f.so.1;
          apart = λ x f. a.banks-apart x.0 x.1 f.so;
          fielded = λ f x. a.fields-good f x.so;
          noded = λ i f. a.nodes-good i f.so.0 f.so.1;
        }

    whole_of : Mapped g old o → Shows g old y.answer.passes a.row (nodes g) 0 0 0 no_node o
    whole_of (m.stops h l go f s q u t) = absurd (early g h l go f.so a.last)
    whole_of (m.last-stops {i = i} p f s q u t) = absurd (a.runs i (rw (last_one g p a.last).1 at f.so))
    whole_of (m.unresolved p run v q t) = absurd (a.settled (rw (last_one g p a.last).1 at v))
    whole_of (m.tried p run v q (m.refused {i = i} f t)) =
        let pass = (last_one g p a.last).1 in
        absurd (a.none-refused i (rw (reads-one g (rw pass at q) a.reads) at f.first.so))
    whole_of (m.tried {n = n} {r = r} p run v q (m.placed none t)) =
        let pass : n ≡ y.answer.passes = (last_one g p a.last).1 in
        let row : r ≡ a.row = reads-one g (rw pass at q) a.reads in
        rw (pass, row) at t

    -- Every node of it is shown, over the build's row, and nothing is at fault.
    pub built-is-whole : Shows g old y.answer.passes a.row (nodes g) 0 0 0 no_node o
    built-is-whole = whole_of (cleared g (refusal g old) clear says)

    same-padding : (z : Outcome) → Shows g old y.answer.passes a.row (nodes g) 0 0 0 no_node z → (b : ℕ) → b < 16
        → get_or z.answer.padding b (losing 0 0) ≡ get_or y.answer.padding b (losing 0 0)
    same-padding z (m.shows s l) b h =
        let (at, x, e) = s.1 b h in
        let (at', w, f) = a.padding.1 b h in
        e ∙ (at_one g x w).2 ∙ sym f

    -- Ticket 2: the map tells each bank's padding, bits and whole units, as the build does.
    pub padding-as-built : (b : ℕ) → b < 16 → get_or o.answer.padding b (losing 0 0) ≡ get_or y.answer.padding b (losing 0 0)
    padding-as-built = same-padding o built-is-whole

    -- ---- "Spans are labels (size 0) and written items in node order, with address and offset or none"

    module _ (i at : ℕ) (h : i < nodes g) (span : IsSpan g i) (count : Spans g i at) where
      same_size : {r e e' : ℕ} → Bits g r i e → Extent g r i e' → e ≡ e'
      same_size (m.takes low high n) (build.label two) = absurd (omega arith)
      same_size (m.takes low high n) (build.item other n') = number-one g n n'
      same_size (m.none out) (build.label two) = refl
      same_size (m.none out) (build.item other n) = absurd (out (of-span span))
        where
          of-span : IsSpan g i → (4 ≤ build.kind g i) × (build.kind g i ≤ 7)
          of-span (inl two) = absurd (other two)
          of-span (inr item) = (item.0, omega (arith, item.1))

      -- node i's entry beside its span
      abbrev Alike : (bank position output size : ℕ) → ℤ → ℕ → ℕ → Type 0
      Alike bank position output size z x e =
          (output ≡ x) × (size ≡ e) × (z ≡ start g bank +ℤ pos (position / unit g bank))

      alike : {r bank position output size x e : ℕ} {z : ℤ} → Entry g r i bank position output size → SpanAt g r at z x e
          → Alike bank position output size z x e
      alike (m.entry {b = b} {p = p} s o n) (build.span {i = j} {b = c} {p = q} lt sp k s' ex o') =
          let node : j ≡ i =
          three g j i (λ l. absurd (omega (arith, spans-less g k sp count l))) (λ e. e) (λ l. absurd (omega (arith, spans-less g count span k l))) in
          let e = sees-one g (rw node at s') s in
          (word-one g o (rw (e.0, e.1) at o'), same_size n (rw node at ex), rw (e.0, e.1))

      in-spans : at < y.answer.spans
      in-spans = spans-less g count span a.spans h

      entry_of : (z : Outcome) → Shows g old y.answer.passes a.row (nodes g) 0 0 0 no_node z
          → Entry g a.row i (get_or z.lent.banks i 0) (get_or z.lent.positions i 0) (get_or z.lent.outputs i 0) (get_or z.lent.sizes i 0)
      entry_of z (m.shows s l) = l.shown i h

      -- The entries of a label or a written item are its span: its place in the output and its size, and its address by its bank and its position.
      pub entries-are-spans :
          Alike (get_or o.lent.banks i 0) (get_or o.lent.positions i 0) (get_or o.lent.outputs i 0) (get_or o.lent.sizes i 0)
          (get_or y.lent.addresses at (pos 0)) (get_or y.lent.offsets at 0) (get_or y.lent.sizes at 0)
      entries-are-spans = alike (entry_of o built-is-whole) (a.left.span at in-spans)
