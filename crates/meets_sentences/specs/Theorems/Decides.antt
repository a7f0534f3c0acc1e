-- The sentences of `dk_build` leave one outcome: the answer and everything lent. From the sentences alone.
use Rattle.std.specs.Prelude.{◌≡◌, refl, Bool, true, false, ◌⊎◌, ℕ, zero, suc, ◌+◌, ◌*◌, ◌-◌, ◌≤◌, ◌<◌, ◌/◌, eqb, ℤ, pos, ◌+ℤ◌, length, get_or, replicate}
use Rattle.std.proofs.Math.Path.{sym, ap}
use Rattle.std.proofs.Common.{◌∙◌, subst, inl, inr, arith, eqb-true}
use mathlib.Core.List.{List}
use Rattle.std.proofs.Math.Logic.{⊎_elim}
use Rattle.std.proofs.lemmas.Bool.{eqb-false}
use Rattle.std.proofs.Math.Seq.{ext_get_or}
use Rattle.prelude.specs.Laws.Bools.{either}
use Rattle.bitvec.specs.Bits.{bit_at}
use Rattle.bitvec.specs.Theorems.Bits.{same_bits}
use Rattle.sort.specs.Laws.Sorted.{le-or-lt}
use Rattle.iter.specs.declared.Lost.{Lost}
use Rattle.says.specs.Words as w
use Rattle.meets.specs.Laws.Words.{OneOnly, tries-one, first_one, first-pair-one}
use Rattle.says.specs.Words.{Tries, Is, First, FirstPair}
use Rattle.meets_sentences.specs.Laws.One.{three, in_one, number-one, distance-one, lead-one, advance-one, at_one, sees-one, reads-one}
use Rattle.meets_sentences.specs.Laws.One.{offer-one, extent-one, word-one, spans-one}
use Rattle.says.specs.Build as b
use Rattle.says.specs.Build.{Given, Lent, Outcome, losing, In, Number, Lead, Advance, Standing, BankAt, Sees, Reads, Unresolved, Stops, Stopped, RunsThrough}
use Rattle.says.specs.Build.{UnresolvedBefore, LastPass, Offer}
use Rattle.says.specs.Build.{Clash, Interval, Mark, Names, Extent, Why, Refuses, FirstWhy, Length, IsSpan, Spans}
use Rattle.says.specs.Build.{OffsetWord, SpanAt, Padding, OfItem, InFilled, Left, Accepts}
use Rattle.says.specs.Build.{Built, Laid, BuildSays, NoBanks, BadBank, Overlap, BadField, BadNode}
use Rattle.says.specs.Build.{refusal, banks, nodes, IsWritten}
use Rattle.meets_sentences.specs.Grounds as ground
use Rattle.meets_sentences.specs.Laws.Why.{none-overlaps}

same_number : (x y : ℕ) → ((x ≡ y → ⊥) → ⊥) → x ≡ y
same_number x y h = either (eqb x y) (λ t. eqb-true x y t) (λ f. absurd (h (eqb-false x y f)))

module _ (g : Given) where
  -- ---- the walk
  sees-bound : {r i c p : ℕ} {k : Bool} → Sees g r i c p k → p ≤ 4294967295
  sees-bound (b.sees x h l le) = le

  not-past : {r i c c' p d : ℕ} {k : Bool} {at' : Standing} → Sees g r i c p k → BankAt g r i c' at' → In g i c' → Lead g i c' at'.position d
      → 4294967295 < at'.position + d → ⊥
  not-past (b.sees x h l le) y h' l' past =
      let bank = in_one g h' h in
      let e = at_one g x (rw bank at y) in
      omega (arith, e.0, lead-one g l (rw (bank, sym e.0) at l'))

  -- ---- the passes
  five-not-seven : {i r c p q : ℕ} {k : Bool} → b.kind g i ≡ 2 → Sees g r i c p k → Advance g r i c p q → 4294967295 < q → ⊥
  five-not-seven {p = p} {q = q} e s a past =
      let stays : q ≡ p = advance-one g a (b.stays (inl (omega arith))) in
      omega (arith, sees-bound s)

  pub stops-one : {n i x y : ℕ} {last : Bool} → Stops g n last i x → Stops g n last i y → x ≡ y
  stops-one (b.lead-past h r x i l p) (b.lead-past h' r' x' i' l' p') = refl
  stops-one (b.lead-past h r x i l p) (b.move-past h' r' s a p') = refl
  stops-one (b.lead-past h r x i l p) (b.off-boundary h' t e r' s o) = absurd (not-past (rw (reads-one g r' r) at s) x i l p)
  stops-one (b.move-past h r s a p) (b.lead-past h' r' x' i' l' p') = refl
  stops-one (b.move-past h r s a p) (b.move-past h' r' s' a' p') = refl
  stops-one (b.move-past {r = r₀} {b = c} {p = x} h r s a p) (b.off-boundary h' t e r' s' o) = absurd (five-not-seven e s a p)
  stops-one (b.off-boundary h t e r s o) (b.lead-past h' r' x i l p) = absurd (not-past (rw (reads-one g r r') at s) x i l p)
  stops-one (b.off-boundary h t e r s o) (b.move-past h' r' s' a p) = absurd (five-not-seven e s' a p)
  stops-one (b.off-boundary h t e r s o) (b.off-boundary h' t' e' r' s' o') = refl

  pub last_one : {k n k' n' : ℕ} → LastPass g k n → LastPass g k' n' → (k ≡ k') × (n ≡ n')
  last_one (b.limit-zero e) (b.limit-zero f) = (refl, refl)
  last_one (b.limit-zero e) (b.below o l go r u) = absurd (omega arith)
  last_one (b.limit-zero e) (b.at-limit o go) = absurd (omega arith)
  last_one (b.below o l go r u) (b.limit-zero f) = absurd (omega arith)
  last_one (b.below {k} o l go r u) (b.below {k = k'} o' l' go' r' u') =
      three g k k' (λ lt. absurd (u (go' k o lt).1)) (λ e. (e, omega arith)) (λ gt. absurd (u' (go k' o' gt).1))
  last_one (b.below {k} o l go r u) (b.at-limit o' go') = absurd (u (go' k o l).1)
  last_one (b.at-limit o go) (b.limit-zero f) = absurd (omega arith)
  last_one (b.at-limit o go) (b.below {k = k'} o' l' go' r' u') = absurd (u' (go k' o' l').1)
  last_one (b.at-limit o go) (b.at-limit o' go') = (refl, refl)

  pub early : {n i k m : ℕ} → 1 ≤ n → n < g.limit → UnresolvedBefore g n → Stopped g n false i → LastPass g k m → ⊥
  early h l go s (b.limit-zero e) = omega arith
  early {n} {i} h l go s (b.below {k} o l' go' r u) =
      three g n k (λ lt. (go' n h lt).0 i s) (λ e. r i (rw e at s)) (λ gt. u (go k o gt).1)
  early {n} {i} h l go s (b.at-limit o go') = (go' n h l).0 i s

  -- ---- what a node is refused for. All but 12 have the node for their place.
  at-itself : {r i number place second : ℕ} → Why g r i number place second → (number ≡ 12 → ⊥) → (i ≡ place) × (0 ≡ second)
  at-itself (b.bank-0 p h c) n = (refl, refl)
  at-itself (b.past-size p s x m h) n = (refl, refl)
  at-itself (b.no_output h v x m) n = (refl, refl)
  at-itself (b.overlaps o v) n = absurd (n refl)
  at-itself (b.full q s f) n = (refl, refl)

  module _ (r i : ℕ) (clear : (j : ℕ) → j < i → Refuses g r j → ⊥) where
    -- two offers before node i that clash are one
    no-clash : {j j' x m y n : ℕ} → j < i → j' < i → Offer g r j x m → Offer g r j' y n → 0 < m → 0 < n → x < y + n → y < x + m → j ≡ j'
    no-clash {j} {j'} h h' o o' p q s t =
        three g j j'
        (λ lt. absurd (none-overlaps g r i clear j' _ _ h' o' (ground.stored (b.interval lt o p) (b.bits q p t s))))
        (λ e. e)
        (λ gt. absurd (none-overlaps g r i clear j _ _ h o (ground.stored (b.interval gt o' q) (b.bits p q s t))))

    one_size : {y m n : ℕ} → Interval g r i y m → Interval g r i y n → m ≡ n
    one_size (b.interval {j} h o p) (b.interval {j = j'} h' o' p') =
        let same : j' ≡ j = sym (no-clash h h' o o' p p' (omega arith) (omega arith)) in
        (offer-one g o (rw same at o')).1

    names-one : {x m y n y' n' : ℕ} → Names g r i x m y n → Names g r i x m y' n' → (y ≡ y') × (n ≡ n')
    names-one (b.above {y} {t = n} s h l c) (b.above {y = y'} {t = n'} s' h' l' c') =
        let e : y' ≡ y = omega (arith, l y' n' s' h', l' y n s h) in (sym e, one_size s (rw e at s'))
    names-one (b.above {y} {t = n} s h l c) (b.below s' h' l' c' no') = absurd (no' y n s h c)
    names-one (b.above {y} {t = n} s h l c) (b.mark s' h' l' m' no') = absurd (no' y n s c)
    names-one (b.below s h l c no₁) (b.above {y = y'} {t = n'} s' h' l' c') = absurd (no₁ y' n' s' h' c')
    names-one (b.below {y} {t = n} s h l c no₁) (b.below {y = y'} {t = n'} s' h' l' c' no') =
        let e : y' ≡ y = omega (arith, l y' n' s' h', l' y n s h) in (sym e, one_size s (rw e at s'))
    names-one (b.below {y} {t = n} s h l c no₁) (b.mark s' h' l' m' no') = absurd (no' y n s c)
    names-one (b.mark s h l m no₁) (b.above {y = y'} {t = n'} s' h' l' c') = absurd (no₁ y' n' s' c')
    names-one (b.mark s h l m no₁) (b.below {y = y'} {t = n'} s' h' l' c' no') = absurd (no₁ y' n' s' c')
    names-one (b.mark {y} s h l m no₁) (b.mark {y = y'} s' h' l' m' no') = (omega (arith, m y' s' h', m' y s h), refl)

    -- one number has one place and one second
    why-one : {number place second number' place' second' : ℕ} → Why g r i number place second → Why g r i number' place' second' → number ≡ number'
        → (place ≡ place') × (second ≡ second')
    why-one (b.overlaps o v) (b.overlaps o' v') same =
        let e = offer-one g o o' in
        names-one v (rw (sym e.0, sym e.1) at v')
    why-one (b.overlaps o v) (b.bank-0 p h c) same = absurd (omega arith)
    why-one (b.overlaps o v) (b.past-size p s x m h) same = absurd (omega arith)
    why-one (b.overlaps o v) (b.no_output h w x n) same = absurd (omega arith)
    why-one (b.overlaps o v) (b.full q s f) same = absurd (omega arith)
    why-one (b.bank-0 p h c) w same = at-itself w (λ e. omega arith)
    why-one (b.past-size p s x m h) w same = at-itself w (λ e. omega arith)
    why-one (b.no_output h v x n) w same = at-itself w (λ e. omega arith)
    why-one (b.full q s f) w same = at-itself w (λ e. omega arith)

  -- What is refused first, with which number, place and second.
  pub first-why-one : {r i number place second i' number' place' second' : ℕ} → FirstWhy g r i number place second → FirstWhy g r i' number' place' second'
      → (i ≡ i') × (number ≡ number') × (place ≡ place') × (second ≡ second')
  first-why-one {r} {i} {number} {i' = i'} {number' = number'} {place' = place'} {second' = second'} f h =
      let node : i' ≡ i = first_one (Refuses g r) i' i h.first f.first in
      let there : Why g r i number' place' second' = rw node at h.why in
      let low : (other at with : ℕ) → Why g r i other at with → number' ≤ other = rw node at h.lowest in
      let same : number ≡ number' = omega (arith, f.lowest _ _ _ there, low _ _ _ f.why) in
      let e = why-one r i (λ j lt s. omega (arith, f.first.none_below j s)) f.why there same in
      (sym node, same, e.0, e.1)

  -- ---- spans and sums
  pub spans-less : {i x j y : ℕ} → Spans g i x → IsSpan g i → Spans g j y → i < j → x < y
  spans-less s h b.before-all lt = absurd (omega arith)
  spans-less {i} s h (b.more {i = j} t k) lt =
      three g i j (λ l. omega (arith, spans-less s h t l)) (λ e. omega (arith, spans-one g (rw e at s) t)) (λ l. absurd (omega arith))
  spans-less {i} s h (b.no_span {i = j} t n) lt =
      three g i j (λ l. spans-less s h t l) (λ e. absurd (n (rw e at h))) (λ l. absurd (omega arith))

  span-one : {r at w w' e e' : ℕ} {z z' : ℤ} → SpanAt g r at z w e → SpanAt g r at z' w' e' → (z ≡ z') × (w ≡ w') × (e ≡ e')
  span-one (b.span {i = i} {b = c} {p = p} lt h s x ex o) (b.span {i = i'} {b = c'} {p = p'} lt' h' s' x' ex' o') =
      let node : i' ≡ i = three g i i' (λ l. absurd (omega (arith, spans-less s h s' l))) (λ e. sym e) (λ l. absurd (omega (arith, spans-less s' h' s l))) in
      let e = sees-one g x (rw node at x') in
      (rw (e.0, e.1), word-one g o (rw (sym e.0, sym e.1) at o'), extent-one g ex (rw node at ex'))

  padding-one : {r : ℕ} (x y : List Lost) → Padding g r x → Padding g r y → x ≡ y
  padding-one x y p q = ext_get_or (losing 0 0) x y (p.0 ∙ sym q.0) (λ i h.
      let (at, a, e) = p.1 i (omega (arith, p.0)) in
      let (at', c, f) = q.1 i (omega (arith, p.0)) in
      e ∙ (at_one g a c).2 ∙ sym f)

  module _ (old : Lent) where
    made : List ℕ → List ℤ → List ℕ → List ℕ → Lent
    made i a o s = record { image = i; addresses = a; offsets = o; sizes = s }

    left_one : {r l c : ℕ} (x y : Lent) → Left g old r l c x → Left g old r l c y → x ≡ y
    unfolding made
    left_one {r} {l} {c} x y f h =
        let image : x.image ≡ y.image = same_bits x.image y.image f.bytes h.bytes (f.as_long.0 ∙ sym h.as_long.0) (λ k lt.
        same_number (bit_at x.image k) (bit_at y.image k) (λ differ.
        let none : OfItem g old r k → ⊥ = λ it.
        let z = it.1 in
        let whole : z + (k - z) ≡ k = omega (arith, it.5) in
        let inside : k - z < it.2 = omega (arith, it.5, it.6) in
        differ (subst (λ (n : ℕ). bit_at x.image n ≡ bit_at y.image n) whole
        (f.item-bit it.0 z it.2 (k - z) it.3 it.4 inside ∙ sym (h.item-bit it.0 z it.2 (k - z) it.3 it.4 inside))) in
        let bare : (n : ℕ) → InFilled g old l n k → ⊥ = λ n range. differ (f.fill-bit k n none range ∙ sym (h.fill-bit k n none range)) in
        differ (f.zero_bit k none bare ∙ sym (h.zero_bit k none bare)))) in
        let addresses : x.addresses ≡ y.addresses = ext_get_or (pos 0) x.addresses y.addresses (f.as_long.1 ∙ sym h.as_long.1) (λ i lt.
        ⊎_elim (λ le. (f.rest i le).0 ∙ sym (h.rest i le).0) (λ in-spans. (span-one (f.span i in-spans) (h.span i in-spans)).0) (le-or-lt c i)) in
        let offsets : x.offsets ≡ y.offsets = ext_get_or 0 x.offsets y.offsets (f.as_long.2 ∙ sym h.as_long.2) (λ i lt.
        ⊎_elim (λ le. (f.rest i le).1 ∙ sym (h.rest i le).1) (λ in-spans. (span-one (f.span i in-spans) (h.span i in-spans)).1) (le-or-lt c i)) in
        let sizes : x.sizes ≡ y.sizes = ext_get_or 0 x.sizes y.sizes (f.as_long.3 ∙ sym h.as_long.3) (λ i lt.
        ⊎_elim (λ le. (f.rest i le).2 ∙ sym (h.rest i le).2) (λ in-spans. (span-one (f.span i in-spans) (h.span i in-spans)).2) (le-or-lt c i)) in
        ap (λ (i : List ℕ). made i x.addresses x.offsets x.sizes) image
        ∙ ap (λ (a : List ℤ). made y.image a x.offsets x.sizes) addresses
        ∙ ap (λ (o : List ℕ). made y.image y.addresses o x.sizes) offsets
        ∙ ap (λ (s : List ℕ). made y.image y.addresses y.offsets s) sizes

    accepts-one : {r k n l c : ℕ} → OneOnly (Accepts g old r k n l c)
    accepts-one y z (b.accepts {sums} {new} p f) (b.accepts {sums = sums'} {new = new'} q h) =
        rw (padding-one sums sums' p q, left_one new new' f h)

    -- ---- the order
    room-one : (r k n l c : ℕ) → OneOnly
        (Tries (λ (_ : Unit {0}). 8 * length old.image < l) (λ _. refusal g old 14 0 0 n)
        (Tries (λ (_ : Unit {0}). (length old.addresses < c) ⊎ ((length old.offsets < c) ⊎ (length old.sizes < c))) (λ _. refusal g old 14 1 0 n)
        (Accepts g old r k n l c)))
    room-one r k n l c =
        tries-one (λ (_ : Unit {0}). 8 * length old.image < l) (λ _. refusal g old 14 0 0 n) _ (λ a c s t. refl)
        (tries-one (λ (_ : Unit {0}). (length old.addresses < c) ⊎ ((length old.offsets < c) ⊎ (length old.sizes < c)))
        (λ _. refusal g old 14 1 0 n) _ (λ a c s t. refl) accepts-one)

    built-one : (r k n : ℕ) → OneOnly (Built g old r k n)
    built-one r k n y z (b.refused f) (b.refused h) = let e = first-why-one f h in rw (e.1, e.2, e.3)
    built-one r k n y z (b.refused {i} f) (b.placed clear l c t) = absurd (clear i f.first.so)
    built-one r k n y z (b.placed clear l c t) (b.refused {i} f) = absurd (clear i f.first.so)
    built-one r k n y z (b.placed {l} {c} clear p s t) (b.placed {l = l'} {c = c'} clear' p' s' t') =
        let longest : l' ≡ l = omega (arith, p.1 l' p'.0, p'.1 l p.0) in
        let count : c' ≡ c = spans-one g s' s in
        room-one r k n l c y z t (rw (longest, count) at t')

    laid_one : OneOnly (Laid g old)
    laid_one y z (b.stops {n = n} {i = i} {number = m} h l go f s) (b.stops {n = n'} {i = i'} {number = m'} h' l' go' f' s') =
        let pass : n' ≡ n = three g n n' (λ lt. absurd ((go' n h lt).0 i f.so)) (λ e. sym e) (λ gt. absurd ((go n' h' gt).0 i' f'.so)) in
        let node : i' ≡ i = first_one (Stopped g n false) i' i (rw pass at f') f in
        let number : m' ≡ m = stops-one (rw (pass, node) at s') s in
        rw (pass, node, number)
    laid_one y z (b.stops h l go f s) (b.last-stops p f' s') = absurd (early h l go f.so p)
    laid_one y z (b.stops h l go f s) (b.unresolved p r u) = absurd (early h l go f.so p)
    laid_one y z (b.stops h l go f s) (b.built p r u q t) = absurd (early h l go f.so p)
    laid_one y z (b.last-stops p f s) (b.stops h l go f' s') = absurd (early h l go f'.so p)
    laid_one y z (b.last-stops {n = n} {i = i} {number = m} p f s) (b.last-stops {n = n'} {i = i'} {number = m'} p' f' s') =
        let pass : n' ≡ n = (last_one p' p).1 in
        let node : i' ≡ i = first_one (Stopped g n true) i' i (rw pass at f') f in
        let number : m' ≡ m = stops-one (rw (pass, node) at s') s in
        rw (pass, node, number)
    laid_one y z (b.last-stops {i = i} p f s) (b.unresolved p' r u) = absurd (r i (rw (last_one p p').1 at f.so))
    laid_one y z (b.last-stops {i = i} p f s) (b.built p' r u q t) = absurd (r i (rw (last_one p p').1 at f.so))
    laid_one y z (b.unresolved p r u) (b.stops h l go f' s') = absurd (early h l go f'.so p)
    laid_one y z (b.unresolved p r u) (b.last-stops {i = i} p' f s) = absurd (r i (rw (last_one p' p).1 at f.so))
    laid_one y z (b.unresolved {n = n} p r u) (b.unresolved {n = n'} p' r' u') = let pass : n' ≡ n = (last_one p' p).1 in rw pass
    laid_one y z (b.unresolved p r u) (b.built p' r' u' q t) = absurd (u' (rw (last_one p p').1 at u))
    laid_one y z (b.built p r u q t) (b.stops h l go f' s') = absurd (early h l go f'.so p)
    laid_one y z (b.built p r u q t) (b.last-stops {i = i} p' f s) = absurd (r i (rw (last_one p' p).1 at f.so))
    laid_one y z (b.built p r u q t) (b.unresolved p' r' u') = absurd (u (rw (last_one p' p).1 at u'))
    laid_one y z (b.built {k} {n} {r} p run u q t) (b.built {k = k'} {n = n'} {r = r'} p' run' u' q' t') =
        let e = last_one p' p in
        let row : r' ≡ r = reads-one g (rw e.1 at q') q in
        built-one r k n y z t (rw (e.0, e.1, row) at t')

    pub build-decides : OneOnly (BuildSays g old)
    build-decides =
        tries-one (λ (_ : Unit {0}). NoBanks g) (λ _. refusal g old 1 0 0 0) _ (λ a c s t. refl)
        (tries-one (First (λ c. (c < banks g) × BadBank g c)) (λ c. refusal g old 2 c 0 0) _
        (λ i j f h. ap (λ (c : ℕ). refusal g old 2 c 0 0) (first_one (λ c. (c < banks g) × BadBank g c) i j f h))
        (tries-one (λ (p : ℕ × ℕ). FirstPair (Overlap g) p.0 p.1) (λ p. refusal g old 3 p.0 p.1 0) _
        (λ p q f h. let e = first-pair-one (Overlap g) p.0 p.1 q.0 q.1 f h in rw (e.0, e.1))
        (tries-one (First (BadField g)) (λ f. refusal g old 4 f 0 0) _ (λ i j f h. ap (λ (c : ℕ). refusal g old 4 c 0 0) (first_one (BadField g) i j f h))
        (tries-one (First (λ i. (i < nodes g) × BadNode g i)) (λ i. refusal g old 4 i 0 0) _
        (λ i j f h. ap (λ (c : ℕ). refusal g old 4 c 0 0) (first_one (λ i. (i < nodes g) × BadNode g i) i j f h))
        laid_one))))
