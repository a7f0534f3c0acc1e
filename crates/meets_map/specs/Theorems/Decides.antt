-- The sentences of `dk_map` leave one outcome: the answer and everything lent. From the sentences alone.
use Rattle.std.specs.Prelude.{◌≡◌, refl, true, false, ℕ}
use Rattle.std.proofs.Math.Path.{sym, ap}
use Rattle.std.proofs.Common.{◌∙◌, arith}
use mathlib.Core.List.{List}
use Rattle.std.proofs.Math.Logic.{⊎_elim}
use Rattle.std.proofs.Math.Seq.{ext_get_or}
use Rattle.sort.specs.Laws.Sorted.{le-or-lt}
use Rattle.meets.specs.Laws.Words.{OneOnly, first_one}
use Rattle.iter.specs.declared.Lost.{Lost}
use Rattle.says.specs.Build as build
use Rattle.says.specs.Build.{Given, losing, Stopped}
use Rattle.meets_sentences.specs.Laws.One.{three, number-one, at_one, sees-one, reads-one, word-one}
use Rattle.meets_sentences.specs.Theorems.Decides.{stops-one, last_one, early, first-why-one}
use Rattle.meets_profile.specs.Laws.Tried.{checks-one}
use Rattle.says.specs.Map as m
use Rattle.says.specs.Map.{Lent, Outcome, Bits, Entry, UpTo, Sums, refusal, Left, Shows, Tried, Mapped, MapSays}

module _ (g : Given) where
  bits-one : {r i x y : ℕ} → Bits g r i x → Bits g r i y → x ≡ y
  bits-one (m.takes h l n) (m.takes h' l' n') = number-one g n n'
  bits-one (m.takes h l n) (m.none other) = absurd (other (h, l))
  bits-one (m.none other) (m.takes h l n) = absurd (other (h, l))
  bits-one (m.none a) (m.none b) = refl

  entry-one : {r i b p w e b' p' w' e' : ℕ} → Entry g r i b p w e → Entry g r i b' p' w' e' → (b ≡ b') × (p ≡ p') × (w ≡ w') × (e ≡ e')
  entry-one (m.entry s o x) (m.entry s' o' x') =
      let e = sees-one g s s' in
      (e.0, e.1, word-one g o (rw (sym e.0, sym e.1) at o'), bits-one x x')

  up-to-one : {i number number' c c' : ℕ} → UpTo g i number c → UpTo g i number' c' → number ≡ number' → c ≡ c'
  up-to-one m.before m.before e = refl
  up-to-one m.before m.with_it e = absurd (omega arith)
  up-to-one m.with_it m.before e = absurd (omega arith)
  up-to-one m.with_it m.with_it e = refl

  sums-one : {r c : ℕ} (x y : List Lost) → Sums g r c x → Sums g r c y → x ≡ y
  sums-one x y p q = ext_get_or (losing 0 0) x y (p.0 ∙ sym q.0) (λ i h.
      let (at, a, e) = p.1 i (omega (arith, p.0)) in
      let (at', c, f) = q.1 i (omega (arith, p.0)) in
      e ∙ (at_one g a c).2 ∙ sym f)

  module _ (old : Lent) where
    made : List ℕ → List ℕ → List ℕ → List ℕ → Lent
    made b p o s = record { banks = b; positions = p; outputs = o; sizes = s }

    left_one : {r c : ℕ} (x y : Lent) → Left g old r c x → Left g old r c y → x ≡ y
    unfolding made
    left_one {r} {c} x y f h =
        let banks : x.banks ≡ y.banks = ext_get_or 0 x.banks y.banks (f.as_long.0 ∙ sym h.as_long.0) (λ i lt.
        ⊎_elim (λ le. (f.rest i le).0 ∙ sym (h.rest i le).0) (λ in_map. (entry-one (f.shown i in_map) (h.shown i in_map)).0) (le-or-lt c i)) in
        let positions : x.positions ≡ y.positions = ext_get_or 0 x.positions y.positions (f.as_long.1 ∙ sym h.as_long.1) (λ i lt.
        ⊎_elim (λ le. (f.rest i le).1 ∙ sym (h.rest i le).1) (λ in_map. (entry-one (f.shown i in_map) (h.shown i in_map)).1) (le-or-lt c i)) in
        let outputs : x.outputs ≡ y.outputs = ext_get_or 0 x.outputs y.outputs (f.as_long.2 ∙ sym h.as_long.2) (λ i lt.
        ⊎_elim (λ le. (f.rest i le).2 ∙ sym (h.rest i le).2) (λ in_map. (entry-one (f.shown i in_map) (h.shown i in_map)).2) (le-or-lt c i)) in
        let sizes : x.sizes ≡ y.sizes = ext_get_or 0 x.sizes y.sizes (f.as_long.3 ∙ sym h.as_long.3) (λ i lt.
        ⊎_elim (λ le. (f.rest i le).3 ∙ sym (h.rest i le).3) (λ in_map. (entry-one (f.shown i in_map) (h.shown i in_map)).3) (le-or-lt c i)) in
        ap (λ (l : List ℕ). made l x.positions x.outputs x.sizes) banks
        ∙ ap (λ (l : List ℕ). made y.banks l x.outputs x.sizes) positions
        ∙ ap (λ (l : List ℕ). made y.banks y.positions l x.sizes) outputs
        ∙ ap (λ (l : List ℕ). made y.banks y.positions y.outputs l) sizes

    shows-one : {n r c stopped place second node : ℕ} → OneOnly (Shows g old n r c stopped place second node)
    shows-one y z (m.shows {sums} {new} p f) (m.shows {sums = sums'} {new = new'} q h) = rw (sums-one sums sums' p q, left_one new new' f h)

    tried-one : (n r : ℕ) → OneOnly (Tried g old n r)
    tried-one n r y z (m.refused f s) (m.refused f' s') =
        let e = first-why-one g f' f in
        shows-one y z s (rw (e.0, e.1, e.2, e.3) at s')
    tried-one n r y z (m.refused {i} f s) (m.placed clear s') = absurd (clear i f.first.so)
    tried-one n r y z (m.placed clear s) (m.refused {i} f s') = absurd (clear i f.first.so)
    tried-one n r y z (m.placed clear s) (m.placed clear' s') = shows-one y z s s'

    pub mapped-one : OneOnly (Mapped g old)
    mapped-one y z (m.stops {n} {i} {number} {r} {c} h l go f s q u t)
        (m.stops {n = n'} {i = i'} {number = number'} {r = r'} {c = c'} h' l' go' f' s' q' u' t') =
        let pass : n' ≡ n = three g n n' (λ lt. absurd ((go' n h lt).0 i f.so)) (λ e. sym e) (λ gt. absurd ((go n' h' gt).0 i' f'.so)) in
        let node : i' ≡ i = first_one (Stopped g n false) i' i (rw pass at f') f in
        let what : number' ≡ number = stops-one g (rw (pass, node) at s') s in
        let row : r' ≡ r = reads-one g (rw pass at q') q in
        let count : c' ≡ c = up-to-one (rw node at u') u what in
        shows-one y z t (rw (pass, node, what, row, count) at t')
    mapped-one y z (m.stops h l go f s q u t) (m.last-stops p f' s' q' u' t') = absurd (early g h l go f.so p)
    mapped-one y z (m.stops h l go f s q u t) (m.unresolved p r v q' t') = absurd (early g h l go f.so p)
    mapped-one y z (m.stops h l go f s q u t) (m.tried p r v q' t') = absurd (early g h l go f.so p)
    mapped-one y z (m.last-stops p f s q u t) (m.stops h l go f' s' q' u' t') = absurd (early g h l go f'.so p)
    mapped-one y z (m.last-stops {n = n} {i = i} {number = number} {r = r} {c = c} p f s q u t)
        (m.last-stops {n = n'} {i = i'} {number = number'} {r = r'} {c = c'} p' f' s' q' u' t') =
        let pass : n' ≡ n = (last_one g p' p).1 in
        let node : i' ≡ i = first_one (Stopped g n true) i' i (rw pass at f') f in
        let what : number' ≡ number = stops-one g (rw (pass, node) at s') s in
        let row : r' ≡ r = reads-one g (rw pass at q') q in
        let count : c' ≡ c = up-to-one (rw node at u') u what in
        shows-one y z t (rw (pass, node, what, row, count) at t')
    mapped-one y z (m.last-stops {i = i} p f s q u t) (m.unresolved p' r v q' t') = absurd (r i (rw (last_one g p p').1 at f.so))
    mapped-one y z (m.last-stops {i = i} p f s q u t) (m.tried p' r v q' t') = absurd (r i (rw (last_one g p p').1 at f.so))
    mapped-one y z (m.unresolved p r v q t) (m.stops h l go f' s' q' u' t') = absurd (early g h l go f'.so p)
    mapped-one y z (m.unresolved p r v q t) (m.last-stops {i = i} p' f s q' u' t') = absurd (r i (rw (last_one g p' p).1 at f.so))
    mapped-one y z (m.unresolved {n = n} {r = r} p run v q t) (m.unresolved {n = n'} {r = r'} p' run' v' q' t') =
        let pass : n' ≡ n = (last_one g p' p).1 in
        let row : r' ≡ r = reads-one g (rw pass at q') q in
        shows-one y z t (rw (pass, row) at t')
    mapped-one y z (m.unresolved p r v q t) (m.tried p' r' v' q' t') = absurd (v' (rw (last_one g p p').1 at v))
    mapped-one y z (m.tried p r v q t) (m.stops h l go f' s' q' u' t') = absurd (early g h l go f'.so p)
    mapped-one y z (m.tried p r v q t) (m.last-stops {i = i} p' f s q' u' t') = absurd (r i (rw (last_one g p' p).1 at f.so))
    mapped-one y z (m.tried p r v q t) (m.unresolved p' r' v' q' t') = absurd (v (rw (last_one g p' p).1 at v'))
    mapped-one y z (m.tried {n = n} {r = r} p run v q t) (m.tried {n = n'} {r = r'} p' run' v' q' t') =
        let pass : n' ≡ n = (last_one g p' p).1 in
        let row : r' ≡ r = reads-one g (rw pass at q') q in
        tried-one n r y z t (rw (pass, row) at t')

    -- Two outcomes of one call that meet its sentences are one.
    pub map-decides : OneOnly (MapSays g old)
    map-decides = checks-one g (refusal g old) (Mapped g old) (λ c. mapped-one)
