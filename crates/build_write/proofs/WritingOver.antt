-- A lent list that is written from the front: what one more number at its next place makes of it.
use Prim.Native.Nat.{ℕ, suc, ◌+◌, ◌<◌, ◌≤◌}
use mathlib.Core.Path.{◌≡◌, refl, sym, ap, ◌∙◌}
use mathlib.Core.Bool.{Bool, true, false}
use mathlib.Core.List.{List, [], ◌∷◌, ◌++◌, map, append_assoc}
use native.Mathlib.Numerals.{add-one}
use native.Mathlib.Omega.{arith}
use lib.ListN.{length, drop, set, get_or, length-append, length-drop, length-map}
use lib.Seq.{drop-cons, set-append_seam}
use Rattle.prelude.specs.Pick.{pick}
use Rattle.build_visits.specs.Spans.{over}

pub length-snoc {ℓ} : {A : Type ℓ} (l : List A) (x : A) → length (l ++ x ∷ []) ≡ length l + 1
length-snoc l x = length-append l (x ∷ [])

map_snoc : {A B : Type 0} (f : A → B) (l : List A) (x : A) → map f (l ++ x ∷ []) ≡ map f l ++ f x ∷ []
map_snoc f [] x = refl
map_snoc f (y ∷ l) x = ap (λ (m : List _). f y ∷ m) (map_snoc f l x)

-- the old contents stay where nothing is written, so the length does
pub over-length : {A : Type 0} (new old : List A) → length new ≤ length old → length (over new old) ≡ length old
over-length new old h = simp (length-append, length-drop) (omega arith)

over-next : {A : Type 0} (new old : List A) (x : A) → length new < length old → set (over new old) (length new) x ≡ over (new ++ x ∷ []) old
over-next new old x h =
    ap (λ (l : List _). set (new ++ l) (length new) x) (drop-cons old (length new) x h)
    ∙ set-append_seam new (get_or old (length new) x) (drop (suc (length new)) old) x
    ∙ rw (length-snoc new x, add-one, append_assoc)

-- one more of the items that the list shows, or none
pub over-more : {A B : Type 0} (f : B → A) (b : Bool) (l : List B) (x : B) (old : List A) → length (pick b (l ++ x ∷ []) l) ≤ length old
    → pick b (set (over (map f l) old) (length l) (f x)) (over (map f l) old) ≡ over (map f (pick b (l ++ x ∷ []) l)) old
over-more f false l x old h = refl
over-more f true l x old h =
    ap (λ (n : ℕ). set (over (map f l) old) n (f x)) (sym (length-map l f))
    ∙ over-next (map f l) old (f x) (omega (arith, length-map l f, length-snoc l x))
    ∙ ap (λ (m : List _). over m old) (sym (map_snoc f l x))
