-- The bytes that pieces give, piece by piece instead of by index; pieces in another order. From the sentences alone.
use Rattle.std.specs.Prelude.{◌≡◌, refl, ◌⊎◌, ℕ, zero, suc, ◌+◌, ◌<◌, length, get_or}
use Rattle.std.proofs.Common.{sym, ap, subst, inl, inr, ⊎_elim, arith}
use mathlib.Core.List.Permᴰ
use mathlib.Core.List.{List, [], ◌∷◌, ◌++◌, Permᴰ}
use Rattle.record_lines.specs.Pieces.{Piece}
use Rattle.says.specs.Read as s
use Rattle.says.specs.Read.{Gives, GivenTo}
use Rattle.meets_records.specs.Laws.Sits.{tail-gives, behind}

abbrev pub HasOne : Piece → ℕ → ℕ → Type 0
HasOne p a b = (k : ℕ) × (k < length p.bytes) × (a ≡ p.address + k) × (b ≡ get_or p.bytes k 0)

-- Some piece gives byte b to address a.
abbrev pub Has : List Piece → ℕ → ℕ → Type 0
Has [] a b = ⊥
Has (p ∷ ps) a b = HasOne p a b ⊎ Has ps a b

pub gives-has : (ps : List Piece) (i a b : ℕ) → Gives ps i a b → Has ps a b
gives-has [] i a b (s.gives at h e f) = omega (arith, at.0)
gives-has (p ∷ ps) zero a b (s.gives {p = q} {k = k} at h e f) = inl (subst (λ (y : Piece). HasOne y a b) (sym at.1) (k, h, e, f))
gives-has (p ∷ ps) (suc i) a b (s.gives {p = q} {k = k} at h e f) = inr (gives-has ps i a b (s.gives {p = q} {k = k} (omega (arith, at.0), at.1) h e f))

pub has-gives : (ps : List Piece) (a b : ℕ) → Has ps a b → (i : ℕ) × Gives ps i a b
has-gives [] a b x = absurd x
has-gives (p ∷ ps) a b (inl x) = (0, s.gives {p = p} {k = x.0} (omega arith, refl) x.1 x.2 x.3)
has-gives (p ∷ ps) a b (inr x) = let k = has-gives ps a b x in (suc k.0, tail-gives 0 p ps k.0 a b k.1)

pub has-given : (ps : List Piece) (a b : ℕ) → Has ps a b → GivenTo ps a
has-given ps a b x = let k = has-gives ps a b x in (k.0, b, k.1)

pub has_left : (ps qs : List Piece) (a b : ℕ) → Has ps a b → Has (ps ++ qs) a b
has_left [] qs a b x = absurd x
has_left (p ∷ ps) qs a b (inl x) = inl x
has_left (p ∷ ps) qs a b (inr x) = inr (has_left ps qs a b x)

pub has_right : (ps qs : List Piece) (a b : ℕ) → Has qs a b → Has (ps ++ qs) a b
has_right [] qs a b x = x
has_right (p ∷ ps) qs a b x = inr (has_right ps qs a b x)

pub has_either : (ps qs : List Piece) (a b : ℕ) → Has (ps ++ qs) a b → Has ps a b ⊎ Has qs a b
has_either [] qs a b x = inr x
has_either (p ∷ ps) qs a b (inl x) = inl (inl x)
has_either (p ∷ ps) qs a b (inr x) = ⊎_elim (λ y. inl (inr y)) (λ y. inr y) (has_either ps qs a b x)

-- ---- no address twice
abbrev pub Once : List Piece → Type 0
Once ps = (i j a b c : ℕ) → Gives ps i a b → Gives ps j a c → i ≡ j

abbrev pub Lone : List Piece → Type 0
Lone [] = Unit {0}
Lone (p ∷ ps) = ((a b c : ℕ) → HasOne p a b → Has ps a c → ⊥) × Lone ps

pub once-lone : (ps : List Piece) → Once ps → Lone ps
once-lone [] d = tt
once-lone (p ∷ ps) d = (
  λ a b c x y.
      let k = has-gives ps a c y in
      let clash = d 0 (suc k.0) a b c (s.gives {p = p} {k = x.0} (omega arith, refl) x.1 x.2 x.3) (tail-gives 0 p ps k.0 a c k.1) in
      omega arith,
  once-lone ps (λ i j a b c g h. let same = d (suc i) (suc j) a b c (tail-gives 0 p ps i a b g) (tail-gives 0 p ps j a c h) in omega arith),
)

head-has : (p : Piece) (ps : List Piece) (a b : ℕ) → Gives (p ∷ ps) 0 a b → HasOne p a b
head-has p ps a b (s.gives {p = q} {k = k} at h e f) = subst (λ (y : Piece). HasOne y a b) (sym at.1) (k, h, e, f)

pub lone-once : (ps : List Piece) → Lone ps → Once ps
lone-once [] l i j a b c g h = absurd (gives-has [] i a b g)
lone-once (p ∷ ps) l zero zero a b c g h = refl
lone-once (p ∷ ps) l zero (suc j) a b c g h = absurd (l.0 a b c (head-has p ps a b g) (gives-has ps j a c (behind 0 p ps j a c h)))
lone-once (p ∷ ps) l (suc i) zero a b c g h = absurd (l.0 a c b (head-has p ps a c h) (gives-has ps i a b (behind 0 p ps i a b g)))
lone-once (p ∷ ps) l (suc i) (suc j) a b c g h = ap suc (lone-once ps l.1 i j a b c (behind 0 p ps i a b g) (behind 0 p ps j a c h))

-- ---- in another order
pub has-reordered : {ps qs : List Piece} → Permᴰ ps qs → (a b : ℕ) → Has ps a b → Has qs a b
has-reordered Permᴰ.nil a b x = x
has-reordered (Permᴰ.cons e o) a b (inl x) = inl (subst (λ (p : Piece). HasOne p a b) e x)
has-reordered (Permᴰ.cons e o) a b (inr x) = inr (has-reordered o a b x)
has-reordered (Permᴰ.swap e f) a b (inl x) = inr (inl (subst (λ (p : Piece). HasOne p a b) e x))
has-reordered (Permᴰ.swap e f) a b (inr (inl x)) = inl (subst (λ (p : Piece). HasOne p a b) f x)
has-reordered (Permᴰ.swap e f) a b (inr (inr x)) = inr (inr x)
has-reordered (Permᴰ.trans o u) a b x = has-reordered u a b (has-reordered o a b x)

pub lone-reordered : {ps qs : List Piece} → Permᴰ ps qs → Lone ps → Lone qs
lone-reordered Permᴰ.nil l = l
lone-reordered (Permᴰ.cons e o) l = (
  λ a b c x y. l.0 a b c (subst (λ (p : Piece). HasOne p a b) (sym e) x) (has-reordered (Permᴰ.symm o) a c y),
  lone-reordered o l.1,
)
lone-reordered (Permᴰ.swap e f) l = (
  λ a b c x y.
      let z = subst (λ (p : Piece). HasOne p a b) (sym f) x in
      ⊎_elim (λ v. l.0 a c b (subst (λ (p : Piece). HasOne p a c) (sym e) v) (inl z)) (λ v. l.1.0 a b c z v) y,
  (λ a b c x y. l.0 a b c (subst (λ (p : Piece). HasOne p a b) (sym e) x) (inr y), l.1.1),
)
lone-reordered (Permᴰ.trans o u) l = lone-reordered u (lone-reordered o l)
