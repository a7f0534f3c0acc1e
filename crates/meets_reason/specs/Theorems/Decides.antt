-- The sentences of `dk_record_reason` leave one outcome, the answer and the lent scratch: the scratch as it was, and an answer that does not depend on it.
-- From the sentences alone.
use Rattle.std.specs.Prelude.{◌≡◌, refl, List, ℕ, ◌+◌, ◌-◌, ◌<◌, length, get_or}
use Rattle.std.proofs.Common.{ap, ap₂, subst, arith}
use Rattle.prelude.specs.Laws.Pick.{paired}
use Rattle.record_lines.specs.Pieces.{Piece}
use Rattle.c_answers.specs.declared.DkReason.{DkReason}
use Rattle.meets.specs.Laws.Words.{OneOnly, tries-one, first_one, first-pair-one}
use Rattle.meets_records.specs.Laws.One.{lines-one}
use Rattle.says.specs.Reason as s
use Rattle.says.specs.Reason.{Spelling, GivesTo, Past, Below, why, Twice, FaultLine, DkReasonSays}
use Rattle.meets_reason.specs.Laws.One.{NoDigit, data-one, gives_one, line-one, count-one, long-one, sum_one, type-one, other-width-one, other-count-one}
use Rattle.meets_reason.specs.Laws.One.{other-field-one}
use Rattle.meets_reason.specs.Laws.Typed.{LineSays, line-says}
use Rattle.meets_reason.specs.Laws.Trails.{drop-line, drop-long}

module _ (format load : ℕ) (ls : List (List ℕ)) (n : ℕ) where
  past_one : {l : List ℕ} {st a b c d : ℕ} → Past format l st a b → Past format l st c d → (a ≡ c) × (b ≡ d)
  past_one (s.past x h) (s.past y k) =
      let same = data-one format x y in
      (ap (λ (p : Piece). p.address + length p.bytes - 1) same.2, ap (λ (m : ℕ). m - 1) same.1)

  below_one : {l : List ℕ} {st a b c d : ℕ} → Below format l load ls st a b → Below format l load ls st c d → (a ≡ c) × (b ≡ d)
  below_one (s.below {lowest = b} x i h f) (s.below {lowest = d} y j k g) =
      (ap (λ (p : Piece). p.address) (gives_one format x y).1, first_one (λ (a : ℕ). (k : ℕ) × GivesTo format ls k a) b d f g)

  twice-one : OneOnly (Twice format load ls n)
  twice-one y z (s.twice {i} {a} f) (s.twice {i = j} {a = b} g) =
      let same = first-pair-one _ i a j b f g in
      ap₂ (why format load ls n 11) same.0 same.1

  abbrev tell : ℕ → ℕ → ℕ → DkReason
  tell = why format load ls n

  form-one : {a b c d e a' b' c' d' e' : ℕ} → Spelling format a b c d e → Spelling format a' b' c' d' e'
      → (a ≡ a') × (b ≡ b') × (c ≡ c') × (d ≡ d') × (e ≡ e')
  form-one (s.hex f) (s.hex g) = (refl, refl, refl, refl, refl)
  form-one (s.hex f) (s.s-records m) = absurd (m f)
  form-one (s.s-records m) (s.hex f) = absurd (m f)
  form-one (s.s-records m) (s.s-records k) = (refl, refl, refl, refl, refl)

  line-decides : OneOnly (LineSays format load ls n)
  line-decides y z (line-says {st} {from = from} {bare} {least} {l} x f t) (line-says x' f' t') =
      let at = line-one format x' x in
      let form = form-one f' f in
      let u = rw (at.0, at.1, form.0, form.1, form.2, form.3, form.4) at t' in
      tries-one _ _ _ (λ a b h k. refl)
      (tries-one _ _ _ (λ a b h k. ap (λ (x : ℕ). tell 2 x (get_or l x 0)) (first_one (NoDigit l from) a b h k))
      (tries-one _ _ _ (λ a b h k. ap (tell 3 (length l)) (long-one format l from bare least h.0 k.0))
      (tries-one _ _ _ (λ a b h k. ap (λ (c : ℕ). tell 4 c least) (count-one format l from h.0 k.0))
      (tries-one _ _ _ (λ a b h k. let e = sum_one format l from h k in ap₂ (tell 5) e.0 e.1)
      (tries-one _ _ _ (λ a b h k. ap (λ (t : ℕ). tell 6 t 0) (type-one format l h k))
      (tries-one _ _ _ (λ a b h k. ap (λ (w : ℕ). tell 7 w st) (other-width-one format l h k))
      (tries-one _ _ _ (λ a b h k. let e = other-count-one format l h k in ap₂ (tell 4) e.0 e.1)
      (tries-one _ _ _ (λ a b h k. ap (λ (f : ℕ). tell 8 f 0) (other-field-one format l h k))
      (tries-one _ _ _ (λ a b h k. let e = past_one h k in ap₂ (tell 9) e.0 e.1)
      (tries-one _ _ _ (λ a b h k. let e = below_one h k in ap₂ (tell 10) e.0 e.1) twice-one)))))))))) y z t u

  inside : (y : DkReason) → LineSays format load ls n y → n < length ls
  inside y (line-says x f t) = drop-long n ls (drop-line format x).1

  pub fault-line-decides : OneOnly (FaultLine format load ls n)
  fault-line-decides y z (s.behind h x) (s.behind k w) = refl
  fault-line-decides y z (s.behind h x) (s.no_end e m) = absurd (m x)
  fault-line-decides y z (s.behind h x) (s.line m a f t) = absurd (m x)
  fault-line-decides y z (s.no_end e m) (s.behind h x) = absurd (m x)
  fault-line-decides y z (s.no_end e m) (s.no_end f k) = refl
  fault-line-decides y z (s.no_end e m) (s.line k a f t) = absurd (omega (arith, inside z (line-says a f t)))
  fault-line-decides y z (s.line m a f t) (s.behind h x) = absurd (m x)
  fault-line-decides y z (s.line m a f t) (s.no_end e k) = absurd (omega (arith, inside y (line-says a f t)))
  fault-line-decides y z (s.line m a f t) (s.line k b g u) = line-decides y z (line-says a f t) (line-says b g u)

module _ (format load : ℕ) (text : List ℕ) where
  pub dk-reason-decides : (scratch : List ℕ) → OneOnly (DkReasonSays format load text scratch)
  dk-reason-decides scratch y z (s.none x none) (s.none a never) = refl
  dk-reason-decides scratch y z (s.none x none) (s.first {n = n} {y = v} a f t) =
      absurd (none n v (subst (λ (k : List (List ℕ)). FaultLine format load k n v) (lines-one a x) t))
  dk-reason-decides scratch y z (s.first {n = n} {y = v} a f t) (s.none x none) =
      absurd (none n v (subst (λ (k : List (List ℕ)). FaultLine format load k n v) (lines-one a x) t))
  dk-reason-decides scratch y z (s.first {n = n} {ls} {y = v} a f t) (s.first {n = m} {y = w} b g u) =
      let lines = lines-one b a in
      let same : m ≡ n = first_one (λ (k : ℕ). (z : DkReason) × FaultLine format load ls k z) m n (rw lines at g) f in
      paired (fault-line-decides format load ls n v w t (rw (same, lines) at u)) refl

  -- the scratch is given back as it was
  pub reason-keeps-scratch : {scratch : List ℕ} (y : DkReason × List ℕ) → DkReasonSays format load text scratch y → y.1 ≡ scratch
  reason-keeps-scratch y (s.none x none) = refl
  reason-keeps-scratch y (s.first a f t) = refl

  -- with other scratch it answers the same
  other-scratch : {scratch : List ℕ} (other : List ℕ) (y : DkReason × List ℕ) → DkReasonSays format load text scratch y
      → DkReasonSays format load text other (y.0, other)
  other-scratch other y (s.none x none) = s.none x none
  other-scratch other y (s.first a f t) = s.first a f t

  pub any-scratch-reason : {scratch other : List ℕ} (y z : DkReason × List ℕ) → DkReasonSays format load text scratch y → DkReasonSays format load text other z
      → y.0 ≡ z.0
  any-scratch-reason {scratch} {other} y z a b =
      ap (λ (x : DkReason × List ℕ). x.0) (dk-reason-decides other (y.0, other) z (other-scratch other y a) b)
