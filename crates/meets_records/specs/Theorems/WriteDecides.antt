-- The sentences of `dk_write_hex` and `dk_write_srec` leave one outcome: the answer and the text lent. From the sentences alone.
use Rattle.std.specs.Prelude.{◌≡◌, refl, List, [], ◌∷◌, ◌++◌, ℕ, ◌+◌, ◌<◌, length}
use Rattle.std.proofs.Common.{sym, ap, subst, ◌∙◌, arith}
use Rattle.record_lines.specs.Pieces.{Piece}
use Rattle.meets.specs.Laws.Words.{OneOnly, tries-one, begins-one}
use Rattle.says.specs.Words.{Not}
use Rattle.meets_records.specs.Laws.Front.{Leaves}
use Rattle.meets_records.specs.Laws.One.{hex-upper, hex-field, hex-pair, srec-upper, width_one}
use Rattle.says.specs.Write as w
use Rattle.says.specs.Write.{Given, HexText, SrecText, Cut, Cuts, BadPart, BadPlace}
use Rattle.says.specs.Write.{refusal, Accepts, Written, HexSays, SrecPlaced, SrecSays}

pub same-piece : (p q : Piece) → p.address ≡ q.address → p.bytes ≡ q.bytes → p ≡ q
same-piece p q e f =
    ap (λ (a : ℕ). record { address = a; bytes = p.bytes }) e ∙ ap (λ (b : List ℕ). record { address = q.address; bytes = b }) f

pub hex-text-one : {u : ℕ} {ps : List Piece} {x y : List ℕ} → HexText u ps x → HexText u ps y → x ≡ y
hex-text-one (w.end h) (w.end k) = ap (λ (l : List ℕ). l ++ 10 ∷ []) (hex-upper h k)
hex-text-one (w.same {field = f} e h t) (w.same {field = f'} e' h' t') =
    let same : f' ≡ f = omega arith in
    rw (hex-upper h (rw same at h'), hex-text-one t t')
hex-text-one (w.same {u = u} {field = f} e h t) (w.differs {v = v} {field = f'} e' n s k h' t') =
    let b = hex-field h in
    let c = hex-field h' in
    absurd (n (omega arith))
hex-text-one (w.differs {v = v} {field = f'} e' n s k h' t') (w.same {u = u} {field = f} e h t) =
    let b = hex-field h in
    let c = hex-field h' in
    absurd (n (omega arith))
hex-text-one (w.differs {v = v} {a = a} {b = b} {field = f} e n s k h t) (w.differs {v = v'} {a = a'} {b = b'} {field = f'} e' n' s' k' h' t') =
    let fb = hex-field h in
    let fc = hex-field h' in
    let half : v' ≡ v = omega arith in
    let field : f' ≡ f = omega arith in
    let p = hex-pair k in
    let q = hex-pair k' in
    let high : a' ≡ a = omega (arith, p.0, p.1, q.0, q.1) in
    let low : b' ≡ b = omega (arith, p.0, p.1, q.0, q.1) in
    rw (hex-upper k (rw (high, low) at k'), hex-upper h (rw field at h'), hex-text-one t (rw half at t'))

pub srec-text-one : {d e width : ℕ} {ps : List Piece} {x y : List ℕ} → SrecText d e width ps x → SrecText d e width ps y → x ≡ y
srec-text-one (w.end h) (w.end k) = ap (λ (l : List ℕ). l ++ 10 ∷ []) (srec-upper h k)
srec-text-one (w.next h t) (w.next k u) = rw (srec-upper h k, srec-text-one t u)

module _ (g : Given) where
  cut-one : {a e : ℕ} {x y : List Piece} → Cut g a e x → Cut g a e y → x ≡ y
  cut-one (w.done e) (w.done f) = refl
  cut-one (w.done e) (w.next h l m a b c) = absurd (omega arith)
  cut-one (w.next h l m a b c) (w.done e) = absurd (omega arith)
  cut-one (w.next {n = n} {p = p} h l m a b c) (w.next {n = n'} {p = q} h' l' m' a' b' c') =
      let same : n' ≡ n = omega (arith, m n' l', m' n l) in
      let piece : p ≡ q = same-piece p q (a ∙ sym a') (b ∙ sym (rw same at b')) in
      rw (piece, cut-one c (rw same at c'))

  cuts-one : {os ss : List ℕ} {x y : List Piece} → Cuts g os ss x → Cuts g os ss y → x ≡ y
  cuts-one w.none w.none = refl
  cuts-one (w.block c d) (w.block c' d') = rw (cut-one c c', cuts-one d d')

  module _ (old : List ℕ) where
    accepts-one : (t : List ℕ) → OneOnly (Accepts g old t)
    accepts-one t y z (w.accepts {new = a} x) (w.accepts {new = b} x') = rw (begins-one t old a b x x')

    leaves-one : (t : List ℕ) → OneOnly (Leaves g old t)
    leaves-one t = tries-one (λ (_ : Unit {0}). length old < length t) (λ _. refusal g old 14 3) _ (λ a b m n. refl) (accepts-one t)

    written_one : (Text : List Piece → List ℕ → Type 0) → ((ps : List Piece) (x y : List ℕ) → Text ps x → Text ps y → x ≡ y) → OneOnly (Written g old Text)
    written_one Text one y z (w.written {t = t} c h l) (w.written {t = u} d k m) =
        let same : u ≡ t = one _ u t k (subst (λ (ps : List Piece). Text ps t) (cuts-one c d) h) in
        leaves-one t y z l (rw same at m)

    pub write-hex-decides : OneOnly (HexSays g old)
    write-hex-decides =
        tries-one (λ (_ : Unit {0}). BadPart g) (λ _. refusal g old 16 0) _ (λ a b m n. refl)
        (tries-one (λ (_ : Unit {0}). BadPlace g 4294967296) (λ _. refusal g old 4 0) _ (λ a b m n. refl)
        (written_one (HexText 0) (λ _ _ _ h k. hex-text-one h k)))

    srec-placed-one : (width : ℕ) → OneOnly (SrecPlaced g old width)
    srec-placed-one width y z (w.placed {d} {e} {top} a t) (w.placed b u) =
        let same = width_one b a in
        tries-one (λ (_ : Unit {0}). BadPlace g top) (λ _. refusal g old 4 0) _ (λ a b m n. refl)
        (written_one (SrecText d e width) (λ _ _ _ h k. srec-text-one h k))
        y z t (rw (same.0, same.1, same.2) at u)

    pub write-srec-decides : (width : ℕ) → OneOnly (SrecSays g old width)
    write-srec-decides width =
        tries-one (λ (_ : Unit {0}). BadPart g) (λ _. refusal g old 16 0) _ (λ a b m n. refl)
        (tries-one (λ (_ : Unit {0}). Not (width ≡ 2) × Not (width ≡ 4)) (λ _. refusal g old 4 0) _ (λ a b m n. refl) (srec-placed-one width))
