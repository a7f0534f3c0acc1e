-- A line at which a file goes on has no reason: no sentence on it holds.
use Rattle.std.specs.Prelude.{◌≡◌, refl, true, ◌&&◌, ◌⊎◌, leb, take, drop}
use Rattle.std.proofs.Math.Path.{sym, ap}
use Rattle.std.proofs.Common.{◌∙◌, subst, inl, inr, ⊎_elim, leb-true}
use mathlib.Core.List.{List, [], ◌∷◌, ◌++◌, append_assoc}
use Prim.Native.Nat.{ℕ, zero, suc, ◌+◌, ◌*◌, ◌≤◌, ◌<◌, ◌%◌}
use native.Mathlib.Omega.{arith}
use Rattle.std.proofs.Math.ListN.{length, length-append}
use Rattle.prelude.specs.Laws.Bools.{both, unlike}
use Rattle.record_lines.specs.Items.{Item, gives, bad}
use Rattle.record_lines.specs.Pieces.{Piece, piece, end_of}
use Rattle.record_scan.specs.Reading.{format_by, new_pieces, state_after, fine, is_new}
use Rattle.record_scan.specs.Trail.{trail}
use Rattle.record_reason.specs.Reasons.{line_of, item_of}
use Rattle.c_answers.specs.declared.DkReason.{DkReason}
use Rattle.says.specs.Words as w
use Rattle.says.specs.Words.{Tries, At}
use Rattle.says.specs.Records as r
use Rattle.says.specs.Records.{Case, Spells, Hex, Srec, Width, total}
use Rattle.meets_records.specs.Laws.One.{spells-bytes, below_last, total-append, hex-field, hex-pair, hex-one, number-length}
use Rattle.meets_records.specs.Laws.Spelled.{digits_of, length-of}
use Rattle.meets_records.specs.Laws.HexLine as hex
use Rattle.meets_records.specs.Laws.HexLine.{HexSaid}
use Rattle.meets_records.specs.Laws.SrecLine as srec
use Rattle.meets_records.specs.Laws.SrecLine.{SrecSaid, width_is}
use Rattle.meets_records.specs.Theorems.ReadDecides.{distinct, by-data}
use Rattle.says.specs.Reason as s
use Rattle.says.specs.Reason.{DataLine, LineGives, Count, Long, Checksum, OtherType, OtherWidth, OtherCount}
use Rattle.says.specs.Reason.{Past, Below, Twice}
use Rattle.meets_reason.specs.Laws.One.{WrongSum, OtherField}
use Rattle.meets_reason.specs.Laws.One.{at_one, last_one, data-one, gives_one, line-one, count-one, counted-long, checksum-one, width-by}
use Rattle.meets_reason.specs.Laws.Items.{Kept, clashes, own-width, as-hex, as-srec, data-item, item-gives}
use Rattle.meets_reason.specs.Laws.Trails.{lines, line-is, line_at}
use Rattle.meets_reason.specs.Laws.Bytes.{gives-covers, new-once}
use Rattle.meets_reason.specs.Laws.Spelling.{all_digits_lem}
use Rattle.meets_reason.specs.Laws.Span.{SpanSays}
use Rattle.meets_reason.specs.Laws.Typed.{TypeSays, Starts, LineChain, LineSays, line-says}

none : {X Y : Type 0} {Met : X → Type 0} {refusal : X → Y} {Then : Y → Type 0} → ((x : X) → Met x → ⊥) → ((y : Y) → Then y → ⊥) → (y : Y)
    → Tries Met refusal Then y → ⊥
none f g y (w.refused x m) = f x m
none f g y (w.passed n t) = g y t

count-front : {k : Case} {c : ℕ} {t bytes : List ℕ} → Spells k t (c ∷ bytes) → Spells k (take 2 t) (c ∷ [])
count-front (r.byte p q e x) = r.byte p q e r.none

module _ (format load : ℕ) (ls : List (List ℕ)) (n st : ℕ) (l : List ℕ) where
  -- ---- how it is spelled
  module _ (capital small from bare least c check : ℕ) (bytes : List ℕ) (starts : Starts capital small l)
      (spelled : Spells r.either (drop from l) (bytes ++ check ∷ [])) (count : Count format l from c)
      (enough : least ≤ c) (long : length l ≡ bare + 2 * c) (sum : Checksum format bytes check) where
    not-long : (m : ℕ) → Long format l from bare least m × (length l ≡ m → ⊥) → ⊥
    not-long m (s.counted x e, h) = h (omega (arith, count-one format l from x count))
    not-long m (s.shortest k e, h) = counted-long format l l from count k

    not-wrong : (x : ℕ × ℕ) → WrongSum format l from x.0 x.1 → ⊥
    not-wrong (a, b) (x, p, k, h) =
        let same = last_one x bytes (spells-bytes p spelled) in
        h (same.1 ∙ checksum-one format l sum (subst (λ (y : List ℕ). Checksum format y b) same.0 k))

    spelled_none : ((y : DkReason) → TypeSays format load ls n st l y → ⊥) → (y : DkReason)
        → LineChain format load ls n st capital small from bare least l y → ⊥
    spelled_none on =
        none (λ x h. h starts)
        (none (all_digits_lem format l from (digits_of spelled))
        (none not-long
        (none (λ x h. omega (arith, h.1, count-one format l from h.0 count))
        (none not-wrong on))))

  -- ---- Intel HEX
  data HexFits (t f : ℕ) (b : List ℕ) : Type 0 where
    is-data : t ≡ 0 → HexFits t f b
    is-end : t ≡ 1 → f ≡ 0 → length b ≡ 0 → HexFits t f b
    is-upper : t ≡ 4 → f ≡ 0 → length b ≡ 2 → HexFits t f b

  module _ (f : format ≡ 0) {t field : ℕ} {b : List ℕ} (h : Hex r.either l t field b) where
    hex-type : HexFits t field b → (u : ℕ) → OtherType format l u → ⊥
    hex-type (is-data e) u (s.hex g k x y z) = x ((hex-one k h).0 ∙ e)
    hex-type (is-end e i j) u (s.hex g k x y z) = y ((hex-one k h).0 ∙ e)
    hex-type (is-upper e i j) u (s.hex g k x y z) = z ((hex-one k h).0 ∙ e)
    hex-type e u (s.s-record m x a c d i j) = m f

    hex-width : (u : ℕ) → OtherWidth format l st u → ⊥
    hex-width u (s.other_width m a c d e i) = m f

    right : {u c d : ℕ} {x : List ℕ} → HexFits t field b → u ≡ t → x ≡ b → ((u ≡ 1) × (d ≡ 0)) ⊎ ((u ≡ 4) × (d ≡ 2)) → c ≡ length x → c ≡ d
    right (is-data e) p q (inl z) i = absurd (omega (arith, z.0))
    right (is-data e) p q (inr z) i = absurd (omega (arith, z.0))
    right (is-end e x y) p q (inl z) i = omega (arith, z.1, ap (λ (k : List ℕ). length k) q)
    right (is-end e x y) p q (inr z) i = absurd (omega (arith, z.0))
    right (is-upper e x y) p q (inl z) i = absurd (omega (arith, z.0))
    right (is-upper e x y) p q (inr z) i = omega (arith, z.1, ap (λ (k : List ℕ). length k) q)

    hex-count : HexFits t field b → (x : ℕ × ℕ) → OtherCount format l x.0 x.1 → ⊥
    hex-count fits (c, d) (s.hex g k o e m) = let same = hex-one k h in m (right fits same.0 same.2 o e)
    hex-count fits (c, d) (s.s-record m v i j (inl (x, k))) = m f
    hex-count fits (c, d) (s.s-record m v i j (inr (x, k))) = m f

    hex-address : HexFits t field b → (u : ℕ) → OtherField format l u → ⊥
    hex-address (is-data e) u (t, c, g, k, o, m) =
        let same = (hex-one k h).0 in
        ⊎_elim (λ z. omega arith) (λ z. omega arith) o
    hex-address (is-end e z i) u (t, c, g, k, o, m) = m ((hex-one k h).1 ∙ z)
    hex-address (is-upper e z i) u (t, c, g, k, o, m) = m ((hex-one k h).1 ∙ z)

    hex-chain : HexFits t field b → ((y : DkReason) → SpanSays format load ls n st l y → ⊥) → (y : DkReason)
        → LineChain format load ls n st 58 58 1 11 0 l y → ⊥
    unfolding total
    hex-chain fits span =
        let check = h.check in
        let bytes : List ℕ = length b ∷ h.high ∷ h.low ∷ t ∷ b in
        let colon = sym h.colon in
        let sum : (total bytes + check) % 256 ≡ 0 = omega (arith, h.sum, total-append bytes (check ∷ [])) in
        spelled_none 58 58 1 11 0 (length b) check bytes
        (inl (subst (λ (k : List ℕ). At k 0 58) colon (omega arith, refl)))
        (subst (λ (k : List ℕ). Spells r.either (drop 1 k) (bytes ++ check ∷ [])) colon h.spelled)
        (subst (λ (k : List ℕ). Count format k 1 (length b)) colon (count-front h.spelled))
        (omega arith)
        (omega (arith, ap (λ (k : List ℕ). length k) h.colon, length-of h.spelled, length-append b (check ∷ [])))
        (s.hex f (below_last bytes check h.spelled) sum)
        (none (hex-type fits) (none hex-width (none (hex-count fits) (none (hex-address fits) span))))

  pub hex-none : format ≡ 0 → {x : Item} → HexSaid st l x → (x ≡ bad → ⊥) → ((y : DkReason) → SpanSays format load ls n st l y → ⊥) → (y : DkReason)
      → LineChain format load ls n st 58 58 1 11 0 l y → ⊥
  hex-none f (hex.gave h) m span = hex-chain f h (is-data refl) span
  hex-none f (hex.moved h) m span = hex-chain f h (is-upper refl refl refl) span
  hex-none f (hex.closed h) m span = hex-chain f h (is-end refl refl refl) span
  hex-none f hex.none m span = absurd (m refl)

  -- ---- S-records
  data SrecFits (kind width : ℕ) (b : List ℕ) : Type 0 where
    is-data : {e top : ℕ} → Width kind e width top → (st ≡ 0) ⊎ (st ≡ width) → SrecFits kind width b
    is-end : {d top : ℕ} → Width d kind width top → (st ≡ 0) ⊎ (st ≡ width) → length b ≡ 0 → SrecFits kind width b
    is-header : kind ≡ 48 → width ≡ 2 → SrecFits kind width b

  no_header : {d e v top k t : ℕ} → k ≡ 48 → Width d e v top → t ≡ k → (t ≡ d) ⊎ (t ≡ e) → ⊥
  no_header z (r.two a b c d) e (inl x) = omega arith
  no_header z (r.two a b c d) e (inr x) = omega arith
  no_header z (r.four a b c d) e (inl x) = omega arith
  no_header z (r.four a b c d) e (inr x) = omega arith

  module _ (m : format ≡ 0 → ⊥) {kind v a : ℕ} {b : List ℕ} (h : Srec r.either l kind v a b) where
    second : At l 1 kind
    second = subst (λ (k : List ℕ). At k 1 kind) (sym h.front) (omega arith, refl)

    srec-type : SrecFits kind v b → (u : ℕ) → OtherType format l u → ⊥
    srec-type fits u (s.hex f k x y z) = m f
    srec-type (is-data (r.two p q i j) o) u (s.s-record g x t1 t2 t3 t4 t5) = t2 (at_one l 1 x second ∙ p)
    srec-type (is-data (r.four p q i j) o) u (s.s-record g x t1 t2 t3 t4 t5) = t3 (at_one l 1 x second ∙ p)
    srec-type (is-end (r.two p q i j) o z) u (s.s-record g x t1 t2 t3 t4 t5) = t5 (at_one l 1 x second ∙ q)
    srec-type (is-end (r.four p q i j) o z) u (s.s-record g x t1 t2 t3 t4 t5) = t4 (at_one l 1 x second ∙ q)
    srec-type (is-header e z) u (s.s-record g x t1 t2 t3 t4 t5) = t1 (at_one l 1 x second ∙ e)

    own : {u : ℕ} → u ≡ v → (st ≡ 0) ⊎ (st ≡ v) → (st ≡ 0 → ⊥) → (st ≡ u → ⊥) → ⊥
    own same o i j = ⊎_elim i (λ z. j (z ∙ sym same)) o

    srec-width : SrecFits kind v b → (u : ℕ) → OtherWidth format l st u → ⊥
    srec-width (is-data x o) u (s.other_width g y z k i j) = own (width-by format l y x (at_one l 1 z second) k (inl refl)) o i j
    srec-width (is-end x o e) u (s.other_width g y z k i j) = own (width-by format l y x (at_one l 1 z second) k (inr refl)) o i j
    srec-width (is-header e q) u (s.other_width g y z k i j) = no_header e y (at_one l 1 z second) k

    counted : Count format l 2 (v + length b + 1)
    counted =
        subst (λ (c : ℕ). Count format l 2 c) h.counts (subst (λ (k : List ℕ). Count format k 2 h.count) (sym h.front) (count-front h.spelled))

    srec-count : SrecFits kind v b → (x : ℕ × ℕ) → OtherCount format l x.0 x.1 → ⊥
    srec-count fits (c, d) (s.hex f k o e i) = m f
    srec-count (is-data x o) (c, d) (s.s-record g y i j (inl (z, k))) = omega (arith, count-one format l 2 i counted, by-data x y (at_one l 1 second z))
    srec-count (is-data x o) (c, d) (s.s-record g y i j (inr (z, k))) = (distinct x y).0 (at_one l 1 second z)
    srec-count (is-end x o e) (c, d) (s.s-record g y i j (inl (z, k))) = (distinct x y).1 (at_one l 1 second z)
    srec-count (is-end x o e) (c, d) (s.s-record g y i j (inr (z, k))) =
        k (omega (arith, count-one format l 2 i counted, width-by format l x y (at_one l 1 second z) (inr refl) (inr refl)))
    srec-count (is-header e q) (c, d) (s.s-record g y i j (inl (z, k))) = no_header e y (at_one l 1 z second) (inl refl)
    srec-count (is-header e q) (c, d) (s.s-record g y i j (inr (z, k))) = no_header e y (at_one l 1 z second) (inr refl)

    srec-field : (u : ℕ) → OtherField format l u → ⊥
    srec-field u (t, c, f, k, o, e) = m f

    wide : SrecFits kind v b → 2 ≤ v
    wide (is-data (r.two p q i j) o) = omega arith
    wide (is-data (r.four p q i j) o) = omega arith
    wide (is-end (r.two p q i j) o e) = omega arith
    wide (is-end (r.four p q i j) o e) = omega arith
    wide (is-header e q) = omega arith

    starts : (h.s ≡ 83) ⊎ ((r.either ≡ r.either) × (h.s ≡ 115)) → Starts 83 115 l
    starts (inl e) = inl (subst (λ (k : List ℕ). At k 0 83) (sym h.front) (omega arith, e))
    starts (inr (k, e)) = inr (subst (λ (k : List ℕ). At k 0 115) (sym h.front) (omega arith, e))

    srec-chain : SrecFits kind v b → ((y : DkReason) → SpanSays format load ls n st l y → ⊥) → (y : DkReason)
        → LineChain format load ls n st 83 115 2 4 3 l y → ⊥
    srec-chain fits span =
        let check = h.check in
        let bytes : List ℕ = h.count ∷ h.field ++ b in
        let front = sym h.front in
        let whole = subst (Spells r.either h.digits) (sym (append_assoc (h.count ∷ h.field) b (check ∷ []))) h.spelled in
        let ends : length (h.field ++ (b ++ check ∷ [])) ≡ v + (length b + 1) =
        length-append h.field (b ++ check ∷ []) ∙ omega (arith, number-length h.number, length-append b (check ∷ [])) in
        spelled_none 83 115 2 4 3 (v + length b + 1) check bytes
        (starts h.letter)
        (subst (λ (k : List ℕ). Spells r.either (drop 2 k) (bytes ++ check ∷ [])) front whole)
        counted
        (omega (arith, wide fits))
        (omega (arith, ap (λ (k : List ℕ). length k) h.front, length-of h.spelled, ends))
        (s.s-record m h.sum)
        (none (srec-type fits) (none (srec-width fits) (none (srec-count fits) (none srec-field span))))

  pub srec-none : (format ≡ 0 → ⊥) → {x : Item} → SrecSaid st l x → (x ≡ bad → ⊥) → ((y : DkReason) → SpanSays format load ls n st l y → ⊥) → (y : DkReason)
      → LineChain format load ls n st 83 115 2 4 3 l y → ⊥
  srec-none m (srec.gave {w = w} v o h e) k span = srec-chain m h (is-data (width_is v) (own-width st w o)) span
  srec-none m (srec.skipped h) k span = srec-chain m h (is-header refl refl) span
  srec-none m (srec.closed {w = w} v o h) k span = srec-chain m h (is-end (width_is v) (own-width st w o) refl) span
  srec-none m srec.none k span = absurd (k refl)

-- ---- its bytes
after-low : {u : ℕ} {l : List ℕ} {x : Item} → u < 65536 → HexSaid u l x → state_after u x < 65536
after-low h (hex.gave k) = h
after-low h (hex.moved k) = let p = hex-pair k in omega (arith, p.0, p.1)
after-low h (hex.closed k) = h
after-low h hex.none = h

-- an upper half has 16 bits
state-low : (format : ℕ) (text : List ℕ) → format ≡ 0 → (n : ℕ) → (trail format text n).state < 65536
unfolding trail
state-low format text f zero = omega arith
state-low format text f (suc n) =
    let st = (trail format text n).state in
    let l = line_of format text n in
    subst (λ (x : Item). state_after st x < 65536) (sym (as-hex format f st l)) (after-low (state-low format text f n) (hex.said st l))

fine-parts : (load a : ℕ) (b : List ℕ) (after : ℕ) (given : List Piece) → fine load given (new_pieces (gives a b after)) ≡ true
    → (length b ≡ 0) ⊎ ((load ≤ a) × (a + length b ≤ 4294967296) × (is_new given a (a + length b) ≡ true))
fine-parts load a [] after given e = inl refl
fine-parts load a (c ∷ b) after given e =
    let p = piece a (c ∷ b) in
    let two = both (leb load a && leb (end_of p) 4294967296) (is_new given a (end_of p)) e in
    let one = both (leb load a) (leb (end_of p) 4294967296) two.0 in
    inr (leb-true load a one.0, leb-true (end_of p) 4294967296 one.1, two.1)

module _ (format load : ℕ) (text : List ℕ) (n : ℕ) (l : List ℕ) (rest : List (List ℕ)) (here : drop n (lines format text) ≡ l ∷ rest) where
  abbrev st : ℕ
  st = (trail format text n).state

  abbrev ls : List (List ℕ)
  ls = lines format text

  item-is : item_of format text n ≡ format_by format st l
  item-is = ap (λ (m : List ℕ). format_by format st m) (line-is format text n here)

  -- an end record or one that is skipped gives none
  span-kept : {x : Item} → Kept x → format_by format st l ≡ x → (y : DkReason) → SpanSays format load ls n st l y → ⊥
  span-kept {x} k e = none past (none below twice)
    where
      past : (z : ℕ × ℕ) → Past format l st z.0 z.1 → ⊥
      past (a, b) (s.past d h) = clashes k (sym e) (data-item format d)

      below : (x : ℕ × ℕ) → Below format l load ls st x.0 x.1 → ⊥
      below (a, b) (s.below (s.line_gives d g) i h f) = clashes k (sym e) (data-item format d)

      twice : (y : DkReason) → Twice format load ls n y → ⊥
      twice y (s.twice {a = a} f) =
          let c = gives-covers format text n a f.so.2 in
          clashes k (sym e) (inr (c.0, c.1, c.2, sym item-is ∙ c.3))

  -- bytes that fit in
  span-given : (a : ℕ) (b : List ℕ) (after : ℕ) → format_by format st l ≡ gives a b after
      → fine load (trail format text n).given (new_pieces (gives a b after)) ≡ true → (y : DkReason) → SpanSays format load ls n st l y → ⊥
  span-given a b after e ok = none past (none below twice)
    where
      line : LineGives format st l after (piece a b)
      line = item-gives format st l e

      parts : (length b ≡ 0) ⊎ ((load ≤ a) × (a + length b ≤ 4294967296) × (is_new (trail format text n).given a (a + length b) ≡ true))
      parts = fine-parts load a b after (trail format text n).given ok

      low : {field : ℕ} → format ≡ 0 → Hex r.either l 0 field b → a ≡ 65536 * st + field → a + length b ≤ 4294967296
      low f k z = ⊎_elim (λ i. omega (arith, hex-field k, state-low format text f n)) (λ x. x.1) parts

      room : {t top : ℕ} → DataLine format st l t top (piece a b) → (format ≡ 0) ⊎ (a + length b ≤ top) → a + length b ≤ top
      room d (inr h) = h
      room (s.hex f k z) (inl g) = low f k z
      room (s.s-record m v o k) (inl g) = absurd (m g)

      within : {top : ℕ} {t : ℕ} {p : Piece} → DataLine format st l t top p → LineGives format st l after (piece a b) → p.address + length p.bytes ≤ top
      within d (s.line_gives g h) =
          let same = data-one format d g in
          omega (arith, same.1, ap (λ (q : Piece). q.address + length q.bytes) same.2, room g h)

      past : (x : ℕ × ℕ) → Past format l st x.0 x.1 → ⊥
      past (c, d) (s.past x h) = omega (arith, within x line)

      below : (x : ℕ × ℕ) → Below format l load ls st x.0 x.1 → ⊥
      below (c, d) (s.below {p = q} g i h f) =
          let same = (gives_one format g line).1 in
          let start : q.address ≡ a = ap (λ (p : Piece). p.address) same in
          let many : length q.bytes ≡ length b = ap (λ (p : Piece). length p.bytes) same in
          ⊎_elim (λ z. omega arith) (λ x. omega (arith, x.0)) parts

      twice : (y : DkReason) → Twice format load ls n y → ⊥
      twice y (s.twice {i} {a = x} f) =
          let own = new-once format text n a b after (item-is ∙ e) in
          ⊎_elim
          (λ z. let c = gives-covers format text n x f.so.2 in
          let same : gives c.0 c.1 c.2 ≡ gives a b after = sym c.3 ∙ item-is ∙ e in
          let many : c.1 ≡ b = cc in
          omega (arith, c.4, c.5, ap (λ (k : List ℕ). length k) many))
          (λ p. own p.2 i x f.so.0 f.so.1 f.so.2) parts

  -- ---- the line
  chain_by : {capital small from bare least : ℕ} → (format_by format st l ≡ bad → ⊥) → ((y : DkReason) → SpanSays format load ls n st l y → ⊥)
      → s.Spelling format capital small from bare least
      → (y : DkReason) → LineChain format load ls n st capital small from bare least l y → ⊥
  chain_by never span (s.hex f) = hex-none format load ls n st l f (hex.said st l) (λ e. never (as-hex format f st l ∙ e)) span
  chain_by never span (s.s-records m) = srec-none format load ls n st l m (srec.said st l) (λ e. never (as-srec format m st l ∙ e)) span

  line-none : (format_by format st l ≡ bad → ⊥) → ((y : DkReason) → SpanSays format load ls n st l y → ⊥) → (y : DkReason) → LineSays format load ls n y → ⊥
  line-none never span y (line-says x f t) =
      let same = line-one format x (line_at format text n here) in
      chain_by never span f y (rw (same.0, same.1) at t)

  pub kept-none : {x : Item} → Kept x → format_by format st l ≡ x → (y : DkReason) → LineSays format load ls n y → ⊥
  kept-none k e = line-none (λ b. clashes k (sym e) (inl b)) (span-kept k e)

  pub given-none : (a : ℕ) (b : List ℕ) (after : ℕ) → format_by format st l ≡ gives a b after
      → fine load (trail format text n).given (new_pieces (gives a b after)) ≡ true → (y : DkReason) → LineSays format load ls n y → ⊥
  given-none a b after e ok = line-none (λ f. differ (sym e ∙ f)) (span-given a b after e ok)
    where
      differ : {x z : ℕ} {y : List ℕ} → gives x y z ≡ bad → ⊥
      differ f = unlike cc
