-- What a caller has of the sentences of `dk_record_reason`: the line is that of `dk_record_fault`, a file has a reason exactly when it is bad, the checksum
-- with both values, a byte given twice and by which line, the lowest address.
use Rattle.std.specs.Prelude.{◌≡◌, refl, List, [], ◌∷◌, ◌++◌, ◌⊎◌, ℕ, ◌≤◌, ◌<◌, drop}
use Rattle.std.proofs.Common.{sym, ap, ◌∙◌, inl, inr, ⊎_elim, arith, lt-ltb}
use Rattle.record_lines.specs.Pieces.{Piece}
use Rattle.record_scan.specs.Reading.{Read, sound, faulty, read_text}
use Rattle.record_scan.specs.Outcome.{fault_of}
use Rattle.record_reason.specs.Reasons.{why_of}
use Rattle.c_answers.specs.declared.DkReason.{DkReason}
use Rattle.c_answers.specs.Parts.{line_told, reason_told}
use Rattle.c_answers.specs.declared.DkFault.{DkFault}
use Rattle.c_model.specs.RecordFiles.{read_as, FaultTold}
use Rattle.says.specs.Words as w
use Rattle.says.specs.Words.{Tries, At}
use Rattle.says.specs.Words.{Not}
use Rattle.says.specs.Records.{either, Lines, Spells}
use Rattle.says.specs.Read as r
use Rattle.says.specs.Read.{Good, FaultSays, ReadSays, Lent, Outcome}
use Rattle.meets_records.specs.Laws.Spelled.{lines-meet}
use Rattle.meets_records.specs.Laws.Sits.{solid}
use Rattle.meets_records.specs.Theorems.Extent.{Bad}
use Rattle.meets_records.specs.Theorems.FaultDecides.{fault-decides}
use Rattle.meets_records.specs.Theorems.FaultMeets.{good-sound, sound-good, fault-meets}
use Rattle.says.specs.Reason as s
use Rattle.says.specs.Reason.{GivesTo, LineAt, Checksum, why, Twice, FaultLine, DkReasonSays}
use Rattle.meets_reason.specs.Laws.One.{WrongSum}
use Rattle.meets_reason.specs.Laws.Typed.{LineSays, line-says}
use Rattle.meets_reason.specs.Laws.Trails.{lines}
use Rattle.meets_reason.specs.Laws.Stops.{fault-at, fault-within}
use Rattle.meets_reason.specs.Theorems.Decides.{dk-reason-decides}
use Rattle.meets_reason.specs.Theorems.Meets.{by-fault, reason-meets}

tries-all : {X Y : Type 0} {Met : X → Type 0} {refusal : X → Y} {Then : Y → Type 0} (P : Y → Type 0) → ((x : X) → Met x → P (refusal x))
    → ((y : Y) → Then y → P y) → (y : Y) → Tries Met refusal Then y → P y
tries-all P f g y (w.refused x m) = f x m
tries-all P f g y (w.passed none t) = g y t

stands : {format st k t : ℕ} {l : List ℕ} {ls : List (List ℕ)} → LineAt format st ls k t l → At ls k l
stands s.here = (omega arith, refl)
stands (s.later a x) = let k = stands x in (omega (arith, k.0), k.1)

-- ---- what is told with three of the reasons
module _ (format load : ℕ) (text : List ℕ) (y : DkReason) where
  -- "the checksum: what it is, and what it should be"
  pub record ChecksumTold : Type 0 where
    pub lines : List (List ℕ)
    pub cut : Lines text lines
    pub line : List ℕ
    pub there : At lines y.line line
    pub from : ℕ
    pub bytes : List ℕ
    pub spelled : Spells either (drop from line) (bytes ++ y.first ∷ [])
    pub should : Checksum format bytes y.second
    pub other : Not (y.first ≡ y.second)

  -- a byte given twice, and by which line
  pub record TwiceTold : Type 0 where
    pub lines : List (List ℕ)
    pub cut : Lines text lines
    pub earlier : y.first < y.line
    pub gave : GivesTo format lines y.first y.second
    pub again : GivesTo format lines y.line y.second
    pub none-earlier : (k a : ℕ) → GivesTo format lines k a → GivesTo format lines y.line a → k < y.line → y.first ≤ k
    pub none-lower : (a : ℕ) → GivesTo format lines y.first a → GivesTo format lines y.line a → y.second ≤ a

  -- "below the load address", and "the lowest that a line of the file gives a byte at"
  pub record BelowTold : Type 0 where
    pub lines : List (List ℕ)
    pub cut : Lines text lines
    pub own : GivesTo format lines y.line y.first
    pub below : y.first < load
    pub given : (k : ℕ) × GivesTo format lines k y.second
    pub lowest : (k a : ℕ) → GivesTo format lines k a → y.second ≤ a

  abbrev pub Tells : Type 0
  Tells = (y.reason ≡ 0 → ⊥) × (y.reason ≡ 5 → ChecksumTold) × (y.reason ≡ 11 → TwiceTold) × (y.reason ≡ 10 → BelowTold)

module _ (format load : ℕ) (text : List ℕ) (ls : List (List ℕ)) (cut : Lines text ls) (n : ℕ) where
  -- the line is this one, and the reason tells what it says
  abbrev P : DkReason → Type 0
  P y = (y.line ≡ n) × Tells format load text y

  abbrev tell : ℕ → ℕ → ℕ → DkReason
  tell = why format load ls n

  -- a reason of which nothing more is said
  plain : (k a b : ℕ) → (k ≡ 0 → ⊥) → (k ≡ 5 → ⊥) → (k ≡ 11 → ⊥) → (k ≡ 10 → ⊥) → P (tell k a b)
  plain k a b z c t l = (refl, (z, λ e. absurd (c e), λ e. absurd (t e), λ e. absurd (l e)))

  twice-told : (y : DkReason) → Twice format load ls n y → P y
  twice-told y (s.twice {i} {a} f) = (
    refl,
    (
      λ e. omega arith,
      λ e. absurd (omega arith),
      λ _. record {
        lines = ls;
        cut = cut;
        earlier = f.so.0;
        gave = f.so.1;
        again = f.so.2;
        none-earlier = λ k b g h lt. ⊎_elim (λ q. omega arith) (λ q. omega (arith, q.0)) (f.none_before k b (lt, g, h));
        none-lower = λ b g h. ⊎_elim (λ q. absurd (omega arith)) (λ q. q.1) (f.none_before i b (f.so.0, g, h));
      },
      λ e. absurd (omega arith),
    ),
  )

  line-told : (y : DkReason) → LineSays format load ls n y → P y
  line-told y (line-says {st} {from = from} {l = l} at form t) =
      tries-all P (λ x m. plain 1 0 0 (λ e. omega arith) (λ e. omega arith) (λ e. omega arith) (λ e. omega arith))
      (tries-all P (λ x m. plain 2 x _ (λ e. omega arith) (λ e. omega arith) (λ e. omega arith) (λ e. omega arith))
      (tries-all P (λ x m. plain 3 _ x (λ e. omega arith) (λ e. omega arith) (λ e. omega arith) (λ e. omega arith))
      (tries-all P (λ x m. plain 4 x _ (λ e. omega arith) (λ e. omega arith) (λ e. omega arith) (λ e. omega arith))
      (tries-all P (λ x m. summed x m)
      (tries-all P (λ x m. plain 6 x 0 (λ e. omega arith) (λ e. omega arith) (λ e. omega arith) (λ e. omega arith))
      (tries-all P (λ x m. plain 7 x _ (λ e. omega arith) (λ e. omega arith) (λ e. omega arith) (λ e. omega arith))
      (tries-all P (λ x m. plain 4 x.0 x.1 (λ e. omega arith) (λ e. omega arith) (λ e. omega arith) (λ e. omega arith))
      (tries-all P (λ x m. plain 8 x 0 (λ e. omega arith) (λ e. omega arith) (λ e. omega arith) (λ e. omega arith))
      (tries-all P (λ x m. plain 9 x.0 x.1 (λ e. omega arith) (λ e. omega arith) (λ e. omega arith) (λ e. omega arith))
      (tries-all P (λ x m. lowered x m) twice-told)))))))))) y t
    where
      summed : (x : ℕ × ℕ) → WrongSum format l from x.0 x.1 → P (tell 5 x.0 x.1)
      summed (a, b) (bytes, p, c, d) = (
        refl,
        (
          λ e. omega arith,
          λ _. record { lines = ls; cut = cut; line = l; there = stands at; from = from; bytes = bytes; spelled = p; should = c; other = d },
          λ e. absurd (omega arith),
          λ e. absurd (omega arith),
        ),
      )

      lowered : (x : ℕ × ℕ) → s.Below format l load ls st x.0 x.1 → P (tell 10 x.0 x.1)
      lowered (a, b) (s.below g i h f) = (
        refl,
        (
          λ e. omega arith,
          λ e. absurd (omega arith),
          λ e. absurd (omega arith),
          λ _. record {
            lines = ls;
            cut = cut;
            own = s.gives_to at g (omega arith) (omega arith);
            below = h;
            given = f.so;
            lowest = λ k c q. f.none_below c (k, q);
          },
        ),
      )

  fault-told : (y : DkReason) → FaultLine format load ls n y → P y
  fault-told y (s.behind h x) = plain 12 0 0 (λ e. omega arith) (λ e. omega arith) (λ e. omega arith) (λ e. omega arith)
  fault-told y (s.no_end e m) = plain 13 0 0 (λ e. omega arith) (λ e. omega arith) (λ e. omega arith) (λ e. omega arith)
  fault-told y (s.line m x f t) = line-told y (line-says x f t)

module _ (format load : ℕ) (text : List ℕ) where
  -- where the reader stops there is a reason
  stops-told : (n : ℕ) {y : DkReason} → read_text format load text ≡ faulty n → y ≡ reason_told (why_of format load text (faulty n)) → y.reason ≡ 0 → ⊥
  stops-told n e same z =
      let t = by-fault format load text n (fault-within format load text n e) (fault-at format load text n e) in
      (fault-told format load text (lines format text) (lines-meet text) n _ t).1.0 (sym (ap (λ (k : DkReason). k.reason) same) ∙ z)

module _ (format load : ℕ) (text scratch left : List ℕ) (y : DkReason) (c : DkReasonSays format load text scratch (y, left)) where
  told : Tells format load text y ⊎ (y ≡ record { reason = 0; line = 0; first = 0; second = 0 })
  told = go c
    where
      go : {x : DkReason × List ℕ} → DkReasonSays format load text scratch x
          → Tells format load text x.0 ⊎ (x.0 ≡ record { reason = 0; line = 0; first = 0; second = 0 })
      go (s.none cut never) = inr refl
      go (s.first {n} {ls} {y} cut f t) = inl (fault-told format load text ls cut n y t).1

  -- the answer is the definition's, since the sentences leave one
  why-by : {x : Read} → read_text format load text ≡ x → y ≡ reason_told (why_of format load text x)
  why-by e =
      let one = dk-reason-decides format load text scratch (y, left) _ c (reason-meets format load text scratch _ scratch refl refl) in
      ap (λ (x : DkReason × List ℕ). x.0) one ∙ ap (λ (x : Read). reason_told (why_of format load text x)) e

  sound-told : (out : List Piece) → read_text format load text ≡ sound out → (y.line ≡ 0) × (y.reason ≡ 0)
  sound-told out e = let same = why-by e in (ap (λ (z : DkReason). z.line) same, ap (λ (z : DkReason). z.reason) same)

  fault-line : (n : ℕ) → read_text format load text ≡ faulty n → (y.line ≡ n) × (y.reason ≡ 0 → ⊥)
  fault-line n e =
      (ap (λ (z : DkReason). z.line) (why-by e), stops-told format load text n e (why-by e))

  no-reason : {ps : List Piece} → Good format load text ps → y.reason ≡ 0
  no-reason {ps} g = (sound-told (solid ps) (good-sound format load text g)).1

  -- a file has a reason exactly when it is bad
  pub bad-exactly : format < 2 → (Bad format load text → y.reason ≡ 0 → ⊥) × ((y.reason ≡ 0 → ⊥) → Bad format load text)
  bad-exactly known = (go (read_text format load text) refl, λ n ps g. n (no-reason g))
    where
      go : (x : Read) → read_text format load text ≡ x → Bad format load text → y.reason ≡ 0 → ⊥
      go (sound out) e b z = let k = sound-good format load text known out e in b k.0 k.1
      go (faulty n) e b z = (fault-line n e).1 z

  -- the line is that of `dk_record_fault`, which tells a fault exactly where there is a reason
  pub line-is-faults : format < 2 → (f : DkFault) {lent kept : List ℕ} → FaultSays format load text lent (f, kept)
      → (y.line ≡ f.line) × ((f.fault ≡ 0 → y.reason ≡ 0) × (y.reason ≡ 0 → f.fault ≡ 0))
  line-is-faults known f {lent} d = go (read_text format load text) refl
    where
      same : {x : Read} → read_text format load text ≡ x → f ≡ line_told (fault_of x)
      same e =
          let c : FaultTold (read_as format load text) lent (line_told (fault_of (read_as format load text))) lent = record { answer = refl; left = refl } in
          let one = fault-decides format load text lent _ _ d (fault-meets format load text lent _ lent c) in
          ap (λ (x : DkFault × List ℕ). x.0) one ∙ ap (λ (x : Read). line_told (fault_of x)) (as-known ∙ e)
        where
          as-known : read_as format load text ≡ read_text format load text
          as-known = rw (lt-ltb format 2 known) refl

      go : (x : Read) → read_text format load text ≡ x → (y.line ≡ f.line) × ((f.fault ≡ 0 → y.reason ≡ 0) × (y.reason ≡ 0 → f.fault ≡ 0))
      go (sound out) e =
          let k = sound-told out e in
          (k.0 ∙ sym (ap (λ (g : DkFault). g.line) (same e)), (λ z. k.1, λ z. ap (λ (g : DkFault). g.fault) (same e)))
      go (faulty n) e =
          let k = fault-line n e in
          let one : f.fault ≡ 1 = ap (λ (g : DkFault). g.fault) (same e) in
          (k.0 ∙ sym (ap (λ (g : DkFault). g.line) (same e)), (λ z. absurd (omega arith), λ z. absurd (k.1 z)))

  -- `dk_read_records` refuses it with 4 exactly then
  pub refused-4-exactly : format < 2 → (old : Lent) (o : Outcome) → ReadSays format load text old o
      → (o.answer.refusal ≡ 4 → y.reason ≡ 0 → ⊥) × ((y.reason ≡ 0 → ⊥) → o.answer.refusal ≡ 4)
  refused-4-exactly known old o d = go o d
    where
      other : (o : Outcome) {ps : List Piece} {os ss : List ℕ} → r.Accepts format load text old ps os ss o → o.answer.refusal ≡ 4 → ⊥
      other o (r.accepts a b e) z = omega arith

      go : (o : Outcome) → ReadSays format load text old o
          → (o.answer.refusal ≡ 4 → y.reason ≡ 0 → ⊥) × ((y.reason ≡ 0 → ⊥) → o.answer.refusal ≡ 4)
      go o (r.bad b) = (λ e. (bad-exactly known).0 b, λ n. refl)
      go o (r.read g x t) = (
        λ e z. tries-all (λ (u : Outcome). u.answer.refusal ≡ 4 → ⊥) (λ a m q. omega arith)
            (tries-all (λ (u : Outcome). u.answer.refusal ≡ 4 → ⊥) (λ a m q. omega arith) (λ u v. other u v)) o t e,
        λ n. absurd (n (no-reason g)),
      )

  -- "the checksum: what it is, and what it should be" (include/denkumari.h)
  pub checksum-with-both-values : y.reason ≡ 5 → ChecksumTold format load text y
  checksum-with-both-values e = ⊎_elim (λ t. t.1 e) (λ z. absurd (omega (arith, ap (λ (k : DkReason). k.reason) z))) told

  -- a byte given twice, and by which line
  pub given-twice-by-which-line : y.reason ≡ 11 → TwiceTold format load text y
  given-twice-by-which-line e = ⊎_elim (λ t. t.2 e) (λ z. absurd (omega (arith, ap (λ (k : DkReason). k.reason) z))) told

  -- below the load address, with the lowest address that the file gives
  pub below-with-lowest : y.reason ≡ 10 → BelowTold format load text y
  below-with-lowest e = ⊎_elim (λ t. t.3 e) (λ z. absurd (omega (arith, ap (λ (k : DkReason). k.reason) z))) told
