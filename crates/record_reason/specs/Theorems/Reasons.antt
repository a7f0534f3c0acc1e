-- What a reason says, in other words: a bad file has one and a good file none; the checksum that a line should have is the byte that makes it right; the line
-- that gave a byte first is the first that did.
use Rattle.std.specs.Prelude.{◌≡◌, Bool, true, false, List, eqb}
use Rattle.std.proofs.Math.Path.{refl}
use Prim.Native.Nat.{ℕ, zero, suc, ◌+◌, ◌-◌, ◌*◌, ◌%◌, ◌<◌, ◌≤◌}
use Rattle.std.proofs.Common.{arith, eq-eqb, eqb-true}
use Rattle.std.proofs.Math.Decide.{dec_lt}
use Rattle.std.proofs.lemmas.Bool.{eqb-false}
use Rattle.prelude.specs.Laws.Bools.{clash}
use Rattle.prelude.specs.Pick.{pick}
use Rattle.record_lines.specs.Digits.{pair_at, bytes_at}
use Rattle.record_lines.specs.Sums.{sum_of}
use Rattle.record_lines.specs.Laws.Sums.{sum-list-more}
use Rattle.record_scan.specs.Reading.{new_pieces, is_new}
use Rattle.record_reason.specs.Spelling.{cause_of, nothing, sum_cause}
use Rattle.record_reason.specs.Reasons.{item_of, giver}

-- ---- a bad file has a reason

-- ---- the checksum

-- With it in the place of the one found the bytes would sum as they should, and it is another.
pub checksum-makes-right : (from body target : ℕ) (line : List ℕ) → target < 256 → (sum_cause from body target line).reason ≡ 5
    → ((sum_of (bytes_at line from (body + pair_at line from)) + (sum_cause from body target line).second) % 256 ≡ target)
    × ((sum_cause from body target line).first ≡ pair_at line (from + 2 * (body + pair_at line from)))
    × ((sum_cause from body target line).first ≡ (sum_cause from body target line).second → ⊥)
checksum-makes-right from body target line low = go (eqb (sum_of (bytes_at line from (n + 1)) % 256) target) refl
  where
    n : ℕ
    n = body + pair_at line from

    found : ℕ
    found = pair_at line (from + 2 * n)

    others : ℕ
    others = sum_of (bytes_at line from n)

    wanted : ℕ
    wanted = (256 + target - others % 256) % 256

    go : (t : Bool) → eqb (sum_of (bytes_at line from (n + 1)) % 256) target ≡ t → (pick t nothing (cause_of 5 found wanted)).reason ≡ 5
        → ((others + (pick t nothing (cause_of 5 found wanted)).second) % 256 ≡ target) × ((pick t nothing (cause_of 5 found wanted)).first ≡ found)
        × ((pick t nothing (cause_of 5 found wanted)).first ≡ (pick t nothing (cause_of 5 found wanted)).second → ⊥)
    go true e h = absurd (omega arith)
    go false e h = (
      omega arith,
      refl,
      λ z. clash
          (eq-eqb (sum_of (bytes_at line from (n + 1)) % 256) target
          (omega (arith, z, sum-list-more n (λ k. pair_at line (from + 2 * k))))) e,
    )

-- ---- the first that gave a byte

module _ (format : ℕ) (text : List ℕ) (first end : ℕ) where
  -- line k gives none of the bytes from `first` on and below `end`
  abbrev pub Leaves : ℕ → Type 0
  Leaves k = is_new (new_pieces (item_of format text k)) first end ≡ true

  -- the line told gives one, and no line before it does; or none of the n first does
  pub record First (n g : ℕ) : Type 0 where
    pub within : g ≤ n
    pub gives : g < n → is_new (new_pieces (item_of format text g)) first end ≡ false
    pub before : (k : ℕ) → k < g → Leaves k

  next-first : (n g : ℕ) (t : Bool) → is_new (new_pieces (item_of format text n)) first end ≡ t → First n g → First (suc n) (pick (eqb g n) (pick t (suc n) n) g)
  next-first n g t e w = go (eqb g n) refl t e
    where
      go : (b : Bool) → eqb g n ≡ b → (t : Bool) → is_new (new_pieces (item_of format text n)) first end ≡ t → First (suc n) (pick b (pick t (suc n) n) g)
      go true s true e =
          let same : g ≡ n = eqb-true g n s in
          record {
            within = omega arith;
            gives = λ h. absurd (omega arith);
            before = λ k h. elim (dec_lt k n) [ yes p ↦ w.before k (omega arith) | no p ↦ let last : k ≡ n = omega arith in rw last e ];
          }
      go true s false e =
          let same : g ≡ n = eqb-true g n s in
          record { within = omega arith; gives = λ h. e; before = λ k h. w.before k (omega arith) }
      go false s t e =
          let apart : g ≡ n → ⊥ = eqb-false g n s in
          let other : g < n = omega (arith, w.within) in
          record { within = omega (arith, w.within); gives = λ h. w.gives other; before = w.before }

  pub giver-is-first : (n : ℕ) → First n (giver format text first end n)
  unfolding giver
  giver-is-first zero = record { within = omega arith; gives = λ h. absurd (omega arith); before = λ k h. absurd (omega arith) }
  giver-is-first (suc n) =
      next-first n (giver format text first end n) (is_new (new_pieces (item_of format text n)) first end) refl (giver-is-first n)
