-- Things written one behind the other, read back: how many fields there are, and a column of what is read of each.
use Rattle.std.specs.Prelude.{true, false, ◌≡◌}
use mathlib.Core.List.{List, [], ◌∷◌, ◌++◌, map}
use Rattle.std.proofs.Math.Path.{refl, ap, ap₂}
use Rattle.std.proofs.Common.{sym, ◌∙◌}
use Prim.Native.Nat.{ℕ, suc, ◌+◌, ◌*◌}
use native.Mathlib.Omega.{arith}
use Rattle.std.proofs.Math.ListN.{length, length-append}
use Rattle.form_fields.specs.Columns.{column}
use Rattle.form_fields.specs.Fields.{field_at, sound_at, run}
use Rattle.form_fields.specs.Laws.Fields.{field-tag, by-test}
use Rattle.form_fields.specs.Theorems.Fields.{run-stop, run_more}
use Rattle.form_fields.specs.Contents.{flat, Each}
use Rattle.form_fields.specs.Has.{Has}
use Rattle.form_fields.proofs.Has.{has_left, has_right, has-byte}

-- Where another tag stands, no field of this tag does.
pub no_field : (file : List ℕ) (tag len at t : ℕ) (l : List ℕ) → Has file at (t ∷ l) → (tag ≡ t → ⊥) → sound_at file tag len at ≡ false
unfolding sound_at
no_field file tag len at t l h other =
    by-test (field_at file tag len at)
    (λ e. absurd (other (sym (field-tag file tag len at e) ∙ has-byte t l h)))
    (λ e. rw e refl)

-- What follows begins with another tag.
pub record Other (tag : ℕ) (l : List ℕ) : Type 0 where
  pub first : ℕ
  pub tail : List ℕ
  pub is : l ≡ first ∷ tail
  pub apart : tag ≡ first → ⊥

pub no_run : (file : List ℕ) (tag len at : ℕ) (l : List ℕ) → Other tag l → Has file at l → run file tag len at ≡ 0
no_run file tag len at l k h = run-stop file tag len at (no_field file tag len at k.first k.tail (rw k.is at h) k.apart)

module _ {X : Type 0} (file : List ℕ) (write : X → List ℕ) (P : X → Type 0) (step : ℕ) (long : (x : X) → P x → length (write x) ≡ step) where
  pub flat-length : (xs : List X) → Each P xs → length (flat write xs) ≡ length xs * step
  unfolding flat
  flat-length [] e = omega arith
  flat-length (x ∷ xs) e =
      length-append (write x) (flat write xs) ∙ omega (arith, long x e.0, flat-length xs e.1)

  -- what follows stands behind them
  pub flat-skip : (xs : List X) → Each P xs → (at k : ℕ) (l : List ℕ) → k ≡ at + length xs * step → Has file at (flat write xs ++ l) → Has file k l
  flat-skip xs e at k l q h = has_right (flat write xs) l k (omega (arith, q, flat-length xs e)) h

  -- each is read where it stands
  pub column-of : {A : Type 0} (read : ℕ → A) (off : ℕ) (what : X → A) → ((x : X) → P x → (at : ℕ) → Has file at (write x) → read (at + off) ≡ what x)
      → (xs : List X) → Each P xs → (at : ℕ) → Has file at (flat write xs) → column read step (at + off) (length xs) ≡ map what xs
  unfolding flat column
  column-of read off what reads [] e at h = refl
  column-of read off what reads (x ∷ xs) e at h =
      let next : at + off + step ≡ at + step + off = omega arith in
      let tail = column-of read off what reads xs e.1 (at + step) (has_right (write x) (flat write xs) (at + step) (ap (λ (n : ℕ). at + n) (sym (long x
      e.0))) h) in
      ap₂ ◌∷◌
      (reads x e.0 at (has_left (write x) (flat write xs) h))
      (ap (λ (k : ℕ). column read step k (length xs)) next ∙ tail)

  -- each counts as a field of the run
  pub run_of : (tag len : ℕ) → step ≡ 3 + len → ((x : X) → P x → (at : ℕ) → Has file at (write x) → sound_at file tag len at ≡ true)
      → (xs : List X) → Each P xs → (at : ℕ) → Has file at (flat write xs) → run file tag len at ≡ length xs + run file tag len (at + length xs * step)
  unfolding flat
  run_of tag len q sound [] e at h = ap (run file tag len) {x = at} {y = at + 0 * step} (omega arith) ∙ omega arith
  run_of tag len q sound (x ∷ xs) e at h =
      let tail = run_of tag len q sound xs e.1 (at + step) (has_right (write x) (flat write xs) (at + step) (ap (λ (n : ℕ). at + n) (sym (long x
      e.0))) h) in
      let here = run_more file tag len at (sound x e.0 at (has_left (write x) (flat write xs) h)) in
      let next : at + (3 + len) ≡ at + step = omega arith in
      let last : at + step + length xs * step ≡ at + suc (length xs) * step = omega arith in
      here ∙ ap (λ (k : ℕ). suc (run file tag len k)) next ∙ ap suc (tail ∙ ap (λ (k : ℕ). length xs + run file tag len k) last) ∙ omega arith
