-- Theorems about what Fields defines.
use Rattle.std.specs.Prelude.{true, false, List, ◌≡◌, length}
use Rattle.std.proofs.Math.Path.{refl}
use Rattle.std.proofs.Common.{sym, ap, ◌∙◌, arith}
use Prim.Native.Nat.{ℕ, zero, suc, ◌+◌, ◌*◌, ◌≤◌}
use Rattle.form_fields.specs.Fields.{run, run_in, sound_at}
use Rattle.form_fields.specs.Laws.Fields.{by-test, sound-ends}

module _ (file : List ℕ) (tag len : ℕ) where
  stops : (steps at : ℕ) → sound_at file tag len at ≡ false → run_in steps file tag len at ≡ 0
  unfolding run_in
  stops zero at h = refl
  stops (suc steps) at h = rw h refl

  goes : (steps at : ℕ) → sound_at file tag len at ≡ true → run_in (suc steps) file tag len at ≡ suc (run_in steps file tag len (at + (3 + len)))
  unfolding run_in
  goes steps at h = rw h refl

  -- any number of steps that is large enough gives the same
  same : (a b at : ℕ) → length file ≤ at + a → length file ≤ at + b → run_in a file tag len at ≡ run_in b file tag len at
  same zero zero at ha hb = refl
  same zero (suc b) at ha hb =
      by-test (sound_at file tag len at) (λ e. absurd (omega (arith, sound-ends file tag len at e))) (λ e. stops zero at e ∙ sym (stops (suc b) at e))
  same (suc a) zero at ha hb =
      by-test (sound_at file tag len at) (λ e. absurd (omega (arith, sound-ends file tag len at e))) (λ e. stops (suc a) at e ∙ sym (stops zero at e))
  same (suc a) (suc b) at ha hb =
      by-test (sound_at file tag len at)
      (λ e. goes a at e ∙ ap suc (same a b (at + (3 + len)) (omega arith) (omega arith)) ∙ sym (goes b at e))
      (λ e. stops (suc a) at e ∙ sym (stops (suc b) at e))

  -- No field, no run; a field, and it counts one more.
  pub run-stop : (at : ℕ) → sound_at file tag len at ≡ false → run file tag len at ≡ 0
  unfolding run
  run-stop at h = stops (length file) at h

  pub run_more : (at : ℕ) → sound_at file tag len at ≡ true → run file tag len at ≡ suc (run file tag len (at + (3 + len)))
  unfolding run
  run_more at h = same (length file) (suc (length file)) at (omega arith) (omega arith) ∙ goes (length file) at h

  -- The fields of a run stand within the file.
  none-ends : (at : ℕ) → at ≤ length file → run file tag len at ≡ 0 → at + run file tag len at * (3 + len) ≤ length file
  none-ends at h e = rw e (omega arith)

  ends : (left at : ℕ) → at ≤ length file → length file ≤ at + left → at + run file tag len at * (3 + len) ≤ length file
  ends zero at h k =
      by-test (sound_at file tag len at) (λ e. absurd (omega (arith, sound-ends file tag len at e))) (λ e. none-ends at h (run-stop at e))
  ends (suc left) at h k =
      by-test (sound_at file tag len at)
      (λ e.
      let room = sound-ends file tag len at e in
      let next = at + (3 + len) in
      rw (run_more at e) (omega (arith, ends left next (omega arith) (omega arith))))
      (λ e. none-ends at h (run-stop at e))

  pub run_ends : (at : ℕ) → at ≤ length file → at + run file tag len at * (3 + len) ≤ length file
  run_ends at h = ends (length file) at h (omega arith)
