-- Laws that Theorems/Told rests on.
use Rattle.std.specs.Prelude.{ℕ, ◌*◌, Bool, true, false, ◌&&◌, ◌≡◌, refl, leb, Ok, Err, Result}
use Rattle.std.proofs.Common.{inl, inr, leb-true, leb-false}
use Rattle.prelude.specs.Pick.{pick}
use Rattle.prelude.specs.Told.{told_verdict}
use Rattle.prelude.specs.declared.Refusal.TheVariants.{Malformed}
use Rattle.prelude.specs.Verdict.{Accepted}
use Rattle.prelude.specs.declared.Refusal.{Refusal}
use Rattle.form_fields.specs.declared.Shape.{Shape}
use Rattle.form_fields.specs.Lists.{lists_verdict}
use Rattle.form_fields.specs.Told.{ListsTold, broken, few-nodes, few-rows, room}

module _ (kinds operands numbers states : ℕ) where
  by-room : (s : Shape) (k o n t : Bool) → leb s.nodes kinds ≡ k → leb s.nodes operands ≡ o → leb (s.rows * s.nodes) numbers ≡ n
      → leb (s.rows * s.nodes) states ≡ t
      → ListsTold (Ok s) kinds operands numbers states
      (told_verdict (pick (k && o) (pick (n && t) Accepted (Err (Malformed 1))) (Err (Malformed 0))))
  by-room s false o n t a b c d = few-nodes s refl (inl (leb-false s.nodes kinds a))
  by-room s true false n t a b c d = few-nodes s refl (inr (leb-false s.nodes operands b))
  by-room s true true false t a b c d =
      few-rows s refl (leb-true s.nodes kinds a) (leb-true s.nodes operands b) (inl (leb-false (s.rows * s.nodes) numbers c))
  by-room s true true true false a b c d =
      few-rows s refl (leb-true s.nodes kinds a) (leb-true s.nodes operands b) (inr (leb-false (s.rows * s.nodes) states d))
  by-room s true true true true a b c d =
      room s refl (leb-true s.nodes kinds a) (leb-true s.nodes operands b) (leb-true (s.rows * s.nodes) numbers c)
      (leb-true (s.rows * s.nodes) states d)

  pub lists-by : (form : Result Shape Refusal) → ListsTold form kinds operands numbers states (told_verdict (lists_verdict form kinds operands numbers states))
  lists-by (Err why) = broken refl
  lists-by (Ok s) =
      by-room s (leb s.nodes kinds) (leb s.nodes operands) (leb (s.rows * s.nodes) numbers) (leb (s.rows * s.nodes) states) refl refl refl refl
