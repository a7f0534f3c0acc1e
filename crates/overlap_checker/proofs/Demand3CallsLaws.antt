-- Laws that Theorems/Demand3Calls rests on.
use Rattle.std.specs.Prelude.{◌≡◌, refl, List, [], ◌∷◌, ◌++◌, ℕ, ◌+◌, ◌-◌, ◌≤◌, length, drop}
use Rattle.std.proofs.Common.{sym, ap, ap₂, ◌∙◌, subst, arith, drop-drop}
use mathlib.Core.List.Memᴰ
use Rattle.std.proofs.Math.Seq.{drop-append-add}
use Rattle.prelude.specs.Verdict.{Verdict}
use Rattle.overlap_checker.specs.declared.Entry.{Entry}
use Rattle.overlap_checker.specs.State.{State, after}
use Rattle.overlap_checker.specs.Lent.{Lent, lent, state_in, Sound, laid, starts, lengths, laid_into}
use Rattle.overlap_checker.specs.Folds.{state_after, answers, AllWithin}
use Rattle.overlap_checker.specs.Folds.{CallsInTurn}
use Rattle.overlap_checker.specs.Laws.Laid.{starts-length, lengths-length}
use Rattle.overlap_checker.proofs.GoingLaws.{Grown, laid-again, folded_grows}
use Rattle.overlap_checker.proofs.Going.{left_is, state-after, sound-after}
use Rattle.overlap_checker.specs.Theorems.Checks.{calls-offers}

-- ---- laid twice

laid-over : (f g list : List ℕ) → length f ≤ length g → laid g (laid f list) ≡ laid g list
laid-over f g list h =
    let k = length g - length f in
    let whole : length g ≡ length f + k = omega arith in
    ap (λ (l : List ℕ). g ++ l)
    (ap (λ (n : ℕ). drop n (laid f list)) whole
    ∙ drop-append-add f (drop (length f) list) k
    ∙ drop-drop k (length f) list
    ∙ sym (ap (λ (n : ℕ). drop n list) whole))

laid-into-over : (a : Lent) (s t : State) → Grown s t → laid_into (laid_into a s) t ≡ laid_into a t
laid-into-over a s t g =
    ap₂ (λ (p z : List ℕ). lent p z (length t.intervals) (laid t.marks (laid s.marks a.marks)) (length t.marks))
    (laid-over (starts s.intervals) (starts t.intervals) a.positions
    (omega (arith, starts-length s.intervals, starts-length t.intervals, g.intervals)))
    (laid-over (lengths s.intervals) (lengths t.intervals) a.sizes
    (omega (arith, lengths-length s.intervals, lengths-length t.intervals, g.intervals)))
    ∙ ap
    (λ (m : List ℕ). lent (laid (starts t.intervals) a.positions) (laid (lengths t.intervals) a.sizes) (length t.intervals) m
    (length t.marks))
    (laid-over s.marks t.marks a.marks g.marks)

-- ---- calls in turn are the fold

pub record Turned (a : Lent) (es : List Entry) (vs : List (Verdict)) (b : Lent) : Type 0 where
  pub answered : vs ≡ answers (state_in a) es
  pub left : b ≡ laid_into a (state_after (state_in a) es)
  pub sound : Sound b

pub turned : (a : Lent) (es : List Entry) (vs : List (Verdict)) (b : Lent) → Sound a → AllWithin es → CallsInTurn a es vs b → Turned a es vs b
unfolding answers state_after
turned a [] [] b s all run =
    record { answered = refl; left = run ∙ sym (laid-again a s); sound = subst Sound (sym run) s }
turned a [] (v ∷ vs) b s all run = absurd run
turned a (e ∷ es) [] b s all run = absurd run
turned a (e ∷ es) (v ∷ vs) b s all run =
    let c = run.0 in
    let within = all e (Memᴰ.head refl) in
    let made = calls-offers a e v c s within run.1 in
    let rest = turned c es vs b (sound-after a e 0 v c s made within) (λ f m. all f (Memᴰ.tail m)) run.2 in
    let state = state-after a e 0 v c s made in
    record {
      answered = ap₂ (λ (w : Verdict) (l : List (Verdict)). w ∷ l) made.verdict (rest.answered ∙ ap (λ (t : State). answers t es) state);
      left =
          rest.left
          ∙ ap₂ (λ (l : Lent) (t : State). laid_into l (state_after t es)) (left_is a e 0 v c s made) state
          ∙ laid-into-over a (after (state_in a) e) (state_after (after (state_in a) e) es) (folded_grows (after (state_in a) e) es);
      sound = rest.sound;
    }
