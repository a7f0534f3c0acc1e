-- The sentences of `dk_profile` and of `dk_build_paged` leave one outcome each: the answer and everything lent. From the sentences alone.
use Rattle.std.specs.Prelude.{◌≡◌, refl, ℕ, ◌/◌}
use Rattle.std.proofs.Common.{sym, ap, ◌∙◌, arith, ext_get_or}
use Rattle.meets.specs.Laws.Words.{OneOnly}
use Rattle.says.specs.Build.{Given, Lent, Outcome, Laid, refusal}
use Rattle.meets_sentences.specs.Theorems.Decides.{build-decides}
use Rattle.says.specs.Profile as p
use Rattle.says.specs.Profile.{Pages, Yes, ProfileSays, refused}
use Rattle.says.specs.Paged.{PagedSays}
use Rattle.meets_profile.specs.Laws.Tried.{Clear, through, checks-one, rules-one}

module _ (g : Given) (page : ℕ) where
  pages-one : {b x y : ℕ} → Pages g page b x → Pages g page b y → x ≡ y
  pages-one (p.pages h o s) (p.pages k q t) = ap (λ (m : ℕ). m / page) (s.1 ∙ sym t.1)
  pages-one (p.pages {o} h x s) (p.none n) = absurd (n o h x)
  pages-one (p.none n) (p.pages {o} h x s) = absurd (n o h x)
  pages-one (p.none n) (p.none m) = refl

  yes-one : OneOnly (Yes g page)
  yes-one y z (p.yes {all = a} l f) (p.yes {all = b} m h) =
      let same : a ≡ b = ext_get_or 0 a b (l ∙ sym m) (λ i lt. pages-one (f i (omega (arith, l))) (h i (omega (arith, l)))) in rw same

  pub profile-decides : OneOnly (ProfileSays g page)
  profile-decides = checks-one g (refused g page) _ (λ c. rules-one g page (refused g page 19) (Yes g page) yes-one)

  -- What an ordinary build comes to where none of 1 to 4 is met is one, since the build's sentences leave one outcome.
  laid_one : (old : Lent) → Clear g → OneOnly (Laid g old)
  laid_one old c y z s t =
      let refusing : ℕ → ℕ → ℕ → Outcome = λ number place second. refusal g old number place second 0 in
      build-decides g old y z (through g refusing c s) (through g refusing c t)

  pub paged-decides : (old : Lent) → OneOnly (PagedSays g page old)
  paged-decides old =
      checks-one g (λ number place second. refusal g old number place second 0) _
      (λ c. rules-one g page (λ rule at. refusal g old 19 rule at 0) (Laid g old) (laid_one old c))
