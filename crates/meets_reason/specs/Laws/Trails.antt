-- A text's lines one after the other, by the definitions' walk over the text and by the sentences' lines; and what is known where a reader stops.
use Rattle.std.specs.Prelude.{◌≡◌, length}
use Rattle.std.proofs.Math.Path.{refl, sym, ap, subst}
use Rattle.std.proofs.Common.{◌∙◌, arith, drop-drop}
use mathlib.Core.List.{List, [], ◌∷◌}
use Prim.Native.Nat.{ℕ, zero, suc, ◌+◌, ◌≤◌, ◌<◌}
use Rattle.std.proofs.Math.ListN.{drop}
use Rattle.record_lines.specs.Lines.{lines_of, first_line, taken}
use Rattle.record_lines.specs.Theorems.Lines.{lines-first}
use Rattle.record_scan.specs.Reading.{later, state_after}
use Rattle.record_scan.specs.Trail.{trail}
use Rattle.record_reason.specs.Reasons.{line_of, item_of}
use Rattle.says.specs.Words.{At}
use Rattle.says.specs.Reason as s
use Rattle.says.specs.Reason.{After, LineAt}
use Rattle.meets_reason.specs.Laws.Items.{after_is}

-- ---- lists
head_of : List (List ℕ) → List ℕ
head_of [] = []
head_of (l ∷ ls) = l

pub same_head : {l m : List ℕ} {a b : List (List ℕ)} → l ∷ a ≡ m ∷ b → l ≡ m
unfolding head_of
same_head e = ap head_of e

pub not-empty : {l : List ℕ} {a : List (List ℕ)} → [] ≡ l ∷ a → ⊥
not-empty e = let z : ◌≡◌ {A = ℕ} 0 (suc 0) = cc in omega arith

pub drop-next : (n : ℕ) (ls : List (List ℕ)) → drop (suc n) ls ≡ drop 1 (drop n ls)
drop-next n ls = let e : suc n ≡ n + 1 = omega arith in ap (λ (k : ℕ). drop k ls) e ∙ sym (drop-drop 1 n ls)

pub drop-long : (n : ℕ) (ls : List (List ℕ)) {l : List ℕ} {rest : List (List ℕ)} → drop n ls ≡ l ∷ rest → n < length ls
drop-long zero [] e = absurd (not-empty e)
drop-long (suc n) [] e = absurd (not-empty e)
drop-long zero (m ∷ ls) e = omega arith
drop-long (suc n) (m ∷ ls) e = omega (arith, drop-long n ls e)

pub drop_at : (n : ℕ) (ls : List (List ℕ)) {l : List ℕ} {rest : List (List ℕ)} → drop n ls ≡ l ∷ rest → At ls n l
drop_at zero [] e = absurd (not-empty e)
drop_at (suc n) [] e = absurd (not-empty e)
drop_at zero (m ∷ ls) e = (omega arith, same_head e)
drop_at (suc n) (m ∷ ls) e = let k = drop_at n ls e in (omega (arith, k.0), k.1)

pub at_drop : (n : ℕ) (ls : List (List ℕ)) (l : List ℕ) → At ls n l → (rest : List (List ℕ)) × (drop n ls ≡ l ∷ rest)
at_drop n [] l x = absurd (omega (arith, x.0))
at_drop zero (m ∷ ls) l x = (ls, ap (λ (k : List ℕ). k ∷ ls) x.1)
at_drop (suc n) (m ∷ ls) l x = at_drop n ls l (omega (arith, x.0), x.1)

pub empty-drop : (n : ℕ) (ls : List (List ℕ)) → drop n ls ≡ [] → length ls ≤ n
empty-drop n [] e = omega arith
empty-drop zero (m ∷ ls) e = absurd (not-empty (sym e))
empty-drop (suc n) (m ∷ ls) e = omega (arith, empty-drop n ls e)

pub drop-some : (ls : List (List ℕ)) (n : ℕ) → n < length ls → (l : List ℕ) × (rest : List (List ℕ)) × (drop n ls ≡ l ∷ rest)
drop-some [] n h = absurd (omega arith)
drop-some (l ∷ ls) zero h = (l, ls, refl)
drop-some (l ∷ ls) (suc n) h = drop-some ls n (omega arith)

-- ---- lines by the sentences, one more
module _ (format : ℕ) where
  line_first : {st : ℕ} {l : List ℕ} {rest : List (List ℕ)} (ls : List (List ℕ)) → ls ≡ l ∷ rest → LineAt format st ls 0 st l
  line_first {st} {l} ls e = subst (λ (k : List (List ℕ)). LineAt format st k 0 st l) (sym e) s.here

  pub line-next : {st n t u : ℕ} {l m : List ℕ} {rest ls : List (List ℕ)} → LineAt format st ls n t l → After format t l u → drop (suc n) ls ≡ m ∷ rest
      → LineAt format st ls (suc n) u m
  line-next (s.here {ls = ls}) a e = s.later a (line_first ls e)
  line-next (s.later b x) a e = s.later b (line-next x a e)

  pub drop-line : {st n t : ℕ} {l : List ℕ} {ls : List (List ℕ)} → LineAt format st ls n t l → (rest : List (List ℕ)) × (drop n ls ≡ l ∷ rest)
  drop-line (s.here {ls = ls}) = (ls, refl)
  drop-line (s.later a x) = drop-line x

  -- ---- a walk over the text
  module _ (text : List ℕ) where
    abbrev pub lines : List (List ℕ)
    lines = lines_of text

    behind-first : (t : List ℕ) → lines_of (drop (taken t) t) ≡ drop 1 (lines_of t)
    unfolding lines_of taken
    behind-first [] = refl
    behind-first (c ∷ t) = sym (ap (λ (k : List (List ℕ)). drop 1 k) (lines-first c t))

    pub lines_from : (n : ℕ) → lines_of (drop (trail format text n).at text) ≡ drop n lines
    unfolding trail
    lines_from zero = refl
    lines_from (suc n) =
        let at = (trail format text n).at in
        let t = drop at text in
        ap (λ (k : List ℕ). lines_of k) (sym (drop-drop (taken t) at text)) ∙ behind-first t ∙ ap (λ (k : List (List ℕ)). drop 1 k) (lines_from n)
        ∙ sym (drop-next n lines)

    first-of : (t : List ℕ) {l : List ℕ} {rest : List (List ℕ)} → lines_of t ≡ l ∷ rest → first_line t ≡ l
    unfolding lines_of
    first-of [] e = absurd (not-empty e)
    first-of (c ∷ t) e = same_head (sym (lines-first c t) ∙ e)

    pub line-is : (n : ℕ) {l : List ℕ} {rest : List (List ℕ)} → drop n lines ≡ l ∷ rest → line_of format text n ≡ l
    line-is n e = first-of (drop (trail format text n).at text) (lines_from n ∙ e)

    pub line_at : (n : ℕ) {l : List ℕ} {rest : List (List ℕ)} → drop n lines ≡ l ∷ rest → LineAt format 0 lines n (trail format text n).state l
    unfolding trail
    line_at zero e = line_first lines e
    line_at (suc n) {l} {rest} e = go (drop n lines) refl (λ m ms f. line_at n f)
      where
        go : (k : List (List ℕ)) → drop n lines ≡ k
            → ((m : List ℕ) (ms : List (List ℕ)) → drop n lines ≡ m ∷ ms → LineAt format 0 lines n (trail format text n).state m)
            → LineAt format 0 lines (suc n) (state_after (trail format text n).state (item_of format text n)) l
        go [] f before = absurd (not-empty (sym (ap (λ (k : List (List ℕ)). drop 1 k) f) ∙ sym (drop-next n lines) ∙ e))
        go (m ∷ ms) f before =
            let st = (trail format text n).state in
            let a : After format st m (state_after st (item_of format text n)) =
            subst (λ (k : List ℕ). After format st k (state_after st (item_of format text n))) (line-is n f) (after_is format st (line_of format text n)) in
            line-next (before m ms f) a e
