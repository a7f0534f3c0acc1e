-- Where a reader stops: what is known of the line at fault, of the line before it, and of all lines before.
use Rattle.std.proofs.Math.Path.{◌≡◌, refl, ap}
use Rattle.std.proofs.Common.{◌∙◌}
use Rattle.std.specs.Prelude.{Bool, true, false, length, drop}
use mathlib.Core.List.{List, [], ◌∷◌, ◌++◌, append-nil}
use Prim.Native.Nat.{ℕ, zero, suc, ◌+◌, ◌-◌, ◌≤◌, ◌<◌}
use native.Mathlib.Omega.{arith}
use Rattle.prelude.specs.Laws.Bools.{unlike}
use Rattle.prelude.specs.Pick.{pick}
use Rattle.record_lines.specs.Items.{Item, gives, passes, ends, bad}
use Rattle.record_lines.specs.Pieces.{Piece}
use Rattle.record_scan.specs.Reading.{format_by, Read, sound, faulty, later, new_pieces, state_after, fine, is_none, go_on, read_from, read_text}
use Rattle.record_scan.specs.Trail.{trail}
use Rattle.record_reason.specs.Reasons.{item_of, is_end, ends_before}
use Rattle.meets_records.specs.Laws.Faults.{later-fault}
use Rattle.meets_reason.specs.Laws.Items.{Kept, ended, skipped}
use Rattle.meets_reason.specs.Laws.Trails.{lines, line-is, drop-next, drop-long, empty-drop}

is-end-not : (x : Item) → (x ≡ ends → ⊥) → is_end x ≡ false
is-end-not (gives a b c) n = refl
is-end-not (passes a) n = refl
is-end-not ends n = absurd (n refl)
is-end-not bad n = refl

module _ (format load : ℕ) (text : List ℕ) where
  abbrev state_at : ℕ → ℕ
  state_at n = (trail format text n).state

  abbrev given_at : ℕ → List Piece
  given_at n = (trail format text n).given

  abbrev reads : List (List ℕ) → ℕ → List Piece → Read
  reads = read_from (format_by format) load

  -- the line before line n is neither the end record nor bad
  abbrev pub Goes : ℕ → Type 0
  Goes zero = Unit {0}
  Goes (suc n) = (item_of format text n ≡ ends → ⊥) × (item_of format text n ≡ bad → ⊥)

  pub goes-no-end : (n : ℕ) → Goes n → ends_before format text n ≡ false
  goes-no-end zero g = refl
  goes-no-end (suc n) g = is-end-not (item_of format text n) g.0

  -- where the fault is m lines further on
  data Reaches (n m : ℕ) : Type 0 where
    on : reads (drop n (lines format text)) (state_at n) (given_at n) ≡ faulty m → Goes n → Reaches n m
    behind : {l : List ℕ} {rest : List (List ℕ)} → m ≡ 0 → ends_before format text n ≡ true → drop n (lines format text) ≡ l ∷ rest → Reaches n m

  module _ (n m : ℕ) (l : List ℕ) (ls : List (List ℕ)) (here : drop n (lines format text) ≡ l ∷ ls) where
    next : drop (suc n) (lines format text) ≡ ls
    next = drop-next n (lines format text) ∙ ap (λ (k : List (List ℕ)). drop 1 k) here

    item-is : item_of format text n ≡ format_by format (state_at n) l
    item-is = ap (λ (k : List ℕ). format_by format (state_at n) k) (line-is format text n here)

    next-reads : (x : Item) {y : Read} → item_of format text n ≡ x → reads ls (state_after (state_at n) x) (given_at n ++ new_pieces x) ≡ y
        → reads (drop (suc n) (lines format text)) (state_at (suc n)) (given_at (suc n)) ≡ y
    unfolding trail
    next-reads x e h =
        ap (λ (k : List (List ℕ)). reads k (state_after (state_at n) (item_of format text n)) (given_at n ++ new_pieces (item_of format text n))) next
        ∙ ap (λ (y : Item). reads ls (state_after (state_at n) y) (given_at n ++ new_pieces y)) e ∙ h

    same-later : (x : Read) → later x ≡ faulty (suc m) → x ≡ faulty m
    same-later x e =
        let k = later-fault x (suc m) e in
        let same : k.0 ≡ m = omega (arith, k.1) in
        k.2 ∙ ap faulty same

    past_end : (ms : List (List ℕ)) → ls ≡ ms → item_of format text n ≡ ends → pick (is_none ms) (sound (given_at n)) (faulty 1) ≡ faulty (suc m)
        → Reaches (suc n) m
    past_end [] s e h = unlike cc
    past_end (k ∷ ms) s e h =
        let one : 1 ≡ suc m = cc in
        behind (omega arith) (ap is_end e) (next ∙ s)

    past-piece : (a : ℕ) (b : List ℕ) (after : ℕ) → item_of format text n ≡ gives a b after → (t : Bool)
        → pick t (later (reads ls after (given_at n ++ new_pieces (gives a b after)))) (faulty 0) ≡ faulty (suc m) → Reaches (suc n) m
    past-piece a b after e true h = on (next-reads (gives a b after) e (same-later _ h)) (
      λ f. unlike cc,
      λ f. unlike cc,
    )
    past-piece a b after e false h = let z : ◌≡◌ {A = ℕ} 0 (suc m) = cc in absurd (omega arith)

    past : (x : Item) → item_of format text n ≡ x → go_on load (given_at n) (is_none ls) (reads ls) x ≡ faulty (suc m) → Reaches (suc n) m
    past (gives a b after) e h = past-piece a b after e (fine load (given_at n) (new_pieces (gives a b after))) h
    past (passes after) e h =
        on (next-reads (passes after) e (ap (λ (g : List Piece). reads ls after g) (append-nil (given_at n)) ∙ same-later _ h)) (
          λ f. unlike cc,
          λ f. unlike cc,
        )
    past ends e h = past_end ls refl e h
    past bad e h = let z : ◌≡◌ {A = ℕ} 0 (suc m) = cc in absurd (omega arith)

  step : (n m : ℕ) (k : List (List ℕ)) → drop n (lines format text) ≡ k → reads k (state_at n) (given_at n) ≡ faulty (suc m) → Reaches (suc n) m
  unfolding read_from
  step n m [] here e = let z : ◌≡◌ {A = ℕ} 0 (suc m) = cc in absurd (omega arith)
  step n m (l ∷ ls) here e = past n m l ls here (format_by format (state_at n) l) (item-is n m l ls here) e

  step-on : (n m : ℕ) → Reaches n (suc m) → Reaches (suc n) m
  step-on n m (on e g) = step n m (drop n (lines format text)) refl e
  step-on n m (behind z e f) = absurd (omega arith)

  reach : (n m : ℕ) → read_text format load text ≡ faulty (n + m) → Reaches n m
  unfolding trail
  reach zero m e = let z : 0 + m ≡ m = omega arith in on (e ∙ ap faulty z) tt
  reach (suc n) m e = let z : suc n + m ≡ n + suc m = omega arith in step-on n m (reach n (suc m) (e ∙ ap faulty z))

  -- the line at fault
  pub data Fault (n : ℕ) : Type 0 where
    after-end : {l : List ℕ} {rest : List (List ℕ)} → ends_before format text n ≡ true → drop n (lines format text) ≡ l ∷ rest → Fault n
    missing : Goes n → drop n (lines format text) ≡ [] → Fault n
    broken : {l : List ℕ} {rest : List (List ℕ)} → Goes n → drop n (lines format text) ≡ l ∷ rest → format_by format (state_at n) l ≡ bad → Fault n
    unfit : {l : List ℕ} {rest : List (List ℕ)} (a : ℕ) (b : List ℕ) (after : ℕ) → Goes n → drop n (lines format text) ≡ l ∷ rest
        → format_by format (state_at n) l ≡ gives a b after → fine load (given_at n) (new_pieces (gives a b after)) ≡ false → Fault n

  module _ (n : ℕ) (l : List ℕ) (ls : List (List ℕ)) (goes : Goes n) (here : drop n (lines format text) ≡ l ∷ ls) where
    not-later : (x : Read) → later x ≡ faulty 0 → ⊥
    not-later x e = let k = later-fault x 0 e in omega (arith, k.1)

    fault-piece : (a : ℕ) (b : List ℕ) (after : ℕ) → format_by format (state_at n) l ≡ gives a b after → (t : Bool)
        → fine load (given_at n) (new_pieces (gives a b after)) ≡ t
        → pick t (later (reads ls after (given_at n ++ new_pieces (gives a b after)))) (faulty 0) ≡ faulty 0 → Fault n
    fault-piece a b after e true f h = absurd (not-later (reads ls after (given_at n ++ new_pieces (gives a b after))) h)
    fault-piece a b after e false f h = unfit a b after goes here e f

    fault-end : (t : Bool) → pick t (sound (given_at n)) (faulty 1) ≡ faulty 0 → Fault n
    fault-end true h = unlike cc
    fault-end false h = let z : ◌≡◌ {A = ℕ} 1 0 = cc in absurd (omega arith)

    fault-by : (x : Item) → format_by format (state_at n) l ≡ x → go_on load (given_at n) (is_none ls) (reads ls) x ≡ faulty 0 → Fault n
    fault-by (gives a b after) e h = fault-piece a b after e (fine load (given_at n) (new_pieces (gives a b after))) refl h
    fault-by (passes after) e h = absurd (not-later (reads ls after (given_at n)) h)
    fault-by ends e h = fault-end (is_none ls) h
    fault-by bad e h = broken goes here e

  fault-here : (n : ℕ) (k : List (List ℕ)) → Goes n → drop n (lines format text) ≡ k → reads k (state_at n) (given_at n) ≡ faulty 0 → Fault n
  unfolding read_from
  fault-here n [] g here e = missing g here
  fault-here n (l ∷ ls) g here e = fault-by n l ls g here (format_by format (state_at n) l) refl e

  fault-from : (n : ℕ) → Reaches n 0 → Fault n
  fault-from n (on e g) = fault-here n (drop n (lines format text)) g refl e
  fault-from n (behind z e f) = after-end e f

  pub fault-at : (n : ℕ) → read_text format load text ≡ faulty n → Fault n
  fault-at n e = let z : n ≡ n + 0 = omega arith in fault-from n (reach n 0 (e ∙ ap faulty z))

  some_left : (n : ℕ) (k : List (List ℕ)) → drop n (lines format text) ≡ k → reads k (state_at n) (given_at n) ≡ faulty 1 → n < length (lines format text)
  unfolding read_from
  some_left n [] here e = unlike cc
  some_left n (l ∷ ls) here e = drop-long n (lines format text) here

  left_by : (n : ℕ) → Reaches n 1 → n < length (lines format text)
  left_by n (on e g) = some_left n (drop n (lines format text)) refl e
  left_by n (behind z e f) = absurd (omega arith)

  -- at the latest behind the last line
  pub fault-within : (n : ℕ) → read_text format load text ≡ faulty n → n ≤ length (lines format text)
  fault-within zero e = omega arith
  fault-within (suc n) e = let z : suc n ≡ n + 1 = omega arith in omega (arith, left_by n (reach n 1 (e ∙ ap faulty z)))

  -- ---- the lines before it, and all of a good file: nothing is wrong with them, and behind the last line stands nothing
  pub data Stands (n : ℕ) : Type 0 where
    given : {l : List ℕ} {rest : List (List ℕ)} (a : ℕ) (b : List ℕ) (after : ℕ) → Goes n → drop n (lines format text) ≡ l ∷ rest
        → format_by format (state_at n) l ≡ gives a b after → fine load (given_at n) (new_pieces (gives a b after)) ≡ true → Stands n
    kept : {l : List ℕ} {rest : List (List ℕ)} {x : Item} → Goes n → drop n (lines format text) ≡ l ∷ rest → format_by format (state_at n) l ≡ x → Kept x
        → Stands n
    over : length (lines format text) ≤ n → (n ≡ length (lines format text) → ends_before format text n ≡ true) → Stands n

  module _ (n : ℕ) (l : List ℕ) (ls : List (List ℕ)) (goes : Goes n) (here : drop n (lines format text) ≡ l ∷ ls) where
    stands-piece : (a : ℕ) (b : List ℕ) (after : ℕ) → format_by format (state_at n) l ≡ gives a b after → (t : Bool)
        → fine load (given_at n) (new_pieces (gives a b after)) ≡ t
        → (pick t (later (reads ls after (given_at n ++ new_pieces (gives a b after)))) (faulty 0) ≡ faulty 0 → ⊥) → Stands n
    stands-piece a b after e true f h = given a b after goes here e f
    stands-piece a b after e false f h = absurd (h refl)

    stands_by : (x : Item) → format_by format (state_at n) l ≡ x → (go_on load (given_at n) (is_none ls) (reads ls) x ≡ faulty 0 → ⊥) → Stands n
    stands_by (gives a b after) e h = stands-piece a b after e (fine load (given_at n) (new_pieces (gives a b after))) refl h
    stands_by (passes after) e h = kept goes here e skipped
    stands_by ends e h = kept goes here e ended
    stands_by bad e h = absurd (h refl)

  stands_here : (n : ℕ) (k : List (List ℕ)) → Goes n → drop n (lines format text) ≡ k → (reads k (state_at n) (given_at n) ≡ faulty 0 → ⊥) → Stands n
  unfolding read_from
  stands_here n [] g here h = absurd (h refl)
  stands_here n (l ∷ ls) g here h = stands_by n l ls g here (format_by format (state_at n) l) refl h

  stands_from : (n m : ℕ) → Reaches n (suc m) → Stands n
  stands_from n m (on e g) = stands_here n (drop n (lines format text)) g refl (λ f. let z : ◌≡◌ {A = ℕ} 0 (suc m) = cc in omega arith)
  stands_from n m (behind z e f) = absurd (omega arith)

  pub stands-before : (n k : ℕ) → read_text format load text ≡ faulty n → k < n → Stands k
  stands-before n k e h =
      let m = n - k - 1 in
      let z : n ≡ k + suc m = omega arith in
      stands_from k m (reach k (suc m) (e ∙ ap faulty z))

  -- a good file, n lines on
  data Sounds (out : List Piece) (n : ℕ) : Type 0 where
    still : reads (drop n (lines format text)) (state_at n) (given_at n) ≡ sound out → Goes n → Sounds out n
    over : length (lines format text) ≤ n → (n ≡ length (lines format text) → ends_before format text n ≡ true) → Sounds out n

  module _ (out : List Piece) (n : ℕ) (l : List ℕ) (ls : List (List ℕ)) (here : drop n (lines format text) ≡ l ∷ ls) where
    same-sound : (x : Read) → later x ≡ sound out → x ≡ sound out
    same-sound (sound p) e = e
    same-sound (faulty i) e = unlike cc

    sound-piece : (a : ℕ) (b : List ℕ) (after : ℕ) → item_of format text n ≡ gives a b after → (t : Bool)
        → pick t (later (reads ls after (given_at n ++ new_pieces (gives a b after)))) (faulty 0) ≡ sound out → Sounds out (suc n)
    sound-piece a b after e true h = still (next-reads n 0 l ls here (gives a b after) e (same-sound _ h)) (
      λ f. unlike cc,
      λ f. unlike cc,
    )
    sound-piece a b after e false h = unlike cc

    sound-end : (ms : List (List ℕ)) → ls ≡ ms → item_of format text n ≡ ends → pick (is_none ms) (sound (given_at n)) (faulty 1) ≡ sound out
        → Sounds out (suc n)
    sound-end [] s e h = over (empty-drop (suc n) (lines format text) (next n 0 l ls here ∙ s)) (λ z. ap is_end e)
    sound-end (k ∷ ms) s e h = unlike cc

    sound-by : (x : Item) → item_of format text n ≡ x → go_on load (given_at n) (is_none ls) (reads ls) x ≡ sound out → Sounds out (suc n)
    sound-by (gives a b after) e h = sound-piece a b after e (fine load (given_at n) (new_pieces (gives a b after))) h
    sound-by (passes after) e h =
        still (next-reads n 0 l ls here (passes after) e (ap (λ (g : List Piece). reads ls after g) (append-nil (given_at n)) ∙ same-sound _ h)) (
          λ f. unlike cc,
          λ f. unlike cc,
        )
    sound-by ends e h = sound-end ls refl e h
    sound-by bad e h = unlike cc

  sound-step : (out : List Piece) (n : ℕ) (k : List (List ℕ)) → drop n (lines format text) ≡ k → reads k (state_at n) (given_at n) ≡ sound out
      → Sounds out (suc n)
  unfolding read_from
  sound-step out n [] here e = unlike cc
  sound-step out n (l ∷ ls) here e = sound-by out n l ls here (format_by format (state_at n) l) (item-is n 0 l ls here) e

  sounds : (out : List Piece) → read_text format load text ≡ sound out → (n : ℕ) → Sounds out n
  unfolding trail
  sounds out e zero = still e tt
  sounds out e (suc n) = on-from (sounds out e n)
    where
      on-from : Sounds out n → Sounds out (suc n)
      on-from (still f g) = sound-step out n (drop n (lines format text)) refl f
      on-from (over h f) = over (omega arith) (λ z. absurd (omega arith))

  pub stands_good : (out : List Piece) → read_text format load text ≡ sound out → (n : ℕ) → Stands n
  stands_good out e n = go (sounds out e n)
    where
      go : Sounds out n → Stands n
      go (still f g) = stands_here n (drop n (lines format text)) g refl (λ h. unlike cc)
      go (over h f) = over h f
