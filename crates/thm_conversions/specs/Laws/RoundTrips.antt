-- Laws that Theorems/RoundTrips rests on.
use Rattle.std.specs.Prelude.{Bool, true, false, List, [], ◌∷◌, ◌++◌, map, ◌≡◌, refl, ℕ, suc, ◌*◌, ◌-◌, ◌≤◌, ◌<◌, eqb, length, get_or, take, drop}
use Rattle.std.proofs.Common.{sym, ap, ap₂, ◌∙◌, arith, length-drop, take-append-drop, drop_of_length-le, take_at, drop_at, length-take-le, take-take, drop-cons, eq-eqb, eqb-true}
use Rattle.std.proofs.lemmas.List.{take-append-le, get_or_at}
use Rattle.std.proofs.lemmas.Bool.{not-false}
use Rattle.prelude.specs.Laws.Bools.{either, both, clash}
use Rattle.bankdef.specs.Search.{first_where}
use Rattle.form_fields.specs.Kind.{form1, form2}
use Rattle.form_fields.specs.Contents.{Each, Long, BankFits}
use Rattle.form_rewrite.specs.Turning.{switch_to, is_switch, names_bank, strays, turned, zeros}
use Rattle.form_rewrite.specs.Turning.{all_of, all_zero, same, bare, starts_zero, bit_clear}

-- ---- lists

same-one : (l : List ℕ) → same l l ≡ true
unfolding same
same-one [] = refl
same-one (x ∷ l) = rw (eq-eqb x x refl, same-one l) refl

same-is : (l m : List ℕ) → same l m ≡ true → l ≡ m
unfolding same
same-is [] [] e = refl
same-is [] (y ∷ m) e = absurd (clash e refl)
same-is (x ∷ l) [] e = absurd (clash e refl)
same-is (x ∷ l) (y ∷ m) e =
    let p = both (eqb x y) (same l m) e in
    ap₂ ◌∷◌ (eqb-true x y p.0) (same-is l m p.1)

zero_is : (l : List ℕ) → all_zero l ≡ true → l ≡ zeros (length l)
unfolding all_of
zero_is [] e = refl
zero_is (x ∷ l) e =
    let p = both (eqb x 0) (all_zero l) e in
    ap₂ ◌∷◌ (eqb-true x 0 p.0) (zero_is l p.1)

-- a list whose each thing comes back is one that comes back
pub map_back : {X : Type 0} (P : X → Type 0) (f g : X → X) → ((x : X) → P x → f (g x) ≡ x) → (xs : List X) → Each P xs → map f (map g xs) ≡ xs
map_back P f g back [] e = refl
map_back P f g back (x ∷ xs) e = ap₂ ◌∷◌ (back x e.0) (map_back P f g back xs e.1)

pub all_made : {X Y : Type 0} (test : Y → Bool) (f : X → Y) → ((x : X) → test (f x) ≡ true) → (xs : List X) → all_of test (map f xs) ≡ true
unfolding all_of
all_made test f h [] = refl
all_made test f h (x ∷ xs) = rw (h x, all_made test f h xs) refl

pub none_made : {X Y : Type 0} (test : Y → Bool) (f : X → Y) → ((x : X) → test (f x) ≡ false) → (xs : List X) → first_where test (map f xs) ≡ length (map f xs)
unfolding first_where
none_made test f h [] = refl
none_made test f h (x ∷ xs) = rw (h x) (ap suc (none_made test f h xs))

-- where none passes, each fails
pub each-fails : {X : Type 0} (test : X → Bool) (xs : List X) → first_where test xs ≡ length xs → Each (λ (x : X). test x ≡ false) xs
unfolding first_where
each-fails test [] e = tt
each-fails test (x ∷ xs) e =
    either (test x)
    (λ t. let e' : 0 ≡ suc (length xs) = rw t at e in absurd (omega (arith, e')))
    (λ t. let e' : suc (first_where test xs) ≡ suc (length xs) = rw t at e in (t, each-fails test xs (omega (arith, e'))))

pub each_holds : {X : Type 0} (test : X → Bool) (xs : List X) → all_of test xs ≡ true → Each (λ (x : X). test x ≡ true) xs
unfolding all_of
each_holds test [] e = tt
each_holds test (x ∷ xs) e =
    let p = both (test x) (all_of test xs) e in
    (p.0, each_holds test xs p.1)

pub each_two : {X : Type 0} (P Q : X → Type 0) (xs : List X) → Each P xs → Each Q xs → Each (λ (x : X). P x × Q x) xs
each_two P Q [] p q = tt
each_two P Q (x ∷ xs) p q = ((p.0, q.0), each_two P Q xs p.1 q.1)

-- ---- nodes

five-bytes : (n : List ℕ) → length n ≡ 5 → n ≡ get_or n 0 0 ∷ get_or n 1 0 ∷ get_or n 2 0 ∷ get_or n 3 0 ∷ get_or n 4 0 ∷ []
five-bytes [] e = absurd (omega (arith, e))
five-bytes (a ∷ []) e = absurd (omega (arith, e))
five-bytes (a ∷ b ∷ []) e = absurd (omega (arith, e))
five-bytes (a ∷ b ∷ c ∷ []) e = absurd (omega (arith, e))
five-bytes (a ∷ b ∷ c ∷ d ∷ []) e = absurd (omega (arith, e))
five-bytes (a ∷ b ∷ c ∷ d ∷ x ∷ []) e = refl
five-bytes (a ∷ b ∷ c ∷ d ∷ x ∷ y ∷ n) e = absurd (omega (arith, e))

-- a switch that does not stray is the switch to that bank
switch-is : (bank : ℕ) (n : List ℕ) → length n ≡ 5 → strays bank n ≡ false → is_switch n ≡ true → n ≡ switch_to bank
switch-is bank n long none t =
    let names : names_bank bank n ≡ true = not-false (names_bank bank n) (rw t at none) in
    let p = both (eqb (get_or n 1 0) 0) _ names in
    let q = both (eqb (get_or n 2 0) 0) _ p.1 in
    let r = both (eqb (get_or n 3 0) 0) (eqb (get_or n 4 0) bank) q.1 in
    let a = eqb-true (get_or n 0 0) 1 t in
    let b = eqb-true (get_or n 1 0) 0 p.0 in
    let d = eqb-true (get_or n 2 0) 0 q.0 in
    let e = eqb-true (get_or n 3 0) 0 r.0 in
    let f = eqb-true (get_or n 4 0) bank r.1 in
    five-bytes n long ∙ (λ i. a i ∷ b i ∷ d i ∷ e i ∷ f i ∷ [])

-- turned to another bank and back
pub turned-back : (one other : ℕ) (n : List ℕ) → (length n ≡ 5) × (strays one n ≡ false) → turned one (turned other n) ≡ n
turned-back one other n p =
    either (is_switch n)
    (λ t. rw t (sym (switch-is one n p.0 p.1 t)))
    (λ t. rw (t, t) refl)

pub turned-fits : (bank : ℕ) (n : List ℕ) → strays bank (turned bank n) ≡ false
turned-fits bank n =
    either (is_switch n)
    (λ t. rw (t, eq-eqb bank bank refl) refl)
    (λ t. rw (t, t) refl)

-- ---- 1 to 2 to 1

pub longer-back : (b : List ℕ) → BankFits form1 b → take 23 (b ++ zeros 1) ≡ b
longer-back b fits = take_at b (zeros 1) 23 fits.0

pub row_back : (row : List ℕ) → drop 5 (zeros 5 ++ row) ≡ row
row_back row = refl

pub widened-bare : (b : List ℕ) → length b ≡ 23 → bare (take 10 b ++ zeros 14) (b ++ zeros 1) ≡ true
unfolding all_of
widened-bare b long =
    let ten : length (take 10 b) ≡ 10 = length-take-le 10 b (omega (arith, long)) in
    let front : take 10 (take 10 b ++ zeros 14) ≡ take 10 b = take_at (take 10 b) (zeros 14) 10 ten in
    let other : take 10 (b ++ zeros 1) ≡ take 10 b = take-append-le 10 b (zeros 1) (omega (arith, long)) in
    let rest : drop 10 (take 10 b ++ zeros 14) ≡ zeros 14 = drop_at (take 10 b) (zeros 14) 10 ten in
    let bit : get_or (b ++ zeros 1) 23 0 ≡ 0 = get_or_at b 0 [] 0 23 long in
    rw (front, other, rest, bit, same-one (take 10 b)) refl

pub one_only : (banks : List (List ℕ)) → length banks ≡ 1 → banks ≡ get_or banks 0 [] ∷ []
one_only [] e = absurd (omega (arith, e))
one_only (b ∷ []) e = refl
one_only (b ∷ d ∷ banks) e = absurd (omega (arith, e))

pub first-of : (banks : List (List ℕ)) → length banks ≡ 1 → Each (BankFits form1) banks → BankFits form1 (get_or banks 0 [])
first-of [] e fits = absurd (omega (arith, e))
first-of (b ∷ banks) e fits = fits.0

pub starts : (row : List ℕ) → starts_zero (zeros 5 ++ row) ≡ true
unfolding all_of
starts row = refl

-- ---- 2 to 1 to 2

pub last_byte : (b : List ℕ) → length b ≡ 24 → get_or b 23 0 ≡ 0 → take 23 b ++ zeros 1 ≡ b
last_byte b long e =
    let none : drop 24 b ≡ [] = drop-end 24 b (omega (arith, long)) in
    let rest : drop 23 b ≡ zeros 1 = drop-cons b 23 0 (omega (arith, long)) ∙ ap₂ ◌∷◌ e none in
    ap (λ (l : List ℕ). take 23 b ++ l) (sym rest) ∙ take-append-drop 23 b
  where
    drop-end : (n : ℕ) (l : List ℕ) → length l ≤ n → drop n l ≡ []
    drop-end n l h = drop_of_length-le l {i = n} h

pub shorter_back : (b : List ℕ) → BankFits form2 b × (bit_clear b ≡ true) → take 23 b ++ zeros 1 ≡ b
shorter_back b p = last_byte b p.0.0 (eqb-true (get_or b 23 0) 0 p.1)

pub two-only : (banks : List (List ℕ)) → length banks ≡ 2 → banks ≡ get_or banks 0 [] ∷ get_or banks 1 [] ∷ []
two-only [] e = absurd (omega (arith, e))
two-only (b ∷ []) e = absurd (omega (arith, e))
two-only (b ∷ d ∷ []) e = refl
two-only (b ∷ d ∷ x ∷ banks) e = absurd (omega (arith, e))

pub both-fit : (banks : List (List ℕ)) → length banks ≡ 2 → Each (BankFits form2) banks → (length (get_or banks 0 []) ≡ 24) × (length (get_or banks 1 []) ≡ 24)
both-fit [] e fits = absurd (omega (arith, e))
both-fit (b ∷ []) e fits = absurd (omega (arith, e))
both-fit (b ∷ d ∷ banks) e fits = (fits.0.0, fits.1.0.0)

-- bank 0 is made of bank 1 again
pub bare-again : (b d : List ℕ) → length b ≡ 24 → same (take 10 b) (take 10 d) ≡ true → all_zero (drop 10 b) ≡ true → take 10 (take 23 d) ++ zeros 14 ≡ b
bare-again b d long p z =
    let rest : drop 10 b ≡ zeros 14 = zero_is (drop 10 b) z ∙ ap zeros (length-drop 10 b ∙ ap (λ (n : ℕ). n - 10) long) in
    ap₂ ◌++◌ (take-take 10 23 d (omega arith) ∙ sym (same-is (take 10 b) (take 10 d) p)) (sym rest) ∙ take-append-drop 10 b

pub nodes-again : (nodes : List (List ℕ)) → Each (Long 5) nodes → Each (λ (n : List ℕ). strays 1 n ≡ false) nodes → is_switch (get_or nodes 0 []) ≡ true
    → switch_to 1 ∷ map (turned 1) (map (turned 0) (drop 1 nodes)) ≡ nodes
nodes-again [] long none t = absurd (clash t refl)
nodes-again (n ∷ nodes) long none t =
    ap₂ ◌∷◌ (sym (switch-is 1 n long.0 none.0 t))
    (map_back (λ (n : List ℕ). (length n ≡ 5) × (strays 1 n ≡ false)) (turned 1) (turned 0) (turned-back 1 0) nodes
    (each_two (Long 5) (λ (n : List ℕ). strays 1 n ≡ false) nodes long.1 none.1))

pub row-again : (n : ℕ) (row : List ℕ) → 0 < n → (length row ≡ 5 * n) × (starts_zero row ≡ true) → zeros 5 ++ drop 5 row ≡ row
row-again n row some p =
    let front : take 5 row ≡ zeros 5 = zero_is (take 5 row) p.1 ∙ ap zeros (length-take-le 5 row (omega (arith, p.0, some))) in
    ap (λ (l : List ℕ). l ++ drop 5 row) (sym front) ∙ take-append-drop 5 row
