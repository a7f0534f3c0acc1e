-- What a search over a list comes to: the first element that does not keep a rule is named; and a test asked of one place in each row.
use Rattle.std.specs.Prelude.{Err}
use Rattle.std.proofs.Common.{◌≡◌, sym, ap, ◌∙◌, ℕ, zero, suc, ◌+◌, ◌*◌, ◌/◌, ◌<◌, Bool, true, false, not, List, [], ◌∷◌, length, get_or, Bor, Option, None, Some, refl, arith}
use Rattle.std.specs.List.{position, position_or_len, slice_get}
use Rattle.std.specs.Option.{IfSome, IsSomeAnd}
use Rattle.std.specs.Bool.{MatchBool, IsTrue}
use Rattle.std.specs.Fn.{Called}
use Rattle.std.specs.Iterator.Runs.{Run, CallKeepsClosure, AllItemsGive, AnyItemGives, IsChunksExactRun}
use Rattle.std.proofs.iter.runs.Made.{at-is}
use Rattle.std.proofs.lemmas.Bool.{not-true, not-false}
use Rattle.std.proofs.lemmas.Nat.{le-div}
use Rattle.std.proofs.lemmas.List.Quantifiers.{position-Some}
use Rattle.std.proofs.lemmas.List.Sums.{fails_before_first}
use denote.Param.Members.{Mut}
use borrow.Author.Tests.{ltb-false}
use lib.Dec.{ltb}
use Rattle.prelude.specs.Laws.Bools.{either, clash, unlike}
use Rattle.prelude.specs.declared.Refusal.TheVariants.{OffProfile}
use Rattle.prelude.specs.Verdict.{Accepted}
use Rattle.build_profile.specs.Laws.RuleLaws.{all-kept, kept-all, ruled-kept, ruled-broken}
use Rattle.build_profile.specs.Rules.{all, ruled}

module _ {X : Type 0} (keeps : X → Bool) (xs : List X) (d : X) (rule n : ℕ) (listed : n ≡ length xs) where
  pub none-breaks : position (λ x. not (keeps x)) xs ≡ None → ruled rule (λ k. keeps (get_or xs k d)) n ≡ Accepted
  none-breaks e =
      either (ltb (position_or_len (λ x. not (keeps x)) xs) (length xs))
      (λ t. unlike (let f = rw t at e in cc))
      (λ t.
      let past = ltb-false (position_or_len (λ x. not (keeps x)) xs) (length xs) t in
      ruled-kept (λ k. keeps (get_or xs k d)) rule n
      (λ k h. not-false (keeps (get_or xs k d)) (fails_before_first (λ x. not (keeps x)) xs k d (omega arith))))

  pub first-breaks : (i : ℕ) → position (λ x. not (keeps x)) xs ≡ Some i → ruled rule (λ k. keeps (get_or xs k d)) n ≡ Err (OffProfile rule i)
  first-breaks i e =
      let found = position-Some (λ x. not (keeps x)) xs i d e in
      ruled-broken (λ k. keeps (get_or xs k d)) n i (omega (arith, found.0)) (λ k h. not-false (keeps (get_or xs k d)) (found.2 k h))
      (not-true (keeps (get_or xs i d)) found.1) rule

some-there : {X : Type 0} (xs : List X) (k : ℕ) → k < length xs → slice_get xs k ≡ None → ⊥
some-there [] k h e = omega arith
some-there (x ∷ xs) zero h e = unlike cc
some-there (x ∷ xs) (suc k) h e = some-there xs k (omega arith) e

module _ {S F : Type 0} {steps : S → Option (Bor (List ℕ)) → S → Type 0} (p : Run steps) (g : Mut F (Bor (List ℕ) × Unit {0}) Bool) (f : F)
    (xs : List ℕ) (n i : ℕ) (inside : i < n) (test : ℕ → Bool) (rows : IsChunksExactRun p n xs) (keeps : CallKeepsClosure g f)
    (tells : (x : Bor (List ℕ)) (b : Bool) → Called g f (x, tt) b f → b ≡ test (get_or x.now i 0)) where
  abbrev cell : ℕ → Bool
  cell r = test (get_or xs (r * n + i) 0)

  -- what the test says of the item at place k
  asked : (b : Bool) (k : ℕ) (x : Bor (List ℕ)) → p.at k ≡ Some x → Called g f (x, tt) b f → b ≡ cell k
  asked b k x e called =
      let row = rw e at (rows.2 k) in
      tells x b called ∙ ap test (row.2.2 i 0 inside)

  kept : (o : Option (Bor (List ℕ))) (k : ℕ) → p.at k ≡ o → k < p.len → IfSome o (λ x. Called g f (x, tt) true f) → cell k ≡ true
  kept (Some x) k e h called = sym (asked true k x e called)
  kept None k e h called = absurd (some-there p.items k (omega (arith, p.long)) (sym (at-is p k) ∙ e))

  broken : (o : Option (Bor (List ℕ))) (k : ℕ) → p.at k ≡ o → IsSomeAnd o (λ x. Called g f (x, tt) false f) → cell k ≡ false
  broken (Some x) k e called = sym (asked false k x e called)
  broken None k e called = absurd called

  pub asked-all : (r : Bool) → MatchBool r (IsTrue p.whole × AllItemsGive p g f true) (AnyItemGives p g f false) → r ≡ all cell (length xs / n)
  asked-all true h =
      let long = rows.1 h.0 in
      sym (all-kept cell (length xs / n) (λ k l. kept (p.at k) k refl (omega arith) (h.1 keeps k)))
  asked-all false h =
      let some = h keeps in
      let k = some.0 in
      let within : k < length xs / n = omega (arith, le-div p.len (length xs) n (omega arith) rows.0, some.1) in
      either (all cell (length xs / n))
      (λ t. absurd (clash (kept-all cell (length xs / n) t k within) (broken (p.at k) k refl some.2)))
      (λ t. sym t)
