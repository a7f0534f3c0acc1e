-- Uniqueness over a contract's own clause. `Learnt` is what the check reads off a function's `ensures` for its callers: a looser clause
-- breaks the line that says this of it.
use Rattle.std.specs.Prelude.{ℕ, List, ◌≡◌}
use borrow.Fn.Kinds.{ParamKind, ResultKind, Out, Dens, res_t, ended_of}
use contract.Lifetimes.{Lfts}
use denote.Triple.Clauses.{AtExit}

-- two answers that meet a contract for the same arguments are equal
abbrev pub OneOutcome : (n : ℕ) (ps : List (ParamKind n)) (r : ResultKind n) → Out n ps r → Type 0
OneOutcome n ps r met =
    (κs : Lfts n) (a : Dens κs ps) (x y : (res_t r κs).Denot) (e f : AtExit (ended_of n ps r) κs) → met κs a x e → met κs a y f → x ≡ y

-- what is seen of an outcome: of the answer, and of the parameters at exit, where a lent slice has its last contents
abbrev pub View : (n : ℕ) (ps : List (ParamKind n)) (r : ResultKind n) → Type 0 → Type 0
View n ps r X = (κs : Lfts n) → (res_t r κs).Denot → AtExit (ended_of n ps r) κs → X

-- Two outcomes that meet a contract for the same arguments look the same. For a function with lent slices, or one that hands out a part
-- of one, `view` is the answer beside all that stands in them afterwards.
abbrev pub OneView : (n : ℕ) (ps : List (ParamKind n)) (r : ResultKind n) → Out n ps r → (X : Type 0) → View n ps r X → Type 0
OneView n ps r met X view =
    (κs : Lfts n) (a : Dens κs ps) (x y : (res_t r κs).Denot) (e f : AtExit (ended_of n ps r) κs) → met κs a x e → met κs a y f
    → view κs x e ≡ view κs y f
