-- Laws that Theorems/NodeOrder rests on.
use Rattle.std.specs.Prelude.{ℕ, ◌≡◌, Result, Ok, Err}
use Rattle.prelude.specs.Laws.Bools.{unlike}
use Rattle.prelude.specs.declared.Refusal.{Refusal}
use Rattle.iter.specs.declared.Pos.{Pos}
use Rattle.iter.specs.declared.Walk.{Walk}
use Rattle.resolver.specs.Once.{Going, on, off}
use Rattle.resolver.specs.Once.{closed}

-- a position that is seen is no refusal
pub seen_apart : {x : Result Pos Refusal} {now : Pos} {why : Refusal} → x ≡ Ok now → x ≡ Err why → ⊥
seen_apart e f = unlike cc

pub stopped-same : {x : Result Pos Refusal} {why other : Refusal} → x ≡ Err why → x ≡ Err other → why ≡ other
stopped-same e f = cc

-- how a pass under way ends
pub ended : {g : Going} {w : Walk} {s : ℕ} {why : Refusal} → g ≡ on w s → closed g ≡ Err why → ⊥
ended e f = let h : Ok _ ≡ Err _ = rw e at f in unlike cc

pub not-ended : {g : Going} {s : ℕ} {why : Refusal} → g ≡ off why → closed g ≡ Ok s → ⊥
not-ended e f = let h : Err _ ≡ Ok _ = rw e at f in unlike cc

pub refused-for : {g : Going} {why other : Refusal} → g ≡ off other → closed g ≡ Err why → other ≡ why
refused-for e f = let h : ◌≡◌ {A = Result ℕ Refusal} (Err _) (Err _) = rw e at f in cc

pub refused-by : {g : Going} {why other : Refusal} → g ≡ off other → other ≡ why → closed g ≡ Err why
refused-by e f = rw (e, f)
