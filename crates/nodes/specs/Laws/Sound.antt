-- Laws that Theorems/Sound rests on.
use Rattle.std.specs.Prelude.{◌≡◌, refl, Bool, true, false, ◌||◌, Err}
use Rattle.prelude.specs.Pick.{pick}
use Rattle.prelude.specs.declared.Refusal.{Refusal}
use Rattle.prelude.specs.Verdict.{Verdict, Accepted}
use Rattle.nodes.specs.Lists.{first_of}

pub both-accept : (v w : Verdict) → first_of v w ≡ Accepted → (v ≡ Accepted) × (w ≡ Accepted)
both-accept Accepted w e = (refl, e)
both-accept (Err why) w e = (e, cc)

pub none-taken : (t : Bool) (why : Refusal) → pick t (Err why) Accepted ≡ Accepted → t ≡ false
none-taken true why e = cc
none-taken false why e = refl

pub both_false : (a b : Bool) → a || b ≡ false → (a ≡ false) × (b ≡ false)
both_false true b e = (e, cc)
both_false false b e = (refl, e)

-- ---- what the accepted lists are

-- a verdict that accepts came through its test
pub through : (t : Bool) (v : Verdict) (why : Refusal) → pick t v (Err why) ≡ Accepted → (t ≡ true) × (v ≡ Accepted)
through true v why e = (refl, e)
through false v why e = (cc, cc)
