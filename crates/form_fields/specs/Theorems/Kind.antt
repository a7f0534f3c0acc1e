-- Theorems about what Kind defines.
use Rattle.std.specs.Prelude.{Bool, true, false, List, ◌≡◌, refl, ℕ}
use Rattle.prelude.specs.Pick.{pick}
use Rattle.form_fields.specs.Kind.{Known, begins2, form1, form2, headed, is1, is2, kind_of}

pub kind-known : (file : List ℕ) → Known (kind_of file)
unfolding kind_of
kind-known file = go (begins2 file)
  where
    go : (t : Bool) → Known (pick t form2 form1)
    go true = is2
    go false = is1

-- a file begins as its own form asks
pub kind-headed : (file : List ℕ) → headed (kind_of file) file ≡ true
unfolding kind_of
kind-headed file = go (begins2 file) refl
  where
    go : (t : Bool) → begins2 file ≡ t → headed (pick t form2 form1) file ≡ true
    go true e = e
    go false e = refl
