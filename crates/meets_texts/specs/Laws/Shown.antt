-- A text that stands at the front of a buffer, all of it, is shown there with what is said of it.
use Rattle.std.proofs.Common.{sym, ap, subst, arith, length-take}
use Rattle.std.specs.Prelude.{List, ℕ, length}
use Rattle.prog_args.specs.Text as text
use Rattle.says.specs.Lines.{Shows}

pub shows-says : (Says : List ℕ → Type 0) {t : List ℕ} {count : ℕ} {buffer : List ℕ} → Says t → text.Shows t count buffer → Shows Says count buffer
shows-says Says {t} {count} {buffer} said x =
    record {
      within = omega (arith, x.counted, ap length x.front, length-take count buffer);
      says = subst Says (sym x.front) said;
    }
