-- `form_rewrite::write_header` meets its contract: three bytes, one behind the other.
use Prim.Native.Nat.{◌/◌, ◌%◌}
use native.Mathlib.Omega.{arith}
use Rattle.form_fields.specs.Contents.{bytes16}
use Rattle.form_rewrite.proofs.Laws.{stores3}
use Rattle.form_rewrite.proofs.write_header.Goals as goal

pub returns : goal.returns
unfolding bytes16
returns c =
    let a = c.args in
    record { place = omega arith; buffer = stores3 a.out.now a.at a.tag (a.len / 256) (a.len % 256) }
