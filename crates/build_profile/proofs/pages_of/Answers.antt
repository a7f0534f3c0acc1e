use Prim.Native.Nat.{suc, ◌+◌, ◌-◌, ◌<◌}
use mathlib.Core.Path.{◌≡◌}
use native.Mathlib.Omega.{arith}
use lib.ListN.{length, length-take}
use lib.Seq.{get_or-take}
use Rattle.bankdef.specs.Check.{no_bank}
use Rattle.build_profile.specs.Pages.{no_pages, pages_in, pages_of}
use Rattle.build_profile.proofs.Loops.{fill-next}
use Rattle.build_profile.proofs.pages_of.Goals as goal

pub loop-i-preserved : goal.loop-i-preserved
loop-i-preserved c =
    let sixteen : length c.args.banks.defs ≡ 16 =
    c.well_formed.0.1.1.0.1.0.1 in
    let i = c.loop-i.i in
    let listed : i < c.args.banks.len = omega (arith, length-take c.args.banks.len c.args.banks.defs, c.loop-i-test.true) in
    let room : 16 - i ≡ suc (16 - (i + 1)) = omega (arith, c.requires.0, listed) in
    let inside : i < length c.args.banks.defs = omega (arith, sixteen, c.requires.0, listed) in
    let more = fill-next (pages_in c.args.page) no_pages no_bank c.args.banks.defs i (16 - (i + 1)) inside in
    rw (c.loop-i.invariant, c.pages_in.ensures, get_or-take c.args.banks.len c.args.banks.defs i no_bank listed, room) more

pub returns : goal.returns
unfolding pages_of
returns c =
    let sixteen : length c.args.banks.defs ≡ 16 =
    c.well_formed.0.1.1.0.1.0.1 in
    let e : c.loop-i.i ≡ c.args.banks.len =
    omega (arith, sixteen, c.requires.0, length-take c.args.banks.len c.args.banks.defs, c.loop-i-test.false) in
    rw e at c.loop-i.invariant
