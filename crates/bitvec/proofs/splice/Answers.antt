-- `bitvec::splice`: the old bits above and below and the chunk's between them add up to the spliced byte, so that every partial sum fits.
use native.Mathlib.Omega.{arith}
use Rattle.bitvec.proofs.Pieces.{SplicedSum, spliced-sum}
use Rattle.bitvec.proofs.splice.Goals as goal

pub returns : goal.returns
returns c =
    let law : SplicedSum c.args.old c.args.at c.args.n c.args.chunk
    c.power-below.result c.power-above.result =
    let a = c.args in
    spliced-sum a.old a.at a.n a.chunk c.power-below.result c.power-above.result c.requires.1
    c.requires.0 c.requires.2 c.power-below.ensures.0 c.power-above.ensures.0 in
    ((law).sum, omega (arith, law))
