-- `has_at` meets its contract: all blocks before `at` end too early, and those behind it start too late.
use Rattle.std.proofs.Common.{◌≡◌, ◌<◌, ◌≤◌, ◌/◌, length, get_or, leb, ap, ◌∙◌, rules}
use Rattle.verify.proofs.Cursors.{has-none, has_here}
use Rattle.verify.proofs.Side.has_at.Goals as goal

pub returns-in-Some : goal.returns-in-Some
returns-in-Some c =
    let s = c.args.self.now in
    let within : c.args.at < length s.offsets.now = search rules in
    let read : c.in-Some.offset.now ≡ get_or s.offsets.now c.args.at 0 = search rules in
    ap (λ o. leb (o / 8) c.args.b) read ∙ has_here s.offsets.now s.sizes.now s.sound c.args.b c.args.at c.requires within

pub returns-in-None : goal.returns-in-None
returns-in-None c =
    let s = c.args.self.now in
    let past : length s.offsets.now ≤ c.args.at = search rules in
    has-none s.offsets.now s.sizes.now s.sound c.args.b c.args.at c.requires past
