-- `record_read::read`: a bad file is refused, and of a sound one its bytes and blocks are taken.
use borrow.Author.Rules.{rules}
use Rattle.record_read.proofs.Room.{scan-whole, scanned-good, scanned-ready, scanned-parts}
use Rattle.record_read.proofs.read.Goals as goal

pub invariant_of-file : goal.invariant_of-file
invariant_of-file c =
    let a = c.args in
    let s = scan-whole a.format a.load a.text.now c.scan_lines.result c.scan_lines.ensures.0 _ _ _ _ c.in-Ok.is in
    let parts = scanned-parts s in
    record {
      spells = search rules;
      good = scanned-good s;
      ready = scanned-ready s c.saturating_sub.ensures;
      order = parts.0;
      counted = parts.1;
    }
