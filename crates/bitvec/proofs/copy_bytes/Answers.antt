-- `bitvec::copy_bytes`: each byte copied is the item's.
use Rattle.std.proofs.Common.{◌*◌, drop, ◌∙◌, arith, rules}
use Rattle.std.proofs.lemmas.List.{places, get_or-take, get_or-drop}
use Rattle.bitvec.proofs.Pieces.{whole-bytes, whole-byte}
use Rattle.bitvec.proofs.copy_bytes.Goals as goal

pub returns : goal.returns
returns c =
    let a = c.args in
    let copied = c.copy_from_slice in
    whole-bytes a.image.now a.j _ a.count copied.new.self a.values.now (8 * a.k) c.requires.bytes (omega arith)
    (copied.ensures.len ∙ search (rules, places)) (omega arith)
    (λ i h.
    rw copied.ensures.after
    (get_or-take _ (drop a.k a.values.now) i 0 (omega arith) ∙ get_or-drop a.k a.values.now i 0
    ∙ whole-byte a.values.now (λ n. (c.type_inv.values n).fits) a.k i))
