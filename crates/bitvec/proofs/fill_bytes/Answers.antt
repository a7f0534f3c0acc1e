-- `bitvec::fill_bytes`: each byte filled is all ones.
use Rattle.std.proofs.Common.{◌≡◌, ◌-◌, replicate, ap, ◌∙◌, rules}
use Rattle.std.proofs.lemmas.List.{places}
use Rattle.bitvec.proofs.OnesLaws.{ones-bytes}
use Rattle.bitvec.proofs.fill_bytes.Goals as goal

pub returns : goal.returns
returns c =
    let a = c.args in
    let e : c.fill.new.self ≡ replicate (a.k - a.j) 255 = c.fill.ensures.after (λ y h. search rules) ∙ ap (λ n. replicate n 255) (search (rules, places)) in
    rw e (ones-bytes a.image.now a.j a.k c.requires.bytes c.requires.j_le_k.0 c.requires.j_le_k.1)
