-- `record_write::all_placed`: every block against the one behind it, and every block's last address.
use Rattle.std.proofs.Common.{◌≡◌, ℕ, ◌&&◌, Bool, eqb, drop, sym, ap, ◌∙◌, rules, tests}
use Rattle.std.specs.List.{zip, list_all}
use Rattle.std.proofs.lemmas.Iterator.{YieldsList-from_slice, YieldsList-from_zip}
use Rattle.std.proofs.lemmas.Iterator.Adapters.{YieldsList-from_skip}
use Rattle.std.proofs.lemmas.Iterator.Search.{all_from_yields_List}
use Rattle.record_write.specs.Going.{limit_of}
use Rattle.record_write.proofs.BlockList.{free, reached, placed-all}
use Rattle.record_write.proofs.Job.all_placed.Goals as goal

pub returns-then-free : goal.returns-then-free
returns-then-free c =
    let os = c.args.self.now.offsets.now in
    let ss = c.args.self.now.sizes.now in
    let apart : c.all-free.result ≡ list_all free (zip (zip os ss) (drop 1 os)) =
    all_from_yields_List free c.all-free.new.self _ c.all-free.result c.all-free.ensures.ran
    (YieldsList-from_zip {s = c.zip-2.result} (YieldsList-from_zip (YieldsList-from_slice os cc) (YieldsList-from_slice ss cc))
    (YieldsList-from_skip 1 (YieldsList-from_slice os cc) cc)) (λ x b q k. search (rules, tests)) in
    let low : c.all.result ≡ list_all (reached c.args.self.now.load c.limit_of-limit.result) (zip os ss) =
    all_from_yields_List (reached c.args.self.now.load c.limit_of-limit.result) c.all.new.self _ c.all.result c.all.ensures.ran
    (YieldsList-from_zip {s = c.zip-then-free.result} (YieldsList-from_slice os cc) (YieldsList-from_slice ss cc)) (λ x b q k. search (rules, tests)) in
    low
    ∙ ap (λ (l : ℕ). list_all (reached c.args.self.now.load l) (zip os ss)) c.limit_of-limit.ensures
    ∙ ap (λ (b : Bool). b && list_all (reached c.args.self.now.load (limit_of c.args.self.now.format)) (zip os ss)) (sym c.if-free.true ∙ apart)
    ∙ placed-all (eqb c.args.self.now.format 2) c.args.self.now.load os ss c.requires

pub returns-else-free : goal.returns-else-free
returns-else-free c =
    let os = c.args.self.now.offsets.now in
    let ss = c.args.self.now.sizes.now in
    let apart : c.all-free.result ≡ list_all free (zip (zip os ss) (drop 1 os)) =
    all_from_yields_List free c.all-free.new.self _ c.all-free.result c.all-free.ensures.ran
    (YieldsList-from_zip {s = c.zip-2.result} (YieldsList-from_zip (YieldsList-from_slice os cc) (YieldsList-from_slice ss cc))
    (YieldsList-from_skip 1 (YieldsList-from_slice os cc) cc)) (λ x b q k. search (rules, tests)) in
    c.if-free.false
    ∙ ap (λ (b : Bool). b && list_all (reached c.args.self.now.load (limit_of c.args.self.now.format)) (zip os ss)) (sym c.if-free.false ∙ apart)
    ∙ placed-all (eqb c.args.self.now.format 2) c.args.self.now.load os ss c.requires
