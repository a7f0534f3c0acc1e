-- Laws that proofs about Walking need.
use Rattle.std.specs.Prelude.{ℕ, ◌+◌, ◌<◌, ◌≡◌, refl, List, get_or, set, length}
use Rattle.std.proofs.Common.{sym, subst, ◌∙◌, arith}
use Rattle.std.proofs.Math.Path.{ap}
use Rattle.std.proofs.Math.Numerals.{add-one}
use Rattle.std.proofs.Math.ListN.{length-set}
use Rattle.std.proofs.lemmas.List.{set-get_or}
use Rattle.prelude.specs.Limits.{max_banks}
use Rattle.bankdef.specs.declared.Bankdef.{Bankdef}
use Rattle.iter.specs.Crossing.{crossing_of}
use Rattle.iter.specs.Laws.Crossing.{any-default}
use Rattle.iter.specs.Laws.Padding.{crossing-still}
use Rattle.iter.specs.Padding.{the-bits, the-units, Fits}
use Rattle.iter.specs.Step.{origin, no_lost, start_of, bank_after, lost_after, kept, step_of}
use Rattle.iter.specs.Theorems.Crossing.{crossing-kept, none-lost}
use Rattle.iter.specs.declared.Crossing.{Crossing}
use Rattle.iter.specs.declared.Lost.{Lost}
use Rattle.nodes.specs.declared.Node.{Node}
use Rattle.iter.specs.declared.Pos.{Pos}
use Rattle.iter.specs.declared.Skipped.{Skipped}
use Rattle.iter.specs.declared.Walk.{Walk}
use Rattle.nodes.specs.Lists.{Row}
use Rattle.resolver.specs.Laws.Stands as standing
use Rattle.resolver.specs.Once.{Program, node, bank_of, step_at, walk_to}
use Rattle.resolver.specs.Stands.{Stands}
use Rattle.resolver.specs.Switches.{Switches}
use Rattle.resolver.specs.Walking.{Walks}

module _ (p : Program) (sound : Switches p.banks.len p.kinds p.operands) where
  pub walks-start : (row : Row) {begun : Walk} → begun ≡ start_of → Walks p row 0 begun
  unfolding walk_to start_of
  walks-start row e = rw e (record { is = refl; sixteen = refl; sums = refl; listed = sound.some })

  module _ (room : length p.banks.defs ≡ max_banks) (row : Row) (i : ℕ) {walk : Walk} {b : ℕ} (w : Walks p row i walk) {n : Node}
      (k : n ≡ node p row i) (f : b ≡ bank_after walk.bank n) where
    -- its parts, by themselves
    parts : Stands p row i walk.at walk.bank
    parts =
        record {
          places = ap (λ (x : Walk). x.at) w.is;
          stood = ap (λ (x : Walk). x.bank) w.is;
          sixteen = w.sixteen;
          listed = w.listed;
        }

    -- the bank that node i stands in
    in-bank : b ≡ bank_after walk.bank (node p row i)
    in-bank = standing.stands-in p sound row i walk.bank k f

    pub in_table : b < max_banks
    in_table = standing.one-of-sixteen p sound room row i parts in-bank

    -- the record that the table has there is the bank's
    pub its-record : (other : Bankdef) {d : Bankdef} → d ≡ get_or p.banks.defs b other → d ≡ bank_of p.banks (walk_to p row i) (node p row i)
    its-record other g = standing.record_is p sound room row i parts in-bank other g

    module _ (o : Pos) (d other : Bankdef) {c : Crossing} (h : c ≡ crossing_of d (get_or walk.at b o) n) (g : d ≡ get_or p.banks.defs b other) where
      -- what the node sees
      pub sees : c.seen ≡ (step_at p row (walk_to p row i) i).seen
      sees = standing.sees p sound room row i parts in-bank o d other k h g

      crosses : c ≡ crossing_of d (get_or walk.at b origin) (node p row i)
      crosses = h ∙ rw (k, any-default walk.at b o origin (omega (arith, in_table, w.sixteen)))

      -- and the walk after it, with its step stored
      pub walks_next : Walks p row (i + 1) (kept walk b c.after c.skipped)
      unfolding walk_to
      walks_next =
          record {
            is = rw add-one (
                ap (λ (x : Walk). (step_at p row x i).walk) w.is
                ∙ ap (λ (x : Bankdef). (step_of x walk (node p row i)).walk)
                (sym (its-record other g ∙ ap (λ (x : Walk). bank_of p.banks x (node p row i)) w.is))
                ∙ crossing-kept d walk (node p row i) in-bank in_table crosses (rw (sym w.is) (standing.sums-small p row i)));
            sixteen = length-set walk.at b c.after ∙ w.sixteen;
            sums = length-set walk.lost b _ ∙ w.sums;
            listed = standing.still-listed p sound room row i parts in-bank;
          }

      -- A node that skips no bits leaves the sums as they are, and need not store them.
      pub walks-still : c.skipped.bits ≡ 0 → Walks p row (i + 1) (record { at = set walk.at b c.after; lost = walk.lost; bank = b })
      walks-still none =
          let was = get_or walk.lost b no_lost in
          let fits : Fits walk = rw (sym w.is) (standing.sums-small p row i) in
          let same : set walk.lost b (lost_after was c.skipped) ≡ walk.lost =
          ap (λ (s : Skipped). set walk.lost b (lost_after was s)) (crossing-still d (get_or walk.at b origin) (node p row i) crosses none)
          ∙ ap (set walk.lost b) (sym (none-lost was (fits the-bits b) (fits the-units b)))
          ∙ set-get_or walk.lost b no_lost in
          subst (λ (l : List Lost). Walks p row (i + 1) (record { at = set walk.at b c.after; lost = l; bank = b })) same walks_next
