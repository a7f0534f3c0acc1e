-- Whom 12 names, of calls in turn: "the stored start and size" are those of an earlier accepted offer, and that one is in the way.
use Rattle.std.specs.Prelude.{◌≡◌, refl, ℕ}
use Rattle.std.proofs.Common.{sym, subst, arith}
use mathlib.Core.List.{List, Memᴰ}
use Rattle.overlap_checker.specs.declared.Entry.{Entry}
use Rattle.says.specs.Words.{refused, passed}
use Rattle.says.specs.Store as w
use Rattle.says.specs.Store.{Store, Outcome, Covers, Inside, start, size, mark, Clash, Names, OfferSays}
use Rattle.meets_store.specs.Calls.{Empty, AllWithin, Calls}
use Rattle.meets_store.specs.Theorems.Demand3 as demand

-- an accepted offer f is in the way of e: they share a bit, or one of them is a mark strictly inside the other
pub data InTheWay (e f : Entry) : Type 0 where
  bit-shared : {bit : ℕ} → Covers e.position e.size bit → Covers f.position f.size bit → InTheWay e f
  mark-inside : f.size ≡ 0 → Inside e.position e.size f.position → InTheWay e f
  is-inside : e.size ≡ 0 → Inside f.position f.size e.position → InTheWay e f

module _ (s : Store) (empty : Empty s) (es taken : List Entry) (all : AllWithin es) (t : Store) (run : Calls s es taken t) (e : Entry) where
  -- one of the accepted offers with this position and size, in the way
  pub record Named (position extent : ℕ) : Type 0 where
    pub named : Entry
    pub earlier : Memᴰ named taken
    pub start-told : position ≡ named.position
    pub size-told : extent ≡ named.size
    pub way : InTheWay e named

  entry : (i : ℕ) → Clash t e i → Named (start t i) (size t i)
  entry i (w.shared m p q) =
      let f : Entry = record { position = start t i; size = size t i } in
      record {
        named = f;
        earlier = ((demand.stored-exactly s empty es taken all t run f).1 (i, m, refl, refl)).1;
        start-told = refl;
        size-told = refl;
        way = bit-shared p q;
      }
  entry i (w.inside m z p) =
      let f : Entry = record { position = start t i; size = size t i } in
      record {
        named = f;
        earlier = ((demand.stored-exactly s empty es taken all t run f).1 (i, m, refl, refl)).1;
        start-told = refl;
        size-told = refl;
        way = is-inside z p;
      }

  names : {x n : ℕ} → Names t e x n → Named x n
  names (w.at-or-above {i} a l c) = entry i c
  names (w.one_below {i} a l c n) = entry i c
  names (w.lowest-mark {i} c l n) =
      let (f, m, z, is) = (demand.marked-exactly s empty es taken all t run (mark t i)).1 (i, c.0, refl) in
      record {
        named = f;
        earlier = m;
        start-told = sym is;
        size-told = sym z;
        way = mark-inside z (subst (λ (x : ℕ). Inside e.position e.size x) (sym is) c.1);
      }

  pub twelve-names-an-earlier : {y : Outcome} → OfferSays t e y → y.answer.refusal ≡ 12 → Named y.answer.place y.answer.second
  twelve-names-an-earlier (refused x m) is = absurd (omega arith)
  twelve-names-an-earlier (passed n (refused i m)) is = absurd (omega arith)
  twelve-names-an-earlier (passed n (passed o (refused i m))) is = absurd (omega arith)
  twelve-names-an-earlier (passed n (passed o (passed p (refused x m)))) is = absurd (omega arith)
  twelve-names-an-earlier (passed n (passed o (passed p (passed q (w.overlaps x m))))) is = names m
  twelve-names-an-earlier (passed n (passed o (passed p (passed q (w.full x m))))) is = absurd (omega arith)
  twelve-names-an-earlier (passed n (passed o (passed p (passed q (w.stored x m k i f g))))) is = absurd (omega arith)
  twelve-names-an-earlier (passed n (passed o (passed p (passed q (w.marked x m k i f))))) is = absurd (omega arith)
