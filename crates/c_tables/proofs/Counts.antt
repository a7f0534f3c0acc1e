-- The count of banks is no longer than any of the lists.
use Prim.Native.Nat.{ℕ, ◌≤◌}
use native.Mathlib.Omega.{arith}
use lib.Dec.{eqb}
use lib.ListN.{length}
use borrow.Author.Tests.{eqb-true}
use Rattle.form_fields.specs.Laws.Fields.{by-test}
use Rattle.c_tables.specs.Tables.{Given, agree, count_of}

agree-le : (len n k : ℕ) → k ≤ n → (agree len n k ≤ len) × (agree len n k ≤ k)
agree-le len n k h =
    by-test (eqb len n)
    (λ e. let same = eqb-true len n e in rw e (omega arith, omega arith))
    (λ e. rw e (omega arith, omega arith))

pub record Few (g : Given) : Type 0 where
  pub units : count_of g ≤ length g.units
  pub starts : count_of g ≤ length g.starts
  pub sizes : count_of g ≤ length g.sizes
  pub offsets : count_of g ≤ length g.offsets
  pub aligns : count_of g ≤ length g.aligns
  pub flags : count_of g ≤ length g.flags
  pub bits : count_of g ≤ length g.bits

pub few : (g : Given) → Few g
unfolding count_of
few g =
    let n = length g.units in
    let a = agree-le (length g.starts) n n (omega arith) in
    let with-starts = agree (length g.starts) n n in
    let b = agree-le (length g.sizes) n with-starts a.1 in
    let with-sizes = agree (length g.sizes) n with-starts in
    let c = agree-le (length g.offsets) n with-sizes (omega (arith, a, b)) in
    let with-offsets = agree (length g.offsets) n with-sizes in
    let d = agree-le (length g.aligns) n with-offsets (omega (arith, a, b, c)) in
    let with-aligns = agree (length g.aligns) n with-offsets in
    let e = agree-le (length g.flags) n with-aligns (omega (arith, a, b, c, d)) in
    let with-flags = agree (length g.flags) n with-aligns in
    let f = agree-le (length g.bits) n with-flags (omega (arith, a, b, c, d, e)) in
    record {
      units = omega (arith, a, b, c, d, e, f);
      starts = omega (arith, a, b, c, d, e, f);
      sizes = omega (arith, b, c, d, e, f);
      offsets = omega (arith, c, d, e, f);
      aligns = omega (arith, d, e, f);
      flags = omega (arith, e, f);
      bits = omega (arith, f);
    }
