-- A step of looking for the lowest stretch: a law for each way that it goes.
use mathlib.Core.Path.{◌≡◌}
use mathlib.Core.Bool.{Bool, false, ◌||◌}
use Prim.Native.Nat.{ℕ, ◌≤◌, ◌<◌, max}
use native.Mathlib.Decide.{dec_lt}
use native.Mathlib.Omega.{arith}
use Rattle.prelude.specs.Laws.Bools.{or_left, or_right}
use Rattle.record_read.specs.Steps.{run, in_run, Betters}
use Rattle.record_read.specs.declared.Run.{Run}
use Rattle.record_read.proofs.Loops.{in-run, before-run, behind-run}

or-none : {a b : Bool} → a ≡ false → b ≡ false → (a || b) ≡ false
or-none p q = rw (p, q)

module _ (from : ℕ) (best next : Run) (first : ℕ) (is : first ≡ max next.first from) where
  -- a byte before the part that counts
  out : (x : ℕ) → from ≤ x → x < first → in_run next x ≡ false
  out x h k = before-run next x (omega arith)

  pub better-none : next.end ≤ first → Betters from best next best
  better-none e =
      record {
        goes = λ test w.
            record {
              behind = w.behind;
              inside = λ x l u. or_left (test x) (in_run next x) (w.inside x l u);
              clear = λ x l u.
                  or-none (w.clear x l u) (elim (dec_lt x first) [ yes p ↦ out x l p | no p ↦ behind-run next x (omega arith) ]);
            };
        small = λ b n. b;
      }

  module _ (some : first < next.end) where
    -- a lower one, or the first
    pub better-lower : (best.first < best.end → first < best.first) → Betters from best next (run first next.end)
    better-lower lower =
        record {
          goes = λ test w.
              record {
                behind = λ h. omega arith;
                inside = λ x l u. or_right (test x) (in_run next x) (in-run next x (omega arith) u);
                clear = λ x l u.
                    let k : x < first = u some in
                    or-none (w.clear x l (λ h. let z = lower h in omega arith)) (out x l k);
              };
          small = λ b n. n;
        }

    -- one that ends where it begins
    pub better-under : best.first < best.end → next.end ≡ best.first → Betters from best next (run first best.end)
    better-under held e =
        record {
          goes = λ test w.
              record {
                behind = λ h. omega arith;
                inside = λ x l u.
                    elim (dec_lt x best.first) [
                      | yes p ↦ or_right (test x) (in_run next x) (in-run next x (omega arith) (omega arith))
                      | no p ↦ or_left (test x) (in_run next x) (w.inside x (omega arith) u)
                    ];
                clear = λ x l u.
                    let k : x < first = u (omega arith) in
                    or-none (w.clear x l (λ h. omega arith)) (out x l k);
              };
          small = λ b n. b;
        }

    module _ (held : best.first < best.end) (above : best.first ≤ first) where
      pub better-joined : first ≡ best.end → Betters from best next (run best.first next.end)
      better-joined e =
          record {
            goes = λ test w.
                record {
                  behind = λ h. w.behind held;
                  inside = λ x l u.
                      elim (dec_lt x best.end) [
                        | yes p ↦ or_left (test x) (in_run next x) (w.inside x l p)
                        | no p ↦ or_right (test x) (in_run next x) (in-run next x (omega arith) u)
                      ];
                  clear = λ x l u.
                      let k : x < best.first = u (omega arith) in
                      or-none (w.clear x l (λ h. k)) (out x l (omega arith));
                };
            small = λ b n. n;
          }

      pub better-kept : Betters from best next best
      better-kept =
          record {
            goes = λ test w.
                record {
                  behind = w.behind;
                  inside = λ x l u. or_left (test x) (in_run next x) (w.inside x l u);
                  clear = λ x l u.
                      let k : x < best.first = u held in
                      or-none (w.clear x l u) (out x l (omega arith));
                };
            small = λ b n. b;
          }
