-- Theorems about what Refused defines.
use Rattle.std.specs.Prelude.{◌≡◌, refl, true, ◌<◌, leb, length, get_or}
use Rattle.std.proofs.Common.{subst, arith, ltb-true, leb-true, length-take, get_or-take}
use Rattle.prelude.specs.Limits.{max_banks}
use Rattle.bankdef.specs.declared.Bankdefs.{Bankdefs}
use Rattle.prelude.specs.Laws.Bools.{either, clash, both}
use Rattle.prelude.specs.Verdict.{Accepted}
use Rattle.bankdef.specs.Numbers.{fill_bit, bank_fault, fault_at, bank-0-one}
use Rattle.bankdef.specs.Theorems.Numbers.{sound-bank, fault-anywhere, fault-exactly}
use Rattle.bankdef.specs.Check.{no_bank, banks_of, count_sound, first_fault, some_fault, check_of}
use Rattle.bankdef.specs.Theorems.Pairs.{pairs}
use Rattle.bankdef.specs.Laws.Refused.{concluded, fault-not-before, first-at-fault, some-fault}
use Rattle.bankdef.specs.Refused.{Decided, SoundTable, count, number, sound}

-- The verdict on every table, decided.
pub decided : (t : Bankdefs) → Decided t (check_of t)
decided t =
    let l = banks_of t in
    either (count_sound t.len)
    (λ n. rw n (either (some_fault l)
    (λ e. let h = ltb-true (first_fault l) (length l) e in rw e (number n (record {
      there = h;
      fault = first-at-fault l h;
      no-earlier = fault-not-before l;
    })))
    (λ e. rw e (concluded n (λ k h f. clash (some-fault l k h f) e) (pairs l)))))
    (λ n. rw n (count n))

pub accepted : (t : Bankdefs) → check_of t ≡ Accepted → SoundTable t
accepted t e = from (subst (Decided t) e (decided t))
  where
    from : Decided t Accepted → SoundTable t
    from (sound n f g) =
        let c = both (leb 1 t.len) (leb t.len max_banks) n in
        record {
          least = leb-true 1 t.len c.0;
          most = leb-true t.len max_banks c.1;
          each = λ i h k.
              let b = get_or t.defs i no_bank in
              let in_table : get_or (banks_of t) i no_bank ≡ b = get_or-take t.len t.defs i no_bank h in
              sound-bank b (either (bank_fault b) (λ e. absurd (f i (rw length-take (omega arith)) (rw in_table (fault-anywhere i b e)))) (λ e. e));
          disjoint = g;
          bank-0 = λ k.
              let b = get_or t.defs 0 no_bank in
              let some : 0 < t.len = omega (arith, leb-true 1 t.len c.0) in
              let in_table : get_or (banks_of t) 0 no_bank ≡ b = get_or-take t.len t.defs 0 no_bank some in
              let no : fault_at 0 b ≡ true → ⊥ = λ e. f 0 (rw length-take (omega arith)) (rw in_table e) in
              let s = sound-bank b (either (bank_fault b) (λ e. absurd (no (fault-anywhere 0 b e))) (λ e. e)) in
              let not-one : fill_bit b ≡ 1 → ⊥ = λ e. no ((fault-exactly 0 b).1 (bank-0-one refl e)) in
              omega (arith, s.bit, not-one);
        }
