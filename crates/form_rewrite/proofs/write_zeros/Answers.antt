-- `form_rewrite::write_zeros` meets its contract: the part that is filled.
use Prim.Native.Nat.{ℕ, ◌+◌, ◌-◌, ◌≤◌}
use mathlib.Core.List.{List, ◌++◌}
use Rattle.std.proofs.Common.{append_assoc, rules}
use mathlib.Core.Path.{◌≡◌, sym, ap, ap₂, ◌∙◌}
use native.Mathlib.Omega.{arith}
use lib.ListN.{length, take, drop, replicate}
use borrow.Rule.Slice.PartMut.{put_mid, Post-is}
use Rattle.std.proofs.lemmas.List.{places}
use Rattle.std.proofs.lemmas.List.Edits.{sets-eq}
use Rattle.print_text.specs.Puts.{Writes}
use Rattle.form_rewrite.specs.Turning.{zeros}
use Rattle.form_rewrite.proofs.Laws.{zeros-length}
use Rattle.form_rewrite.proofs.write_zeros.Goals as goal

filled : (l part : List ℕ) (at count : ℕ) → at + count ≤ length l → part ≡ zeros count
    → Writes (zeros count) l at (at + count) (put_mid at (at + count - at) l part)
filled l part at count room e =
    record {
      place = omega (arith, zeros-length count);
      buffer = ap₂ (λ (p r : List ℕ). take at l ++ (p ++ r)) e
          (Post-is at (at + count) l (omega arith) ∙ ap (λ (n : ℕ). drop (at + n) l) (sym (zeros-length count)))
          ∙ sym (append_assoc (take at l) (zeros count) (drop (at + length (zeros count)) l)) ∙ sym (sets-eq (zeros count) l at (omega (arith, zeros-length count)));
    }

pub returns : goal.returns
returns c =
    let a = c.args in
    let zero : c.fill.new.self ≡ replicate (a.at + a.count - a.at) 0 =
    c.fill.ensures.after (λ y h. search rules) ∙ ap (λ n. replicate n 0) (search (rules, places)) in
    filled a.out.now c.fill.new.self a.at a.count c.requires (zero ∙ ap zeros {x = a.at + a.count - a.at} {y = a.count} (omega arith))
