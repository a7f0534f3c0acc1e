-- Theorems about what Kept defines.
use Rattle.std.specs.Prelude.{ℕ, ◌≡◌, length}
use Rattle.std.proofs.Common.{subst, arith}
use Rattle.prelude.specs.Laws.Bools.{unlike}
use Rattle.prelude.specs.Verdict.{Verdict, Accepted}
use Rattle.bankdef.specs.declared.Bankdefs.{Bankdefs}
use Rattle.nodes.specs.Lists.{Lists, first_of}
use Rattle.resolver.specs.Once.{bank_record}
use Rattle.build_profile.specs.Keeping.{LabelAligned, AlignKept, OffsetKept, SizeKept, UnitKept, AddrKept}
use Rattle.build_profile.specs.Theorems.Keeping.{label-tells, align-tells, offset-tells, size-tells, unit-tells, addr-tells}
use Rattle.build_profile.specs.OneBit.{one_bit, ExactlyOne}
use Rattle.build_profile.specs.Theorems.OneBit.{one-bit-exactly}
use Rattle.build_profile.specs.RuleLaws.{Every, First}
use Rattle.build_profile.specs.Laws.RuleLaws.{Ruling, kept, broken, ruling}
use Rattle.build_profile.specs.Rules.{bank_aligned, aligns_kept, on_page, whole_pages, unit_kept, addrs_kept, rules_of}
use Rattle.build_profile.specs.Kept.{Breaks, InProfile, Judged, addr, align, breaks, keeps, label, offset, page-size, size, unit}

module _ (banks : Bankdefs) (l : Lists) (page : ℕ) where
  step : {rule : ℕ} {P : ℕ → Type 0} {n : ℕ} {v w : Verdict} → Ruling rule P n v → ((k : ℕ) → First P n k → Breaks banks l page rule k)
      → (Every P n → Judged banks l page w) → Judged banks l page (first_of v w)
  step (kept every) names rest = rest every
  step (broken {k} f) names rest = breaks (names k f)

  last : {rule : ℕ} {P : ℕ → Type 0} {n : ℕ} {v : Verdict} → Ruling rule P n v → ((k : ℕ) → First P n k → Breaks banks l page rule k)
      → (Every P n → InProfile banks l page) → Judged banks l page v
  last (kept every) names rest = keeps (rest every)
  last (broken {k} f) names rest = breaks (names k f)

  at_zero : (k : ℕ) → First (λ k. ExactlyOne page) 1 k → Breaks banks l page 1 k
  at_zero k f = let z : 0 ≡ k = omega (arith, f.listed) in subst (Breaks banks l page 1) z (page-size f.breaks)

  -- Every layout is judged so.
  pub judged : Judged banks l page (rules_of banks l page)
  unfolding rules_of
  judged =
      step (ruling (λ k. one_bit page) (λ k. ExactlyOne page) (λ k. one-bit-exactly page) 1 1) at_zero (λ p. let one = p 0 (omega arith) in
      step (ruling (λ k. bank_aligned (bank_record banks k).align) (LabelAligned banks) (label-tells banks) 2 banks.len) (λ k. label one) (λ a.
      step (ruling (aligns_kept l) (AlignKept l) (align-tells l) 2 (length l.kinds)) (λ k. align one a) (λ b.
      step (ruling (λ k. on_page page (bank_record banks k).offset) (OffsetKept banks page) (offset-tells banks page) 3 banks.len)
      (λ k. offset one a b) (λ c.
      step (ruling (λ k. whole_pages page (bank_record banks k).offset (bank_record banks k).size) (SizeKept banks page) (size-tells banks page) 4 banks.len)
      (λ k. size one a b c) (λ d.
      step (ruling (λ k. unit_kept (bank_record banks k).unit) (UnitKept banks) (unit-tells banks) 5 banks.len) (λ k. unit one a b c d) (λ e.
      last (ruling (addrs_kept banks l) (AddrKept banks l) (addr-tells banks l) 6 (length l.kinds)) (λ k. addr one a b c d e) (λ f.
      record { page-size = one; labels = a; aligns = b; offsets = c; sizes = d; units = e; addrs = f })))))))

  -- Where no rule is named, all six hold.
  pub said-kept : rules_of banks l page ≡ Accepted → InProfile banks l page
  said-kept e = from judged e
    where
      from : {v : Verdict} → Judged banks l page v → v ≡ Accepted → InProfile banks l page
      from (keeps h) f = h
      from (breaks b) f = unlike cc
      -- ---- the other way round
