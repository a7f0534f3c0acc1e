-- Theorems about what Told defines.
use Rattle.std.specs.Prelude.{ℕ, ◌≡◌, Err}
use Rattle.std.proofs.Math.Path.{refl}
use Rattle.prelude.specs.Verdict.{Verdict, Accepted}
use Rattle.bankdef.specs.Check.{check_of}
use Rattle.bankdef.specs.declared.Bankdefs.{Bankdefs}
use Rattle.resolver.specs.Layout.{Checked}
use Rattle.nodes.specs.Lists.{Lists, lists_of, first_of}
use Rattle.build_profile.specs.Kept.{Judged, keeps, breaks}
use Rattle.build_profile.specs.Theorems.Kept.{judged}
use Rattle.build_profile.specs.Profile.{verdict_of, paged_by, profile_of}
use Rattle.build_profile.specs.Rules.{rules_of}
use Rattle.build_profile.specs.Told.{ProfileTold, lists, off, on, table, told_paged}

module _ (banks : Bankdefs) (l : Lists) (fill page : ℕ) where
  by-rules : Checked banks l fill → {v : Verdict} → Judged banks l page v → ProfileTold banks l fill page (told_paged (paged_by v page banks))
  by-rules c (keeps h) = on c h
  by-rules c (breaks b) = off c b

  by-lists : check_of banks ≡ Accepted → (v : Verdict) → lists_of banks.len l fill ≡ v
      → ProfileTold banks l fill page (told_paged (paged_by (first_of v (rules_of banks l page)) page banks))
  by-lists t Accepted e = by-rules (record { table = t; lists = e }) (judged banks l page)
  by-lists t (Err why) e = lists why t e

  by-table : (v : Verdict) → check_of banks ≡ v
      → ProfileTold banks l fill page (told_paged (paged_by (first_of v (first_of (lists_of banks.len l fill) (rules_of banks l page))) page banks))
  by-table Accepted e = by-lists e (lists_of banks.len l fill) refl
  by-table (Err why) e = table why e

  -- What is told of every layout.
  pub profile-told : ProfileTold banks l fill page (told_paged (profile_of banks l fill page))
  unfolding verdict_of
  profile-told = by-table (check_of banks) refl
