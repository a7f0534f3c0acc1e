-- Ticket 9 of every call: what the contracts of `dk_profile` and of `dk_build_paged` tell of an outcome, for whatever is given and lent.
use Rattle.std.specs.Prelude.{◌≡◌, ◌↔◌, ℕ, ◌+◌, ◌≤◌, ◌<◌}
use Rattle.c_answers.specs.declared.DkLayout.{DkLayout}
use Rattle.c_answers.specs.declared.DkProfile.{DkProfile}
use Rattle.says.specs.Build.{Given, Lent, In, IsWritten, Reads, Offer, BuildSays}
use Rattle.says.specs.Words.{Not}
use Rattle.meets_sentences.specs.Typed.{Typed}
use Rattle.says.specs.Profile.{Yes}
use Rattle.meets_profile.specs.Ticket9.{Sound, Holds, Names, InPages}
use Rattle.meets_profile.specs.Theorems.Meets.{ProfileContract, PagedContract, profile-meets, paged-meets}
use Rattle.meets_profile.specs.Theorems.Ticket9.{yes-exactly, yes-pages, nineteen-exactly, nineteen-names, ordinary-after-yes}
use Rattle.meets_profile.specs.Theorems.Ticket9.{build-nineteen-exactly, build-nineteen-names, written-in-pages}

-- `dk_profile`: "It says yes exactly when all of them hold, then with each bank's pages"; 19 exactly where one does not, and it "names the first rule
-- broken".
pub record ProfileCall (g : Given) (page : ℕ) (r : DkProfile) : Type 0 where
  pub yes : (r.refusal ≡ 0) ↔ (Sound g × Holds g page)
  pub pages : r.refusal ≡ 0 → Yes g page r
  pub nineteen : (r.refusal ≡ 19) ↔ (Sound g × Not (Holds g page))
  pub names : r.refusal ≡ 19 → Names g page r.place r.second

pub profile-call : (g : Given) → Typed g → (page : ℕ) (r : DkProfile) → ProfileContract g page r → ProfileCall g page r
profile-call g typed page r told =
    let s = profile-meets g typed page r told in
    record { yes = yes-exactly g page r s; pages = yes-pages g page r s; nineteen = nineteen-exactly g page r s; names = nineteen-names g page r s }

-- `dk_build_paged`: "the ordinary build after a yes"; 19 "before the first pass", with nothing lent changed; every written bit in a page of its bank.
pub record PagedCall (g : Given) (page : ℕ) (old : Lent) (r : DkLayout) (new : Lent) : Type 0 where
  pub after-yes : Holds g page → BuildSays g old (record { answer = r; lent = new })
  pub nineteen : (r.refusal ≡ 19) ↔ (Sound g × Not (Holds g page))
  pub names : r.refusal ≡ 19 → Names g page r.place r.second × (r.passes ≡ 0) × (new ≡ old)
  pub written : r.refusal ≡ 0 → (row : ℕ) × Reads g r.passes row
      × ((i at x m bit : ℕ) → IsWritten g i → In g i at → Offer g row i x m → x ≤ bit → bit < x + m → InPages g page at bit)

pub paged-call : (g : Given) → Typed g → (page : ℕ) (old : Lent) (r : DkLayout) (new : Lent) → PagedContract g page old r new → PagedCall g page old r new
paged-call g typed page old r new told =
    let s = paged-meets g typed page old r new told in
    record {
      after-yes = λ h. (ordinary-after-yes g page old h (record { answer = r; lent = new })).0 s;
      nineteen = build-nineteen-exactly g page old (record { answer = r; lent = new }) s;
      names = build-nineteen-names g page old (record { answer = r; lent = new }) s;
      written = written-in-pages g page old (record { answer = r; lent = new }) s;
    }
