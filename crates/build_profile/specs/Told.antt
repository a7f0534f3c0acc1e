-- What a caller is told of a layout and the profile, in figures: which refusal before the rules, which rule and where, or yes with the pages.
use Rattle.std.specs.Prelude.{ℕ, ◌≡◌, List, Err}
use Rattle.prelude.specs.Told.{Told, gives, refuses, told_refusal}
use Rattle.prelude.specs.declared.Place.TheVariants.{Two}
use Rattle.prelude.specs.declared.Refusal.{Refusal}
use Rattle.prelude.specs.Verdict.{Verdict, Accepted}
use Rattle.bankdef.specs.Check.{check_of}
use Rattle.bankdef.specs.declared.Bankdefs.{Bankdefs}
use Rattle.resolver.specs.Layout.{Checked}
use Rattle.nodes.specs.Lists.{Lists, lists_of}
use Rattle.build_profile.specs.Kept.{InProfile, Breaks}
use Rattle.build_profile.specs.Pages.{pages_of}
use Rattle.build_profile.specs.Profile.{profile_of}
use Rattle.build_profile.specs.declared.Paged.{Paged}

-- an answer: the pages, a word for each bank number; or a refusal's number and place
abbrev pub ToldBy : Verdict → List ℕ → Told (List ℕ)
ToldBy Accepted pages = gives pages
ToldBy (Err why) pages = told_refusal why

abbrev pub told_paged : Paged → Told (List ℕ)
told_paged r = ToldBy r.verdict r.pages

pub data ProfileTold (banks : Bankdefs) (l : Lists) (fill page : ℕ) : Told (List ℕ) → Type 0 where
  -- "after 4": what the table or the lists are refused for comes first
  table : (why : Refusal) → check_of banks ≡ Err why → ProfileTold banks l fill page (told_refusal why)
  lists : (why : Refusal) → check_of banks ≡ Accepted → lists_of banks.len l fill ≡ Err why → ProfileTold banks l fill page (told_refusal why)
  -- "19 (new) ..; place: rule and bank or node"
  off : {rule at : ℕ} → Checked banks l fill → Breaks banks l page rule at → ProfileTold banks l fill page (refuses 19 (Two rule at))
  -- "It says yes exactly when all of them hold, then with each bank's pages"
  on : Checked banks l fill → InProfile banks l page → ProfileTold banks l fill page (gives (pages_of page banks))

-- What `check_profile` promises.
pub record Answers (banks : Bankdefs) (l : Lists) (fill page : ℕ) (r : Paged) : Type 0 where
  pub answer : r ≡ profile_of banks l fill page
  pub figures : ProfileTold banks l fill page (told_paged r)
