-- What `dk_build_paged` says, from document 02, Ticket 9: what is given, lent and answered is as in `dk_build` (Build), with the page size
-- in bits beside it.
use Rattle.std.specs.Prelude.{ℕ}
use Rattle.says.specs.Build.{Given, Lent, Outcome, refusal, Laid}
use Rattle.says.specs.Profile.{Checks, Rules}

-- "A build in the profile is the ordinary build after a yes. Refusals: 19 (new), after 4 and before the first pass; place: rule and bank or node."
-- No pass is run before 19. `Laid` is what the ordinary build comes to where none of 1, 2, 3 and 4 is met.
abbrev pub PagedSays : (g : Given) (page : ℕ) (old : Lent) → Outcome → Type 0
PagedSays g page old =
    Checks g (λ number place second. refusal g old number place second 0)
    (Rules g page (λ rule at. refusal g old 19 rule at 0) (Laid g old))
