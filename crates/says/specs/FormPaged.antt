-- What `dk_form_paged` says, from document 02, Ticket 9: which bytes of a file say which layout is as in `dk_form` (Form), and of that layout what
-- `dk_build_paged` says (Paged).
use Rattle.std.specs.Prelude.{List, ℕ}
use Rattle.says.specs.Words.{Is}
use Rattle.says.specs.Build.{Given, Lent, Outcome}
use Rattle.says.specs.Files.{Form, Held, Sound, Broken}
use Rattle.says.specs.Form.{OfForm, Layout, broken_at}
use Rattle.says.specs.Paged.{PagedSays}

-- A broken file is 4 with the field's index whatever the page size: no pass has run, and nothing lent is changed.
pub data FormPagedSays (file : List ℕ) (fill page : ℕ) (old : Lent) (y : Outcome) : Type 0 where
  broken : {f : Form} {i : ℕ} → OfForm file f → Broken f file i → Is (broken_at file fill old i) y → FormPagedSays file fill page old y
  laid : {f : Form} {h : Held} {g : Given} → OfForm file f → Sound f file h → Layout f h fill g → PagedSays g page old y
      → FormPagedSays file fill page old y
