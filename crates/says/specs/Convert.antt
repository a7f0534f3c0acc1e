-- What `dk_to_form2` and `dk_to_form1` say, from document 02, Tickets 7 and 13: what the fields of a file become in the other form, and in which order a
-- call is refused. What a file is stands in Files.
use Rattle.std.specs.Prelude.{◌≡◌, List, [], ◌∷◌, ◌++◌, map, ◌⊎◌, ℕ, suc, ◌≤◌, ◌<◌, length, get_or, take, replicate}
use Rattle.c_answers.specs.declared.DkCount.{DkCount}
use Rattle.says.specs.Words.{Tries, First, Begins, Not}
use Rattle.says.specs.Files.{four, Held, Form, form-1, form-2, longest, bytes, Fits, Sound, Broken}

-- ---- nodes. "Kinds: .. 1 bank switch"; "The operand is a bank for 1": the payload of a switch to a bank
abbrev pub switch : ℕ → List ℕ
switch bank = 1 ∷ 0 ∷ 0 ∷ 0 ∷ bank ∷ []

-- "turns every other switch to bank 0 into one to bank 1"; other nodes stay
pub data Turned (node : List ℕ) : List ℕ → Type 0 where
  turned : get_or node 0 0 ≡ 1 → Turned node (switch 1)
  same : (get_or node 0 0 ≡ 1 → ⊥) → Turned node node

-- ---- the fields. "gives every one-bank file a bank 1 with bank 0's record, leaves bank 0 only its unit and start (the rest zero), puts a switch to bank 1
-- ahead of the first node, zeros in each row": unit and start are ten bytes, unread bytes are zero too
pub record Widened (h d : Held) : Type 0 where
  pub one : length h.banks ≡ 1
  pub banks : d.banks ≡ (take 10 (get_or h.banks 0 []) ++ replicate 14 0) ∷ (get_or h.banks 0 [] ++ (0 ∷ [])) ∷ []
  pub count : length d.nodes ≡ suc (length h.nodes)
  pub ahead : get_or d.nodes 0 [] ≡ switch 1
  pub nodes : (i : ℕ) → i < length h.nodes → Turned (get_or h.nodes i []) (get_or d.nodes (suc i) [])
  pub rows : (length d.rows ≡ length h.rows) × ((r : ℕ) → r < length h.rows → get_or d.rows r [] ≡ replicate 5 0 ++ get_or h.rows r [])
  pub values : d.values ≡ h.values
  pub limit : d.limit ≡ h.limit

-- What another file becomes: each bank by itself, the rest as it was.
abbrev pub each_bank : (List ℕ → List ℕ) → Held → Held
each_bank become h = record { banks = map become h.banks; nodes = h.nodes; rows = h.rows; values = h.values; limit = h.limit }

-- "a one-bank file that names another bank": a node that is a switch to another bank than 0
abbrev pub NamesOther : Held → ℕ → Type 0
NamesOther h i = (length h.banks ≡ 1) × (i < length h.nodes) × (get_or (get_or h.nodes i []) 0 0 ≡ 1) × Not (four (get_or h.nodes i []) 1 ≡ 0)

-- "The way back takes exactly that shape to the one-bank file": h is what the one-bank file d becomes.
abbrev pub ShapeOf : Held → Held → Type 0
ShapeOf d h = Fits form-1 d × ((i : ℕ) → NamesOther d i → ⊥) × Widened d h

-- From form 1 to form 2, "with fill bits zero", and back.
pub data Becomes (h : Held) : (from to : Form) → Held → Type 0 where
  one-bank : {d : Held} → Widened h d → Becomes h form-1 form-2 d
  longer : {d : Held} → Not (length h.banks ≡ 1) → d ≡ each_bank (λ b. b ++ (0 ∷ [])) h → Becomes h form-1 form-2 d
  shape : {d : Held} → ShapeOf d h → Becomes h form-2 form-1 d
  shorter : {d : Held} → ((e : Held) → Not (ShapeOf e h)) → d ≡ each_bank (take 23) h → Becomes h form-2 form-1 d

-- ---- the call, and what is lent
pub record Outcome : Type 0 where
  pub answer : DkCount
  pub out : List ℕ

-- the way from form f, over a file and a lent buffer
module _ (f : Form) (file old : List ℕ) where
  -- "Each refusal returns its number and a place and changes nothing lent."
  abbrev pub refusal : (number place : ℕ) → Outcome
  refusal number place = record { answer = record { refusal = number; place = place; count = 0 }; out = old }

  -- the converted file, and the old bytes behind it
  pub data Writes (result : List ℕ) : Outcome → Type 0 where
    writes : {out : List ℕ} → Begins result old out → Writes result (record { answer = record { refusal = 0; place = 0; count = length result }; out = out })

  -- "4 past 4,096 nodes or 16 rows, in file or result, or for a one-bank file that names another bank"; "4 for .. a result past its form's length, then
  -- 18 (new) for a way back that would drop a fill bit of one, then 14": the fill bit is the payload's last byte
  abbrev pub Tried : (to : Form) → Held → Held → Outcome → Type 0
  Tried to h d =
      Tries (λ (_ : Unit {0}). (4096 < length h.nodes) ⊎ (4096 < length d.nodes)) (λ _. refusal 4 0)
      (Tries (λ (_ : Unit {0}). 16 < length h.rows) (λ _. refusal 4 1)
      (Tries (First (NamesOther h)) (λ i. refusal 4 i)
      (Tries (λ (_ : Unit {0}). longest to < length (bytes to d)) (λ _. refusal 4 0)
      (Tries (λ (_ : Unit {0}). (f ≡ form-2) × ((b : ℕ) × (b < length h.banks) × (get_or (get_or h.banks b []) 23 0 ≡ 1))) (λ _. refusal 18 0)
      (Tries (λ (_ : Unit {0}). length old < length (bytes to d)) (λ _. refusal 14 0)
      (Writes (bytes to d)))))))

  -- "4 for a broken file": with the field's index; a file of the other form is broken at field 0
  pub data ConvertSays : Outcome → Type 0 where
    broken : {i : ℕ} → Broken f file i → ConvertSays (refusal 4 i)
    sound : {to : Form} {h d : Held} {y : Outcome} → Sound f file h → Becomes h f to d → Tried to h d y → ConvertSays y
