-- A one-bank file in both forms, byte by byte: what `dk_to_form2` writes for it, and `dk_to_form1` for that. Its bank has a size, no offset, and bytes
-- that are not zero where no number is read.
use Rattle.std.specs.Prelude.{◌≡◌, refl, List, [], ◌∷◌, ◌++◌, ℕ, zero, suc, ◌≤◌, ◌<◌, length, get_or, take, drop}
use Rattle.std.proofs.Common.{ap, subst, ⊎_elim, arith}
use Rattle.prelude.specs.Laws.Bools.{unlike}
use Rattle.says.specs.Words as words
use Rattle.says.specs.Words.{First}
use Rattle.says.specs.Files as files
use Rattle.says.specs.Files.{fields, Held, Form, form-1, form-2, longest, bytes, Bank, of-1, of-2, Sound}
use Rattle.says.specs.Convert as says
use Rattle.says.specs.Convert.{Turned, Widened, NamesOther, ShapeOf, Becomes, Outcome, ConvertSays}
use Rattle.meets_convert.specs.Laws.Answers.{begins-so, Drops}
use Rattle.meets_convert.specs.Laws.Turns.{other}
use Rattle.meets_convert.specs.Theorems.Decides.{convert-decides}
use Rattle.meets_convert.specs.Theorems.Trips.{wrote}

-- unit 8, start 0, size 64, offset unread 7, label alignment unread 5, flags 1; nodes label, switch to bank 0, reserve of 8 bits; no values; limit 1
abbrev pub in_form1 : List ℕ
in_form1 =
    1 ∷ 0 ∷ 23 ∷ 0 ∷ 8 ∷ 0 ∷ 0 ∷ 0 ∷ 0 ∷ 0 ∷ 0 ∷ 0 ∷ 0 ∷ 0 ∷ 0 ∷ 0 ∷ 64 ∷ 0 ∷ 0 ∷ 0 ∷ 7 ∷ 0 ∷ 0 ∷ 0 ∷ 5 ∷ 1
    ∷ 2 ∷ 0 ∷ 5 ∷ 2 ∷ 0 ∷ 0 ∷ 0 ∷ 0 ∷ 2 ∷ 0 ∷ 5 ∷ 1 ∷ 0 ∷ 0 ∷ 0 ∷ 0 ∷ 2 ∷ 0 ∷ 5 ∷ 7 ∷ 0 ∷ 0 ∷ 0 ∷ 0
    ∷ 3 ∷ 0 ∷ 15 ∷ 0 ∷ 0 ∷ 0 ∷ 0 ∷ 0 ∷ 0 ∷ 0 ∷ 0 ∷ 0 ∷ 0 ∷ 0 ∷ 0 ∷ 0 ∷ 8 ∷ 0 ∷ 4 ∷ 0 ∷ 0 ∷ 5 ∷ 0 ∷ 1 ∷ 1 ∷ []

-- bank 0 keeps unit and start, bank 1 has the record, a switch to 1 stands ahead, the switch to 0 goes to 1, the row begins with five zeros
abbrev pub in_form2 : List ℕ
in_form2 =
    16 ∷ 0 ∷ 1 ∷ 2
    ∷ 17 ∷ 0 ∷ 24 ∷ 0 ∷ 8 ∷ 0 ∷ 0 ∷ 0 ∷ 0 ∷ 0 ∷ 0 ∷ 0 ∷ 0 ∷ 0 ∷ 0 ∷ 0 ∷ 0 ∷ 0 ∷ 0 ∷ 0 ∷ 0 ∷ 0 ∷ 0 ∷ 0 ∷ 0 ∷ 0 ∷ 0
    ∷ 17 ∷ 0 ∷ 24 ∷ 0 ∷ 8 ∷ 0 ∷ 0 ∷ 0 ∷ 0 ∷ 0 ∷ 0 ∷ 0 ∷ 0 ∷ 0 ∷ 0 ∷ 0 ∷ 64 ∷ 0 ∷ 0 ∷ 0 ∷ 7 ∷ 0 ∷ 0 ∷ 0 ∷ 5 ∷ 1 ∷ 0
    ∷ 2 ∷ 0 ∷ 5 ∷ 1 ∷ 0 ∷ 0 ∷ 0 ∷ 1 ∷ 2 ∷ 0 ∷ 5 ∷ 2 ∷ 0 ∷ 0 ∷ 0 ∷ 0 ∷ 2 ∷ 0 ∷ 5 ∷ 1 ∷ 0 ∷ 0 ∷ 0 ∷ 1 ∷ 2 ∷ 0 ∷ 5 ∷ 7 ∷ 0 ∷ 0 ∷ 0 ∷ 0
    ∷ 3 ∷ 0 ∷ 20 ∷ 0 ∷ 0 ∷ 0 ∷ 0 ∷ 0 ∷ 0 ∷ 0 ∷ 0 ∷ 0 ∷ 0 ∷ 0 ∷ 0 ∷ 0 ∷ 0 ∷ 0 ∷ 0 ∷ 0 ∷ 0 ∷ 8 ∷ 0 ∷ 4 ∷ 0 ∷ 0 ∷ 5 ∷ 0 ∷ 1 ∷ 1 ∷ []

-- ---- what they hold

abbrev held1 : Held
held1 =
    record {
      banks = (0 ∷ 8 ∷ 0 ∷ 0 ∷ 0 ∷ 0 ∷ 0 ∷ 0 ∷ 0 ∷ 0 ∷ 0 ∷ 0 ∷ 0 ∷ 64 ∷ 0 ∷ 0 ∷ 0 ∷ 7 ∷ 0 ∷ 0 ∷ 0 ∷ 5 ∷ 1 ∷ []) ∷ [];
      nodes = (2 ∷ 0 ∷ 0 ∷ 0 ∷ 0 ∷ []) ∷ (1 ∷ 0 ∷ 0 ∷ 0 ∷ 0 ∷ []) ∷ (7 ∷ 0 ∷ 0 ∷ 0 ∷ 0 ∷ []) ∷ [];
      rows = (0 ∷ 0 ∷ 0 ∷ 0 ∷ 0 ∷ 0 ∷ 0 ∷ 0 ∷ 0 ∷ 0 ∷ 0 ∷ 0 ∷ 0 ∷ 8 ∷ 0 ∷ []) ∷ [];
      values = [];
      limit = 1;
    }

abbrev held2 : Held
held2 =
    record {
      banks =
          (0 ∷ 8 ∷ 0 ∷ 0 ∷ 0 ∷ 0 ∷ 0 ∷ 0 ∷ 0 ∷ 0 ∷ 0 ∷ 0 ∷ 0 ∷ 0 ∷ 0 ∷ 0 ∷ 0 ∷ 0 ∷ 0 ∷ 0 ∷ 0 ∷ 0 ∷ 0 ∷ 0 ∷ [])
          ∷ (0 ∷ 8 ∷ 0 ∷ 0 ∷ 0 ∷ 0 ∷ 0 ∷ 0 ∷ 0 ∷ 0 ∷ 0 ∷ 0 ∷ 0 ∷ 64 ∷ 0 ∷ 0 ∷ 0 ∷ 7 ∷ 0 ∷ 0 ∷ 0 ∷ 5 ∷ 1 ∷ 0 ∷ []) ∷ [];
      nodes = (1 ∷ 0 ∷ 0 ∷ 0 ∷ 1 ∷ []) ∷ (2 ∷ 0 ∷ 0 ∷ 0 ∷ 0 ∷ []) ∷ (1 ∷ 0 ∷ 0 ∷ 0 ∷ 1 ∷ []) ∷ (7 ∷ 0 ∷ 0 ∷ 0 ∷ 0 ∷ []) ∷ [];
      rows = (0 ∷ 0 ∷ 0 ∷ 0 ∷ 0 ∷ 0 ∷ 0 ∷ 0 ∷ 0 ∷ 0 ∷ 0 ∷ 0 ∷ 0 ∷ 0 ∷ 0 ∷ 0 ∷ 0 ∷ 0 ∷ 8 ∷ 0 ∷ []) ∷ [];
      values = [];
      limit = 1;
    }

is-1 : in_form1 ≡ bytes form-1 held1
unfolding fields
is-1 = refl

is-2 : in_form2 ≡ bytes form-2 held2
unfolding fields
is-2 = refl

none_other : (i : ℕ) → NamesOther held1 i → ⊥
none_other zero x = omega (arith, x.2)
none_other (suc zero) x = x.3 refl
none_other (suc (suc zero)) x = omega (arith, x.2)
none_other (suc (suc (suc i))) x = omega (arith, x.1)

fits-1 : files.Fits form-1 held1
fits-1 = record { banks = bank; nodes = node; rows = row }
  where
    bank : (b : ℕ) → b < 1 → Bank (get_or held1.banks b []) form-1
    bank zero h = of-1 refl (omega arith)
    bank (suc b) h = absurd (omega arith)

    node : (i : ℕ) → i < 3 → length (get_or held1.nodes i []) ≡ 5
    node zero h = refl
    node (suc zero) h = refl
    node (suc (suc zero)) h = refl
    node (suc (suc (suc i))) h = absurd (omega arith)

    row : (r : ℕ) → r < 1 → length (get_or held1.rows r []) ≡ 15
    row zero h = refl
    row (suc r) h = absurd (omega arith)

fits-2 : files.Fits form-2 held2
fits-2 = record { banks = bank; nodes = node; rows = row }
  where
    bank : (b : ℕ) → b < 2 → Bank (get_or held2.banks b []) form-2
    bank zero h = of-2 refl (omega arith) (omega arith)
    bank (suc zero) h = of-2 refl (omega arith) (omega arith)
    bank (suc (suc b)) h = absurd (omega arith)

    node : (i : ℕ) → i < 4 → length (get_or held2.nodes i []) ≡ 5
    node zero h = refl
    node (suc zero) h = refl
    node (suc (suc zero)) h = refl
    node (suc (suc (suc zero))) h = refl
    node (suc (suc (suc (suc i)))) h = absurd (omega arith)

    row : (r : ℕ) → r < 1 → length (get_or held2.rows r []) ≡ 20
    row zero h = refl
    row (suc r) h = absurd (omega arith)

widens : Widened held1 held2
widens =
    record { one = refl; banks = refl; count = refl; ahead = refl; nodes = node; rows = (refl, row); values = refl; limit = refl }
  where
    node : (i : ℕ) → i < 3 → Turned (get_or held1.nodes i []) (get_or held2.nodes (suc i) [])
    node zero h = says.same (λ e. omega (arith, e))
    node (suc zero) h = says.turned refl
    node (suc (suc zero)) h = says.same (λ e. omega (arith, e))
    node (suc (suc (suc i))) h = absurd (omega arith)

    row : (r : ℕ) → r < 1 → get_or held2.rows r [] ≡ 0 ∷ 0 ∷ 0 ∷ 0 ∷ 0 ∷ get_or held1.rows r []
    row zero h = refl
    row (suc r) h = absurd (omega arith)

sound-1 : Sound form-1 in_form1 held1
sound-1 = record { is = is-1; short = omega arith; fits = fits-1 }

sound-2 : Sound form-2 in_form2 held2
sound-2 = record { is = is-2; short = omega arith; fits = fits-2 }

-- ---- a call that is not refused

module _ (f : Form) (file old : List ℕ) (h d : Held) (result : List ℕ) (is : result ≡ bytes (other f) d) (sound : Sound f file h)
    (becomes : Becomes h f (other f) d) (few : length h.nodes ≤ 4096) (few' : length d.nodes ≤ 4096) (rows : length h.rows ≤ 16)
    (none : (i : ℕ) → NamesOther h i → ⊥) (short : length result ≤ longest (other f)) (clear : Drops h f → ⊥) (room : length result ≤ length old) where
  abbrev goes_to : Outcome
  goes_to = record { answer = wrote (length result); out = result ++ drop (length result) old }

  goes : ConvertSays f file old goes_to
  goes =
      let long = ap length is in
      says.sound sound becomes
      (words.passed (λ _ x. ⊎_elim (λ (p : 4096 < length h.nodes). omega arith) (λ (p : 4096 < length d.nodes). omega arith) x)
      (words.passed (λ _ x. omega (arith, x))
      (words.passed (λ i x. none i x.so)
      (words.passed (λ _ x. omega (arith, x, long))
      (words.passed (λ _ x. clear x)
      (words.passed (λ _ x. omega (arith, x, long))
      (subst (λ (l : List ℕ). says.Writes f file old l goes_to) is (says.writes (begins-so result old room)))))))))

-- What the calls make of each other's file, whatever the buffer held, if it has room for 120 and for 75 bytes.
pub example-to-form2 : (old : List ℕ) → 120 ≤ length old → (v : Outcome) → ConvertSays form-1 in_form1 old v
    → v ≡ record { answer = wrote 120; out = in_form2 ++ drop 120 old }
example-to-form2 old room v so =
    convert-decides form-1 in_form1 old v _ so
    (goes form-1 in_form1 old held1 held2 in_form2 is-2 sound-1 (says.one-bank widens) (omega arith) (omega arith) (omega arith) none_other (omega arith)
    (never form-1 refl) room)
  where
    never : (f : Form) → f ≡ form-1 → Drops held1 f → ⊥
    never f e (g, x) = unlike cc

pub example-to-form1 : (old : List ℕ) → 75 ≤ length old → (v : Outcome) → ConvertSays form-2 in_form2 old v
    → v ≡ record { answer = wrote 75; out = in_form1 ++ drop 75 old }
example-to-form1 old room v so =
    convert-decides form-2 in_form2 old v _ so
    (goes form-2 in_form2 old held2 held1 in_form1 is-1 sound-2 (says.shape (fits-1, none_other, widens)) (omega arith) (omega arith) (omega arith)
    (λ i x. omega (arith, x.0)) (omega arith) clear room)
  where
    bit : (b : ℕ) → b < 2 → get_or (get_or held2.banks b []) 23 0 ≡ 1 → ⊥
    bit zero h e = omega (arith, e)
    bit (suc zero) h e = omega (arith, e)
    bit (suc (suc b)) h e = omega arith

    clear : Drops held2 form-2 → ⊥
    clear (f, (b, h, e)) = bit b h e

-- ---- 18: "a way back that would drop a fill bit of one". One bank of unit 8 with a fill bit of one, no node, one row, no values, limit 0.
abbrev pub bit_of_one : List ℕ
bit_of_one =
    16 ∷ 0 ∷ 1 ∷ 2 ∷ 17 ∷ 0 ∷ 24 ∷ 0 ∷ 8 ∷ 0 ∷ 0 ∷ 0 ∷ 0 ∷ 0 ∷ 0 ∷ 0 ∷ 0 ∷ 0 ∷ 0 ∷ 0 ∷ 0 ∷ 0 ∷ 0 ∷ 0 ∷ 0 ∷ 0 ∷ 0 ∷ 0 ∷ 0 ∷ 0 ∷ 1
    ∷ 3 ∷ 0 ∷ 0 ∷ 4 ∷ 0 ∷ 0 ∷ 5 ∷ 0 ∷ 1 ∷ 0 ∷ []

abbrev bank_of_one : List ℕ
bank_of_one = 0 ∷ 8 ∷ 0 ∷ 0 ∷ 0 ∷ 0 ∷ 0 ∷ 0 ∷ 0 ∷ 0 ∷ 0 ∷ 0 ∷ 0 ∷ 0 ∷ 0 ∷ 0 ∷ 0 ∷ 0 ∷ 0 ∷ 0 ∷ 0 ∷ 0 ∷ 0 ∷ 1 ∷ []

abbrev held3 : Held
held3 = record { banks = bank_of_one ∷ []; nodes = []; rows = [] ∷ []; values = []; limit = 0 }

abbrev held4 : Held
held4 = record { banks = take 23 bank_of_one ∷ []; nodes = []; rows = [] ∷ []; values = []; limit = 0 }

is-3 : bit_of_one ≡ bytes form-2 held3
unfolding fields
is-3 = refl

short-4 : length (bytes (other form-2) held4) ≡ 36
unfolding fields
short-4 = refl

sound-3 : Sound form-2 bit_of_one held3
sound-3 = record { is = is-3; short = omega arith; fits = record { banks = bank; nodes = λ i h. absurd (omega arith); rows = row } }
  where
    bank : (b : ℕ) → b < 1 → Bank (get_or held3.banks b []) form-2
    bank zero h = of-2 refl (omega arith) (omega arith)
    bank (suc b) h = absurd (omega arith)

    row : (r : ℕ) → r < 1 → length (get_or held3.rows r []) ≡ 0
    row zero h = refl
    row (suc r) h = absurd (omega arith)

shortened : Becomes held3 form-2 form-1 held4
shortened =
    says.shorter (λ e s. let two = ap length s.2.banks in omega (arith, two)) refl

pub a-fill-bit-lost : (old : List ℕ) → ConvertSays form-2 bit_of_one old (says.refusal form-2 bit_of_one old 18 0)
a-fill-bit-lost old =
    says.sound sound-3 shortened
    (words.passed (λ _ x. ⊎_elim (λ (p : 4096 < 0). omega arith) (λ (p : 4096 < 0). omega arith) x)
    (words.passed (λ _ x. omega (arith, x))
    (words.passed (λ i x. omega (arith, x.so.1))
    (words.passed (λ _ x. omega (arith, x, short-4))
    (words.refused tt (refl, (0, omega arith, refl)))))))
