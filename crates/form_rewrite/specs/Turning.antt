-- What the fields of a layout file become in the other form, over a file's contents. Document 02, Ticket 7: "A converter goes from form 1 to
-- form 2, with fill bits zero, and back." Ticket 13 says what becomes of a file with one bank, and of which file one comes back.
use Rattle.std.specs.Prelude.{Bool, true, false, not, ◌&&◌, List, [], ◌∷◌, ◌++◌, map, ℕ, eqb, length, get_or, take, drop, replicate}
use Rattle.prelude.specs.Pick.{pick}
use Rattle.bankdef.specs.Search.{first_where}
use Rattle.form_fields.specs.Contents.{Contents}

-- ---- nodes

-- a switch: kind 1, and the bank as its operand
abbrev pub switch_to : ℕ → List ℕ
switch_to bank = 1 ∷ 0 ∷ 0 ∷ 0 ∷ bank ∷ []

abbrev pub is_switch : List ℕ → Bool
is_switch node = eqb (get_or node 0 0) 1

abbrev pub names_bank : ℕ → List ℕ → Bool
names_bank bank node = eqb (get_or node 1 0) 0 && (eqb (get_or node 2 0) 0 && (eqb (get_or node 3 0) 0 && eqb (get_or node 4 0) bank))

-- a switch to another bank
abbrev pub strays : ℕ → List ℕ → Bool
strays bank node = is_switch node && not (names_bank bank node)

-- every switch becomes one to `bank`, every other node stays
abbrev pub turned : ℕ → List ℕ → List ℕ
turned bank node = pick (is_switch node) (switch_to bank) node

-- ---- to form 2

abbrev pub zeros : ℕ → List ℕ
zeros n = replicate n 0

-- "with fill bits zero": the fill bit is the last byte of a bank
abbrev pub lengthened : Contents → Contents
lengthened c =
    record {
      banks = map (λ (b : List ℕ). b ++ zeros 1) c.banks;
      nodes = c.nodes;
      rows = c.rows;
      values = c.values;
      limit = c.limit;
    }

-- "The converter to form 2 gives every one-bank file a bank 1 with bank 0's record, leaves bank 0 only its unit and start (the rest zero), puts a
-- switch to bank 1 ahead of the first node, zeros in each row, and turns every other switch to bank 0 into one to bank 1." Unit and start are the
-- first ten bytes of a bank.
abbrev pub widened : Contents → Contents
widened c =
    let b = get_or c.banks 0 [] in
    record {
      banks = (take 10 b ++ zeros 14) ∷ (b ++ zeros 1) ∷ [];
      nodes = switch_to 1 ∷ map (turned 1) c.nodes;
      rows = map (λ (row : List ℕ). zeros 5 ++ row) c.rows;
      values = c.values;
      limit = c.limit;
    }

abbrev pub alone : Contents → Bool
alone c = eqb (length c.banks) 1

abbrev pub to_form2 : Contents → Contents
to_form2 c = pick (alone c) (widened c) (lengthened c)

-- ---- back to form 1

-- a fill bit is dropped
abbrev pub shortened : Contents → Contents
shortened c =
    record {
      banks = map (take 23) c.banks;
      nodes = c.nodes;
      rows = c.rows;
      values = c.values;
      limit = c.limit;
    }

-- every thing of a list passes a test
unfoldable pub all_of : {A : Type 0} → (A → Bool) → List A → Bool
all_of test [] = true
all_of test (x ∷ l) = test x && all_of test l

abbrev pub all_zero : List ℕ → Bool
all_zero l = all_of (λ (b : ℕ). eqb b 0) l

-- two lists of bytes, one and the same
unfoldable pub same : List ℕ → List ℕ → Bool
same [] [] = true
same [] (y ∷ m) = false
same (x ∷ l) [] = false
same (x ∷ l) (y ∷ m) = eqb x y && same l m

-- "leaves bank 0 only its unit and start (the rest zero)", and bank 1's fill bit is zero
abbrev pub bare : List ℕ → List ℕ → Bool
bare zero one = same (take 10 zero) (take 10 one) && (all_zero (drop 10 zero) && eqb (get_or one 23 0) 0)

abbrev pub starts_zero : List ℕ → Bool
starts_zero row = all_zero (take 5 row)

-- "exactly that shape": two banks as above, the first node a switch, each switch to bank 1, and zeros for the first node in each row
abbrev pub shaped : Contents → Bool
shaped c =
    eqb (length c.banks) 2
    && (bare (get_or c.banks 0 []) (get_or c.banks 1 [])
    && (is_switch (get_or c.nodes 0 [])
    && (eqb (first_where (strays 1) c.nodes) (length c.nodes) && all_of starts_zero c.rows)))

-- "The way back takes exactly that shape to the one-bank file."
abbrev pub narrowed : Contents → Contents
narrowed c =
    record {
      banks = take 23 (get_or c.banks 1 []) ∷ [];
      nodes = map (turned 0) (drop 1 c.nodes);
      rows = map (drop 5) c.rows;
      values = c.values;
      limit = c.limit;
    }

abbrev pub to_form1 : Contents → Contents
to_form1 c = pick (shaped c) (narrowed c) (shortened c)

-- "a way back that would drop a fill bit of one": the last byte of a bank
abbrev pub bit_clear : List ℕ → Bool
bit_clear b = eqb (get_or b 23 0) 0

abbrev pub drops_bit : Contents → Bool
drops_bit c = not (all_of bit_clear c.banks)
