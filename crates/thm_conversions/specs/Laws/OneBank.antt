-- Laws that Theorems/OneBank rests on.
use Rattle.std.specs.Prelude.{Bool, true, false, not, ◌&&◌, ◌≡◌, ℕ, zero, suc, ◌+◌, ◌*◌, ◌≤◌, eqb, get_or, take, drop, None, Option, Some}
use mathlib.Core.List.{List, [], ◌∷◌, ◌++◌, map, append-nil}
use Rattle.std.proofs.Math.Path.{refl, sym, ap₂}
use Rattle.std.proofs.Common.{ap, subst, ◌∙◌, arith, eqb-true, eq-eqb, take-append-drop, length-take-le, take_at, drop_at, get_or-append-add, to_z}
use Rattle.std.proofs.Math.ListN.{length}
use Rattle.std.proofs.lemmas.List.{length-map}
use Rattle.std.specs.Int.{w64}
use Rattle.prelude.specs.Laws.Bools.{both, clash}
use Rattle.prelude.specs.Limits.{max_nodes}
use Rattle.prelude.specs.Pick.{pick}
use Rattle.bankdef.specs.Search.{first_where}
use Rattle.bankdef.specs.declared.Bankdef.{Bankdef}
use Rattle.bankdef.specs.declared.Bankdefs.{Bankdefs}
use Rattle.nodes.specs.Lists.{Lists, lists}
use Rattle.output.specs.Output.{Input, input, Lent, room_of, visits_of, build_of, left_by, Builds}
use Rattle.output.specs.Output.{told_build}
use Rattle.output.specs.declared.Output.{Output}
use Rattle.form_fields.specs.Words.{byte, word16, word32, word64}
use Rattle.form_fields.specs.Banks.{is_set, opt_of, bank_of}
use Rattle.form_fields.specs.Columns.{column}
use Rattle.form_fields.specs.Laws.Columns.{column-length}
use Rattle.form_fields.specs.Kind.{form1, form2, is1, is2}
use Rattle.form_fields.specs.Contents.{flat, Contents, written, Each, Long, BankFits, Fits}
use Rattle.form_fields.specs.Has.{Has}
use Rattle.form_fields.proofs.Parts.{Any, each-any}
use Rattle.form_fields.proofs.Written.{flat-length}
use Rattle.form_build.specs.Filed.{FileBuilt}
use Rattle.form_build.specs.Paged.{BuiltIn}
use Rattle.form_rewrite.specs.Turning.{switch_to, is_switch, names_bank, strays, turned, zeros, widened}
use Rattle.form_rewrite.specs.Theorems.Fitting.{widened-fits}
use Rattle.thm_conversions.specs.Builds.{profile_output}
use Rattle.thm_conversions.specs.PagedPlaces.{raised_in}
use Rattle.thm_conversions.specs.Theorems.PagedPlaces.{same-paged-build}
use Rattle.thm_conversions.specs.Laws.Figures.{build-told}
use Rattle.thm_conversions.specs.Widened.{bare, turned as turned_in, zeros_ahead, with_switch, widened as widened_in, OneBank, raised_output}
use Rattle.thm_conversions.specs.DefaultBankSame.{TwoBanks}
use Rattle.thm_conversions.specs.Theorems.DefaultBankSame.{same_answer, same-build}
use Rattle.thm_conversions.specs.Says.{kind_on, operand_on, numbers_on, states_on, table_for, lists_for, input_for}
use Rattle.thm_conversions.specs.Laws.Says.{word16-in, word64-in}
use Rattle.thm_conversions.specs.Laws.Says.{ReadsIn, byte_reads, word32-reads, column-in}
use Rattle.thm_conversions.specs.Theorems.Says.{from-written, to-written}
use Rattle.thm_conversions.specs.Laws.OtherBanks.{map-over, bank-lengthened}
use Rattle.thm_conversions.specs.OneBank.{holding}

-- ---- nodes

kind-turned : (node : List ℕ) → kind_on (turned 1 node) ≡ kind_on node
kind-turned node = go (is_switch node) refl
  where
    go : (t : Bool) → is_switch node ≡ t → kind_on (pick t (switch_to 1) node) ≡ kind_on node
    go true e = sym (eqb-true (get_or node 0 0) 1 e)
    go false e = refl

switch-operand : operand_on (switch_to 1) ≡ 1
unfolding word32 word16
switch-operand = refl

operand-turned : (node : List ℕ) → operand_on (turned 1 node) ≡ pick (eqb (kind_on node) 1) 1 (operand_on node)
operand-turned node = go (is_switch node)
  where
    go : (t : Bool) → operand_on (pick t (switch_to 1) node) ≡ pick t 1 (operand_on node)
    go true = switch-operand
    go false = refl

operands_turned : (nodes : List (List ℕ)) → map operand_on (map (turned 1) nodes) ≡ turned_in (map kind_on nodes) (map operand_on nodes)
operands_turned [] = refl
operands_turned (node ∷ nodes) = ap₂ ◌∷◌ (operand-turned node) (operands_turned nodes)

kinds-turned : (nodes : List (List ℕ)) → map kind_on (map (turned 1) nodes) ≡ map kind_on nodes
kinds-turned nodes = map-over Any kind_on kind_on (turned 1) (λ node e. kind-turned node) nodes (each-any nodes)

-- no switch to another bank
words-zero : (w x y z : ℕ) → w ≡ 0 → x ≡ 0 → y ≡ 0 → z ≡ 0 → (w * 256 + x) * 65536 + (y * 256 + z) ≡ 0
words-zero w x y z a b c d = omega (arith, a, b, c, d)

names-zero : (node : List ℕ) → names_bank 0 node ≡ true → operand_on node ≡ 0
unfolding word32 word16
names-zero node e =
    let a = both (eqb (get_or node 1 0) 0) _ e in
    let b = both (eqb (get_or node 2 0) 0) _ a.1 in
    let c = both (eqb (get_or node 3 0) 0) (eqb (get_or node 4 0) 0) b.1 in
    words-zero (byte node 1) (byte node 2) (byte node 3) (byte node 4) (eqb-true (get_or node 1 0) 0 a.0) (eqb-true (get_or node 2 0) 0 b.0)
    (eqb-true (get_or node 3 0) 0 c.0) (eqb-true (get_or node 4 0) 0 c.1)

names : (s t : Bool) → (s && not t) ≡ false → s ≡ true → t ≡ true
names true true e f = refl
names true false e f = absurd (clash refl e)
names false t e f = absurd (clash f refl)

passed-by : (t : Bool) (a b : ℕ) → suc a ≤ pick t 0 (suc b) → (t ≡ false) × (a ≤ b)
passed-by true a b h = absurd (omega (arith, h))
passed-by false a b h = (refl, omega (arith, h))

all-to-zero : (nodes : List (List ℕ)) → length nodes ≤ first_where (strays 0) nodes → (i : ℕ) → get_or (map kind_on nodes) i 0 ≡ 1
    → get_or (map operand_on nodes) i 0 ≡ 0
unfolding first_where
all-to-zero [] h i k = refl
all-to-zero (node ∷ nodes) h zero k =
    let here = (passed-by (strays 0 node) (length nodes) (first_where (strays 0) nodes) h).0 in
    names-zero node (names (is_switch node) (names_bank 0 node) here (eq-eqb (get_or node 0 0) 1 k))
all-to-zero (node ∷ nodes) h (suc i) k =
    all-to-zero nodes (passed-by (strays 0 node) (length nodes) (first_where (strays 0) nodes) h).1 i k

-- ---- rows

module _ (read : List ℕ → ℕ → ℕ) (w off : ℕ) (reads : ReadsIn read w) (small : off + w ≤ 5) (blank : (row : List ℕ) → read (zeros 5 ++ row) off ≡ 0) where
  -- "zeros in each row"
  rows-ahead : (n : ℕ) (rows : List (List ℕ)) → Each (Long (5 * n)) rows
      → flat (λ (row : List ℕ). column (read row) 5 off (suc n)) (map (λ (row : List ℕ). zeros 5 ++ row) rows)
      ≡ zeros_ahead n (length rows) (flat (λ (row : List ℕ). column (read row) 5 off n) rows)
  unfolding flat column
  rows-ahead n [] e = refl
  rows-ahead n (row ∷ rows) e =
      let h : Has (zeros 5 ++ row) 5 row = record { rest = []; is = sym (append-nil row) } in
      let x = column (read row) 5 off n in
      let y = flat (λ (l : List ℕ). column (read l) 5 off n) rows in
      let long : length x ≡ n = column-length (read row) 5 off n in
      ap₂ ◌∷◌ (blank row)
      (ap₂ ◌++◌ (column-in read w reads (zeros 5 ++ row) row 5 h n off (off + 5) (omega arith) (omega (arith, small, e.0))) (rows-ahead n rows e.1))
      ∙ sym (ap₂ (λ (p q : List ℕ). 0 ∷ (p ++ zeros_ahead n (length rows) q)) (take_at x y n long) (drop_at x y n long))

number-blank : (row : List ℕ) → word32 (zeros 5 ++ row) 0 ≡ 0
unfolding word32 word16
number-blank row = refl

numbers-ahead : (n : ℕ) (rows : List (List ℕ)) → Each (Long (5 * n)) rows
    → flat (numbers_on (suc n)) (map (λ (row : List ℕ). zeros 5 ++ row) rows) ≡ zeros_ahead n (length rows) (flat (numbers_on n) rows)
numbers-ahead n rows e = rows-ahead word32 4 0 word32-reads (omega arith) number-blank n rows e

states-ahead : (n : ℕ) (rows : List (List ℕ)) → Each (Long (5 * n)) rows
    → flat (states_on (suc n)) (map (λ (row : List ℕ). zeros 5 ++ row) rows) ≡ zeros_ahead n (length rows) (flat (states_on n) rows)
states-ahead n rows e = rows-ahead (λ (l : List ℕ) (i : ℕ). byte l i) 1 4 byte_reads (omega arith) (λ row. refl) n rows e

-- ---- banks

-- "leaves bank 0 only its unit and start (the rest zero)"
bank-bare : (b : List ℕ) → BankFits form1 b → bank_of form2 (take 10 b ++ zeros 14) ≡ bare (bank_of form1 b)
unfolding bank_of
bank-bare b fits =
    let ten : length (take 10 b) ≡ 10 = length-take-le 10 b (omega (arith, fits.0)) in
    let x = take 10 b ++ zeros 14 in
    let h : Has x 0 (take 10 b) = record { rest = zeros 14; is = refl } in
    let g : Has b 0 (take 10 b) = record { rest = drop 10 b; is = sym (take-append-drop 10 b) } in
    let unit : word16 x 0 ≡ word16 b 0 =
    word16-in x (take 10 b) 0 h 0 0 (omega arith) (omega (arith, ten)) ∙ sym (word16-in b (take 10 b) 0 g 0 0 (omega arith) (omega (arith, ten))) in
    let start : word64 x 2 ≡ word64 b 2 =
    word64-in x (take 10 b) 0 h 2 2 (omega arith) (omega (arith, ten)) ∙ sym (word64-in b (take 10 b) 0 g 2 2 (omega arith) (omega (arith, ten))) in
    let at : (i : ℕ) → get_or x (10 + i) 0 ≡ get_or (zeros 14) i 0 =
    λ i. ap (λ (n : ℕ). get_or x (n + i) 0) (sym ten) ∙ get_or-append-add (take 10 b) (zeros 14) i 0 in
    let flags : byte x 22 ≡ 0 = at 12 in
    let bit : byte x 23 ≡ 0 = at 13 in
    λ i.
    record {
      unit = unit i;
      start = to_z w64 (start i);
      size = opt_of (flags i) 1 (word32 x 10);
      offset = opt_of (flags i) 2 (word32 x 14);
      align = opt_of (flags i) 4 (word32 x 18);
      fill = is_set (flags i) 8;
      fill_bit = bit i;
    }

no-bit : (b : List ℕ) → (bank_of form1 b).fill_bit ≡ 0
unfolding bank_of
no-bit b = refl

-- ---- a build without a page size is the ordinary one

as-build : {b : Input} {old new : Lent} {r : Output} → BuiltIn None b old r new → Builds b old r new
as-build {b} {old} {new} {r} p =
    record { answer = p.answer; figures = ap (λ (o : Output). told_build o.build) p.answer ∙ build-told b (room_of old); left = p.left }

module _ (b : List ℕ) (nodes rows : List (List ℕ)) (values : List ℕ) (limit : ℕ) (fits : Fits form1 (holding b nodes rows values limit)) where
  abbrev pub c : Contents
  c = holding b nodes rows values limit

  -- the lists with a switch ahead
  same_lists : lists_for (widened c) ≡ with_switch (lists_for c)
  same_lists =
      let kinds : map kind_on (widened c).nodes ≡ 1 ∷ map kind_on nodes = ap (λ (l : List ℕ). 1 ∷ l) (kinds-turned nodes) in
      let operands : map operand_on (widened c).nodes ≡ 1 ∷ turned_in (map kind_on nodes) (map operand_on nodes) =
      ap₂ ◌∷◌ switch-operand (operands_turned nodes) in
      let many = length-map nodes (turned 1) in
      let back = sym (length-map nodes kind_on) in
      let numbers = ap (λ (m : ℕ). flat (numbers_on (suc m)) (widened c).rows) many ∙ numbers-ahead (length nodes) rows fits.of-rows
      ∙ ap (λ (m : ℕ). zeros_ahead m (length rows) (flat (numbers_on (length nodes)) rows)) back in
      let states = ap (λ (m : ℕ). flat (states_on (suc m)) (widened c).rows) many ∙ states-ahead (length nodes) rows fits.of-rows
      ∙ ap (λ (m : ℕ). zeros_ahead m (length rows) (flat (states_on (length nodes)) rows)) back in
      let count = length-map rows (λ (row : List ℕ). zeros 5 ++ row) in
      λ i. lists (kinds i) (operands i) (numbers i) (states i) (count i) values

  abbrev pub table : Bankdefs
  table = table_for 2 (bank_of form2 (take 10 b ++ zeros 14) ∷ bank_of form2 (b ++ zeros 1) ∷ [])

  pub same-input : (fill : ℕ) → input_for form2 (widened c) fill ≡ widened_in (input_for form1 c fill) table
  same-input fill = ap (λ (l : Lists). input table l (record { limit = limit; fill = fill; closed = true })) same_lists

  pub two : (fill : ℕ) → TwoBanks (bank_of form1 b) table
  two fill =
      record {
        count = refl;
        banks = ap₂ (λ (x y : Bankdef). x ∷ y ∷ []) (bank-bare b fits.of-banks.0) (bank-lengthened b fits.of-banks.0);
      }

  module _ (few : suc (length nodes) ≤ max_nodes) (none : length nodes ≤ first_where (strays 0) nodes) (fill : ℕ) where
    pub one : OneBank (input_for form1 c fill)
    one =
        let many = length-map nodes kind_on in
        record {
          count = refl;
          table = refl;
          bit = no-bit b;
          unclosed = refl;
          switches = all-to-zero nodes none;
          room = omega (arith, many, few);
          operands = length-map nodes operand_on ∙ sym many;
          numbers = flat-length [] (numbers_on (length nodes)) Any (length nodes) (λ row e. column-length (word32 row) 5 0 (length nodes)) rows (each-any rows)
              ∙ ap (λ (n : ℕ). length rows * n) (sym many);
          states = flat-length [] (states_on (length nodes)) Any (length nodes) (λ row e. column-length (byte row) 5 4 (length nodes)) rows (each-any rows)
              ∙ ap (λ (n : ℕ). length rows * n) (sym many);
        }

    module _ (short : length (written form1 c) ≤ form1.longest) (short2 : length (written form2 (widened c)) ≤ form2.longest) where
      pub build-raised : {old new : Lent} {r : Output} → FileBuilt (written form1 c) fill None old r new
          → FileBuilt (written form2 (widened c)) fill None old (raised_output (input_for form1 c fill) r) new
      build-raised {old} {new} {r} p =
          let here = input_for form1 c fill in
          let there = widened_in here table in
          let q = from-written is1 c fits short p in
          let s = raised_output here r in
          let left = left_by there.banks (visits_of there s.passes) there.lists.values old s.build in
          let answer : s ≡ build_of there (room_of old) =
          ap (raised_output here) q.answer ∙ sym (same_answer here table one (two fill) (room_of old)) in
          let mine : BuiltIn None there old s left = record { answer = answer; left = refl } in
          let same : left ≡ new = (same-build here table one (two fill) old (as-build q) (as-build mine)).1 in
          to-written is2 (widened c) (widened-fits c fits refl) short2
          (subst (λ (x : Input). BuiltIn None x old s new) (sym (same-input fill)) (subst (λ (l : Lent). BuiltIn None there old s l) same mine))

      -- with a page size or without
      pub build-raised-in : (page : Option ℕ) {old new : Lent} {r : Output} → FileBuilt (written form1 c) fill page old r new
          → FileBuilt (written form2 (widened c)) fill page old (raised_in page (input_for form1 c fill) r) new
      build-raised-in None p = build-raised p
      build-raised-in (Some page) {old} {new} {r} p =
          let here = input_for form1 c fill in
          let mine = same-paged-build here table one (two fill) page (from-written is1 c fits short p) in
          to-written is2 (widened c) (widened-fits c fits refl) short2
          (subst (λ (x : Input). BuiltIn (Some page) x old (profile_output here r) new) (sym (same-input fill)) mine)

-- ---- any contents with one bank

only : (l : List (List ℕ)) → length l ≡ 1 → l ≡ get_or l 0 [] ∷ []
only [] e = absurd (omega (arith, e))
only (x ∷ []) e = refl
only (x ∷ y ∷ l) e = absurd (omega (arith, e))

pub is-single : (c : Contents) → length c.banks ≡ 1 → holding (get_or c.banks 0 []) c.nodes c.rows c.values c.limit ≡ c
is-single c e =
    let banks = sym (only c.banks e) in
    λ i. record { banks = banks i; nodes = c.nodes; rows = c.rows; values = c.values; limit = c.limit }

-- What is asked: one bank, no switch to another bank, and room for one node more.
pub record Single (c : Contents) : Type 0 where
  pub fits : Fits form1 c
  pub one : length c.banks ≡ 1
  pub few : suc (length c.nodes) ≤ max_nodes
  pub none : length c.nodes ≤ first_where (strays 0) c.nodes
  pub short : length (written form1 c) ≤ form1.longest
  pub short2 : length (written form2 (widened c)) ≤ form2.longest
