-- What `dk_map` says (include/denkumari.h; docs/DECISIONS.md, "The map"): by node i, bank b, row r and pass n, as `dk_build` says it (Build), whose
-- sentences are told again as far as a layout goes. What is given is what `dk_build` is given.
use Rattle.std.specs.Prelude.{◌≡◌, Bool, true, false, List, ℕ, suc, ◌≤◌, ◌<◌, length, get_or, replicate}
use Rattle.iter.specs.declared.Lost.{Lost}
use Rattle.c_answers.specs.declared.DkMap.{DkMap}
use Rattle.says.specs.Words.{First, Not}
use Rattle.says.specs.Build.{Given, losing, Standing, nodes, kind, Number, BankAt, Sees, Reads, Unresolved}
use Rattle.says.specs.Build.{Stops, Stopped, RunsThrough, UnresolvedBefore, LastPass}
use Rattle.says.specs.Build.{OffsetWord, Refuses, FirstWhy}
use Rattle.says.specs.Profile.{Checks}

-- ---- what is lent, before the call and after it: a place for each node
pub record Lent : Type 0 where
  pub banks : List ℕ
  pub positions : List ℕ
  pub outputs : List ℕ
  pub sizes : List ℕ

pub record Outcome : Type 0 where
  pub answer : DkMap
  pub lent : Lent

-- where there is no node at fault
abbrev pub no_node : ℕ
no_node = 18446744073709551615

module _ (g : Given) where
  -- ---- what is shown of a node: its bank, the position that it sees, "offset plus position" or none, and the bits of an item or a reserve (4 to 7)
  pub data Bits (r i : ℕ) : ℕ → Type 0 where
    takes : {v : ℕ} → 4 ≤ kind g i → kind g i ≤ 7 → Number g r i v → Bits r i v
    none : Not ((4 ≤ kind g i) × (kind g i ≤ 7)) → Bits r i 0

  pub data Entry (r i : ℕ) : (bank position output size : ℕ) → Type 0 where
    entry : {b p w e : ℕ} {known : Bool} → Sees g r i b p known → OffsetWord g b p w → Bits r i e → Entry r i b p w e

  -- how many nodes are shown where node i stops a pass. 5, "a position would pass 4,294,967,295": those before it; 7, "a label in the last pass is off an
  -- address boundary": it too
  pub data UpTo (i : ℕ) : (number count : ℕ) → Type 0 where
    before : UpTo i 5 i
    with_it : UpTo i 7 (suc i)

  -- "the sum of bits lost to `align` and to label alignment" by the first c nodes, and of the whole units of each skip, of banks 0 to 15
  abbrev pub Sums : ℕ → ℕ → List Lost → Type 0
  Sums r c sums = (length sums ≡ 16) × ((b : ℕ) → b < 16 → (at : Standing) × BankAt g r c b at × (get_or sums b (losing 0 0) ≡ at.lost))

  -- ---- with what is lent
  module _ (old : Lent) where
    -- 1 to 4: "Each refusal returns its number and a place and changes nothing lent"; no pass is run and no node is shown
    abbrev pub refusal : (number place second : ℕ) → Outcome
    refusal number place second = record {
      answer =
          record {
            refusal = number;
            stopped = 0;
            place = place;
            second = second;
            node = no_node;
            passes = 0;
            nodes = 0;
            padding = replicate 16 (losing 0 0);
          };
      lent = old;
    }

    -- what is lent afterwards: the entries of the first c nodes of row r, and past them what stood there
    pub record Left (r c : ℕ) (new : Lent) : Type 0 where
      pub as_long : (length new.banks ≡ length old.banks) × (length new.positions ≡ length old.positions) ×
          (length new.outputs ≡ length old.outputs) × (length new.sizes ≡ length old.sizes)
      pub shown : (i : ℕ) → i < c → Entry r i (get_or new.banks i 0) (get_or new.positions i 0) (get_or new.outputs i 0) (get_or new.sizes i 0)
      pub rest : (i : ℕ) → c ≤ i → (get_or new.banks i 0 ≡ get_or old.banks i 0) × (get_or new.positions i 0 ≡ get_or old.positions i 0) ×
          (get_or new.outputs i 0 ≡ get_or old.outputs i 0) × (get_or new.sizes i 0 ≡ get_or old.sizes i 0)

    -- The map of n passes, over row r: c nodes, and what the layout is refused for, 5 to 13 with its places and the node at fault, or 0.
    pub data Shows (n r c stopped place second node : ℕ) : Outcome → Type 0 where
      shows : {sums : List Lost} {new : Lent} → Sums r c sums → Left r c new
          → Shows n r c stopped place second node (record {
            answer =
                record {
                  refusal = 0;
                  stopped = stopped;
                  place = place;
                  second = second;
                  node = node;
                  passes = n;
                  nodes = c;
                  padding = sums;
                };
            lent = new;
          })

    -- "The build walks the nodes and tries 9, 10, 11, 12, 13 at each": those up to and with the first that it refuses, or all
    pub data Tried (n r : ℕ) (y : Outcome) : Type 0 where
      refused : {i number place second : ℕ} → FirstWhy g r i number place second → Shows n r (suc i) number place second i y → Tried n r y
      placed : ((i : ℕ) → Refuses g r i → ⊥) → Shows n r (nodes g) 0 0 0 no_node y → Tried n r y

    -- "Then each pass in node order meets 5, 6 and 7, and 8 at its end": the row is that of the last pass that ran
    pub data Mapped (y : Outcome) : Type 0 where
      stops : {n i number r c : ℕ} → 1 ≤ n → n < g.limit → UnresolvedBefore g n → First (Stopped g n false) i → Stops g n false i number → Reads g n r
          → UpTo i number c → Shows n r c number i 0 i y → Mapped y
      last-stops : {k n i number r c : ℕ} → LastPass g k n → First (Stopped g n true) i → Stops g n true i number → Reads g n r → UpTo i number c
          → Shows n r c number i 0 i y → Mapped y
      unresolved : {k n r : ℕ} → LastPass g k n → RunsThrough g n true → Unresolved g n → Reads g n r → Shows n r (nodes g) 8 0 0 no_node y → Mapped y
      tried : {k n r : ℕ} → LastPass g k n → RunsThrough g n true → Not (Unresolved g n) → Reads g n r → Tried n r y → Mapped y

    -- The call is refused for 1 to 4 alone, in the build's order; `Checks` has them (Profile).
    abbrev pub MapSays : Outcome → Type 0
    MapSays = Checks g refusal Mapped
