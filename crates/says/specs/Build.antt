-- What `dk_build` says, from documents 01 and 02. Nodes, banks and rows are counted from 0, passes from 1. One letter, one meaning: i, j a node; b a bank;
-- r a row; n a pass; k is K; p, q positions in a bank; o a bank's offset; m its size; a an alignment; d a distance; v the number of a node; x, s where an
-- offer lies and how many bits it has, y, t the same of a stored one, z, u of any other; e the bits of what is placed; l the image's length; c spans.
use Rattle.std.specs.Prelude.{◌≡◌, Bool, true, false, List, ◌⊎◌, ℕ, suc, ◌+◌, ◌*◌, ◌-◌, ◌≤◌, ◌<◌, ◌/◌, ◌%◌, ℤ, pos, ◌+ℤ◌, ◌*ℤ◌, length, get_or, replicate}
use Rattle.bitvec.specs.Bits.{bit_at}
use Rattle.iter.specs.declared.Lost.{Lost}
use Rattle.c_answers.specs.declared.DkLayout.{DkLayout}
use Rattle.says.specs.Banks.{Fault, Meet}
use Rattle.says.specs.Words.{Tries, First, FirstPair, Not}

-- what a bank has lost: bits, and whole address units
abbrev pub losing : (bits units : ℕ) → Lost
losing bits units = record { bits = bits; units = units }

-- ---- what is given: the parameters of `dk_build`
pub record Given : Type 0 where
  pub units : List ℕ
  pub starts : List ℤ
  pub bank_sizes : List ℕ
  pub bank_offsets : List ℕ
  pub aligns : List ℕ
  pub flags : List ℕ
  pub fill_bits : List ℕ
  pub kinds : List ℕ
  pub operands : List ℕ
  pub numbers : List ℕ
  pub states : List ℕ
  pub rows : ℕ
  pub values : List ℕ
  pub limit : ℕ
  pub fill : ℕ
  pub closed : ℕ

-- and lent: before the call, and after it
pub record Lent : Type 0 where
  pub image : List ℕ
  pub addresses : List ℤ
  pub offsets : List ℕ
  pub sizes : List ℕ

pub record Outcome : Type 0 where
  pub answer : DkLayout
  pub lent : Lent

-- how a bank stands on the way: its position, known or not, and what it has lost
pub record Standing : Type 0 where
  pub position : ℕ
  pub known : Bool
  pub lost : Lost

module _ (g : Given) where
  -- ---- banks. "flags 1: size 1, offset 2, label alignment 4, fill 8"
  abbrev pub banks : ℕ
  banks = length g.units

  abbrev pub unit : ℕ → ℕ
  unit b = get_or g.units b 0

  abbrev pub start : ℕ → ℤ
  start b = get_or g.starts b (pos 0)

  abbrev pub flag : ℕ → ℕ
  flag b = get_or g.flags b 0

  abbrev pub fill_bit : ℕ → ℕ
  fill_bit b = get_or g.fill_bits b 0

  abbrev pub Size : ℕ → ℕ → Type 0
  Size b m = (flag b % 2 ≡ 1) × (m ≡ get_or g.bank_sizes b 0)

  abbrev pub Offset : ℕ → ℕ → Type 0
  Offset b o = (flag b / 2 % 2 ≡ 1) × (o ≡ get_or g.bank_offsets b 0)

  abbrev pub Align : ℕ → ℕ → Type 0
  Align b a = (flag b / 4 % 2 ≡ 1) × (a ≡ get_or g.aligns b 0)

  abbrev pub Filled : ℕ → Type 0
  Filled b = flag b / 8 % 2 ≡ 1

  -- a bank "with fill, size and offset": where its range starts, and how many bits it has
  abbrev pub FilledRange : (b o m : ℕ) → Type 0
  FilledRange b o m = Filled b × Size b m × Offset b o

  abbrev pub Unsized : ℕ → Type 0
  Unsized b = (m : ℕ) → Size b m → ⊥

  -- 1: "the bank count is outside 1 to 16"; lists of different lengths count as no bank
  pub data NoBanks : Type 0 where
    too_few : banks < 1 → NoBanks
    too_many : 16 < banks → NoBanks
    lists-differ : Not ((length g.starts ≡ banks) × (length g.bank_sizes ≡ banks) × (length g.bank_offsets ≡ banks) × (length g.aligns ≡ banks)
        × (length g.flags ≡ banks) × (length g.fill_bits ≡ banks)) → NoBanks

  -- 2: "a bank number is beyond its limit, or a filled bank has size 0"; "also for bank 0 with fill bit one". Flags above 15 and a fill bit above 1 count too
  -- (docs/DECISIONS.md).
  pub data BadBank (b : ℕ) : Type 0 where
    beyond : Fault b (unit b) (start b) (Size b) (Offset b) (Align b) (Filled b) (fill_bit b) → BadBank b
    flags-past : 15 < flag b → BadBank b

  -- 3: "two banks overlap"
  pub data Overlap (b b' : ℕ) : Type 0 where
    overlap : 0 < b → b < b' → b' < banks → Meet (Offset b) (Size b) (Offset b') (Size b') → Overlap b b'

  -- ---- nodes and rows
  abbrev pub nodes : ℕ
  nodes = length g.kinds

  abbrev pub kind : ℕ → ℕ
  kind i = get_or g.kinds i 0

  abbrev pub operand : ℕ → ℕ
  operand i = get_or g.operands i 0

  abbrev pub state : ℕ → ℕ → ℕ
  state r i = get_or g.states (r * nodes + i) 0

  -- "Kind 5 takes its number from the first row."
  pub data Number (r i : ℕ) : ℕ → Type 0 where
    first : kind i ≡ 5 → Number r i (get_or g.numbers i 0)
    own : Not (kind i ≡ 5) → Number r i (get_or g.numbers (r * nodes + i) 0)

  -- "written items (4, 5, 6)"
  abbrev pub IsWritten : ℕ → Type 0
  IsWritten i = (4 ≤ kind i) × (kind i ≤ 6)

  -- 4: "node count, row count, limit" (a byte holds no limit past 255), the fill's choice: fields 0, 1, 2, 3
  pub data BadField : ℕ → Type 0 where
    nodes-many : 4096 < nodes → BadField 0
    operands-differ : Not (length g.operands ≡ nodes) → BadField 0
    no_rows : g.rows < 1 → BadField 1
    rows-many : 16 < g.rows → BadField 1
    numbers-differ : Not (length g.numbers ≡ g.rows * nodes) → BadField 1
    states-differ : Not (length g.states ≡ g.rows * nodes) → BadField 1
    limit-past : 255 < g.limit → BadField 2
    fill-unknown : 1 < g.fill → BadField 3

  -- "then the lowest node, its kind, operand and rows in order"
  pub data BadNode (i : ℕ) : Type 0 where
    kind-past : 10 < kind i → BadNode i
    no-bank : kind i ≡ 1 → banks ≤ operand i → BadNode i
    state-past : {r : ℕ} → r < g.rows → 3 ≤ kind i → 2 < state r i → BadNode i
    value-past : {r v : ℕ} → r < g.rows → IsWritten i → Number r i v → 8 * length g.values < operand i + v → BadNode i

  -- ---- the walk of a row. The bank that a node stands in: "The walk begins in bank 0."
  pub data In : ℕ → ℕ → Type 0 where
    switched : {i : ℕ} → kind i ≡ 1 → In i (operand i)
    first : Not (kind 0 ≡ 1) → In 0 0
    same : {i b : ℕ} → Not (kind (suc i) ≡ 1) → In i b → In (suc i) b

  -- "The distance to alignment A is 0 for A = 0"; otherwise the fewest bits to where start × unit + position, on either side of 0, is a multiple of A
  abbrev pub Aligned : (b a p : ℕ) → Type 0
  Aligned b a p = (z : ℤ) × ((start b *ℤ pos (unit b)) +ℤ pos p ≡ z *ℤ pos a)

  pub data Distance (b p : ℕ) : (a d : ℕ) → Type 0 where
    to-zero : Distance b p 0 0
    next : {a d : ℕ} → 0 < a → Aligned b a (p + d) → ((d' : ℕ) → Aligned b a (p + d') → d ≤ d') → Distance b p a d

  -- "a symbol (label or constant) of depth 0 in a bank with label alignment is aligned first": the bits that it skips
  pub data Lead (i b p : ℕ) : ℕ → Type 0 where
    symbol : {a d : ℕ} → (kind i ≡ 2) ⊎ (kind i ≡ 3) → operand i ≡ 0 → Align b a → Distance b p a d → Lead i b p d
    unaligned : Not (((kind i ≡ 2) ⊎ (kind i ≡ 3)) × (operand i ≡ 0) × (flag b / 4 % 2 ≡ 1)) → Lead i b p 0

  -- its own advance from the position that it sees, p to q, in row r: "4 to 7 add their number, 8 adds the distance to alignment, 9 sets the position"
  pub data Advance (r i b p : ℕ) : ℕ → Type 0 where
    stays : (kind i ≤ 3) ⊎ (kind i ≡ 10) → Advance r i b p p
    adds : {v : ℕ} → 4 ≤ kind i → kind i ≤ 7 → Number r i v → Advance r i b p (p + v)
    aligns : {v d : ℕ} → kind i ≡ 8 → Number r i v → Distance b p v d → Advance r i b p (p + d)
    sets : {v : ℕ} → kind i ≡ 9 → Number r i v → Advance r i b p v

  -- "4, 6, 7, 8 keep it only if state is 0; 5 and symbols leave it; 9 makes it so exactly if state is 0"
  pub data Known (r i : ℕ) : Bool → Bool → Type 0 where
    left : {known : Bool} → (kind i ≤ 3) ⊎ ((kind i ≡ 5) ⊎ (kind i ≡ 10)) → Known r i known known
    kept : {known : Bool} → 4 ≤ kind i → kind i ≤ 8 → Not (kind i ≡ 5) → state r i ≡ 0 → Known r i known known
    made : {known : Bool} → kind i ≡ 9 → state r i ≡ 0 → Known r i known true
    unmade : {known : Bool} → 4 ≤ kind i → kind i ≤ 9 → Not (kind i ≡ 5) → Not (state r i ≡ 0) → Known r i known false

  -- "bits lost to `align` and to label alignment": what an align moves from p to q, and of others the bits that they skip first
  pub data Loses (i lead p q : ℕ) : ℕ → Type 0 where
    by-align : {d : ℕ} → kind i ≡ 8 → p + d ≡ q → Loses i lead p q d
    by-lead : Not (kind i ≡ 8) → Loses i lead p q lead

  -- How bank b stands before node i of row r. "Each bank's position starts at 0, known, and is kept through switches." A node moves its own bank, past what it
  -- skips first and to the position behind it, and not past 4,294,967,295; the bits that it loses, d, and "the count of whole address units it skips (distance
  -- over unit, rounded down)", are added to what the bank has lost.
  pub data BankAt (r : ℕ) : (i b : ℕ) → Standing → Type 0 where
    begins : {b : ℕ} → BankAt r 0 b (record { position = 0; known = true; lost = losing 0 0 })
    keeps : {i b : ℕ} {at : Standing} → BankAt r i b at → Not (In i b) → BankAt r (suc i) b at
    moves : {i b lead d : ℕ} {at new : Standing} → BankAt r i b at → In i b → Lead i b at.position lead → at.position + lead ≤ 4294967295
        → Advance r i b (at.position + lead) new.position → new.position ≤ 4294967295 → Known r i at.known new.known
        → Loses i lead (at.position + lead) new.position d → new.lost ≡ losing (at.lost.bits + d) (at.lost.units + d / unit b)
        → BankAt r (suc i) b new

  -- Node i of row r stands in bank b and sees position p there, known or not.
  pub data Sees (r i : ℕ) : (b p : ℕ) → Bool → Type 0 where
    sees : {b lead : ℕ} {at : Standing} → BankAt r i b at → In i b → Lead i b at.position lead → at.position + lead ≤ 4294967295
        → Sees r i b (at.position + lead) at.known

  -- ---- passes. "Pass n reads row n, or the last row if there are fewer."
  pub data Reads (n : ℕ) : ℕ → Type 0 where
    own : {r : ℕ} → n ≡ suc r → n ≤ g.rows → Reads n r
    last_row : {r : ℕ} → g.rows < n → g.rows ≡ suc r → Reads n r

  -- "a label is resolved when its position is known and on a boundary"
  pub data Resolved (n i : ℕ) : Type 0 where
    resolved : {r b p : ℕ} → Reads n r → Sees r i b p true → p % unit b ≡ 0 → Resolved n i

  -- "stable when its address equals that of the pass before (never in pass 1)"
  pub data Stable (n i : ℕ) : Type 0 where
    stable : {r r' b p p' : ℕ} {known known' : Bool} → 1 < n → Reads n r → Reads (n - 1) r' → Sees r i b p known → Sees r' i b p' known'
        → start b +ℤ pos (p / unit b) ≡ start b +ℤ pos (p' / unit b) → Stable n i

  -- "A pass is unresolved if any state is 2": a label's as above, "unresolved otherwise"; "0, 1 and 2 don't read the state"
  pub data Unresolved (n : ℕ) : Type 0 where
    label : {i : ℕ} → i < nodes → kind i ≡ 2 → Not (Resolved n i) → Not (Stable n i) → Unresolved n
    by_state : {i r : ℕ} → i < nodes → 3 ≤ kind i → Reads n r → state r i ≡ 2 → Unresolved n

  -- 5: "a position would pass 4,294,967,295", and 7: "a label in the last pass is off an address boundary", at node i of pass n
  pub data Stops (n : ℕ) (last : Bool) (i : ℕ) : ℕ → Type 0 where
    lead-past : {r b lead : ℕ} {at : Standing} → i < nodes → Reads n r → BankAt r i b at → In i b → Lead i b at.position lead
        → 4294967295 < at.position + lead → Stops n last i 5
    move-past : {r b p q : ℕ} {known : Bool} → i < nodes → Reads n r → Sees r i b p known → Advance r i b p q → 4294967295 < q → Stops n last i 5
    off-boundary : {r b p : ℕ} {known : Bool} → i < nodes → last ≡ true → kind i ≡ 2 → Reads n r → Sees r i b p known → Not (p % unit b ≡ 0) → Stops n last i 7

  abbrev pub Stopped : ℕ → Bool → ℕ → Type 0
  Stopped n last i = (number : ℕ) × Stops n last i number

  -- pass n comes to its end
  abbrev pub RunsThrough : ℕ → Bool → Type 0
  RunsThrough n last = (i : ℕ) → Stopped n last i → ⊥

  -- "passes 1, 2, .. run until one is not unresolved": the passes below n all ran to their end and were unresolved, so pass n runs
  abbrev pub UnresolvedBefore : ℕ → Type 0
  UnresolvedBefore n = (n' : ℕ) → 1 ≤ n' → n' < n → RunsThrough n' false × Unresolved n'

  -- the last pass n, and K, which counts only where that pass is not unresolved; pass M always runs as the last, so 7 comes before 8 there. "If K is M,
  -- that pass was the last. If K is below M, pass K + 1 runs as the last .. M = 0 runs pass 1 as the last, and K is 0."
  pub data LastPass : (k n : ℕ) → Type 0 where
    limit-zero : g.limit ≡ 0 → LastPass 0 1
    below : {k : ℕ} → 1 ≤ k → k < g.limit → UnresolvedBefore k → RunsThrough k false → Not (Unresolved k) → LastPass k (suc k)
    at-limit : 1 ≤ g.limit → UnresolvedBefore g.limit → LastPass g.limit g.limit

  -- ---- the build, over row r of the last pass. "Written items, and reserves in banks with an offset, are offered": where, and how many bits
  pub data Offer (r i : ℕ) : (x s : ℕ) → Type 0 where
    offer : {b p o s : ℕ} {known : Bool} → i < nodes → 4 ≤ kind i → kind i ≤ 7 → Sees r i b p known → Offset b o → Number r i s → Offer r i (o + p) s

  -- "if it shares no bit"; "an offer of size 0 is refused exactly when its position is strictly inside a stored interval"
  pub data Clash (x s y t : ℕ) : Type 0 where
    bits : 0 < s → 0 < t → x < y + t → y < x + s → Clash x s y t
    inside : s ≡ 0 → 0 < t → y < x → x < y + t → Clash x s y t

  -- what was stored before node i: the offers before it, those of nonzero size as intervals, those of size 0 as marks; all of them were accepted, since
  -- node i is the first refused
  pub data Interval (r i : ℕ) : (y t : ℕ) → Type 0 where
    interval : {j y t : ℕ} → j < i → Offer r j y t → 0 < t → Interval r i y t

  pub data Mark (r i : ℕ) : ℕ → Type 0 where
    mark : {j y : ℕ} → j < i → Offer r j y 0 → Mark r i y

  -- how many of each
  pub data StoredCount (r : ℕ) : (i intervals marks : ℕ) → Type 0 where
    at_first : StoredCount r 0 0 0
    more : {i intervals marks y t : ℕ} → StoredCount r i intervals marks → Offer r i y t → 0 < t → StoredCount r (suc i) (suc intervals) marks
    marks : {i intervals marks y : ℕ} → StoredCount r i intervals marks → Offer r i y 0 → StoredCount r (suc i) intervals (suc marks)
    not-offered : {i intervals marks : ℕ} → StoredCount r i intervals marks → ((y t : ℕ) → Offer r i y t → ⊥) → StoredCount r (suc i) intervals marks

  -- "Refusal 12 names the lowest stored start at or above the offer if those two share a bit, otherwise the one below"; "naming the lowest such mark
  -- unless an interval is to be named"
  pub data Names (r i x s : ℕ) : (y t : ℕ) → Type 0 where
    above : {y t : ℕ} → Interval r i y t → x ≤ y → ((z u : ℕ) → Interval r i z u → x ≤ z → y ≤ z) → Clash x s y t → Names r i x s y t
    below : {y t : ℕ} → Interval r i y t → y < x → ((z u : ℕ) → Interval r i z u → z < x → z ≤ y) → Clash x s y t
        → ((z u : ℕ) → Interval r i z u → x ≤ z → Clash x s z u → ⊥) → Names r i x s y t
    mark : {y : ℕ} → Mark r i y → x < y → y < x + s → ((z : ℕ) → Mark r i z → x < z → y ≤ z)
        → ((z u : ℕ) → Interval r i z u → Clash x s z u → ⊥) → Names r i x s y 0

  -- "9 and 10 apply to labels (size 0), written items (4, 5, 6) and reserves; 11 to written items."
  abbrev pub Placed : ℕ → Type 0
  Placed i = (i < nodes) × ((kind i ≡ 2) ⊎ ((4 ≤ kind i) × (kind i ≤ 7)))

  pub data Extent (r i : ℕ) : ℕ → Type 0 where
    label : kind i ≡ 2 → Extent r i 0
    item : {v : ℕ} → Not (kind i ≡ 2) → Number r i v → Extent r i v

  -- why the build refuses node i: the refusal's number, its place and its second
  pub data Why (r i : ℕ) : (number place second : ℕ) → Type 0 where
    -- 9: "bank 0 is used while other banks exist"; Ticket 13: "9 in form 2 also with one bank" (`closed`)
    bank-0 : Placed i → In i 0 → (1 < banks) ⊎ (1 ≤ g.closed) → Why r i 9 i 0
    -- 10: "an item ends past its bank's size"
    past-size : {b p e m : ℕ} {known : Bool} → Placed i → Sees r i b p known → Extent r i e → Size b m → m < p + e → Why r i 10 i 0
    -- 11: "an item is written in a bank without output offset"
    no_output : {b : ℕ} → i < nodes → IsWritten i → In i b → ((o : ℕ) → Offset b o → ⊥) → Why r i 11 i 0
    -- 12: "a placement overlaps": its place is "the stored start and size"
    overlaps : {x s y t : ℕ} → Offer r i x s → Names r i x s y t → Why r i 12 y t
    -- 13: "the store holds 512 and the offer, of nonzero size, shares no bit"; Ticket 10: "also when 512 marks are kept and another is acceptable"
    full : {x s stored marks : ℕ} → Offer r i x s → StoredCount r i stored marks → ((0 < s) × (stored ≡ 512)) ⊎ ((s ≡ 0) × (marks ≡ 512)) → Why r i 13 i 0

  abbrev pub Refuses : ℕ → ℕ → Type 0
  Refuses r i = (number : ℕ) × (place : ℕ) × (second : ℕ) × Why r i number place second

  -- "The build walks the nodes and tries 9, 10, 11, 12, 13 at each": the first node that is refused, and of what it is refused for the lowest number
  pub record FirstWhy (r i number place second : ℕ) : Type 0 where
    pub first : First (Refuses r) i
    pub why : Why r i number place second
    pub lowest : (other at with : ℕ) → Why r i other at with → number ≤ other

  -- ---- the image's length. "Fill takes every bank in order .. let h = offset + size - 1; if the image length is below h, it becomes h + 1."
  pub data Inherited : (b length : ℕ) → Type 0 where
    no-bank-yet : Inherited 0 0
    raised : {b l o m h : ℕ} → Inherited b l → FilledRange b o m → h + 1 ≡ o + m → l < h → Inherited (suc b) (h + 1)
    reached : {b l o m h : ℕ} → Inherited b l → FilledRange b o m → h + 1 ≡ o + m → h ≤ l → Inherited (suc b) l
    not-filled : {b l : ℕ} → Inherited b l → ((o m : ℕ) → FilledRange b o m → ⊥) → Inherited (suc b) l

  -- "the larger of the fill's and the furthest end of a written item; a written item of size 0 still counts its position". Ticket 8: "inherited fill .. or
  -- full fill, where the fill's length is the largest offset + size among banks with fill, size and offset, or 0". The image's length is the largest of these.
  pub data Reaches (r : ℕ) : ℕ → Type 0 where
    nothing : Reaches r 0
    inherited : {l : ℕ} → g.fill ≡ 0 → Inherited banks l → Reaches r l
    full : {b o m : ℕ} → g.fill ≡ 1 → b < banks → FilledRange b o m → Reaches r (o + m)
    by-item : {i x s : ℕ} → IsWritten i → Offer r i x s → Reaches r (x + s)

  abbrev pub Length : ℕ → ℕ → Type 0
  Length r l = Reaches r l × ((l' : ℕ) → Reaches r l' → l' ≤ l)

  -- ---- spans: "labels (size 0) and written items in node order"; so many before node i
  abbrev pub IsSpan : ℕ → Type 0
  IsSpan i = (kind i ≡ 2) ⊎ IsWritten i

  pub data Spans : (i count : ℕ) → Type 0 where
    before-all : Spans 0 0
    more : {i c : ℕ} → Spans i c → IsSpan i → Spans (suc i) (suc c)
    no_span : {i c : ℕ} → Spans i c → Not (IsSpan i) → Spans (suc i) c

  -- "with address and offset or none"
  pub data OffsetWord (b p : ℕ) : ℕ → Type 0 where
    at : {o : ℕ} → Offset b o → OffsetWord b p (o + p)
    nowhere : Not (flag b / 2 % 2 ≡ 1) → OffsetWord b p 18446744073709551615

  -- span number `at`: its address, its offset's word, its size
  pub data SpanAt (r at : ℕ) : ℤ → ℕ → ℕ → Type 0 where
    span : {i b p e w : ℕ} {known : Bool} → i < nodes → IsSpan i → Spans i at → Sees r i b p known → Extent r i e → OffsetWord b p w
        → SpanAt r at (start b +ℤ pos (p / unit b)) w e

  -- "each bank should carry the sum of bits lost .. in the last pass", and "everything that uses the distance passes both on": banks 0 to 15
  abbrev pub Padding : ℕ → List Lost → Type 0
  Padding r sums = (length sums ≡ 16) × ((b : ℕ) → b < 16 → (at : Standing) × BankAt r nodes b at × (get_or sums b (losing 0 0) ≡ at.lost))

  -- ---- with what is lent
  module _ (old : Lent) where
    -- "Each refusal returns its number and a place and changes nothing lent." The passes run, and nothing else.
    abbrev pub refusal : (number place second n : ℕ) → Outcome
    refusal number place second n = record {
      answer = record { refusal = number; place = place; second = second; passes = n; k = 0; length = 0; spans = 0; padding = replicate 16 (losing 0 0) };
      lent = old;
    }

    -- bit number `bit` of the image belongs to a written item
    abbrev pub OfItem : ℕ → ℕ → Type 0
    OfItem r bit = (i : ℕ) × (x : ℕ) × (s : ℕ) × IsWritten i × Offer r i x s × (x ≤ bit) × (bit < x + s)

    -- it lies in the range of bank b, "other than bank 0 with fill, size and offset", and inside the image's length l
    abbrev pub InFilled : ℕ → ℕ → ℕ → Type 0
    InFilled l b bit = (o : ℕ) × (m : ℕ) × (0 < b) × (b < banks) × FilledRange b o m × (o ≤ bit) × (bit < o + m) × (bit < l)

    -- ---- what an accepted build leaves: row r, length l, c spans
    pub record Left (r l c : ℕ) (new : Lent) : Type 0 where
      pub as_long : (length new.image ≡ length old.image) × (length new.addresses ≡ length old.addresses) ×
          (length new.offsets ≡ length old.offsets) × (length new.sizes ≡ length old.sizes)
      pub bytes : (j : ℕ) → get_or new.image j 0 < 256
      -- each bit of a written item is its own. "Bits run from the top of each byte, value bytes too": `bit_at l j` is byte j / 8 of l, over 2 ^ (7 - j % 8),
      -- modulo 2; past the last byte it is 0
      pub item-bit : (i x s bit : ℕ) → IsWritten i → Offer r i x s → bit < s → bit_at new.image (x + bit) ≡ bit_at g.values (operand i + bit)
      -- "every other bit is the fill bit inside such a range and the image length, and zero elsewhere"
      pub fill-bit : (bit b : ℕ) → Not (OfItem r bit) → InFilled l b bit → bit_at new.image bit ≡ fill_bit b
      pub zero_bit : (bit : ℕ) → Not (OfItem r bit) → ((b : ℕ) → Not (InFilled l b bit)) → bit_at new.image bit ≡ 0
      pub span : (at : ℕ) → at < c → SpanAt r at (get_or new.addresses at (pos 0)) (get_or new.offsets at 0) (get_or new.sizes at 0)
      -- "keep their old contents past what was written"
      pub rest : (at : ℕ) → c ≤ at → (get_or new.addresses at (pos 0) ≡ get_or old.addresses at (pos 0)) ×
          (get_or new.offsets at 0 ≡ get_or old.offsets at 0) × (get_or new.sizes at 0 ≡ get_or old.sizes at 0)

    pub data Accepts (r k n l c : ℕ) : Outcome → Type 0 where
      accepts : {sums : List Lost} {new : Lent} → Padding r sums → Left r l c new → Accepts r k n l c
          (record { answer = record { refusal = 0; place = 0; second = 0; passes = n; k = k; length = l; spans = c; padding = sums }; lent = new })

    -- ---- the order. The build of row r of pass n: 9 to 13 at the first node that meets one, then "14 comes last: image, then spans".
    pub data Built (r k n : ℕ) : Outcome → Type 0 where
      refused : {i number place second : ℕ} → FirstWhy r i number place second → Built r k n (refusal number place second n)
      placed : {l c : ℕ} {y : Outcome} → ((i : ℕ) → Refuses r i → ⊥) → Length r l → Spans nodes c
          → Tries (λ (_ : Unit {0}). 8 * length old.image < l) (λ _. refusal 14 0 0 n)
          (Tries (λ (_ : Unit {0}). (length old.addresses < c) ⊎ ((length old.offsets < c) ⊎ (length old.sizes < c))) (λ _. refusal 14 1 0 n)
          (Accepts r k n l c)) y
          → Built r k n y

    -- "Then each pass in node order meets 5, 6 and 7, and 8 at its end." 6 is no longer given (document 02, Ticket 3).
    pub data Laid : Outcome → Type 0 where
      stops : {n i number : ℕ} → 1 ≤ n → n < g.limit → UnresolvedBefore n → First (Stopped n false) i → Stops n false i number → Laid (refusal number i 0 n)
      last-stops : {k n i number : ℕ} → LastPass k n → First (Stopped n true) i → Stops n true i number → Laid (refusal number i 0 n)
      unresolved : {k n : ℕ} → LastPass k n → RunsThrough n true → Unresolved n → Laid (refusal 8 0 0 n)
      built : {k n r : ℕ} {y : Outcome} → LastPass k n → RunsThrough n true → Not (Unresolved n) → Reads n r → Built r k n y → Laid y

    -- "Order: 1, 2 by ascending bank, 3, then 4: node count, row count, limit, then the lowest node"
    abbrev pub BuildSays : Outcome → Type 0
    BuildSays =
        Tries (λ (_ : Unit {0}). NoBanks) (λ _. refusal 1 0 0 0)
        (Tries (First (λ b. (b < banks) × BadBank b)) (λ b. refusal 2 b 0 0)
        (Tries (λ (pair : ℕ × ℕ). FirstPair Overlap pair.0 pair.1) (λ pair. refusal 3 pair.0 pair.1 0)
        (Tries (First BadField) (λ f. refusal 4 f 0 0)
        (Tries (First (λ i. (i < nodes) × BadNode i)) (λ i. refusal 4 i 0 0)
        Laid))))
