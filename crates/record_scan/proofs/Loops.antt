-- The two loops over a file's lines: what is known before each turn, and a law for each way on.
use Rattle.std.specs.Prelude.{None, Some, Err, Result}
use mathlib.Core.Path.{◌≡◌, refl, sym, ap, ap₂, subst, ◌∙◌}
use mathlib.Core.Bool.{Bool, true, false, ◌&&◌}
use mathlib.Core.List.{List, []}
use Prim.Native.Nat.{ℕ, ◌+◌, ◌<◌, ◌≤◌}
use native.Mathlib.Nat.{le_antisymm}
use native.Mathlib.Numerals.{add-one}
use native.Mathlib.Omega.{arith}
use native.Mathlib.Decide.{dec_lt, ℕ_discrete}
use lib.Dec.{ltb, leb}
use lib.ListN.{length, drop}
use borrow.Author.Tests.{lt-leb, le-leb, ltb-true}
use Rattle.prelude.specs.Laws.Bools.{both}
use Rattle.prelude.specs.Pick.{pick}
use Rattle.prelude.specs.Laws.Pick.{pick_true, pick-false}
use Rattle.record_lines.specs.Items.{Item, Format, as_line}
use Rattle.record_lines.specs.Lines.{lines_of}
use Rattle.record_lines.specs.Pieces.{Piece}
use Rattle.record_lines.specs.declared.Line.{Line}
use Rattle.record_scan.specs.Outcome.{fault_of}
use Rattle.record_scan.specs.Reading.{format_by, Read, sound, faulty, new_pieces, is_new, is_none, go_on, read_from, read_text}
use Rattle.record_scan.specs.Trail.{Trail, trail, line_at, item_at, next_of}
use Rattle.record_scan.specs.Laws.TrailLaws.{lines_at, lines-past, said, moved, next-at, next-state, next-given}
use Rattle.record_scan.specs.Steps.{first_by, AllGood, Stepped, highest, rises, Scanned, ScanIs, whole_file}
use Rattle.record_scan.specs.Steps.{lower_by, RoomAbove, FreeIs, all_free, free_by, AdmitIs, last_end, parts_of, begins_by, nowhere, looks_by, walk_of, WalkIs}
use Rattle.record_scan.specs.Once.{is_free, new_at, new_line, Once}
use Rattle.record_scan.specs.Laws.Steps.{leaves_of, leaves-new, admits}
use Rattle.record_scan.specs.declared.Step.{Step}
use Rattle.record_scan.specs.declared.Free.{Free}
use Rattle.record_scan.specs.declared.Walk.{Walk}
use Rattle.record_scan.proofs.Laws.{allowed-good, new_none, room-more, free_more, high-new, on', off', end'}
use Rattle.record_scan.proofs.Laws.{laters, laters-faulty, laters-sound, edge-new, parts-new, may, may-not, then-new, not_end, ends-near}
use Rattle.record_scan.specs.declared.Whole.{Whole}

-- ---- whether bytes are new

pub record Looking (format : ℕ) (text : List ℕ) (n first end at state top k : ℕ) : Type 0 where
  pub few : k ≤ n
  pub place : at ≡ (trail format text k).at
  pub force : state ≡ (trail format text k).state
  pub room : RoomAbove (trail format text k).given first end top
  pub inside : at ≤ length text

module _ (format : ℕ) (text : List ℕ) (n first end : ℕ) where
  pub looking-starts : Looking format text n first end 0 0 8589934592 0
  unfolding trail
  looking-starts =
      record {
        few = omega arith;
        place = refl;
        force = refl;
        room = (λ z. absurd (omega arith), λ z. (new_none first end, new_none end 8589934592));
        inside = omega arith;
      }

  module _ {at state top k : ℕ} (w : Looking format text n first end at state top k) where
    pub looking-on : first < end → k < n → {r : Step} {next : ℕ} → Stepped format text at state r
        → next ≡ lower_by top r.line.kind r.line.address r.line.count first end
        → Looking format text n first end r.next r.line.state next (k + 1)
    looking-on some h {r} {next} s e =
        let t = moved format text k r at state w.place w.force s in
        record {
          few = omega arith;
          place = next-at format text k r t;
          force = next-state format text k r t;
          room =
              subst (RoomAbove (trail format text (k + 1)).given first end) (sym e)
              (subst (λ (l : List Piece). RoomAbove l first end (lower_by top r.line.kind r.line.address r.line.count first end))
              (next-given format text k r)
              (room-more (trail format text k).given (new_pieces (said format text k r)) first end top r.line.kind r.line.address r.line.count some
              w.room (λ a b. leaves-new a b t.says)));
          inside = s.inside w.inside;
        }

    pub looking-ends : n ≤ k → RoomAbove (trail format text n).given first end top
    looking-ends h = subst (λ (j : ℕ). RoomAbove (trail format text j).given first end top) (le_antisymm w.few h) w.room

-- ---- the scan

-- the lines behind the first n
abbrev reading : ℕ → ℕ → List ℕ → ℕ → Read
reading format load text n =
    laters n (read_from (format_by format) load (lines_of (drop (trail format text n).at text)) (trail format text n).state (trail format text n).given)

pub record Walking (format load : ℕ) (text : List ℕ) (strict : Bool) (at state high : ℕ) (ascend : Bool) (parts : ℕ) (sure : Bool) (free : Free) (n : ℕ)
    : Type 0 where
  pub few : n ≤ at
  pub inside : at ≤ length text
  pub place : at ≡ (trail format text n).at
  pub force : state ≡ (trail format text n).state
  pub top : high ≡ highest (trail format text n).given
  pub order : ascend ≡ rises format text n
  pub left : n + length (lines_of (drop at text)) ≡ length (lines_of text)
  pub good : AllGood format text n
  pub freed : FreeIs (trail format text n).given free
  pub edge : free.edge ≡ last_end nowhere (trail format text n).given
  pub begun : parts ≡ parts_of nowhere (trail format text n).given
  pub fewer : parts ≤ n
  pub near : (k : ℕ) → k < n → (x : ℕ) → nowhere ≤ x → is_free (new_at format text k) x ≡ true
  pub twice : (k : ℕ) → k < n → Once format text k → new_line format text k ≡ false → read_text format load text ≡ faulty k
  pub firm : strict ≡ true → Once format text n
  pub certain : sure ≡ true → Once format text n
  pub reads : Once format text n → read_text format load text ≡ reading format load text n

-- what holds of the lines before one and of it holds up to the next
pub up_to : {P : ℕ → Type 0} {n : ℕ} → ((k : ℕ) → k < n → P k) → P n → (k : ℕ) → k < n + 1 → P k
up_to {P} {n} before here k z =
    elim (ℕ_discrete k n) [
      | yes e ↦ subst P (sym e) here
      | no e ↦ before k (elim (dec_lt k n) [ yes q ↦ q | no q ↦ absurd (e (omega arith)) ])
    ]

read_step : (f : Format) (load : ℕ) (text : List ℕ) (at state : ℕ) (given : List Piece) → at < length text
    → read_from f load (lines_of (drop at text)) state given
    ≡ go_on load given (is_none (lines_of (drop (next_of text at) text))) (read_from f load (lines_of (drop (next_of text at) text))) (f state
    (line_at text at))
unfolding read_from
read_step f load text at state given h = ap (λ (ls : List (List ℕ)). read_from f load ls state given) (lines_at text at h)

module _ (format load : ℕ) (text : List ℕ) (strict : Bool) where
  pub walking-starts : Walking format load text strict 0 0 0 true 0 true all_free 0
  unfolding trail laters highest rises last_end parts_of
  walking-starts =
      record {
        few = omega arith;
        inside = omega arith;
        place = refl;
        force = refl;
        top = refl;
        order = refl;
        left = omega arith;
        good = λ k z. absurd (omega arith);
        freed = record { below = new_none 0 nowhere; gap = new_none nowhere nowhere };
        edge = refl;
        begun = refl;
        fewer = omega arith;
        near = λ k z. absurd (omega arith);
        twice = λ k z. absurd (omega arith);
        firm = λ e k z. absurd (omega arith);
        certain = λ e k z. absurd (omega arith);
        reads = λ o. refl;
      }

  module _ {at state high : ℕ} {ascend : Bool} {parts : ℕ} {sure : Bool} {free : Free} {n : ℕ}
      (w : Walking format load text strict at state high ascend parts sure free n) where
    abbrev now : Trail
    now = trail format text n

    abbrev behind : List (List ℕ)
    behind = lines_of (drop (next_of text now.at) text)

    -- where the walk ends
    abbrev ended : Bool → ℕ → Walk
    ended whole line = walk_of n sure whole line high ascend parts

    answered : (whole : Bool) (line : ℕ) → (Once format text n → ScanIs format load text (pick whole (whole_file n high ascend parts) (Err line)))
        → WalkIs format load text strict (ended whole line)
    answered whole line a = record { good = w.good; near = w.near; twice = w.twice; firm = w.firm; sure = w.certain; scan = a }

    -- the file, by the line that is next, if those before it give nothing twice
    turn : at < length text → Once format text n → read_text format load text
        ≡ laters n (go_on load now.given (is_none behind) (read_from (format_by format) load behind) (item_at format text now.at now.state))
    turn h o = w.reads o ∙ ap (laters n)
        (read_step (format_by format) load text now.at now.state now.given (subst (λ (x : ℕ). x < length text) w.place h))

    module _ (h : at < length text) {r : Step} (s : Stepped format text at state r) where
      abbrev item : Item
      item = item_at format text now.at now.state

      stepped : Stepped format text now.at now.state r
      stepped = moved format text n r at state w.place w.force s

      abbrev first : ℕ
      first = first_by format (line_at text now.at)

      -- whether records ascend, this line's too
      still : {found up : Bool} → found ≡ leaves_of r.line 0 high → up ≡ (ascend && found) → up ≡ rises format text (n + 1)
      unfolding rises
      still {found} {up} f u =
          u ∙ ap (λ (x : Bool). x && found) w.order
          ∙ ap (λ (x : Bool). rises format text n && x) (f ∙ leaves-new 0 high stepped.says ∙ ap (is_new (new_pieces item) 0) w.top)
          ∙ ap (rises format text) (sym (add-one n))

      abbrev kind : ℕ
      kind = r.line.kind

      -- the test, of what the line says
      told : (given : List Piece) {b : Bool} → admits load given r.line ≡ b → admits load given (as_line now.state first item) ≡ b
      told given e = ap (admits load given) (sym stepped.says.answer) ∙ e

      barred : admits load now.given (as_line now.state first item) ≡ false → ((as_line now.state first item).kind ≡ 3 → ⊥)
          → Once format text n → read_text format load text ≡ faulty n
      barred e k o =
          turn h o ∙ ap (laters n) (off' load now.state first now.given (is_none behind) (read_from (format_by format) load behind) item e k)
          ∙ laters-faulty n 0 ∙ ap faulty (omega arith)

      pub walking_on : (h' top : ℕ) {look : Bool} → look ≡ looks_by strict parts
          → AdmitIs look load now.given kind r.line.address r.line.count high free.edge (Some (h', top))
          → {found up : Bool} → found ≡ leaves_of r.line 0 high → up ≡ (ascend && found) → {safe : Bool} → safe ≡ (sure && ltb 0 top) → {more : ℕ}
          → (more ≡ begins_by kind r.line.address r.line.count free.edge) × (more ≤ 1) → {after : Free}
          → after ≡ free_by free top kind r.line.address r.line.count
          → Walking format load text strict r.next r.line.state h' up (parts + more) safe after (n + 1)
      unfolding laters trail
      walking_on h' top {look} l e f u {safe} q {more} m {after} v =
          let loose : admits load [] (as_line now.state first item) ≡ true = told [] e.0 in
          let once : admits load now.given r.line ≡ true → Once format text n → Once format text (n + 1) = λ y o.
          up_to o (then-new load now.state first now.given item (told now.given y)) in
          let before : Once format text (n + 1) → Once format text n = λ o k z. o k (omega arith) in
          record {
            few = omega (arith, s.onward h, w.few);
            inside = s.inside w.inside;
            place = next-at format text n r stepped;
            force = next-state format text n r stepped;
            top = e.3 ∙ high-new now.given high stepped.says w.top ∙ ap highest (next-given format text n r);
            order = still f u;
            left =
                omega (arith, w.left, ap length (lines_at text at h), ap (λ (x : ℕ). length (lines_of (drop x text))) s.next);
            freed =
                subst (FreeIs (trail format text (n + 1)).given) (sym v)
                (subst (λ (l : List Piece). FreeIs l (free_by free top kind r.line.address r.line.count)) (next-given format text n r)
                (free_more now.given (new_pieces item) free top kind r.line.address r.line.count w.freed e.4
                (λ a b. leaves-new a b stepped.says)));
            edge =
                ap (λ (x : Free). x.edge) v ∙ edge-new stepped.says now.given nowhere free.edge w.edge
                ∙ ap (last_end nowhere) (next-given format text n r);
            begun =
                parts-new stepped.says now.given nowhere free.edge w.edge parts more w.begun m.0
                ∙ ap (parts_of nowhere) (next-given format text n r);
            fewer = omega (arith, w.fewer, m.1);
            good = up_to w.good (allowed-good load [] now.state first item loose);
            near = up_to w.near (ends-near load now.state first [] item loose);
            twice = up_to w.twice
                (λ o y. barred (may-not load now.state first now.given item loose y) (not_end load now.state first [] item loose) o);
            firm = λ y. once (e.1 (l ∙ rw y)) (w.firm y);
            certain = λ y.
                let two = both sure (ltb 0 top) (sym q ∙ y) in
                once (e.2 (ltb-true 0 top two.1)) (w.certain two.0);
            reads = λ o.
                turn h (before o)
                ∙ ap (laters n)
                (on' load now.state first now.given (is_none behind) (read_from (format_by format) load behind) item
                (may load now.state first now.given item loose (o n (omega arith))))
                ∙ ap (reading format load text) (sym (add-one n));
          }

      pub walking-off : admits load now.given r.line ≡ false → (kind ≡ 3 → ⊥)
          → WalkIs format load text strict (ended false n)
      walking-off e k = answered false n
          (barred (told now.given e) (λ z. k (ap (λ (x : Line). x.kind) stepped.says.answer ∙ z)))

      closed : r.line.kind ≡ 3 → Once format text n → read_text format load text ≡ laters n (pick (is_none behind) (sound now.given) (faulty 1))
      closed k o =
          turn h o
          ∙ ap (laters n)
          (end' load now.state first now.given (is_none behind) (read_from (format_by format) load behind) item
          (ap (λ (x : Line). x.kind) (sym stepped.says.answer) ∙ k))

      pub walking-closes : r.line.kind ≡ 3
          → WalkIs format load text strict (ended (leb (length text) r.next) (n + 1))
      walking-closes k = answered (leb (length text) r.next) (n + 1) (λ o.
          elim (dec_lt r.next (length text)) [
            | yes p ↦
                subst (ScanIs format load text) (sym (pick-false (whole_file n high ascend parts) (Err (n + 1)) (lt-leb (length text) r.next p)))
                (closed k o
                ∙ ap (λ (ls : List (List ℕ)). laters n (pick (is_none ls) (sound now.given) (faulty 1)))
                (lines_at text (next_of text now.at) (subst (λ (x : ℕ). x < length text) stepped.next p))
                ∙ laters-faulty n 1)
            | no p ↦
                subst (ScanIs format load text) (sym (pick_true (whole_file n high ascend parts) (Err (n + 1)) (le-leb (length text) r.next (omega arith))))
                (record {
                  reads =
                      closed k o
                      ∙ ap (λ (ls : List (List ℕ)). laters n (pick (is_none ls) (sound now.given) (faulty 1)))
                      (lines-past text (next_of text now.at) (subst (λ (x : ℕ). length text ≤ x) stepped.next (omega arith)))
                      ∙ laters-sound n now.given;
                  top = w.top;
                  order = w.order;
                  begun = w.begun;
                  good = w.good;
                  once = o;
                  all =
                      omega
                      (arith, w.left, ap length (lines_at text at h), ap length (lines-past text (next_of text at) (omega (arith, p, s.next))));
                })
          ])

    pub walking-ends : length text ≤ at
        → WalkIs format load text strict (ended false n)
    unfolding read_from
    walking-ends h = answered false n (λ o.
        w.reads o
        ∙ ap (λ (ls : List (List ℕ)). laters n (read_from (format_by format) load ls now.state now.given))
        (lines-past text now.at (subst (λ (x : ℕ). length text ≤ x) w.place h))
        ∙ laters-faulty n 0 ∙ ap faulty (omega arith))

-- a walk that has met no end, as it stands
pub not_whole : (w : Walk) → w.whole ≡ false → w.line ≡ w.lines → walk_of w.lines w.sure false w.lines w.high w.ascend w.parts ≡ w
not_whole w p q = ap₂ (λ (b : Bool) (n : ℕ). walk_of w.lines w.sure b n w.high w.ascend w.parts) (sym p) (sym q)

-- ---- what is answered

module _ (format load : ℕ) (text : List ℕ) (r : Result Whole ℕ) (p : ScanIs format load text r) where
  pub fault-none : (lines high : ℕ) (ascend : Bool) (parts : ℕ) → r ≡ whole_file lines high ascend parts → None ≡ fault_of (read_text format load text)
  fault-none lines high ascend parts e =
      let w : Scanned format load text lines high ascend parts = subst (ScanIs format load text) e p in sym (ap fault_of w.reads)

  pub fault-some : (line : ℕ) → r ≡ Err line → Some line ≡ fault_of (read_text format load text)
  fault-some line e = let w : read_text format load text ≡ faulty line = subst (ScanIs format load text) e p in sym (ap fault_of w)
