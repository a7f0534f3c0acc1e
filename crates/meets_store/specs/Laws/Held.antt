-- A store of the sentences as the definition's: its intervals and marks, by index.
use Rattle.std.specs.Prelude.{◌≡◌, ℕ, ◌≤◌, ◌<◌, length, get_or}
use Rattle.std.proofs.Common.{sym, ◌∙◌, arith, get_or-take}
use mathlib.Core.List.{List, Memᴰ}
use Rattle.overlap_checker.specs.declared.Entry.{Entry}
use Rattle.overlap_checker.specs.Interval.{interval}
use Rattle.overlap_checker.specs.Entries.{entry_at}
use Rattle.overlap_checker.specs.Lent.{Lent, lent, spans_of, held, held_marks}
use Rattle.overlap_checker.specs.Laws.Laid as laid
use Rattle.says.specs.Store.{Store, Arrays, start, size, mark}
use Rattle.meets_store.specs.Laws.Members.{member-at, index_of}

abbrev pub as_lent : Store → Lent
as_lent s = lent s.positions s.sizes s.count s.marks s.mark_count

module _ (s : Store) (w : Arrays s) (few : s.count ≤ 512) where
  abbrev pub entries : List Entry
  entries = held (as_lent s)

  pub count-is : length entries ≡ s.count
  count-is = laid.held-length (spans_of (as_lent s)) few w.positions w.sizes

  pub entry-is : (i : ℕ) → i < s.count → entry_at entries i ≡ interval (start s i) (size s i)
  entry-is i h = laid.held_at (spans_of (as_lent s)) few w.positions w.sizes i h

  -- entry i is one of them, and each of them has an index
  pub entry_in : (i : ℕ) → i < s.count → Memᴰ (interval (start s i) (size s i)) entries
  entry_in i h = rw (entry-is i h) at (member-at (interval 0 0) entries i (omega (arith, count-is)))

  pub entry_of : (f : Entry) → Memᴰ f entries → (i : ℕ) × (i < s.count) × (interval (start s i) (size s i) ≡ f)
  entry_of f m =
      let r = index_of (interval 0 0) f entries m in
      let h : r.0 < s.count = omega (arith, r.1, count-is) in
      (r.0, h, sym (entry-is r.0 h) ∙ r.2)

module _ (s : Store) (w : Arrays s) (few : s.count ≤ 512) (marks-few : s.mark_count ≤ 512) where
  pub mark-count-is : length (held_marks (as_lent s)) ≡ s.mark_count
  mark-count-is = laid.marks-length (as_lent s) few w.positions w.sizes marks-few w.marks

  pub mark-is : (i : ℕ) → i < s.mark_count → get_or (held_marks (as_lent s)) i 0 ≡ mark s i
  mark-is i h = get_or-take s.mark_count s.marks i 0 h

  pub mark-in : (i : ℕ) → i < s.mark_count → Memᴰ (mark s i) (held_marks (as_lent s))
  mark-in i h = rw (mark-is i h) at (member-at 0 (held_marks (as_lent s)) i (omega (arith, mark-count-is)))

  pub mark_of : (m : ℕ) → Memᴰ m (held_marks (as_lent s)) → (i : ℕ) × (i < s.mark_count) × (mark s i ≡ m)
  mark_of m k =
      let r = index_of 0 m (held_marks (as_lent s)) k in
      let h : r.0 < s.mark_count = omega (arith, r.1, mark-count-is) in
      (r.0, h, sym (mark-is r.0 h) ∙ r.2)
