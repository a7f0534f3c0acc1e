-- An offer against those before it: it overlaps, by the sentences, exactly when it shares a bit with one of them or covers a mark, or, of size 0, lies
-- strictly inside one.
use Rattle.std.specs.Prelude.{◌≡◌, refl, Bool, true, false, ◌⊎◌, ◌↔◌, ℕ, zero, suc, ◌+◌, ◌≤◌, ◌<◌}
use Rattle.std.proofs.Common.{sym, ap, subst, ◌∙◌, inl, inr, ⊎_elim, arith}
use mathlib.Core.List.{List, Memᴰ}
use Rattle.bankdef.specs.declared.Bankdefs.{Bankdefs}
use Rattle.overlap_checker.specs.Folds.{SharesBitWith, CoversMark, InsideOf}
use Rattle.overlap_checker.specs.Interval.{interval}
use Rattle.overlap_checker.specs.declared.Entry.{Entry}
use Rattle.resolver.specs.Layout.{Checked}
use Rattle.resolver.specs.Laws.Least.{or-past}
use Rattle.says.specs.Build as says
use Rattle.says.specs.Build.{Given, nodes, Clash, Interval, Mark}
use Rattle.meets_sentences.specs.Grounds as ground
use Rattle.meets_sentences.specs.Grounds.{Overlaps}
use Rattle.meets_build.specs.Laws.Shown.{Shown, listed}
use Rattle.meets_build.specs.Laws.Walk.{Goes}
use Rattle.meets_build.specs.Laws.Offers.{offers_to, interval-member, member-interval, mark-member, member-mark}

module _ (g : Given) (tab : Bankdefs) (shown : Shown g tab) (c : Checked tab (listed g) g.fill) (r : ℕ) (all : Goes g tab shown c r (nodes g))
    (i : ℕ) (h : i ≤ nodes g) (e : Entry) where
  abbrev offers : List Entry
  offers = offers_to g tab shown c r all i

  bits-shared : (f : Entry) (bit : ℕ) → (e.position ≤ bit) × (bit < e.position + e.size) → (f.position ≤ bit) × (bit < f.position + f.size)
      → (0 < f.size) × Clash g e.position e.size f.position f.size
  bits-shared f bit a b =
      let some : 0 < f.size = omega (arith, b.0, b.1) in
      (some, says.bits (omega (arith, a.0, a.1)) some (omega (arith, a.0, b.1)) (omega (arith, a.1, b.0)))

  a-bit : (y n : ℕ) → 0 < e.size → 0 < n → e.position < y + n → y < e.position + e.size
      → (bit : ℕ) × ((e.position ≤ bit) × (bit < e.position + e.size)) × ((y ≤ bit) × (bit < y + n))
  a-bit y n some some' below above =
      ⊎_elim (λ (l : e.position ≤ y). (y, (l, above), (omega arith, omega arith)))
      (λ (l : y < e.position). (e.position, (omega arith, omega arith), (omega arith, below)))
      (or-past e.position y)

  -- An offer of nonzero size.
  pub overlaps-exactly : 0 < e.size → (SharesBitWith e offers ⊎ CoversMark e offers) ↔ Overlaps g r i e.position e.size
  overlaps-exactly some = (there, back)
    where
      there : SharesBitWith e offers ⊎ CoversMark e offers → Overlaps g r i e.position e.size
      there (inl w) =
          let x = bits-shared w.0 w.1 w.3 w.4 in
          ground.stored (member-interval g tab shown c r all i h w.0 w.2 x.0) x.1
      there (inr w) = ground.marked (member-mark g tab shown c r all i h w.0 w.1 w.2) w.3.0 w.3.1

      clashing : {y n : ℕ} → Interval g r i y n → Clash g e.position e.size y n → SharesBitWith e offers
      clashing {y} {n} k (says.bits a b below above) =
          let x = a-bit y n some b below above in
          (interval y n, x.0, (interval-member g tab shown c r all h k).0, x.1, x.2)
      clashing {y} {n} k (says.inside none b below above) = absurd (omega arith)

      back : Overlaps g r i e.position e.size → SharesBitWith e offers ⊎ CoversMark e offers
      back (ground.stored k l) = inl (clashing k l)
      back (ground.marked {y = y} k below above) = inr (interval y 0, mark-member g tab shown c r all h k, refl, (below, above))

  -- One of size 0.
  pub inside-exactly : e.size ≡ 0 → InsideOf e.position offers ↔ Overlaps g r i e.position e.size
  inside-exactly none = (there, back)
    where
      there : InsideOf e.position offers → Overlaps g r i e.position e.size
      there w =
          let some : 0 < w.0.size = omega (arith, w.2.0, w.2.1) in
          ground.stored (member-interval g tab shown c r all i h w.0 w.1 some) (says.inside none some w.2.0 w.2.1)

      clashing : {y n : ℕ} → Interval g r i y n → Clash g e.position e.size y n → InsideOf e.position offers
      clashing {y} {n} k (says.bits a b below above) = absurd (omega arith)
      clashing {y} {n} k (says.inside z b below above) = (interval y n, (interval-member g tab shown c r all h k).0, (below, above))

      back : Overlaps g r i e.position e.size → InsideOf e.position offers
      back (ground.stored k l) = clashing k l
      back (ground.marked k below above) = absurd (omega arith)
