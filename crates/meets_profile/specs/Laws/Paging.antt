-- Each bank's pages, as the library answers them after a yes, are those that the sentences say.
use Rattle.std.specs.Prelude.{◌≡◌, refl, map, ℕ, ◌-◌, ◌≤◌, ◌<◌, length, get_or, replicate, Option, None, Some}
use Rattle.std.proofs.Common.{sym, ap, subst, ◌∙◌, ⊎_elim, arith}
use Rattle.std.proofs.Math.ListN.{length-append, length-map, length-replicate, length-take}
use Rattle.prelude.specs.Limits.{max_banks}
use Rattle.bankdef.specs.Check.{banks_of}
use Rattle.bankdef.specs.Theorems.Refused.{accepted}
use Rattle.bankdef.specs.declared.Bankdef.{Bankdef}
use Rattle.iter.specs.Laws.Crossing.{any-default}
use Rattle.resolver.specs.Layout.{Checked}
use Rattle.resolver.specs.Theorems.Listed.{unlisted-bank}
use Rattle.resolver.specs.Once.{bank_record}
use Rattle.sort.specs.Laws.Sorted.{le-or-lt}
use Rattle.build_profile.specs.Theorems.PageFacts.{pages-at}
use Rattle.build_profile.specs.Pages.{no_pages, pages_by, pages_in, pages_of}
use Rattle.says.specs.Build.{Given, banks}
use Rattle.meets_sentences.specs.Typed.{Typed}
use Rattle.meets_sentences.specs.Laws.First.{none_at_all}
use Rattle.meets_build.specs.Laws.Shown.{Shown, Tells, listed}
use Rattle.meets_build.specs.Laws.Table.{table, shown}
use Rattle.says.specs.Profile as p
use Rattle.says.specs.Profile.{BadSize, Pages, Yes}
use Rattle.meets_profile.specs.Laws.Ruled.{some-apart}
use Rattle.meets_profile.specs.Laws.Tried.{Keeps}

-- a bank of the table, by its record
module _ (g : Given) (page b : ℕ) (there : b < banks g) (def : Bankdef) (t : Tells g b def) (sized : BadSize g page b → ⊥) where
  by-record : (o s : Option ℕ) → def.offset ≡ o → def.size ≡ s → Pages g page b (pages_by page o s)
  by-record None s e f = p.none (λ o l at. some-apart (sym e ∙ t.has-offset o at))
  by-record (Some o) None e f = absurd (sized (p.no_size (t.placed o e) (λ m z. some-apart (sym f ∙ t.has-size m z))))
  by-record (Some o) (Some m) e f = p.pages there (t.placed o e) (t.sized m f)

module _ (g : Given) (typed : Typed g) (page : ℕ) (c : Checked (table g) (listed g) g.fill) where
  abbrev is : Shown g (table g)
  is = shown g typed c.table

  sixteen : length (pages_of page (table g)) ≡ 16
  unfolding pages_of
  sixteen =
      let l = length-append (map (pages_in page) (banks_of (table g))) (replicate (max_banks - (table g).len) no_pages) in
      let m = length-map (banks_of (table g)) (pages_in page) in
      let n = length-take (table g).len (table g).defs in
      let k = length-replicate (max_banks - (table g).len) no_pages in
      omega (arith, l, m, n, k, is.whole, (accepted (table g) c.table).most)

  word_at : (b : ℕ) → b < 16 → get_or (pages_of page (table g)) b 0 ≡ pages_in page (bank_record (table g) b)
  word_at b h = any-default (pages_of page (table g)) b 0 no_pages (omega (arith, sixteen)) ∙ pages-at (table g) page b

  module _ (k : Keeps g page) (b : ℕ) where
    unlisted : banks g ≤ b → Pages g page b (pages_in page (bank_record (table g) b))
    unlisted past =
        let none = ap (pages_in page) (unlisted-bank (table g) b (omega (arith, is.count))) in
        subst (Pages g page b) (sym none) (p.none (λ o there at. omega arith))

    in_table : b < banks g → Pages g page b (pages_in page (bank_record (table g) b))
    in_table there =
        let def = bank_record (table g) b in
        by-record g page b there def (is.tells b (omega (arith, is.count)))
        (λ bad. none_at_all (λ b. (b < banks g) × BadSize g page b) k.sizes b (there, bad))
        def.offset def.size refl refl

  pub says-yes : Keeps g page → Yes g page (record { refusal = 0; place = 0; second = 0; pages = pages_of page (table g) })
  says-yes k = p.yes sixteen (λ b h. subst (Pages g page b) (sym (word_at b h)) (⊎_elim (unlisted k b) (in_table k b) (le-or-lt (banks g) b)))
