-- The sentences of what `prog_records` prints leave one text: one outcome of the library, one list of blocks, one file of them (`write-hex-decides`,
-- `write-srec-decides`).
use Rattle.std.specs.Prelude.{◌≡◌, refl, Bool, List, ◌++◌, ℕ, length, replicate, Option}
use Rattle.std.proofs.Common.{ap, subst, arith}
use Rattle.std.proofs.lemmas.List.{length-replicate}
use Rattle.print_text.specs.Ascii.{ascii}
use Rattle.says.specs.Blocks.{Block as Run}
use Rattle.says.specs.Build.{Lent, Outcome}
use Rattle.says.specs.Report as report
use Rattle.says.specs.Write as write
use Rattle.says.specs.Write.{Given}
use Rattle.says.specs.RecordsText as says
use Rattle.says.specs.RecordsText.{Chosen, given, CallSays, Tells, Records, RecordsSay}
use Rattle.meets.specs.Laws.Words.{OneOnly}
use Rattle.meets_records.specs.Theorems.WriteDecides.{write-hex-decides, write-srec-decides}
use Rattle.meets_report.specs.Laws.Lines.{line-one}
use Rattle.meets_report.specs.Laws.Shown.{refusal-one, blocks-of-one}
use Rattle.meets_report.specs.Theorems.Decides.{some-lent, layout-decides}

chosen-one : (y : Outcome) (w : Bool) → OneOnly (Chosen y w)
chosen-one y w b c (says.blocks v) (says.blocks u) = blocks-of-one y b c v u
chosen-one y w b c (says.empty e) (says.empty h) = refl
chosen-one y w b c (says.empty e) (says.image h) = absurd (omega arith)
chosen-one y w b c (says.image h) (says.empty e) = absurd (omega arith)
chosen-one y w b c (says.image h) (says.image e) = refl

call-one : (format : ℕ) (g : Given) (old : List ℕ) → OneOnly (CallSays format g old)
call-one format g old y z (says.hex e a) (says.hex h c) = write-hex-decides g old y z a c
call-one format g old y z (says.hex e a) (says.s-records n c) = absurd (n e)
call-one format g old y z (says.s-records n c) (says.hex e a) = absurd (n e)
call-one format g old y z (says.s-records n a) (says.s-records m c) = write-srec-decides g old format y z a c

tells-one : (z : write.Outcome) → OneOnly (Tells z)
tells-one z t u (says.turned {t = a} h l) (says.turned {t = c} e m) = ap (λ (x : List ℕ). x ++ ascii "records\n") (line-one (ascii "refused") _ a c l m)
tells-one z t u (says.turned h l) (says.written e) = absurd (omega arith)
tells-one z t u (says.written e) (says.turned h l) = absurd (omega arith)
tells-one z t u (says.written e) (says.written h) = refl

module _ (format load : ℕ) (w : Bool) (room : List ℕ) (y : Outcome) where
  recorded-one : OneOnly (Records format load w room y)
  recorded-one t u (says.refused r) (says.refused s) = refusal-one y.answer t u r s
  recorded-one t u (says.refused (report.refuses h n l)) (says.laid e c k s) = absurd (omega arith)
  recorded-one t u (says.laid e c k s) (says.refused (report.refuses h n l)) = absurd (omega arith)
  recorded-one t u (says.laid {b} {z} e c k s) (says.laid {b = b'} {z = z'} e' c' k' s') =
      let blocks : b' ≡ b = chosen-one y w b' b c' c in
      let same : z' ≡ z = call-one format (given load y b) room z' z (subst (λ (x : List Run). CallSays format (given load y x) room z') blocks k') k in
      tells-one z t u s (subst (λ (x : write.Outcome). Tells x u) same s')

some-list : (n : ℕ) → (l : List ℕ) × (length l ≡ n)
some-list n = (replicate n 0, length-replicate n 0)

pub records-decide : (format load : ℕ) (w : Bool) (file : List ℕ) (fill : ℕ) (page : Option ℕ) → OneOnly (RecordsSay format load w file fill page)
records-decide format load w file fill page t u p q = go (some-lent 16384 4096) (some-list 131072)
  where
    go : (old : Lent) × (length old.image ≡ 16384) × (length old.addresses ≡ 4096) × (length old.offsets ≡ 4096) × (length old.sizes ≡ 4096)
        → (l : List ℕ) × (length l ≡ 131072) → t ≡ u
    go x l =
        let a = p x.0 (x.1, x.2, x.3, x.4) l.0 l.1 in
        let b = q x.0 (x.1, x.2, x.3, x.4) l.0 l.1 in
        recorded-one format load w l.0 a.0 t u a.2
        (subst (λ (y : Outcome). Records format load w l.0 y u) (layout-decides file fill page x.0 b.0 a.0 b.1 a.1) b.2)
