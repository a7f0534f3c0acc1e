-- `prog_reason`: its text meets the sentence, which leaves one.
use Rattle.std.specs.Prelude.{◌≡◌, Bool, true, false, List, [], ◌∷◌, ℕ, leb, length}
use Rattle.std.proofs.Math.Path.{refl}
use Rattle.std.proofs.Common.{ap, subst, arith, leb-true, leb-false}
use Rattle.prelude.specs.Pick.{pick}
use Rattle.prelude.specs.declared.Refusal.TheVariants.{Malformed}
use Rattle.print_rehex.specs.Rehex.{longest}
use Rattle.print_text.specs.Ascii.{ascii}
use Rattle.print_text.specs.Lines.{refusal_text}
use Rattle.record_scan.specs.Reading.{read_text}
use Rattle.record_reason.specs.Reasons.{why_of}
use Rattle.record_reason.specs.declared.Why.{Why}
use Rattle.c_answers.specs.Parts.{reason_told}
use Rattle.c_answers.specs.declared.DkReason.{DkReason}
use Rattle.meets.specs.Laws.Words.{OneOnly}
use Rattle.says.specs.Lines.{Line}
use Rattle.says.specs.Texts.{ReasonText, too_long, told}
use Rattle.meets_reason.specs.Theorems.Meets.{reason-meets}
use Rattle.meets_reason.specs.Theorems.Decides.{dk-reason-decides}
use Rattle.meets_report.specs.Laws.Lines.{line-one, line-meets}
use Rattle.meets_texts.specs.Printed.{why_numbers, why_text, reason_text}

module _ (format load : ℕ) (source : List ℕ) where
  abbrev why : Why
  why = why_of format load source (read_text format load source)

  pub reason-text-meets : ReasonText format load source (reason_text format load source)
  unfolding reason_text
  reason-text-meets = by_length (leb (length source) longest) refl
    where
      by_length : (t : Bool) → leb (length source) longest ≡ t → ReasonText format load source (pick t (why_text why) (refusal_text (Malformed 0)))
      by_length true t =
          told (leb-true (length source) longest t) (reason-meets format load source [] (reason_told why) [] refl refl)
          (line-meets (ascii "reason") (why_numbers why))
      by_length false f = too_long (leb-false (length source) longest f) (line-meets (ascii "refused") (4 ∷ 0 ∷ []))

  abbrev numbers : DkReason → List ℕ
  numbers w = w.reason ∷ w.line ∷ w.first ∷ w.second ∷ []

  pub reason-text-decides : OneOnly (ReasonText format load source)
  reason-text-decides t u (too_long h l) (too_long g m) = line-one (ascii "refused") (4 ∷ 0 ∷ []) t u l m
  reason-text-decides t u (too_long h l) (told g s m) = absurd (omega arith)
  reason-text-decides t u (told h r l) (too_long g m) = absurd (omega arith)
  reason-text-decides t u (told {w} h r l) (told {w = v} g s m) =
      let same : v ≡ w = ap (λ (x : DkReason × List ℕ). x.0) (dk-reason-decides format load source [] (v, []) (w, []) s r) in
      line-one (ascii "reason") (numbers w) t u l (subst (λ (x : DkReason). Line (ascii "reason") (numbers x) u) same m)
