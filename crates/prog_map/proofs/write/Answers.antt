-- `write` meets its contract: there is room for every map's text, what is handed on is the text, and the sentence says it (`map-text-exactly`). A file holds
-- bytes.
use Rattle.std.proofs.Common.{◌≡◌, ◌≤◌, ◌+◌, ◌∙◌, ℕ, List, sym, ap, arith, length, take, drop, take_at}
use Rattle.std.proofs.Math.Seq.{length-sets}
use Rattle.std.proofs.lemmas.List.Edits.{sets-eq}
use Rattle.print_text.specs.Puts.{Writes}
use Rattle.print_map.specs.Text.{map_text}
use Rattle.meets_map_text.proofs.Promised.{map-text-exactly}
use Rattle.prog_map.proofs.write.Goals as goal

-- text that is written from the front on, and so many bytes of the buffer
front-is : {text old new : List ℕ} {end : ℕ} (count : ℕ) → Writes text old 0 end new → end ≤ length new → count ≡ length text → take count new ≡ text
front-is {text} {old} {new} {end} count w fits counted =
    let long : length new ≡ length old = ap length w.buffer ∙ length-sets old 0 text in
    ap (take count) (w.buffer ∙ sets-eq text old 0 (omega (arith, w.place)))
    ∙ take_at text (drop (0 + length text) old) count (sym counted)

pub returns : goal.returns
returns g c =
    let a = c.args in
    let written = c.write_map-end.ensures in
    let room = c.write_map-end.array_long in
    let counted : c.print.result ≡ length (map_text a.file.now a.fill a.page) =
    omega (arith, c.print.ensures, written.writes.place, written.upper_bound, room) in
    let front = front-is c.print.result written.writes (omega (arith, written.upper_bound, room)) counted in
    record {
      within = omega (arith, c.print.ensures);
      says = (map-text-exactly a.file.now (λ i. (c.type_inv.file i).fits) a.fill a.page _).1 front;
    }
