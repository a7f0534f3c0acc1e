-- Laws that Theorems/Told rests on.
use Rattle.std.specs.Prelude.{ℕ, max, Bool, true, false, ◌≡◌, ltb, length, Ok, Err, Result}
use Rattle.std.proofs.Math.Path.{refl}
use Rattle.std.proofs.Common.{ltb-true, ltb-false}
use Rattle.prelude.specs.Limits.{max_nodes, max_rows}
use Rattle.prelude.specs.Pick.{pick}
use Rattle.prelude.specs.declared.Refusal.TheVariants.{Malformed, FillBitDropped, TooShort}
use Rattle.prelude.specs.declared.Refusal.{Refusal}
use Rattle.form_fields.specs.declared.Kind.{Kind}
use Rattle.form_fields.specs.declared.Shape.{Shape}
use Rattle.form_fields.specs.Contents.{Contents, written}
use Rattle.form_convert.specs.Convert.{stray, answer_of, answer_for, answer_by}
use Rattle.form_convert.specs.Told.{ConvertTold, Counts, bit, broken, long, names, nodes, rows, short, taken, told_conversion}

module _ (k : Kind) (c d : Contents) (drops : Bool) (room : ℕ) (s : Shape) where
  abbrev most : ℕ
  most = max (length c.nodes) (length d.nodes)

  abbrev size : ℕ
  size = length (written k d)

  counts : ltb max_nodes most ≡ false → ltb max_rows (length c.rows) ≡ false → ltb (stray c) (length c.nodes) ≡ false → Counts c d
  counts p q g =
      record {
        nodes = ltb-false max_nodes most p;
        rows = ltb-false max_rows (length c.rows) q;
        names = ltb-false (stray c) (length c.nodes) g;
      }

  by_tests : (n r f l b t : Bool) → ltb max_nodes most ≡ n → ltb max_rows (length c.rows) ≡ r → ltb (stray c) (length c.nodes) ≡ f
      → ltb k.longest size ≡ l → drops ≡ b → ltb room size ≡ t
      → ConvertTold k (Ok s) c d drops room (told_conversion
      (pick n (Err (Malformed 0))
      (pick r (Err (Malformed 1))
      (pick f (Err (Malformed (stray c)))
      (pick l (Err (Malformed 0)) (pick b (Err FillBitDropped) (pick t (Err (TooShort 0)) (Ok size))))))))
  by_tests true r f l b t p q g h e z = nodes s refl (ltb-true max_nodes most p)
  by_tests false true f l b t p q g h e z = rows s refl (ltb-false max_nodes most p) (ltb-true max_rows (length c.rows) q)
  by_tests false false true l b t p q g h e z =
      names s refl (ltb-false max_nodes most p) (ltb-false max_rows (length c.rows) q) (ltb-true (stray c) (length c.nodes) g)
  by_tests false false false true b t p q g h e z = long s refl (counts p q g) (ltb-true k.longest size h)
  by_tests false false false false true t p q g h e z = bit s refl (counts p q g) (ltb-false k.longest size h) e
  by_tests false false false false false true p q g h e z =
      short s refl (counts p q g) (ltb-false k.longest size h) e (ltb-true room size z)
  by_tests false false false false false false p q g h e z =
      taken s refl (counts p q g) (ltb-false k.longest size h) e (ltb-false room size z)

  sound-told : ConvertTold k (Ok s) c d drops room (told_conversion (answer_for k c d drops room))
  unfolding answer_of
  sound-told =
      by_tests (ltb max_nodes most) (ltb max_rows (length c.rows)) (ltb (stray c) (length c.nodes)) (ltb k.longest size) drops (ltb room size) refl refl
      refl refl refl refl

pub answer-told : (k : Kind) (form : Result Shape Refusal) (c d : Contents) (drops : Bool) (room : ℕ)
    → ConvertTold k form c d drops room (told_conversion (answer_by k form c d drops room))
answer-told k (Err why) c d drops room = broken refl
answer-told k (Ok s) c d drops room = sound-told k c d drops room s
