-- A file that was made of a file of bytes holds bytes.
use Rattle.std.specs.Prelude.{◌≡◌, refl, Bool, true, false, List, [], ◌∷◌, ◌++◌, map, ℕ, zero, suc, ◌+◌, ◌/◌, ◌%◌, ◌≤◌, ◌<◌, length, get_or, take, drop, replicate}
use Rattle.std.proofs.Common.{sym, ap, subst, arith, length-append, get_or-append-add}
use Rattle.prelude.specs.Pick.{pick}
use Rattle.form_fields.specs.Contents.{Contents, Each, bytes16, field, flat, head_bytes, written}
use Rattle.form_fields.specs.Kind.{Known, is1, is2}
use Rattle.form_fields.specs.declared.Kind.{Kind}
use Rattle.form_fields.specs.Whole.{Bytes, contents_in}
use Rattle.form_rewrite.specs.Turning.{switch_to, is_switch, turned, zeros, lengthened, widened, alone, shortened, narrowed, shaped, to_form2, to_form1}
use Rattle.record_lines.specs.Laws.Spelled.{bytes-none, bytes-cons, bytes-append, bytes_take, bytes_drop}
use Rattle.says.specs.Files.{Form, form-1, form-2}
use Rattle.thm_conversions.specs.Conversions.{Turned}
use Rattle.meets_convert.specs.Laws.Turns.{turn}

-- ---- parts of a list of bytes

bytes_left : (l m : List ℕ) → Bytes (l ++ m) → Bytes l
bytes_left [] m h = bytes-none
bytes_left (b ∷ l) m h = bytes-cons b l (h 0) (bytes_left l m (λ j. h (suc j)))

bytes-right : (l m : List ℕ) → Bytes (l ++ m) → Bytes m
bytes-right l m h j = subst (λ (n : ℕ). n < 256) (get_or-append-add l m j 0) (h (length l + j))

bytes-zeros : (n : ℕ) → Bytes (replicate n 0)
bytes-zeros zero = bytes-none
bytes-zeros (suc n) = bytes-cons 0 (replicate n 0) (omega arith) (bytes-zeros n)

-- ---- fields

field-bytes : (tag : ℕ) → tag < 256 → (p : List ℕ) → length p < 65536 → Bytes p → Bytes (field tag p)
unfolding field bytes16
field-bytes tag h p short bytes =
    bytes-cons tag (length p / 256 ∷ length p % 256 ∷ p) h
    (bytes-cons (length p / 256) (length p % 256 ∷ p) (omega arith) (bytes-cons (length p % 256) p (omega arith) bytes))

bytes-field : (tag : ℕ) (p : List ℕ) → Bytes (field tag p) → Bytes p
unfolding field bytes16
bytes-field tag p h = bytes-right (tag ∷ length p / 256 ∷ length p % 256 ∷ []) p h

field-long : (tag : ℕ) (p : List ℕ) → length (field tag p) ≡ 3 + length p
unfolding field bytes16
field-long tag p = omega arith

flat-bytes : (tag : ℕ) → tag < 256 → (l : List (List ℕ)) → length (flat (field tag) l) ≤ 65536 → Each Bytes l → Bytes (flat (field tag) l)
unfolding flat
flat-bytes tag h [] short e = bytes-none
flat-bytes tag h (p ∷ l) short e =
    let long = length-append (field tag p) (flat (field tag) l) in
    let one = field-long tag p in
    bytes-append (field tag p) (flat (field tag) l) (field-bytes tag h p (omega (arith, long, one, short)) e.0)
    (flat-bytes tag h l (omega (arith, long, one, short)) e.1)

bytes-flat : (tag : ℕ) (l : List (List ℕ)) → Bytes (flat (field tag) l) → Each Bytes l
unfolding flat
bytes-flat tag [] h = tt
bytes-flat tag (p ∷ l) h =
    (bytes-field tag p (bytes_left (field tag p) (flat (field tag) l) h), bytes-flat tag l (bytes-right (field tag p) (flat (field tag) l) h))

-- ---- contents

record Plain (c : Contents) : Type 0 where
  banks : Each Bytes c.banks
  nodes : Each Bytes c.nodes
  rows : Each Bytes c.rows
  values : Bytes c.values
  limit : c.limit < 256

written-plain : (k : Kind) (c : Contents) → Bytes (written k c) → Plain c
unfolding written
written-plain k c h =
    let last = field 4 c.values ++ field 5 (c.limit ∷ []) in
    let rows = flat (field 3) c.rows ++ last in
    let nodes = flat (field 2) c.nodes ++ rows in
    let from-banks = bytes-right (head_bytes k) (flat (field k.tag) c.banks ++ nodes) h in
    let from-nodes = bytes-right (flat (field k.tag) c.banks) nodes from-banks in
    let from-rows = bytes-right (flat (field 2) c.nodes) rows from-nodes in
    let from_last = bytes-right (flat (field 3) c.rows) last from-rows in
    record {
      banks = bytes-flat k.tag c.banks (bytes_left (flat (field k.tag) c.banks) nodes from-banks);
      nodes = bytes-flat 2 c.nodes (bytes_left (flat (field 2) c.nodes) rows from-nodes);
      rows = bytes-flat 3 c.rows (bytes_left (flat (field 3) c.rows) last from-rows);
      values = bytes-field 4 c.values (bytes_left (field 4 c.values) (field 5 (c.limit ∷ [])) from_last);
      limit = bytes-field 5 (c.limit ∷ []) (bytes-right (field 4 c.values) (field 5 (c.limit ∷ [])) from_last) 0;
    }

head_bytes_lem : {k : Kind} → Known k → Bytes (head_bytes k)
head_bytes_lem is1 = bytes-none
head_bytes_lem is2 = field-bytes 16 (omega arith) (2 ∷ []) (omega arith) (bytes-cons 2 [] (omega arith) bytes-none)

tag-low : {k : Kind} → Known k → k.tag < 256
tag-low is1 = omega arith
tag-low is2 = omega arith

written-bytes : {k : Kind} → Known k → (c : Contents) → length (written k c) ≤ 65536 → Plain c → Bytes (written k c)
unfolding written
written-bytes {k} known c short p =
    let last = field 4 c.values ++ field 5 (c.limit ∷ []) in
    let rows = flat (field 3) c.rows ++ last in
    let nodes = flat (field 2) c.nodes ++ rows in
    let banks = flat (field k.tag) c.banks ++ nodes in
    let a = length-append (head_bytes k) banks in
    let b = length-append (flat (field k.tag) c.banks) nodes in
    let d = length-append (flat (field 2) c.nodes) rows in
    let e = length-append (flat (field 3) c.rows) last in
    let f = length-append (field 4 c.values) (field 5 (c.limit ∷ [])) in
    let g = field-long 4 c.values in
    bytes-append (head_bytes k) banks (head_bytes_lem known)
    (bytes-append (flat (field k.tag) c.banks) nodes (flat-bytes k.tag (tag-low known) c.banks (omega (arith, a, b, short)) p.banks)
    (bytes-append (flat (field 2) c.nodes) rows (flat-bytes 2 (omega arith) c.nodes (omega (arith, a, b, d, short)) p.nodes)
    (bytes-append (flat (field 3) c.rows) last (flat-bytes 3 (omega arith) c.rows (omega (arith, a, b, d, e, short)) p.rows)
    (bytes-append (field 4 c.values) (field 5 (c.limit ∷ []))
    (field-bytes 4 (omega arith) c.values (omega (arith, a, b, d, e, f, g, short)) p.values)
    (field-bytes 5 (omega arith) (c.limit ∷ []) (omega arith) (bytes-cons c.limit [] p.limit bytes-none))))))

-- ---- what they become

each_map : (f : List ℕ → List ℕ) → ((x : List ℕ) → Bytes x → Bytes (f x)) → (l : List (List ℕ)) → Each Bytes l → Each Bytes (map f l)
each_map f h [] e = tt
each_map f h (x ∷ l) e = (h x e.0, each_map f h l e.1)

each_at : (l : List (List ℕ)) → Each Bytes l → (i : ℕ) → Bytes (get_or l i [])
each_at [] e i = bytes-none
each_at (x ∷ l) e zero = e.0
each_at (x ∷ l) e (suc i) = each_at l e.1 i

each-rest : (l : List (List ℕ)) → Each Bytes l → Each Bytes (drop 1 l)
each-rest [] e = tt
each-rest (x ∷ l) e = e.1

either-plain : (t : Bool) (c d : Contents) → Plain c → Plain d → Plain (pick t c d)
either-plain true c d p q = p
either-plain false c d p q = q

switch-bytes : (bank : ℕ) → bank < 256 → Bytes (switch_to bank)
switch-bytes bank h =
    bytes-cons 1 (0 ∷ 0 ∷ 0 ∷ bank ∷ []) (omega arith) (bytes-append (replicate 3 0) (bank ∷ []) (bytes-zeros 3) (bytes-cons bank [] h bytes-none))

turned-bytes : (bank : ℕ) → bank < 256 → (node : List ℕ) → Bytes node → Bytes (turned bank node)
turned-bytes bank h node p = go (is_switch node)
  where
    go : (t : Bool) → Bytes (pick t (switch_to bank) node)
    go true = switch-bytes bank h
    go false = p

turn-plain : (f : Form) (c : Contents) → Plain c → Plain (turn f c)
turn-plain form-1 c p =
    either-plain (alone c) (widened c) (lengthened c) (record {
      banks = (
        bytes-append (take 10 (get_or c.banks 0 [])) (zeros 14) (bytes_take 10 (get_or c.banks 0 []) (each_at c.banks p.banks 0)) (bytes-zeros 14),
        (bytes-append (get_or c.banks 0 []) (zeros 1) (each_at c.banks p.banks 0) (bytes-zeros 1), tt),
      );
      nodes = (switch-bytes 1 (omega arith), each_map (turned 1) (turned-bytes 1 (omega arith)) c.nodes p.nodes);
      rows = each_map (λ (row : List ℕ). zeros 5 ++ row) (λ row h. bytes-append (zeros 5) row (bytes-zeros 5) h) c.rows p.rows;
      values = p.values;
      limit = p.limit;
    }) (record {
      banks = each_map (λ (b : List ℕ). b ++ zeros 1) (λ b h. bytes-append b (zeros 1) h (bytes-zeros 1)) c.banks p.banks;
      nodes = p.nodes;
      rows = p.rows;
      values = p.values;
      limit = p.limit;
    })
turn-plain form-2 c p =
    either-plain (shaped c) (narrowed c) (shortened c) (record {
      banks = (bytes_take 23 (get_or c.banks 1 []) (each_at c.banks p.banks 1), tt);
      nodes = each_map (turned 0) (turned-bytes 0 (omega arith)) (drop 1 c.nodes) (each-rest c.nodes p.nodes);
      rows = each_map (drop 5) (λ row h. bytes_drop 5 row h) c.rows p.rows;
      values = p.values;
      limit = p.limit;
    }) (record {
      banks = each_map (take 23) (λ b h. bytes_take 23 b h) c.banks p.banks;
      nodes = p.nodes;
      rows = p.rows;
      values = p.values;
      limit = p.limit;
    })

module _ (f : Form) {from to : Kind} (known : Known to) (drops : Contents → Bool) (file old : List ℕ) (n : ℕ) (new : List ℕ) where
  pub made_bytes : to.longest ≤ 65536 → Bytes file → Turned from to (turn f) drops file old n new → Bytes (take n new)
  made_bytes low small t =
      let c = contents_in from file in
      subst Bytes (sym t.made)
      (written-bytes known (turn f c) (omega (arith, low, t.answer.short))
      (turn-plain f c (written-plain from c (subst Bytes (sym t.is) small))))
