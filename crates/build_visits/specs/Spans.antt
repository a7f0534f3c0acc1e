-- The spans of a row (document 01, "Image, spans, blocks").
use Rattle.std.specs.Prelude.{ℕ, Bool, List, [], ◌∷◌, ◌++◌, map, ℤ, pos, length, drop, Option, Result, Ok, Err}
use Rattle.prelude.specs.Pick.{pick}
use Rattle.prelude.specs.declared.Refusal.{Refusal}
use Rattle.iter.specs.Address.{address_of}
use Rattle.nodes.specs.Kinds.{is_span_kind, size_of}
use Rattle.nodes.specs.declared.Node.{Node}
use Rattle.blocks.specs.Offsets.{word_of}
use Rattle.build_visits.specs.declared.Visit.{Visit}
use Rattle.build_visits.specs.Visits.{position_of, each}

-- "Spans are labels (size 0) and written items in node order, with address and offset or none."
pub record Span : Type 0 where
  pub address : ℤ
  pub offset : Option ℕ
  pub size : ℕ

abbrev pub is_span : Node → Bool
is_span n = is_span_kind n.kind

-- the address of a position, in whole units; 0 in a bank that no address can be told of, which a sound table has none of
abbrev pub address_told : Result ℤ Refusal → ℤ
address_told (Ok address) = address
address_told (Err why) = pos 0

abbrev pub span_at : Visit → Span
span_at v =
    record {
      address = address_told (address_of v.def (position_of v) v.node.index);
      offset = v.out;
      size = size_of v.node;
    }

abbrev pub span_of : Visit → List Span
span_of v = pick (is_span v.node) (span_at v ∷ []) []

abbrev pub spans_of : List Visit → List Span
spans_of vs = each span_of vs

-- what stands in a lent list afterwards: the new numbers, then its old contents past what was written
abbrev pub over {ℓ} : {X : Type ℓ} → List X → List X → List X
over new old = new ++ drop (length new) old

-- the three lent lists of spans: addresses, offset words, sizes
abbrev pub addresses : List Span → List ℤ
addresses spans = map (λ (s : Span). s.address) spans

abbrev pub words : List Span → List ℕ
words spans = map (λ (s : Span). word_of s.offset) spans

abbrev pub sizes : List Span → List ℕ
sizes spans = map (λ (s : Span). s.size) spans
