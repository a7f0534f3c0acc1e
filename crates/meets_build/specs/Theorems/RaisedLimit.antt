-- Ticket 14, "Raising the pass limit is harmless": "when a layout is accepted with K below its limit, every limit above K gives the same K, passes run,
-- image, spans and blocks, over the same rows", padding too. The blocks are `dk_blocks`' of the spans that the build leaves. That passes run never exceed the
-- larger of 1 and the limit is `passes-within-limit` of meets_sentences.
use Rattle.std.specs.Prelude.{◌≡◌, refl, List, ℕ, ◌≤◌, ◌<◌, take, Err, Ok, Result}
use Rattle.std.proofs.Common.{sym, ap, subst, ◌∙◌, arith}
use Rattle.prelude.specs.Refusals.{number_of}
use Rattle.prelude.specs.Theorems.Told.{number-some}
use Rattle.prelude.specs.declared.Refusal.{Refusal}
use Rattle.output.specs.Calls.{Accepted}
use Rattle.output.proofs.CallsLaws.{settled_is}
use Rattle.output.specs.Output as out
use Rattle.output.specs.Output.{room_of, build_of}
use Rattle.output.specs.Laws.RaisedLimit.{same-outcome-above}
use Rattle.output.specs.declared.Output.{Output}
use Rattle.output.specs.Output.{settled_of}
use Rattle.output.specs.declared.Built.{Built}
use Rattle.output.specs.Built.{done_with}
use Rattle.c_answers.specs.Told.{layout_told}
use Rattle.says.specs.Blocks as blocks
use Rattle.says.specs.Blocks.{DkBlocksSay}
use Rattle.meets.specs.Theorems.Blocks.{blocks-decides}
use Rattle.says.specs.Build.{Given, Lent, Outcome, BuildSays}
use Rattle.meets_sentences.specs.Typed.{Typed}
use Rattle.meets_build.specs.Laws.Contract.{lent_so, input_of}
use Rattle.meets_build.specs.Theorems.Meets.{lent_of, Contract}
use Rattle.meets_build.specs.Theorems.Promised.{outcome_of, has-outcome, build-exactly}

-- the same layout with another limit
abbrev pub with_limit : Given → ℕ → Given
with_limit g n =
    record {
      units = g.units;
      starts = g.starts;
      bank_sizes = g.bank_sizes;
      bank_offsets = g.bank_offsets;
      aligns = g.aligns;
      flags = g.flags;
      fill_bits = g.fill_bits;
      kinds = g.kinds;
      operands = g.operands;
      numbers = g.numbers;
      states = g.states;
      rows = g.rows;
      values = g.values;
      limit = n;
      fill = g.fill;
      closed = g.closed;
    }

typed-with : (g : Given) → Typed g → (n : ℕ) → n ≤ 255 → Typed (with_limit g n)
typed-with g t n h =
    record { units = t.units; sizes = t.sizes; offsets = t.offsets; aligns = t.aligns; numbers = t.numbers; limit = h }

-- an answer that refuses nothing
abbrev DoneSo : Output → Type 0
DoneSo x = (bits : ℕ) × (spans : ℕ) × (x.build ≡ done_with (layout_told x).k bits spans)

done-so : (x : Output) → (layout_told x).refusal ≡ 0 → DoneSo x
done-so x e = by x.build refl
  where
    by : (y : Result Built Refusal) → x.build ≡ y → DoneSo x
    by (Ok ended) f = (ended.length, ended.spans, f ∙ ap (λ (j : ℕ). done_with j ended.length ended.spans) (sym (told-k f)))
      where
        told-k : x.build ≡ Ok ended → (layout_told x).k ≡ ended.k
        told-k f = rw f
    by (Err why) f = absurd (let z = told-number f in omega (arith, number-some why))
      where
        told-number : x.build ≡ Err why → (layout_told x).refusal ≡ number_of why
        told-number f = rw f

-- what the spans that a build leaves give as blocks, in two lists lent for them: the sentences of `dk_blocks`
abbrev pub BlocksOf : Outcome → (starts sizes : List ℕ) → blocks.Outcome → Type 0
BlocksOf o = DkBlocksSay (take o.answer.spans o.lent.offsets) (take o.answer.spans o.lent.sizes)

module _ (g : Given) (typed : Typed g) (old : Lent) (n : ℕ) (byte : n ≤ 255) where
  typed' : Typed (with_limit g n)
  typed' = typed-with g typed n byte

  -- An accepted call with K below its limit has the same outcome with every limit above K.
  pub raised-limit-is-harmless : (o p : Outcome) → BuildSays g old o → o.answer.refusal ≡ 0 → o.answer.k < g.limit → o.answer.k < n
      → BuildSays (with_limit g n) old p → p ≡ o
  raised-limit-is-harmless o p says done below more says' =
      let x : o ≡ outcome_of g typed old = (build-exactly g typed old o).0 says in
      let y : p ≡ outcome_of (with_limit g n) typed' old = (build-exactly (with_limit g n) typed' old p).0 says' in
      let k-is : o.answer.k ≡ k = ap (λ (z : Outcome). z.answer.k) x in
      let d = done-so given (sym (ap (λ (z : Outcome). z.answer.refusal) x) ∙ done) in
      let same = same-outcome-above (input_of g typed) k (settled_is (accepted d.0 d.1 d.2)) (omega arith) n (omega arith) (lent_of old)
      (has-outcome g typed old).built (has-outcome (with_limit g n) typed' old).built in
      y ∙ ap (λ (z : Output). record { answer = layout_told z; lent = (outcome_of (with_limit g n) typed' old).lent }) same.0
      ∙ ap (λ (z : out.Lent). record { answer = layout_told given; lent = lent_so z }) same.1 ∙ sym x
    where
      given : Output
      given = build_of (input_of g typed) (room_of (lent_of old))

      k : ℕ
      k = (layout_told given).k

      accepted : (bits spans : ℕ) → given.build ≡ done_with k bits spans → Accepted
      accepted bits spans e =
          record {
            call = record {
              given = input_of g typed;
              old = lent_of old;
              answer = given;
              new = lent_of (outcome_of g typed old).lent;
              meets = (has-outcome g typed old).built;
            };
            k = k;
            bits = bits;
            spans = spans;
            done = e;
          }

  -- "and blocks"
  pub raised-limit-same-blocks : (o p : Outcome) → BuildSays g old o → o.answer.refusal ≡ 0 → o.answer.k < g.limit → o.answer.k < n
      → BuildSays (with_limit g n) old p → (starts sizes : List ℕ) (x y : blocks.Outcome) → BlocksOf o starts sizes x → BlocksOf p starts sizes y → y ≡ x
  raised-limit-same-blocks o p says done below more says' starts sizes x y ofo ofp =
      let same : p ≡ o = raised-limit-is-harmless o p says done below more says' in
      blocks-decides (take o.answer.spans o.lent.offsets) (take o.answer.spans o.lent.sizes) starts sizes y x
      (subst (λ (q : Outcome). BlocksOf q starts sizes y) same ofp) ofo
