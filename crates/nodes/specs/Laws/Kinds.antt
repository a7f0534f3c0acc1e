-- Laws of the kinds: what each does, by its number, and the numbers of each that does so.
use Rattle.std.specs.Prelude.{ℕ, ◌≤◌, ◌<◌, ◌≡◌, true, false, ◌⊎◌, leb}
use Rattle.std.proofs.Common.{sym, subst, ◌∙◌, inl, inr, arith, le-leb, lt-ltb, leb-true, ne_eqb}
use Rattle.std.proofs.Math.Decide.{dec_le}
use Rattle.std.proofs.lemmas.Bool.{lt-leb}
use Rattle.prelude.specs.Laws.Bools.{both}
use Rattle.nodes.specs.declared.kinds.Doing.{Doing}
use Rattle.nodes.specs.declared.kinds.Doing.TheVariants.{Stays, Switches, Symbol, Adds, Aligns, Sets, Unknown}
use Rattle.nodes.specs.Kinds.{is_item, adds_number, does_of, by_doing}

module _ (kind : ℕ) where
  pub does-stay : (kind ≡ 0) ⊎ (kind ≡ 10) → Stays ≡ does_of kind
  does-stay (inl e) = rw e
  does-stay (inr e) = rw e

  pub does-switch : kind ≡ 1 → Switches ≡ does_of kind
  does-switch e = rw e

  pub does-mark : 2 ≤ kind → kind ≤ 3 → Symbol ≡ does_of kind
  does-mark low high =
      elim (dec_le kind 2) [
        | yes h ↦ (let e : kind ≡ 2 = omega arith in rw e)
        | no h ↦ (let e : kind ≡ 3 = omega arith in rw e)
      ]

  pub does-add : 4 ≤ kind → kind ≤ 7 → Adds ≡ does_of kind
  does-add low high =
      rw (ne_eqb kind 1 (λ e. omega arith), ne_eqb kind 2 (λ e. omega arith), ne_eqb kind 3 (λ e. omega arith), le-leb 4 kind low, le-leb kind 7 high)

  pub does-align : kind ≡ 8 → Aligns ≡ does_of kind
  does-align e = rw e

  pub does-set : kind ≡ 9 → Sets ≡ does_of kind
  does-set e = rw e

  pub does-nothing-known : 10 < kind → Unknown ≡ does_of kind
  does-nothing-known h =
      rw (
        ne_eqb kind 1 (λ e. omega arith),
        ne_eqb kind 2 (λ e. omega arith),
        ne_eqb kind 3 (λ e. omega arith),
        le-leb 4 kind (omega arith),
        lt-leb kind 7 (omega arith),
        ne_eqb kind 8 (λ e. omega arith),
        ne_eqb kind 9 (λ e. omega arith),
        lt-ltb 10 kind h,
      )

-- The numbers of the kinds that do so, in document 01's figures.
pub data Numbers (kind : ℕ) : Doing → Type 0 where
  stay : (kind ≡ 0) ⊎ (kind ≡ 10) → Numbers kind Stays
  switch : kind ≡ 1 → Numbers kind Switches
  mark : 2 ≤ kind → kind ≤ 3 → Numbers kind Symbol
  add : 4 ≤ kind → kind ≤ 7 → Numbers kind Adds
  align : kind ≡ 8 → Numbers kind Aligns
  set : kind ≡ 9 → Numbers kind Sets
  other : 10 < kind → Numbers kind Unknown

module _ (kind : ℕ) where
  is : {d : Doing} → d ≡ does_of kind → Numbers kind d → Numbers kind (does_of kind)
  is e n = subst (Numbers kind) e n

  from-eight : 8 ≤ kind → Numbers kind (does_of kind)
  from-eight h =
      elim (dec_le kind 8) [
        | yes e ↦ is (does-align kind (omega arith)) (align (omega arith))
        | no above ↦
            elim (dec_le kind 9) [
              | yes e ↦ is (does-set kind (omega arith)) (set (omega arith))
              | no past ↦
                  elim (dec_le kind 10) [
                    | yes e ↦ (let ten : kind ≡ 10 = omega arith in is (does-stay kind (inr ten)) (stay (inr ten)))
                    | no more ↦ is (does-nothing-known kind (omega arith)) (other (omega arith))
                  ]
            ]
      ]

  pub numbers-told : Numbers kind (does_of kind)
  numbers-told =
      elim (dec_le kind 0) [
        | yes e ↦ (let none : kind ≡ 0 = omega arith in is (does-stay kind (inl none)) (stay (inl none)))
        | no some ↦
            elim (dec_le kind 1) [
              | yes e ↦ is (does-switch kind (omega arith)) (switch (omega arith))
              | no more ↦
                  elim (dec_le kind 3) [
                    | yes low ↦ is (does-mark kind (omega arith) low) (mark (omega arith) low)
                    | no past ↦
                        elim (dec_le kind 7) [
                          | yes low ↦ is (does-add kind (omega arith) low) (add (omega arith) low)
                          | no high ↦ from-eight (omega arith)
                        ]
                  ]
            ]
      ]

  -- where what a kind does is known, so are its numbers
  pub numbers : {d e : Doing} → d ≡ does_of kind → d ≡ e → Numbers kind e
  numbers f g = subst (Numbers kind) (sym f ∙ g) numbers-told

-- what holds of each case holds of the one that is taken
pub in-each : {X : Type 0} (P : X → Type 0) (d : Doing) {a b c s u : X} → P a → P b → P c → P s → P u → P (by_doing d a b c s u)
in-each P Stays a b c s u = a
in-each P Switches a b c s u = a
in-each P Symbol a b c s u = a
in-each P Adds a b c s u = b
in-each P Aligns a b c s u = c
in-each P Sets a b c s u = s
in-each P Unknown a b c s u = u

-- ---- sizes

module _ (kind : ℕ) where
  pub adds-so : 4 ≤ kind → kind ≤ 7 → adds_number kind ≡ true
  adds-so low high = rw (le-leb 4 kind low, le-leb kind 7 high)

  -- a written item has its number for its size, and a label has none
  pub written-adds : is_item kind ≡ true → adds_number kind ≡ true
  written-adds e =
      let h = both (leb 4 kind) (leb kind 6) e in
      adds-so (leb-true 4 kind h.0) (omega (arith, leb-true kind 6 h.1))

  pub label-adds-none : kind ≡ 2 → adds_number kind ≡ false
  label-adds-none e = rw e
