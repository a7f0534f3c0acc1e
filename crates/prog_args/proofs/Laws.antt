-- Laws of digits, one after the other: a law for each way that a turn of the loop goes.
use Rattle.std.specs.Prelude.{◌≡◌, List, ℕ, ◌+◌, ◌*◌, ◌≤◌, ◌<◌, length, drop, get_or, None, Some}
use Rattle.std.proofs.Common.{add-one, drop-cons, drop_of_length-le, le-leb, le-ltb, lt-ltb}
use Rattle.prelude.specs.Limits.{max_position}
use Rattle.prelude.specs.Laws.Pick.{pick_true, pick-false}
use Rattle.prog_args.specs.Number.{digit_value, number_from, spelled_in}

pub some-text : (base : ℕ) (l : List ℕ) (i : ℕ) → i < length l → spelled_in base (drop i l) ≡ number_from base 0 (drop i l)
some-text base l i h = rw (drop-cons l i 0 h)

module _ (base : ℕ) (l : List ℕ) (i value : ℕ) where
  pub no_digit : i < length l → base ≤ digit_value (get_or l i 0) → number_from base value (drop i l) ≡ None
  unfolding number_from
  no_digit h e = rw (drop-cons l i 0 h) (pick-false _ _ (le-ltb (digit_value (get_or l i 0)) base e))

  pub digit-on : i < length l → digit_value (get_or l i 0) < base
      → number_from base value (drop i l) ≡ number_from base (base * value + digit_value (get_or l i 0)) (drop (i + 1) l)
  unfolding number_from
  digit-on h e = rw (add-one i, drop-cons l i 0 h) (pick_true _ _ (lt-ltb (digit_value (get_or l i 0)) base e))

  pub digits-end : length l ≤ i → value ≤ max_position → number_from base value (drop i l) ≡ Some value
  unfolding number_from
  digits-end h e = rw (drop_of_length-le l {i = i} h, le-leb value max_position e)
