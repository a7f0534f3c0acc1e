-- What the types of `dk_build`'s parameters hold, as far as the sentences need it: units are u16, sizes, offsets, alignments and numbers u32, the limit u8.
use Rattle.std.specs.Prelude.{ℕ, ◌≤◌, get_or}
use Rattle.says.specs.Build.{Given}

pub record Typed (g : Given) : Type 0 where
  pub units : (b : ℕ) → get_or g.units b 0 ≤ 65535
  pub sizes : (b : ℕ) → get_or g.bank_sizes b 0 ≤ 4294967295
  pub offsets : (b : ℕ) → get_or g.bank_offsets b 0 ≤ 4294967295
  pub aligns : (b : ℕ) → get_or g.aligns b 0 ≤ 4294967295
  pub numbers : (j : ℕ) → get_or g.numbers j 0 ≤ 4294967295
  pub limit : g.limit ≤ 255
