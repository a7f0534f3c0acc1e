-- `dk_map` says its sentence: the map of the table, told in numbers. The elements of what is given are as small, and the lists as long, as their types say.
use native.Mathlib.Omega.{arith}
use Rattle.meets_map.specs.Theorems.Meets.{map-meets}
use Rattle.denkumari.proofs.MapLaws.{map-told}
use Rattle.denkumari.proofs.maps.dk_map.Goals as goal

pub returns : goal.returns
returns c =
    map-meets _ (record {
      units = λ b. omega (arith, c.shared_slice_known-1.given b);
      sizes = λ b. omega (arith, c.shared_slice_known-2-1.given b);
      offsets = λ b. omega (arith, c.shared_slice_known-3-1.given b);
      aligns = λ b. omega (arith, c.shared_slice_known-4-1.given b);
      numbers = λ b. omega (arith, c.shared_slice_known-9-1.given b);
      limit = omega (arith, c.ranges.limit);
    }) _ (record {
      banks = c.first-2-1.given;
      positions = c.second-2-1.given;
      outputs = c.third-2-1.given;
      sizes = c.fourth-2-1.given;
    }) _ _ (map-told c.make_banks-banks.ensures c.choose-choices.ensures c.tell_map.ensures c.map_nodes.ensures)
