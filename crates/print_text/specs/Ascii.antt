-- Text as the bytes that are printed: each character here is one byte, its ASCII code.
use Rattle.std.specs.Prelude.{List, ℕ}
use Prim.Native.Char.{code}
use Prim.Native.String.{String, [], ◌∷◌}

abbrev pub ascii : String → List ℕ
ascii [] = List.[]
ascii (c ∷ cs) = List.◌∷◌ (code c) (ascii cs)
