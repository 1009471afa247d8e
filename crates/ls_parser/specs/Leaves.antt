-- Tokens that begin others.
use Rattle.std.specs.Prelude.{List, ◌∷◌}
use Rattle.ls_parser_spelling.specs.Places.{Spot}

-- the rest comes after some tokens, or after none
pub data Leaves : List Spot → List Spot → Type 0 where
  all_left : {rest : List Spot} → Leaves rest rest
  one_less : {s : Spot} {ss rest : List Spot} → Leaves ss rest → Leaves (s ∷ ss) rest
