-- The calls at the start.
use Rattle.std.proofs.Common.{◌≡◌, ℕ, List, [], ◌∷◌, map, refl, ap}
use Rattle.ls_checked.specs.declared.program.ThreadProgram.{ThreadProgram}
use Rattle.ls_checked.specs.PlainProgram.{plain_thread}

abbrev pub zeros : List ThreadProgram → List ℕ
zeros ts = map (λ t. 0) ts

pub zeros_is : (ts : List ThreadProgram) → zeros ts ≡ map (λ t. 0) (map plain_thread ts)
zeros_is [] = refl
zeros_is (t ∷ ts) = ap (λ l. 0 ∷ l) (zeros_is ts)
