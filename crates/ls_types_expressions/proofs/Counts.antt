-- There are as many arguments with places as there are arguments.
use Rattle.std.proofs.Common.{◌≡◌, refl, ◌+◌, ◌∙◌, ℕ, suc, List, [], ◌∷◌, length, ap, arith}
use Rattle.ls_types_elaboration.specs.Placed.{placed_all}
use Rattle.ls_types_elaboration.specs.TypedExpressions.{argument_count}

one_more : (n : ℕ) → n + 1 ≡ suc n
one_more n = omega arith

pub counted : (es : List _) → argument_count (placed_all es) ≡ length es
counted [] = refl
counted (e ∷ es) = ap (λ n. n + 1) (counted es) ∙ one_more (length es)
