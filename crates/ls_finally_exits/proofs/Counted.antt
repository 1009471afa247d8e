-- How many statements there are.
use Rattle.std.proofs.Common.{◌≡◌, suc, length, refl, ap, List, [], ◌∷◌}
use Rattle.ls_lowered.specs.declared.tree.Statement.{Statement}
use Rattle.ls_lowered.specs.Plain.{statements_of}
use Rattle.ls_finally_exits.specs.Exits.{count}

pub counted : (ss : List Statement) → count (statements_of ss) ≡ length ss
counted [] = refl
counted (s ∷ ss) = ap suc (counted ss)
