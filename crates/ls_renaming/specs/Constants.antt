-- Methods whose constants name no object.
use Rattle.std.specs.Prelude.{List, [], ◌∷◌}
use Rattle.ls_checked.specs.CheckedTree.{Method}
use Rattle.ls_meaning.specs.Constants.{UsesConstants}

abbrev pub MethodsHaveConstants : List Method → Type 0
MethodsHaveConstants [] = Unit {0}
MethodsHaveConstants (m ∷ ms) = UsesConstants m.body × MethodsHaveConstants ms
