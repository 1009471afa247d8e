-- Lists in trees.
use Rattle.std.proofs.Common.{◌≡◌, max, List, [], ◌∷◌, ◌++◌, refl, ap, arith, map}
use Rattle.ls_tree.specs.declared.tree.Expression.{Expression as Tree}
use Rattle.ls_tree.specs.Trees as trees
use Rattle.ls_tree.specs.Trees.{Text, Expression, Expressions, MoreExpressions, listed}
use Rattle.ls_tree.specs.WellFormed.{expression_height, expressions_height, value_height, declarators_height}
use Rattle.ls_tree.specs.Views.{bare, expressions_of}

-- one element more of a list
pub map_push : {A B : Type 0} (f : A → B) (xs : List A) (x : A) → map f (xs ++ x ∷ []) ≡ map f xs ++ f x ∷ []
map_push f [] x = refl
map_push {B = B} f (y ∷ ys) x = ap (λ (l : List B). f y ∷ l) (map_push f ys x)

-- the height of one expression more
pub expressions_height_push : (es : List Tree) (e : Tree) →
    expressions_height (expressions_of (es ++ e ∷ [])) ≡
    max (expressions_height (expressions_of es)) (expression_height (bare e))
expressions_height_push [] e = omega arith
expressions_height_push (x ∷ es) e = omega (arith, expressions_height_push es e)

-- the height of one declarator more
pub declarators_height_push : (ds : List trees.Declarator) (d : trees.Declarator) →
    declarators_height (ds ++ d ∷ []) ≡ max (declarators_height ds) (value_height d.value)
declarators_height_push [] d = omega arith
declarators_height_push (x ∷ ds) d = omega (arith, declarators_height_push ds d)
