-- Blocks in trees.
use Rattle.std.proofs.Common.{◌≡◌, max, List, [], ◌∷◌, ◌++◌, arith}
use Rattle.ls_tree.specs.Trees.{Piece, Doing, Declaring, collected}
use Rattle.ls_tree.specs.WellFormed.{items_height, piece_height}

-- the height of one item more
pub collected_height_push : (ps : List Piece) (p : Piece) →
    items_height (collected (ps ++ p ∷ [])) ≡ max (items_height (collected ps)) (piece_height p)
collected_height_push [] (Doing a) = omega arith
collected_height_push [] (Declaring d) = omega arith
collected_height_push (Doing a ∷ ps) p = omega (arith, collected_height_push ps p)
collected_height_push (Declaring d ∷ ps) p = omega (arith, collected_height_push ps p)
