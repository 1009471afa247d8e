-- How many nodes a statement has: the measure of the recursion on statements.
use Rattle.std.proofs.Common.{◌≡◌, ℕ, suc, ◌+◌, Option, Some, None, refl, arith, ap, ◌∙◌, List, length, ◌<◌, drop}
use Rattle.std.proofs.Common.{get_or, sym, add-one, drop-cons}
use Rattle.ls_tree.specs.declared.tree.BlockItem.{BlockItem}
use Rattle.ls_tree.specs.declared.tree.BlockItem.TheVariants as rows
use Rattle.ls_types_elaboration.specs.PlacedStatements.{if_of, placed_before, placed_items}
use Rattle.ls_types_elaboration.specs.Trees.{Expression, Statement, Items, Block, Empty, If, IfElse, While, For, Break}
use Rattle.ls_types_elaboration.specs.Trees.{Continue, Return, Try, Perform, Synchronized, NoItem, Do, Declare}

abbrev mutual
  -- how many nodes a statement has
  pub statement_nodes : Statement → ℕ
  statement_nodes (Block items) = items_nodes items + 1
  statement_nodes Empty = 1
  statement_nodes (If condition first) = statement_nodes first + 1
  statement_nodes (IfElse condition first second) = statement_nodes first + statement_nodes second + 1
  statement_nodes (While label condition body) = statement_nodes body + 1
  statement_nodes (For label opening condition updates body) = statement_nodes body + 1
  statement_nodes (Break label span) = 1
  statement_nodes (Continue label span) = 1
  statement_nodes (Return value span) = 1
  statement_nodes (Try body finally) = items_nodes body + items_nodes finally + 1
  statement_nodes (Synchronized target body) = items_nodes body + 2
  statement_nodes (Perform simple) = 1

  -- how many nodes the items of a block have
  pub items_nodes : Items → ℕ
  items_nodes NoItem = 0
  items_nodes (Do first others) = statement_nodes first + items_nodes others + 1
  items_nodes (Declare first others) = items_nodes others + 1

-- how many nodes the other branch has
abbrev pub other_nodes : Option Statement → ℕ
other_nodes None = 0
other_nodes (Some s) = statement_nodes s

pub nodes-if_of : (c : Expression) (s : Statement) (o : Option Statement) →
    statement_nodes (if_of c s o) ≡ statement_nodes s + other_nodes o + 1
nodes-if_of c s None = omega arith
nodes-if_of c s (Some t) = refl

pub nodes-before : (item : BlockItem) (rest : Items) →
    items_nodes (placed_before item rest) ≡ items_nodes (placed_before item NoItem) + items_nodes rest
nodes-before (rows.Statement s) rest = omega arith
nodes-before (rows.Declaration d) rest = omega arith

-- the item at a place, and those after it
pub items_at : (xs : List BlockItem) (i : ℕ) (x : BlockItem) → i < length xs → x ≡ get_or xs i x
    → placed_items (drop i xs) ≡ placed_before x (placed_items (drop (i + 1) xs))
items_at xs i x low is =
    rw add-one (
    ap placed_items (drop-cons xs i x low)
    ∙ ap (λ (y : BlockItem). placed_before y (placed_items (drop (suc i) xs))) (sym is))

-- the nodes of the items from a place on
pub nodes_at : (xs : List BlockItem) (i : ℕ) (x : BlockItem) → i < length xs → x ≡ get_or xs i x
    → items_nodes (placed_items (drop i xs)) ≡ items_nodes (placed_before x NoItem) + items_nodes
    (placed_items (drop (i + 1) xs))
nodes_at xs i x low is = ap items_nodes (items_at xs i x low is) ∙ nodes-before x (placed_items (drop (i + 1) xs))
