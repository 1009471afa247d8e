-- What the loop `item` of the cycle `statements` in src/statements.rt keeps, and why the cycle ends.

use Rattle.std.proofs.Common.{◌≡◌, ◌+◌, ◌*◌, ◌≤◌, ◌++◌, drop}
use Rattle.ls_tree.specs.Trees.{NoItem, put_before}
use Rattle.ls_parser_spelling.specs.Kinds.{lexemes_of}
use Rattle.ls_parser_spelling.specs.Spelling.{spell_items}
use Rattle.ls_tree.specs.Views.{bare_statement, bare_other, bare_piece, items_of}
use Rattle.ls_parser_spelling.proofs.Nodes.{statement_nodes, items_nodes, other_nodes}
use Rattle.ls_parser_spelling.proofs.statements.+statements.Given as goal

abbrev pub decreases-put_statement : goal.decreases-put_statement
decreases-put_statement l = 4 * statement_nodes (bare_statement l.s.now)

abbrev pub decreases-put_if : goal.decreases-put_if
decreases-put_if l = 4 * (statement_nodes (bare_statement l.then.now) + other_nodes (bare_other l.otherwise.now)) + 1

abbrev pub decreases-put_while : goal.decreases-put_while
decreases-put_while l = 4 * statement_nodes (bare_statement l.body.now) + 1

abbrev pub decreases-put_for : goal.decreases-put_for
decreases-put_for l = 4 * statement_nodes (bare_statement l.body.now) + 1

abbrev pub decreases-put_try : goal.decreases-put_try
decreases-put_try l = 4 * (items_nodes (items_of l.body.now) + items_nodes (items_of l.finally.now)) + 3

abbrev pub decreases-put_synchronized : goal.decreases-put_synchronized
decreases-put_synchronized l = 4 * items_nodes (items_of l.body.now) + 3

abbrev pub decreases-put_block : goal.decreases-put_block
decreases-put_block l = 4 * items_nodes (items_of l.items.now) + 2

abbrev pub decreases-put_items : goal.decreases-put_items
decreases-put_items l = 4 * items_nodes (items_of l.items.now) + 1

abbrev pub decreases-put_item : goal.decreases-put_item
decreases-put_item l = 4 * items_nodes (put_before (bare_piece l.item.now) NoItem)

abbrev pub invariant-put_items-loop-item : goal.invariant-put_items-loop-item
invariant-put_items-loop-item l = record {
  few : items_nodes (items_of (drop l.item-index l.items)) ≤ items_nodes (items_of l.items);
  same : lexemes_of l.out.items ++ spell_items (items_of (drop l.item-index l.items)) ≡ lexemes_of l.initial.out.items
      ++ spell_items (items_of l.items);
}
