-- What the loop `item` of the cycle `statements` in src/statements.rt keeps, and why the cycle ends.

use Rattle.std.proofs.Common.{◌≡◌, ◌≤◌, ◌+◌, ◌*◌, drop}
use Rattle.ls_types_elaboration.specs.Trees.{NoItem}
use Rattle.ls_types_elaboration.specs.TypedStatements.{items}
use Rattle.ls_types_elaboration.specs.PlacedStatements.{placed_statement, placed_items, placed_before, placed_other}
use Rattle.ls_types_statements.specs.ScopeViews.{body_of, loops_of, slots_of, scope_of}
use Rattle.ls_types_statements.proofs.Nodes.{statement_nodes, items_nodes, other_nodes}
use Rattle.ls_types_statements.proofs.statements.+statements.Given as goal

abbrev pub decreases-statement : goal.decreases-statement
decreases-statement l = 4 * statement_nodes (placed_statement l.s.now)

abbrev pub decreases-branches : goal.decreases-branches
decreases-branches l = 4 * (statement_nodes (placed_statement l.then.now) + other_nodes (placed_other l.otherwise.now))
    + 1

abbrev pub decreases-while_loop : goal.decreases-while_loop
decreases-while_loop l = 4 * statement_nodes (placed_statement l.body.now) + 2

abbrev pub decreases-for_loop : goal.decreases-for_loop
decreases-for_loop l = 4 * statement_nodes (placed_statement l.body.now) + 3

abbrev pub decreases-turned : goal.decreases-turned
decreases-turned l = 4 * statement_nodes (placed_statement l.body.now) + 2

abbrev pub decreases-looped : goal.decreases-looped
decreases-looped l = 4 * statement_nodes (placed_statement l.body.now) + 1

abbrev pub decreases-try_finally : goal.decreases-try_finally
decreases-try_finally l = 4 * (items_nodes (placed_items l.body.now) + items_nodes (placed_items l.finally.now)) + 3

abbrev pub decreases-synchronized : goal.decreases-synchronized
decreases-synchronized l = 4 * items_nodes (placed_items l.body.now) + 4

abbrev pub decreases-kept_block : goal.decreases-kept_block
decreases-kept_block l = 4 * items_nodes (placed_items l.items.now) + 3

abbrev pub decreases-block : goal.decreases-block
decreases-block l = 4 * items_nodes (placed_items l.items.now) + 2

abbrev pub decreases-all_items : goal.decreases-all_items
decreases-all_items l = 4 * items_nodes (placed_items l.items.now) + 1

abbrev pub decreases-one_item : goal.decreases-one_item
decreases-one_item l = 4 * items_nodes (placed_before l.item.now NoItem)

abbrev pub invariant-all_items-loop-item : goal.invariant-all_items-loop-item
invariant-all_items-loop-item l = record {
  room : l.slots.named ≤ 128;
  few : items_nodes (placed_items (drop l.item-index l.items)) ≤ items_nodes (placed_items l.items);
  same :
      items (body_of l.round.context) (loops_of l.round) (scope_of l.scope (slots_of l.slots))
      (placed_items (drop l.item-index l.items))
      ≡ items (body_of l.round.context) (loops_of l.round) (scope_of l.initial.scope (slots_of l.initial.slots))
      (placed_items l.items);
}
