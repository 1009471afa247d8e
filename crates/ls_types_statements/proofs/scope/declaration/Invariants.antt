-- What the loop `d` of `declaration` in src/scope.rt keeps.

use Rattle.std.proofs.Common.{◌≡◌, ◌≤◌, drop, map}
use Rattle.ls_types_elaboration.specs.Elaborated.{each}
use Rattle.ls_types_elaboration.specs.Scopes.{declared}
use Rattle.ls_types_elaboration.specs.PlacedStatements.{placed_declarator}
use Rattle.ls_types_statements.specs.ScopeViews.{body_of, slots_of, scope_of}
use Rattle.ls_types_statements.proofs.scope.declaration.Given as goal

abbrev pub invariant-loop-d : goal.invariant-loop-d
invariant-loop-d l = record {
  room : l.slots.named ≤ 128;
  same :
      each (declared (body_of l.context) l.t) (scope_of l.scope (slots_of l.slots))
      (map placed_declarator (drop l.d-index l.d-items))
      ≡ each (declared (body_of l.context) l.t) (scope_of l.initial.scope (slots_of l.initial.slots))
      (map placed_declarator l.d-items);
}
