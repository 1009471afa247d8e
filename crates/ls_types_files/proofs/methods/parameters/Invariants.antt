-- What the loop `p` of `parameters` in src/methods.rt keeps.

use Rattle.std.proofs.Common.{◌≡◌, ◌≤◌, drop, map}
use Rattle.ls_types_elaboration.specs.Elaborated.{each}
use Rattle.ls_types_elaboration.specs.TypedMethods.{parameter}
use Rattle.ls_types_elaboration.specs.PlacedStatements.{placed_parameter}
use Rattle.ls_types_statements.specs.ScopeViews.{body_of, slots_of, scope_of}
use Rattle.ls_types_files.proofs.methods.parameters.Given as goal

abbrev pub invariant-loop-p : goal.invariant-loop-p
invariant-loop-p l =
    record {
      room : l.slots.named ≤ 128;
      same :
          each (parameter (body_of l.context)) (scope_of l.scope (slots_of l.slots))
          (map placed_parameter (drop l.p-index l.ps))
          ≡ each (parameter (body_of l.context)) (scope_of l.initial.scope (slots_of l.initial.slots))
          (map placed_parameter l.ps);
    }
