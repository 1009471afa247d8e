-- What contracts see of scopes and statements.
use Rattle.std.specs.Prelude.{map, option_copied}
use Rattle.ls_checked.specs.CheckedTree as checked
use Rattle.ls_checked.specs.Plain.{plain, plain_statement}
use Rattle.ls_checked.specs.declared.tree.Statement.{Statement}
use Rattle.ls_types_statements.specs.declared.scope.Context.{Context}
use Rattle.ls_types_statements.specs.declared.scope.Scope.{Scope}
use Rattle.ls_types_statements.specs.declared.loops.Loop.{Loop}
use Rattle.ls_types_statements.specs.declared.scope.Slots.{Slots}
use Rattle.ls_types_statements.specs.declared.forms.Monitor.{Monitor}
use Rattle.ls_types_statements.specs.declared.loops.Round.{Round}
use Rattle.ls_types_elaboration.specs.Scopes as scopes
use Rattle.ls_types_elaboration.specs.TypedStatements as typing
use Rattle.ls_types_elaboration.specs.Tables.{local_of}
use Rattle.ls_types_tables.specs.ByName.{known_of}

abbrev pub body_of : Context → scopes.Body
body_of c = record { known = known_of c.known; result = c.result; span = c.span }

abbrev pub loop_of : Loop → typing.Loop
loop_of l = record { part = l.part; label = option_copied l.label }

-- the loops, the innermost first
abbrev pub loops_of : Round → typing.Loops
loops_of r = map loop_of r.loops.now

-- a block's statements and locals, beside the method's slots
abbrev pub slots_of : Slots → scopes.Slots
slots_of s = record { types = s.types.items; named = s.named }

abbrev pub scope_of : Scope → scopes.Slots → scopes.Scope
scope_of s slots = record {
  statements = map plain_statement s.statements.items;
  locals = map local_of s.locals.items;
  slots = slots;
}

abbrev pub formed_of : scopes.Slots → Statement → typing.WithSlots checked.Statement
formed_of slots s = record { tree = plain_statement s; slots = slots }

abbrev pub monitor_seen : Monitor → typing.Monitor
monitor_seen m = record { class = m.class; object = plain m.object }
