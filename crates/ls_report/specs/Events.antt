-- The events of a history, with their names as texts (bytes).
use Rattle.std.specs.Prelude.{ℕ, List, Option}
use Rattle.ls_events.specs.declared.value.Value.{Value}
use Rattle.ls_events.specs.declared.kind.Kind.{Kind}

abbrev pub Text : Type 0
Text = List ℕ

-- What happened to a call: it was made (`object = new class(arguments)`), it was called (`object.method(arguments)`),
-- it returned, or it ended by an exception.
pub data Occurrence : Type 0 where
  Made : (object class : Text) → (arguments : List Value) → Occurrence
  Called : (object method : Text) → (arguments : List Value) → Occurrence
  Returned : (value : Option Value) → Occurrence
  Trapped : (kind : Kind) → Occurrence

-- an event of a call: the thread's name, the call's number among those of its thread, and what happened
pub record Event : Type 0 where
  pub thread : Text
  pub call : ℕ
  pub occurrence : Occurrence
