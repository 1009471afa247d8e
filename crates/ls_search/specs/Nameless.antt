-- Events that name no object, and what an observer notes of these alone.
use Rattle.std.specs.Prelude.{Bool, true, false, Option, Some, None, if◌then◌else◌}
use Rattle.ls_events.specs.declared.value.Value.{Value}
use Rattle.ls_events.specs.declared.value.Value.TheVariants.{Int, Boolean, Reference, Pair}
use Rattle.ls_events.specs.declared.event.Event.{Event}
use Rattle.ls_events.specs.declared.event.Happening.{Happening}
use Rattle.ls_events.specs.declared.event.Happening.TheVariants.{Called, Returned, Trapped}

abbrev pub is_nameless_value : Value → Bool
is_nameless_value (Int z) = true
is_nameless_value (Boolean b) = true
is_nameless_value (Reference n) = false
is_nameless_value (Pair n m) = false

abbrev pub is_nameless_result : Option Value → Bool
is_nameless_result None = true
is_nameless_result (Some v) = is_nameless_value v

abbrev pub is_nameless : Happening → Bool
is_nameless Called = true
is_nameless (Returned v) = is_nameless_result v
is_nameless (Trapped kind) = true

-- after an event that names an object nothing is noted any more
abbrev pub nameless_next : {S : Type 0} → (S → Event → S) → Option S → Event → Option S
nameless_next next None e = None
nameless_next next (Some m) e = if is_nameless e.happening then Some (next m e) else None

abbrev pub nameless_bad : {S : Type 0} → (S → Bool) → Option S → Bool
nameless_bad is_bad None = false
nameless_bad is_bad (Some m) = is_bad m
