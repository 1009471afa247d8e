-- What an observer notes that notes nothing.
use Rattle.std.specs.Prelude.{Bool}
use Rattle.ls_events.specs.declared.event.Event.{Event}

abbrev pub nothing_noted : Unit {0} → Event → Unit {0}
nothing_noted m e = tt

-- what a noted value stands for
abbrev pub no_note : Bool → Unit {0}
no_note n = tt
