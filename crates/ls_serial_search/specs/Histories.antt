-- Histories, as lists.
use Rattle.std.specs.Prelude.{List, map}
use Rattle.std.specs.declared.vec.Vec.{Vec}
use Rattle.std.specs.declared.alloc.Global.{Global}
use Rattle.ls_events.specs.declared.event.Event.{Event}

abbrev pub lists_of : List (Vec Event Global) → List (List Event)
lists_of histories = map (λ v. v.items) histories
