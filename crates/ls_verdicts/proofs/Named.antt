-- Events that all have names.
use Rattle.std.proofs.Common.{◌≡◌, List, [], ◌∷◌, Option, Some, refl, ap}
use Rattle.std.specs.Prelude.{map}
use Rattle.std.specs.List.{filter_map}
use Rattle.ls_events.specs.declared.event.Event.{Event as RunEvent}
use Rattle.ls_checked.specs.CheckedProgram.{Program}
use Rattle.ls_report.specs.Events.{Event}
use Rattle.ls_report.specs.Printing.{named}
use Rattle.ls_verdicts.specs.Verdicts.{IsNamed}

-- if each has a value, these are the values
pub all_there : {X Y : Type 0} (f : X → Option Y) (xs : List X) (ys : List Y) →
    map f xs ≡ map Some ys →
    filter_map f xs ≡ ys
all_there f [] [] e = refl
all_there f [] (y ∷ ys) e = cc
all_there f (x ∷ xs) [] e = cc
all_there {Y = Y} f (x ∷ xs) (y ∷ ys) e =
    let head : f x ≡ Some y = cc in
    let tail : map f xs ≡ map Some ys = cc in
    rw head (ap (λ l. y ∷ l) (all_there f xs ys tail))

-- the named events of a run's history are the events of that history
pub named_is : (p : Program) (run : List RunEvent) (events : List Event) →
    IsNamed p run events →
    filter_map (named p) run ≡ events
named_is p run events h = all_there (named p) run events h.is_named
