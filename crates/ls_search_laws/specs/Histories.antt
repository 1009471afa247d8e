-- Whole histories as what is noted.
use Rattle.std.specs.Prelude.{◌≡◌, List, [], ◌∷◌, ◌++◌, Option, Some, None, map}
use Rattle.ls_events.specs.declared.value.Value.{Value}
use Rattle.ls_events.specs.declared.value.Value.TheVariants.{Int, Boolean, Reference, Pair}
use Rattle.ls_events.specs.declared.event.Event.{Event}
use Rattle.ls_events.specs.declared.event.Happening.{Happening}
use Rattle.ls_events.specs.declared.event.Happening.TheVariants.{Called, Returned, Trapped}
use Rattle.ls_meaning.specs.Renamings.{IsRenaming}
use Rattle.ls_search_laws.specs.Cells.{IsIdentity}
use Rattle.ls_search_laws.specs.Noticing.{AreRenamings, IsAlikeUnder}

abbrev pub one_more : List Event → Event → List Event
one_more h e = h ++ e ∷ []

-- a value, whichever object it names
abbrev pub nameless : Value → Value
nameless (Int z) = Int z
nameless (Boolean b) = Boolean b
nameless (Reference n) = Reference 0
nameless (Pair n m) = Pair 0 m

abbrev pub nameless_result : Option Value → Option Value
nameless_result None = None
nameless_result (Some v) = Some (nameless v)

abbrev pub nameless_happening : Happening → Happening
nameless_happening Called = Called
nameless_happening (Returned v) = Returned (nameless_result v)
nameless_happening (Trapped kind) = Trapped kind

abbrev pub nameless_event : Event → Event
nameless_event e = record { thread = e.thread; call = e.call; happening = nameless_happening e.happening }

-- the same history, but for which objects calls have answered
abbrev pub SameNameless : List Event → List Event → Type 0
SameNameless g h = map nameless_event g ≡ map nameless_event h

-- with whatever renamings, histories count but for the objects that calls have answered; without renaming, as they are
pub record HistoriesAreAlike : Type 0 where
  pub renamings : AreRenamings IsRenaming
  pub nameless : IsAlikeUnder IsRenaming one_more SameNameless
  pub identities : AreRenamings IsIdentity
  pub exact : IsAlikeUnder IsIdentity one_more (λ g h. g ≡ h)
