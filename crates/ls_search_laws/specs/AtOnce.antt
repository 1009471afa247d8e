-- Steps that no other thread notices, and that are taken at once.
use Rattle.std.specs.Prelude.{◌≡◌, ℕ, Bool, List}
use Rattle.ls_events.specs.declared.value.Value.{Value}
use Rattle.ls_events.specs.declared.action.Action.{Action}
use Rattle.ls_events.specs.declared.action.Action.TheVariants.{ReadField, ReadItem, ReadName}
use Rattle.ls_events.specs.declared.action.Action.TheVariants.{IsHeld}
use Rattle.ls_events.specs.declared.action.Action.TheVariants.{ReadPair, Turn, Enter}
use Rattle.ls_events.specs.declared.action.Answer.{Answer}
use Rattle.ls_checked.specs.CheckedTree.{Class}
use Rattle.ls_meaning.specs.Store.{Store}
use Rattle.ls_meaning.specs.Effect.{Does, effect}

-- an action that leaves each store as it is, and has no event
abbrev pub IsReading : Action Value → Type 0
IsReading (ReadField o f) = Unit {0}
IsReading (ReadItem o i) = Unit {0}
IsReading (ReadName n) = Unit {0}
IsReading (ReadPair o) = Unit {0}
IsReading (IsHeld o) = Unit {0}
IsReading Turn = Unit {0}
IsReading (Enter m) = Unit {0}
IsReading _ = ⊥

-- where the thread's action has this answer in one store and leaves the store as it is, it does so in the other
abbrev pub ReadsSame : List Class → ℕ → Action Value → Answer Value → Store → Store → Type 0
ReadsSame classes t action answer s s' = effect classes s t action ≡ Does s answer →
    effect classes s' t action ≡ Does s' answer

-- which actions of which threads, with which answers, are taken at once
abbrev pub Choice : Type 0
Choice = ℕ → Action Value → Answer Value → Bool
