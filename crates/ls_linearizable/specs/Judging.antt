-- How histories are judged that go on from one, as what is noted of it.
use Rattle.std.specs.Prelude.{◌≡◌, Bool, true, ◌||◌, List, [], ◌∷◌}
use Rattle.ls_events.specs.declared.event.Event.{Event}

-- Whether each history is bad that goes on so from what has happened.
abbrev pub Verdict : Type 0
Verdict = List Event → Bool

-- one event more
abbrev pub later : Verdict → Event → Verdict
later v e h = v [] || v (e ∷ h)

-- how what has happened is judged
abbrev pub now : Verdict → Bool
now v = v []

-- what is bad stays bad
abbrev pub LaterStaysBad : Type 0
LaterStaysBad = (v : Verdict) (e : Event) → now v ≡ true → now (later v e) ≡ true
