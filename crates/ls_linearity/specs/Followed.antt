-- After which events of a history no pair is left.
use Rattle.std.specs.Prelude.{◌≡◌, ◌<◌, ◌+◌, ℕ, Bool, true, false, List, [], ◌∷◌, length, take}
use Rattle.std.specs.List.{fold}
use Rattle.std.specs.declared.vec.Vec.{Vec}
use Rattle.std.specs.declared.alloc.Global.{Global}
use Rattle.ls_events.specs.declared.event.Event.{Event}
use Rattle.ls_automaton.specs.declared.outcome.Outcome.{Outcome}
use Rattle.ls_automaton.specs.Held.{first_held, leaves_none}
use Rattle.ls_linearizable.specs.Judging.{later, now}

-- whether no pair is left of the first after these events, one after another
abbrev pub is_lost : List (Vec Outcome Global) → List Event → Bool
is_lost rows h = now (fold later (leaves_none rows (first_held ∷ [])) h)

-- the event at this place is the first with which none is left
pub record IsLostAt (rows : List (Vec Outcome Global)) (h : List Event) (at : ℕ) : Type 0 where
  pub within : at < length h
  pub before : is_lost rows (take at h) ≡ false
  pub with_it : is_lost rows (take (at + 1) h) ≡ true
