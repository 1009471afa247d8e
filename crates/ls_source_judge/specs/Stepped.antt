-- Sets of pairs by numbers, and what is left after events, by these numbers.
use Rattle.std.specs.Prelude.{◌≡◌, ℕ, ◌<◌, List, [], ◌++◌, Option, Some, None, Contains, length, slice_get}
use Rattle.std.specs.declared.vec.Vec.{Vec}
use Rattle.std.specs.declared.alloc.Global.{Global}
use Rattle.ls_events.specs.declared.event.Event.{Event}
use Rattle.ls_automaton.specs.declared.outcome.Outcome.{Outcome}
use Rattle.ls_automaton.specs.declared.pairs.Pair.{Pair}
use Rattle.ls_automaton.specs.Held.{Held, helds_of, leaves_none}
use Rattle.ls_linearizable.specs.Judging.{Verdict, later}
use Rattle.ls_source_judge.specs.declared.tabling.Pairs.{Pairs}
use Rattle.ls_source_judge.specs.declared.tabling.Step.{Step}

-- none, where none are known
abbrev pub pairs_in : Option Pairs → List Held
pairs_in None = []
pairs_in (Some p) = helds_of p.pairs.items

-- how the pairs of a number judge each history that goes on
abbrev pub verdict_in : List (Vec Outcome Global) → List Pairs → ℕ → Verdict
verdict_in rows known n = leaves_none rows (pairs_in (slice_get known n))

-- some sets are known, and then more
abbrev pub Grows : List Pairs → List Pairs → Type 0
Grows old new = (more : List Pairs) × (old ++ more ≡ new)

-- pairs that judge as these have this number, and those that were known have theirs
pub record IsKnown (old new : List Pairs) (number : ℕ) (pairs : List Pair) : Type 0 where
  pub grows : Grows old new
  pub below : number < length new
  pub is : (rows : List (Vec Outcome Global)) → verdict_in rows new number ≡ leaves_none rows (helds_of pairs)

-- the step leads from the pairs of a number to what is left of them after its event
pub record Leads (rows : List (Vec Outcome Global)) (known : List Pairs) (n : ℕ) (s : Step) : Type 0 where
  pub within : n < length known
  pub below : s.after < length known
  pub is : verdict_in rows known s.after ≡ later (verdict_in rows known n) s.event

abbrev pub AreStepsOf : List (Vec Outcome Global) → List Pairs → ℕ → List Step → Type 0
AreStepsOf rows known n row = (s : Step) → Contains row s → Leads rows known n s

-- the steps of each number
abbrev pub AreSteps : List (Vec Outcome Global) → List Pairs → List (Vec Step Global) → Type 0
AreSteps rows known steps = (n : ℕ) (row : Vec Step Global) → slice_get steps n ≡ Some row →
    AreStepsOf rows known n row.items

-- one of the steps is that of this event, and leads to this number
pub record IsTabled (row : List Step) (n : ℕ) (e : Event) : Type 0 where
  pub step : Step
  pub there : Contains row step
  pub event : step.event ≡ e
  pub after : step.after ≡ n
