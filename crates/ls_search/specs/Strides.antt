-- What a step of a thread comes to, by the move that is known of it.
use Rattle.std.specs.Prelude.{◌≡◌, ℕ, ◌<◌, nat_eq, true, List, [], length, slice_set, if◌then◌else◌}
use Rattle.ls_events.specs.declared.action.Action.{Action}
use Rattle.ls_events.specs.declared.action.Action.TheVariants.{Turn, Enter}
use Rattle.ls_events.specs.declared.value.Value.{Value}
use Rattle.ls_meaning.specs.declared.step.Did.TheVariants as did
use Rattle.ls_meaning.specs.Runs.{has_ended}
use Rattle.ls_search_laws.specs.AtOnce.{Choice}
use Rattle.ls_search_laws.specs.Cells.{by_cells, no_cells}
use Rattle.ls_search_laws.specs.Configuration.{Configuration, Stride, idling}
use Rattle.ls_transitions.specs.declared.moves.Step.{Step}
use Rattle.ls_transitions.specs.declared.moves.Move.{Move}
use Rattle.ls_transitions.specs.declared.moves.Move.TheVariants as moves
use Rattle.ls_transitions.specs.Tables.{Table}
use Rattle.ls_search.specs.Places.{configuration_at}

-- turns and enterings are taken at once
abbrev pub at_once : Choice
at_once = by_cells no_cells

abbrev pub IsAtOnce : Action Value → Type 0
IsAtOnce Turn = Unit {0}
IsAtOnce (Enter m) = Unit {0}
IsAtOnce _ = ⊥

-- the thread has started
abbrev pub HasStarted : Configuration → ℕ → Type 0
HasStarted c u = (if nat_eq u 0 then true else has_ended (c.continues 0 [])) ≡ true

-- the thread acts, and what comes after it has these numbers
pub record ActsBy (t : Table) (works : List ℕ) (u : ℕ) (step : Step) (s : Stride) : Type 0 where
  pub is : s ≡ record {
    did = did.Acted step.action step.answer;
    after = configuration_at t step.store (slice_set works u step.work);
  }
  pub store_there : step.store < length t.stores
  pub work_there : step.work < length t.works

abbrev pub IsStrideBy : Table → Configuration → List ℕ → ℕ → Move → Stride → Type 0
IsStrideBy t c works u moves.Ended s = s ≡ idling c
IsStrideBy t c works u moves.Trapped s = s ≡ idling c
IsStrideBy t c works u moves.Waits s = s ≡ record { did = did.Waits; after = c }
IsStrideBy t c works u (moves.Acts step) s = ActsBy t works u step s
