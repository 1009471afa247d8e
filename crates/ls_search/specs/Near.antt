-- Runs of a program, and nodes that are near to where they lead.
use Rattle.std.specs.Prelude.{◌≡◌, ◌⊎◌, ℕ, Bool, false, List, ◌++◌, length, Option, Some}
use Rattle.std.specs.List.{fold}
use Rattle.ls_events.specs.declared.event.Event.{Event}
use Rattle.ls_checked.specs.CheckedTree.{File}
use Rattle.ls_checked.specs.CheckedProgram.{Program}
use Rattle.ls_meaning.specs.Renamings.{IsRenaming}
use Rattle.ls_meaning.specs.Runs.{State, step}
use Rattle.ls_search_laws.specs.Configuration.{Configuration, IsRenamed, configuration_of}
use Rattle.ls_search_laws.specs.Noticing.{Noticed}
use Rattle.ls_search_laws.specs.Search.{LeadsTo}
use Rattle.ls_search_laws.specs.Stepping.{events_of}
use Rattle.ls_search.specs.Nameless.{nameless_next}
use Rattle.ls_search.specs.Strides.{at_once}

-- a state of a run, with the history so far
pub record Run : Type 0 where
  pub state : State
  pub history : List Event

abbrev pub run_after : File → Program → Run → ℕ → Run
run_after file program r t = record {
  state = (step file program r.state t).after;
  history = r.history ++ events_of t (step file program r.state t).did;
}

-- After some steps at once the run's state is that of the node with other names, and the same is noted.
pub record IsNear {M : Type 0} (first : M) (next : M → Event → M) (file : File) (program : Program) (q : Noticed M)
    (r : Run) : Type 0 where
  pub long : length r.state.answers ≡ length program.threads
  pub threads : List ℕ
  pub last : Configuration
  pub leads : LeadsTo at_once file (configuration_of file program r.state) threads last
  pub names : ℕ → ℕ
  pub renaming : IsRenaming names
  pub same : IsRenamed names q.configuration last
  pub noted : q.noted ≡ fold next first r.history

-- whatever comes after it, it isn't bad
abbrev pub NeverBad : {S : Type 0} → (S → Event → S) → (S → Bool) → S → Type 0
NeverBad next is_bad m = (h : List Event) → is_bad (fold next m h) ≡ false

-- the node is near, by what is noted of events that name no object, or the run leads to nothing that is bad
abbrev pub IsNearOrLost : {S : Type 0} → S → (S → Event → S) → (S → Bool) → File → Program → Noticed (Option S) → Run →
    Type 0
IsNearOrLost first next is_bad file program q r =
    IsNear (Some first) (nameless_next next) file program q r ⊎ NeverBad next is_bad (fold next first r.history)
