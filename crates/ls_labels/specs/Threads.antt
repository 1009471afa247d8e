-- Threads in words: what they are called, how they have ended, why they haven't started, and what they wait for.
use Rattle.std.specs.Prelude.{ℕ, Bool, List, [], ◌++◌, Option, Some, None, slice_get, codes, if◌then◌else◌}
use Rattle.std.specs.Option.{option_map_or}
use Rattle.ls_events.specs.declared.value.Value.{Value}
use Rattle.ls_events.specs.declared.action.Action.{Action}
use Rattle.ls_events.specs.declared.action.Action.TheVariants.{Lock, LockMonitor}
use Rattle.ls_checked.specs.CheckedProgram.{Program}
use Rattle.ls_meaning.specs.Store.{Store, Thing, HeldBy, Object, LockOf, thing_at}
use Rattle.ls_meaning.specs.Threads.{next}
use Rattle.ls_meaning.specs.Runs.{State, answers_of}
use Rattle.ls_source.specs.Ends.{has_trapped}
use Rattle.ls_report.specs.Events.{Text}
use Rattle.ls_labels.specs.declared.label.Label.{Label}
use Rattle.ls_labels.specs.Names.{Names}
use Rattle.ls_labels.specs.Objects.{object_text}

abbrev pub thread_name : Program → ℕ → Text
thread_name program thread = option_map_or (λ t. t.name) (slice_get program.threads thread) []

-- whether a thread has ended by a trap
abbrev pub trapped_in : Names → State → ℕ → Bool
trapped_in names s thread = has_trapped (next names.file names.program thread (answers_of s thread))

-- how a thread has ended
abbrev pub end_text : Bool → Text
end_text has_trapped = if has_trapped then codes " has ended with a trap" else codes " has ended"

-- before the setup has ended no other thread starts; after a trap of the setup none starts at all
abbrev pub start_text : Bool → Text
start_text setup_has_trapped =
    if setup_has_trapped
    then codes " never starts: the setup has ended with a trap"
    else codes " hasn't started: the setup hasn't ended"

-- the thread that owns a lock, or the monitor of an object
abbrev pub owner_of : Option Thing → Option ℕ
owner_of (Some (LockOf (HeldBy owner holds))) = Some owner
owner_of (Some (Object (HeldBy owner holds) fields)) = Some owner
owner_of _ = None

-- as `waits for ReentrantLock#2, which A owns`, and `waits for the monitor of Counter#1, which A owns`
abbrev pub awaited_text : Names → List Label → Text → ℕ → ℕ → Text
awaited_text names ls what lock owner =
    what ++ (object_text names ls lock ++ (codes ", which " ++ (thread_name names.program owner ++ codes " owns")))

-- what a thread waits for, by the action that it asks for: a lock or a monitor that a thread owns
abbrev pub wait_text : Names → List Label → Store → Action Value → Text
wait_text names ls s (Lock o) = option_map_or (awaited_text names ls (codes "waits for ") o) (owner_of (thing_at s o))
    []
wait_text names ls s (LockMonitor o) = option_map_or (awaited_text names ls (codes "waits for the monitor of ") o)
    (owner_of (thing_at s o)) []
wait_text names ls s _ = []
