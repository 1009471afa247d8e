-- What the objects and the setup names hold.
use Rattle.std.specs.Prelude.{ℕ, ◌==◌, length, List, [], ◌∷◌, ◌++◌, codes, if◌then◌else◌}
use Rattle.std.specs.Option.{option_map_or}
use Rattle.ls_events.specs.declared.value.Value.{Value}
use Rattle.ls_checked.specs.CheckedProgram.{Program, SetupName}
use Rattle.ls_meaning.specs.Store.{Store, Hold, Free, HeldBy, Thing, Object, LockOf, Markable, Array, name_at}
use Rattle.ls_report.specs.Events.{Text}
use Rattle.ls_labels.specs.declared.label.Label.{Label}
use Rattle.ls_labels.specs.Labels.{label_at}
use Rattle.ls_labels.specs.Names.{Names}
use Rattle.ls_labels.specs.Objects.{object_text, value_text}
use Rattle.ls_labels.specs.Threads.{thread_name}
use Rattle.ls_labels.specs.Words.{field_of}
use Rattle.ls_state.specs.Parts.{numbered, count_text, array_text}

-- a lock that a thread owns, as `held by A, 2 holds`
abbrev pub held_text : Program → ℕ → ℕ → Text
held_text program owner holds =
    codes "held by " ++ (thread_name program owner ++ (codes ", " ++ count_text holds (codes "hold")))

-- the name of an object's field, by its number
abbrev pub field_name_of : Names → List Label → ℕ → ℕ → Text
field_name_of names ls o field = option_map_or (field_of names field) (label_at ls o) []

-- a field, as `: lock = ReentrantLock#2` for the first and `, head = Node#3` for another
abbrev pub field_part : Names → List Label → ℕ → ℕ → Value → Text
field_part names ls o field v =
    (if field == 0 then codes ": " else codes ", ") ++ (field_name_of names ls o field ++
    (codes " = " ++ value_text names ls v))

-- after so many fields, the monitor that a thread owns, as `, monitor held by A, 1 hold`
abbrev pub monitor_part : Names → ℕ → Hold → Text
monitor_part names count Free = []
monitor_part names count (HeldBy owner holds) =
    (if count == 0 then codes ": monitor " else codes ", monitor ") ++ held_text names.program owner holds

-- what stands after an object's name
abbrev pub thing_text : Names → List Label → ℕ → Thing → Text
thing_text names ls o (Object monitor fields) =
    numbered (field_part names ls o) 0 fields ++ monitor_part names (length fields) monitor
thing_text names ls o (LockOf Free) = codes ": free"
thing_text names ls o (LockOf (HeldBy owner holds)) = codes ": " ++ held_text names.program owner holds
thing_text names ls o (Markable pair) = codes ": " ++ value_text names ls pair
thing_text names ls o (Array size items) = codes ": " ++ array_text size items

-- as `Node#3: item = 5, next = null`
abbrev pub thing_line : Names → List Label → ℕ → Thing → Text
thing_line names ls o t = object_text names ls o ++ (thing_text names ls o t ++ 10 ∷ [])

-- a setup name, as `l = SetList#1`
abbrev pub name_line : Names → List Label → Store → ℕ → SetupName → Text
name_line names ls s n name = name.name ++ (codes " = " ++ (value_text names ls (name_at s n) ++ 10 ∷ []))
