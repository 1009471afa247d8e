-- An action and its answer, in words.
use Rattle.std.specs.Prelude.{ℕ, ℤ, List, [], ◌∷◌, ◌++◌, Option, Some, None, codes}
use Rattle.std.specs.Fmt.{signed_decimal}
use Rattle.std.specs.Option.{option_map_or}
use Rattle.ls_events.specs.declared.value.Value.{Value}
use Rattle.ls_events.specs.declared.action.Action.{Action}
use Rattle.ls_events.specs.declared.action.Action.TheVariants as actions
use Rattle.ls_events.specs.declared.action.Answer.{Answer}
use Rattle.ls_events.specs.declared.action.Answer.TheVariants.{Done, Gives, Fails}
use Rattle.ls_events.specs.declared.event.Event.{Event}
use Rattle.ls_meaning.specs.Runs.{event_of}
use Rattle.ls_report.specs.Events.{Text}
use Rattle.ls_report.specs.Lines.{boolean_text, kind_text}
use Rattle.ls_report.specs.Printing.{object_name, run_words}
use Rattle.ls_labels.specs.declared.label.Label.{Label}
use Rattle.ls_labels.specs.declared.label.Label.TheVariants as labels
use Rattle.ls_labels.specs.Labels.{label_at}
use Rattle.ls_labels.specs.Names.{Names, class_name, field_name, method_name}
use Rattle.ls_labels.specs.Objects.{object_text, value_text}

-- a field of an object, as `Node#3.next`
abbrev pub field_of : Names → ℕ → Label → Text
field_of names field (labels.Class class) = field_name names class field
field_of names field _ = []

abbrev pub field_text : Names → List Label → ℕ → ℕ → Text
field_text names ls o field = object_text names ls o ++ (46 ∷ option_map_or (field_of names field) (label_at ls o) [])

-- an item of an array, as `boolean[]#7[2]`
abbrev pub item_text : Names → List Label → ℕ → ℤ → Text
item_text names ls array index = object_text names ls array ++ (91 ∷ (signed_decimal index ++ 93 ∷ []))

-- the operations of locks, monitors and markables
abbrev pub operation_text : Names → List Label → Action Value → Text
operation_text names ls (actions.Lock o) = codes "locks " ++ object_text names ls o
operation_text names ls (actions.Unlock o) = codes "unlocks " ++ object_text names ls o
operation_text names ls (actions.TryLock o) = codes "tries " ++ object_text names ls o
operation_text names ls (actions.IsHeld o) = codes "asks whether it holds " ++ object_text names ls o
operation_text names ls (actions.LockMonitor o) = codes "locks the monitor of " ++ object_text names ls o
operation_text names ls (actions.UnlockMonitor o) = codes "unlocks the monitor of " ++ object_text names ls o
operation_text names ls (actions.ReadPair o) = codes "reads " ++ object_text names ls o
operation_text names ls (actions.SetPair o pair) =
    codes "sets " ++ (object_text names ls o ++ (codes " to " ++ value_text names ls pair))
operation_text names ls (actions.SwapPair o expected new) =
    codes "exchanges " ++
    (object_text names ls o ++
    (codes " from " ++ (value_text names ls expected ++ (codes " to " ++ value_text names ls new))))
operation_text names ls (actions.AttemptMark o reference mark) =
    codes "marks " ++
    (object_text names ls o ++
    (32 ∷ (boolean_text mark ++ (codes " if it refers to " ++ object_text names ls reference))))
operation_text names ls _ = []

-- makings, entered methods and turns of loops
abbrev pub move_text : Names → List Label → Action Value → Text
move_text names ls (actions.New class) = codes "makes " ++ class_name names class
move_text names ls actions.NewLock = codes "makes ReentrantLock"
move_text names ls (actions.NewMarkable pair) = codes "makes AtomicMarkableReference of " ++ value_text names ls pair
move_text names ls (actions.NewArray size) = codes "makes boolean[" ++ (signed_decimal size ++ 93 ∷ [])
move_text names ls (actions.Enter m) = codes "enters " ++ method_name names m
move_text names ls actions.Turn = codes "goes round a loop"
move_text names ls action = operation_text names ls action

-- reads and writes, and all other actions that are no event of a history
abbrev pub phrase_text : Names → List Label → Action Value → Text
phrase_text names ls (actions.ReadField o field) = codes "reads " ++ field_text names ls o field
phrase_text names ls (actions.WriteField o field v) =
    codes "writes " ++ (field_text names ls o field ++ (codes ": " ++ value_text names ls v))
phrase_text names ls (actions.ReadItem array index) = codes "reads " ++ item_text names ls array index
phrase_text names ls (actions.WriteItem array index v) =
    codes "writes " ++ (item_text names ls array index ++ (codes ": " ++ value_text names ls v))
phrase_text names ls (actions.ReadName n) = codes "reads " ++ object_name names.program n
phrase_text names ls (actions.WriteName n v) =
    codes "writes " ++ (object_name names.program n ++ (codes ": " ++ value_text names ls v))
phrase_text names ls action = move_text names ls action

-- an event of a history has the words that it has there
abbrev pub words_of : Names → List Label → Action Value → Option Event → Text
words_of names ls action None = phrase_text names ls action
words_of names ls action (Some event) = run_words names.program event

-- what a thread's action is; these are the labels of the objects that have been made
abbrev pub action_text : Names → List Label → ℕ → Action Value → Text
action_text names ls thread action = words_of names ls action (event_of thread action)

-- an action that is just done has no words for its answer
abbrev pub answer_text : Names → List Label → Answer Value → Text
answer_text names ls Done = []
answer_text names ls (Gives v) = codes ": " ++ value_text names ls v
answer_text names ls (Fails kind) = codes ": " ++ kind_text kind

-- an action with its answer, as `reads Node#3.next: Node#4`; the labels are those after the action
abbrev pub performed_text : Names → List Label → ℕ → Action Value → Answer Value → Text
performed_text names ls thread action answer = action_text names ls thread action ++ answer_text names ls answer
