-- The words of a step up to the values in it.
use Rattle.std.specs.Prelude.{◌≡◌, ℕ, List, [], ◌∷◌, ◌++◌, Option, codes, string_bytes}
use Rattle.ls_events.specs.declared.value.Value.{Value}
use Rattle.ls_events.specs.declared.action.Action.{Action}
use Rattle.ls_events.specs.declared.action.Action.TheVariants as actions
use Rattle.ls_report.specs.Events.{Text}
use Rattle.ls_report.specs.Lines.{call_text}
use Rattle.ls_report.specs.Printing.{object_name}
use Rattle.ls_labels.specs.declared.label.Label.{Label}
use Rattle.ls_labels.specs.Names.{Names, method_name}
use Rattle.ls_labels.specs.Labelled.{labelled_field, labelled_text}
use Rattle.ls_labels.specs.Objects.{value_text}
use Rattle.ls_labels.specs.Threads.{thread_name}
use Rattle.ls_labels.specs.Words.{action_text, field_text}
use Rattle.ls_trace.specs.declared.deed.DeedKind.{DeedKind}
use Rattle.ls_trace.specs.declared.deed.DeedKind.TheVariants as kinds
use Rattle.ls_trace.specs.declared.deed.Deed.{Deed}
use Rattle.ls_trace.specs.declared.heads.Key.{Key}
use Rattle.ls_trace.specs.declared.heads.Head.{Head}

-- an action up to the value that it writes, as `writes Node#3.key: `
abbrev pub head_text : Names → List Label → ℕ → Action Value → Text
head_text names ls thread (actions.WriteField o field v) =
    codes "writes " ++ (field_text names ls o field ++ codes ": ")
head_text names ls thread action = action_text names ls thread action

-- the value that an action writes, if `head_text` leaves it out
abbrev pub tail_text : Names → List Label → Action Value → Text
tail_text names ls (actions.WriteField o field v) = value_text names ls v
tail_text names ls action = []

-- what is waited for, as `ReentrantLock#2, which A owns`
abbrev pub owned_text : Names → Option Label → ℕ → ℕ → Text
owned_text names label o owner =
    labelled_text names label o ++ (codes ", which " ++ (thread_name names.program owner ++ codes " owns"))

-- what is told of a deed of each kind, by its object's label, its object and its part
abbrev pub kind_words : Names → Option Label → ℕ → ℕ → DeedKind → Text
kind_words names label o part kinds.ReadsField = codes "reads " ++ labelled_field names label o part
kind_words names label o part kinds.WritesField = codes "writes " ++ (labelled_field names label o part ++ codes ": ")
kind_words names label o part kinds.ReadsName = codes "reads " ++ object_name names.program part
kind_words names label o part kinds.Turns = codes "goes round a loop"
kind_words names label o part kinds.Enters = codes "enters " ++ method_name names part
kind_words names label o part kinds.Locks = codes "locks " ++ labelled_text names label o
kind_words names label o part kinds.Unlocks = codes "unlocks " ++ labelled_text names label o
kind_words names label o part kinds.Tries = codes "tries " ++ labelled_text names label o
kind_words names label o part kinds.AsksIfHeld = codes "asks whether it holds " ++ labelled_text names label o
kind_words names label o part kinds.LocksMonitor = codes "locks the monitor of " ++ labelled_text names label o
kind_words names label o part kinds.UnlocksMonitor = codes "unlocks the monitor of " ++ labelled_text names label o
kind_words names label o part kinds.ReadsPair = codes "reads " ++ labelled_text names label o
kind_words names label o part kinds.WaitsForLock = codes "waits for " ++ owned_text names label o part
kind_words names label o part kinds.WaitsForMonitor = codes "waits for the monitor of " ++ owned_text names label o part

-- what is told of a deed, where its object has this label
abbrev pub deed_words : Names → Option Label → Deed → Text
deed_words names label d = kind_words names label d.object d.part d.kind

-- a thread with a call, as `A.1 `
abbrev pub call_words : Names → ℕ → ℕ → Text
call_words names thread call = call_text (thread_name names.program thread) call ++ 32 ∷ []

-- a deed with its thread and call, as `A.1 reads Node#3.next`
abbrev pub key_words : Names → Key → Text
key_words names k = call_words names k.thread k.call ++ deed_words names k.label k.deed

-- the text of a head is that of its key
abbrev pub IsOfKey : Names → Head → Type 0
IsOfKey names h = string_bytes h.text ≡ key_words names h.key
