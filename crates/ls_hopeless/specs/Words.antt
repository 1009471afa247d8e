-- An event that no order of whole calls explains, in words.
use Rattle.std.specs.Prelude.{◌==◌, ◌&&◌, ℕ, Bool, not, List, [], ◌∷◌, ◌++◌, Option, Some, None, codes}
use Rattle.std.specs.List.{filter, flat_map, list_any}
use Rattle.ls_checked.specs.CheckedProgram.{Program}
use Rattle.ls_events.specs.declared.event.Event.{Event}
use Rattle.ls_events.specs.declared.event.Happening.{Happening}
use Rattle.ls_events.specs.declared.event.Happening.TheVariants.{Called, Returned, Trapped}
use Rattle.ls_labels.specs.Threads.{thread_name}
use Rattle.ls_report.specs.Cut.{cut}
use Rattle.ls_report.specs.Events.{Text}
use Rattle.ls_report.specs.Lines.{call_text}
use Rattle.ls_report.specs.Printing.{run_words}
use Rattle.ls_serial.specs.Serial.{is_called}

-- ---- one event

-- the beginning of an event's call
abbrev pub begun : Event → Event
begun e = record { thread = e.thread; call = e.call; happening = Called }

abbrev pub behind : Option (Text × Text) → Text
behind None = []
behind (Some p) = p.1

-- a text behind a space, if there is one
abbrev pub spaced : Text → Text
spaced [] = []
spaced (c ∷ text) = 32 ∷ (c ∷ text)

-- The words of an event in a history without the first: ` s.get()` of `call s.get()`, ` 1` of `return 1`. There are
-- none of `return`.
abbrev pub detail : Program → Event → Text
detail p e = spaced (behind (cut 32 (run_words p e)))

-- the call of an event, as `B.2 s.get()`
abbrev pub call_words : Program → Event → Text
call_words p e = call_text (thread_name p e.thread) e.call ++ detail p (begun e)

abbrev pub does : Happening → Text
does Called = codes " is called"
does (Returned value) = codes " returns"
does (Trapped kind) = codes " throws"

abbrev pub did : Happening → Text
did Called = codes " was called"
did (Returned value) = codes " returned"
did (Trapped kind) = codes " threw"

-- as `B.2 s.get() returns 1`
abbrev pub event_words : Program → Event → Text
event_words p e = call_words p e ++ (does e.happening ++ detail p e)

-- as `B.2 s.get() returned 1`
abbrev pub past_words : Program → Event → Text
past_words p e = call_words p e ++ (did e.happening ++ detail p e)

-- ---- the events before it

-- a return or a trap of a thread that isn't the setup
abbrev pub is_end : Event → Bool
is_end e = not (e.thread == 0) && not (is_called e.happening)

abbrev pub and_past : Program → Event → Text
and_past p e = codes " and " ++ past_words p e

-- as ` after A.1 s.inc() returned and B.1 s.inc() returned`, of these ends
abbrev pub after_text : Program → List Event → Text
after_text p [] = []
after_text p (e ∷ es) = codes " after " ++ (past_words p e ++ flat_map (and_past p) es)

-- the second is the end of the first event's call
abbrev pub is_end_of : Event → Event → Bool
is_end_of c e = not (is_called e.happening) && (e.thread == c.thread && e.call == c.call)

-- after these events the call is running, and its thread is neither the setup nor this one
abbrev pub is_running : List Event → ℕ → Event → Bool
is_running h t c =
    is_called c.happening && (not (c.thread == 0) && (not (c.thread == t) && not (list_any (is_end_of c) h)))

abbrev pub and_call : Program → Event → Text
and_call p c = codes " and " ++ call_words p c

-- as `, with A.2 s.inc() still running`, of these calls
abbrev pub with_text : Program → List Event → Text
with_text p [] = []
with_text p (c ∷ cs) =
    codes ", with " ++ (call_words p c ++ (flat_map (and_call p) cs ++ codes " still running"))

-- ---- the line

-- The event comes after these. The line tells which calls of threads had ended before it, and which of other threads
-- are running.
abbrev pub line_of : Program → List Event → Event → Text
line_of p h e =
    codes "// no order of whole calls explains that " ++ (event_words p e ++ (after_text p (filter is_end h) ++
    (with_text p (filter (is_running h e.thread) h) ++ 10 ∷ [])))
