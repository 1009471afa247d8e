-- Texts by number.
use Rattle.std.specs.Prelude.{◌≡◌, ℕ, List, [], ◌∷◌, Some, map, slice_get, string_bytes}
use Rattle.std.specs.declared.vec.Vec.{Vec}
use Rattle.std.specs.declared.alloc.Global.{Global}
use Rattle.ls_automaton.specs.declared.outcome.Outcome.{Outcome}
use Rattle.ls_events.specs.declared.event.Event.{Event}
use Rattle.ls_checked.specs.CheckedProgram.{Program}
use Rattle.ls_report.specs.Events.{Text}
use Rattle.ls_report.specs.Printing.{run_text}
use Rattle.ls_choices.specs.Rows.{Row}
use Rattle.ls_page.specs.declared.table.Table.{Table}

-- the texts of a table, by number
abbrev pub texts_in : Table → List Text
texts_in t = map string_bytes t.texts.keys

abbrev pub numbers_in : List (Vec ℕ Global) → List (List ℕ)
numbers_in all = map (λ v. v.items) all

-- these are the texts that have these numbers, one by one
abbrev pub AreNumbers : List Text → List ℕ → List Text → Type 0
AreNumbers table numbers texts = map (slice_get table) numbers ≡ map Some texts

-- the same of lists
abbrev pub AreAllNumbers : List Text → List (List ℕ) → List (List Text) → Type 0
AreAllNumbers table numbers texts = map (map (slice_get table)) numbers ≡ map (map Some) texts

-- what is told of the steps
abbrev pub row_words : List Row → List Text
row_words rows = map (λ row. row.words) rows

-- what `source` prints of an event alone
abbrev pub event_line : Program → Event → Text
event_line program event = run_text program (event ∷ [])

-- what it prints of the ends of calls
abbrev pub end_lines : Program → List Outcome → List Text
end_lines program row = map (λ o. event_line program o.end) row

-- the same of each state between calls
abbrev pub lines_of_ends : Program → List (Vec Outcome Global) → List (List Text)
lines_of_ends program rows = map (λ row. end_lines program row.items) rows

-- and the states after these calls
abbrev pub after_rows : List (Vec Outcome Global) → List (List ℕ)
after_rows rows = map (λ row. map (λ o. o.after) row.items) rows
