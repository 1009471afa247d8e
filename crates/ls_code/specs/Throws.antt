-- Throws, and the rows that catch them.
use Rattle.std.specs.Prelude.{ℕ, ◌-◌, List, [], ◌∷◌, drop, length, Option, Some, None, ◌&&◌, nat_lt, nat_le}
use Rattle.std.specs.Prelude.{if◌then◌else◌}
use Rattle.ls_code.specs.Frame.{Frame, led_to}
use Rattle.ls_events.specs.declared.kind.Kind.{Kind}
use Rattle.ls_events.specs.declared.kind.Kind.TheVariants.{Arithmetic, NullPointer, ArrayIndexOutOfBounds}
use Rattle.ls_events.specs.declared.kind.Kind.TheVariants.{NegativeArraySize, IllegalMonitorState, StackOverflow, Error}
use Rattle.ls_code.specs.declared.code.HandlerRow.{HandlerRow}

abbrev pub kind_word : Kind → ℕ
kind_word Arithmetic = 1
kind_word NullPointer = 2
kind_word ArrayIndexOutOfBounds = 3
kind_word NegativeArraySize = 4
kind_word IllegalMonitorState = 5
kind_word StackOverflow = 6
kind_word Error = 7

-- the first row, the innermost, that holds this place
abbrev pub find_row : List HandlerRow → ℕ → Option HandlerRow
find_row [] place = None
find_row (row ∷ rows) place = if nat_le row.from place && nat_lt place row.to then Some row else find_row rows place

-- the operands cut to the row's depth, with the kind on top, at the handler; none if there is no room for the kind
abbrev pub cut_to : ℕ → List ℕ → List ℕ
cut_to depth operands = drop (length operands - depth) operands

abbrev pub caught : HandlerRow → Kind → Frame → Option Frame
caught row kind f = if nat_lt (length (cut_to row.depth f.operands)) f.need then
    Some (led_to f row.handler (kind_word kind ∷ cut_to row.depth f.operands)) else None

abbrev pub onto : Option Frame → List Frame → Option (Frame × List Frame)
onto None below = None
onto (Some f) below = Some (f, below)

-- a throw drops frames up to the first that catches it
abbrev pub thrown : List HandlerRow → Kind → List Frame → Option (Frame × List Frame)
thrown rows kind [] = None
thrown rows kind (f ∷ below) =
    elim (find_row rows f.counter) as (λ _. Option (Frame × List Frame))
    [ Some row ↦ onto (caught row kind f) below | None ↦ thrown rows kind below ]
