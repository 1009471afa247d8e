-- The kinds by their numbers.
use Rattle.std.specs.Prelude.{ℕ, Option, Some, None, ◌==◌, if◌then◌else◌}
use Rattle.ls_events.specs.declared.kind.Kind.{Kind}
use Rattle.ls_events.specs.declared.kind.Kind.TheVariants.{Arithmetic, NullPointer, ArrayIndexOutOfBounds}
use Rattle.ls_events.specs.declared.kind.Kind.TheVariants.{NegativeArraySize, IllegalMonitorState, StackOverflow, Error}

-- the kind of a word
abbrev pub kind_of : ℕ → Option Kind
kind_of word =
    if word == 1 then Some Arithmetic else (if word == 2 then Some NullPointer else
    (if word == 3 then Some ArrayIndexOutOfBounds else (if word == 4 then Some NegativeArraySize else
    (if word == 5 then Some IllegalMonitorState else (if word == 6 then Some StackOverflow else
    (if word == 7 then Some Error else None))))))
