-- How long a thread is silent in its own code, outside the methods that it calls.
use Rattle.std.specs.Prelude.{◌≡◌, ℕ, ◌+◌, ◌≤◌, ◌<◌, List, [], ◌∷◌, length, max, Some, slice_get}
use Rattle.ls_events.specs.declared.value.Value.{Value}
use Rattle.ls_checked.specs.CheckedTree.{File}
use Rattle.ls_checked.specs.CheckedProgram.{ProgramCall, Making, Calling, ThreadProgram, Program}
use Rattle.ls_code.specs.Code.{Code, Start}
use Rattle.ls_code.specs.Thread.{Thread}
use Rattle.ls_linker.specs.Threads.{thread_size}
use Rattle.ls_linker.specs.Quick.{InFrame}

abbrev pub values_of : ProgramCall → List Value
values_of (Making name class text values) = values
values_of (Calling name method text result values) = values

-- the most values that a call passes
abbrev pub most_values : List ProgramCall → ℕ
most_values [] = 0
most_values (c ∷ cs) = max (length (values_of c)) (most_values cs)

-- In its own code a thread makes at most `most_values + 3` silent steps in a row. These are one for each value that a
-- call passes, a second reference to a new object, and a throw at the entering.
abbrev pub ThreadsAreQuick : File → Program → Code → Type 0
ThreadsAreQuick file program c =
    (t : ℕ) (p : ThreadProgram) (s : Start) → slice_get program.threads t ≡ Some p → slice_get c.starts t ≡ Some s →
    (n : ℕ) (x x' : Thread) → s.place ≤ x.top.counter → x.top.counter < s.place + thread_size file.classes p →
    InFrame c n x x' →
    n ≤ most_values p.calls + 3
