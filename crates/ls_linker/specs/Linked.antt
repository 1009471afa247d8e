-- The whole code: the units one after another, and after them the threads.
use Rattle.std.specs.Prelude.{ℕ, ◌+◌, List, [], ◌∷◌, ◌++◌, length, map}
use Rattle.ls_checked.specs.CheckedTree.{Class, File}
use Rattle.ls_checked.specs.CheckedProgram.{ThreadProgram, Program}
use Rattle.ls_code.specs.Code.{Code, Start}
use Rattle.ls_code.specs.declared.instruction.Instruction.{Instruction}
use Rattle.ls_code.specs.declared.code.HandlerRow.{HandlerRow}
use Rattle.ls_code.specs.declared.code.Method.{Method as MethodRow}
use Rattle.ls_emit.specs.Units.{CodeUnit, moved, moved_row}
use Rattle.ls_preservation.specs.Threads.{object_cells}
use Rattle.ls_linker.specs.Threads.{thread_code, thread_size, thread_row, start_of}

-- the words of all units
abbrev pub words_of : List CodeUnit → ℕ
words_of [] = 0
words_of (u ∷ us) = length u.instructions + words_of us

-- units from a place on
abbrev pub units_code : ℕ → List CodeUnit → List Instruction
units_code p [] = []
units_code p (u ∷ us) = map (moved p) u.instructions ++ units_code (p + length u.instructions) us

abbrev pub units_rows : ℕ → List CodeUnit → List HandlerRow
units_rows p [] = []
units_rows p (u ∷ us) = map (moved_row p) u.handlers ++ units_rows (p + length u.instructions) us

abbrev pub method_row : ℕ → CodeUnit → MethodRow
method_row p u = record { start = p; arguments = u.arguments; more = u.more; need = u.need }

abbrev pub method_rows : ℕ → List CodeUnit → List MethodRow
method_rows p [] = []
method_rows p (u ∷ us) = method_row p u ∷ method_rows (p + length u.instructions) us

-- threads from a place on
abbrev pub threads_code : List Class → List ThreadProgram → List Instruction
threads_code classes [] = []
threads_code classes (t ∷ ts) = thread_code classes t ++ threads_code classes ts

abbrev pub threads_rows : List Class → ℕ → List ThreadProgram → List HandlerRow
threads_rows classes p [] = []
threads_rows classes p (t ∷ ts) = thread_row p (thread_size classes t) ∷
    threads_rows classes (p + thread_size classes t) ts

abbrev pub starts : List Class → ℕ → List ThreadProgram → List Start
starts classes p [] = []
starts classes p (t ∷ ts) = start_of p t ∷ starts classes (p + thread_size classes t) ts

-- the cells of an object of a class: one for its monitor, and one for each field
abbrev pub class_size : Class → ℕ
class_size c = object_cells (length c.fields)

abbrev pub linked : File → Program → List CodeUnit → Code
linked file program units = record {
  instructions = units_code 0 units ++ threads_code file.classes program.threads;
  handlers = units_rows 0 units ++ threads_rows file.classes (words_of units) program.threads;
  methods = method_rows 0 units;
  sizes = map class_size file.classes;
  starts = starts file.classes (words_of units) program.threads;
  names = length program.names;
}
