-- How long code may be, by the counts of its tree and its program.
use Rattle.ls_code.specs.Limits.{most_instructions}
use Rattle.std.specs.Prelude.{ℕ, ◌+◌, ◌*◌, ◌≤◌, List, [], ◌∷◌, length}
use Rattle.std.specs.List.{All}
use Rattle.ls_checked.specs.CheckedTree as checked
use Rattle.ls_checked.specs.CheckedProgram.{Program}
use Rattle.ls_lowered.specs.LoweredTree.{Method, File}
use Rattle.ls_refs.specs.Lowered.{lowered_method, lowered_file}
use Rattle.ls_finally.specs.Flat.{flat_method, flat_file}
use Rattle.ls_finally.specs.Counts.{copies_of, FewLocals}
use Rattle.ls_emit.specs.Units.{method_size, file_size, units_of}
use Rattle.ls_linker.specs.Linked.{linked}
use Rattle.ls_linker.specs.Counts.{method_count, file_count, program_count, written_nodes, statement_nodes}

-- a method has at most 16 instructions for each node and each declared name
abbrev pub UnitsAreFew : Type 0
UnitsAreFew = (m : Method) → method_size m ≤ 16 * method_count m

-- the whole code has the instructions of each method
abbrev pub CodeHoldsMethods : Type 0
CodeHoldsMethods =
    (file : checked.File) (program : Program) (flat : File) →
    file_size flat ≤ length (linked file program (units_of flat)).instructions

-- the whole code has at most 16 instructions for each node and declared name, and for each thread, call and argument
abbrev pub CodeIsShort : Type 0
CodeIsShort =
    (file : checked.File) (program : Program) (flat : File) →
    length (linked file program (units_of flat)).instructions ≤ 16 * (file_count flat + program_count program)

-- If all these are together at most 4,096, neither a method nor the whole code has over 65,536 instructions.
abbrev pub KeepsFloor : Type 0
KeepsFloor =
    (file : checked.File) (program : Program) (flat : File) → file_count flat + program_count program ≤ 4096 →
    All (λ m. method_size m ≤ most_instructions) flat × length (linked file program (units_of flat)).instructions ≤
    most_instructions

-- The lowering makes at most 16 nodes of one node. Then each copy of a finally block adds at most 6 nodes, and the
-- nodes of the body that the block belongs to.
abbrev pub LowersFew : Type 0
LowersFew =
    (classes : List checked.Class) (m : checked.Method) →
    let words = lowered_method classes m in
    let most = 16 * written_nodes m.body in
    statement_nodes (flat_method words).body ≤ most + copies_of words * (most + 6)

-- The most that a checked method counts: 16 for each node of its body and 128 for its names. Each copy of a finally
-- block counts 6, and 16 for each node of the body.
abbrev pub written_method : List checked.Class → checked.Method → ℕ
written_method classes m =
    let most = 16 * written_nodes m.body in
    most + copies_of (lowered_method classes m) * (most + 6) + 128

abbrev pub written_count : List checked.Class → List checked.Method → ℕ
written_count classes [] = 0
written_count classes (m ∷ ms) = written_method classes m + written_count classes ms

-- The count of the lowered tree, by what is written. No method has more than 128 locals.
abbrev pub CountsWritten : Type 0
CountsWritten =
    (file : checked.File) → FewLocals (lowered_file file) →
    file_count (flat_file (lowered_file file)) ≤ written_count file.classes file.methods
