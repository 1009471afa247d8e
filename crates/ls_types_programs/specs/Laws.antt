-- The programs that are read are those that texts spell.
use Rattle.std.specs.Prelude.{◌≡◌, ◌↔◌, ℕ, Some, slice_get}
use Rattle.ls_lexer.specs.Names.{IsName}
use Rattle.ls_checked.specs.CheckedProgram.{ThreadProgram, Program}
use Rattle.ls_types_elaboration.specs.Trees.{Text}
use Rattle.ls_types_elaboration.specs.Elaboration.{ElaboratedFile}
use Rattle.ls_types_programs.specs.ThreadPrograms.{program_of}
use Rattle.ls_types_programs.specs.Programs.{IsTextOf}

abbrev pub ReadsWhatIsSpelled : Type 0
ReadsWhatIsSpelled = (o : ElaboratedFile) (text : Text) (p : Program) → (program_of o text ≡ Some p) ↔ IsTextOf o p text

abbrev pub OneProgram : Type 0
OneProgram = (o : ElaboratedFile) (text : Text) (p q : Program) → IsTextOf o p text → IsTextOf o q text → p ≡ q

-- each thread's name is an identifier, and not a reserved word
abbrev pub ThreadsAreNamed : Type 0
ThreadsAreNamed = (o : ElaboratedFile) (text : Text) (p : Program) → IsTextOf o p text → (i : ℕ) (t : ThreadProgram) →
    slice_get p.threads i ≡ Some t → IsName t.name
