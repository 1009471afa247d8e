-- What is so of equal files and programs.
use Rattle.std.proofs.Common.{◌≡◌, subst}
use Rattle.ls_checked.specs.CheckedTree.{File}
use Rattle.ls_checked.specs.CheckedProgram.{Program}

-- what holds of a file and a program holds of equal ones
pub at_same : (P : File → Program → Type 0) {file file' : File} {program program' : Program} → file ≡ file' →
    program ≡ program' →
    P file program →
    P file' program'
at_same P {file} {file'} {program} {program'} same_file same_program h =
    subst (λ (p : Program). P file' p) same_program (subst (λ (f : File). P f program) same_file h)
