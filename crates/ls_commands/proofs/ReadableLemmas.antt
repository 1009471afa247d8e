-- Histories that are printed of the runs of a file's programs are read again.
use Rattle.std.proofs.Common.{◌≡◌, Ok}
use Rattle.ls_types_elaboration.specs.Elaboration.{ElaboratedFile, elaborated}
use Rattle.ls_types_elaboration.specs.Trees.{File}
use Rattle.ls_text_laws.specs.Histories.{SourceIsReadable}
use Rattle.ls_commands.specs.ReadablePages.{ProgramsRead}

-- of a file that keeps every rule
pub programs_read :
    SourceIsReadable
    → (file : File) (o : ElaboratedFile)
    → elaborated file ≡ Ok o
    → ProgramsRead o
programs_read readable file o checks p text is steps =
    let r = readable file o text p checks is steps in
    (r.events, r.says)
