-- What `compile` answers of two texts.
use Rattle.std.specs.Prelude.{◌≡◌, Result, Ok, Err}
use Rattle.ls_lexer.specs.declared.fault.TextFault.{TextFault}
use Rattle.ls_parser_tokens.specs.Answers.{Refuses}
use Rattle.ls_tree.specs.Trees.{File as ParsedFile}
use Rattle.ls_parser_spelling.specs.Spells.{TextSpells}
use Rattle.ls_parser_spelling.specs.Files.{IsFileOf}
use Rattle.ls_parser.specs.Comes.{Comes}
use Rattle.ls_checked.specs.CheckedProgram.{Program as PlainProgram}
use Rattle.ls_checked.specs.PlainProgram.{plain_program}
use Rattle.ls_types_elaboration.specs.Trees.{Text, File}
use Rattle.ls_types_elaboration.specs.Refused.{Fails}
use Rattle.ls_types_elaboration.specs.Elaboration.{ElaboratedFile, elaborated}
use Rattle.ls_types_checked.specs.CheckedFile.{elaborated_file}
use Rattle.ls_types_checked.specs.ProgramRefusals.{IsNoProgram}
use Rattle.ls_types_programs.specs.Programs.{IsTextOf}
use Rattle.ls_types_elaboration.specs.declared.rule.CheckFault.{CheckFault}
use Rattle.ls_types_checked.specs.declared.fault.ProgramFault.{ProgramFault}
use Rattle.ls_linker.specs.Compiled.{code_of}
use Rattle.ls_linker.specs.Limits.{KeepsLimits, GoesPast}
use Rattle.ls_linker.specs.declared.fault.BuildFault.{BuildFault}
use Rattle.ls_compiler.specs.declared.fault.CompileFault.{CompileFault}
use Rattle.ls_compiler.specs.declared.fault.CompileFault.TheVariants as faults
use Rattle.ls_image.specs.Images.{Compiles, checked_of, code_of_image, program_of_image}
use Rattle.ls_image.specs.declared.image.Image.{Image}

-- An image has the code that is made of its file and its program, so that one code runs wherever two texts are
-- compiled; and it keeps each limit of the code.
pub record IsWithinLimits (image : Image) : Type 0 where
  pub made : code_of_image image ≡ code_of (elaborated_file (checked_of image)).file
      (plain_program (program_of_image image))
  pub limits : KeepsLimits (elaborated_file (checked_of image)).file (plain_program (program_of_image image))

-- The texts are compiled, or a fault says why not. The class text spells no file; then each fault comes only if it may
-- come of the text. Or the file that it spells breaks the rule that is named. Or the program text is no program of
-- that file. Or the code goes past the limit that is named. "Out of memory" says nothing.
pub data CompilesTo (classes program : Text) : Result Image CompileFault → Type 0 where
  Compiled : (image : Image) → Compiles classes program image → CompilesTo classes program (Ok image)
  NoFile : (f : TextFault) →
      Refuses f ((file : ParsedFile) → TextSpells file classes → ⊥) →
      Comes classes f →
      CompilesTo classes program (Err (faults.Text f))
  Breaks : (file : File) (f : CheckFault) →
      IsFileOf classes file → Fails f (elaborated file) →
      CompilesTo classes program (Err (faults.Check f))
  NoProgram : (file : File) (o : ElaboratedFile) (f : ProgramFault) →
      IsFileOf classes file → elaborated file ≡ Ok o → IsNoProgram o program f →
      CompilesTo classes program (Err (faults.Program f))
  PastLimit : (file : File) (o : ElaboratedFile) (p : PlainProgram) (f : BuildFault) →
      IsFileOf classes file → elaborated file ≡ Ok o → IsTextOf o p program → GoesPast o.file p f →
      CompilesTo classes program (Err (faults.Build f))
