-- What an image of these parts is.
use Rattle.std.proofs.Common.{◌≡◌, ◌<◌, length, sym, subst, ap, ◌∙◌, Ok, Err, arith}
use Rattle.std.specs.Prelude.{IsErrOf}
use Rattle.ls_parser_spelling.specs.Files.{IsFileOf}
use Rattle.ls_lexer.specs.declared.fault.TextFault.{TextFault}
use Rattle.ls_lexer.specs.declared.fault.TextFault.TheVariants as text
use Rattle.ls_checked.specs.PlainProgram.{plain_program}
use Rattle.ls_checked.specs.declared.program.Program.{Program}
use Rattle.ls_code.specs.Code.{Code}
use Rattle.ls_types_elaboration.specs.Trees.{Text, File}
use Rattle.ls_types_elaboration.specs.Elaboration.{elaborated}
use Rattle.ls_types_checked.specs.CheckedFile.{elaborated_file}
use Rattle.ls_types_programs.specs.Programs.{IsTextOf}
use Rattle.ls_types_checked.specs.Sources.{checked_of, program_of, source_file, source_program}
use Rattle.ls_types_checked.specs.declared.checked.Checked.{Checked}
use Rattle.ls_types_checked.specs.declared.source.Source.{Source}
use Rattle.ls_linker.specs.Limits.{KeepsLimits, GoesPast}
use Rattle.ls_linker.specs.declared.fault.BuildFault.{BuildFault}
use Rattle.ls_linker.specs.Compiled.{code_of}
use Rattle.ls_linker.specs.Runs.{Runs}
use Rattle.ls_image.specs.Images.{Compiles, code_of_image, source_of}
use Rattle.ls_compiler.specs.Answers.{IsWithinLimits}
use Rattle.ls_image.specs.declared.image.Image.{Image}

-- an error that is tested to be "too long" is it
pub err_of : {T : Type 0} (f : TextFault) → IsErrOf {T = T} (Err f) text.TooLong → f ≡ text.TooLong
err_of f e = cc

-- the image is compiled from these texts, if each part is
pub compiled : (classes text : Text) (file : File) (checked : Checked) (program : Program) (source : Source)
    (code : Code) (image : Image) →
    source_of image ≡ source → code_of_image image ≡ code → checked_of source ≡ checked → program_of source ≡ program →
    IsFileOf classes file → elaborated file ≡ Ok (elaborated_file checked) →
    IsTextOf (elaborated_file checked) (plain_program program) text →
    Runs (source_file source) (source_program source) code →
    Compiles classes text image
compiled classes text file checked program source code image s d c p spelled elaborates reads runs = record {
  file = file;
  spelled = spelled;
  elaborates = subst (λ x. elaborated file ≡ Ok (elaborated_file x)) (sym (ap checked_of s ∙ c)) elaborates;
  reads = subst (λ x. IsTextOf (elaborated_file x) (source_program (source_of image)) text) (sym (ap checked_of s ∙ c))
      (subst (λ y. IsTextOf (elaborated_file checked) (plain_program y) text) (sym (ap program_of s ∙ p)) reads);
  runs = subst (λ x. Runs (source_file x) (source_program x) (code_of_image image)) (sym s)
      (subst (λ z. Runs (source_file source) (source_program source) z) (sym d) runs);
}

-- the code has a thread, since the program has a setup
pub has_setup : (checked : Checked) (program : Program) (source : Source) (code : Code) (text : Text) →
    program_of source ≡ program →
    IsTextOf (elaborated_file checked) (plain_program program) text →
    Runs (source_file source) (source_program source) code → 0 < length code.starts
has_setup checked program source code text p reads runs =
    let many = runs.same.threads in
    let same = ap (λ x. length (plain_program x).threads) p in
    let parts = ap length reads.program.parts in
    omega (arith, many, same, parts)

-- the image has the code of its source, and keeps the limits that its source keeps
pub limited : (source : Source) (code : Code) (image : Image) →
    source_of image ≡ source →
    code_of_image image ≡ code →
    code ≡ code_of (source_file source) (source_program source) →
    KeepsLimits (source_file source) (source_program source) → IsWithinLimits image
limited source code image s d made within = record {
  made = d ∙ (made ∙ ap (λ x. code_of (source_file x) (source_program x)) (sym s));
  limits = subst (λ x. KeepsLimits (source_file x) (source_program x)) (sym s) within;
}

-- a source that goes past a limit does so with the parts that it was made of
pub past : (checked : Checked) (program : Program) (source : Source) (f : BuildFault) →
    checked_of source ≡ checked →
    program_of source ≡ program →
    GoesPast (source_file source) (source_program source) f →
    GoesPast (elaborated_file checked).file (plain_program program) f
past checked program source f c p goes =
    subst (λ x. GoesPast (elaborated_file x).file (plain_program program) f) c
    (subst (λ y. GoesPast (source_file source) (plain_program y) f) p goes)
