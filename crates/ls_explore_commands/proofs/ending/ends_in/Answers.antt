-- Why `ends_in` in src/ending.rt keeps its contract.
use Rattle.std.proofs.Common.{◌≡◌, ◌∙◌, ap, false, length}
use Rattle.ls_checked.specs.CheckedTree.{File}
use Rattle.ls_checked.specs.CheckedProgram.{Program}
use Rattle.ls_checked.specs.Plain.{plain_file}
use Rattle.ls_checked.specs.PlainProgram.{plain_program}
use Rattle.ls_types_checked.specs.CheckedFile.{elaborated_file}
use Rattle.ls_progress.specs.Ends.{AreEndsFrom, AreEndsOf, calls_of, keys}
use Rattle.ls_progress.specs.Roots.{root_of}
use Rattle.ls_translation.specs.Texts.{file_of, program_of}
use Rattle.ls_race_reports.proofs.Same.{at_same}
use Rattle.ls_explore_commands.proofs.ending.ends_in.Goals as goal

pub returns-clause-ends : goal.returns-clause-ends
returns-clause-ends c =
    let i = c.args.image.now in
    let file : plain_file c.file.result.now ≡ file_of i =
    ap plain_file c.file.ensures ∙ ap (λ k. (elaborated_file k).file) c.checked.ensures in
    let program : plain_program c.program.result.now ≡ program_of i = ap plain_program c.program.ensures in
    at_same (λ (f : File) (p : Program).
    AreEndsFrom f (length p.threads) (root_of c.args.again f p) c.in_ok-ends.ends.calls.items) file program
    c.in_ok-ends.ensures.ends

pub returns-clause-once : goal.returns-clause-once
returns-clause-once c =
    let i = c.args.image.now in
    let file : plain_file c.file.result.now ≡ file_of i =
    ap plain_file c.file.ensures ∙ ap (λ k. (elaborated_file k).file) c.checked.ensures in
    let program : plain_program c.program.result.now ≡ program_of i = ap plain_program c.program.ensures in
    at_same (λ (f : File) (p : Program). c.args.again ≡ false → AreEndsOf f p c.in_ok-ends.ends.calls.items) file
    program c.in_ok-ends.ensures.once

pub returns-clause-listed : goal.returns-clause-listed
returns-clause-listed c =
    let i = c.args.image.now in
    let file : plain_file c.file.result.now ≡ file_of i =
    ap plain_file c.file.ensures ∙ ap (λ k. (elaborated_file k).file) c.checked.ensures in
    let program : plain_program c.program.result.now ≡ program_of i = ap plain_program c.program.ensures in
    at_same (λ (f : File) (p : Program). keys c.in_ok-ends.ends.calls.items ≡ calls_of p.threads) file program
    c.in_ok-ends.ensures.listed
