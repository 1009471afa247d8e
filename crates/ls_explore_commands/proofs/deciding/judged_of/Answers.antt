-- Why `judged_of` in src/deciding.rt keeps its clauses `good`, `bad`, `unjudged`, `free`, `stuck` and `extent`.

use Rattle.std.proofs.Common.{◌≡◌, ◌∙◌, ap, false, subst, true}
use Rattle.std.specs.Prelude.{IfNone, IfSome, IsTrue}
use Rattle.ls_checked.specs.CheckedTree.{File}
use Rattle.ls_checked.specs.CheckedProgram.{Program}
use Rattle.ls_checked.specs.Plain.{plain_file}
use Rattle.ls_checked.specs.PlainProgram.{plain_program}
use Rattle.ls_types_checked.specs.CheckedFile.{elaborated_file}
use Rattle.ls_specification.specs.Specification.{spec_file, spec_program}
use Rattle.ls_translation.specs.Texts.{file_of, program_of}
use Rattle.ls_search_laws.specs.Stepping.{SetsUp}
use Rattle.ls_search.specs.Verdicts.{AreAll, AreReached, IsCut, NeverStuck}
use Rattle.ls_source_judge.specs.Judged.{AllLike, IsStuckRun, IsUnjudgedRun, IsUnlikeRun}
use Rattle.ls_race_reports.proofs.Same.{at_same}
use Rattle.ls_explore_commands.proofs.deciding.judged_of.Goals as goal

pub returns-clause-free : goal.returns-clause-free
returns-clause-free c = λ complete.
    let i = c.args.image.now in
    let j = c.in_ok-judged.judged in
    let file : plain_file c.file-file.result.now ≡ file_of i =
    ap plain_file c.file-file.ensures ∙ ap (λ k. (elaborated_file k).file) c.checked.ensures in
    let program : plain_program c.program.result.now ≡ program_of i = ap plain_program c.program.ensures in
    subst (λ (p : Program). IfNone j.stuck (NeverStuck (file_of i) p)) program
    (subst (λ (f : File). IfNone j.stuck (NeverStuck f (plain_program c.program.result.now))) file
    (c.in_ok-judged.ensures.free complete))

pub returns-clause-extent : goal.returns-clause-extent
returns-clause-extent c =
    let i = c.args.image.now in
    let j = c.in_ok-judged.judged in
    let file : plain_file c.file-file.result.now ≡ file_of i =
    ap plain_file c.file-file.ensures ∙ ap (λ k. (elaborated_file k).file) c.checked.ensures in
    let program : plain_program c.program.result.now ≡ program_of i = ap plain_program c.program.ensures in
    record {
      within = c.in_ok-judged.ensures.few;
      cut = at_same (λ (f : File) (p : Program). j.complete ≡ false → IsCut f p c.args.states j.setup j.states) file
          program
          c.in_ok-judged.ensures.cut;
      setup = j.setup;
      up = subst (λ (p : Program). SetsUp (file_of i) p j.setup) program
          (subst (λ (f : File). SetsUp f (plain_program c.program.result.now) j.setup) file
          c.in_ok-judged.ensures.up);
      reached = subst (λ (p : Program). AreReached (file_of i) p j.setup j.states) program
          (subst (λ (f : File). AreReached f (plain_program c.program.result.now) j.setup j.states) file
          c.in_ok-judged.ensures.reached);
      all = at_same (λ (f : File) (p : Program). j.complete ≡ true → AreAll f p j.setup j.states) file program
          c.in_ok-judged.ensures.all;
    }

pub returns-clause-bad : goal.returns-clause-bad
returns-clause-bad c =
    let i = c.args.image.now in
    let j = c.in_ok-judged.judged in
    let file : plain_file c.file-file.result.now ≡ file_of i =
    ap plain_file c.file-file.ensures ∙ ap (λ k. (elaborated_file k).file) c.checked.ensures in
    let program : plain_program c.program.result.now ≡ program_of i = ap plain_program c.program.ensures in
    at_same (λ (f : File) (p : Program). IfNone j.doubt (IfSome j.bad
    (λ s. IsUnlikeRun (spec_file c.args.specification) (spec_program c.args.specification)
    f p s.items))) file program
    c.in_ok-judged.ensures.bad

pub returns-clause-unjudged : goal.returns-clause-unjudged
returns-clause-unjudged c =
    let i = c.args.image.now in
    let j = c.in_ok-judged.judged in
    let file : plain_file c.file-file.result.now ≡ file_of i =
    ap plain_file c.file-file.ensures ∙ ap (λ k. (elaborated_file k).file) c.checked.ensures in
    let program : plain_program c.program.result.now ≡ program_of i = ap plain_program c.program.ensures in
    at_same (λ (f : File) (p : Program). IfSome j.doubt (λ d. IfSome j.bad
    (λ s. IsUnjudgedRun (spec_file c.args.specification) (spec_program c.args.specification)
    f p d s.items))) file program
    c.in_ok-judged.ensures.unjudged

pub returns-clause-stuck : goal.returns-clause-stuck
returns-clause-stuck c =
    let i = c.args.image.now in
    let j = c.in_ok-judged.judged in
    let file : plain_file c.file-file.result.now ≡ file_of i =
    ap plain_file c.file-file.ensures ∙ ap (λ k. (elaborated_file k).file) c.checked.ensures in
    let program : plain_program c.program.result.now ≡ program_of i = ap plain_program c.program.ensures in
    at_same (λ (f : File) (p : Program). IfSome j.stuck (λ s. IsStuckRun f p s.items)) file program
    c.in_ok-judged.ensures.stuck

pub returns-clause-good : goal.returns-clause-good
returns-clause-good c =
    let i = c.args.image.now in
    let j = c.in_ok-judged.judged in
    let file : plain_file c.file-file.result.now ≡ file_of i =
    ap plain_file c.file-file.ensures ∙ ap (λ k. (elaborated_file k).file) c.checked.ensures in
    let program : plain_program c.program.result.now ≡ program_of i = ap plain_program c.program.ensures in
    at_same (λ (f : File) (p : Program). IsTrue j.complete → IfNone j.bad
    (AllLike (spec_file c.args.specification) (spec_program c.args.specification) f p)) file program
    c.in_ok-judged.ensures.good
