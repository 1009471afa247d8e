-- Why `SourceRun::new` in src/run.rt keeps its contract.

use Rattle.std.proofs.Common.{◌≡◌, ap, ◌∙◌}
use Rattle.ls_checked.specs.Plain.{plain_file}
use Rattle.ls_checked.specs.PlainProgram.{plain_program}
use Rattle.ls_source.specs.Progress.{begun}
use Rattle.ls_source.specs.SeenRun.{lists_of}
use Rattle.ls_source.proofs.Starts.{none, none_is}
use Rattle.ls_source.proofs.Standing.{held_lists, held_kept, held_shows}
use Rattle.ls_source.proofs.run.SourceRun.new.Goals as goal

pub invariant_of-result : goal.invariant_of-result
invariant_of-result c =
    let p = begun (plain_file c.args.file.now) (plain_program c.args.program.now) in
    let had : lists_of c.in_ok-answers.answers.items ≡ p.state.answers = c.in_ok-answers.ensures ∙
    ap none c.deref.ensures.value ∙ none_is c.args.program.now.threads.items in
    record {
      lists = held_lists c.in_ok-playing.playing c.in_ok-answers.answers.items p c.in_ok-playing.ensures had;
      kept = held_kept c.in_ok-playing.playing c.in_ok-answers.answers.items p c.in_ok-playing.ensures had;
    }

pub returns : goal.returns
returns c =
    let p = begun (plain_file c.args.file.now) (plain_program c.args.program.now) in
    let had : lists_of c.in_ok-answers.answers.items ≡ p.state.answers = c.in_ok-answers.ensures ∙
    ap none c.deref.ensures.value ∙ none_is c.args.program.now.threads.items in
    held_shows c.in_ok-playing.playing c.in_ok-answers.answers.items p c.in_ok-playing.ensures had
