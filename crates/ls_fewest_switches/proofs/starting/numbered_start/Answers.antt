-- Why `numbered_start` in src/starting.rt keeps its clauses `width`, `file` and `start`.

use Rattle.std.proofs.Common.{length, sym, ap, ◌∙◌}
use Rattle.std.proofs.lemmas.List.{length-map}
use Rattle.ls_checked.specs.Plain.{plain_file}
use Rattle.ls_checked.specs.PlainProgram.{plain_program, plain_thread}
use Rattle.ls_source.specs.Progress.{Progress, begun}
use Rattle.ls_source.specs.Stands.{StandsFor}
use Rattle.ls_fewest_switches.proofs.starting.numbered_start.Goals as goal

pub returns-clause-width : goal.returns-clause-width
returns-clause-width c =
    let p : Progress = begun (plain_file c.args.file.now) (plain_program c.args.program.now) in
    let stands : StandsFor c.in_ok-playing.playing p = c.in_ok-playing.ensures in
    c.in_ok-numbered.ensures.width
    ∙ c.in_ok-playing.playing.works
    ∙ sym (length-map c.in_ok-playing.playing.program.now.threads.items plain_thread)
    ∙ ap (λ (q : Progress). length q.program.threads) stands.shows
    ∙ length-map c.args.program.now.threads.items plain_thread

pub returns-clause-file : goal.returns-clause-file
returns-clause-file c =
    let p : Progress = begun (plain_file c.args.file.now) (plain_program c.args.program.now) in
    let stands : StandsFor c.in_ok-playing.playing p = c.in_ok-playing.ensures in
    c.in_ok-numbered.ensures.file ∙ ap (λ (q : Progress). q.file) stands.shows

pub returns-clause-start : goal.returns-clause-start
returns-clause-start c =
    c.in_ok-numbered.ensures.same (begun (plain_file c.args.file.now) (plain_program c.args.program.now))
    c.in_ok-playing.ensures
