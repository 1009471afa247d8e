-- Why `prepare` in src/running.rt keeps its clauses `root`, `width` and `file`.

use Rattle.std.proofs.Common.{◌≡◌, List, length, sym, ap, ◌∙◌, replicate}
use Rattle.std.specs.List.{fold}
use Rattle.std.proofs.lemmas.List.{length-map}
use Rattle.ls_events.specs.declared.event.Event.{Event}
use Rattle.ls_checked.specs.CheckedTree.{File}
use Rattle.ls_checked.specs.CheckedProgram.{Program}
use Rattle.ls_checked.specs.Plain.{plain_file}
use Rattle.ls_checked.specs.PlainProgram.{plain_program, plain_thread}
use Rattle.ls_search_laws.specs.Configuration.{Configuration, configuration_of}
use Rattle.ls_source.specs.Progress.{Progress}
use Rattle.ls_source.specs.Stands.{StandsFor}
use Rattle.ls_search.specs.Runs.{progress_at}
use Rattle.ls_search.proofs.running.prepare.Goals as goal

pub returns-clause-root : goal.returns-clause-root
returns-clause-root g c =
    let file : File = plain_file c.args.file.now in
    let program : Program = plain_program c.args.program.now in
    let first = g.O.Observer.first c.args.observer.now in
    let next = g.O.Observer.next c.args.observer.now in
    let p : Progress = progress_at file program (replicate c.in_ok-playing.field-0.steps 0) in
    let stands : StandsFor c.in_ok-playing.field-0.playing p = c.in_ok-playing.ensures.stands in
    let noted : g.O.Observer.stands c.args.observer.now c.in_ok-noted.noted ≡ fold next first p.history =
    c.in_ok-noted.ensures ∙ ap (λ (es : List Event). fold next first es) c.deref.ensures.value ∙
    ap (λ (q : Progress). fold next first q.history) stands.shows in
    ap (λ (k : Configuration). record {
      configuration = k;
      noted = g.O.Observer.stands c.args.observer.now c.in_ok-noted.noted;
    }) (c.in_ok-transitions.ensures.same p stands)
    ∙ ap (λ (s : g.O.Observer.State). record { configuration = configuration_of file program p.state; noted = s }) noted

pub returns-clause-width : goal.returns-clause-width
returns-clause-width g c =
    let program : Program = plain_program c.args.program.now in
    let p : Progress = progress_at (plain_file c.args.file.now) program (replicate c.in_ok-playing.field-0.steps 0) in
    let stands : StandsFor c.in_ok-playing.field-0.playing p = c.in_ok-playing.ensures.stands in
    c.in_ok-transitions.ensures.width
    ∙ c.in_ok-playing.field-0.playing.works
    ∙ sym (length-map c.in_ok-playing.field-0.playing.program.now.threads.items plain_thread)
    ∙ ap (λ (q : Progress). length q.program.threads) stands.shows
    ∙ length-map c.args.program.now.threads.items plain_thread

pub returns-clause-file : goal.returns-clause-file
returns-clause-file g c =
    let p : Progress = progress_at (plain_file c.args.file.now) (plain_program c.args.program.now)
    (replicate c.in_ok-playing.field-0.steps 0) in
    let stands : StandsFor c.in_ok-playing.field-0.playing p = c.in_ok-playing.ensures.stands in
    c.in_ok-transitions.ensures.file ∙ ap (λ (q : Progress). q.file) stands.shows
