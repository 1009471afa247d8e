-- Why `numbered_of` in src/replaying.rt keeps its clause `at`.
use Rattle.std.proofs.Common.{length, sym, ap, ◌∙◌}
use Rattle.std.proofs.lemmas.List.{length-map}
use Rattle.ls_checked.specs.PlainProgram.{plain_thread}
use Rattle.ls_search.specs.Runs.{progress_at}
use Rattle.ls_source.specs.Progress.{Progress}
use Rattle.ls_races.proofs.replaying.numbered_of.Goals as goal

pub returns-clause-at : goal.returns-clause-at
returns-clause-at c = λ file program played.
    let n = c.in_ok-numbered.ensures in
    let playing = c.args.played.now.playing in
    record {
      there = n.there;
      width =
          n.width ∙ playing.works ∙ sym (length-map playing.program.now.threads.items plain_thread)
          ∙ ap (λ (q : Progress). length q.program.threads) played.stands.shows;
      file_is = n.file ∙ ap (λ (q : Progress). q.file) played.stands.shows;
      state = n.same (progress_at file program c.args.played.now.steps.items) played.stands;
    }
