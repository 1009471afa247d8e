-- Why `play_one` in src/playing.rt keeps its clause `played`.
use Rattle.std.proofs.Common.{◌∙◌, sym}
use Rattle.ls_search.specs.Runs.{progress_at}
use Rattle.ls_races.proofs.Stepped.{acts_on, stands_more}
use Rattle.ls_races.proofs.playing.play_one.Goals as goal

pub returns-clause-played : goal.returns-clause-played
returns-clause-played c = λ file program is.
    let before = c.args.played.steps.items in
    let after = c.push.new.self.items in
    let more = c.in_ok-push.ensures.items in
    record {
      stands = stands_more file program before c.args.thread after more c.step.new.self
          (c.in_ok-did.ensures.run (progress_at file program before) is.stands);
      acts = acts_on file program before c.args.thread after more c.in_ok-did.did
          (c.in_ok-did.ensures.did (progress_at file program before) is.stands)
          (sym c.has_acted.ensures.is ∙ c.if-not-has_acted.false) is.acts;
    }
