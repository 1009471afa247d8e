-- Why `Moment::step` in src/moment.rt keeps its contract.

use Rattle.std.proofs.Common.{ap, ◌∙◌}
use Rattle.ls_labels.specs.Names.{Names}
use Rattle.ls_source.specs.Progress.{Progress, gone_on}
use Rattle.ls_trace.specs.Told.{Told, calls_after, labels_after}
use Rattle.ls_choices.specs.Seen.{IsAt}
use Rattle.ls_choices.proofs.Seeing.{both_ok}
use Rattle.ls_choices.proofs.moment.Moment.step.Goals as goal

pub returns : goal.returns
returns c =
    let t = c.args.thread in
    let did = c.in_ok-did.did in
    both_ok c.note_step.result (λ labels calls. λ (names : Names) (r : Told) (h : IsAt names c.args.self.now r).
    let p : Progress = record {
      file = names.file;
      program = names.program;
      state = r.state;
      history = h.history;
    } in
    record {
      history = (gone_on p t).history;
      stands = c.in_ok-did.ensures.run p h.stands;
      labels = labels ∙ ap (λ l. labels_after l did) h.labels
          ∙ ap (labels_after r.labels) (c.in_ok-did.ensures.did p h.stands);
      calls = calls ∙ ap (λ l. calls_after l t did) h.calls
          ∙ ap (calls_after r.calls t) (c.in_ok-did.ensures.did p h.stands);
    }) c.note_step.ensures.labels c.note_step.ensures.calls
