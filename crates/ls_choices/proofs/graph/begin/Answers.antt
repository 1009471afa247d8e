-- Why `begin` in src/graph.rt keeps its contract.

use Rattle.std.proofs.Common.{◌∙◌, ap, sym}
use Rattle.ls_labels.specs.Names.{names_of}
use Rattle.ls_source.specs.Progress.{Progress}
use Rattle.ls_choices.specs.Schedules.{told_after}
use Rattle.ls_choices.proofs.Standing.{told_lists}
use Rattle.ls_choices.proofs.graph.begin.Goals as goal

pub returns-clause-placed : goal.returns-clause-placed
returns-clause-placed c = record {
  file_is = c.in_ok-numbered.ensures.file ∙ ap (λ (q : Progress). q.file) c.in_ok-moment.ensures.stands.shows;
  numbers = c.in_ok-numbered.ensures.there;
}

pub returns-clause-stands : goal.returns-clause-stands
returns-clause-stands c =
    let names = names_of c.args.names in
    let first = c.args.first.now in
    let at = c.in_ok-moment.ensures in
    let p : Progress = record {
      file = names.file;
      program = names.program;
      state = (told_after names first).state;
      history = at.history;
    } in
    let same = c.in_ok-numbered.ensures.same p at.stands in
    record {
      lists = told_lists names first;
      is = λ i. record { configuration = sym same i; labels = sym at.labels i; calls = sym at.calls i };
    }
