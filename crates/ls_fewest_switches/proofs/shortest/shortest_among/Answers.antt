-- Why `shortest_among` in src/shortest.rt keeps its clauses `among` and `shortest` and what `shortest_bad` requires.

use Rattle.std.proofs.Common.{List, map, ap, ◌∙◌}
use Rattle.std.specs.List.{fold}
use Rattle.ls_events.specs.declared.event.Event.{Event}
use Rattle.ls_checked.specs.CheckedTree.{File}
use Rattle.ls_checked.specs.CheckedProgram.{Program}
use Rattle.ls_checked.specs.Plain.{plain_file}
use Rattle.ls_checked.specs.PlainProgram.{plain_program}
use Rattle.ls_meaning.specs.Runs.{source_history}
use Rattle.ls_fewest_switches.specs.Among.{is_one_whole, lefts_after, lefts_at}
use Rattle.ls_fewest_switches.proofs.Lefts.{is_one, never_one, one_is}
use Rattle.ls_fewest_switches.proofs.Shorter.{shortest_of}
use Rattle.ls_fewest_switches.proofs.shortest.shortest_among.Goals as goal

pub shortest_bad-requires-clause-lost : goal.shortest_bad-requires-clause-lost
shortest_bad-requires-clause-lost c = λ h.
    let histories : List (List Event) = map (λ v. v.items) c.args.histories.now in
    ap (λ which. is_one_whole (fold lefts_after (lefts_at histories 0 which) h)) c.new.ensures.items ∙ never_one h

pub returns-clause-among : goal.returns-clause-among
returns-clause-among c = λ has.
    let histories : List (List Event) = map (λ v. v.items) c.args.histories.now in
    let file : File = plain_file c.args.file.now in
    let program : Program = plain_program c.args.program.now in
    one_is histories (source_history file program c.in_ok-least.least.schedule)
    (c.in_ok-least.ensures.sought (is_one histories (source_history file program c.args.found.now) has))

pub returns-clause-shortest : goal.returns-clause-shortest
returns-clause-shortest c = λ is.
    shortest_of (map (λ v. v.items) c.args.histories.now) (plain_file c.args.file.now)
    (plain_program c.args.program.now)
    c.in_ok-least.least.schedule (c.in_ok-least.ensures.shortest is)
