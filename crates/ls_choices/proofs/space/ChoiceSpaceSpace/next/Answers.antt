-- Why `next` of `Space for ChoiceSpace` in src/space.rt keeps its clause `grows`.

use Rattle.ls_checked.specs.Plain.{plain_file}
use Rattle.ls_transitions.specs.Seen.{table_of}
use Rattle.ls_choices.proofs.Placing.{placed_still, standing_still}
use Rattle.ls_choices.proofs.space.ChoiceSpaceSpace.next.Goals as goal

pub returns-clause-grows : goal.returns-clause-grows
returns-clause-grows c = λ n is.
    let file = plain_file c.args.self.now.file.now in
    let t = table_of c.args.tables.now in
    let t' = table_of c.lead.new.transitions in
    (placed_still file t t' n c.lead.ensures.grows is, standing_still file t t' n c.lead.ensures.grows is)
