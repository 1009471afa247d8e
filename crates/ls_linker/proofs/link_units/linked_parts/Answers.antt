-- Why `linked_parts` in src/link_units.rt keeps its contract.

use Rattle.ls_checked.specs.Plain.{plain_file}
use Rattle.ls_checked.specs.PlainProgram.{plain_program}
use Rattle.ls_linker.proofs.Wholes.{whole_linked}
use Rattle.ls_linker.proofs.link_units.linked_parts.Goals as goal

pub returns : goal.returns
returns c = whole_linked (plain_file c.args.file.now) (plain_program c.args.program.now) c.args.units.now _
    c.add_units.new.parts c.add_program.new.parts c.in_ok-parts.ensures c.in_ok-add_units.ensures
    c.in_ok-add_program.ensures
