-- Why `link` in src/link_units.rt keeps what `unwrap` requires.

use Rattle.std.proofs.Common.{sym, subst}
use Rattle.ls_checked.specs.Plain.{plain_file}
use Rattle.ls_checked.specs.PlainProgram.{plain_program}
use Rattle.ls_code.specs.Code.{IsSmall}
use Rattle.ls_linker.proofs.Rooms.{small_linked}
use Rattle.ls_linker.proofs.link_units.link.Goals as goal

pub unwrap-requires : goal.unwrap-requires
unwrap-requires c =
    c.new.ensures.small.1 (subst IsSmall (sym c.in_ok-parts.ensures)
    (small_linked (plain_file c.args.file.now) (plain_program c.args.program.now) c.args.units.now c.requires))
