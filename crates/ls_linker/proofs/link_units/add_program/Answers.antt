-- Why `add_program` in src/link_units.rt keeps what `add_threads` requires.

use Rattle.std.proofs.Common.{map, sym, subst}
use Rattle.std.specs.Prelude.{All}
use Rattle.ls_checked.specs.Plain.{plain_class, plain_file}
use Rattle.ls_checked.specs.PlainProgram.{plain_thread}
use Rattle.ls_linker.specs.Links.{ThreadLinks}
use Rattle.ls_linker.proofs.Rooms.{all_unmapped}
use Rattle.ls_linker.proofs.link_units.add_program.Goals as goal

pub add_threads-requires : goal.add_threads-requires
add_threads-requires c =
    subst (λ cs. All (λ thread. ThreadLinks (map plain_class cs) (plain_thread thread)) c.deref-2.result.now)
    (sym c.deref.ensures.value)
    (subst (λ ts. All (λ thread. ThreadLinks (plain_file c.args.file.now).classes (plain_thread thread)) ts)
    (sym c.deref-2.ensures.value)
    (all_unmapped (ThreadLinks (plain_file c.args.file.now).classes) plain_thread c.args.program.now.threads.items
    c.requires))
