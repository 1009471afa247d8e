-- Why `add_thread` in src/threads.rt keeps what `push_thread` requires.

use Rattle.std.proofs.Common.{map, sym, subst}
use Rattle.std.specs.Prelude.{All}
use Rattle.ls_checked.specs.Plain.{plain_class}
use Rattle.ls_checked.specs.PlainProgram.{plain_call}
use Rattle.ls_linker.specs.Links.{CallLinks}
use Rattle.ls_linker.proofs.Rooms.{all_unmapped}
use Rattle.ls_linker.proofs.threads.add_thread.Goals as goal

pub push_thread-requires-clause-links : goal.push_thread-requires-clause-links
push_thread-requires-clause-links c =
    let classes = map plain_class c.args.classes.now in
    subst (λ calls. All (λ call. CallLinks classes (plain_call call)) calls) (sym c.deref-3.ensures.value)
    (all_unmapped (CallLinks classes) plain_call c.args.thread.now.calls.items c.requires.calls)
