-- Why `ranged_links` in src/in_range.rt keeps its contract.

use Rattle.std.proofs.Math.Logic.{∥∥₁_elim}
use Rattle.ls_refs.specs.Lowered.{lowered_file}
use Rattle.ls_finally.specs.Flat.{flat_file}
use Rattle.ls_emit.specs.Units.{units_of}
use Rattle.ls_linker.proofs.Once.{links_once}
use Rattle.ls_linker.proofs.Linking.{all_link}
use Rattle.ls_linker.proofs.in_range.ranged_links.Goals as goal

pub returns : goal.returns
returns c = λ file program well reads fit short.
    let once = links_once file program (units_of (flat_file (lowered_file file))) in
    ∥∥₁_elim well once
    (λ w. ∥∥₁_elim reads once (λ r. all_link file program w.limits r.typed r.limits w.typed w.classes w.loops fit
    short))
