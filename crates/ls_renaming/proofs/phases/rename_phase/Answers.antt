-- Why `rename_phase` in src/phases.rt keeps its contract.

use Rattle.std.proofs.Common.{rules, IsTrue, sym, ap, ◌∙◌}
use Rattle.ls_source.specs.Calls.{Fetches, Makes}
use Rattle.ls_source.specs.SeenThread.{phase_of}
use Rattle.ls_source.specs.declared.thread.Phase.{Phase}
use Rattle.ls_works.specs.Frames.{renamed_phase}
use Rattle.ls_renaming.specs.Seen.{names_of}
use Rattle.ls_renaming.proofs.Lists.{constant_values}
use Rattle.ls_renaming.proofs.phases.rename_phase.Goals as goal

pub returns-else-not-are_constant : goal.returns-else-not-are_constant
returns-else-not-are_constant c = λ old.
    let yes : IsTrue c.are_constant.result = search rules in
    ap (Makes c.in-Makes.name c.in-Makes.class)
    (constant_values c.args.names.now c.in-Makes.values.now (c.are_constant.ensures yes))
    ∙ sym (ap (λ (p : Phase). renamed_phase (names_of c.args.names.now) (phase_of p old)) c.in-Makes.is)

pub returns-else-not-are_constant-2 : goal.returns-else-not-are_constant-2
returns-else-not-are_constant-2 c = λ old.
    let yes : IsTrue c.are_constant-in-Fetches.result = search rules in
    ap (Fetches c.in-Fetches.name c.in-Fetches.method)
    (constant_values c.args.names.now c.in-Fetches.values.now (c.are_constant-in-Fetches.ensures yes))
    ∙ sym (ap (λ (p : Phase). renamed_phase (names_of c.args.names.now) (phase_of p old)) c.in-Fetches.is)
