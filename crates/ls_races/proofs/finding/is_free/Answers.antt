-- Why `is_free` in src/finding.rt keeps its contract.
use Rattle.std.proofs.Common.{◌≡◌, ◌≢◌, ℕ, [], None, Some, length, map}
use Rattle.ls_checked.specs.Plain.{plain_file}
use Rattle.ls_checked.specs.PlainProgram.{plain_program}
use Rattle.ls_race_laws.specs.declared.access.Kind.{Kind}
use Rattle.ls_races.specs.Volatile.{volatile_by}
use Rattle.ls_races.proofs.Covering.{races_none}
use Rattle.ls_races.proofs.finding.is_free.Goals as goal

nothing_told : (k on : Kind) → None ≡ Some k → k ≢ on
nothing_told k on e = absurd cc

pub returns : goal.returns
returns c = λ whole schedule on m.
    let volatile = volatile_by (map (λ v. v.items) c.args.scope.classes.now) in
    let closing = c.in_ok-closing.closing in
    races_none volatile [] (plain_file c.args.scope.file.now) (plain_program c.args.scope.program.now)
    closing.graph.edges.items (length closing.graph.found.nodes.items) closing.looked.items
    c.in_ok-closing.ensures.graph
    (c.is_whole.ensures whole) schedule on m (λ i k at. nothing_told k on at)
