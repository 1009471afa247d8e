-- Why `have_many` in src/objects.rt keeps its loop `at`.

use Rattle.std.proofs.Common.{◌≡◌, ◌+◌, ◌<◌, ◌≤◌, List, Some, ap, length, refl, take, arith, rules}
use Rattle.std.specs.Prelude.{slice_get}
use Rattle.std.proofs.lemmas.Option.{slice_get_read}
use Rattle.ls_transitions.specs.Seen.{table_of}
use Rattle.ls_transitions.specs.Tables.{Table}
use Rattle.ls_search.specs.declared.places.Node.{Node}
use Rattle.ls_search.specs.Listed.{objects_of}
use Rattle.ls_search.specs.Objects.{weight_of}
use Rattle.ls_search.specs.Places.{configuration_of}
use Rattle.ls_search.proofs.Counting.{total_take}
use Rattle.ls_search.proofs.objects.have_many.Goals as goal

pub loop-at-preserved : goal.loop-at-preserved
loop-at-preserved c =
    let t : Table = table_of c.args.transitions.now in
    let nodes : List Node = c.args.nodes.now in
    let within : c.loop-at.at < length c.args.nodes.now = search rules in
    let here : slice_get c.args.nodes.now c.loop-at.at ≡ Some c.index-nodes-at.result =
    slice_get_read nodes (length nodes) c.loop-at.at c.index-nodes-at.result refl within c.index-nodes-at.is in
    let more : objects_of (table_of c.args.transitions.now) (take (c.loop-at.at + 1) c.args.nodes.now) ≡
    objects_of (table_of c.args.transitions.now) (take c.loop-at.at c.args.nodes.now)
    + weight_of (configuration_of (table_of c.args.transitions.now) c.index-nodes-at.result.place) =
    total_take (λ (n : Node). weight_of (configuration_of t n.place)) nodes c.loop-at.at c.index-nodes-at.result here in
    let one = ap (λ (n : Node). weight_of (configuration_of t n.place)) c.index-nodes-at.is in
    let old : c.loop-at.objects ≤ objects_of (table_of c.args.transitions.now) (take c.loop-at.at c.args.nodes.now) =
    c.loop-at.invariant in
    omega (arith, more, one, c.saturating_add-objects.ensures, c.objects_at.ensures, old)
