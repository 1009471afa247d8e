-- Why `are_quiet` in src/one_graph.rt keeps its contract and its loop, and what `meet_at` requires.
use Rattle.std.proofs.Common.{◌≡◌, ◌∙◌, Some, ap, arith, map, sym}
use Rattle.std.specs.Prelude.{slice_get}
use Rattle.std.proofs.lemmas.Option.{slice_get-get_or}
use Rattle.ls_graph.proofs.Lists.{below}
use Rattle.ls_search.proofs.Strides.{there_still}
use Rattle.ls_transitions.specs.Seen.{table_of}
use Rattle.ls_transitions.specs.Tables.{Table}
use Rattle.ls_transitions.proofs.Growing.{grows_on}
use Rattle.ls_races.specs.Volatile.{volatile_by}
use Rattle.ls_races.proofs.OneGraph.{met_later, quiet_more}
use Rattle.ls_races.proofs.one_graph.are_quiet.Goals as goal

pub meet_at-requires-clause-there : goal.meet_at-requires-clause-there
meet_at-requires-clause-there c =
    let i = c.loop-node.node-index in
    let n = c.node-item.result in
    let here : slice_get c.args.nodes.now i ≡ Some n =
    slice_get-get_or c.args.nodes.now i n c.loop-node-test.true ∙ ap Some (sym c.node-item.is) in
    there_still (table_of c.args.transitions.now) (table_of c.loop-node.transitions) n.place.store n.place.works.items
    c.loop-node.invariant.grows (c.requires.there i n here)

pub loop-node-preserved : goal.loop-node-preserved
loop-node-preserved c =
    let t : Table = table_of c.args.transitions.now in
    let t' : Table = table_of c.loop-node.transitions in
    let volatile = volatile_by (map (λ v. v.items) c.args.scope.classes.now) in
    let nodes = c.args.nodes.now in
    let i = c.loop-node.node-index in
    let n = c.node-item.result in
    let inv = c.loop-node.invariant in
    let here : slice_get nodes i ≡ Some n =
    slice_get-get_or nodes i n c.loop-node-test.true ∙ ap Some (sym c.node-item.is) in
    record {
      grows = grows_on t t' (table_of c.meet_at.new.transitions) inv.grows c.in_ok-meet_at.ensures.grows;
      quiet = quiet_more volatile t nodes i n here
          (λ meets. c.in_ok-meet_at.ensures.none c.if-branch.false
          (met_later volatile t t' n inv.grows (c.requires.there i n here) meets)) inv.quiet;
    }

pub returns : goal.returns
returns c = λ is at n here.
    let less = below c.args.nodes.now at n here in
    let all = c.loop-node-test.false in
    c.loop-node.invariant.quiet at n (omega (arith, less, all)) here
