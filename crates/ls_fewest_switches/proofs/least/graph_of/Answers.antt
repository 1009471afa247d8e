-- Why `graph_of` in src/least.rt keeps its contract.
use Rattle.std.proofs.Common.{Some, length, sym, subst}
use Rattle.std.specs.Prelude.{IfSome}
use Rattle.ls_checked.specs.CheckedTree.{File}
use Rattle.ls_checked.specs.CheckedProgram.{Program}
use Rattle.ls_checked.specs.Plain.{plain_file}
use Rattle.ls_checked.specs.PlainProgram.{plain_program}
use Rattle.ls_graph.specs.Walks.{IsLeast}
use Rattle.ls_search.specs.Near.{NeverBad}
use Rattle.ls_search.specs.Nameless.{nameless_bad, nameless_next}
use Rattle.ls_search.proofs.Covering.{all_cost}
use Rattle.ls_search.specs.declared.space.Wanted.{Wanted}
use Rattle.ls_fewest_switches.specs.Levels.{IsFound, wanted_of}
use Rattle.ls_fewest_switches.proofs.Told.{leaves}
use Rattle.ls_fewest_switches.proofs.least.graph_of.Goals as goal

pub returns : goal.returns
returns g c = λ least is s bad ends.
    let o = c.args.sought.now.observer.now in
    let first = g.O.Observer.first o in
    let next = g.O.Observer.next o in
    let is_bad = g.O.Observer.bad o in
    let stands = g.O.Observer.stands o in
    let file : File = plain_file c.args.file.now in
    let program : Program = plain_program c.args.program.now in
    let stuck = c.args.sought.now.stuck in
    let counted = c.args.sought.now.counted in
    let closing = c.in_ok-closing.closing in
    let edges = closing.graph.edges.items in
    let looked = closing.looked.items in
    let count = length closing.graph.found.nodes.items in
    let found : IsFound (Some first) (nameless_next next) (nameless_bad is_bad) (λ n. Some (stands n)) c.args.lost
    (wanted_of stuck)
    file program edges count looked =
    subst (λ (b : Wanted). IsFound (Some first) (nameless_next next) (nameless_bad is_bad) (λ n. Some (stands n))
    c.args.lost b file program edges count looked) c.scope_of.ensures.wanted c.in_ok-closing.ensures in
    all_cost file program first next is_bad stands c.args.lost (wanted_of stuck)
    (λ n e. subst (λ l. IfSome l (λ m. NeverBad next is_bad (stands m))) e c.requires.lost) found.states edges looked
    counted least found.graph (subst (λ k. IsLeast counted edges k looked least) (sym found.many) is) s bad
    (leaves stuck file program s ends)
