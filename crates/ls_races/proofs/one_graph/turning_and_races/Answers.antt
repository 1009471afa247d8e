-- Why `turning_and_races` in src/one_graph.rt keeps its clause `races`, and what `is_quiet` requires.
use Rattle.std.proofs.Common.{[], length, map, subst, sym}
use Rattle.std.specs.Prelude.{IfSome}
use Rattle.ls_checked.specs.Plain.{plain_file}
use Rattle.ls_checked.specs.PlainProgram.{plain_program}
use Rattle.ls_graph.specs.Graph.{IsWhole}
use Rattle.ls_graph.specs.declared.closing.Closing.{Closing}
use Rattle.ls_search.specs.declared.space.Kept.{Kept}
use Rattle.ls_transitions.specs.Seen.{table_of}
use Rattle.ls_transitions.specs.Tables.{Table}
use Rattle.ls_spinning.specs.States.{AreThere, IsLed}
use Rattle.ls_spinning.specs.declared.states.Led.{Led}
use Rattle.ls_spinning.proofs.Loud.{all_there}
use Rattle.ls_races.specs.Sought.{AreQuiet}
use Rattle.ls_races.specs.Volatile.{volatile_by}
use Rattle.ls_races.proofs.OneGraph.{never_meets, quiet_before}
use Rattle.ls_races.proofs.one_graph.turning_and_races.Goals as goal

pub is_quiet-requires : goal.is_quiet-requires
is_quiet-requires c =
    let l : Led = c.in-Some.led in
    let t : Table = table_of l.tables.transitions in
    let t' : Table = table_of c.turning_in.new.led.tables.transitions in
    let is = c.in_ok-turning.ensures in
    let led = subst (λ o. IfSome o (IsLed (plain_file c.args.scope.file.now)
    (plain_program c.args.scope.program.now) []))
    c.in-Some.is c.in_ok-led.ensures in
    subst (λ (k : Closing Kept). AreThere t' k.graph.found.nodes.items) (sym is.closing)
    (all_there t t' is.grows l.closing.graph.found.nodes.items led.there)

pub returns-clause-races : goal.returns-clause-races
returns-clause-races c = λ free.
    let l : Led = c.in-Some.led in
    let t : Table = table_of l.tables.transitions in
    let t' : Table = table_of c.turning_in.new.led.tables.transitions in
    let volatile = volatile_by (map (λ v. v.items) c.args.scope.classes.now) in
    let is = c.in_ok-turning.ensures in
    let led = subst (λ o. IfSome o (IsLed (plain_file c.args.scope.file.now)
    (plain_program c.args.scope.program.now) []))
    c.in-Some.is c.in_ok-led.ensures in
    let whole = subst (λ (k : Closing Kept). IsWhole (length k.graph.found.nodes.items) k.looked.items) is.closing
    (c.in_ok-race_free.ensures.whole free) in
    let quiet = subst (λ (k : Closing Kept). AreQuiet volatile t' k.graph.found.nodes.items) is.closing
    (c.in_ok-race_free.ensures.quiet free) in
    never_meets volatile (plain_file c.args.scope.file.now) (plain_program c.args.scope.program.now) l
    led whole
    (quiet_before volatile t t' l.closing.graph.found.nodes.items is.grows led.there quiet)
