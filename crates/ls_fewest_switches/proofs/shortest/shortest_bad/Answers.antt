-- Why `shortest_bad` in src/shortest.rt keeps its contract.
use Rattle.std.proofs.Common.{◌≡◌, ℕ, Bool, false, length, ap, subst, arith}
use Rattle.ls_events.specs.declared.event.Event.{Event}
use Rattle.ls_checked.specs.CheckedTree.{File}
use Rattle.ls_checked.specs.CheckedProgram.{Program}
use Rattle.ls_checked.specs.Plain.{plain_file}
use Rattle.ls_checked.specs.PlainProgram.{plain_program}
use Rattle.ls_graph.specs.declared.costs.Counted.{Counted}
use Rattle.ls_graph.specs.declared.costs.Counted.TheVariants.{Steps}
use Rattle.ls_graph.specs.Costs.{costs}
use Rattle.ls_graph.proofs.Changes.{costs_steps}
use Rattle.ls_fewest_switches.specs.Levels.{IsBelow}
use Rattle.ls_fewest_switches.specs.declared.least.Level.{Level}
use Rattle.ls_fewest_switches.specs.declared.least.Level.TheVariants as levels
use Rattle.ls_fewest_switches.proofs.Shorter.{none_shorter}
use Rattle.ls_fewest_switches.proofs.shortest.shortest_bad.Goals as goal

-- what is told where steps are counted, of any end
below : {S : Type 0} (first : S) (next : S → Event → S) (is_bad : S → Bool) (stuck : Bool) (file : File)
    (program : Program) (k : Counted) (count : ℕ) (l m : Level) →
    k ≡ Steps →
    stuck ≡ false →
    l ≡ m →
    IsBelow first next is_bad stuck file program k count l →
    IsBelow first next is_bad false file program Steps count m
below first next is_bad stuck file program k count l m counted ends same h =
    subst (IsBelow first next is_bad false file program Steps count) same
    (subst (λ b. IsBelow first next is_bad b file program Steps count l) ends
    (subst (λ j. IsBelow first next is_bad stuck file program j count l) counted h))

pub returns-in-Steps-clause-short : goal.returns-in-Steps-clause-short
returns-in-Steps-clause-short g c =
    let o = c.args.sought.observer.now in
    let steps = c.in-Steps.steps in
    let h = below (g.O.Observer.first o) (g.O.Observer.next o) (g.O.Observer.bad o) _ (plain_file c.args.file.now)
    (plain_program c.args.program.now) _ c.len-count.result _ (levels.Steps steps) c.requires.counted c.requires.ends
    c.in-Steps.is c.in_ok-steps.ensures in
    omega (arith, h.2, costs_steps 0 steps.items, ap length c.of.ensures, c.len-count.ensures)

pub returns-in-Steps-clause-shortest : goal.returns-in-Steps-clause-shortest
returns-in-Steps-clause-shortest g c = λ _.
    let o = c.args.sought.observer.now in
    let steps = c.in-Steps.steps in
    let h = below (g.O.Observer.first o) (g.O.Observer.next o) (g.O.Observer.bad o) _ (plain_file c.args.file.now)
    (plain_program c.args.program.now) _ c.len-count.result _ (levels.Steps steps) c.requires.counted c.requires.ends
    c.in-Steps.is c.in_ok-steps.ensures in
    none_shorter (g.O.Observer.first o) (g.O.Observer.next o) (g.O.Observer.bad o) (plain_file c.args.file.now)
    (plain_program c.args.program.now) c.of.result (costs Steps 0 steps.items)
    (omega (arith, costs_steps 0 steps.items, ap length c.of.ensures)) h.1

pub returns-in_ok-copied-in-Nothing-clause-shortest : goal.returns-in_ok-copied-in-Nothing-clause-shortest
returns-in_ok-copied-in-Nothing-clause-shortest g c = λ _.
    let o = c.args.sought.observer.now in
    let h = below (g.O.Observer.first o) (g.O.Observer.next o) (g.O.Observer.bad o) _ (plain_file c.args.file.now)
    (plain_program c.args.program.now) _ c.len-count.result _ levels.Nothing c.requires.counted c.requires.ends
    c.in-Nothing.is c.in_ok-steps.ensures in
    none_shorter (g.O.Observer.first o) (g.O.Observer.next o) (g.O.Observer.bad o) (plain_file c.args.file.now)
    (plain_program c.args.program.now) _ c.len-count.result
    (omega (arith, ap length c.in_ok-copied-in-Nothing.ensures, c.len-count.ensures)) h
