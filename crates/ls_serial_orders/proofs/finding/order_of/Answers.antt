-- Why `order_of` in src/finding.rt keeps its contract.

use Rattle.std.proofs.Common.{◌∙◌, List, Option, ap, subst}
use Rattle.std.specs.Prelude.{IfNone, IfSome}
use Rattle.std.specs.declared.alloc.Global.{Global}
use Rattle.std.specs.declared.vec.Vec.{Vec}
use Rattle.ls_automaton.specs.Automaton.{IsExplainedFrom}
use Rattle.ls_automaton.specs.Laws.{RunsAreOnce}
use Rattle.ls_automaton.specs.Tables.{Goes}
use Rattle.ls_automaton.specs.declared.outcome.Outcome.{Outcome}
use Rattle.ls_events.specs.declared.event.Event.{Event}
use Rattle.ls_serial_orders.specs.Calls.{calls_of}
use Rattle.ls_serial_orders.specs.Known.{file_of, program_of}
use Rattle.ls_serial_orders.specs.Placing.{ExplainsBy}
use Rattle.ls_serial_orders.proofs.Ordering.{none_explains, none_within, ordered}
use Rattle.ls_serial_orders.proofs.finding.order_of.Goals as goal

-- no run along these rows explains the history
abbrev NoRun : List Event → List (Vec Outcome Global) → Type 0
NoRun h rows = RunsAreOnce (Goes rows) 0 → IsExplainedFrom (Goes rows) 0 h → ⊥

pub returns-in_ok-order-in-Some-clause-some : goal.returns-in_ok-order-in-Some-clause-some
returns-in_ok-order-in-Some-clause-some c =
    let h = c.args.history.now in
    ordered (file_of c.args.known.now) (program_of c.args.known.now) c.args.table.now c.in-Some.run'.items h _
    c.requires
    (subst (λ rows. ExplainsBy rows h c.in-Some.run'.items) c.as_slice-rows.ensures.value
    (subst (λ (o : Option (Vec Event Global)). IfSome o (λ run. ExplainsBy c.as_slice-rows.result.now h run.items))
    c.in-Some.is c.in_ok-found.ensures.some))
    (c.in_ok-order-in-Some.ensures ∙ ap (calls_of (program_of c.args.known.now)) c.as_slice-events.ensures.value)

pub returns-in-None-clause-none : goal.returns-in-None-clause-none
returns-in-None-clause-none c =
    let h = c.args.history.now in
    none_explains (file_of c.args.known.now) (program_of c.args.known.now) c.args.table.now h c.requires
    (subst (NoRun h) c.as_slice-rows.ensures.value
    (subst (λ (o : Option (Vec Event Global)). IfNone o (NoRun h c.as_slice-rows.result.now)) c.in-None.is
    c.in_ok-found.ensures.none))

pub returns-in-None-clause-within : goal.returns-in-None-clause-within
returns-in-None-clause-within c =
    let h = c.args.history.now in
    none_within (file_of c.args.known.now) (program_of c.args.known.now) c.args.table.now h c.requires
    (subst (NoRun h) c.as_slice-rows.ensures.value
    (subst (λ (o : Option (Vec Event Global)). IfNone o (NoRun h c.as_slice-rows.result.now)) c.in-None.is
    c.in_ok-found.ensures.none))
