-- Why `by_table` in src/judging.rt keeps its contract.

use Rattle.std.proofs.Common.{◌≡◌, List, Option, None, Some, IfNone, IfSome, false, subst, true}
use Rattle.std.specs.Option.{is_some}
use Rattle.std.specs.declared.alloc.Global.{Global}
use Rattle.std.specs.declared.vec.Vec.{Vec}
use Rattle.ls_automaton.specs.Automaton.{IsExplainedFrom}
use Rattle.ls_automaton.specs.Laws.{RunsAreOnce}
use Rattle.ls_automaton.specs.Tables.{Goes}
use Rattle.ls_automaton.specs.declared.outcome.Outcome.{Outcome}
use Rattle.ls_events.specs.declared.event.Event.{Event}
use Rattle.ls_linearity.proofs.Decided.{explained_is, unexplained_is}
use Rattle.ls_serial_orders.specs.Placing.{ExplainsBy}
use Rattle.ls_linearity.proofs.judging.by_table.Goals as goal

-- no run along these rows explains the history
abbrev NoRunOf : List Event → List (Vec Outcome Global) → Type 0
NoRunOf h rows = RunsAreOnce (Goes rows) 0 → IsExplainedFrom (Goes rows) 0 h → ⊥

of_none : {A P : Type 0} (o : Option A) → is_some o ≡ false → IfNone o P → P
of_none None is p = p
of_none (Some a) is p = absurd cc

of_some : {A : Type 0} (P : A → Type 0) (o : Option A) → is_some o ≡ true → IfSome o P → (a : A) × P a
of_some P None is p = absurd cc
of_some P (Some a) is p = (a, p)

pub returns-then-is_none : goal.returns-then-is_none
returns-then-is_none c = λ file program is each.
    let h = c.args.history.now in
    unexplained_is file program c.args.table.now is h c.unexplained.result c.unexplained.ensures.long
    c.unexplained.ensures.known
    (subst (NoRunOf h) c.as_slice-rows.ensures.value
    (of_none c.in_ok-serial_run.field-0 c.if-is_none.ensures c.in_ok-serial_run.ensures.none))

pub returns : goal.returns
returns c = λ file program is each.
    let h = c.args.history.now in
    let run = of_some (λ (r : Vec Event Global). ExplainsBy c.as_slice-rows.result.now h r.items)
    c.in_ok-serial_run.field-0 c.if-is_none.ensures c.in_ok-serial_run.ensures.some in
    explained_is file program c.args.table.now is h run.0.items
    (subst (λ rows. ExplainsBy rows h run.0.items) c.as_slice-rows.ensures.value run.1)
