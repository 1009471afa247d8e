-- What the loop `count` of `serial_run` in src/layers.rt keeps.

use Rattle.ls_automaton.specs.Automaton.{IsExplainedFrom}
use Rattle.ls_automaton.specs.Laws.{RunsAreOnce}
use Rattle.ls_automaton.specs.Tables.{Goes}
use Rattle.ls_serial_orders.specs.Placing.{ArePlaced}
use Rattle.ls_serial_orders.proofs.Ahead.{IsAhead}
use Rattle.ls_serial_orders.proofs.layers.serial_run.Given as goal

abbrev pub invariant-loop-count : goal.invariant-loop-count
invariant-loop-count l = record {
  placed : ArePlaced l.rows l.history l.layer.items;
  ahead : (once : RunsAreOnce (Goes l.rows) 0) (e : IsExplainedFrom (Goes l.rows) 0 l.history) →
      IsAhead l.rows l.history once e l.layer.items l.count;
}
