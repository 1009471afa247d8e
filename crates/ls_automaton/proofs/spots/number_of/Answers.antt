-- Why `number_of` in src/spots.rt keeps its contract.

use Rattle.std.proofs.Common.{Some, ap, arith, sym, ◌∙◌}
use Rattle.ls_serial.proofs.Lists.{is_get}
use Rattle.ls_automaton.proofs.spots.number_of.Goals as goal

pub returns-then-is_at : goal.returns-then-is_at
returns-then-is_at c = record {
  spot = c.index.result.now;
  there = is_get c.args.spots.now.list.items c.in_ok-n.n c.index.result.now (omega (arith, c.if-n-len.true))
      ∙ ap Some (sym c.index.ensures);
  mark = c.is_at.ensures c.if-is_at.true;
}
