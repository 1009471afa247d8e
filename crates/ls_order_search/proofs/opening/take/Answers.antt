-- Why `take` in src/opening.rt keeps its clause `some`.

use Rattle.std.proofs.Common.{sym, subst}
use Rattle.ls_order_search.specs.Plans.{Distinct}
use Rattle.ls_order_search.specs.Pools.{Indexed, ending_cmp, ending_of, turn_cmp, turn_of}
use Rattle.ls_order_search.proofs.Indexes.{index_less}
use Rattle.ls_order_search.proofs.Lists.{among_split, distinct_without}
use Rattle.ls_order_search.proofs.Turns.{turn_exact, turn_total, turns_apart}
use Rattle.ls_order_search.proofs.opening.take.Goals as goal

pub returns-clause-some : goal.returns-clause-some
returns-clause-some c = λ calls h.
    let pool = c.args.pool.now in
    let x = c.in_ok-turn.call in
    let is = c.in_ok-turn.ensures.some calls h in
    let parts = among_split x calls is.0 in
    let d = subst Distinct parts.2 h.distinct in
    record {
      front = parts.0;
      back = parts.1;
      among = parts.2;
      chosen = is.2;
      holds = record {
        distinct = distinct_without parts.0 x parts.1 d;
        turns = index_less turn_cmp turn_of turn_total turn_exact turns_apart pool.turns c.remove.new.self parts.0
            parts.1 x
            c.in_ok-turn.turn (sym is.1) c.remove.ensures.updates.0 d
            (subst (Indexed turn_cmp turn_of pool.turns) parts.2 h.turns);
        ends = c.take_ending.ensures parts.0 parts.1 d
            (subst (Indexed ending_cmp ending_of pool.ends) parts.2 h.ends);
      };
    }
