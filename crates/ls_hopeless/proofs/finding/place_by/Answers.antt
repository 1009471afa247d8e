-- Why `place_by` in src/finding.rt keeps its clause `first`.

use Rattle.std.proofs.Common.{List, IfNone, IfSome, ◌≡◌, false, subst}
use Rattle.std.specs.declared.alloc.Global.{Global}
use Rattle.std.specs.declared.vec.Vec.{Vec}
use Rattle.ls_automaton.specs.declared.outcome.Outcome.{Outcome}
use Rattle.ls_linearity.specs.Followed.{IsLostAt, is_lost}
use Rattle.ls_hopeless.proofs.First.{place_is, undecided_is}
use Rattle.ls_hopeless.proofs.finding.place_by.Goals as goal

pub returns-then-table-clause-first : goal.returns-then-table-clause-first
returns-then-table-clause-first c = λ file program is once bad.
    undecided_is file program c.args.table.now is c.args.history.now once c.if-table.true bad

pub returns-clause-first : goal.returns-clause-first
returns-clause-first c = λ file program is once bad.
    let h = c.args.history.now in
    let place = c.in_ok-place.place in
    place_is file program c.args.table.now is h once place c.if-table.false bad
    (subst (λ (rows : List (Vec Outcome Global)). IfSome place (IsLostAt rows h)) c.as_slice.ensures.value
    c.in_ok-place.ensures.some)
    (subst (λ (rows : List (Vec Outcome Global)). IfNone place (is_lost rows h ≡ false)) c.as_slice.ensures.value
    c.in_ok-place.ensures.none)
