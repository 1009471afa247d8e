-- Why `joined` in src/adding.rt keeps its clauses `is` and `figures` and what `both` requires.

use Rattle.std.proofs.Common.{subst, sym}
use Rattle.ls_find_reports.specs.Reports.{AreFigures}
use Rattle.ls_find_reports.proofs.Additions.{both_are, cuts_fit, doubles_fit, end_are, none_joined, some_joined}
use Rattle.ls_find_reports.proofs.adding.joined.Goals as goal

pub both-requires-clause-doubles : goal.both-requires-clause-doubles
both-requires-clause-doubles c =
    doubles_fit c.args.r.figures c.args.s.figures c.requires.first c.requires.second c.requires.next.next

pub both-requires-clause-cut : goal.both-requires-clause-cut
both-requires-clause-cut c =
    cuts_fit c.args.r.figures c.args.s.figures c.requires.first c.requires.second c.requires.next.next

pub returns-in-None-clause-is : goal.returns-in-None-clause-is
returns-in-None-clause-is c = none_joined c.args.r c.args.s c.both.result c.in-None.is c.both.ensures

pub returns-in-None-clause-figures : goal.returns-in-None-clause-figures
returns-in-None-clause-figures c =
    subst AreFigures (sym c.both.ensures)
    (both_are c.args.r.figures c.args.s.figures c.requires.first c.requires.second c.requires.next.next
    c.requires.next.count)

pub returns-in-Some-clause-is : goal.returns-in-Some-clause-is
returns-in-Some-clause-is c = some_joined c.args.r c.args.s c.in-Some.found c.in-Some.is

pub returns-in-Some-clause-figures : goal.returns-in-Some-clause-figures
returns-in-Some-clause-figures c =
    end_are c.args.r.figures c.args.s.figures c.requires.first c.requires.second c.requires.next.next
    c.requires.next.count
