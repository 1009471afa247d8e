-- Why `sum_from` in src/adding.rt keeps its clauses `none` and `some` and its loop `at`.

use Rattle.std.proofs.Common.{◌+◌, ap, drop, map, subst, sym}
use Rattle.ls_find_reports.specs.Reports.{plain_report, Report}
use Rattle.ls_find_reports.proofs.Additions.{all_on, apart, drop_one, drop_past, IsOnWay, one_on, sets_out}
use Rattle.ls_find_reports.proofs.Guesses.{not_both}
use Rattle.ls_find_reports.proofs.adding.sum_from.Goals as goal

pub loop-at-init : goal.loop-at-init
loop-at-init c = record {
  sum = c.requires.first;
  way = sets_out (plain_report c.args.first)
      (map plain_report c.args.more.now);
}

pub loop-at-preserved : goal.loop-at-preserved
loop-at-preserved c =
    let report = c.report_at-report.result in
    let left = ap (map plain_report) (drop_one c.args.more.now c.loop-at.at report c.report_at-report.ensures) in
    record {
      sum = c.joined-sum.ensures.figures;
      way = subst (λ (q : Report). IsOnWay (plain_report c.args.first) (map plain_report c.args.more.now) q
          (map plain_report (drop (c.loop-at.at + 1) c.args.more.now))) (sym c.joined-sum.ensures.is)
          (one_on (plain_report c.args.first) (map plain_report c.args.more.now) (plain_report c.loop-at.sum)
          (plain_report report) _ _ c.loop-at.invariant.way left (c.follows.ensures.0 c.if-not-follows.false));
    }

pub returns-then-not-follows-clause-none : goal.returns-then-not-follows-clause-none
returns-then-not-follows-clause-none c =
    let report = c.report_at-report.result in
    let left = ap (map plain_report) (drop_one c.args.more.now c.loop-at.at report c.report_at-report.ensures) in
    apart (plain_report c.args.first) (map plain_report c.args.more.now) (plain_report c.loop-at.sum)
    (plain_report report)
    _ _ c.loop-at.invariant.way left (λ f. not_both (c.follows.ensures.1 f) c.if-not-follows.true)

pub returns-clause-some : goal.returns-clause-some
returns-clause-some c =
    let none = ap (map plain_report) (drop_past c.args.more.now c.loop-at.at c.loop-at-test.false) in
    let all = all_on (plain_report c.args.first) (map plain_report c.args.more.now) (plain_report c.loop-at.sum)
    (map plain_report (drop c.loop-at.at c.args.more.now)) c.loop-at.invariant.way none in
    (all.0, all.1, c.loop-at.invariant.sum)
