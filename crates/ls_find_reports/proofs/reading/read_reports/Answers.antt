-- Why `read_reports` in src/reading.rt keeps its clause `fault` and its loop `rest`.

use Rattle.std.proofs.Common.{◌≡◌, ◌∙◌, ◌+◌, ◌-◌, ◌<◌, ap, arith, length, map, rules, subst, sym}
use Rattle.std.specs.Prelude.{option_map}
use Rattle.std.proofs.lemmas.Bool.Decides.{nat_tests}
use Rattle.std.proofs.lemmas.List.{length-append, map_push}
use Rattle.ls_report.proofs.CutLemmas.{none_is}
use Rattle.ls_find_reports.specs.Reports.{plain_entry, plain_report}
use Rattle.ls_find_reports.proofs.Listed.{breaks, IsReading, past_mark, past_report, starts}
use Rattle.ls_find_reports.proofs.reading.read_reports.Goals as goal

pub loop-rest-init : goal.loop-rest-init
loop-rest-init c =
    record {
      text = search rules;
      reading = subst (λ items. IsReading c.args.text.now c.args.text.now (map plain_report items))
          (sym c.new-reports.ensures.items) (starts c.args.text.now);
    }

pub loop-rest-preserved-in-Some : goal.loop-rest-preserved-in-Some
loop-rest-preserved-in-Some c =
    record {
      text = search rules;
      reading = past_mark c.args.text.now c.loop-rest.rest.now c.in-Some.behind.now
          (map plain_report c.loop-rest.reports.items) c.loop-rest.invariant.reading c.in-Some.ensures;
    }

pub returns-in_default-2-clause-fault : goal.returns-in_default-2-clause-fault
returns-in_default-2-clause-fault c =
    let text = c.args.text.now in
    let rest = c.loop-rest.rest.now in
    let reading = c.loop-rest.invariant.reading in
    let some : 0 < length rest = grind (arith, nat_tests) in
    let place : (length text - length rest) + length rest ≡ length text = omega
    (arith, ap length reading.parts, length-append reading.read rest) in
    breaks text rest (map plain_report c.loop-rest.reports.items) (length text - length rest) reading
    (record {
      some = some;
      no_mark = c.in_default.ensures;
      no_report = λ r after is e. none_is (ap (option_map plain_entry) (sym c.in_default-2.is) ∙
          c.in_ok-report.ensures.reads r after is e);
    }) place

pub loop-rest-preserved : goal.loop-rest-preserved
loop-rest-preserved c =
    let text = c.args.text.now in
    let items = c.loop-rest.reports.items in
    let report = c.in-Some-2.report in
    let behind = c.in-Some-2.behind.now in
    let found = rw c.in-Some-2.is at c.in_ok-report.ensures.is in
    let more = ap (map plain_report) c.in_ok-push.ensures.items ∙ map_push plain_report items report in
    record {
      text = search rules;
      reading = subst (IsReading text behind) (sym more)
          (past_report text c.loop-rest.rest.now behind (map plain_report items) (plain_report report)
          c.loop-rest.invariant.reading found.1 found.0);
    }
