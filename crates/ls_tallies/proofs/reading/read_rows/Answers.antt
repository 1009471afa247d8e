-- Why `read_rows` in src/reading.rt keeps its clauses `accepts`, `fault` and `only` and its loop `line`.

use Rattle.std.proofs.Common.{◌≡◌, ◌∙◌, ◌+◌, ◌-◌, ◌<◌, ◌∷◌, ap, arith, length, map, rules, subst, sym}
use Rattle.std.specs.Prelude.{option_map}
use Rattle.std.proofs.lemmas.Bool.Decides.{nat_tests}
use Rattle.std.proofs.lemmas.List.{length-append, map_push}
use Rattle.ls_report.proofs.CutLemmas.{none_is}
use Rattle.ls_report.proofs.Values.{cut_shorter}
use Rattle.ls_tallies.specs.Plain.{plain_row}
use Rattle.ls_tallies.specs.Reading.{plain_entry}
use Rattle.ls_tallies.proofs.Listed.{breaks, head_of, is_mark, is_marks, IsHead, IsOnly, IsReading, IsStopped}
use Rattle.ls_tallies.proofs.Listed.{no_marks, not_listed, nothing_left, of_head, only_one, only_rows}
use Rattle.ls_tallies.proofs.Listed.{past_mark, past_row, starts, stopped_end, stopped_line}
use Rattle.ls_tallies.proofs.reading.read_rows.Goals as goal

pub loop-line-init : goal.loop-line-init
loop-line-init c =
    record {
      text = search rules;
      reading = subst (λ items. IsReading c.args.text.now c.args.text.now (map plain_row items))
          (sym c.new-rows.ensures.items) (starts c.args.text.now);
    }

pub loop-line-smaller-then-eq : goal.loop-line-smaller-then-eq
loop-line-smaller-then-eq c = omega (
  arith,
  cut_shorter 10 c.loop-line.rest.now c.in-Some.line.now c.in-Some.after.now
      c.in-Some.ensures,
)

pub loop-line-preserved-then-eq : goal.loop-line-preserved-then-eq
loop-line-preserved-then-eq c =
    let rest = c.loop-line.rest.now in
    let after = c.in-Some.after.now in
    record {
      text = search rules;
      reading = past_mark c.args.text.now rest after (map plain_row c.loop-line.rows.items)
          c.loop-line.invariant.reading
          (is_mark rest c.in-Some.line.now after c.in-Some.ensures (is_marks c.in-Some.line.now c.if-eq.ensures));
    }

pub returns-in_default-2-clause-accepts : goal.returns-in_default-2-clause-accepts
returns-in_default-2-clause-accepts c = λ all listed.
    let rest = c.loop-line.rest.now in
    let none = ap (option_map plain_entry) (sym c.in_default-2.is) in
    let stopped : IsStopped rest = stopped_line rest c.in-Some.line.now c.in-Some.after.now c.in-Some.ensures
    (no_marks c.in-Some.line.now c.if-eq.ensures)
    (λ r a is h. none_is (none ∙ c.in_ok-row.ensures.reads r a is h.head h.behind_is)) in
    absurd (not_listed c.args.text.now rest (map plain_row c.loop-line.rows.items) all c.loop-line.invariant.reading
    stopped listed)

pub returns-in_default-2-clause-fault : goal.returns-in_default-2-clause-fault
returns-in_default-2-clause-fault c =
    let text = c.args.text.now in
    let rest = c.loop-line.rest.now in
    let reading = c.loop-line.invariant.reading in
    let none = ap (option_map plain_entry) (sym c.in_default-2.is) in
    let stopped : IsStopped rest = stopped_line rest c.in-Some.line.now c.in-Some.after.now c.in-Some.ensures
    (no_marks c.in-Some.line.now c.if-eq.ensures)
    (λ r a is h. none_is (none ∙ c.in_ok-row.ensures.reads r a is h.head h.behind_is)) in
    let place : (length text - length rest) + length rest ≡ length text = omega
    (arith, ap length reading.parts, length-append reading.read rest) in
    breaks text rest (map plain_row c.loop-line.rows.items) (length text - length rest) reading stopped place

pub loop-line-smaller : goal.loop-line-smaller
loop-line-smaller c =
    let shorter = cut_shorter 10 c.loop-line.rest.now c.in-Some.line.now c.in-Some.after.now c.in-Some.ensures in
    let found = rw c.in-Some-2.is at c.in_ok-row.ensures.is in
    let long = ap length found.2 in
    let sum = length-append c.in-Some-2.row.history.now (10 ∷ c.in-Some-2.after.now) in
    omega (arith, shorter, long, sum)

pub loop-line-preserved : goal.loop-line-preserved
loop-line-preserved c =
    let text = c.args.text.now in
    let rest = c.loop-line.rest.now in
    let line = c.in-Some.line.now in
    let behind = c.in-Some.after.now in
    let after = c.in-Some-2.after.now in
    let items = c.loop-line.rows.items in
    let row = c.in-Some-2.row in
    let found = rw c.in-Some-2.is at c.in_ok-row.ensures.is in
    let head : IsHead line behind (plain_row row) after = record { head = found.1; behind_is = found.2 } in
    let some = ap (option_map plain_entry) (sym c.in-Some-2.is) in
    let only : IsOnly rest (plain_row row) after = λ s a is e.
    let h = head_of rest line behind a s c.in-Some.ensures is e in
    only_one (plain_row row) s after a (some ∙ c.in_ok-row.ensures.reads s a is h.head h.behind_is) in
    let more = ap (map plain_row) c.in_ok-push.ensures.items ∙ map_push plain_row items row in
    record {
      text = search rules;
      reading = subst (IsReading text after) (sym more)
          (past_row text rest after (map plain_row items) (plain_row row) c.loop-line.invariant.reading
          (of_head rest line behind after (plain_row row) c.in-Some.ensures head) found.0 only);
    }

pub returns-then-not-is_empty-clause-accepts : goal.returns-then-not-is_empty-clause-accepts
returns-then-not-is_empty-clause-accepts c = λ all listed.
    let rest = c.loop-line.rest.now in
    let some : 0 < length rest = grind (arith, nat_tests) in
    absurd (not_listed c.args.text.now rest (map plain_row c.loop-line.rows.items) all c.loop-line.invariant.reading
    (stopped_end rest c.in_default.ensures some) listed)

pub returns-then-not-is_empty-clause-fault : goal.returns-then-not-is_empty-clause-fault
returns-then-not-is_empty-clause-fault c =
    let text = c.args.text.now in
    let rest = c.loop-line.rest.now in
    let reading = c.loop-line.invariant.reading in
    let some : 0 < length rest = grind (arith, nat_tests) in
    let place : (length text - length rest) + length rest ≡ length text = omega
    (arith, ap length reading.parts, length-append reading.read rest) in
    breaks text rest (map plain_row c.loop-line.rows.items) (length text - length rest) reading
    (stopped_end rest c.in_default.ensures some) place

pub returns-clause-only : goal.returns-clause-only
returns-clause-only c = λ all listed.
    let rest = c.loop-line.rest.now in
    let none : length rest ≡ 0 = grind (arith, nat_tests) in
    only_rows c.args.text.now rest (map plain_row c.loop-line.rows.items) all c.loop-line.invariant.reading
    (nothing_left rest none) listed
