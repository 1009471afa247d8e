-- Why `values_in` in src/line_reading.rt keeps its clauses `reads` and `exact` and its loop `first`.

use Rattle.std.proofs.Common.{◌≡◌, ◌∙◌, ◌++◌, ◌==◌, ◌∷◌, [], length, ap, sym, append_assoc, arith, eqb-true, rules}
use Rattle.std.proofs.Common.{true, Some}
use Rattle.ls_report.specs.Lines.{arguments_text}
use Rattle.ls_report.specs.Cut.{cut}
use Rattle.ls_report.proofs.CutLemmas.{cut_parts, first_of_two, none_is, second_of_two, some_is}
use Rattle.ls_report.proofs.Exact.{empty, led, led_last, led_more}
use Rattle.ls_report.proofs.Values.{at_comma, at_last, cut_shorter, no_values}
use Rattle.ls_report.proofs.line_reading.values_in.Goals as goal

pub returns-then-is_empty-clause-reads : goal.returns-then-is_empty-clause-reads
returns-then-is_empty-clause-reads c = λ vs h e.
    let none : length c.args.text.now ≡ 0 = eqb-true (length c.args.text.now) 0
    (sym c.is_empty.ensures ∙ c.if-is_empty.true) in
    ap Some (c.new.ensures.items ∙ sym (no_values vs h (ap length (sym e) ∙ none)))

pub returns-in_default-value_in-clause-reads : goal.returns-in_default-value_in-clause-reads
returns-in_default-value_in-clause-reads c = λ vs h e.
    let left = c.loop-first.invariant.left vs h e in
    let comma = at_comma left.0 c.in-Some.first.now c.in-Some.others.now left.3 (c.in-Some.ensures ∙ ap (cut 44) left.4)
    in
    absurd (none_is (c.in_default-value_in.ensures.reads comma.value comma.shown comma.first_is))

pub returns-in_default-cut-clause-reads : goal.returns-in_default-cut-clause-reads
returns-in_default-cut-clause-reads c = λ vs h e.
    let left = c.loop-first.invariant.left vs h e in
    let comma = at_comma left.0 c.in-Some.first.now c.in-Some.others.now left.3 (c.in-Some.ensures ∙ ap (cut 44) left.4)
    in
    absurd (none_is (c.in_default-cut.ensures ∙ ap (cut 32) comma.others_is))

pub returns-then-not-is_empty-clause-reads : goal.returns-then-not-is_empty-clause-reads
returns-then-not-is_empty-clause-reads c = λ vs h e.
    let left = c.loop-first.invariant.left vs h e in
    let comma = at_comma left.0 c.in-Some.first.now c.in-Some.others.now left.3 (c.in-Some.ensures ∙ ap (cut 44) left.4)
    in
    let gap : c.in-Some-cut.gap.now ≡ [] =
    first_of_two c.in-Some-cut.gap.now c.in-Some-cut.more.now [] (arguments_text (comma.next ∷ comma.more))
    (c.in-Some-cut.ensures ∙ ap (cut 32) comma.others_is) in
    let yes : c.is_empty-in-Some.result ≡ true = c.is_empty-in-Some.ensures ∙ ap (λ g. length g == 0) gap in
    absurd cc

pub loop-first-smaller : goal.loop-first-smaller
loop-first-smaller c =
    omega (
      arith,
      cut_shorter 44 c.loop-first.rest.now c.in-Some.first.now c.in-Some.others.now c.in-Some.ensures,
      cut_shorter 32 c.in-Some.others.now c.in-Some-cut.gap.now c.in-Some-cut.more.now c.in-Some-cut.ensures,
    )

pub loop-first-preserved : goal.loop-first-preserved
loop-first-preserved c =
    record {
      text = search rules;
      read =
          let gap : c.in-Some-cut.gap.now ≡ [] = empty c.in-Some-cut.gap.now (sym c.is_empty-in-Some.ensures ∙ cc) in
          let rest = cut_parts 44 c.loop-first.rest.now c.in-Some.first.now c.in-Some.others.now c.in-Some.ensures in
          let others = cut_parts 32 c.in-Some.others.now c.in-Some-cut.gap.now c.in-Some-cut.more.now
          c.in-Some-cut.ensures in
          let first = c.in-Some-value_in.ensures.exact in
          led_more c.args.text.now c.loop-first.values.items c.in-Some-value_in.value _ _ _ _ _
          c.loop-first.invariant.read rest others gap first
          ∙ ap (λ vs. led vs ++ c.in-Some-cut.more.now) (sym c.in_ok-push.ensures.items);
      left = λ vs h e.
          let left = c.loop-first.invariant.left vs h e in
          let comma = at_comma left.0 c.in-Some.first.now c.in-Some.others.now left.3
          (c.in-Some.ensures ∙ ap (cut 44) left.4) in
          let value = some_is (c.in-Some-value_in.ensures.reads comma.value comma.shown comma.first_is) in
          let front = c.loop-first.values.items in
          let back = comma.next ∷ comma.more in (
            back,
            left.1 ∙ ap (λ xs. front ++ xs) comma.is ∙ sym (append_assoc front (comma.value ∷ []) back)
                ∙ ap (λ xs. xs ++ back) (ap (λ v. front ++ v ∷ []) (sym value) ∙ sym c.in_ok-push.ensures.items),
            omega arith,
            comma.more_shown,
            second_of_two c.in-Some-cut.gap.now c.in-Some-cut.more.now [] (arguments_text back)
                (c.in-Some-cut.ensures ∙ ap (cut 32) comma.others_is),
          );
    }

pub returns-in_default-value_in-2-clause-reads : goal.returns-in_default-value_in-2-clause-reads
returns-in_default-value_in-2-clause-reads c = λ vs h e.
    let left = c.loop-first.invariant.left vs h e in
    let last = at_last left.0 left.3 left.2 (c.in_default.ensures ∙ ap (cut 44) left.4) in
    absurd (none_is (c.in_default-value_in-2.ensures.reads last.value last.shown (left.4 ∙ last.text_is)))

pub returns-clause-reads : goal.returns-clause-reads
returns-clause-reads c = λ vs h e.
    let left = c.loop-first.invariant.left vs h e in
    let last = at_last left.0 left.3 left.2 (c.in_default.ensures ∙ ap (cut 44) left.4) in
    let value = some_is (c.in-Some-value_in-2.ensures.reads last.value last.shown (left.4 ∙ last.text_is)) in
    let front = c.loop-first.values.items in
    ap Some (c.in_ok-push-2.ensures.items ∙ ap (λ v. front ++ v ∷ []) value ∙
    sym (left.1 ∙ ap (λ xs. front ++ xs) last.is))

pub returns-then-is_empty-clause-exact : goal.returns-then-is_empty-clause-exact
returns-then-is_empty-clause-exact c =
    empty c.args.text.now (sym c.is_empty.ensures ∙ c.if-is_empty.true) ∙ ap arguments_text (sym c.new.ensures.items)

pub returns-clause-exact : goal.returns-clause-exact
returns-clause-exact c =
    let last = c.in-Some-value_in-2.ensures.exact in
    let front = c.loop-first.values.items in
    c.loop-first.invariant.read ∙ ap (λ x. led front ++ x) last ∙ led_last front c.in-Some-value_in-2.value ∙
    ap arguments_text (sym c.in_ok-push-2.ensures.items)
