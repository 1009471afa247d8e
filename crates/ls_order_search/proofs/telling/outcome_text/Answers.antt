-- Why `outcome_text` in src/telling.rt keeps its contract.

use Rattle.std.proofs.Common.{◌∙◌, ap, map, subst, string_bytes, List, String, Global}
use Rattle.ls_report.specs.Plain.{plain_event}
use Rattle.ls_order_search.specs.Answers.{IsOutcome}
use Rattle.ls_order_search.specs.OrderLines.{order_line}
use Rattle.ls_order_search.specs.Telling.{foreign_text, hopeless_text}
use Rattle.ls_order_search.proofs.TellingLemmas.{foreign_told, hopeless_told, legal_told, many_told}
use Rattle.ls_order_search.proofs.telling.outcome_text.Goals as goal

pub returns-in_ok-told-in-NotOneSet : goal.returns-in_ok-told-in-NotOneSet
returns-in_ok-told-in-NotOneSet c =
    let h = map plain_event c.args.events.now in
    foreign_told c.args.text.now h c.requires.says c.in-NotOneSet.call _
    (subst (IsOutcome h) c.in-NotOneSet.is c.requires.outcome)
    (c.in_ok-told-in-NotOneSet.ensures ∙ ap foreign_text c.as_str.ensures.value)

pub returns-in-TooManyTrapped : goal.returns-in-TooManyTrapped
returns-in-TooManyTrapped c =
    let h = map plain_event c.args.events.now in
    many_told c.args.text.now h c.requires.says (subst (IsOutcome h) c.in-TooManyTrapped.is c.requires.outcome)

pub returns-in_ok-told-in-Legal : goal.returns-in_ok-told-in-Legal
returns-in_ok-told-in-Legal c =
    let h = map plain_event c.args.events.now in
    legal_told c.args.text.now h c.requires.says c.in-Legal.order _
    (subst (IsOutcome h) c.in-Legal.is c.requires.outcome)
    (c.in_ok-told-in-Legal.ensures ∙ ap (λ (l : List (String Global)). order_line (map string_bytes l))
    c.as_slice.ensures.value)

pub returns-in_ok-told-in-Hopeless : goal.returns-in_ok-told-in-Hopeless
returns-in_ok-told-in-Hopeless c =
    let h = map plain_event c.args.events.now in
    hopeless_told c.args.text.now h c.requires.says c.in-Hopeless.at c.in-Hopeless.order _ c.line_at-line.result.now
    (subst (IsOutcome h) c.in-Hopeless.is c.requires.outcome) c.line_at-line.ensures
    (c.in_ok-told-in-Hopeless.ensures ∙ ap (λ (l : List (String Global)).
    hopeless_text c.in-Hopeless.at c.line_at-line.result.now (map string_bytes l))
    c.as_slice-in-Hopeless.ensures.value)
