-- Why `number_in` in src/programs.rt keeps its clause `reads`.

use Rattle.std.proofs.Common.{◌∙◌, ◌++◌, Some, ap, sym}
use Rattle.ls_find_reports.specs.Words.{word_at}
use Rattle.ls_find_reports.proofs.Bodies.{behind_one}
use Rattle.ls_find_reports.proofs.WordLemmas.{number_word}
use Rattle.ls_find_reports.specs.Printing.{number_text}
use Rattle.ls_find_reports.proofs.programs.number_in.Goals as goal

pub returns-in-Some-clause-reads : goal.returns-in-Some-clause-reads
returns-in-Some-clause-reads c = λ n reason small e.
    let count = c.args.count in
    let same = c.number_at-number.ensures n small (ap (word_at 2) e ∙ number_word n count reason small) in
    let printed = c.as_str.ensures.value ∙ c.in_ok-put_number.ensures ∙ ap (λ m. number_text m count) same in
    let rest = behind_one (number_text n count) c.in-Some.reason.now reason
    (sym (ap (λ t. t ++ c.in-Some.reason.now) printed) ∙ sym c.in-Some.ensures ∙ e) in
    λ i. Some (same i, rest i)

pub returns-in-None-clause-reads : goal.returns-in-None-clause-reads
returns-in-None-clause-reads c = λ n reason small e.
    let count = c.args.count in
    let same = c.number_at-number.ensures n small (ap (word_at 2) e ∙ number_word n count reason small) in
    let printed = c.as_str.ensures.value ∙ c.in_ok-put_number.ensures ∙ ap (λ m. number_text m count) same in
    absurd (c.in-None.ensures reason (e ∙ sym (ap (λ t. t ++ reason) printed)))
