-- Why `numbers_of_ends` in src/numbers.rt keeps its clause `numbers` and its loop `outcome`.

use Rattle.std.proofs.Common.{◌≡◌, ◌<◌, ◌∙◌, ap, length, refl, rules, subst, take, Some}
use Rattle.std.proofs.lemmas.List.{take_all}
use Rattle.ls_checked.specs.PlainProgram.{plain_program}
use Rattle.ls_page.specs.Numbers.{AreNumbers, end_lines, event_line, texts_in}
use Rattle.ls_page.proofs.Numbering.{keeps_all, numbers_more}
use Rattle.ls_page.proofs.numbers.numbers_of_ends.Goals as goal

pub loop-outcome-preserved : goal.loop-outcome-preserved
loop-outcome-preserved c =
    let row = c.args.row.now in
    let i = c.loop-outcome.outcome-index in
    let inv = c.loop-outcome.invariant in
    let old = texts_in c.loop-outcome.table in
    let new = texts_in c.number.new.self in
    let program = plain_program c.args.program.now in
    let within : i < length row = search rules in
    record {
      numbers = numbers_more (λ o. event_line program o.end) old new row i _ _ c.loop-outcome.numbers.items
          c.push.new.self.items c.in_ok-number.number within refl c.in_ok-push.ensures.items
          c.in_ok-number.ensures.keeps
          (c.in_ok-number.ensures.there ∙ ap Some (c.as_str.ensures.value ∙ c.in_ok-line.ensures)) inv.numbers;
      keeps = keeps_all (texts_in c.args.table.now) old new inv.keeps c.in_ok-number.ensures.keeps;
    }

pub returns-clause-numbers : goal.returns-clause-numbers
returns-clause-numbers c =
    let row = c.args.row.now in
    let is : take c.loop-outcome.outcome-index row ≡ row = take_all c.loop-outcome.outcome-index row (search rules) in
    subst (λ l. AreNumbers (texts_in c.loop-outcome.table) c.loop-outcome.numbers.items
    (end_lines (plain_program c.args.program.now) l)) is c.loop-outcome.invariant.numbers
