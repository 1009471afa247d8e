-- Why `numbers_of_outcomes` in src/numbers.rt keeps its clause `numbers` and its loop `row`.

use Rattle.std.proofs.Common.{◌≡◌, ◌<◌, ◌∷◌, [], ◌∙◌, ap, length, rules, subst, sym, take}
use Rattle.std.proofs.lemmas.List.{map-append, take_all}
use Rattle.ls_checked.specs.PlainProgram.{plain_program}
use Rattle.ls_page.specs.Numbers.{AreAllNumbers, AreNumbers, end_lines, lines_of_ends, numbers_in, texts_in}
use Rattle.ls_page.proofs.Numbering.{all_more, keeps_all}
use Rattle.ls_page.proofs.numbers.numbers_of_outcomes.Goals as goal

pub loop-row-preserved : goal.loop-row-preserved
loop-row-preserved c =
    let rows = c.args.rows.now in
    let i = c.loop-row.row-index in
    let row = c.row-item.result in
    let inv = c.loop-row.invariant in
    let old = texts_in c.loop-row.table in
    let new = texts_in c.numbers_of_ends.new.table in
    let known = c.loop-row.numbers.items in
    let more = c.in_ok-more.more in
    let program = plain_program c.args.program.now in
    let within : i < length rows = search rules in
    record {
      numbers = all_more (λ v. end_lines program v.items) old new rows i row row (numbers_in known)
          (numbers_in c.push.new.self.items) more.items within (sym c.row-item.is)
          (ap numbers_in c.in_ok-push.ensures.items ∙ map-append (λ v. v.items) known (more ∷ []))
          c.in_ok-more.ensures.keeps
          (subst (λ l. AreNumbers new more.items (end_lines program l)) c.deref.ensures.value
          c.in_ok-more.ensures.numbers)
          inv.numbers;
      keeps = keeps_all (texts_in c.args.table.now) old new inv.keeps c.in_ok-more.ensures.keeps;
    }

pub returns-clause-numbers : goal.returns-clause-numbers
returns-clause-numbers c =
    let rows = c.args.rows.now in
    let is : take c.loop-row.row-index rows ≡ rows = take_all c.loop-row.row-index rows (search rules) in
    subst (λ l. AreAllNumbers (texts_in c.loop-row.table) (numbers_in c.loop-row.numbers.items)
    (lines_of_ends (plain_program c.args.program.now) l)) is c.loop-row.invariant.numbers
