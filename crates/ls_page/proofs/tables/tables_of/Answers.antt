-- Why `tables_of` in src/tables.rt keeps its clause `tables`.

use Rattle.std.proofs.Common.{◌∙◌, ap, map, subst}
use Rattle.ls_checked.specs.PlainProgram.{plain_program}
use Rattle.ls_choices.specs.Seen.{graph_of, row_of}
use Rattle.ls_page.specs.Numbers.{AreAllNumbers, after_rows, lines_of_ends, numbers_in, row_words, texts_in}
use Rattle.ls_page.proofs.Numbering.{all_keep}
use Rattle.ls_page.proofs.tables.tables_of.Goals as goal

pub returns-clause-tables : goal.returns-clause-tables
returns-clause-tables c =
    let old = texts_in c.numbers_of_states.new.table in
    let new = texts_in c.numbers_of_outcomes.new.table in
    let lines = numbers_in c.in_ok-lines.lines.items in
    let ends = numbers_in c.in_ok-ends.ends.items in
    record {
      lines = all_keep old new lines (map row_words (graph_of c.args.choices.now).rows) c.in_ok-ends.ensures.keeps
          (subst (λ l. AreAllNumbers old lines (map row_words (map (λ r. map row_of r.items) l))) c.deref.ensures.value
          c.in_ok-lines.ensures.numbers);
      ends = subst (λ l. AreAllNumbers new ends (lines_of_ends (plain_program c.args.names.program.now) l))
          c.rows_of-rows.ensures c.in_ok-ends.ensures.numbers;
      next = c.in_ok-next.ensures ∙ ap after_rows c.rows_of-rows.ensures;
      once = c.numbers_of_outcomes.new.table.once;
    }
