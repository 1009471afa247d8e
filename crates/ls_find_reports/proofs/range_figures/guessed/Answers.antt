-- Why `guessed` in src/range_figures.rt keeps its contract.

use Rattle.ls_find_reports.proofs.Guesses.{all_read}
use Rattle.ls_find_reports.proofs.range_figures.guessed.Goals as goal

pub returns : goal.returns
returns c = λ f is e.
    all_read c.args.line.now _ f is e c.number_at-from.ensures c.number_at-to.ensures c.number_at-count.ensures
    c.number_at-doubles.ensures c.number_at-cut.ensures
    (record { none = c.first_at-first.ensures.none; some = c.first_at-first.ensures.some })
