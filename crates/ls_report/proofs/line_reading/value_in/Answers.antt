-- Why `value_in` in src/line_reading.rt keeps its clause `reads`.

use Rattle.std.proofs.Common.{◌≡◌, ◌∙◌, sym, codes, rules}
use Rattle.ls_report.proofs.Values.{reads_false, reads_true}
use Rattle.ls_report.proofs.line_reading.value_in.Goals as goal

pub returns-then-eq-clause-reads : goal.returns-then-eq-clause-reads
returns-then-eq-clause-reads c = λ v h e. let is : c.args.text.now ≡ codes "true" = search rules in
    reads_true v h (sym is ∙ e)

pub returns-then-eq-2-clause-reads : goal.returns-then-eq-2-clause-reads
returns-then-eq-2-clause-reads c = λ v h e. let is : c.args.text.now ≡ codes "false" = search rules in
    reads_false v h (sym is ∙ e)
