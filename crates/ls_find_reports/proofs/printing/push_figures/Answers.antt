-- Why `push_figures` in src/printing.rt keeps its contract.

use Rattle.std.proofs.Common.{◌∙◌, ◌++◌, ap, codes}
use Rattle.std.specs.Fmt.{decimal}
use Rattle.ls_find_reports.specs.Printing.{first_text}
use Rattle.ls_find_reports.proofs.Texts.{one_behind}
use Rattle.ls_find_reports.proofs.printing.push_figures.Goals as goal

pub returns : goal.returns
returns c =
    let f = c.args.figures in
    let first = first_text f.cut f.first in
    c.in_ok-push_first.ensures ∙ ap (λ t. t ++ first) c.in_ok-write.ensures.bytes ∙
    one_behind _ (codes "// numbers ") (decimal f.from) (codes " to ") (decimal f.to) (codes " of ") (decimal f.count)
    (codes " with ") (decimal f.doubles) (codes " doubles and ") (decimal f.cut) (codes " cut") first
