-- Why `scan` in src/scanning.rt keeps its clause `boundary`.

use Rattle.std.proofs.Common.{sym, ◌∙◌}
use Rattle.ls_lexer.proofs.Cuts.{line_cut, comment_cut, sign_cut}
use Rattle.ls_lexer.proofs.scanning.scan.Goals as goal

pub returns-then-begins-clause-boundary : goal.returns-then-begins-clause-boundary
returns-then-begins-clause-boundary c =
    line_cut c.args.text.now c.in-Some.first.now c.in-Some.rest.now c.line_run.result
    (sym c.as_bytes-bytes.ensures.value ∙ c.in-Some.ensures.cases.0) c.utf8.text c.line_run.ensures.value

pub returns-in_ok-n-clause-boundary : goal.returns-in_ok-n-clause-boundary
returns-in_ok-n-clause-boundary c =
    comment_cut c.args.text.now c.in-Some.first.now c.in-Some.rest.now c.in_ok-n.n (sym c.as_bytes-bytes.ensures.value ∙
    c.in-Some.ensures.cases.0) c.utf8.text c.in_ok-n.ensures.read

pub returns-in-Some-sign_at-clause-boundary : goal.returns-in-Some-sign_at-clause-boundary
returns-in-Some-sign_at-clause-boundary c =
    let sign = c.in-Some-sign_at.ensures in
    sign_cut c.args.text.now c.in-Some.first.now c.in-Some.rest.now c.in-Some-sign_at.n
    (sym c.as_bytes-bytes.ensures.value ∙ c.in-Some.ensures.cases.0) c.utf8.text sign.size.0 sign.size.1 sign.ascii
