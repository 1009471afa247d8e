-- Why `Tens::push` in src/tens.rt keeps its clause `out`.

use Rattle.std.proofs.Common.{◌++◌, ap, ◌∙◌, arith, string_bytes}
use Rattle.ls_trace.proofs.Digits.{told_in_parts}
use Rattle.ls_trace.proofs.tens.Tens.push.Goals as goal

pub returns-clause-out : goal.returns-clause-out
returns-clause-out c =
    told_in_parts c.args.line _ (string_bytes c.args.out.now) (string_bytes c.push_str.new.self)
    (string_bytes c.push_digit.new.out) (string_bytes c.set.new.self.text)
    c.if-line-lt10.false (omega (arith, c.ranges.line.fits)) c.in_ok-set.ensures.number c.in_ok-set.ensures.written
    (c.in_ok-push_str.ensures.bytes ∙ ap (λ t. string_bytes c.args.out.now ++ t) c.as_str.ensures.value)
    c.in_ok-push_digit.ensures
