-- Why `number_in` in src/line_reading.rt keeps its clauses `reads` and `exact`.

use Rattle.std.proofs.Common.{◌≡◌, ◌∙◌, ap, sym, subst, true}
use Rattle.std.specs.Prelude.{IfSome}
use Rattle.std.specs.Fmt.{decimal}
use Rattle.std.specs.Result.{result_ok}
use Rattle.std.proofs.lemmas.Fmt.{parse-decimal}
use Rattle.ls_report.specs.LineReading.{is_plain}
use Rattle.ls_report.proofs.Numerals.{number_exact, plain_decimal}
use Rattle.ls_report.proofs.line_reading.number_in.Goals as goal

pub returns-then-not-is_plain-clause-reads : goal.returns-then-not-is_plain-clause-reads
returns-then-not-is_plain-clause-reads c = λ n small e.
    let yes : c.is_plain.result ≡ true = c.is_plain.ensures ∙ ap is_plain (c.as_bytes.ensures.value ∙ e) ∙
    plain_decimal n small in
    absurd cc

pub returns-clause-reads : goal.returns-clause-reads
returns-clause-reads c = λ n small e.
    c.ok.ensures.value ∙ ap result_ok (parse-decimal 64 n c.args.text.now c.parse.result small small e
    c.parse.ensures.value.0)

pub returns-clause-exact : goal.returns-clause-exact
returns-clause-exact c =
    let plain : c.is_plain.result ≡ true = cc in
    subst (λ o. IfSome o (λ n. c.args.text.now ≡ decimal n)) (sym c.ok.ensures.value)
    (number_exact c.args.text.now c.parse.result (ap is_plain (sym c.as_bytes.ensures.value) ∙ sym c.is_plain.ensures ∙
    plain) c.parse.ensures.value.0)
