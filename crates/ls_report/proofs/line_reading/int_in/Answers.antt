-- Why `int_in` in src/line_reading.rt keeps its clauses `reads` and `exact`.

use Rattle.std.proofs.Common.{◌≡◌, ◌∙◌, ap, sym, subst, true}
use Rattle.std.specs.Prelude.{IfSome}
use Rattle.std.specs.Fmt.{signed_decimal}
use Rattle.std.specs.Int.{w32}
use Rattle.std.specs.Result.{result_ok}
use Rattle.std.proofs.lemmas.Fmt.{parse-signed_decimal}
use Rattle.ls_report.specs.LineReading.{is_plain_int}
use Rattle.ls_report.proofs.CutLemmas.{mag_small}
use Rattle.ls_report.proofs.Numerals.{int_exact, plain_signed}
use Rattle.ls_report.proofs.line_reading.int_in.Goals as goal

pub returns-then-not-is_plain_int-clause-reads : goal.returns-then-not-is_plain_int-clause-reads
returns-then-not-is_plain_int-clause-reads c = λ z fits e.
    let yes : c.is_plain_int.result ≡ true = c.is_plain_int.ensures ∙ ap is_plain_int (c.as_bytes.ensures.value ∙ e) ∙
    plain_signed z fits in
    absurd cc

pub returns-clause-reads : goal.returns-clause-reads
returns-clause-reads c = λ z fits e.
    c.ok.ensures.value ∙ ap result_ok (parse-signed_decimal w32 z c.args.text.now c.parse.result fits (mag_small z fits)
    e c.parse.ensures.value.0)

pub returns-clause-exact : goal.returns-clause-exact
returns-clause-exact c =
    let plain : c.is_plain_int.result ≡ true = cc in
    subst (λ o. IfSome o (λ z. c.args.text.now ≡ signed_decimal z)) (sym c.ok.ensures.value)
    (int_exact c.args.text.now c.parse.result (ap is_plain_int (sym c.as_bytes.ensures.value) ∙
    sym c.is_plain_int.ensures ∙ plain) c.parse.ensures.value.0)
