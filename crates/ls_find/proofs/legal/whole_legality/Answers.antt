-- Why `whole_legality` in src/legal.rt keeps its contract and what `rows_legality` requires.

use Rattle.std.proofs.Common.{Contains, inr, subst, sym}
use Rattle.std.proofs.lemmas.Result.{IfOk-weaker}
use Rattle.ls_checked.specs.PlainProgram.{plain_program}
use Rattle.ls_checked.specs.declared.program.Program.{Program as CodeProgram}
use Rattle.ls_explore.specs.Rows.{Told}
use Rattle.ls_translation.specs.Texts.{file_of, program_of}
use Rattle.ls_verdicts.specs.Verdicts.{IsVerdict}
use Rattle.ls_verdicts.specs.declared.verdicts.Verdict.TheVariants.{Legal}
use Rattle.ls_find.specs.Sought.{AreNamed, IsLegality}
use Rattle.ls_find.specs.declared.legal.Legality.TheVariants as legality
use Rattle.ls_find.proofs.Legalities.{all_legal, one_unjudged, rows_named, shown_illegal}
use Rattle.ls_find.proofs.legal.whole_legality.Goals as goal

pub rows_legality-requires : goal.rows_legality-requires
rows_legality-requires c =
    subst (λ (p : CodeProgram). AreNamed (plain_program p) c.args.rows.now) (sym c.program.ensures)
    (rows_named (file_of c.args.image.now) (program_of c.args.image.now) c.args.setup c.args.rows.now c.requires.named
    c.requires.truth)

pub returns-in-AllLegal : goal.returns-in-AllLegal
returns-in-AllLegal c = λ given states.
    let rows = c.args.rows.now in
    let said = subst (IsLegality (plain_program c.program.result.now) rows) c.in-AllLegal.is
    c.in_ok-rows_legality.ensures in
    let legal = subst (λ (p : CodeProgram). (r : Told) → Contains rows r → IsVerdict (plain_program p) r.history Legal)
    c.program.ensures said in
    all_legal (file_of c.args.image.now) (program_of c.args.image.now) rows c.every_schedule_is_legal.ensures.whole
    c.requires.whole legal

pub returns-in-IllegalAt : goal.returns-in-IllegalAt
returns-in-IllegalAt c =
    let rows = c.args.rows.now in
    let said = subst (IsLegality (plain_program c.program.result.now) rows) c.in-IllegalAt.is
    c.in_ok-rows_legality.ensures in
    let one = subst (λ (p : CodeProgram). IsLegality (plain_program p) rows (legality.IllegalAt c.in-IllegalAt.at))
    c.program.ensures said in
    IfOk-weaker c.bad_row.result _ _
    (λ v shows given states. shown_illegal (file_of c.args.image.now) (program_of c.args.image.now) c.args.setup rows
    c.requires.truth c.in-IllegalAt.at one v shows given states) c.bad_row.ensures

pub returns-in-NotJudged : goal.returns-in-NotJudged
returns-in-NotJudged c = λ given states.
    let rows = c.args.rows.now in
    let said = subst (IsLegality (plain_program c.program.result.now) rows) c.in-NotJudged.is
    c.in_ok-rows_legality.ensures in
    let one = subst (λ (p : CodeProgram). IsLegality (plain_program p) rows legality.NotJudged)
    c.program.ensures said in
    inr (one_unjudged (file_of c.args.image.now) (program_of c.args.image.now) c.args.setup rows c.requires.truth one.0
    one.1 one.2)
