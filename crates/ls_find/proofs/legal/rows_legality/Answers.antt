-- Why `rows_legality` in src/legal.rt keeps its contract, its loop `at` and what `verdict_on` requires.

use Rattle.std.proofs.Common.{◌≡◌, ◌∙◌, List, ap, inl, inr, sym, subst, Some}
use Rattle.std.proofs.lemmas.Option.{slice_get-get_or}
use Rattle.ls_checked.specs.PlainProgram.{plain_program}
use Rattle.ls_events.specs.declared.event.Event.{Event}
use Rattle.ls_verdicts.specs.Verdicts.{IsHistoryOf, IsVerdict}
use Rattle.ls_verdicts.specs.declared.verdicts.Verdict.{Verdict}
use Rattle.ls_verdicts.specs.declared.verdicts.Verdict.TheVariants.{Illegal, Legal, NotOneSet, TooManyTrapped}
use Rattle.ls_endless_calls.proofs.Places.{each_so, one_so}
use Rattle.ls_find.proofs.legal.rows_legality.Goals as goal

pub verdict_on-requires : goal.verdict_on-requires
verdict_on-requires c =
    subst (IsHistoryOf (plain_program c.args.program.now)) (sym c.history.ensures)
    (c.requires c.index-rows-at.result (c.loop-at.at, c.loop-at-test.true, sym c.index-rows-at.is))

pub returns-in-Illegal : goal.returns-in-Illegal
returns-in-Illegal c =
    let said = subst (IsVerdict (plain_program c.args.program.now) c.history.result.now) c.in-Illegal.is
    c.in_ok-verdict_on.ensures in (
      c.index-rows-at.result,
      slice_get-get_or c.args.rows.now c.loop-at.at c.index-rows-at.result c.loop-at-test.true ∙
          ap Some (sym c.index-rows-at.is),
      subst (λ (h : List Event). IsVerdict (plain_program c.args.program.now) h Illegal) c.history.ensures said,
    )

pub returns-in-NotOneSet : goal.returns-in-NotOneSet
returns-in-NotOneSet c = (
  c.index-rows-at.result,
  (c.loop-at.at, c.loop-at-test.true, sym c.index-rows-at.is),
  elim c.in-NotOneSet.is [
    | inl none ↦ inl (said NotOneSet none)
    | inr many ↦ inr (said TooManyTrapped many)
  ],
)
  where
    said : (v : Verdict) → c.in_ok-verdict_on.field-0 ≡ v →
        IsVerdict (plain_program c.args.program.now) c.index-rows-at.result.history v
    said v is = subst (λ (h : List Event). IsVerdict (plain_program c.args.program.now) h v) c.history.ensures
        (subst (IsVerdict (plain_program c.args.program.now) c.history.result.now) is c.in_ok-verdict_on.ensures)

pub loop-at-preserved : goal.loop-at-preserved
loop-at-preserved c =
    let said = subst (IsVerdict (plain_program c.args.program.now) c.history.result.now) c.in-Legal.is
    c.in_ok-verdict_on.ensures in
    one_so c.args.rows.now (λ k r. IsVerdict (plain_program c.args.program.now) r.history Legal) c.loop-at.at
    c.index-rows-at.result
    (slice_get-get_or c.args.rows.now c.loop-at.at c.index-rows-at.result c.loop-at-test.true ∙
    ap Some (sym c.index-rows-at.is)) c.loop-at.invariant
    (subst (λ (h : List Event). IsVerdict (plain_program c.args.program.now) h Legal) c.history.ensures said)

pub returns : goal.returns
returns c =
    each_so c.args.rows.now (λ r. IsVerdict (plain_program c.args.program.now) r.history Legal) c.loop-at.at
    c.loop-at-test.false c.loop-at.invariant
