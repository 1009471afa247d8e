-- Why `rows_likeness` in src/likeness.rt keeps its contract and its loop `at`.

use Rattle.std.proofs.Common.{◌≡◌, ◌∙◌, ◌⊎◌, List, ap, inl, inr, sym, subst, Some}
use Rattle.std.proofs.lemmas.Option.{slice_get-get_or}
use Rattle.ls_checked.specs.CheckedTree.{File}
use Rattle.ls_checked.specs.CheckedProgram.{Program}
use Rattle.ls_events.specs.declared.event.Event.{Event}
use Rattle.ls_explore.specs.Rows.{Told}
use Rattle.ls_linearity.specs.Meant.{IsMeant, IsUndecided}
use Rattle.ls_linearity.specs.declared.judging.Linearity.TheVariants.{LongCall, ManyStates}
use Rattle.ls_linearizable.specs.Linearizable.{IsLinearizable}
use Rattle.ls_linearizable.specs.Once.{AreOnce}
use Rattle.ls_specification.specs.Specification.{spec_file, spec_program}
use Rattle.ls_endless_calls.proofs.Places.{each_so, one_so}
use Rattle.ls_find.proofs.likeness.rows_likeness.Goals as goal

pub returns-in-NotLinearizable : goal.returns-in-NotLinearizable
returns-in-NotLinearizable c =
    let sfile : File = spec_file c.args.specification in
    let sprogram : Program = spec_program c.args.specification in
    let once = subst (λ (r : Told). AreOnce r.history) (sym c.index-rows-at.is)
    (c.requires c.loop-at.at c.index-rows-at.result c.loop-at-test.true) in
    let own = subst AreOnce (sym c.history.ensures) once in
    let said = subst (λ (h : List Event). IsMeant sfile sprogram h c.in_ok-linearity_by.field-0) c.history.ensures
    (c.in_ok-linearity_by.ensures sfile sprogram c.loop-at.invariant.judges own) in (
      c.index-rows-at.result,
      slice_get-get_or c.args.rows.now c.loop-at.at c.index-rows-at.result c.loop-at-test.true ∙
          ap Some (sym c.index-rows-at.is),
      subst (IsMeant sfile sprogram c.index-rows-at.result.history) c.in-NotLinearizable.is said,
    )

pub returns-in-LongCall : goal.returns-in-LongCall
returns-in-LongCall c = (
  c.index-rows-at.result,
  (c.loop-at.at, c.loop-at-test.true, sym c.index-rows-at.is),
  undecided c.in-LongCall.is,
)
  where
    sfile : File
    sfile = spec_file c.args.specification

    sprogram : Program
    sprogram = spec_program c.args.specification

    once : AreOnce c.index-rows-at.result.history
    once = subst (λ (r : Told). AreOnce r.history) (sym c.index-rows-at.is)
        (c.requires c.loop-at.at c.index-rows-at.result c.loop-at-test.true)

    said : IsMeant sfile sprogram c.index-rows-at.result.history c.in_ok-linearity_by.field-0
    said = subst (λ (h : List Event). IsMeant sfile sprogram h c.in_ok-linearity_by.field-0) c.history.ensures
        (c.in_ok-linearity_by.ensures sfile sprogram c.loop-at.invariant.judges
        (subst AreOnce (sym c.history.ensures) once))

    undecided : (c.in_ok-linearity_by.field-0 ≡ LongCall) ⊎ (c.in_ok-linearity_by.field-0 ≡ ManyStates) →
        IsUndecided sfile sprogram c.index-rows-at.result.history
    undecided (inl long) = inl (subst (IsMeant sfile sprogram c.index-rows-at.result.history) long said)
    undecided (inr many) = inr (subst (IsMeant sfile sprogram c.index-rows-at.result.history) many said)

pub loop-at-preserved : goal.loop-at-preserved
loop-at-preserved c =
    let sfile : File = spec_file c.args.specification in
    let sprogram : Program = spec_program c.args.specification in
    let once = subst (λ (r : Told). AreOnce r.history) (sym c.index-rows-at.is)
    (c.requires c.loop-at.at c.index-rows-at.result c.loop-at-test.true) in
    let said = subst (λ (h : List Event). IsMeant sfile sprogram h c.in_ok-linearity_by.field-0) c.history.ensures
    (c.in_ok-linearity_by.ensures sfile sprogram c.loop-at.invariant.judges
    (subst AreOnce (sym c.history.ensures) once)) in
    record {
      judges = c.loop-at.invariant.judges;
      linear = one_so c.args.rows.now (λ k r. IsLinearizable sfile sprogram r.history) c.loop-at.at
          c.index-rows-at.result
          (slice_get-get_or c.args.rows.now c.loop-at.at c.index-rows-at.result c.loop-at-test.true ∙
          ap Some (sym c.index-rows-at.is)) c.loop-at.invariant.linear
          (subst (IsMeant sfile sprogram c.index-rows-at.result.history) c.in-Linearizable.is said);
    }

pub returns : goal.returns
returns c =
    each_so c.args.rows.now
    (λ r. IsLinearizable (spec_file c.args.specification) (spec_program c.args.specification) r.history) c.loop-at.at
    c.loop-at-test.false c.loop-at.invariant.linear
