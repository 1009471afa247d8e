-- Why `find_races` in src/finding.rt keeps its clauses `none` and `extent`, and its loop.
use Rattle.std.proofs.Common.{◌⊎◌, ◌++◌, ◌∷◌, [], ◌∙◌, ap, map, sym, subst}
use Rattle.std.proofs.lemmas.List.{map-append}
use Rattle.ls_checked.specs.CheckedTree.{File}
use Rattle.ls_checked.specs.CheckedProgram.{Program}
use Rattle.ls_checked.specs.Plain.{plain_file}
use Rattle.ls_checked.specs.PlainProgram.{plain_program}
use Rattle.ls_races.specs.declared.finding.Race.{Race}
use Rattle.ls_search.specs.Verdicts.{IsCut}
use Rattle.ls_races.specs.Extents.{MeetsLate}
use Rattle.ls_races.specs.Races.{AllAreOn, AreRaces, IsRaceOf, kinds_of}
use Rattle.ls_races.specs.Sought.{IsSight}
use Rattle.ls_races.specs.Volatile.{volatile_by}
use Rattle.ls_races.proofs.Extents.{cut_extent, whole_extent}
use Rattle.ls_races.proofs.Told.{races_more}
use Rattle.ls_races.proofs.finding.find_races.Goals as goal

pub returns-in-Free-clause-none : goal.returns-in-Free-clause-none
returns-in-Free-clause-none c = λ whole.
    let file : File = plain_file c.args.scope.file.now in
    let program : Program = plain_program c.args.scope.program.now in
    let volatile = volatile_by (map (λ v. v.items) c.args.scope.classes.now) in
    subst (λ k. AllAreOn volatile k file program) (c.deref.ensures.value ∙ c.loop.invariant.told)
    (subst (λ s. IsSight volatile c.deref.result.now file program c.args.scope.limit c.in_ok-sight.field-0.states s)
    c.in-Free.is
    c.in_ok-sight.ensures.sight).0

pub returns-in-Free-clause-extent : goal.returns-in-Free-clause-extent
returns-in-Free-clause-extent c =
    let file : File = plain_file c.args.scope.file.now in
    let program : Program = plain_program c.args.scope.program.now in
    let volatile = volatile_by (map (λ v. v.items) c.args.scope.classes.now) in
    let is = c.in_ok-sight.ensures in
    whole_extent volatile (kinds_of c.loop.races.items) file program c.args.scope.limit c.in_ok-sight.field-0.states
    is.few is.reached
    (subst (λ s. IsSight volatile c.deref.result.now file program c.args.scope.limit c.in_ok-sight.field-0.states s)
    c.in-Free.is is.sight).1

pub returns-in-Cut-clause-extent : goal.returns-in-Cut-clause-extent
returns-in-Cut-clause-extent c =
    let file : File = plain_file c.args.scope.file.now in
    let program : Program = plain_program c.args.scope.program.now in
    let volatile = volatile_by (map (λ v. v.items) c.args.scope.classes.now) in
    let is = c.in_ok-sight.ensures in
    cut_extent volatile (kinds_of c.loop.races.items) file program c.args.scope.limit c.in_ok-sight.field-0.states
    is.few is.reached
    (subst (λ k. IsCut file program c.args.scope.limit 0 c.in_ok-sight.field-0.states ⊎ MeetsLate volatile k file
    program)
    (c.deref.ensures.value ∙ c.loop.invariant.told)
    (subst (λ s. IsSight volatile c.deref.result.now file program c.args.scope.limit c.in_ok-sight.field-0.states s)
    c.in-Cut.is is.sight))

pub loop-preserved : goal.loop-preserved
loop-preserved c =
    let file : File = plain_file c.args.scope.file.now in
    let program : Program = plain_program c.args.scope.program.now in
    let volatile = volatile_by (map (λ v. v.items) c.args.scope.classes.now) in
    let races = c.loop.races.items in
    let race = c.in-Met.race in
    let inv = c.loop.invariant in
    let pushed = c.in_ok-push-in-Met-2.ensures.items in
    record {
      told =
          c.in_ok-push-in-Met.ensures.items ∙ ap (λ l. l ++ race.on ∷ []) inv.told
          ∙ sym (map-append (λ (r : Race). r.on) races (race ∷ [])) ∙ ap kinds_of (sym pushed);
      races = subst (AreRaces volatile [] file program) (sym pushed)
          (races_more volatile file program [] races race inv.races
          (subst (λ k. IsRaceOf volatile k file program race) (c.deref.ensures.value ∙ inv.told)
          (subst (λ s. IsSight volatile c.deref.result.now file program c.args.scope.limit
          c.in_ok-sight.field-0.states s) c.in-Met.is
          c.in_ok-sight.ensures.sight)));
    }
