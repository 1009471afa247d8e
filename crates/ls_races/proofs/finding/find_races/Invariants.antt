-- What the loop of `find_races` in src/finding.rt keeps.
use Rattle.std.proofs.Common.{◌≡◌, [], map}
use Rattle.ls_checked.specs.Plain.{plain_file}
use Rattle.ls_checked.specs.PlainProgram.{plain_program}
use Rattle.ls_races.specs.Races.{AreRaces, kinds_of}
use Rattle.ls_races.specs.Volatile.{volatile_by}
use Rattle.ls_races.proofs.finding.find_races.Given as goal

abbrev pub invariant-loop : goal.invariant-loop
invariant-loop l = record {
  told : l.told.items ≡ kinds_of l.races.items;
  races : AreRaces (volatile_by (map (λ v. v.items) l.scope.classes.now)) [] (plain_file l.scope.file.now)
      (plain_program l.scope.program.now) l.races.items;
}
