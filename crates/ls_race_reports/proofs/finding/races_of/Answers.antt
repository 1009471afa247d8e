-- Why `races_of` in src/finding.rt keeps its contract.

use Rattle.std.proofs.Common.{◌≡◌, ◌∙◌, ap, true, [], map}
use Rattle.ls_checked.specs.CheckedTree.{File}
use Rattle.ls_checked.specs.CheckedProgram.{Program}
use Rattle.ls_checked.specs.Plain.{plain_file}
use Rattle.ls_checked.specs.PlainProgram.{plain_program}
use Rattle.ls_types_checked.specs.CheckedFile.{elaborated_file}
use Rattle.ls_races.specs.Extents.{IsRaceExtent}
use Rattle.ls_races.specs.Races.{AllAreOn, AreRaces, kinds_of}
use Rattle.ls_races.specs.Volatile.{volatile_by}
use Rattle.ls_translation.specs.Texts.{file_of, program_of}
use Rattle.ls_race_reports.proofs.Same.{at_same}
use Rattle.ls_race_reports.proofs.finding.races_of.Goals as goal

pub returns-clause-races : goal.returns-clause-races
returns-clause-races c =
    let i = c.args.image.now in
    let found = c.in_ok-found.found in
    let file : plain_file c.file.result.now ≡ file_of i =
    ap plain_file c.file.ensures ∙ ap (λ k. (elaborated_file k).file) c.checked.ensures in
    let program : plain_program c.program.result.now ≡ program_of i = ap plain_program c.program.ensures in
    at_same (λ (f : File) (p : Program). AreRaces (volatile_by (map (λ v. v.items) c.args.flags.now)) [] f p
    found.races.items) file program c.in_ok-found.ensures.races

pub returns-clause-none : goal.returns-clause-none
returns-clause-none c =
    let i = c.args.image.now in
    let found = c.in_ok-found.found in
    let file : plain_file c.file.result.now ≡ file_of i =
    ap plain_file c.file.ensures ∙ ap (λ k. (elaborated_file k).file) c.checked.ensures in
    let program : plain_program c.program.result.now ≡ program_of i = ap plain_program c.program.ensures in
    at_same (λ (f : File) (p : Program). found.complete ≡ true →
    AllAreOn (volatile_by (map (λ v. v.items) c.args.flags.now)) (kinds_of found.races.items) f p) file program
    c.in_ok-found.ensures.none

pub returns-clause-extent : goal.returns-clause-extent
returns-clause-extent c =
    let i = c.args.image.now in
    let found = c.in_ok-found.found in
    let file : plain_file c.file.result.now ≡ file_of i =
    ap plain_file c.file.ensures ∙ ap (λ k. (elaborated_file k).file) c.checked.ensures in
    let program : plain_program c.program.result.now ≡ program_of i = ap plain_program c.program.ensures in
    at_same (λ (f : File) (p : Program). IsRaceExtent (volatile_by (map (λ v. v.items) c.args.flags.now))
    (kinds_of found.races.items) f p c.args.states found.states found.complete) file program
    c.in_ok-found.ensures.extent
