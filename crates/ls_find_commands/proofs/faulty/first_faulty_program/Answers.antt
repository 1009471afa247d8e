-- Why `first_faulty_program` in src/faulty.rt keeps its contract.

use Rattle.std.proofs.Common.{◌≡◌, ◌∙◌, ◌+◌, ◌<◌, Some, None, ap, arith, length, subst, sym, true}
use Rattle.std.specs.Prelude.{position, slice_get}
use Rattle.std.proofs.lemmas.List.Quantifiers.{position-Some}
use Rattle.ls_families.specs.Families.{plans}
use Rattle.ls_find_serial.specs.Lines.{has_wanted}
use Rattle.ls_find_commands.specs.Faulty.{NoneIsFaulty}
use Rattle.ls_find_commands.proofs.Ranges.{got_at}
use Rattle.ls_find_commands.proofs.FaultyLemmas.{found_faulty}
use Rattle.ls_find_commands.proofs.faulty.first_faulty_program.Goals as goal

pub returns-in-Some : goal.returns-in-Some
returns-in-Some c =
    let wanted = c.args.wanted in
    let ts = c.args.told.now in
    let at = c.in-Some.at in
    let t = c.index-told-at.result in
    let from = c.args.numbers.from in
    let to = c.args.numbers.to in
    let place : position (has_wanted wanted) ts ≡ Some at = sym c.first_faulty.ensures.is ∙ c.in-Some.is in
    let first = position-Some (has_wanted wanted) ts at t place in
    let got : slice_get ts at ≡ Some t = got_at ts at t first.0 ∙ ap Some (sym c.index-told-at.is) in
    let has = subst (λ x. has_wanted wanted x ≡ true) (sym c.index-told-at.is) first.1 in
    let less : from + at < length (plans c.args.programs.now.family) =
    omega (arith, first.0, c.requires.many, c.requires.order, c.requires.there) in
    found_faulty wanted c.args.programs.now from to at ts t c.faulty_at.result
    place got has less c.faulty_at.ensures.some c.faulty_at.ensures.none

pub returns-in-None : goal.returns-in-None
returns-in-None c =
    let ts = c.args.told.now in
    let place : position (has_wanted c.args.wanted) ts ≡ None = sym c.first_faulty.ensures.is ∙ c.in-None.is in
    λ classes told. NoneIsFaulty ts told place
