-- Why `race_verdict` in src/verdict.rt keeps its contract.

use Rattle.std.proofs.Common.{◌≡◌, ◌∙◌, [], None, Some, ap, map, subst, sym}
use Rattle.std.specs.Option.{option_copied}
use Rattle.ls_translation.specs.Texts.{file_of, program_of}
use Rattle.ls_race_reports.specs.Sure.{first_sure}
use Rattle.ls_race_reports.specs.Verdicts.{IsSureRace}
use Rattle.ls_race_reports.proofs.Sure.{first_is_sure, never_on, none_sure, not_both}
use Rattle.ls_race_reports.proofs.verdict.race_verdict.Goals as goal

pub returns-in-Some : goal.returns-in-Some
returns-in-Some c =
    let i = c.args.image.now in
    let flags = map (λ v. v.items) c.args.flags.now in
    let found = c.in_ok-races.races in
    let r = c.in-Some.race.now in
    let first : first_sure flags found.races.items ≡ Some r =
    ap (first_sure flags) (sym c.as_slice.ensures.value) ∙ sym c.first_sure.ensures ∙ ap option_copied c.in-Some.is in
    subst (IsSureRace flags (file_of i) (program_of i)) (sym c.in_ok-copied-in-Some.ensures)
    (first_is_sure flags (file_of i) (program_of i) [] found.races.items r first c.in_ok-races.ensures.races)

pub returns-then-are_none : goal.returns-then-are_none
returns-then-are_none c =
    let i = c.args.image.now in
    let flags = map (λ v. v.items) c.args.flags.now in
    let found = c.in_ok-races.races in
    let none = c.are_none.ensures.0 c.if-are_none.true in
    never_on flags (file_of i) (program_of i) found.races.items none.1 (c.in_ok-races.ensures.none none.0)

pub returns : goal.returns
returns c =
    let i = c.args.image.now in
    let flags = map (λ v. v.items) c.args.flags.now in
    let found = c.in_ok-races.races in
    let first : first_sure flags found.races.items ≡ None =
    ap (first_sure flags) (sym c.as_slice.ensures.value) ∙ sym c.first_sure.ensures ∙ ap option_copied c.in-None.is in
    none_sure flags (file_of i) (program_of i) c.args.states found.states found.complete found.races.items first
    c.in_ok-races.ensures.races c.in_ok-races.ensures.extent
    (λ some. not_both (c.are_none.ensures.1 some) c.if-are_none.false)
