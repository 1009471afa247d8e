-- Why `raced` in src/command.rt keeps its clause `gives`, and `finding_text` is called as it wants.

use Rattle.std.proofs.Common.{◌≡◌, ◌∙◌, ◌-◌, ◌+◌, ◌<◌, ◌≤◌, List, ap, arith, length, subst, sym}
use Rattle.std.specs.Prelude.{IfSome, codes, min, option_map}
use Rattle.ls_families.specs.Families.{Family, plans}
use Rattle.ls_family_search.specs.declared.judging.Passed.{Passed}
use Rattle.ls_faults.proofs.Answering.{wider}
use Rattle.ls_find_races.specs.Family.{IsRaceFinding, PassedAreFree}
use Rattle.ls_find_races.specs.Raced.{IsNotSaid, IsRaceFree, IsRaceWhy}
use Rattle.ls_items.specs.Cutting.{plain_text}
use Rattle.ls_find_commands.specs.Found.{FindsIn, Raced, answer_beside}
use Rattle.ls_find_commands.specs.Racing.{race_halted_answer}
use Rattle.ls_find_commands.proofs.Beside.{nothing_beside, told_if}
use Rattle.ls_find_commands.proofs.Ranges.{last_within, next_under}
use Rattle.ls_find_commands.proofs.command.raced.Goals as goal

pub finding_text-requires-clause-last : goal.finding_text-requires-clause-last
finding_text-requires-clause-last g c =
    let many = c.count-count.ensures ∙ ap (λ (f : Family). length (plans f)) c.family.ensures in
    let classes = c.args.texts.classes.now in
    let f = c.in_ok-finding.finding in
    let within : c.numbers_of-numbers.result.to ≤ length (plans c.args.programs.now.family) =
    omega (arith, many, c.numbers_of-numbers.ensures.there) in
    let last = last_within c.args.programs.now (IsRaceFree classes) (IsNotSaid c.args.range.states classes) (IsRaceWhy
    classes)
    c.numbers_of-numbers.result.from c.numbers_of-numbers.result.to f c.in_ok-finding.ensures.finding within in
    omega (arith, last, many, c.count-count.type_inv, ap length c.in_ok-shown.ensures.passed)

pub finding_text-requires-clause-next : goal.finding_text-requires-clause-next
finding_text-requires-clause-next g c =
    let many = c.count-count.ensures ∙ ap (λ (f : Family). length (plans f)) c.family.ensures in
    let classes = c.args.texts.classes.now in
    let f = c.in_ok-finding.finding in
    let next = next_under c.args.programs.now (IsRaceFree classes) (IsNotSaid c.args.range.states classes) (IsRaceWhy
    classes)
    c.numbers_of-numbers.result.from c.numbers_of-numbers.result.to f c.in_ok-finding.ensures.finding
    (omega (arith, many, c.count-count.type_inv)) in
    subst (λ (xs : List Passed). IfSome c.in_ok-shown.shown.halted
    (λ h. c.numbers_of-numbers.result.from + length xs + 1 < 18446744073709551616)) (sym c.in_ok-shown.ensures.passed)
    (told_if (c.numbers_of-numbers.result.from + length f.passed.items + 1 < 18446744073709551616) f c.in_ok-shown.shown
    c.in_ok-shown.ensures next)

pub returns-clause-gives : goal.returns-clause-gives
returns-clause-gives g c =
    let r = c.args.range in
    let p = c.args.programs.now in
    let classes = c.args.texts.classes.now in
    let f = c.in_ok-finding.finding in
    let told = c.in_ok-shown.shown in
    let many = c.count-count.ensures ∙ ap (λ (g : Family). length (plans g)) c.family.ensures in
    let from = c.numbers_of-numbers.ensures.from in
    let to : c.numbers_of-numbers.result.to ≡ min r.to (length (plans p.family)) =
    c.numbers_of-numbers.ensures.to ∙ ap (min r.to) many in
    let found = subst (λ n. IsRaceFinding r.states classes p (r.from - 1) n f) to
    (subst (λ n. IsRaceFinding r.states classes p n c.numbers_of-numbers.result.to f) from
    c.in_ok-finding.ensures.finding) in
    let free = subst (λ n. PassedAreFree classes p n f) from c.in_ok-finding.ensures.good in
    let F = c.numbers_of-numbers.result.from in
    let T = c.numbers_of-numbers.result.to in
    let N = c.count-count.result in
    let same = nothing_beside F T N told.passed.items told.halted ∙
    c.in_ok-shown.ensures.answer F T N told.passed.items ∙
    (λ i. race_halted_answer (from i) (to i) (many i) (c.in_ok-shown.ensures.passed i) f.halted) in
    let reference = option_map plain_text c.args.texts.reference in
    wider (λ a. a ≡ answer_beside F T N told.passed.items told.halted (codes "")) (FindsIn reference classes p r)
    c.finding_text.result
    (λ a h. subst (FindsIn reference classes p r) (sym (h ∙ same))
    (Raced f c.requires.good c.requires.alone found free)) c.finding_text.ensures
