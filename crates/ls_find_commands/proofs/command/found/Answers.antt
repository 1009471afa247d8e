-- Why `found` in src/command.rt keeps its clause `gives`, and calls as these functions want.

use Rattle.std.proofs.Common.{◌≡◌, ◌∙◌, ◌-◌, ◌≤◌, ap, arith, length, subst, sym}
use Rattle.std.specs.Prelude.{min, option_map, string_bytes}
use Rattle.ls_families.specs.Families.{Family, plans}
use Rattle.ls_faults.proofs.Answering.{wider}
use Rattle.ls_items.specs.Cutting.{plain_text}
use Rattle.ls_find_commands.specs.Faulty.{IsFoundAmong}
use Rattle.ls_find_commands.specs.Found.{FindsIn, Searched, answer_beside}
use Rattle.ls_find_commands.proofs.FaultyLemmas.{found_last, found_next}
use Rattle.ls_find_commands.proofs.command.found.Goals as goal

pub finding_text-requires-clause-last : goal.finding_text-requires-clause-last
finding_text-requires-clause-last g c =
    let r = c.args.range in
    let p = c.args.programs.now in
    let classes = c.args.texts.classes.now in
    let reference = option_map plain_text c.args.texts.reference in
    let many = c.count-count.ensures ∙ ap (λ (x : Family). length (plans x)) c.family.ensures in
    let F = c.numbers_of-numbers.result.from in
    let T = c.numbers_of-numbers.result.to in
    let found = c.in_ok-finding.field-0.finding in
    let within : T ≤ length (plans p.family) = omega (arith, many, c.numbers_of-numbers.ensures.there) in
    let last = found_last c.in_ok-wanted_of.field-0 r.sought r.states reference classes p F T found
    c.in_ok-finding.ensures.found within in
    omega (arith, last, many, c.count-count.type_inv)

pub finding_text-requires-clause-next : goal.finding_text-requires-clause-next
finding_text-requires-clause-next g c =
    let r = c.args.range in
    let p = c.args.programs.now in
    let classes = c.args.texts.classes.now in
    let reference = option_map plain_text c.args.texts.reference in
    let many = c.count-count.ensures ∙ ap (λ (x : Family). length (plans x)) c.family.ensures in
    let F = c.numbers_of-numbers.result.from in
    let T = c.numbers_of-numbers.result.to in
    let found = c.in_ok-finding.field-0.finding in
    let within : T ≤ length (plans p.family) = omega (arith, many, c.numbers_of-numbers.ensures.there) in
    found_next c.in_ok-wanted_of.field-0 r.sought r.states reference classes p F T found
    c.in_ok-finding.ensures.found within
    (omega (arith, many, c.count-count.type_inv))

pub returns-clause-gives : goal.returns-clause-gives
returns-clause-gives g c =
    let r = c.args.range in
    let p = c.args.programs.now in
    let classes = c.args.texts.classes.now in
    let reference = option_map plain_text c.args.texts.reference in
    let wanted = c.in_ok-wanted_of.field-0 in
    let found = c.in_ok-finding.field-0.finding in
    let said = c.in_ok-said.said in
    let many = c.count-count.ensures ∙ ap (λ (x : Family). length (plans x)) c.family.ensures in
    let from = c.numbers_of-numbers.ensures.from in
    let F = c.numbers_of-numbers.result.from in
    let T = c.numbers_of-numbers.result.to in
    let N = c.count-count.result in
    let to : T ≡ min r.to (length (plans p.family)) =
    c.numbers_of-numbers.ensures.to ∙ ap (min r.to) many in
    let among = subst (λ n. IsFoundAmong wanted r.sought r.states reference classes p (r.from - 1) n found) to
    (subst (λ n. IsFoundAmong wanted r.sought r.states reference classes p n T found) from
    c.in_ok-finding.ensures.found) in
    let value = c.as_str.ensures.value in
    wider (λ a. a ≡ answer_beside F T N found.passed.items found.halted c.as_str.result.now)
    (FindsIn reference classes p r) c.finding_text.result
    (λ a is. subst (FindsIn reference classes p r)
    (sym (is ∙ (λ i. answer_beside (from i) (to i) (many i) found.passed.items found.halted (value i))))
    (Searched wanted found c.is_asked_beside.result (string_bytes said) c.requires.good c.requires.all
    c.in_ok-wanted_of.ensures among c.is_asked_beside.ensures c.in_ok-said.ensures.beside)) c.finding_text.ensures
