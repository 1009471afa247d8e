-- Why `races_beside` in src/racing.rt keeps its clause `beside`.

use Rattle.std.proofs.Common.{◌∙◌, ◌≤◌, ap, arith, length, subst, sym}
use Rattle.std.proofs.lemmas.Result.{IfOk-weaker}
use Rattle.ls_families.specs.Families.{Family, plans}
use Rattle.ls_find_races.specs.Family.{IsRaceFinding}
use Rattle.ls_find_races.specs.Quiet.{FirstAreFree, GoesOnFrom}
use Rattle.ls_find_races.proofs.Settled.{after_are_free, after_free}
use Rattle.ls_find_commands.specs.Racing.{IsBeside, Says, Silent}
use Rattle.ls_find_commands.proofs.racing.races_beside.Goals as goal

pub returns-then-not-beside-clause-beside : goal.returns-then-not-beside-clause-beside
returns-then-not-beside-clause-beside g c =
    subst (IsBeside c.args.beside.now.asked c.args.beside.now.races.now.states
    c.args.beside.now.races.now.classes.now c.args.programs.now) (sym c.new.ensures.bytes)
    (Silent c.if-not-beside.true)

pub returns-clause-beside : goal.returns-clause-beside
returns-clause-beside g c =
    let p = c.args.programs.now in
    let classes = c.args.beside.now.races.now.classes.now in
    let states = c.args.beside.now.races.now.states in
    let known = c.min-known.result in
    let f = c.in_ok-left.left in
    let all = c.in_ok-finding.finding in
    let many = c.count-count.ensures ∙ ap (λ (f : Family). length (plans f)) c.family.ensures in
    let left = subst (λ n. IsRaceFinding states classes p known n f) many c.in_ok-left.ensures.finding in
    let there : known ≤ length (plans p.family) = omega (arith, c.min-known.ensures, many) in
    let free : FirstAreFree classes p known =
    λ n plan within at. c.requires n plan (omega (arith, within, c.min-known.ensures)) at in
    let to = length (plans p.family) in
    let on : GoesOnFrom known f all =
    record { passed = c.in_ok-finding.ensures.passed; halted = c.in_ok-finding.ensures.halted } in
    let found = after_free states classes p known to f all there free left on in
    let are_free = after_are_free states classes p known to f all there free left on in
    let said = Says c.has_try_lock.result all c.if-not-beside.false c.has_try_lock.ensures found are_free in
    IfOk-weaker c.words_of.result _ _ (λ text e. subst (IsBeside c.args.beside.now.asked states classes p) (sym e) said)
    c.words_of.ensures
