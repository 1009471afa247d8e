-- Why `look_through` in src/looking.rt keeps its clauses `finding` and `free`.

use Rattle.std.proofs.Common.{◌≡◌, ap, arith, length, subst, sym}
use Rattle.std.specs.Prelude.{option_map}
use Rattle.ls_find.specs.Family.{IsFound}
use Rattle.ls_find_races.specs.Quiet.{FirstAreFree}
use Rattle.ls_find_races.proofs.Settled.{first_free}
use Rattle.ls_items.specs.Cutting.{plain_text}
use Rattle.ls_find_commands.proofs.GoingOn.{found_on}
use Rattle.ls_find_commands.proofs.looking.look_through.Goals as goal

pub returns-clause-finding : goal.returns-clause-finding
returns-clause-finding g c =
    let e = c.args.asked.now.explorer.now in
    let p = c.args.asked.now.programs.now in
    let reference = option_map plain_text e.specification in
    let f = c.in_ok-first.first in
    let rest = c.in_ok-rest.rest in
    let zero : c.args.numbers.from ≡ 0 = omega arith in
    let many = ap length c.as_slice.ensures.value in
    found_on e.sought e.states reference e.classes.now p c.args.numbers.from c.args.numbers.to f rest
    c.in_ok-finding.finding c.in_ok-first.ensures.finding zero
    (subst (λ n. IsFound e.sought e.states reference e.classes.now p n c.args.numbers.to rest) many
    c.in_ok-rest.ensures.finding)
    c.in_ok-finding.ensures.passed c.in_ok-finding.ensures.halted

pub returns-clause-free : goal.returns-clause-free
returns-clause-free g c =
    let e = c.args.asked.now.explorer.now in
    let zero : c.args.numbers.from ≡ 0 = omega arith in
    let many = ap length c.as_slice.ensures.value in
    subst (FirstAreFree e.classes.now c.args.asked.now.programs.now) (sym many)
    (first_free e.sought e.states (option_map plain_text e.specification) e.classes.now c.args.asked.now.programs.now
    c.args.numbers.from c.args.numbers.to c.in_ok-first.first c.in_ok-first.ensures.finding zero)
