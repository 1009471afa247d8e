-- Why `asked_first` in src/among.rt keeps its clause `found`, and calls as `searched_before` wants.

use Rattle.std.proofs.Common.{arith, subst, sym}
use Rattle.ls_find_serial.specs.Told.{AreToldOf}
use Rattle.ls_find_commands.proofs.FaultyLemmas.{searched_within}
use Rattle.ls_find_commands.proofs.among.asked_first.Goals as goal

pub searched_before-requires-clause-order : goal.searched_before-requires-clause-order
searched_before-requires-clause-order g c κs within =
    let e = c.args.asked.now.explorer.now in
    let p = c.args.asked.now.programs.now in
    let from = c.args.asked.now.numbers.from in
    let to = c.args.asked.now.numbers.to in
    let first = c.in_ok-faulty.ensures e.classes.now
    (subst (AreToldOf e.classes.now p from to) (sym c.as_slice.ensures.value) c.in_ok-told.ensures) in
    (searched_within c.args.asked.now.wanted e.classes.now p from to to c.in_ok-faulty.faulty first c.requires.order
    (omega arith)).0

pub searched_before-requires-clause-there : goal.searched_before-requires-clause-there
searched_before-requires-clause-there g c κs within =
    let e = c.args.asked.now.explorer.now in
    let p = c.args.asked.now.programs.now in
    let from = c.args.asked.now.numbers.from in
    let to = c.args.asked.now.numbers.to in
    let first = c.in_ok-faulty.ensures e.classes.now
    (subst (AreToldOf e.classes.now p from to) (sym c.as_slice.ensures.value) c.in_ok-told.ensures) in
    let up = searched_within c.args.asked.now.wanted e.classes.now p from to to c.in_ok-faulty.faulty first
    c.requires.order (omega arith) in
    omega (arith, up.1, c.requires.there)

pub returns-clause-found : goal.returns-clause-found
returns-clause-found g c =
    let e = c.args.asked.now.explorer.now in
    let p = c.args.asked.now.programs.now in
    let from = c.args.asked.now.numbers.from in
    let to = c.args.asked.now.numbers.to in
    let first = c.in_ok-faulty.ensures e.classes.now
    (subst (AreToldOf e.classes.now p from to) (sym c.as_slice.ensures.value) c.in_ok-told.ensures) in
    let up = searched_within c.args.asked.now.wanted e.classes.now p from to to c.in_ok-faulty.faulty first
    c.requires.order (omega arith) in
    record {
      last = to;
      faulty = c.in_ok-faulty.faulty;
      first = first;
      searched = c.in_ok-finding.ensures.searched;
      asked = omega (arith, up.1);
      order = c.requires.order;
      within = omega arith;
    }
