-- Why `searched_first` in src/among.rt keeps its clause `found`, and calls as `searched_before` wants.

use Rattle.std.proofs.Common.{Some, arith, refl, subst, sym}
use Rattle.ls_find_serial.specs.Told.{AreToldOf}
use Rattle.ls_find_commands.specs.Faulty.{IsFirstFaulty}
use Rattle.ls_find_commands.proofs.FaultyLemmas.{number_within}
use Rattle.ls_find_commands.proofs.among.searched_first.Goals as goal

pub searched_before-requires-2-clause-order : goal.searched_before-requires-2-clause-order
searched_before-requires-2-clause-order g c κs inside =
    let e = c.args.asked.now.explorer.now in
    let p = c.args.asked.now.programs.now in
    let from = c.args.asked.now.numbers.from in
    let to = c.args.asked.now.numbers.to in
    let last = c.past.result in
    let told = subst (AreToldOf e.classes.now p from last) (sym c.as_slice.ensures.value) c.in_ok-told.ensures in
    let first = subst (IsFirstFaulty c.args.asked.now.wanted e.classes.now p from last) c.in-Some.is
    (c.in_ok-faulty.ensures e.classes.now told) in
    let within = number_within c.args.asked.now.wanted e.classes.now p from last (Some c.in-Some.found)
    c.in-Some.found refl c.past.ensures.from first in
    within.0

pub searched_before-requires-2-clause-there : goal.searched_before-requires-2-clause-there
searched_before-requires-2-clause-there g c κs inside =
    let e = c.args.asked.now.explorer.now in
    let p = c.args.asked.now.programs.now in
    let from = c.args.asked.now.numbers.from in
    let to = c.args.asked.now.numbers.to in
    let last = c.past.result in
    let told = subst (AreToldOf e.classes.now p from last) (sym c.as_slice.ensures.value) c.in_ok-told.ensures in
    let first = subst (IsFirstFaulty c.args.asked.now.wanted e.classes.now p from last) c.in-Some.is
    (c.in_ok-faulty.ensures e.classes.now told) in
    let within = number_within c.args.asked.now.wanted e.classes.now p from last (Some c.in-Some.found)
    c.in-Some.found refl c.past.ensures.from first in
    omega (arith, within.1, c.past.ensures.to, c.requires.there)

pub returns-clause-found : goal.returns-clause-found
returns-clause-found g c =
    let e = c.args.asked.now.explorer.now in
    let p = c.args.asked.now.programs.now in
    let from = c.args.asked.now.numbers.from in
    let to = c.args.asked.now.numbers.to in
    let last = c.past.result in
    let told = subst (AreToldOf e.classes.now p from last) (sym c.as_slice.ensures.value) c.in_ok-told.ensures in
    let first = subst (IsFirstFaulty c.args.asked.now.wanted e.classes.now p from last) c.in-Some.is
    (c.in_ok-faulty.ensures e.classes.now told) in
    let within = number_within c.args.asked.now.wanted e.classes.now p from last (Some c.in-Some.found)
    c.in-Some.found refl c.past.ensures.from first in
    record {
      last = last;
      faulty = Some c.in-Some.found;
      first = first;
      searched = c.in_ok-finding.ensures.searched;
      asked = omega (arith, within.1);
      order = c.past.ensures.from;
      within = c.past.ensures.to;
    }
