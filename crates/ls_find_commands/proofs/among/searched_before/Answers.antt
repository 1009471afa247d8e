-- Why `searched_before` in src/among.rt keeps its clause `searched`.

use Rattle.std.proofs.Common.{subst}
use Rattle.std.specs.Prelude.{option_map}
use Rattle.ls_family_search.proofs.Passing.{passed_good}
use Rattle.ls_find.specs.Family.{IsFound}
use Rattle.ls_find.specs.Found.{IsCut, IsSound}
use Rattle.ls_items.specs.Cutting.{plain_text}
use Rattle.ls_find_commands.proofs.among.searched_before.Goals as goal

pub returns-clause-searched : goal.returns-clause-searched
returns-clause-searched g c =
    let e = c.args.asked.now.explorer.now in
    let p = c.args.asked.now.programs.now in
    let from = c.args.asked.now.numbers.from in
    let reference = option_map plain_text e.specification in
    let search = c.in_ok-finding.field-0.finding in
    let found = subst (λ n. IsFound e.sought e.states reference e.classes.now p from n search) c.searched_to.ensures
    c.in_ok-finding.ensures.finding in
    record {
      search = search;
      found = found;
      sound = passed_good p (IsSound e.sought reference e.classes.now)
          (IsCut e.sought e.states reference e.classes.now) from search.passed.items found.passed;
      ends = c.ended.ensures;
    }
