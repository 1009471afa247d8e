-- Why `found_in` in src/command.rt keeps its clause `gives`.

use Rattle.std.proofs.Common.{◌∙◌, ap, length, subst}
use Rattle.ls_families.specs.Families.{Family, plans}
use Rattle.ls_find_commands.specs.Found.{IsBadRange, NoNumbers}
use Rattle.ls_find_commands.proofs.command.found_in.Goals as goal

pub returns-then-is_bad_range-clause-gives : goal.returns-then-is_bad_range-clause-gives
returns-then-is_bad_range-clause-gives g c =
    let many = c.count.ensures ∙ ap (λ (f : Family). length (plans f)) c.family.ensures in
    NoNumbers (subst (IsBadRange c.args.range) many (c.is_bad_range.ensures.bad.0 c.if-is_bad_range.true))
