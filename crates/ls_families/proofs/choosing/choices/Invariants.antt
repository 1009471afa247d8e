-- What `choices` in src/choosing.rt keeps.

use Rattle.std.proofs.Common.{◌≡◌, ◌-◌, ◌++◌, reverse}
use Rattle.ls_families.specs.Choices.{choices}
use Rattle.ls_families.proofs.choosing.choices.Given as goal

abbrev pub invariant-loop : goal.invariant-loop
invariant-loop l =
    choices l.out_of l.count l.number ≡ choices l.out_of (l.count - l.counter) l.rest ++ reverse l.last_first.items
