-- What the loop `number` of `ends_of` in src/states.rt keeps.

use Rattle.std.proofs.Common.{◌≡◌, ◌++◌, drop, map}
use Rattle.ls_choices.specs.Seen.{row_of}
use Rattle.ls_page.specs.States.{ends_from}
use Rattle.ls_page.proofs.states.ends_of.Given as goal

abbrev pub invariant-loop-number : goal.invariant-loop-number
invariant-loop-number l =
    l.ends.items ++ ends_from l.number (map (λ v. map row_of v.items) (drop l.number l.all))
    ≡ ends_from 0 (map (λ v. map row_of v.items) l.all)
