-- What the loop `number` of `choices_of` in src/choosing.rt keeps.

use Rattle.ls_history_numbers.specs.Choices.{TellChoices}
use Rattle.ls_history_numbers.proofs.choosing.choices_of.Given as goal

abbrev pub invariant-loop-number : goal.invariant-loop-number
invariant-loop-number l = TellChoices l.firsts l.lasts l.begun l.choices.items l.number
