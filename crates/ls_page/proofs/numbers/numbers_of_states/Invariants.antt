-- What the loop `rows` of `numbers_of_states` in src/numbers.rt keeps.

use Rattle.std.proofs.Common.{map, take}
use Rattle.ls_choices.specs.Seen.{row_of}
use Rattle.ls_transitions.specs.Tables.{Keeps}
use Rattle.ls_page.specs.Numbers.{AreAllNumbers, numbers_in, row_words, texts_in}
use Rattle.ls_page.proofs.numbers.numbers_of_states.Given as goal

abbrev pub invariant-loop-rows : goal.invariant-loop-rows
invariant-loop-rows l = record {
  numbers : AreAllNumbers (texts_in l.table) (numbers_in l.numbers.items)
      (map (λ v. row_words (map row_of v.items)) (take l.rows-index l.all));
  keeps : Keeps (texts_in l.fn.table) (texts_in l.table);
}
