-- Why `push_move` in src/words.rt writes its words: each part is after what is there.

use Rattle.std.proofs.Common.{append_assoc, arith}
use Rattle.std.proofs.lemmas.Grind.{elements}
use Rattle.ls_labels.proofs.words.push_move.Goals as goal

pub returns-in-NewLock : goal.returns-in-NewLock
returns-in-NewLock c = grind (arith, elements)

pub returns-in-NewMarkable : goal.returns-in-NewMarkable
returns-in-NewMarkable c = grind (arith, elements)

pub returns-in_ok-push_int-in-NewArray : goal.returns-in_ok-push_int-in-NewArray
returns-in_ok-push_int-in-NewArray c = grind (arith, append_assoc)
