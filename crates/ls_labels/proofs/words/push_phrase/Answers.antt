-- Why `push_phrase` in src/words.rt writes its words: each part is after what is there.

use Rattle.std.proofs.Common.{append_assoc, arith}
use Rattle.ls_labels.proofs.words.push_phrase.Goals as goal

pub returns-in_ok-add_field-in-WriteField : goal.returns-in_ok-add_field-in-WriteField
returns-in_ok-add_field-in-WriteField c = grind (arith, append_assoc)

pub returns-in_ok-push_str-in-ReadItem : goal.returns-in_ok-push_str-in-ReadItem
returns-in_ok-push_str-in-ReadItem c = grind (arith, append_assoc)

pub returns-in_ok-push_item-in-WriteItem : goal.returns-in_ok-push_item-in-WriteItem
returns-in_ok-push_item-in-WriteItem c = grind (arith, append_assoc)

pub returns-in_ok-push_str-in-WriteName-2 : goal.returns-in_ok-push_str-in-WriteName-2
returns-in_ok-push_str-in-WriteName-2 c = grind (arith, append_assoc)
