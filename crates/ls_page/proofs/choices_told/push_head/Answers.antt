-- Why `push_head` in src/choices_told.rt keeps its contract.

use Rattle.std.proofs.Common.{codes, string_bytes}
use Rattle.ls_labels.specs.Names.{names_of}
use Rattle.ls_page.specs.Data.{texts_of, texts_text}
use Rattle.ls_page.specs.ChoicesData.{first_text, reference_of, reference_text}
use Rattle.ls_page.proofs.Joined.{four_added}
use Rattle.ls_page.proofs.choices_told.push_head.Goals as goal

pub returns : goal.returns
returns c =
    four_added (string_bytes c.args.out.now) (string_bytes c.push_str.new.self) (string_bytes c.push_texts.new.out)
    (string_bytes c.push_reference.new.out) (string_bytes c.push_first.new.out) (codes "{\"listset\":2,\"choose\":1")
    (texts_text (texts_of c.args.texts)) (reference_text (reference_of c.args.reference))
    (first_text (names_of c.args.names) c.args.first.now)
    c.in_ok-push_str.ensures.bytes c.in_ok-push_texts.ensures c.in_ok-push_reference.ensures c.in_ok-push_first.ensures
