-- Why `said_of` in src/alone.rt keeps its contract.

use Rattle.std.proofs.Common.{◌∙◌, ◌++◌, ap}
use Rattle.std.specs.Prelude.{codes, string_bytes}
use Rattle.ls_labels.specs.Names.{class_name, names_of}
use Rattle.ls_any_size.specs.Alone.{guard_text}
use Rattle.ls_any_size.proofs.Goodness.{of_parts}
use Rattle.ls_any_size.proofs.alone.said_of.Goals as goal

pub returns : goal.returns
returns c = of_parts (codes "each call of ") (class_name (names_of c.args.names) c.args.class) (codes " runs alone")
    (guard_text (names_of c.args.names) c.args.class c.args.guard) _ _ _ _ _ c.new-out.ensures.bytes
    c.in_ok-push_str.ensures.bytes
    (c.in_ok-push_str-2.ensures.bytes ∙ ap (λ n. string_bytes c.push_str.new.self ++ n) c.class_name.ensures)
    c.in_ok-push_str-3.ensures.bytes c.in_ok-push_guard.ensures
