-- Why `push_node` in src/graphs.rt keeps its contract.

use Rattle.std.proofs.Common.{◌∙◌, ◌++◌, ap, string_bytes}
use Rattle.std.proofs.lemmas.List.{append_assoc}
use Rattle.ls_report.specs.Events.{Text}
use Rattle.ls_labels.specs.Objects.{object_text}
use Rattle.ls_source_store.specs.SeenThing.{thing_of}
use Rattle.ls_state.specs.Seen.{names_in}
use Rattle.ls_state.specs.Drawing.{fill_text, head_text, label_text, rows_text}
use Rattle.ls_state.proofs.graphs.push_node.Goals as goal

pub returns : goal.returns
returns c =
    let label : Text = label_text (object_text (names_in c.args.scene.now) c.args.scene.now.labels.items c.args.object
    ++ rows_text (names_in c.args.scene.now) c.args.scene.now.labels.items c.args.object (thing_of c.args.thing.now)) in
    c.in_ok-push_label.ensures
    ∙ ap (λ w. w ++ label) (c.in_ok-push_head.ensures ∙ ap (λ f. string_bytes c.args.out.now ++
    head_text c.args.object f) c.fill_of-fill.ensures)
    ∙ append_assoc (string_bytes c.args.out.now) (head_text c.args.object (fill_text (thing_of c.args.thing.now))) label
