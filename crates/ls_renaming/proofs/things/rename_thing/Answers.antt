-- Why `rename_thing` in src/things.rt keeps its contract.

use Rattle.std.proofs.Common.{◌≡◌, refl, sym, ◌∙◌, subst}
use Rattle.ls_search_laws.specs.Renaming.{renamed_thing}
use Rattle.ls_source_store.specs.SeenThing.{thing_of}
use Rattle.ls_source_store.specs.declared.thing.Thing.{Thing}
use Rattle.ls_renaming.specs.Seen.{names_of}
use Rattle.ls_renaming.proofs.Items.{array_renamed}
use Rattle.ls_renaming.proofs.things.rename_thing.Goals as goal

pub returns-in_ok-copy_thing-in-Array : goal.returns-in_ok-copy_thing-in-Array
returns-in_ok-copy_thing-in-Array c =
    c.in_ok-copy_thing-in-Array.ensures
    ∙ subst (λ (t : Thing). thing_of t ≡ renamed_thing (names_of c.args.names.now) (thing_of t))
    (sym c.in-Array.is)
    (array_renamed c.args.names.now c.in-Array.size c.in-Array.items (c.if-not-name_no_object.ensures refl))
