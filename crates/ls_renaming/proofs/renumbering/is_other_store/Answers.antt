-- Why `is_other_store` in src/renumbering.rt keeps its contract.

use Rattle.std.proofs.Common.{rules, ◌≡◌, ℕ, IsTrue, List, length, map, sym, ap, ◌∙◌, subst}
use Rattle.std.proofs.lemmas.List.{length-map}
use Rattle.ls_source_store.specs.SeenThing.{thing_of}
use Rattle.ls_source_store.specs.SeenStore.{store_of}
use Rattle.ls_source_store.specs.declared.thing.Thing.{Thing}
use Rattle.ls_works.specs.Frames.{renamed_values}
use Rattle.ls_renaming.specs.Seen.{names_of}
use Rattle.ls_renaming.specs.Renumbered.{AreThingsThere}
use Rattle.ls_renaming.proofs.RenumberedThings.{renamed_store}
use Rattle.ls_renaming.proofs.renumbering.is_other_store.Goals as goal

pub returns : goal.returns
returns c = λ yes.
    let f : ℕ → ℕ = names_of c.args.names.now in
    let numbers : List ℕ = c.args.names.now.numbers.items in
    let new_things : List Thing = c.args.new.now.things.items in
    let old_things : List Thing = c.args.old.now.things.items in
    let found : IsTrue c.in_ok-are_other_things.field-0 = search rules in
    let count : c.args.names.now.others ≡ length old_things = search rules in
    let width : length numbers ≡ length new_things =
    c.in_ok-are_other_things.ensures.width found ∙ ap length c.deref.ensures.value in
    let things : AreThingsThere f numbers (map thing_of new_things) (map thing_of old_things) =
    subst (λ (ts : List Thing). AreThingsThere f numbers (map thing_of new_things) (map thing_of ts))
    c.deref-2.ensures.value
    (subst (λ (ts : List Thing). AreThingsThere f numbers (map thing_of ts) (map thing_of c.deref-2.result.now))
    c.deref.ensures.value (c.in_ok-are_other_things.ensures.there found)) in
    renamed_store numbers c.args.names.now.others (store_of c.args.new.now) (store_of c.args.old.now)
    (width ∙ sym (length-map new_things thing_of)) (count ∙ sym (length-map old_things thing_of)) things
    (sym c.deref-4.ensures.value
    ∙ c.are_same_values.ensures yes
    ∙ c.deref-5.ensures.value
    ∙ c.in_ok-again.ensures
    ∙ ap (renamed_values f) c.deref-3.ensures.value)
