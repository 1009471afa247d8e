-- The store that is kept, seen as the store of the definitions.
use Rattle.std.proofs.Common.{◌≡◌, ◌≢◌, ℕ, false, arith, ◌-◌, ◌<◌, ◌≤◌, length, get_or, Option, Some, None, Result, Ok}
use Rattle.std.proofs.Common.{Err, OnErr, refl, sym, ap, ◌∙◌}
use Rattle.std.specs.Prelude.{slice_get, slice_set, map, option_map, nat_eq}
use Rattle.std.proofs.lemmas.List.{map-set}
use Rattle.std.proofs.lemmas.Bool.Decides.{nat_tests}
use Rattle.std.proofs.lemmas.Option.{slice_get-get_or, slice_get_past, slice_get-map}
use Rattle.ls_events.specs.declared.value.Value.{Value}
use Rattle.ls_events.specs.declared.action.Action.{Action}
use Rattle.ls_events.specs.declared.action.Answer.TheVariants.{Done}
use Rattle.ls_meaning.specs.Store.{Thing, Store, thing_at}
use Rattle.ls_meaning.specs.Effect.{Does, change, at_thing, put_back, on_thing}
use Rattle.ls_source_store.specs.declared.thing.Thing.{Thing as KeptThing}
use Rattle.ls_source_store.specs.declared.thing.Effect.{Effect as StoreEffect}
use Rattle.ls_source_store.specs.declared.thing.Effect.TheVariants.{Waits as HasToWait, Does as HasDone}
use Rattle.ls_source_store.specs.declared.store.Store.{Store as KeptStore}
use Rattle.ls_source_store.specs.SeenThing.{thing_of, plain_change}
use Rattle.ls_source_store.specs.SeenStore.{store_of, plain_effect}

thing_is : (s : Store) (o : ℕ) (x : Option Thing) → o ≢ 0 → slice_get s.things (o - 1) ≡ x → thing_at s o ≡ x
thing_is s o x h e = let f : nat_eq o 0 ≡ false = grind (arith, nat_tests) in rw f e

-- a changed thing is put back into its place
put_back_is : (s : KeptStore) (o : ℕ) (t : KeptThing) (r : StoreEffect) →
    plain_effect (record { things = map thing_of (slice_set s.things.items (o - 1) t); names = s.names.items }) r ≡
    put_back (store_of s) o (plain_change (thing_of t) r)
put_back_is s o t HasToWait = refl
put_back_is s o t (HasDone answer) =
    ap (λ things. Does (record { things = things; names = s.names.items }) answer)
    (map-set thing_of s.things.items (o - 1) t)

-- an action on a thing that is there
pub acted_within : (s : KeptStore) (o thread : ℕ) (a : Action Value) (t t' : KeptThing) (r : StoreEffect) →
    o ≢ 0 →
    o - 1 < length s.things.items →
    t ≡ get_or s.things.items (o - 1) t →
    plain_change (thing_of t') r ≡ change thread a (thing_of t) →
    plain_effect (record { things = map thing_of (slice_set s.things.items (o - 1) t'); names = s.names.items }) r ≡
    on_thing (store_of s) o thread a
acted_within s o thread a t t' r h within is e =
    let g = slice_get-map thing_of s.things.items (o - 1) ∙ ap (option_map thing_of)
    (slice_get-get_or s.things.items (o - 1) t within ∙ ap Some (sym is)) in
    put_back_is s o t' r
    ∙ ap (put_back (store_of s) o) e
    ∙ ap (λ x. at_thing (store_of s) o x (change thread a)) (sym (thing_is (store_of s) o (Some (thing_of t)) h g))

-- an action on a thing that isn't there
pub acted_past : (s : KeptStore) (o thread : ℕ) (a : Action Value) →
    o ≢ 0 →
    length s.things.items ≤ o - 1 →
    Does (store_of s) Done ≡ on_thing (store_of s) o thread a
acted_past s o thread a h past =
    let g = slice_get-map thing_of s.things.items (o - 1) ∙ ap (option_map thing_of)
    (slice_get_past s.things.items (o - 1) past) in
    ap (λ x. at_thing (store_of s) o x (change thread a)) (sym (thing_is (store_of s) o None h g))

-- a fact that holds anyway
pub on_err : {A E P : Type 0} (r : Result A E) → P → OnErr r P
on_err (Ok v) h = tt
on_err (Err e) h = h
