-- A store is another under other numbers if its things are those that have these numbers.
use Rattle.std.proofs.Common.{◌≡◌, ℕ, zero, suc, ◌+◌, ◌-◌, ◌<◌, ◌≤◌, ◌⊎◌, inl, inr, List, [], ◌∷◌, map, None, Some}
use Rattle.std.proofs.Common.{length}
use Rattle.std.proofs.Common.{refl, sym, ap, ◌∙◌, subst, arith}
use Rattle.std.specs.Prelude.{slice_get}
use Rattle.std.specs.Option.{option_map}
use Rattle.std.proofs.lemmas.Bool.{cases_lt}
use Rattle.std.proofs.lemmas.Option.{slice_get_past}
use Rattle.ls_meaning.specs.Renamings.{renamed}
use Rattle.ls_meaning.specs.Store.{Store, Thing, new_number, thing_at}
use Rattle.ls_search_laws.specs.Renaming.{IsRenamedStore, renamed_thing}
use Rattle.ls_search_laws.proofs.Renaming.{at_suc}
use Rattle.ls_transitions.proofs.Keeping.{there}
use Rattle.ls_renaming.specs.Names.{naming}
use Rattle.ls_renaming.specs.Renumbered.{AreThingsThere, IsThingThere}
use Rattle.ls_renaming.proofs.Apart.{name_here, name_past}

some_is : {A : Type 0} {x y : A} → Some x ≡ Some y → x ≡ y
some_is h = cc

thing_of_number : (names : ℕ → ℕ) (numbers : List ℕ) (things others : List Thing) (place number : ℕ) (thing : Thing) →
    AreThingsThere names numbers things others →
    slice_get numbers place ≡ Some number →
    slice_get things place ≡ Some thing →
    IsThingThere names thing others number
thing_of_number names [] things others place number thing h e f = cc
thing_of_number names (n ∷ ns) [] others place number thing h e f = cc
thing_of_number names (n ∷ ns) (t ∷ ts) others zero number thing h e f =
    subst (IsThingThere names thing others) (some_is e)
    (subst (λ (x : Thing). IsThingThere names x others n) (some_is f) h.0)
thing_of_number names (n ∷ ns) (t ∷ ts) others (suc place) number thing h e f =
    thing_of_number names ns ts others place number thing h.1 e f

module _ (numbers : List ℕ) (others : ℕ) (new old : Store) (width : length numbers ≡ length new.things)
    (count : others ≡ length old.things)
    (things : AreThingsThere (λ n. naming numbers others n) numbers new.things old.things)
    (names : old.names ≡ map (renamed (λ n. naming numbers others n)) new.names) where
  named : ℕ → ℕ
  named n = naming numbers others n

  -- the thing of a number that isn't zero
  at_least : (s : Store) (o : ℕ) → 1 ≤ o → thing_at s o ≡ slice_get s.things (o - 1)
  at_least s zero least = absurd (omega (arith, least))
  at_least s (suc n) least =
      let e : suc n - 1 ≡ n = omega arith in at_suc s n ∙ ap (slice_get s.things) (sym e)

  thing_here : (n : ℕ) → (n < length numbers) ⊎ (length numbers ≤ n) →
      thing_at old (naming numbers others (suc n)) ≡
      option_map (renamed_thing (λ m. naming numbers others m)) (thing_at new (suc n))
  thing_here n (inl less) =
      let m = there numbers n less in
      let within : n < length new.things = omega (arith, less, width) in
      let t = there new.things n within in
      let h = thing_of_number (λ k. naming numbers others k) numbers new.things old.things n m.0 t.0 things m.1 t.1 in
      ap (thing_at old) (name_here numbers others n m.0 m.1)
      ∙ at_least old m.0 h.least
      ∙ h.here
      ∙ sym (ap (option_map (renamed_thing (λ m. naming numbers others m))) (at_suc new n ∙ t.1))
  thing_here n (inr past) =
      let far : length new.things ≤ n = omega (arith, past, width) in
      let out : 1 ≤ (suc n - length numbers) + others = omega (arith, past) in
      let beyond : length old.things ≤ ((suc n - length numbers) + others) - 1 = omega (arith, past, count) in
      ap (thing_at old) (name_past numbers others n past)
      ∙ at_least old ((suc n - length numbers) + others) out
      ∙ slice_get_past old.things (((suc n - length numbers) + others) - 1) beyond
      ∙ sym (ap (option_map (renamed_thing (λ m. naming numbers others m)))
      (at_suc new n ∙ slice_get_past new.things n far))

  all_things : (o : ℕ) → thing_at old (naming numbers others o) ≡
      option_map (renamed_thing (λ m. naming numbers others m)) (thing_at new o)
  all_things zero = refl
  all_things (suc n) = thing_here n (cases_lt n (length numbers))

  new_names : (i : ℕ) → naming numbers others (new_number new + i) ≡ new_number old + i
  new_names i =
      let e : new_number new + i ≡ suc (length new.things + i) = omega arith in
      let past : length numbers ≤ length new.things + i = omega (arith, width) in
      let far : (suc (length new.things + i) - length numbers) + others ≡ new_number old + i =
      omega (arith, width, count) in
      ap (λ n. naming numbers others n) e ∙ name_past numbers others (length new.things + i) past ∙ far

  pub renamed_store : IsRenamedStore (λ n. naming numbers others n) new old
  renamed_store = record { things = all_things; new = new_names; setup = names }
