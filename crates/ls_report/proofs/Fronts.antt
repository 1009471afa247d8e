-- One more event, whose place is kept under its thread's name.
use Rattle.std.proofs.Common.{◌≡◌, ◌∙◌, ◌<◌, ◌++◌, ◌∷◌, [], ℕ, Bool, true, false, cond, List, Option, Some, None}
use Rattle.std.proofs.Common.{length, Bor, refl, sym, ap, subst, arith}
use Rattle.std.specs.Prelude.{IfSome, find, get_or, is_some, nat_lt, reverse, slice_get}
use Rattle.std.specs.Option.{option_and_then, option_copied}
use Rattle.std.specs.Str.{bytes_eq}
use Rattle.std.proofs.lemmas.Bool.{ltb-true}
use Rattle.std.proofs.lemmas.Bool.Decides.{nat_tests}
use Rattle.std.proofs.lemmas.List.{get_or_append_left, get_or_push, length-append, reverse-append}
use Rattle.std.proofs.lemmas.Option.{slice_get-get_or, slice_get_past, slice_get_read}
use Rattle.ls_report.specs.Events.{Text}
use Rattle.ls_report.specs.Front.{IsIndexed, place_of}
use Rattle.ls_report.specs.declared.front.Front.{Front}
use Rattle.ls_report.specs.declared.history.NamedEvent.{NamedEvent}

-- what `get` of a slice gives
pub looked_up : {X : Type 0} (xs : List X) (i : ℕ) (o : Option (Bor X)) →
    is_some o ≡ nat_lt i (length xs) →
    IfSome o (λ x. x.now ≡ get_or xs i x.now)
    → option_copied o ≡ slice_get xs i
looked_up xs i None none read = sym (slice_get_past xs i (grind (arith, nat_tests)))
looked_up xs i (Some x) some read = sym (slice_get_read xs (length xs) i x.now refl (ltb-true i (length xs) (sym some))
    read)

at_end : {X : Type 0} (xs : List X) (x : X) → slice_get (xs ++ x ∷ []) (length xs) ≡ Some x
at_end xs x =
    slice_get_read (xs ++ x ∷ []) _ (length xs) x refl (omega (arith, length-append xs (x ∷ [])))
    (sym (get_or_push xs x x (length xs) refl))

in_front : {X : Type 0} (xs : List X) (x : X) (i : ℕ) → i < length xs → slice_get (xs ++ x ∷ []) i ≡ slice_get xs i
in_front xs x i lt =
    slice_get-get_or (xs ++ x ∷ []) i x (omega (arith, length-append xs (x ∷ [])))
    ∙ ap Some (get_or_append_left xs (x ∷ []) x i lt) ∙ sym (slice_get-get_or xs i x lt)

module _ {X : Type 0} (p : X → Bool) (xs : List X) (x : X) where
  found_last : find p (reverse (xs ++ x ∷ [])) ≡ cond (p x) (Some x) (find p (reverse xs))
  found_last = ap (find p) (reverse-append xs (x ∷ []))

  found_before : (o : Option ℕ) →
      IfSome o (λ i. i < length xs) →
      option_and_then (slice_get (xs ++ x ∷ [])) o ≡ option_and_then (slice_get xs) o
  found_before None k = refl
  found_before (Some i) k = in_front xs x i k

  found_after : (o : Option ℕ) → IfSome o (λ i. i < length xs) → option_and_then (slice_get xs) o ≡ find p (reverse xs)
      → option_and_then (slice_get (xs ++ x ∷ [])) (cond (p x) (Some (length xs)) o) ≡ find p (reverse (xs ++ x ∷ []))
  found_after o k e = by (p x) ∙ sym found_last
    where
      by : (b : Bool) →
          option_and_then (slice_get (xs ++ x ∷ [])) (cond b (Some (length xs)) o) ≡ cond b (Some x)
          (find p (reverse xs))
      by true = at_end xs x
      by false = found_before o k ∙ e

  within_after : (o : Option ℕ) →
      IfSome o (λ i. i < length xs) →
      IfSome (cond (p x) (Some (length xs)) o) (λ i. i < length (xs ++ x ∷ []))
  within_after o k = by (p x)
    where
      before : (o : Option ℕ) → IfSome o (λ i. i < length xs) → IfSome o (λ i. i < length (xs ++ x ∷ []))
      before None k = tt
      before (Some i) k = omega (arith, length-append xs (x ∷ []))

      by : (b : Bool) → IfSome (cond b (Some (length xs)) o) (λ i. i < length (xs ++ x ∷ []))
      by true = omega (arith, length-append xs (x ∷ []))
      by false = before o k

-- whether it is an event of the thread
abbrev is_of : Text → NamedEvent → Bool
is_of t e = bytes_eq e.thread.now t

-- the thread's place once e is pushed
abbrev pub place_after : Front → NamedEvent → Text → Option ℕ
place_after old e t = cond (is_of t e) (Some (length old.events.items)) (place_of old.places t)

-- the places are right after one more event
pub indexed_after : (old new : Front) (e : NamedEvent) → IsIndexed old → new.events.items ≡ old.events.items ++ e ∷ []
    → ((t : Text) → place_of new.places t ≡ place_after old e t) → IsIndexed new
indexed_after old new e h items place = record {
  last = λ t.
      ap (option_and_then (slice_get new.events.items)) (place t)
      ∙ subst (λ es. option_and_then (slice_get es) (place_after old e t) ≡ find (is_of t) (reverse es)) (sym items)
      (found_after (is_of t) old.events.items e (place_of old.places t) (h.within t) (h.last t));
  within = λ t.
      subst (λ o. IfSome o (λ i. i < length new.events.items)) (sym (place t))
      (subst (λ es. IfSome (place_after old e t) (λ i. i < length es)) (sym items)
      (within_after (is_of t) old.events.items e (place_of old.places t) (h.within t)));
}
