-- Elements that pass a test, and lists around an element.
use Rattle.std.proofs.lemmas.Option.{none-some}
use Rattle.std.proofs.Common.{◌≡◌, ◌⊎◌, inl, inr, ◌∙◌, ℕ, zero, suc, Bool, true, false, cond, List}
use Rattle.std.proofs.Common.{[]}
use Rattle.std.proofs.Common.{◌∷◌, ◌++◌, drop, Some, refl, sym, ap, subst}
use Rattle.std.proofs.Common.{Contains}
use Rattle.std.specs.Prelude.{slice_get, find}
use Rattle.std.specs.List.{list_any}
use Rattle.std.proofs.lemmas.Bool.{true≢false}
use Rattle.ls_report.specs.Events.{Event}
use Rattle.ls_serial.proofs.Lists.{some_is}
use Rattle.ls_linearizable.proofs.There.{any_there, there_cases, there_first, there_later, there_not}

-- the only element that passes the test is found
pub found_only : {A : Type 0} (test : A → Bool) (xs : List A) (c : A) → Contains xs c → test c ≡ true →
    ((x : A) → Contains xs x → test x ≡ true → x ≡ c) → find test xs ≡ Some c
found_only test [] c there is only = absurd (there_not c there)
found_only test (x ∷ xs) c there is only =
    by_test (test x) refl (λ inside. found_only test xs c inside is (λ y within. only y (there_later x y xs within)))
    (there_cases x c xs there)
  where
    by_test : (b : Bool) → test x ≡ b → (Contains xs c → find test xs ≡ Some c) → (x ≡ c) ⊎ Contains xs c →
        cond b (Some x) (find test xs) ≡ Some c
    by_test true passes more place = ap Some (only x (there_first x xs) passes)
    by_test false fails more (inl same) = absurd (true≢false (sym is ∙ ap test (sym same) ∙ fails))
    by_test false fails more (inr inside) = more inside

-- what is found is in the list
pub found_there : {A : Type 0} (test : A → Bool) (xs : List A) (c : A) → find test xs ≡ Some c → Contains xs c
found_there test [] c e = absurd (none-some _ e)
found_there test (x ∷ xs) c e = by_test (test x) e (found_there test xs c)
  where
    by_test : (b : Bool) → cond b (Some x) (find test xs) ≡ Some c → (find test xs ≡ Some c → Contains xs c) →
        Contains (x ∷ xs) c
    by_test true e more = subst (Contains (x ∷ xs)) (some_is e) (there_first x xs)
    by_test false e more = there_later x c xs (more e)

-- a list is parted at an element of it
pub split_there : {A : Type 0} (xs : List A) (c : A) → Contains xs c → (front : List A) × (back : List A)
    × (xs ≡ front ++ c ∷ back)
split_there [] c there = absurd (there_not c there)
split_there (x ∷ xs) c there = by_place (there_cases x c xs there) (split_there xs c)
  where
    by_place : (x ≡ c) ⊎ Contains xs c →
        (Contains xs c → (front : List _) × (back : List _) × (xs ≡ front ++ c ∷ back)) →
        (front : List _) × (back : List _) × (x ∷ xs ≡ front ++ c ∷ back)
    by_place (inl same) more = ([], xs, ap (λ z. z ∷ xs) same)
    by_place (inr inside) more = let r = more inside in (x ∷ r.0, r.1, ap (λ l. x ∷ l) r.2)

-- the element at which a list is parted is in it
pub there_split : {A : Type 0} (front back : List A) (c : A) → Contains (front ++ c ∷ back) c
there_split [] back c = there_first c back
there_split (x ∷ front) back c = there_later x c (front ++ c ∷ back) (there_split front back c)

-- what is left from a place on begins with the event there
pub drop_is : (xs : List Event) (n : ℕ) (y : Event) → slice_get xs n ≡ Some y → (rest : List Event)
    × (drop n xs ≡ y ∷ rest)
drop_is [] n y there = absurd (none-some _ there)
drop_is (x ∷ xs) zero y there = (xs, ap (λ z. z ∷ xs) (some_is there))
drop_is (x ∷ xs) (suc n) y there = drop_is xs n y there

-- no element passes the test
pub any_false : {A : Type 0} (t : A → Bool) (xs : List A) → ((x : A) → Contains xs x → t x ≡ true → ⊥) →
    list_any t xs ≡ false
any_false t xs none = by_any (list_any t xs) refl
  where
    by_any : (b : Bool) → list_any t xs ≡ b → list_any t xs ≡ false
    by_any true is = let r = any_there t xs is in absurd (none r.0 r.1 r.2)
    by_any false is = is
