-- The true places of an array, by the items that were written.
use Rattle.std.proofs.Common.{◌≡◌, ◌≤◌, ◌<◌, ◌+◌, ◌∙◌, ◌&&◌, ℕ, zero, suc, ap, refl, Bool, true, false, cond, List, []}
use Rattle.std.proofs.Common.{◌∷◌, arith}
use Rattle.std.specs.Prelude.{filter, unwrap_or, nat_lt, None}
use Rattle.std.specs.List.{range_with_len, AllByRecursion}
use Rattle.std.specs.List.Sorted.{IsStrictlySortedBy}
use Rattle.std.specs.declared.cmp.Ordering.TheVariants.{Less}
use Rattle.std.specs.Ordering.{nat_cmp}
use Rattle.std.specs.Map.{keys_of, lookup}
use Rattle.std.specs.BTreeMap.{is_at, BTreeMap, IsOrdered}
use Rattle.ls_events.specs.declared.value.Value.{Value}
use Rattle.ls_events.specs.declared.value.Value.TheVariants.{Boolean}
use Rattle.ls_meaning.specs.Values.{truth_of}
use Rattle.ls_report.specs.Events.{Text}
use Rattle.ls_state.specs.Parts.{places_text, more_places, true_places}
use Rattle.std.proofs.lemmas.Bool.Decides.{nat_tests}
use Rattle.ls_source_store.specs.SeenThing.{items_of}

abbrev pub is_place : ℕ → ℕ × Value → Bool
is_place size e = nat_lt e.0 size && truth_of e.1

-- the places among the entries
abbrev pub places_in : ℕ → List (ℕ × Value) → List ℕ
places_in size es = keys_of (filter (is_place size) es)

-- the places that are left, after some or none
abbrev pub listed : Bool → List ℕ → Text
listed true is = more_places is
listed false is = places_text is

-- what the entries have at a place
abbrev pub at_place : List (ℕ × Value) → ℕ → Value
at_place es i = unwrap_or (lookup (is_at (nat_cmp i)) es) (Boolean false)

-- the keys are no less than a
abbrev pub IsFrom : ℕ → List (ℕ × Value) → Type 0
IsFrom a es = AllByRecursion (λ k. a ≤ k) (keys_of es)

no_place : (a size : ℕ) (es : List (ℕ × Value)) → size ≤ a → IsFrom a es → places_in size es ≡ []
no_place a size [] small from = refl
no_place a size (e ∷ es) small from =
    let far : size ≤ e.0 = omega (arith, from.0) in
    let out : nat_lt e.0 size ≡ false = grind (arith, nat_tests) in
    rw out (no_place a size es small from.1)

all_above : (a : ℕ) (ks : List ℕ) → AllByRecursion (λ y. nat_cmp a y ≡ Less) ks → AllByRecursion (λ k. a + 1 ≤ k) ks
all_above a [] h = tt
all_above a (k ∷ ks) h = (grind (arith, h.0), all_above a ks h.1)

-- nothing below the keys is there
none_below : (i : ℕ) (es : List (ℕ × Value)) → IsFrom (i + 1) es → lookup (is_at (nat_cmp i)) es ≡ None
none_below i [] from = refl
none_below i (e ∷ es) from =
    let apart : is_at (nat_cmp i) e.0 ≡ false = grind (arith, from.0) in
    rw apart (none_below i es from.1)

from_less : (a b : ℕ) (es : List (ℕ × Value)) → a ≤ b → IsFrom b es → IsFrom a es
from_less a b [] le from = tt
from_less a b (e ∷ es) le from = (omega (arith, from.0), from_less a b es le from.1)

-- keys in order, each above the first
above_first : (e : ℕ × Value) (es : List (ℕ × Value)) →
    IsStrictlySortedBy nat_cmp (keys_of (e ∷ es)) →
    IsFrom (e.0 + 1) es
unfolding IsStrictlySortedBy
above_first e es sorted = all_above e.0 (keys_of es) sorted.0

sorted_tail : (e : ℕ × Value) (es : List (ℕ × Value)) →
    IsStrictlySortedBy nat_cmp (keys_of (e ∷ es)) →
    IsStrictlySortedBy nat_cmp (keys_of es)
unfolding IsStrictlySortedBy
sorted_tail e es sorted = sorted.1

one_key : (b : Bool) (a : ℕ) (e : ℕ × Value) (es : List (ℕ × Value)) (rest : List ℕ) →
    e.0 ≡ a →
    keys_of es ≡ rest →
    keys_of (cond b (e ∷ es) es) ≡ cond b (a ∷ rest) rest
one_key true a e es rest at same = cc
one_key false a e es rest at same = same

-- an entry below a place isn't at it
past_entry : (i : ℕ) (e : ℕ × Value) (es : List (ℕ × Value)) → e.0 + 1 ≤ i → at_place (e ∷ es) i ≡ at_place es i
past_entry i e es above =
    let miss : is_at (nat_cmp i) e.0 ≡ false = grind arith in
    rw miss refl

-- what one place more adds, where the entries begin there or later
one_place : (size a : ℕ) (e : ℕ × Value) (es : List (ℕ × Value)) (rest : List ℕ) (v : Value) →
    a < size → a ≤ e.0 → v ≡ at_place (e ∷ es) a →
    (e.0 ≡ a → places_in size es ≡ rest) → (a + 1 ≤ e.0 → places_in size (e ∷ es) ≡ rest) → IsFrom (e.0 + 1) es →
    places_in size (e ∷ es) ≡ cond (truth_of v) (a ∷ rest) rest
one_place size a e es rest v within from same here later above = by_test (is_at (nat_cmp a) e.0) refl
  where
    by_test : (b : Bool) → is_at (nat_cmp a) e.0 ≡ b → places_in size (e ∷ es) ≡ cond (truth_of v) (a ∷ rest) rest
    by_test true hit =
        let at : e.0 ≡ a = grind arith in
        let inside : nat_lt e.0 size ≡ true = grind (arith, nat_tests) in
        let v_is : v ≡ e.1 = same ∙ rw hit refl in
        rw (inside, v_is) (one_key (truth_of e.1) a e (filter (is_place size) es) rest at (here at))
    by_test false miss =
        let apart : a + 1 ≤ e.0 = grind arith in
        let v_is : v ≡ Boolean false = same ∙ ap (λ o. unwrap_or o (Boolean false))
        (none_below a (e ∷ es) (apart, from_less (a + 1) (e.0 + 1) es (omega arith) above)) in
        rw v_is (later apart)

pub places_are : (n a : ℕ) (es : List (ℕ × Value)) (f : ℕ → Value) →
    IsStrictlySortedBy nat_cmp (keys_of es) →
    IsFrom a es →
    ((i : ℕ) → a ≤ i → f i ≡ at_place es i) →
    (size : ℕ) →
    size ≡ a + n →
    places_in size es ≡ filter (λ i. truth_of (f i)) (range_with_len a n)
places_are zero a es f sorted from same size is = no_place a size es (omega arith) from
places_are (suc n) a [] f sorted from same size is =
    let false_here : truth_of (f a) ≡ false = ap truth_of (same a (omega arith)) in
    rw false_here (places_are n (a + 1) [] f sorted tt (λ i h. same i (omega arith)) size (omega arith))
places_are (suc n) a (e ∷ es) f sorted from same size is =
    let above = above_first e es sorted in
    one_place size a e es (filter (λ i. truth_of (f i)) (range_with_len (a + 1) n)) (f a) (omega arith) from.0
    (same a (omega arith))
    (λ at. places_are n (a + 1) es f (sorted_tail e es sorted) (from_less (a + 1) (e.0 + 1) es (omega arith) above)
    (λ i h. same i (omega arith) ∙ past_entry i e es (omega arith)) size (omega arith))
    (λ less. places_are n (a + 1) (e ∷ es) f sorted (less, from_less (a + 1) (e.0 + 1) es (omega arith) above)
    (λ i h. same i (omega arith)) size (omega arith))
    above

pub places_of_map : (size : ℕ) (m : BTreeMap ℕ Value) →
    IsOrdered nat_cmp m →
    places_in size m.entries ≡ true_places size (items_of m)
places_of_map size m sorted = places_are size 0 m.entries (items_of m) sorted (from_none m.entries) (λ i h. refl) size
    (omega arith)
  where
    from_none : (es : List (ℕ × Value)) → IsFrom 0 es
    from_none [] = tt
    from_none (e ∷ es) = (omega arith, from_none es)
