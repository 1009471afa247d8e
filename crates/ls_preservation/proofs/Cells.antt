-- The cells that hold a store.
use Rattle.std.proofs.Common.{◌≡◌, ◌≢◌, ℕ, zero, suc, ◌+◌, ◌*◌, ◌<◌, ◌≤◌, ◌^◌, true, false, List, [], ◌∷◌, ◌++◌, length}
use Rattle.std.proofs.Common.{map, Some, refl, sym, ap, ◌∙◌, arith, append_assoc, length-append, append-nil, slice_get}
use Rattle.std.proofs.Common.{slice_set, nat_eq, if◌then◌else◌}
use Rattle.std.proofs.lemmas.List.{length-map}
use Rattle.std.proofs.lemmas.Bool.Decides.{nat_tests}
use Rattle.ls_events.specs.declared.value.Value.{Value}
use Rattle.ls_events.specs.declared.value.Value.TheVariants.{Int, Boolean, Reference, Pair}
use Rattle.ls_events.specs.declared.value.ValueType.{ValueType}
use Rattle.ls_events.specs.declared.value.ValueType.TheVariants as type
use Rattle.ls_meaning.specs.declared.sort.Sort.{Sort}
use Rattle.ls_meaning.specs.declared.sort.Sort.TheVariants.{ValueOf, NewOf, PairOf}
use Rattle.ls_meaning.specs.Store.{Hold, Free, HeldBy, Thing, Object, LockOf, Markable, Array}
use Rattle.ls_meaning.specs.Effect.{with_item}
use Rattle.ls_code.specs.Words.{bool_word, pair_word}
use Rattle.ls_preservation.specs.InWords.{written}
use Rattle.ls_preservation.specs.Sorts.{Refers, HasSortBy, HasType}
use Rattle.ls_preservation.specs.Same.{size_of, total}
use Rattle.ls_preservation.proofs.Lists.{get_left, get_right, set_left, set_right, get_within}

-- no two references become one
abbrev pub IsOneToOne : (ℕ → ℕ) → Type 0
IsOneToOne ρ = (m n : ℕ) → ρ m ≡ ρ n → m ≡ n

-- how far the n-th thing starts after the first
abbrev pub offset : List ℕ → ℕ → ℕ
offset [] n = n
offset (s ∷ ss) zero = 0
offset (s ∷ ss) (suc n) = s + offset ss n

-- how many cells each thing has
abbrev pub sizes_of : List Thing → List ℕ
sizes_of [] = []
sizes_of (o ∷ os) = size_of o ∷ sizes_of os

-- the address of thing n, after the cells of this many names
abbrev pub address : ℕ → List ℕ → ℕ → ℕ
address names ss zero = 0
address names ss (suc n) = suc (names + offset ss n)

-- the first n values of a function
abbrev pub listed : {A : Type 0} → ℕ → (ℕ → A) → List A
listed zero f = []
listed (suc n) f = f 0 ∷ listed n (λ i. f (suc i))

-- the word of a lock that a thread owns
abbrev pub held_word : ℕ → ℕ → ℕ
held_word owner holds = (owner + 1) * 2 ^ 32 + holds

-- the word of a lock or of a monitor
abbrev pub hold_word : Hold → ℕ
hold_word Free = 0
hold_word (HeldBy owner holds) = held_word owner holds

-- the words in the cells of a thing
abbrev pub cells_of : (ℕ → ℕ) → Thing → List ℕ
cells_of ρ (Object monitor vs) = hold_word monitor ∷ map (written ρ) vs
cells_of ρ (LockOf hold) = hold_word hold ∷ []
cells_of ρ (Markable v) = written ρ v ∷ []
cells_of ρ (Array size items) = size ∷ listed size (λ i. written ρ (items i))

-- the words in the cells of all things, one after another
abbrev pub laid : (ℕ → ℕ) → List Thing → List ℕ
laid ρ [] = []
laid ρ (o ∷ os) = cells_of ρ o ++ laid ρ os

-- all the cells: the names, and the things
abbrev pub all_cells : (ℕ → ℕ) → List Value → List Thing → List ℕ
all_cells ρ vs os = map (written ρ) vs ++ laid ρ os

-- listed values
pub length_listed : {A : Type 0} → (n : ℕ) (f : ℕ → A) → length (listed n f) ≡ n
length_listed zero f = refl
length_listed (suc n) f = ap suc (length_listed n (λ i. f (suc i)))

-- the i-th of listed items
pub get_listed : {A : Type 0} → (n : ℕ) (f : ℕ → A) (i : ℕ) → i < n → slice_get (listed n f) i ≡ Some (f i)
get_listed zero f i h = absurd (omega arith)
get_listed (suc n) f zero h = refl
get_listed (suc n) f (suc i) h = get_listed n (λ j. f (suc j)) i (omega arith)

pub listed_alike : {A : Type 0} → (n : ℕ) (f g : ℕ → A) → ((i : ℕ) → i < n → f i ≡ g i) → listed n f ≡ listed n g
listed_alike zero f g h = refl
listed_alike (suc n) f g h = ap (λ x. x ∷ listed n (λ i. f (suc i))) (h 0 (omega arith)) ∙
    ap (λ l. g 0 ∷ l) (listed_alike n (λ i. f (suc i)) (λ i. g (suc i)) (λ i l. h (suc i) (omega arith)))

-- listed items with another item at an index
pub set_listed : {A : Type 0} →
    (n : ℕ) (f g : ℕ → A) (i : ℕ) (x : A) →
    g i ≡ x →
    ((j : ℕ) → j ≢ i → g j ≡ f j) →
    i < n →
    listed n g ≡ slice_set (listed n f) i x
set_listed zero f g i x e others h = absurd (omega arith)
set_listed (suc n) f g zero x e others h = ap (λ y. y ∷ listed n (λ j. g (suc j))) e ∙
    ap (λ l. x ∷ l) (listed_alike n (λ j. g (suc j)) (λ j. f (suc j))
    (λ j l. others (suc j) (λ z. absurd (omega arith))))
set_listed (suc n) f g (suc i) x e others h =
    ap (λ y. y ∷ listed n (λ j. g (suc j))) (others 0 (λ z. absurd (omega arith))) ∙
    ap (λ l. f 0 ∷ l) (set_listed n (λ j. f (suc j)) (λ j. g (suc j)) i x e
    (λ j d. others (suc j) (λ z. d (omega arith))) (omega arith))

-- the item that was put at an index
pub item_same : (items : ℕ → Value) (i : ℕ) (v : Value) → with_item items i v i ≡ v
item_same items i v = let e : nat_eq i i ≡ true = grind (arith, nat_tests) in ap (λ b. if b then v else items i) e

-- the items at the other indices
pub item_other : (items : ℕ → Value) (i : ℕ) (v : Value) (j : ℕ) → j ≢ i → with_item items i v j ≡ items j
item_other items i v j d = let e : nat_eq j i ≡ false = grind (arith, nat_tests) in ap (λ b. if b then v else items j) e

-- sizes and offsets
pub size_pos : (o : Thing) → 1 ≤ size_of o
size_pos (Object m vs) = omega arith
size_pos (LockOf h) = omega arith
size_pos (Markable v) = omega arith
size_pos (Array n items) = omega arith

offset_one : (os : List Thing) (m n : ℕ) → offset (sizes_of os) m ≡ offset (sizes_of os) n → m ≡ n
offset_one [] m n e = e
offset_one (o ∷ os) zero zero e = refl
offset_one (o ∷ os) zero (suc n) e = absurd (omega (arith, size_pos o))
offset_one (o ∷ os) (suc m) zero e = absurd (omega (arith, size_pos o))
offset_one (o ∷ os) (suc m) (suc n) e = ap suc (offset_one os m n (omega arith))

-- no two things have one address
pub address_one : (names : ℕ) (os : List Thing) → IsOneToOne (address names (sizes_of os))
address_one names os zero zero e = refl
address_one names os zero (suc n) e = absurd (omega arith)
address_one names os (suc m) zero e = absurd (omega arith)
address_one names os (suc m) (suc n) e = ap suc (offset_one os m n (omega arith))

offset-append : (os more : List Thing) (n : ℕ) →
    n ≤ length os →
    offset (sizes_of (os ++ more)) n ≡ offset (sizes_of os) n
offset-append [] [] n h = refl
offset-append [] (o ∷ more) zero h = refl
offset-append [] (o ∷ more) (suc n) h = absurd (omega arith)
offset-append (o ∷ os) more zero h = refl
offset-append (o ∷ os) more (suc n) h = ap (λ k. size_of o + k) (offset-append os more n (omega arith))

-- if a thing keeps its size, all sizes stay
pub sizes-set : (os : List Thing) (k : ℕ) (o o' : Thing) →
    slice_get os k ≡ Some o →
    size_of o' ≡ size_of o →
    sizes_of (slice_set os k o') ≡ sizes_of os
sizes-set [] k o o' h e = refl
sizes-set (x ∷ os) zero o o' h e = let e1 : x ≡ o = cc in ap (λ s. s ∷ sizes_of os) (e ∙ ap size_of (sym e1))
sizes-set (x ∷ os) (suc k) o o' h e = ap (λ l. size_of x ∷ l) (sizes-set os k o o' h e)

offset_end : (os : List Thing) → offset (sizes_of os) (length os) ≡ total os
offset_end [] = refl
offset_end (o ∷ os) = ap (λ k. size_of o + k) (offset_end os)

-- the length of what is laid out
length_cells : (ρ : ℕ → ℕ) (o : Thing) → length (cells_of ρ o) ≡ size_of o
length_cells ρ (Object m vs) = omega (arith, length-map vs (written ρ))
length_cells ρ (LockOf h) = refl
length_cells ρ (Markable v) = refl
length_cells ρ (Array n items) = omega (arith, length_listed n (λ i. written ρ (items i)))

pub length_laid : (ρ : ℕ → ℕ) (os : List Thing) → length (laid ρ os) ≡ total os
length_laid ρ [] = refl
length_laid ρ (o ∷ os) = omega (arith, length-append (cells_of ρ o) (laid ρ os), length_cells ρ o, length_laid ρ os)

-- a cell of the k-th thing
laid_get : (ρ : ℕ → ℕ) (os : List Thing) (k i n : ℕ) (o : Thing) →
    slice_get os k ≡ Some o →
    i < size_of o →
    n ≡ offset (sizes_of os) k + i →
    slice_get (laid ρ os) n ≡ slice_get (cells_of ρ o) i
laid_get ρ [] k i n o h l e = cc
laid_get ρ (x ∷ os) zero i n o h l e =
    let e1 : x ≡ o = cc in let e2 : n ≡ i = omega arith in
    ap (λ z. slice_get (cells_of ρ z ++ laid ρ os) n) e1 ∙ ap (λ j. slice_get (cells_of ρ o ++ laid ρ os) j) e2 ∙
    get_left (cells_of ρ o) (laid ρ os) i (omega (arith, length_cells ρ o))
laid_get ρ (x ∷ os) (suc k) i n o h l e =
    get_right (cells_of ρ x) (laid ρ os) n (offset (sizes_of os) k + i) (omega (arith, length_cells ρ x)) ∙
    laid_get ρ os k i _ o h l refl

laid_set : (ρ : ℕ → ℕ) (os : List Thing) (k i n : ℕ) (o o' : Thing) (w : ℕ) →
    slice_get os k ≡ Some o →
    i < size_of o →
    cells_of ρ o' ≡ slice_set (cells_of ρ o) i w →
    n ≡ offset (sizes_of os) k + i →
    laid ρ (slice_set os k o') ≡ slice_set (laid ρ os) n w
laid_set ρ [] k i n o o' w h l c e = cc
laid_set ρ (x ∷ os) zero i n o o' w h l c e =
    let e1 : o ≡ x = cc in let e2 : i ≡ n = omega arith in
    ap (λ z. z ++ laid ρ os) c ∙ sym (set_left (cells_of ρ o) (laid ρ os) i w (omega (arith, length_cells ρ o))) ∙
    ap (λ z. slice_set (cells_of ρ z ++ laid ρ os) i w) e1 ∙ ap (λ j. slice_set (cells_of ρ x ++ laid ρ os) j w) e2
laid_set ρ (x ∷ os) (suc k) i n o o' w h l c e =
    ap (λ z. cells_of ρ x ++ z) (laid_set ρ os k i _ o o' w h l c refl) ∙
    sym (set_right (cells_of ρ x) (laid ρ os) n (offset (sizes_of os) k + i) w (omega (arith, length_cells ρ x)))

-- the cells of one more thing come last
pub laid-append : (ρ : ℕ → ℕ) (os : List Thing) (o : Thing) → laid ρ (os ++ o ∷ []) ≡ laid ρ os ++ cells_of ρ o
laid-append ρ [] o = simp append-nil
laid-append ρ (x ∷ os) o = ap (λ z. cells_of ρ x ++ z) (laid-append ρ os o) ∙
    sym (append_assoc (cells_of ρ x) (laid ρ os) (cells_of ρ o))

pub length_names : (ρ : ℕ → ℕ) (vs : List Value) → length (map (written ρ) vs) ≡ length vs
length_names ρ vs = length-map vs (written ρ)

-- the names and the things take this many cells
pub length_all : (ρ : ℕ → ℕ) (vs : List Value) (os : List Thing) → length (all_cells ρ vs os) ≡ length vs + total os
length_all ρ vs os = omega (arith, length-append (map (written ρ) vs) (laid ρ os), length_names ρ vs, length_laid ρ os)

-- where in all cells a cell of a thing is
pub cells_get : (ρ : ℕ → ℕ) (vs : List Value) (os : List Thing) (k i : ℕ) (o : Thing) →
    slice_get os k ≡ Some o →
    i < size_of o →
    slice_get (all_cells ρ vs os) (length vs + offset (sizes_of os) k + i) ≡ slice_get (cells_of ρ o) i
cells_get ρ vs os k i o h l =
    get_right (map (written ρ) vs) (laid ρ os) _ (offset (sizes_of os) k + i) (omega (arith, length_names ρ vs)) ∙
    laid_get ρ os k i _ o h l refl

-- if a cell of a thing changes, one of all cells changes
pub cells_set : (ρ : ℕ → ℕ) (vs : List Value) (os : List Thing) (k i : ℕ) (o o' : Thing) (w : ℕ) →
    slice_get os k ≡ Some o →
    i < size_of o →
    cells_of ρ o' ≡ slice_set (cells_of ρ o) i w →
    all_cells ρ vs (slice_set os k o') ≡ slice_set (all_cells ρ vs os) (length vs + offset (sizes_of os) k + i) w
cells_set ρ vs os k i o o' w h l c =
    ap (λ z. map (written ρ) vs ++ z) (laid_set ρ os k i _ o o' w h l c refl) ∙
    sym (set_right (map (written ρ) vs) (laid ρ os) _ (offset (sizes_of os) k + i) w
    (omega (arith, length_names ρ vs)))

-- a cell is within all cells
pub cells_within : (ρ : ℕ → ℕ) (vs : List Value) (os : List Thing) (k i : ℕ) (o : Thing) →
    slice_get os k ≡ Some o →
    i < size_of o →
    length vs + offset (sizes_of os) k + i < length (all_cells ρ vs os)
cells_within ρ vs os k i o h l =
    let r = within os k i o h l in omega (arith, length_all ρ vs os)
  where
    within : (os : List Thing) (k i : ℕ) (o : Thing) →
        slice_get os k ≡ Some o →
        i < size_of o →
        offset (sizes_of os) k + i < total os
    within [] k i o h l = cc
    within (x ∷ os) zero i o h l = let e1 : o ≡ x = cc in let e2 : size_of o ≡ size_of x = ap size_of e1 in omega arith
    within (x ∷ os) (suc k) i o h l = let r = within os k i o h l in omega arith

-- a new thing moves no thing
pub address-append : (names : ℕ) (os more : List Thing) (n : ℕ) →
    n ≤ suc (length os) →
    address names (sizes_of os) n ≡ address names (sizes_of (os ++ more)) n
address-append names os more zero h = refl
address-append names os more (suc n) h = ap (λ k. suc (names + k)) (sym (offset-append os more n (omega arith)))

-- the next thing comes after all cells
pub address_new : (ρ : ℕ → ℕ) (vs : List Value) (os : List Thing) →
    address (length vs) (sizes_of os) (suc (length os)) ≡ suc (length (all_cells ρ vs os))
address_new ρ vs os = ap suc (omega (arith, offset_end os, length_all ρ vs os))

-- how far things reach
pub things_fit : (os : List Thing) → length os ≤ total os
things_fit [] = omega arith
things_fit (o ∷ os) = omega (arith, things_fit os, size_pos o)

-- each thing begins within the cells of all things
pub offset_below : (os : List Thing) (k : ℕ) → k < length os → offset (sizes_of os) k < total os
offset_below [] k h = absurd (omega arith)
offset_below (o ∷ os) zero h = omega (arith, size_pos o)
offset_below (o ∷ os) (suc k) h = let r = offset_below os k (omega arith) in omega arith

-- two renamings that agree on the things that are there
abbrev pub AgreeTo : ℕ → (ℕ → ℕ) → (ℕ → ℕ) → Type 0
AgreeTo k ρ ρ' = (n : ℕ) → n ≤ k → ρ n ≡ ρ' n

-- a reference of a type is null, or names a thing that there is
pub refers_within : (σ : List ValueType) (n : ℕ) (s : ValueType) → Refers σ n s → n ≤ length σ
refers_within σ zero s h = omega arith
refers_within σ (suc n) s h = get_within σ n s h

-- renamings that agree on the things that there are write a value alike
pub written_agree : (σ : List ValueType) (ρ ρ' : ℕ → ℕ) (v : Value) (s : ValueType) →
    AgreeTo (length σ) ρ ρ' →
    HasType σ v s →
    written ρ v ≡ written ρ' v
written_agree σ ρ ρ' (Int z) s a h = refl
written_agree σ ρ ρ' (Boolean b) s a h = refl
written_agree σ ρ ρ' (Reference n) (type.Class c) a h = a n (refers_within σ n (type.Class c) h)
written_agree σ ρ ρ' (Reference n) type.Lock a h = a n (refers_within σ n type.Lock h)
written_agree σ ρ ρ' (Reference n) type.BooleanArray a h = a n (refers_within σ n type.BooleanArray h)
written_agree σ ρ ρ' (Reference n) (type.Markable c) a h = a n (refers_within σ n (type.Markable c) h)
written_agree σ ρ ρ' _ _ a h = absurd h

-- the same of a pair
pub pair_agree : (σ : List ValueType) (ρ ρ' : ℕ → ℕ) (v : Value) (c : ℕ) →
    AgreeTo (length σ) ρ ρ' →
    HasSortBy (Refers σ) v (PairOf c) →
    written ρ v ≡ written ρ' v
pair_agree σ ρ ρ' (Pair n m) c a h = ap (λ k. pair_word k (bool_word m)) (a n (refers_within σ n (type.Class c) h))
pair_agree σ ρ ρ' _ c a h = absurd h

-- the same of a value of a sort
pub sort_agree : (σ : List ValueType) (ρ ρ' : ℕ → ℕ) (v : Value) (s : Sort) →
    AgreeTo (length σ) ρ ρ' →
    HasSortBy (Refers σ) v s →
    written ρ v ≡ written ρ' v
sort_agree σ ρ ρ' v (ValueOf t) a h = written_agree σ ρ ρ' v t a h
sort_agree σ ρ ρ' v (PairOf c) a h = pair_agree σ ρ ρ' v c a h
sort_agree σ ρ ρ' (Reference n) (NewOf t) a h = a n (refers_within σ n t h.1)
sort_agree σ ρ ρ' _ _ a h = absurd h
