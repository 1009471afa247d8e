-- Items of a rising list of keys.
use Rattle.std.proofs.lemmas.Bool.Decides.{Decides-int_eq}
use Rattle.std.proofs.Common.{◌≡◌, ◌∙◌, ◌||◌, ℤ, Bool, true, false, List, [], ◌∷◌, ◌++◌}
use Rattle.std.proofs.Common.{refl, sym, ap, ap₂, subst, arith}
use Rattle.std.specs.Prelude.{int_lt, if◌then◌else◌}
use Rattle.std.specs.Ordering.{int_eq}
use Rattle.std.proofs.lemmas.Bool.{true≢false}
use Rattle.std.proofs.lemmas.Bool.Decides.{nat_tests}
use Rattle.ls_coarse_set.proofs.Chain.{greatest}

lt_trans : (x y z : ℤ) → int_lt x y ≡ true → int_lt y z ≡ true → int_lt x z ≡ true
lt_trans x y z a b = grind (arith, nat_tests)

lt_not_eq : (x y : ℤ) → int_lt x y ≡ true → int_eq x y ≡ false
lt_not_eq x y a = grind (arith, nat_tests)

gt_not_eq : (x y : ℤ) → int_lt y x ≡ true → int_eq x y ≡ false
gt_not_eq x y a = grind (arith, nat_tests)

le_lt : (x y z : ℤ) → int_lt x z ≡ false → int_lt x y ≡ true → int_lt z y ≡ true
le_lt x y z a b = grind (arith, nat_tests)

above_eq : (x z : ℤ) → int_lt x z ≡ false → int_eq x z ≡ false → int_lt z x ≡ true
above_eq x z a b = grind (arith, nat_tests)

eq_sym : (x y : ℤ) → int_eq x y ≡ int_eq y x
eq_sym x y = grind (arith, nat_tests)

-- ---- rising keys

abbrev pub Above : ℤ → List ℤ → Type 0
Above k [] = Unit {0}
Above k (j ∷ js) = int_lt k j ≡ true

-- each key is below the next
abbrev pub Rising : List ℤ → Type 0
Rising [] = Unit {0}
Rising (k ∷ ks) = Above k ks × Rising ks

-- each of them is below
abbrev pub AllBelow : ℤ → List ℤ → Type 0
AllBelow z [] = Unit {0}
AllBelow z (k ∷ ks) = (int_lt k z ≡ true) × AllBelow z ks

-- the first key that isn't below
abbrev pub first_key : List ℤ → ℤ
first_key [] = greatest
first_key (k ∷ ks) = k

-- whether the item is there
abbrev pub member : ℤ → List ℤ → Bool
member z [] = false
member z (k ∷ ks) = int_eq k z || member z ks

-- one key more that is below the item
pub below_more : (z : ℤ) (ks : List ℤ) (k : ℤ) → AllBelow z ks → int_lt k z ≡ true → AllBelow z (ks ++ k ∷ [])
below_more z [] k a lt = (lt, tt)
below_more z (j ∷ js) k a lt = (a.0, below_more z js k a.1 lt)

or_false : (a b : Bool) → a ≡ false → b ≡ false → (a || b) ≡ false
or_false a b p q = ap₂ (λ x y. x || y) p q

-- an item below all isn't there
not_there : (z : ℤ) (ks : List ℤ) → Above z ks → Rising ks → member z ks ≡ false
not_there z [] a r = refl
not_there z (k ∷ ks) a r = or_false (int_eq k z) (member z ks) (gt_not_eq k z a) (not_there z ks (by_rest ks r.0) r.1)
  where
    by_rest : (ks : List ℤ) → Above k ks → Above z ks
    by_rest [] b = tt
    by_rest (j ∷ js) b = lt_trans z k j a b

-- the keys at the back rise
pub rising_back : (xs ys : List ℤ) → Rising (xs ++ ys) → Rising ys
rising_back [] ys r = r
rising_back (x ∷ xs) ys r = rising_back xs ys r.1

-- what is passed isn't it
pub passed : (z : ℤ) (before rest : List ℤ) → AllBelow z before → member z (before ++ rest) ≡ member z rest
passed z [] rest a = refl
passed z (k ∷ ks) rest a = ap₂ (λ x y. x || y) (lt_not_eq k z a.0) (passed z ks rest a.1)

-- whether it is there is whether the first key that isn't below is it
pub found : (z : ℤ) (rest : List ℤ) → int_lt z greatest ≡ true → Rising rest → int_lt (first_key rest) z ≡ false →
    member z rest ≡ int_eq (first_key rest) z
found z [] small r ge = sym (gt_not_eq greatest z small)
found z (k ∷ ks) small r ge = by_test (int_eq k z) refl
  where
    by_test : (b : Bool) → int_eq k z ≡ b → (b || member z ks) ≡ b
    by_test true e = refl
    by_test false e = not_there z ks (later ks r.0) r.1
      where
        later : (ks : List ℤ) → Above k ks → Above z ks
        later [] a = tt
        later (j ∷ js) a = le_lt k j z ge a

-- ---- one more and one less

abbrev pub added : ℤ → ℤ → Bool → Bool
added z i was = if int_eq z i then true else was

abbrev pub removed : ℤ → ℤ → Bool → Bool
removed z i was = if int_eq z i then false else was

or_added : (a b : Bool) (z i : ℤ) → (a || added z i b) ≡ added z i (a || b)
or_added true b z i = by_test (int_eq z i)
  where
    by_test : (c : Bool) → true ≡ (if c then true else true)
    by_test true = refl
    by_test false = refl
or_added false b z i = refl

first_added : (c b : Bool) → (c || b) ≡ (if c then true else b)
first_added true b = refl
first_added false b = refl

-- an item more
pub adds_one : (z i : ℤ) (before rest : List ℤ) → member i (before ++ z ∷ rest) ≡ added z i (member i (before ++ rest))
adds_one z i [] rest = first_added (int_eq z i) (member i rest)
adds_one z i (k ∷ ks) rest =
    ap (λ b. int_eq k i || b) (adds_one z i ks rest) ∙ or_added (int_eq k i) (member i (ks ++ rest)) z i

-- an item less
pub removes_one : (z i : ℤ) (before rest : List ℤ) → AllBelow z before → Rising (z ∷ rest) →
    member i (before ++ rest) ≡ removed z i (member i (before ++ z ∷ rest))
removes_one z i [] rest a r = by_test (int_eq z i) refl
  where
    by_test : (c : Bool) → int_eq z i ≡ c → member i rest ≡ (if c then false else (c || member i rest))
    by_test true e = ap (λ x. member x rest) (sym ((Decides-int_eq z i).0 e)) ∙ not_there z rest r.0 r.1
    by_test false e = refl
removes_one z i (k ∷ ks) rest a r = by_test (int_eq z i) (int_eq k i) refl refl (removes_one z i ks rest a.1 r)
  where
    by_test : (c d : Bool) → int_eq z i ≡ c → int_eq k i ≡ d →
        member i (ks ++ rest) ≡ (if c then false else member i (ks ++ z ∷ rest)) →
        (d || member i (ks ++ rest)) ≡ (if c then false else (d || member i (ks ++ z ∷ rest)))
    by_test true true e f more = absurd
        (true≢false (sym f ∙ lt_not_eq k i (subst (λ x. int_lt k x ≡ true) ((Decides-int_eq z i).0 e) a.0)))
    by_test true false e f more = more
    by_test false d e f more = ap (λ b. d || b) more

-- ---- they stay rising

above_first : (k : ℤ) (ks rest more : List ℤ) → Above k (ks ++ rest) → (Above k rest → Above k more) →
    Above k (ks ++ more)
above_first k [] rest more a f = f a
above_first k (j ∷ js) rest more a f = a

-- with one key more between, keys rise
pub rising_added : (z : ℤ) (before rest : List ℤ) → AllBelow z before → Rising (before ++ rest) → Above z rest →
    Rising (before ++ z ∷ rest)
rising_added z [] rest a r above = (above, r)
rising_added z (k ∷ ks) rest a r above =
    (above_first k ks rest (z ∷ rest) r.0 (λ b. a.0), rising_added z ks rest a.1 r.1 above)

-- with one key less, keys rise
pub rising_removed : (z : ℤ) (before rest : List ℤ) → Rising (before ++ z ∷ rest) → Rising (before ++ rest)
rising_removed z [] rest r = r.1
rising_removed z (k ∷ ks) rest r =
    (above_first k ks (z ∷ rest) rest r.0 (by_rest rest (rising_back ks (z ∷ rest) r.1)), rising_removed z ks rest r.1)
  where
    by_rest : (rest : List ℤ) → Rising (z ∷ rest) → int_lt k z ≡ true → Above k rest
    by_rest [] q lt = tt
    by_rest (j ∷ js) q lt = lt_trans k z j lt q.0

-- the first key isn't below, and isn't it
pub above_rest : (z : ℤ) (rest : List ℤ) → int_lt (first_key rest) z ≡ false → int_eq (first_key rest) z ≡ false →
    Above z rest
above_rest z [] a b = tt
above_rest z (k ∷ ks) a b = above_eq k z a b
