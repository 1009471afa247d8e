-- What rows tell of a history, and that rows that tell the same, of each history once, are the same rows.
use Rattle.std.proofs.Common.{◌≡◌, ◌∙◌, ◌+◌, ◌≤◌, ℕ, zero, suc, min, Bool, true, false, cond, List, [], ◌∷◌, ◌++◌}
use Rattle.std.proofs.Common.{Option, Some, None, refl, sym, ap, subst, arith, IsPermutation}
use Rattle.std.specs.Str.{bytes_eq}
use Rattle.std.proofs.lemmas.List.Recursion.{is_sum_by}
use Rattle.std.proofs.lemmas.List.Sorted.{IsPermutation-refl, IsPermutation-cons, IsPermutation-trans}
use Rattle.std.proofs.lemmas.List.Sorted.{IsPermutation-middle, sum_by-IsPermutation}
use Rattle.ls_report.specs.Events.{Text}
use Rattle.ls_report.proofs.CutLemmas.{none_is, some_is}
use Rattle.ls_tallies.specs.Tallies.{added, gathered, gathered_onto, is_of, joined, Row, row}
use Rattle.ls_tallies.proofs.Places.{is_same, same_text, true_is}

-- a count and a least seed, or nothing
abbrev pub Said : Type 0
Said = Option (ℕ × ℕ)

abbrev pub said : ℕ → ℕ → Said
said n s = Some (n, s)

abbrev pub nothing : Said
nothing = None

abbrev pub both : Said → Said → Said
both None o = o
both (Some p) None = Some p
both (Some p) (Some q) = Some (p.0 + q.0, min p.1 q.1)

abbrev pub one : Text → Row → Said
one h r = cond (is_of h r) (said r.count r.seed) nothing

abbrev pub told : Text → List Row → Said
told h [] = None
told h (r ∷ rows) = both (one h r) (told h rows)

-- ---- the two put together

pub both_none : (o : Said) → both o None ≡ o
both_none None = refl
both_none (Some p) = refl

pub both_comm : (o p : Said) → both o p ≡ both p o
both_comm None None = refl
both_comm None (Some q) = refl
both_comm (Some p) None = refl
both_comm (Some p) (Some q) =
    let sum : p.0 + q.0 ≡ q.0 + p.0 = omega arith in
    let least : min p.1 q.1 ≡ min q.1 p.1 = omega arith in
    λ i. Some (sum i, least i)

pub both_assoc : (o p q : Said) → both (both o p) q ≡ both o (both p q)
both_assoc None p q = refl
both_assoc (Some o) None q = refl
both_assoc (Some o) (Some p) None = refl
both_assoc (Some o) (Some p) (Some q) =
    let sum : (o.0 + p.0) + q.0 ≡ o.0 + (p.0 + q.0) = omega arith in
    let least : min (min o.1 p.1) q.1 ≡ min o.1 (min p.1 q.1) = omega arith in
    λ i. Some (sum i, least i)

-- the last of three in the middle
turned : (o p q : Said) → both (both o q) p ≡ both (both o p) q
turned o p q = both_assoc o q p ∙ ap (both o) (both_comm q p) ∙ sym (both_assoc o p q)

pub none_both : (o p : Said) → both o p ≡ None → (o ≡ None) × (p ≡ None)
none_both None p e = (refl, e)
none_both (Some o) None e = absurd (none_is (sym e))
none_both (Some o) (Some p) e = absurd (none_is (sym e))

-- ---- rows of a history

one_is : (h : Text) (r : Row) → is_of h r ≡ true → one h r ≡ said r.count r.seed
one_is h r e = ap (λ b. cond b (said r.count r.seed) nothing) e

one_not : (h : Text) (r : Row) → is_of h r ≡ false → one h r ≡ None
one_not h r e = ap (λ b. cond b (said r.count r.seed) nothing) e

no_one : (h : Text) (r : Row) → one h r ≡ None → is_of h r ≡ false
no_one h r e = go (is_of h r) refl e
  where
    go : (b : Bool) → is_of h r ≡ b → cond b (said r.count r.seed) nothing ≡ None → is_of h r ≡ false
    go true p k = absurd (none_is (sym k))
    go false p k = p

-- a history isn't another's, either way
other : (r s : Row) → is_of r.history s ≡ false → is_of s.history r ≡ false
other r s e = go (is_of s.history r) refl
  where
    go : (b : Bool) → is_of s.history r ≡ b → is_of s.history r ≡ false
    go true p = true_is (sym (is_same s.history r.history (sym (same_text r.history s.history p))) ∙ e)
    go false p = p

one_itself : (r : Row) → one r.history r ≡ said r.count r.seed
one_itself r = one_is r.history r (is_same r.history r.history refl)

one_joined : (h : Text) (s r : Row) → is_of r.history s ≡ true → one h (joined s r) ≡ both (one h s) (one h r)
one_joined h s r e = go (is_of h s) refl (is_of h r) refl
  where
    same : s.history ≡ r.history
    same = same_text s.history r.history e

    alike : is_of h s ≡ is_of h r
    alike = ap (λ t. bytes_eq t h) same

    go : (b : Bool) → is_of h s ≡ b → (c : Bool) → is_of h r ≡ c
        → cond b (said (s.count + r.count) (min s.seed r.seed)) nothing ≡ both (cond b (said s.count s.seed) nothing)
        (cond c (said r.count r.seed) nothing)
    go true p true q = refl
    go true p false q = true_is (sym p ∙ alike ∙ q)
    go false p true q = true_is (sym q ∙ sym alike ∙ p)
    go false p false q = refl

-- ---- what is told of rows put together, and of rows gathered

pub told_append : (h : Text) (xs ys : List Row) → told h (xs ++ ys) ≡ both (told h xs) (told h ys)
told_append h [] ys = refl
told_append h (x ∷ xs) ys = ap (both (one h x)) (told_append h xs ys) ∙
    sym (both_assoc (one h x) (told h xs) (told h ys))

pub told_added : (h : Text) (rows : List Row) (r : Row) → told h (added rows r) ≡ both (told h rows) (one h r)
told_added h [] r = both_none (one h r)
told_added h (s ∷ rows) r = go (is_of r.history s) refl (told_added h rows r)
  where
    go : (b : Bool) → is_of r.history s ≡ b → told h (added rows r) ≡ both (told h rows) (one h r)
        → told h (cond b (joined s r ∷ rows) (s ∷ added rows r)) ≡ both (both (one h s) (told h rows)) (one h r)
    go true p ih = ap (λ o. both o (told h rows)) (one_joined h s r p) ∙ turned (one h s) (told h rows) (one h r)
    go false p ih = ap (both (one h s)) ih ∙ sym (both_assoc (one h s) (told h rows) (one h r))

told_gathered_onto : (h : Text) (rows more : List Row) →
    told h (gathered_onto rows more) ≡ both (told h rows) (told h more)
told_gathered_onto h rows [] = sym (both_none (told h rows))
told_gathered_onto h rows (r ∷ more) =
    told_gathered_onto h (added rows r) more ∙ ap (λ o. both o (told h more)) (told_added h rows r) ∙
    both_assoc (told h rows) (one h r) (told h more)

pub told_gathered : (h : Text) (rows : List Row) → told h (gathered rows) ≡ told h rows
told_gathered h rows = told_gathered_onto h [] rows

-- ---- each history once

abbrev pub Once : List Row → Type 0
Once [] = Unit {0}
Once (r ∷ rows) = (told r.history rows ≡ None) × Once rows

once_added : (rows : List Row) (r : Row) → Once rows → Once (added rows r)
once_added [] r o = (refl, tt)
once_added (s ∷ rows) r o = go (is_of r.history s) refl (once_added rows r o.1)
  where
    go : (b : Bool) → is_of r.history s ≡ b → Once (added rows r) → Once (cond b (joined s r ∷ rows) (s ∷ added rows r))
    go true p ih = (o.0, o.1)
    go false p ih =
        let none = told_added s.history rows r ∙ ap (λ x. both x (one s.history r)) o.0 ∙
        one_not s.history r (other r s p) in
        (none, ih)

once_gathered_onto : (rows more : List Row) → Once rows → Once (gathered_onto rows more)
once_gathered_onto rows [] o = o
once_gathered_onto rows (r ∷ more) o = once_gathered_onto (added rows r) more (once_added rows r o)

pub once_gathered : (rows : List Row) → Once (gathered rows)
once_gathered rows = once_gathered_onto [] rows tt

-- ---- one row taken out

data Picks (x : Row) : List Row → List Row → Type 0 where
  Here : (ys : List Row) → Picks x (x ∷ ys) ys
  There : (y : Row) (ys zs : List Row) → Picks x ys zs → Picks x (y ∷ ys) (y ∷ zs)

picked_told : (h : Text) (x : Row) (ys zs : List Row) → Picks x ys zs → told h ys ≡ both (one h x) (told h zs)
picked_told h x ys zs (Here rest) = refl
picked_told h x ys zs (There y us vs p) =
    ap (both (one h y)) (picked_told h x us vs p) ∙ sym (both_assoc (one h y) (one h x) (told h vs)) ∙
    ap (λ o. both o (told h vs)) (both_comm (one h y) (one h x))
    ∙ both_assoc (one h x) (one h y) (told h vs)

picked_order : (x : Row) (ys zs : List Row) → Picks x ys zs → IsPermutation (x ∷ zs) ys
picked_order x ys zs (Here rest) = IsPermutation-refl (x ∷ rest)
picked_order x ys zs (There y us vs p) =
    IsPermutation-trans (x ∷ y ∷ vs) (y ∷ x ∷ vs) (y ∷ us) (IsPermutation-middle (x ∷ []) y vs)
    (IsPermutation-cons y (x ∷ vs) us (picked_order x us vs p))

picked_once : (x : Row) (ys zs : List Row) → Picks x ys zs → Once ys → (told x.history zs ≡ None) × Once zs
picked_once x ys zs (Here rest) o = o
picked_once x ys zs (There y us vs p) o =
    let ih = picked_once x us vs p o.1 in
    let apart = none_both (one y.history x) (told y.history vs) (sym (picked_told y.history x us vs p) ∙ o.0) in
    let unlike = one_not x.history y (other y x (no_one y.history x apart.0)) in
    (ap (λ a. both a (told x.history vs)) unlike ∙ ih.0, (apart.1, ih.1))

pick : (h : Text) (n s : ℕ) (ys : List Row) → Once ys → told h ys ≡ said n s → (zs : List Row) × Picks (row h n s) ys zs
pick h n s [] o e = absurd (none_is e)
pick h n s (y ∷ ys) o e = go (is_of h y) refl (λ k. pick h n s ys o.1 k)
  where
    go : (b : Bool) →
        is_of h y ≡ b →
        (told h ys ≡ said n s → (zs : List Row) × Picks (row h n s) ys zs) →
        (zs : List Row) × Picks (row h n s) (y ∷ ys) zs
    go true p next =
        let same : y.history ≡ h = same_text y.history h p in
        let rest : told h ys ≡ None = subst (λ t. told t ys ≡ None) same o.0 in
        let here : said y.count y.seed ≡ said n s = sym (ap (λ a. both a (told h ys)) (one_is h y p) ∙
        ap (both (said y.count y.seed)) rest) ∙ e in
        let f : ℕ × ℕ → ℕ = λ q. q.0 in
        let g : ℕ × ℕ → ℕ = λ q. q.1 in
        let count : y.count ≡ n = ap f (some_is here) in
        let seed : y.seed ≡ s = ap g (some_is here) in
        let is : y ≡ row h n s = λ i. row (same i) (count i) (seed i) in
        (ys, subst (λ x. Picks x (y ∷ ys) ys) is (Here ys))
    go false p next =
        let rest = next (sym (ap (λ a. both a (told h ys)) (one_not h y p)) ∙ e) in
        (y ∷ rest.0, There y ys rest.0 rest.1)

-- without one row, of which the same is told
rest_same : (x : Row) (xs zs : List Row) →
    told x.history xs ≡ None →
    told x.history zs ≡ None →
    ((h : Text) → both (one h x) (told h xs) ≡ both (one h x) (told h zs))
    → (h : Text) → told h xs ≡ told h zs
rest_same x xs zs none none' same h = go (is_of h x) refl
  where
    go : (b : Bool) → is_of h x ≡ b → told h xs ≡ told h zs
    go true p =
        let is : x.history ≡ h = same_text x.history h p in
        subst (λ t. told t xs ≡ None) is none ∙ sym (subst (λ t. told t zs ≡ None) is none')
    go false p =
        let gone = one_not h x p in
        sym (ap (λ a. both a (told h xs)) gone) ∙ same h ∙ ap (λ a. both a (told h zs)) gone

first_told : (x : Row) (xs : List Row) → told x.history xs ≡ None → told x.history (x ∷ xs) ≡ said x.count x.seed
first_told x xs none = ap (λ a. both a (told x.history xs)) (one_itself x) ∙ ap (both (said x.count x.seed)) none

-- Rows of which the same is told, each history once, are the same in another order.
pub same_rows : (xs ys : List Row) → Once xs → Once ys → ((h : Text) → told h xs ≡ told h ys) → IsPermutation xs ys
same_rows [] [] o p same = IsPermutation-refl []
same_rows [] (y ∷ ys) o p same = absurd (none_is (same y.history ∙ first_told y ys p.0))
same_rows (x ∷ xs) ys o p same =
    let taken = pick x.history x.count x.seed ys p (sym (same x.history) ∙ first_told x xs o.0) in
    let zs = taken.0 in
    let once = picked_once x ys zs taken.1 p in
    let rest = rest_same x xs zs o.0 once.0 (λ h. same h ∙ picked_told h x ys zs taken.1) in
    IsPermutation-trans (x ∷ xs) (x ∷ zs) ys (IsPermutation-cons x xs zs (same_rows xs zs o.1 once.1 rest))
    (picked_order x ys zs taken.1)

-- ---- the same rows in another order

abbrev added_up : (Row → ℕ) → List Row → ℕ
added_up f [] = 0
added_up f (r ∷ rows) = f r + added_up f rows

up_moved : (f : Row → ℕ) (xs ys : List Row) → IsPermutation xs ys → added_up f ys ≡ added_up f xs
up_moved f xs ys moved =
    is_sum_by (added_up f) f refl (λ x rest. refl) ys ∙ sum_by-IsPermutation f xs ys moved ∙
    sym (is_sum_by (added_up f) f refl (λ x rest. refl) xs)

abbrev one_time : Text → Row → ℕ
one_time h r = cond (is_of h r) 1 0

abbrev its_count : Text → Row → ℕ
its_count h r = cond (is_of h r) r.count 0

abbrev its_seed : Text → Row → ℕ
its_seed h r = cond (is_of h r) r.seed 0

abbrev times : Text → List Row → ℕ
times h = added_up (one_time h)

abbrev counts : Text → List Row → ℕ
counts h = added_up (its_count h)

abbrev seeds : Text → List Row → ℕ
seeds h = added_up (its_seed h)

plus_nothing : (n : ℕ) → n ≡ 0 + n
plus_nothing n = omega arith

abbrev summed : ℕ → ℕ → ℕ → Said
summed zero n s = None
summed (suc m) n s = said n s

none_sums : (h : Text) (rows : List Row) →
    told h rows ≡ None →
    (times h rows ≡ 0) × (counts h rows ≡ 0) × (seeds h rows ≡ 0)
none_sums h [] e = (refl, refl, refl)
none_sums h (r ∷ rows) e =
    let apart = none_both (one h r) (told h rows) e in
    let ih = none_sums h rows apart.1 in
    go (is_of h r) (no_one h r apart.0) ih
  where
    go : (b : Bool) → b ≡ false → (times h rows ≡ 0) × (counts h rows ≡ 0) × (seeds h rows ≡ 0)
        → (cond b 1 0 + times h rows ≡ 0) × (cond b r.count 0 + counts h rows ≡ 0) ×
        (cond b r.seed 0 + seeds h rows ≡ 0)
    go true p ih = true_is p
    go false p ih = (omega (arith, ih.0), omega (arith, ih.1), omega (arith, ih.2))

sums_none : (h : Text) (rows : List Row) → times h rows ≡ 0 → told h rows ≡ None
sums_none h [] e = refl
sums_none h (r ∷ rows) e = go (is_of h r) (λ k. sums_none h rows k) e
  where
    go : (b : Bool) →
        (times h rows ≡ 0 → told h rows ≡ None) →
        cond b 1 0 + times h rows ≡ 0 →
        both (cond b (said r.count r.seed) nothing) (told h rows) ≡ None
    go true next k = absurd (omega arith)
    go false next k = next (omega (arith, k))

once_summed : (h : Text) (rows : List Row) →
    Once rows →
    (told h rows ≡ summed (times h rows) (counts h rows) (seeds h rows)) × (times h rows ≤ 1)
once_summed h [] o = (refl, omega arith)
once_summed h (r ∷ rows) o = go (is_of h r) refl (once_summed h rows o.1)
  where
    go : (b : Bool) →
        is_of h r ≡ b →
        (told h rows ≡ summed (times h rows) (counts h rows) (seeds h rows)) × (times h rows ≤ 1)
        → (both (cond b (said r.count r.seed) nothing) (told h rows) ≡ summed (cond b 1 0 + times h rows)
        (cond b r.count 0 + counts h rows) (cond b r.seed 0 + seeds h rows))
        × (cond b 1 0 + times h rows ≤ 1)
    go true p ih =
        let rest : told h rows ≡ None = subst (λ t. told t rows ≡ None) (same_text r.history h p) o.0 in
        let zero_sums = none_sums h rows rest in
        let t = zero_sums.0 in
        let count : r.count ≡ r.count + counts h rows = omega (arith, zero_sums.1) in
        let seed : r.seed ≡ r.seed + seeds h rows = omega (arith, zero_sums.2) in
        let left : both (said r.count r.seed) (told h rows) ≡ said r.count r.seed = ap (both (said r.count r.seed)) rest
        in
        let right : said r.count r.seed ≡ said (r.count + counts h rows) (r.seed + seeds h rows) = λ i.
        said (count i) (seed i) in
        let times_is : 1 ≡ 1 + times h rows = omega (arith, t) in
        (left ∙ right ∙ ap (λ m. summed m (r.count + counts h rows) (r.seed + seeds h rows)) times_is, omega arith)
    go false p ih =
        let low = ih.1 in (
          ih.0 ∙ (λ i. summed (plus_nothing (times h rows) i) (plus_nothing (counts h rows) i)
              (plus_nothing (seeds h rows) i)),
          omega arith,
        )

summed_once : (rows : List Row) → ((h : Text) → times h rows ≤ 1) → Once rows
summed_once [] most = tt
summed_once (r ∷ rows) most = (
  sums_none r.history rows (alone (is_of r.history r) (is_same r.history r.history refl) (most r.history)),
  summed_once rows (λ h. fewer (is_of h r) h (most h)),
)
  where
    alone : (b : Bool) → b ≡ true → cond b 1 0 + times r.history rows ≤ 1 → times r.history rows ≡ 0
    alone true p le = omega arith
    alone false p le = true_is (sym p)

    fewer : (b : Bool) (h : Text) → cond b 1 0 + times h rows ≤ 1 → times h rows ≤ 1
    fewer true h le = omega arith
    fewer false h le = omega arith

module _ (xs ys : List Row) (once : Once xs) (moved : IsPermutation xs ys) where
  pub once_moved : Once ys
  once_moved = summed_once ys (λ h. subst (λ n. n ≤ 1) (sym (up_moved (one_time h) xs ys moved))
      (once_summed h xs once).1)

  pub told_moved : (h : Text) → told h ys ≡ told h xs
  told_moved h =
      let t : times h ys ≡ times h xs = up_moved (one_time h) xs ys moved in
      let n : counts h ys ≡ counts h xs = up_moved (its_count h) xs ys moved in
      let s : seeds h ys ≡ seeds h xs = up_moved (its_seed h) xs ys moved in
      (once_summed h ys once_moved).0 ∙ (λ i. summed (t i) (n i) (s i)) ∙ sym (once_summed h xs once).0
