-- The entries of a tally tell of its histories.
use Rattle.std.proofs.Common.{◌≡◌, ◌≢◌, ◌∙◌, ℕ, ◌+◌, ◌<◌, ◌≤◌, ◌^◌, ◌-◌, zero, suc, min, Bool, true, false, cond, List}
use Rattle.std.proofs.Common.{[], ◌∷◌, length, map, Option, Some, None, refl, sym, ap, subst, arith}
use Rattle.std.proofs.Common.{◌⊎◌, inl, inr}
use Rattle.std.specs.Prelude.{slice_get, All, sum_by, IsPermutation}
use Rattle.std.proofs.lemmas.List.Sums.{sum_by-cons}
use Rattle.std.proofs.lemmas.List.Sorted.{All-permutation, sum_by-IsPermutation}
use Rattle.std.proofs.lemmas.List.Elements.{All-head, All-tail}
use Rattle.std.proofs.lemmas.Bool.{cases_lt}
use Rattle.ls_batch.specs.declared.counting.Count.{Count}
use Rattle.ls_batch.specs.Numbers.{Key, key_of, plain_key}
use Rattle.ls_batch.specs.declared.tally.Entry.{Entry}
use Rattle.ls_batch.specs.Keys.{key_event}
use Rattle.ls_batch.specs.Rows.{entry_row}
use Rattle.ls_batch.specs.Tallies.{Has, History, IsTally, Row, row, Stands, Here, Elsewhere, Tells}
use Rattle.ls_batch.specs.Counted.{are_same, both, counted, one_of, runs_from}
use Rattle.ls_batch.proofs.Both.{count_of, counted_most, number}
use Rattle.ls_batch.proofs.Exact.{are_apart, are_itself, history_back, same_keys}
use Rattle.ls_batch.proofs.Standing.{stands_nowhere}

pub none_some : {X : Type 0} {x : X} {Y : Type 0} → None ≡ Some x → Y
none_some e = absurd cc

pub some_is : {X : Type 0} {x y : X} → Some x ≡ Some y → x ≡ y
some_is e = cc

-- ---- what is counted of consecutive runs, and what a row tells of them

-- the history whose key it is
abbrev pub of_key : Key → History
of_key k = map key_event k.events

-- the key is one of a history, with its number
abbrev IsRight : Key → Type 0
IsRight k = k ≡ key_of (of_key k)

is_of : (k : Key) (h : History) → are_same k (key_of h) ≡ true → h ≡ of_key k
is_of k h e = sym (history_back h) ∙ ap of_key (sym (same_keys k (key_of h) e))

is_right : (k : Key) (h : History) → are_same k (key_of h) ≡ true → IsRight k
is_right k h e = same_keys k (key_of h) e ∙ ap key_of (is_of k h e)

is_not : (k : Key) (h : History) → IsRight k → are_same k (key_of h) ≡ false → h ≢ of_key k
is_not k h right e = λ same. are_apart k (key_of h) e (right ∙ ap key_of (sym same))

some_right : (k : Key) (b : Bool) (o : Option Count) (first : ℕ) (c : Count) →
    both (cond b (one_of first) None) o ≡ Some c →
    (b ≡ true → IsRight k) →
    ((d : Count) → o ≡ Some d → IsRight k)
    → IsRight k
some_right k true o first c e here rest = here refl
some_right k false None first c e here rest = none_some e
some_right k false (Some d) first c e here rest = rest d refl

-- only keys with their numbers are counted
counted_right : (k : Key) (first : ℕ) (hs : List History) (c : Count) →
    counted (runs_from first hs) k ≡ Some c →
    IsRight k
counted_right k first [] c e = none_some e
counted_right k first (h ∷ hs) c e =
    some_right k (are_same k (key_of h)) (counted (runs_from (first + 1) hs) k) first c e (is_right k h)
    (λ d. counted_right k (first + 1) hs d)

-- no history is there that isn't counted
pub uncounted : (ks : Key) (first : ℕ) (hs : List History) → IsRight ks → counted (runs_from first hs) ks ≡ None
    → (i : ℕ) (g : History) → slice_get hs i ≡ Some g → g ≢ of_key ks
uncounted ks first [] right e i g at = none_some at
uncounted ks first (h ∷ hs) right e i g at = go (are_same ks (key_of h)) refl (uncounted ks (first + 1) hs right) e i at
  where
    some_first : (o : Option Count) → both (one_of first) o ≡ None → g ≢ of_key ks
    some_first None k = none_some (sym k)
    some_first (Some c) k = none_some (sym k)

    go : (b : Bool) → are_same ks (key_of h) ≡ b
        → (counted (runs_from (first + 1) hs) ks ≡ None → (i : ℕ) (g : History) → slice_get hs i ≡ Some g →
        g ≢ of_key ks)
        → both (cond b (one_of first) None) (counted (runs_from (first + 1) hs) ks) ≡ None
        → (i : ℕ) → slice_get (h ∷ hs) i ≡ Some g → g ≢ of_key ks
    go true p next k i at = some_first (counted (runs_from (first + 1) hs) ks) k
    go false p next k zero at = λ same. is_not ks h right p (some_is at ∙ same)
    go false p next k (suc i) at = next k i g at

later : (first : ℕ) (h : History) (hs : List History) (r : Row) →
    h ≢ r.history →
    (t : Tells hs (first + 1) r) →
    Tells (h ∷ hs) first r
later first h hs r other t =
    let seed = t.seed in
    record {
      at = suc t.at;
      seed = omega (arith, seed);
      there = t.there;
      least = λ k. least k;
      count = Elsewhere h hs r.count other t.count;
    }
  where
    least : (k : ℕ) → k < suc t.at → slice_get (h ∷ hs) k ≡ Some r.history → ⊥
    least zero lt e = other (some_is e)
    least (suc k) lt e = t.least k (omega arith) e

runs_length : (first : ℕ) (hs : List History) → length (runs_from first hs) ≡ length hs
runs_length first [] = refl
runs_length first (h ∷ hs) = ap suc (runs_length (first + 1) hs)

-- what is counted is what a row tells
pub counted_tells : (ks : Key) (first : ℕ) (hs : List History) (c : Count) →
    length hs < 2 ^ 64 →
    counted (runs_from first hs) ks ≡ Some c
    → Tells hs first (row (of_key ks) c.count c.seed)
counted_tells ks first [] c few e = none_some e
counted_tells ks first (h ∷ hs) c few e = go (are_same ks (key_of h)) refl (counted (runs_from (first + 1) hs) ks) refl
    (λ d q. counted_tells ks (first + 1) hs d (omega arith) q) e
  where
    here : (n : ℕ) → h ≡ of_key ks → Stands (of_key ks) hs n → Tells (h ∷ hs) first (row (of_key ks) (n + 1) first)
    here n is stands = record {
      at = 0;
      seed = omega arith;
      there = ap Some is;
      least = λ k lt. absurd (omega arith);
      count = subst (λ g. Stands (of_key ks) (g ∷ hs) (n + 1)) (sym is) (Here hs n stands);
    }

    go : (b : Bool) → are_same ks (key_of h) ≡ b → (o : Option Count) → counted (runs_from (first + 1) hs) ks ≡ o
        → ((d : Count) → counted (runs_from (first + 1) hs) ks ≡ Some d →
        Tells hs (first + 1) (row (of_key ks) d.count d.seed))
        → both (cond b (one_of first) None) o ≡ Some c → Tells (h ∷ hs) first (row (of_key ks) c.count c.seed)
    go true p None q next k =
        subst (λ (x : Count). Tells (h ∷ hs) first (row (of_key ks) x.count x.seed)) (some_is k)
        (here 0 (is_of ks h p) (stands_nowhere (of_key ks) hs (uncounted ks (first + 1) hs (is_right ks h p) q)))
    go true p (Some d) q next k =
        let t = next d q in
        let seed = t.seed in
        let is = here d.count (is_of ks h p) t.count in
        let most = counted_most (runs_from (first + 1) hs) ks in
        let number_is = ap number q in
        let len = runs_length (first + 1) hs in
        let count : d.count + 1 ≡ min (1 + d.count) (2 ^ 64 - 1) = omega (arith, few, most, number_is, len) in
        let least : first ≡ min first d.seed = omega (arith, seed) in
        subst (λ (x : Count). Tells (h ∷ hs) first (row (of_key ks) x.count x.seed)) (some_is k)
        (subst (λ (n : ℕ). Tells (h ∷ hs) first (row (of_key ks) (min (1 + d.count) (2 ^ 64 - 1)) n)) least
        (subst (λ (n : ℕ). Tells (h ∷ hs) first (row (of_key ks) n first)) count is))
    go false p o q next k = later first h hs (row (of_key ks) c.count c.seed)
        (is_not ks h (counted_right ks (first + 1) hs c (q ∙ k)) p) (next c (q ∙ k))

-- ---- each history once

-- whether there is one
abbrev pub there : Option Count → ℕ
there None = 0
there (Some c) = 1

there_both : (o p : Option Count) → 1 ≤ there p → there (both o p) ≡ 1
there_both None None h = absurd (omega arith)
there_both None (Some d) h = refl
there_both (Some c) None h = refl
there_both (Some c) (Some d) h = refl

pub counted_there : (first : ℕ) (hs : List History) (i : ℕ) (h : History) →
    slice_get hs i ≡ Some h →
    there (counted (runs_from first hs) (key_of h)) ≡ 1
counted_there first [] i h e = none_some e
counted_there first (g ∷ hs) zero h e =
    let same : are_same (key_of h) (key_of g) ≡ true = ap (λ x. are_same (key_of h) (key_of x)) (some_is e) ∙
    are_itself (key_of h) in
    ap (λ b. there (both (cond b (one_of first) None) (counted (runs_from (first + 1) hs) (key_of h)))) same ∙
    one (counted (runs_from (first + 1) hs) (key_of h))
  where
    one : (o : Option Count) → there (both (one_of first) o) ≡ 1
    one None = refl
    one (Some d) = refl
counted_there first (g ∷ hs) (suc i) h e =
    there_both (cond (are_same (key_of h) (key_of g)) (one_of first) None)
    (counted (runs_from (first + 1) hs) (key_of h))
    (let ih = counted_there (first + 1) hs i h e in omega (arith, ih))

there_most : (o : Option Count) → there o ≤ 1
there_most None = omega arith
there_most (Some c) = omega arith

abbrev pub one_time : Key → Entry → ℕ
one_time ks e = cond (are_same ks (plain_key e.key)) 1 0

-- how many entries have these keys
abbrev pub times : Key → List Entry → ℕ
times ks es = sum_by (one_time ks) es

once : (ks : Key) (e : Entry) → are_same ks (plain_key e.key) ≡ true → one_time ks e ≡ 1
once ks e h = ap (λ b. cond b 1 0) h

-- the entry that has them
times_there : (ks : Key) (es : List Entry) →
    1 ≤ times ks es →
    (j : ℕ) × (e : Entry) × (slice_get es j ≡ Some e) × (ks ≡ (plain_key e.key))
times_there ks [] h = absurd (omega arith)
times_there ks (e ∷ es) h = go (are_same ks (plain_key e.key)) refl (λ k. times_there ks es k)
  where
    go : (b : Bool) →
        are_same ks (plain_key e.key) ≡ b →
        (1 ≤ times ks es → (j : ℕ) × (x : Entry) × (slice_get es j ≡ Some x) × (ks ≡ (plain_key x.key)))
        → (j : ℕ) × (x : Entry) × (slice_get (e ∷ es) j ≡ Some x) × (ks ≡ (plain_key x.key))
    go true p next = (0, e, refl, same_keys ks (plain_key e.key) p)
    go false p next =
        let none : one_time ks e ≡ 0 = ap (λ b. cond b 1 0) p in
        let rest = next (omega (arith, h, none, sum_by-cons (one_time ks) e es)) in
        (suc rest.0, rest.1, rest.2, rest.3)

times_at : (ks : Key) (es : List Entry) (j : ℕ) (e : Entry) →
    slice_get es j ≡ Some e →
    ks ≡ (plain_key e.key) →
    1 ≤ times ks es
times_at ks [] j e at same = none_some at
times_at ks (x ∷ es) zero e at same =
    let one = once ks x (ap (are_same ks) (ap (λ (y : Entry). plain_key y.key) (some_is at) ∙ sym same) ∙ are_itself ks)
    in
    omega (arith, one, sum_by-cons (one_time ks) x es)
times_at ks (x ∷ es) (suc j) e at same = let ih = times_at ks es j e at same in
    omega (arith, ih, sum_by-cons (one_time ks) x es)

-- two places of the same keys are two entries of them
times_two : (ks : Key) (es : List Entry) (j k : ℕ) (e f : Entry) →
    j < k →
    slice_get es j ≡ Some e →
    slice_get es k ≡ Some f →
    ks ≡ (plain_key e.key) →
    ks ≡ (plain_key f.key)
    → 2 ≤ times ks es
times_two ks [] j k e f lt a b p q = none_some a
times_two ks (x ∷ es) j zero e f lt a b p q = absurd (omega arith)
times_two ks (x ∷ es) zero (suc k) e f lt a b p q =
    let one = once ks x (ap (are_same ks) (ap (λ (y : Entry). plain_key y.key) (some_is a) ∙ sym p) ∙ are_itself ks) in
    let rest = times_at ks es k f b q in
    omega (arith, one, rest, sum_by-cons (one_time ks) x es)
times_two ks (x ∷ es) (suc j) (suc k) e f lt a b p q = let ih = times_two ks es j k e f (omega arith) a b p q in
    omega (arith, ih, sum_by-cons (one_time ks) x es)

all_at : (P : Entry → Type 0) (es : List Entry) (j : ℕ) (e : Entry) → All P es → slice_get es j ≡ Some e → P e
all_at P [] j e all at = none_some at
all_at P (x ∷ es) zero e all at = subst P (some_is at) (All-head P x es all)
all_at P (x ∷ es) (suc j) e all at = all_at P es j e (All-tail P x es all) at

-- ---- the tally

row_there : (es : List Entry) (j : ℕ) (r : Row) →
    slice_get (map entry_row es) j ≡ Some r →
    (e : Entry) × (slice_get es j ≡ Some e) × (entry_row e ≡ r)
row_there [] j r e = none_some e
row_there (x ∷ es) zero r e = (x, refl, some_is e)
row_there (x ∷ es) (suc j) r e = row_there es j r e

there_row : (es : List Entry) (j : ℕ) (e : Entry) →
    slice_get es j ≡ Some e →
    slice_get (map entry_row es) j ≡ Some (entry_row e)
there_row [] j e h = none_some h
there_row (x ∷ es) zero e h = ap (λ (y : Entry). Some (entry_row y)) (some_is h)
there_row (x ∷ es) (suc j) e h = there_row es j e h

-- what an entry says is counted
abbrev pub Says : (Key → Option Count) → Entry → Type 0
Says all e = all (plain_key e.key) ≡ count_of e.count e.seed

-- no seed is less than an earlier one
abbrev pub Ascends : List Entry → Type 0
Ascends es = (j k : ℕ) (e f : Entry) → j < k → slice_get es j ≡ Some e → slice_get es k ≡ Some f → e.seed ≤ f.seed

module _ (all : Key → Option Count) (es : List Entry) (first : ℕ) (hs : List History) (few : length hs < 2 ^ 64)
    (counts : (ks : Key) → all ks ≡ counted (runs_from first hs) ks)
    (says : All (Says all) es) (once_each : (ks : Key) → times ks es ≡ there (all ks)) (up : Ascends es) where
  entry_tells : (j : ℕ) (e : Entry) → slice_get es j ≡ Some e → Tells hs first (entry_row e)
  entry_tells j e at = counted_tells (plain_key e.key) first hs (record { count = e.count; seed = e.seed }) few
      (sym (counts (plain_key e.key)) ∙ all_at (Says all) es j e says at)

  entry_has : (i : ℕ) (h : History) → slice_get hs i ≡ Some h → Has (map entry_row es) h
  entry_has i h at =
      let ks = key_of h in
      let one = once_each ks ∙ ap there (counts ks) ∙ counted_there first hs i h at in
      let found = times_there ks es (omega (arith, one)) in
      record {
        at = found.0;
        row = entry_row found.1;
        there = there_row es found.0 found.1 found.2;
        same = ap of_key (sym found.3) ∙ history_back h;
      }

  entry_rises : (j k : ℕ) (e f : Entry) → j < k → slice_get es j ≡ Some e → slice_get es k ≡ Some f → e.seed < f.seed
  entry_rises j k e f lt a b =
      let le = up j k e f lt a b in
      let t = entry_tells j e a in
      let u = entry_tells k f b in
      elim (lt_or e.seed f.seed le) [
        | inl less ↦ less
        | inr same ↦
            let p = t.seed in
            let q = u.seed in
            let at : t.at ≡ u.at = omega (arith, p, q, same) in
            let history : of_key (plain_key e.key) ≡ of_key (plain_key f.key) = some_is
            (sym t.there ∙ ap (λ (n : ℕ). slice_get hs n) at ∙ u.there) in
            let right = λ (x : Entry) (m : ℕ) (is : slice_get es m ≡ Some x).
            counted_right (plain_key x.key) first hs (record { count = x.count; seed = x.seed })
            (sym (counts (plain_key x.key)) ∙ all_at (Says all) es m x says is) in
            let keys : plain_key e.key ≡ plain_key f.key = right e j a ∙ ap key_of history ∙ sym (right f k b) in
            let two = times_two (plain_key e.key) es j k e f lt a b refl keys in
            let most = there_most (all (plain_key e.key)) in
            let is = once_each (plain_key e.key) in
            absurd (omega (arith, two, most, is))
      ]
    where
      lt_or : (m n : ℕ) → m ≤ n → (m < n) ⊎ (m ≡ n)
      lt_or m n h = elim (cases_lt m n) [ inl a ↦ inl a | inr b ↦ inr (omega (arith, h, b)) ]

  pub is_tally : IsTally hs first (map entry_row es)
  is_tally = record {
    tells = λ j r at. let e = row_there es j r at in subst (Tells hs first) e.2 (entry_tells j e.0 e.1);
    every = entry_has;
    rising = λ j k r s lt a b.
        let e = row_there es j r a in
        let f = row_there es k s b in
        let less = entry_rises j k e.0 f.0 lt e.1 f.1 in
        let p = ap (λ (x : Row). x.seed) e.2 in
        let q = ap (λ (x : Row). x.seed) f.2 in
        omega (arith, less, p, q);
  }

-- the same entries in another order
pub says_moved : (all : Key → Option Count) (es fs : List Entry) →
    IsPermutation es fs →
    All (Says all) es →
    All (Says all) fs
says_moved all es fs moved h = All-permutation (Says all) es fs moved h

pub times_moved : (all : Key → Option Count) (es fs : List Entry) →
    IsPermutation es fs →
    ((ks : Key) → times ks es ≡ there (all ks))
    → (ks : Key) → times ks fs ≡ there (all ks)
times_moved all es fs moved h ks = sum_by-IsPermutation (one_time ks) es fs moved ∙ h ks
