-- Counts put together.
use Rattle.std.proofs.Common.{◌≡◌, ◌∙◌, ℕ, ◌+◌, ◌≤◌, ◌^◌, ◌-◌, min, Bool, true, false, cond, List, [], ◌∷◌, ◌++◌}
use Rattle.std.proofs.Common.{length, Option, Some, None, refl, sym, ap, arith}
use Rattle.ls_batch.specs.declared.counting.Count.{Count}
use Rattle.ls_batch.specs.Numbers.{Key, key_of}
use Rattle.ls_batch.specs.Counted.{are_same, both, counted, one_of, Run}

abbrev pub count_of : ℕ → ℕ → Option Count
count_of n s = Some (record { count = n; seed = s })

pub both_none : (o : Option Count) → both o None ≡ o
both_none None = refl
both_none (Some c) = refl

pub both_comm : (o p : Option Count) → both o p ≡ both p o
both_comm None None = refl
both_comm None (Some d) = refl
both_comm (Some c) None = refl
both_comm (Some c) (Some d) =
    let sum : min (c.count + d.count) (2 ^ 64 - 1) ≡ min (d.count + c.count) (2 ^ 64 - 1) = omega arith in
    let least : min c.seed d.seed ≡ min d.seed c.seed = omega arith in
    λ i. count_of (sum i) (least i)

pub both_assoc : (o p q : Option Count) → both (both o p) q ≡ both o (both p q)
both_assoc None p q = refl
both_assoc (Some o) None q = refl
both_assoc (Some o) (Some p) None = refl
both_assoc (Some o) (Some p) (Some q) =
    let sum : min (min (o.count + p.count) (2 ^ 64 - 1) + q.count) (2 ^ 64 - 1) ≡ min
    (o.count + min (p.count + q.count) (2 ^ 64 - 1)) (2 ^ 64 - 1) = omega arith in
    let least : min (min o.seed p.seed) q.seed ≡ min o.seed (min p.seed q.seed) = omega arith in
    λ i. count_of (sum i) (least i)

-- what a run gives under this key
abbrev pub one_run : Run → Key → Option Count
one_run r ks = cond (are_same ks (key_of r.history)) (one_of r.seed) None

pub counted_append : (rs ms : List Run) (ks : Key) → counted (rs ++ ms) ks ≡ both (counted rs ks) (counted ms ks)
counted_append [] ms ks = refl
counted_append (r ∷ rs) ms ks = ap (both (one_run r ks)) (counted_append rs ms ks) ∙
    sym (both_assoc (one_run r ks) (counted rs ks) (counted ms ks))

pub counted_more : (rs : List Run) (r : Run) (ks : Key) →
    counted (rs ++ r ∷ []) ks ≡ both (counted rs ks) (one_run r ks)
counted_more rs r ks = counted_append rs (r ∷ []) ks ∙ ap (both (counted rs ks)) (both_none (one_run r ks))

-- how many
abbrev pub number : Option Count → ℕ
number None = 0
number (Some c) = c.count

number_both : (o p : Option Count) → number (both o p) ≤ number o + number p
number_both None p = omega arith
number_both (Some c) None = omega arith
number_both (Some c) (Some d) = omega arith

one_most : (r : Run) (ks : Key) → number (one_run r ks) ≤ 1
one_most r ks = go (are_same ks (key_of r.history))
  where
    go : (b : Bool) → number (cond b (one_of r.seed) None) ≤ 1
    go true = omega arith
    go false = omega arith

pub counted_most : (rs : List Run) (ks : Key) → number (counted rs ks) ≤ length rs
counted_most [] ks = omega arith
counted_most (r ∷ rs) ks = omega (arith, number_both (one_run r ks) (counted rs ks), one_most r ks, counted_most rs ks)
