-- What a map that is looked up by keys has after an entry is put or taken out.
use Rattle.std.proofs.Common.{◌≡◌, ◌∙◌, List, refl, ap, sym, Bool, true, false, cond, Ordering, Option}
use Rattle.std.proofs.Common.{Some, None}
use Rattle.std.specs.BTreeMap.{BTreeMap, UpdatesBy, get_by, is_at}
use Rattle.std.specs.Map.{KeepsOthers, IsKeyTest, AreApart, lookup}
use Rattle.std.specs.Ordering.{eq_by_cmp, is_eq}
use Rattle.ls_batch.specs.declared.counting.Count.{Count}
use Rattle.ls_batch.specs.Numbers.{Key, key_cmp}
use Rattle.ls_batch.specs.Counted.{are_same, both}
use Rattle.ls_batch.proofs.Both.{both_none}
use Rattle.ls_batch.proofs.Exact.{are_apart, same_keys}

module _ {K : Type 0} (items : K → Key) where
  abbrev pub at : Key → K → Ordering
  at ks k = key_cmp ks (items k)

  abbrev pub code_cmp : K → K → Ordering
  code_cmp x y = key_cmp (items x) (items y)

  kept : {X : Type 0} (test : K → Bool) (old new : List (K × X)) →
      KeepsOthers (eq_by_cmp code_cmp) test old new →
      (other : K → Bool) →
      IsKeyTest (eq_by_cmp code_cmp) other →
      AreApart test other →
      lookup other new ≡ lookup other old
  unfolding KeepsOthers
  kept test old new h = h

  is_key_test : (ks : Key) → IsKeyTest (eq_by_cmp code_cmp) (is_at (at ks))
  is_key_test ks x y e = ap (λ (ms : Key). is_eq (key_cmp ms (items y))) (same_keys ks (items x) e)

  pub updated : {X : Type 0} (m n : BTreeMap K X) (key : K) (w : Option X) → UpdatesBy code_cmp (code_cmp key) m n w
      → (ks : Key) → get_by (at ks) n ≡ cond (are_same ks (items key)) w (get_by (at ks) m)
  updated {X} m n key w updates ks = go (are_same ks (items key)) refl
    where
      go : (b : Bool) → are_same ks (items key) ≡ b → get_by (at ks) n ≡ cond b w (get_by (at ks) m)
      go true e = ap (λ (ms : Key). get_by (λ k. key_cmp ms (items k)) n) (same_keys ks (items key) e) ∙ updates.1
      go false e = kept (is_at (code_cmp key)) m.entries n.entries updates.3 (is_at (at ks)) (is_key_test ks)
          (λ k here. apart k here (is_eq (at ks k)) refl)
        where
          apart : (k : K) → is_eq (code_cmp key k) ≡ true → (c : Bool) → is_eq (at ks k) ≡ c → is_eq (at ks k) ≡ false
          apart k here true there = absurd (are_apart ks (items key) e
              (same_keys ks (items k) there ∙ sym (same_keys (items key) (items k) here)))
          apart k here false there = there

-- ---- counts after they are put

-- one more is counted under its keys
pub put_more : (old : Key → Option Count) (keys ks : Key) (more : Count)
    → cond (are_same ks keys) (both (old keys) (Some more)) (old ks) ≡ both (old ks)
    (cond (are_same ks keys) (Some more) None)
put_more old keys ks more = go (are_same ks keys) refl
  where
    go : (b : Bool) →
        are_same ks keys ≡ b →
        cond b (both (old keys) (Some more)) (old ks) ≡ both (old ks) (cond b (Some more) None)
    go true e = ap (λ k. both (old k) (Some more)) (sym (same_keys ks keys e))
    go false e = sym (both_none (old ks))

-- what is taken out of one and put into the other
pub put_over : (all rest : Key → Option Count) (keys ks : Key) (more : Count) → rest keys ≡ Some more
    → both (cond (are_same ks keys) (both (all keys) (Some more)) (all ks)) (cond (are_same ks keys) None (rest ks)) ≡
    both (all ks) (rest ks)
put_over all rest keys ks more is = go (are_same ks keys) refl
  where
    go : (b : Bool) →
        are_same ks keys ≡ b →
        both (cond b (both (all keys) (Some more)) (all ks)) (cond b None (rest ks)) ≡ both (all ks) (rest ks)
    go true e = both_none (both (all keys) (Some more)) ∙ ap (both (all keys)) (sym is) ∙
        ap (λ k. both (all k) (rest k)) (sym (same_keys ks keys e))
    go false e = refl
