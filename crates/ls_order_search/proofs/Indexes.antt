-- A map of calls by their keys, with one call more or less.
use Rattle.std.proofs.Common.{◌≡◌, ◌∙◌, ◌⊎◌, inl, inr, Bool, true, false, cond, [], ◌∷◌, ◌++◌, Option, Some, None}
use Rattle.std.proofs.Common.{refl, sym, ap, subst, append-nil, is_eq, Ordering, BTreeMap}
use Rattle.std.specs.BTreeMap.{get, is_at}
use Rattle.std.specs.Cmp.{IsTotalOrder}
use Rattle.std.proofs.lemmas.Bool.{true≢false}
use Rattle.std.proofs.lemmas.Cmp.{tied_itself}
use Rattle.std.proofs.lemmas.Map.Lookups.{CmpEqualImpliesEq}
use Rattle.std.proofs.lemmas.Map.Views.{tells_apart}
use Rattle.std.proofs.lemmas.Option.{same_Some}
use Rattle.ls_orders.specs.declared.calls.SetCall.{SetCall}
use Rattle.ls_order_search.specs.Plans.{Among, Distinct}
use Rattle.ls_order_search.specs.Pools.{Indexed}
use Rattle.ls_order_search.specs.Search.{Calls}
use Rattle.ls_order_search.proofs.Lists.{among_cases, among_front, among_it, among_with, among_without}
use Rattle.ls_order_search.proofs.Lists.{distinct_apart}

pub None≢Some : {A : Type 0} (x : A) → None ≡ Some x → ⊥
None≢Some {A} x e = subst (λ o. by o) e tt
  where
    by : Option A → Type 0
    by None = Unit {0}
    by (Some y) = ⊥

module _ {K : Type 0} (R : K → K → Ordering) (key : SetCall → Option K) where
  -- no call
  pub index_none : (m : BTreeMap K SetCall) → ((q : K) → get R m q ≡ None) → Indexed R key m []
  index_none m none = record {
    has = λ c k a e. absurd a;
    only = λ k c v. absurd (None≢Some c (sym (none k) ∙ v));
  }

  -- a call without a key
  pub index_on : (m : BTreeMap K SetCall) (calls : Calls) (x : SetCall) →
      None ≡ key x →
      Indexed R key m calls →
      Indexed R key m (calls ++ x ∷ [])
  index_on m calls x nay h = record {
    has = λ c k a e. has c k e (among_cases c calls (x ∷ []) a);
    only = λ k c v. (among_front c calls (x ∷ []) (h.only k c v).0, (h.only k c v).1);
  }
    where
      has : (c : SetCall) (k : K) → key c ≡ Some k → Among c calls ⊎ Among c (x ∷ []) → get R m k ≡ Some c
      has c k e (inl a) = h.has c k a e
      has c k e (inr (inl i)) = absurd (None≢Some k (nay ∙ ap key i ∙ e))
      has c k e (inr (inr a)) = absurd a

  -- such a call is placed
  pub index_off : (m : BTreeMap K SetCall) (f b : Calls) (x : SetCall) →
      None ≡ key x →
      Indexed R key m (f ++ x ∷ b) →
      Indexed R key m (f ++ b)
  index_off m f b x nay h = record {
    has = λ c k a e. h.has c k (among_with c x f b a) e;
    only = λ k c v. (
      among_without c x f b (h.only k c v).0 (λ i. None≢Some k (nay ∙ ap key i ∙ (h.only k c v).1)),
      (h.only k c v).1,
    );
  }

  module _ (total : IsTotalOrder R) (exact : CmpEqualImpliesEq R)
      (apart : (c d : SetCall) (k : K) → key c ≡ Some k → key d ≡ Some k → c.called ≡ d.called) where
    at_itself : (k : K) → is_at (R k) k ≡ true
    at_itself k = ap is_eq (tied_itself total k)

    -- a call is put under its key
    pub index_more : (m n : BTreeMap K SetCall) (calls : Calls) (x : SetCall) (k : K) →
        Some k ≡ key x →
        ((q : K) → get R n q ≡ cond (is_at (R k) q) (Some x) (get R m q)) →
        Distinct (calls ++ x ∷ []) →
        Indexed R key m calls →
        Indexed R key n (calls ++ x ∷ [])
    index_more m n calls x k is put d h = record {
      has = λ c q a e. has c q e (among_cases c calls (x ∷ []) a);
      only = λ q c v. only q c v (is_at (R k) q) refl;
    }
      where
        old : (c : SetCall) (q : K) → Among c calls → key c ≡ Some q → (b : Bool) → is_at (R k) q ≡ b
            → get R n q ≡ Some c
        old c q a e true t = absurd (distinct_apart c x calls [] d (subst (Among c) (sym (append-nil calls)) a)
            (apart c x q e (sym is ∙ ap (λ j. Some j) (tells_apart exact k q t))))
        old c q a e false t = put q ∙ ap (λ b. cond b (Some x) (get R m q)) t ∙ h.has c q a e

        has : (c : SetCall) (q : K) → key c ≡ Some q → Among c calls ⊎ Among c (x ∷ []) → get R n q ≡ Some c
        has c q e (inl a) = old c q a e (is_at (R k) q) refl
        has c q e (inr (inl i)) =
            let same : k ≡ q = same_Some k q (is ∙ ap key i ∙ e) in
            put q ∙ ap (λ b. cond b (Some x) (get R m q)) (ap (is_at (R k)) (sym same) ∙ at_itself k)
            ∙ ap (λ y. Some y) i
        has c q e (inr (inr a)) = absurd a

        only : (q : K) (c : SetCall) → get R n q ≡ Some c → (b : Bool) → is_at (R k) q ≡ b
            → Among c (calls ++ x ∷ []) × (key c ≡ Some q)
        only q c v true t =
            let i : x ≡ c = same_Some x c (sym (put q ∙ ap (λ b. cond b (Some x) (get R m q)) t) ∙ v) in (
              subst (λ y. Among y (calls ++ x ∷ [])) i (among_it x calls []),
              ap key (sym i) ∙ sym is ∙ ap (λ j. Some j) (tells_apart exact k q t),
            )
        only q c v false t =
            let o = h.only q c (sym (put q ∙ ap (λ b. cond b (Some x) (get R m q)) t) ∙ v) in
            (among_front c calls (x ∷ []) o.0, o.1)

    -- the call under a key is placed
    pub index_less : (m n : BTreeMap K SetCall) (f b : Calls) (x : SetCall) (k : K) →
        Some k ≡ key x →
        ((q : K) → get R n q ≡ cond (is_at (R k) q) None (get R m q)) →
        Distinct (f ++ x ∷ b) →
        Indexed R key m (f ++ x ∷ b) →
        Indexed R key n (f ++ b)
    index_less m n f b x k is taken d h = record {
      has = λ c q a e. has c q a e (is_at (R k) q) refl;
      only = λ q c v. only q c v (is_at (R k) q) refl;
    }
      where
        has : (c : SetCall) (q : K) → Among c (f ++ b) → key c ≡ Some q → (t : Bool) → is_at (R k) q ≡ t
            → get R n q ≡ Some c
        has c q a e true t = absurd (distinct_apart c x f b d a
            (apart c x q e (sym is ∙ ap (λ j. Some j) (tells_apart exact k q t))))
        has c q a e false t = taken q ∙ ap (λ b. cond b None (get R m q)) t ∙ h.has c q (among_with c x f b a) e

        only : (q : K) (c : SetCall) → get R n q ≡ Some c → (t : Bool) → is_at (R k) q ≡ t
            → Among c (f ++ b) × (key c ≡ Some q)
        only q c v true t = absurd (None≢Some c (sym (taken q ∙ ap (λ b. cond b None (get R m q)) t) ∙ v))
        only q c v false t =
            let o = h.only q c (sym (taken q ∙ ap (λ b. cond b None (get R m q)) t) ∙ v) in (
              among_without c x f b o.0 (λ i. true≢false (sym (at_itself k)
                  ∙ ap (is_at (R k)) (same_Some k q (is ∙ ap key i ∙ o.1)) ∙ t)),
              o.1,
            )
