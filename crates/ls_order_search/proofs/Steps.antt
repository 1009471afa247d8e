-- The steps at the end of a call, over the calls that are open.
use Rattle.std.proofs.Common.{◌≡◌, ◌∙◌, ◌⊎◌, ◌+◌, ◌<◌, ◌≤◌, inl, inr, ℕ, ℤ, Bool, true, false, [], ◌∷◌, ◌++◌}
use Rattle.std.proofs.Common.{Some, refl, sym, ap, subst, append_assoc, arith, eqb-true}
use Rattle.std.proofs.Common.{lt-ltb, le-ltb, ltb-false}
use Rattle.std.proofs.lemmas.Bool.{eqb-false, true≢false}
use Rattle.ls_orders.specs.declared.calls.End.{End}
use Rattle.ls_orders.specs.declared.calls.End.TheVariants.{Pending, Returned, Trapped}
use Rattle.ls_orders.specs.declared.calls.SetCall.{SetCall}
use Rattle.ls_orders.specs.Rules.{ended_before}
use Rattle.ls_orders.specs.Legal.{Set, after}
use Rattle.ls_order_search.specs.Plans.{Among, Distinct, IsPlan, has_end, turns, wanted}
use Rattle.ls_order_search.specs.Search.{HasPlan, CalledAfter, Best, Calls, Choice, Fits, Goes, Keeps, Lasting}
use Rattle.ls_order_search.specs.Search.{LastUntil, Stuck, CalledBy, ends_at, is_item, on_items}
use Rattle.ls_order_search.proofs.Lists.{among_cases, among_front, distinct_without, among_it, among_with}
use Rattle.ls_order_search.proofs.Sets.{Same, runs_same}
use Rattle.ls_order_search.proofs.Filters.{among_filter, among_seen, filter_among, is_item_self, placed_on, seen_among}
use Rattle.ls_order_search.proofs.Filters.{seen_distinct}
use Rattle.ls_order_search.proofs.Exchange.{Open, keep_step, plan_with, stuck, turn_step}

-- ---- the end that has come

end_has : (at : ℕ) (e : End) → ends_at at e ≡ true → has_end e ≡ true
end_has at Pending h = absurd (true≢false (sym h))
end_has at (Trapped m) h = refl
end_has at (Returned m r) h = refl

not_before : (at n : ℕ) (e : End) → ends_at at e ≡ true → n ≤ at → ended_before e n ≡ false
not_before at n Pending h le = refl
not_before at n (Trapped m) h le = let same = eqb-true m at h in le-ltb m n (omega arith)
not_before at n (Returned m r) h le = let same = eqb-true m at h in le-ltb m n (omega arith)

is_before : (at n : ℕ) (e : End) → ends_at at e ≡ true → at < n → ended_before e n ≡ false → ⊥
is_before at n Pending h lt b = true≢false (sym h)
is_before at n (Trapped m) h lt b = let same = eqb-true m at h in true≢false (sym (lt-ltb m n (omega arith)) ∙ b)
is_before at n (Returned m r) h lt b = let same = eqb-true m at h in true≢false (sym (lt-ltb m n (omega arith)) ∙ b)

-- a call that hasn't ended before a place hasn't ended before an earlier one
pub sooner : (m n : ℕ) (e : End) → ended_before e n ≡ false → m ≤ n → ended_before e m ≡ false
sooner m n Pending h le = refl
sooner m n (Trapped k) h le = let b = ltb-false k n h in le-ltb k m (omega arith)
sooner m n (Returned k r) h le = let b = ltb-false k n h in le-ltb k m (omega arith)

-- a call that doesn't end at a place hasn't ended before the next
pub goes_by : (at : ℕ) (e : End) → ended_before e at ≡ false → ends_at at e ≡ false → ended_before e (at + 1) ≡ false
goes_by at Pending h n = refl
goes_by at (Trapped k) h n = let b = ltb-false k at h in let d = eqb-false k at n in le-ltb k (at + 1) (omega arith)
goes_by at (Returned k r) h n = let b = ltb-false k at h in let d = eqb-false k at n in le-ltb k (at + 1) (omega arith)

-- ---- one after the other

-- the same of a set that holds the same
pub plan_same : (s t : Set) (rest p : Calls) → Same s t → IsPlan s rest p → IsPlan t rest p
plan_same s t rest p h q = record {
  inside = q.inside;
  complete = q.complete;
  ordered = q.ordered;
  run = runs_same s t p h q.run;
}

-- the same with a set of the same items
pub goes_same : (at : ℕ) (s t u : Set) (p q v : Calls) → Same t u → Goes at s t p q v → Goes at s u p q v
goes_same at s t u p q v h g = record {
  plan = λ f rest d b up x. let y = g.plan f rest d b up x in (y.0, plan_same t u (on_items f (q ++ rest)) y.0 h y.1);
  distinct = g.distinct;
  among = g.among;
  back = λ rest d b up l k w x. g.back rest d b up l k w (plan_same u t (q ++ rest) w (λ z. sym (h z)) x);
}

-- nothing is placed
pub goes_on : (at : ℕ) (s : Set) (pool : Calls) → Goes at s s pool pool []
goes_on at s pool = record {
  plan = λ f rest d b u q. q;
  distinct = λ rest d. d;
  among = λ c a. a;
  back = λ rest d b u l k p q. q;
}

-- calls are placed, and then others
pub goes_then : (at : ℕ) (s t u : Set) (p q r v w : Calls) →
    Goes at s t p q v →
    Goes at t u q r w →
    Goes at s u p r (v ++ w)
goes_then at s t u p q r v w g h = record {
  plan = λ f rest d b up x. h.plan f rest (g.distinct rest d) b (λ c a. up c (g.among c a)) (g.plan f rest d b up x);
  distinct = λ rest d. h.distinct rest (g.distinct rest d);
  among = λ c a. g.among c (h.among c a);
  back = λ rest d b up l k x y. subst (IsPlan s (p ++ rest)) (sym (append_assoc v w x))
      (g.back rest d b up l k (w ++ x) (h.back rest (g.distinct rest d) b (λ c a. up c (g.among c a))
      (λ c a. l c (g.among c a)) k x y));
}

-- if the search is stuck later, it is stuck now
pub goes_stuck : (at : ℕ) (s t : Set) (p q v : Calls) → Goes at s t p q v → Stuck at t q → Stuck at s p
goes_stuck at s t p q v g h = (
  h.0,
  λ rest d b up w. h.1 rest (g.distinct rest d) b (λ c a. up c (g.among c a))
      (g.plan (is_item h.0) rest d b up w),
)

-- ---- one call is placed

module _ (at : ℕ) (s : Set) (z : SetCall) (ends : ends_at at z.end ≡ true) where
  -- an open call is one of the pool
  open_in : (pool rest : Calls) → CalledAfter at rest → (c : SetCall) → Among c (pool ++ rest) → Open z c → Among c pool
  open_in pool rest b c a o = go (among_cases c pool rest a)
    where
      go : Among c pool ⊎ Among c rest → Among c pool
      go (inl p) = p
      go (inr r) = absurd (is_before at c.called z.end ends (b c r) o)

  -- if a call ends here and none fits its item, the search is stuck
  pub none_fits : (pool : Calls) →
      Among z pool →
      ((c : SetCall) → Among c pool → Fits z.item (s z.item) c → ⊥) →
      Stuck at s pool
  none_fits pool az none = (
    z.item,
    λ rest d b up w.
        let on = λ (c : SetCall). is_item z.item c.item in
        let there = λ (c : SetCall) (a : Among c (on_items (is_item z.item) (pool ++ rest))).
        (filter_among on (pool ++ rest) c a).0 in
        stuck s (on_items (is_item z.item) (pool ++ rest)) z w.0
        (among_filter on (pool ++ rest) z (among_front z pool rest az) (is_item_self z.item))
        (end_has at z.end ends) (not_before at z.called z.end ends (up z az))
        (λ c a o i q t. none c (open_in pool rest b c (there c a) o) (record { item_is = i; wants = q }))
        (λ c a o i q t. none c (open_in pool rest b c (there c a) o) (record { item_is = i; wants = q }))
        w.1,
  )

  module _ (p1 p2 : Calls) (x : SetCall) where
    longer : (rest : Calls) → (p1 ++ x ∷ p2) ++ rest ≡ p1 ++ x ∷ (p2 ++ rest)
    longer rest = append_assoc p1 (x ∷ p2) rest

    shorter : (rest : Calls) → p1 ++ (p2 ++ rest) ≡ (p1 ++ p2) ++ rest
    shorter rest = sym (append_assoc p1 p2 rest)

    less_distinct : (rest : Calls) → Distinct ((p1 ++ x ∷ p2) ++ rest) → Distinct ((p1 ++ p2) ++ rest)
    less_distinct rest d = subst Distinct (shorter rest) (distinct_without p1 x (p2 ++ rest)
        (subst Distinct (longer rest) d))

    less_among : (c : SetCall) → Among c (p1 ++ p2) → Among c (p1 ++ x ∷ p2)
    less_among c a = among_with c x p1 p2 a

    module _ (wx : wanted x ≡ Some (s x.item)) where
      -- no call that is left ended before x was called
      left_open : (rest : Calls) →
          CalledAfter at rest →
          CalledBy at (p1 ++ x ∷ p2) →
          LastUntil at (p1 ++ x ∷ p2) →
          Lasting rest →
          (c : SetCall) →
          Among c (p1 ++ (p2 ++ rest)) →
          ended_before c.end x.called ≡ false
      left_open rest b up l k c a = go (among_cases c (p1 ++ p2) rest (subst (λ y. Among c y) (shorter rest) a))
        where
          le : x.called ≤ at
          le = up x (among_it x p1 p2)

          go : Among c (p1 ++ p2) ⊎ Among c rest → ended_before c.end x.called ≡ false
          go (inl i) = sooner x.called at c.end (l c (less_among c i)) le
          go (inr i) = let lt : at < c.called = b c i in sooner x.called c.called c.end (k c i) (omega (arith, le))

      from : ((f : ℤ → Bool) (rest : Calls) → Distinct (p1 ++ x ∷ (p2 ++ rest)) → CalledAfter at rest →
          CalledBy at (p1 ++ x ∷ p2) → f x.item ≡ true
          → HasPlan s (on_items f p1 ++ x ∷ on_items f (p2 ++ rest)) →
          HasPlan (after s x) (on_items f p1 ++ on_items f (p2 ++ rest)))
          → Goes at s (after s x) (p1 ++ x ∷ p2) (p1 ++ p2) (x ∷ [])
      from step = record {
        plan = λ f rest d b up w. subst (λ l. HasPlan (after s x) (on_items f l)) (shorter rest)
            (placed_on f s p1 (p2 ++ rest) x (λ e. step f rest (subst Distinct (longer rest) d) b up e)
            (subst (λ l. HasPlan s (on_items f l)) (longer rest) w));
        distinct = less_distinct;
        among = less_among;
        back = λ rest d b up l k p q. subst (λ y. IsPlan s y (x ∷ p)) (sym (longer rest))
            (plan_with s p1 (p2 ++ rest) x p (subst Distinct (longer rest) d) (left_open rest b up l k) wx
            (subst (λ y. IsPlan (after s x) y p) (sym (shorter rest)) q));
      }

    keeper_goes : Keeps z.item (s z.item) x → Goes at s (after s x) (p1 ++ x ∷ p2) (p1 ++ p2) (x ∷ [])
    keeper_goes k =
        let same : s z.item ≡ s x.item = ap s (sym k.fits.item_is) in
        let wx : wanted x ≡ Some (s x.item) = k.fits.wants ∙ ap (λ v. Some v) same in
        from wx (λ f rest d b up e w. keep_step s (on_items f p1) (on_items f (p2 ++ rest)) x
        (seen_distinct f s p1 (p2 ++ rest) x e d) wx (ap (turns x.operation) (sym same) ∙ k.same) w)

    changer_goes : Among z (p1 ++ x ∷ p2) →
        ((c : SetCall) → Among c (p1 ++ x ∷ p2) → Keeps z.item (s z.item) c → ⊥) →
        Best z.item (s z.item) (p1 ++ x ∷ p2) x
        → Goes at s (after s x) (p1 ++ x ∷ p2) (p1 ++ p2) (x ∷ [])
    changer_goes az none best = from (best.turn.fits.wants ∙ ap (λ i. Some (s i)) (sym best.turn.fits.item_is))
        (λ f rest d b up e w.
        let all = p2 ++ rest in
        let back = seen_among f s p1 all x e in
        let in' = λ (c : SetCall) (a : Among c (on_items f p1 ++ x ∷ on_items f all)) (o : Open z c).
        open_in (p1 ++ x ∷ p2) rest b c (subst (λ l. Among c l) (sym (longer rest)) (back c a)) o in
        let z_in : Among z (p1 ++ x ∷ all) = subst (λ l. Among z l) (longer rest) (among_front z (p1 ++ x ∷ p2) rest az)
        in
        turn_step s (on_items f p1) (on_items f all) x z (seen_distinct f s p1 all x e d) best.turn.fits.item_is
        best.turn.fits.wants best.turn.changes
        (end_has at z.end ends) (among_seen f s p1 all x e z (ap f (sym best.turn.fits.item_is) ∙ e) z_in)
        (not_before at z.called z.end ends (up z az))
        (λ c a o i q t. none c (in' c a o) (record { fits = record { item_is = i; wants = q }; same = t }))
        (λ c a o i q t. best.least c (in' c a o) (record { fits = record { item_is = i; wants = q }; changes = t })) w)

    -- the chosen call is placed
    pub one_goes : Among z (p1 ++ x ∷ p2) →
        Choice z.item (s z.item) (p1 ++ x ∷ p2) x →
        Goes at s (after s x) (p1 ++ x ∷ p2) (p1 ++ p2) (x ∷ [])
    one_goes az (inl k) = keeper_goes k
    one_goes az (inr q) = changer_goes az q.0 q.1
