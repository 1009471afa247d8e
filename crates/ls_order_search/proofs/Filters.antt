-- Calls that pass a test, and the calls on some items.
use Rattle.std.proofs.Common.{◌≡◌, ◌∙◌, inl, inr, ℤ, Bool, true, false, cond, [], ◌∷◌, ◌++◌, filter, Some, refl, sym}
use Rattle.std.proofs.Common.{ap, subst}
use Rattle.std.proofs.lemmas.Bool.{true≢false}
use Rattle.std.proofs.lemmas.Bool.Decides.{Decides-int_eq}
use Rattle.std.proofs.lemmas.List.Elements.{filter-append}
use Rattle.ls_orders.specs.declared.calls.SetCall.{SetCall}
use Rattle.ls_orders.specs.Rules.{after_call}
use Rattle.ls_orders.specs.Legal.{Set, after, empty}
use Rattle.ls_order_search.specs.Plans.{Among, Distinct, Ordered, Runs}
use Rattle.ls_order_search.specs.Search.{Calls, HasPlan, NoPlanOn, Rising, is_item, on_items}
use Rattle.ls_order_search.proofs.Sets.{after_other}

-- ---- what is among them

-- a call that passes is among those that pass
pub among_filter : (p : SetCall → Bool) (xs : Calls) (c : SetCall) → Among c xs → p c ≡ true → Among c (filter p xs)
among_filter p [] c a e = a
among_filter p (x ∷ xs) c (inl i) e = subst (λ b. Among c (cond b (x ∷ filter p xs) (filter p xs))) (sym (ap p i ∙ e))
    (inl i)
among_filter p (x ∷ xs) c (inr a) e = go (p x) (among_filter p xs c a e)
  where
    go : (b : Bool) → Among c (filter p xs) → Among c (cond b (x ∷ filter p xs) (filter p xs))
    go true there = inr there
    go false there = there

-- a call among those that pass is among all, and passes
pub filter_among : (p : SetCall → Bool) (xs : Calls) (c : SetCall) → Among c (filter p xs) → Among c xs × (p c ≡ true)
filter_among p [] c a = absurd a
filter_among p (x ∷ xs) c a = go (p x) refl a (λ b. filter_among p xs c b)
  where
    later : Among c xs × (p c ≡ true) → Among c (x ∷ xs) × (p c ≡ true)
    later r = (inr r.0, r.1)

    first : p x ≡ true →
        Among c (x ∷ filter p xs) →
        (Among c (filter p xs) → Among c xs × (p c ≡ true)) →
        Among c (x ∷ xs) × (p c ≡ true)
    first e (inl i) rest = (inl i, ap p (sym i) ∙ e)
    first e (inr b) rest = later (rest b)

    go : (b : Bool) →
        p x ≡ b →
        Among c (cond b (x ∷ filter p xs) (filter p xs)) →
        (Among c (filter p xs) → Among c xs × (p c ≡ true)) →
        Among c (x ∷ xs) × (p c ≡ true)
    go true e b rest = first e b rest
    go false e b rest = later (rest b)

-- ---- what they keep

-- calls that pass stay ordered
pub ordered_filter : (q : SetCall → Bool) (cs : Calls) → Ordered cs → Ordered (filter q cs)
ordered_filter q [] o = tt
ordered_filter q (c ∷ cs) o = go (q c) (ordered_filter q cs o.1)
  where
    go : (b : Bool) → Ordered (filter q cs) → Ordered (cond b (c ∷ filter q cs) (filter q cs))
    go true r = (λ x a. o.0 x (filter_among q cs x a).0, r)
    go false r = r

-- calls that pass stay in order of their call events
pub rising_filter : (q : SetCall → Bool) (cs : Calls) → Rising cs → Rising (filter q cs)
rising_filter q [] o = tt
rising_filter q (c ∷ cs) o = go (q c) (rising_filter q cs o.1)
  where
    go : (b : Bool) → Rising (filter q cs) → Rising (cond b (c ∷ filter q cs) (filter q cs))
    go true r = (λ x a. o.0 x (filter_among q cs x a).0, r)
    go false r = r

pub distinct_filter : (q : SetCall → Bool) (cs : Calls) → Distinct cs → Distinct (filter q cs)
distinct_filter q [] o = tt
distinct_filter q (c ∷ cs) o = go (q c) (distinct_filter q cs o.1)
  where
    go : (b : Bool) → Distinct (filter q cs) → Distinct (cond b (c ∷ filter q cs) (filter q cs))
    go true r = (λ x a. o.0 x (filter_among q cs x a).0, r)
    go false r = r

-- in sets that are alike on those items
pub runs_filter : (p : ℤ → Bool) (s t : Set) (cs : Calls) →
    ((z : ℤ) → p z ≡ true → s z ≡ t z) →
    Runs s cs →
    Runs t (filter (λ c. p c.item) cs)
runs_filter p s t [] h r = tt
runs_filter p s t (c ∷ cs) h r = go (p c.item) refl (λ u g. runs_filter p (after s c) u cs g r.1)
  where
    more : p c.item ≡ true → (z : ℤ) → p z ≡ true → after s c z ≡ after t c z
    more e z f = ap (λ b. after_call z b c) (h z f)

    less : p c.item ≡ false → (z : ℤ) → p z ≡ true → after s c z ≡ t z
    less e z f = after_other s c z (λ i. true≢false (sym f ∙ ap p (sym i) ∙ e)) ∙ h z f

    go : (b : Bool) →
        p c.item ≡ b →
        ((u : Set) → ((z : ℤ) → p z ≡ true → after s c z ≡ u z) → Runs u (filter (λ d. p d.item) cs)) →
        Runs t (cond b (c ∷ filter (λ d. p d.item) cs) (filter (λ d. p d.item) cs))
    go true e later = (r.0 ∙ ap (λ w. Some w) (h c.item e), later (after t c) (more e))
    go false e later = later t (less e)

-- ---- the calls on some items

-- an item is itself
pub is_item_self : (item : ℤ) → is_item item item ≡ true
is_item_self item = (Decides-int_eq item item).1 refl

-- the calls of a plan that are on some items are a plan of the calls on them
pub plan_on : (f : ℤ → Bool) (s : Set) (calls : Calls) → HasPlan s calls → HasPlan s (on_items f calls)
plan_on f s calls q = (
  on_items f q.0,
  record {
    inside = λ c a. let b = filter_among (λ (d : SetCall). f d.item) q.0 c a in
        among_filter (λ (d : SetCall). f d.item) calls c (q.1.inside c b.0) b.1;
    complete = λ c a e. let b = filter_among (λ (d : SetCall). f d.item) calls c a in
        among_filter (λ (d : SetCall). f d.item) q.0 c (q.1.complete c b.0 e) b.1;
    ordered = ordered_filter (λ (d : SetCall). f d.item) q.0 q.1.ordered;
    run = runs_filter f s s q.0 (λ z e. refl) q.1.run;
  },
)

-- if there is no plan on an item, there is none at all
pub no_plan : (calls : Calls) → NoPlanOn calls → HasPlan empty calls → ⊥
no_plan calls n q = n.1 (plan_on (is_item n.0) empty calls q)

-- a run of calls on some items, in another set that is alike on them
runs_on : (f : ℤ → Bool) (s t : Set) (cs : Calls) →
    ((z : ℤ) → f z ≡ true → s z ≡ t z) →
    ((c : SetCall) → Among c cs → f c.item ≡ true) →
    Runs s cs →
    Runs t cs
runs_on f s t [] h k r = tt
runs_on f s t (c ∷ cs) h k r = (
  r.0 ∙ ap (λ w. Some w) (h c.item (k c (inl refl))),
  runs_on f (after s c) (after t c) cs (λ z e. ap (λ b. after_call z b c) (h z e)) (λ d a. k d (inr a)) r.1,
)

-- One call of a list is placed. For the calls on some items, it is one of these calls, or it makes no difference to
-- them.
module _ (f : ℤ → Bool) (s : Set) (p r : Calls) (x : SetCall) where
  -- a call on one of the items is among those on the items
  pub with_it : f x.item ≡ true → on_items f (p ++ x ∷ r) ≡ on_items f p ++ x ∷ on_items f r
  with_it e = filter-append (λ (c : SetCall). f c.item) p (x ∷ r) ∙
      ap (λ b. on_items f p ++ cond b (x ∷ on_items f r) (on_items f r)) e

  pub without_it : on_items f (p ++ r) ≡ on_items f p ++ on_items f r
  without_it = filter-append (λ (c : SetCall). f c.item) p r

  unseen : f x.item ≡ false → on_items f (p ++ x ∷ r) ≡ on_items f (p ++ r)
  unseen e = filter-append (λ (c : SetCall). f c.item) p (x ∷ r) ∙
      ap (λ b. on_items f p ++ cond b (x ∷ on_items f r) (on_items f r)) e ∙ sym without_it

  elsewhere : f x.item ≡ false → HasPlan s (on_items f (p ++ r)) → HasPlan (after s x) (on_items f (p ++ r))
  elsewhere e q = (
    q.0,
    record {
      inside = q.1.inside;
      complete = q.1.complete;
      ordered = q.1.ordered;
      run = runs_on f s (after s x) q.0 (λ z g. sym (after_other s x z (λ i. true≢false (sym g ∙ ap f (sym i) ∙ e))))
          (λ c a. (filter_among (λ (d : SetCall). f d.item) (p ++ r) c (q.1.inside c a)).1) q.1.run;
    },
  )

  -- a plan of the calls on the items, after one of them
  pub placed_on : (f x.item ≡ true → HasPlan s (on_items f p ++ x ∷ on_items f r) →
      HasPlan (after s x) (on_items f p ++ on_items f r))
      → HasPlan s (on_items f (p ++ x ∷ r)) → HasPlan (after s x) (on_items f (p ++ r))
  placed_on step q = go (f x.item) refl
    where
      go : (b : Bool) → f x.item ≡ b → HasPlan (after s x) (on_items f (p ++ r))
      go true e = subst (HasPlan (after s x)) (sym without_it) (step e (subst (HasPlan s) (with_it e) q))
      go false e = elsewhere e (subst (HasPlan s) (unseen e) q)

  -- among those that are seen
  pub seen_among : f x.item ≡ true → (c : SetCall) → Among c (on_items f p ++ x ∷ on_items f r) → Among c (p ++ x ∷ r)
  seen_among e c a = (filter_among (λ (d : SetCall). f d.item) (p ++ x ∷ r) c
      (subst (λ l. Among c l) (sym (with_it e)) a)).0

  -- a call on the items is among those on the items
  pub among_seen : f x.item ≡ true →
      (c : SetCall) →
      f c.item ≡ true →
      Among c (p ++ x ∷ r) →
      Among c (on_items f p ++ x ∷ on_items f r)
  among_seen e c g a = subst (λ l. Among c l) (with_it e) (among_filter (λ (d : SetCall). f d.item) (p ++ x ∷ r) c a g)

  -- the calls on the items are distinct
  pub seen_distinct : f x.item ≡ true → Distinct (p ++ x ∷ r) → Distinct (on_items f p ++ x ∷ on_items f r)
  seen_distinct e d = subst Distinct (with_it e) (distinct_filter (λ (c : SetCall). f c.item) (p ++ x ∷ r) d)
