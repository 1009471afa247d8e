-- Trapped calls are settled for each item alone, and all together then.
use Rattle.std.proofs.Common.{◌≡◌, ◌∙◌, ◌==◌, ◌||◌, ◌⊎◌, ◌+◌, ◌<◌, inl, inr, ℕ, ℤ, Bool, true, false, cond, not, List}
use Rattle.std.proofs.Common.{[], ◌∷◌, ◌++◌, length, filter, get_or, take, take_all, le_of_eq, refl, sym, ap, subst}
use Rattle.std.proofs.Common.{append_assoc, append-nil, eqb-true, eq-eqb, ne_eqb}
use Rattle.std.specs.List.{list_any}
use Rattle.std.specs.Ordering.{int_eq}
use Rattle.std.proofs.lemmas.Bool.{true≢false, or_cases, or_left, or_right}
use Rattle.std.proofs.lemmas.Bool.Decides.{Decides-int_eq}
use Rattle.std.proofs.lemmas.List.{take_more}
use Rattle.std.proofs.lemmas.List.Folds.{list_any-append}
use Rattle.ls_orders.specs.Places.{is_marked}
use Rattle.ls_orders.specs.declared.calls.SetCall.{SetCall}
use Rattle.ls_orders.specs.Rules.{is_returned}
use Rattle.ls_orders.specs.Legal.{Set, empty}
use Rattle.ls_order_search.specs.Plans.{Among}
use Rattle.ls_order_search.specs.Search.{Calls, CallsOf, HasPlan, NoOrder, NoPlanOn, NoWay, NoneTrapped, PlanOf, Rising}
use Rattle.ls_order_search.specs.Search.{Settled, Settling, Way, is_item, on_items, stays}
use Rattle.ls_order_search.specs.Trapped.{is_trapped}
use Rattle.ls_order_search.proofs.Filters.{among_filter, filter_among, rising_filter}
use Rattle.ls_order_search.proofs.Lawful.{Lawful, any_none, way_is}
use Rattle.ls_order_search.proofs.Legality.{any_some, distinct_rising, ends, some_any}
use Rattle.ls_order_search.proofs.Lists.{among_cases, distinct_same}

-- ---- marks of an order

abbrev pub at_place : ℕ → SetCall → Bool
at_place k c = c.called == k

-- one more call of an order is marked
pub marked_more : (old mid new : List Bool) (order : Calls) (i : ℕ) (d : SetCall) →
    i < length order →
    ((k : ℕ) → is_marked mid k ≡ (list_any (at_place k) (take i order) || is_marked old k))
    → ((k : ℕ) → is_marked new k ≡ ((get_or order i d).called == k || is_marked mid k)) → (k : ℕ) →
    is_marked new k ≡ (list_any (at_place k) (take (i + 1) order) || is_marked old k)
marked_more old mid new order i d lt h g k =
    let x = get_or order i d in
    g k ∙ ap (λ b. x.called == k || b) (h k) ∙ swap (x.called == k) (list_any (at_place k) (take i order))
    (is_marked old k)
    ∙ ap (λ b. b || is_marked old k) (sym (list_any-append (at_place k) (take i order) (x ∷ [])))
    ∙ ap (λ l. list_any (at_place k) l || is_marked old k) (sym (take_more order i d lt))
  where
    swap : (a b c : Bool) → (a || (b || c)) ≡ ((b || (a || false)) || c)
    swap true true c = refl
    swap true false c = refl
    swap false true c = refl
    swap false false c = refl

-- all calls of an order are marked
pub marked_all : (old new : List Bool) (order : Calls) (i : ℕ) →
    length order ≡ i →
    ((k : ℕ) → is_marked new k ≡ (list_any (at_place k) (take i order) || is_marked old k))
    → (k : ℕ) → is_marked new k ≡ (list_any (at_place k) order || is_marked old k)
marked_all old new order i len h k = h k ∙ ap (λ l. list_any (at_place k) l || is_marked old k)
    (take_all i order (le_of_eq len))

-- ---- the calls on an item

on_alike : (f : ℤ → Bool) (q r : SetCall → Bool) (cs : Calls) →
    ((c : SetCall) → Among c cs → f c.item ≡ true → q c ≡ r c) →
    on_items f (filter q cs) ≡ on_items f (filter r cs)
on_alike f q r [] h = refl
on_alike f q r (c ∷ cs) h = go (f c.item) refl (on_alike f q r cs (λ d a e. h d (inr a) e))
  where
    fq : Calls
    fq = filter q cs

    fr : Calls
    fr = filter r cs

    more : (t b : Bool) →
        on_items f fq ≡ on_items f fr →
        on_items f (cond b (c ∷ fq) fq) ≡ on_items f (cond b (c ∷ fr) fr)
    more t true e = ap (λ l. cond (f c.item) (c ∷ l) l) e
    more t false e = e

    less : f c.item ≡ false → (b : Bool) (g : Calls) → on_items f (cond b (c ∷ g) g) ≡ on_items f g
    less e true g = ap (λ t. cond t (c ∷ on_items f g) (on_items f g)) e
    less e false g = refl

    go : (t : Bool) →
        f c.item ≡ t →
        on_items f fq ≡ on_items f fr →
        on_items f (cond (q c) (c ∷ fq) fq) ≡ on_items f (cond (r c) (c ∷ fr) fr)
    go true e later = ap (λ b. on_items f (cond b (c ∷ fq) fq)) (h c (inl refl) e) ∙ more true (r c) later
    go false e later = less e (q c) fq ∙ later ∙ sym (less e (r c) fr)

same_item : (a b : ℤ) → int_eq a b ≡ true → a ≡ b
same_item a b = (Decides-int_eq a b).0

-- ---- one call after the other

-- before the first call nothing is settled
pub settling_start : (calls : Calls) (items : Set) (marks : List Bool) →
    ((z : ℤ) → items z ≡ false) →
    marks ≡ [] →
    Settling calls 0 items marks
settling_start calls items marks h e = record {
  plan = λ item is. absurd (true≢false (sym is ∙ h item));
  seen = λ c a t. absurd a;
  only = λ c a m. absurd (true≢false (sym m ∙ ap (λ l. is_marked l c.called) e));
}

module _ (calls : Calls) (i : ℕ) (items : Set) (marks : List Bool) (d : SetCall) (lt : i < length calls)
    (so : Settling calls i items marks) where
  abbrev x : SetCall
  x = get_or calls i d

  seen_more : (items' : Set) →
      ((z : ℤ) → items z ≡ true → items' z ≡ true) →
      (is_trapped x.end ≡ true → items' x.item ≡ true) →
      (c : SetCall) →
      Among c (take (i + 1) calls) →
      is_trapped c.end ≡ true →
      items' c.item ≡ true
  seen_more items' grows this c a t = go (among_cases c (take i calls) (x ∷ [])
      (subst (λ l. Among c l) (take_more calls i d lt) a))
    where
      go : Among c (take i calls) ⊎ Among c (x ∷ []) → items' c.item ≡ true
      go (inl b) = grows c.item (so.seen c b t)
      go (inr (inl e)) = subst (λ (y : SetCall). items' y.item ≡ true) e
          (this (ap (λ (y : SetCall). is_trapped y.end) e ∙ t))
      go (inr (inr b)) = absurd b

  -- a call whose item is settled, or that isn't trapped, settles nothing
  pub settling_same : (is_trapped x.end ≡ true → items x.item ≡ true) → Settling calls (i + 1) items marks
  settling_same this = record { plan = so.plan; seen = seen_more items (λ z e. e) this; only = so.only }

  -- the item of x is settled by an order of the calls on it
  module _ (items' : Set) (marks' : List Bool) (p : Calls) (rises : Rising calls) (new : items x.item ≡ false)
      (way : Way [] (on_items (is_item x.item) calls) p)
      (puts : (z : ℤ) → items' z ≡ (int_eq x.item z || items z))
      (marks_all : (k : ℕ) → is_marked marks' k ≡ (list_any (at_place k) p || is_marked marks k)) where
    abbrev own : Calls
    own = on_items (is_item x.item) calls

    l : Lawful own p
    l = way_is [] own p way

    of_calls : (c : SetCall) → Among c p → Among c calls
    of_calls c a = (filter_among (λ (e : SetCall). is_item x.item e.item) calls c (l.inside c a)).0

    on_it : (c : SetCall) → Among c p → c.item ≡ x.item
    on_it c a = same_item c.item x.item (filter_among (λ (e : SetCall). is_item x.item e.item) calls c (l.inside c a)).1

    -- a call at the place of one of the order's is that one
    by_place : (c : SetCall) → Among c calls → list_any (at_place c.called) p ≡ true → Among c p
    by_place c a e =
        let r = some_any (at_place c.called) p e in
        subst (λ y. Among y p) (distinct_same calls r.0 c (distinct_rising calls rises) (of_calls r.0 r.1) a
        (eqb-true r.0.called c.called r.2)) r.1

    grows : (z : ℤ) → items z ≡ true → items' z ≡ true
    grows z e = puts z ∙ or_right (int_eq x.item z) (items z) e

    this_item : items' x.item ≡ true
    this_item = puts x.item ∙ or_left (int_eq x.item x.item) (items x.item) ((Decides-int_eq x.item x.item).1 refl)

    marked_in : (c : SetCall) → Among c p → is_marked marks' c.called ≡ true
    marked_in c a = marks_all c.called ∙ or_left (list_any (at_place c.called) p) (is_marked marks c.called)
        (any_some (at_place c.called) p c a (eq-eqb c.called c.called refl))

    -- a marked call on the item is one of the order's
    in_marked : (c : SetCall) → Among c calls → c.item ≡ x.item → is_marked marks' c.called ≡ true → Among c p
    in_marked c a i m = go (or_cases (list_any (at_place c.called) p) (is_marked marks c.called)
        (sym (marks_all c.called) ∙ m))
      where
        go : (list_any (at_place c.called) p ≡ true) ⊎ (is_marked marks c.called ≡ true) → Among c p
        go (inl e) = by_place c a e
        go (inr e) = absurd (true≢false (sym (so.only c a e) ∙ ap items i ∙ new))

    stays_in : (c : SetCall) → Among c p → stays marks' c ≡ true
    stays_in c a = or_right (not (is_trapped c.end)) (is_marked marks' c.called) (marked_in c a)

    plan_here : PlanOf marks' calls x.item
    plan_here = (
      p,
      record {
        inside = λ c a. among_filter (λ (e : SetCall). is_item x.item e.item) (filter (stays marks') calls) c
            (among_filter (stays marks') calls c (of_calls c a) (stays_in c a))
            ((Decides-int_eq c.item x.item).1 (on_it c a));
        complete = λ c a e. complete c a (ends c.end e);
        ordered = l.ordered;
        run = l.run;
      },
    )
      where
        complete : (c : SetCall) →
            Among c (on_items (is_item x.item) (filter (stays marks') calls)) →
            (is_returned c.end ≡ true) ⊎ (is_trapped c.end ≡ true) →
            Among c p
        complete c a how = by how
          where
            b : Among c (filter (stays marks') calls) × (is_item x.item c.item ≡ true)
            b = filter_among (λ (e : SetCall). is_item x.item e.item) (filter (stays marks') calls) c a

            f : Among c calls × (stays marks' c ≡ true)
            f = filter_among (stays marks') calls c b.0

            marked : is_trapped c.end ≡ true →
                (not (is_trapped c.end) ≡ true) ⊎ (is_marked marks' c.called ≡ true) →
                is_marked marks' c.called ≡ true
            marked t (inl n) = absurd (true≢false (sym n ∙ ap not t))
            marked t (inr m) = m

            by : (is_returned c.end ≡ true) ⊎ (is_trapped c.end ≡ true) → Among c p
            by (inl r) = l.returned c (among_filter (λ (e : SetCall). is_item x.item e.item) calls c f.0 b.1) r
            by (inr t) = in_marked c f.0 (same_item c.item x.item b.1)
                (marked t (or_cases (not (is_trapped c.end)) (is_marked marks' c.called) f.1))

    -- the marks on other items are as they were
    as_before : (z : ℤ) → (z ≡ x.item → ⊥) → PlanOf marks calls z → PlanOf marks' calls z
    as_before z other q = subst (HasPlan empty) (sym (on_alike (is_item z) (stays marks') (stays marks) calls same)) q
      where
        same : (c : SetCall) → Among c calls → is_item z c.item ≡ true → stays marks' c ≡ stays marks c
        same c a e = ap (λ b. not (is_trapped c.end) || b) (marks_all c.called ∙
            ap (λ b. b || is_marked marks c.called) (any_none (at_place c.called) p apart))
          where
            apart : (y : SetCall) → Among y p → at_place c.called y ≡ false
            apart y b = ne_eqb y.called c.called (λ i.
                let is = distinct_same calls y c (distinct_rising calls rises) (of_calls y b) a i in
                other (sym (same_item c.item z e) ∙ ap (λ (w : SetCall). w.item) (sym is) ∙ on_it y b))

    plan_all : (z : ℤ) → items' z ≡ true → PlanOf marks' calls z
    plan_all z e = go (int_eq x.item z) refl
      where
        go : (b : Bool) → int_eq x.item z ≡ b → PlanOf marks' calls z
        go true i = subst (PlanOf marks' calls) (same_item x.item z i) plan_here
        go false i = as_before z (λ k. true≢false (sym ((Decides-int_eq x.item z).1 (sym k)) ∙ i))
            (so.plan z (ap (λ b. b || items z) (sym i) ∙ sym (puts z) ∙ e))

    -- the item of a trapped call is settled
    pub settling_more : Settling calls (i + 1) items' marks'
    settling_more = record {
      plan = plan_all;
      seen = seen_more items' grows (λ t. this_item);
      only = λ c a m. only c a (or_cases (list_any (at_place c.called) p) (is_marked marks c.called)
          (sym (marks_all c.called) ∙ m));
    }
      where
        only : (c : SetCall) →
            Among c calls →
            (list_any (at_place c.called) p ≡ true) ⊎ (is_marked marks c.called ≡ true) →
            items' c.item ≡ true
        only c a (inl e) = ap items' (on_it c (by_place c a e)) ∙ this_item
        only c a (inr e) = grows c.item (so.only c a e)

-- ---- all items

-- after the last call each item is settled
pub settled : (calls : Calls) (i : ℕ) (items : Set) (marks : List Bool) →
    length calls ≡ i →
    Settling calls i items marks →
    Settled calls marks
settled calls i items marks len so item = go (items item) refl
  where
    go : (b : Bool) → items item ≡ b → PlanOf marks calls item ⊎ NoneTrapped calls item
    go true e = inl (so.plan item e)
    go false e = inr (λ c a i'. untrapped c a i' (is_trapped c.end) refl)
      where
        untrapped : (c : SetCall) →
            Among c calls →
            c.item ≡ item →
            (b : Bool) →
            is_trapped c.end ≡ b →
            is_trapped c.end ≡ false
        untrapped c a is true t = absurd
            (true≢false (sym (so.seen c (subst (λ l. Among c l) (sym (take_all i calls (le_of_eq len))) a) t) ∙
            ap items is ∙ e))
        untrapped c a is false t = t

-- without trapped calls there is one way alone
one_way : (front cs : Calls) →
    ((c : SetCall) → Among c cs → is_trapped c.end ≡ false) →
    (HasPlan empty (front ++ cs) → ⊥) →
    NoWay front cs
one_way front [] h nay = λ q. nay (subst (HasPlan empty) (sym (append-nil front)) q)
one_way front (c ∷ cs) h nay = (
  one_way (front ++ c ∷ []) cs (λ d a. h d (inr a)) (λ q. nay
      (subst (HasPlan empty) (append_assoc front (c ∷ []) cs) q)),
  λ t. absurd (true≢false (sym t ∙ h c (inl refl))),
)

all_stay : (q : SetCall → Bool) (f : ℤ → Bool) (cs : Calls) →
    ((c : SetCall) → Among c cs → f c.item ≡ true → q c ≡ true) →
    on_items f (filter q cs) ≡ on_items f cs
all_stay q f [] h = refl
all_stay q f (c ∷ cs) h = go (f c.item) refl (all_stay q f cs (λ d a e. h d (inr a) e))
  where
    fq : Calls
    fq = filter q cs

    less : f c.item ≡ false → (b : Bool) → on_items f (cond b (c ∷ fq) fq) ≡ on_items f fq
    less e true = ap (λ t. cond t (c ∷ on_items f fq) (on_items f fq)) e
    less e false = refl

    go : (t : Bool) →
        f c.item ≡ t →
        on_items f fq ≡ on_items f cs →
        on_items f (cond (q c) (c ∷ fq) fq) ≡ cond (f c.item) (c ∷ on_items f cs) (on_items f cs)
    go true e later = ap (λ b. on_items f (cond b (c ∷ fq) fq)) (h c (inl refl) e) ∙
        ap (λ l. cond (f c.item) (c ∷ l) l) later
    go false e later = less e (q c) ∙ later ∙ sym (ap (λ t. cond t (c ∷ on_items f cs) (on_items f cs)) e)

-- Where the calls that stay have no plan on an item, no order is legal.
pub none_settled : (calls : Calls) (marks : List Bool) →
    Settled calls marks →
    NoPlanOn (filter (stays marks) calls) →
    NoOrder calls
none_settled calls marks so n = go (so n.0)
  where
    go : PlanOf marks calls n.0 ⊎ NoneTrapped calls n.0 → NoOrder calls
    go (inl q) = absurd (n.1 q)
    go (inr none) = (
      is_item n.0,
      one_way [] (on_items (is_item n.0) calls) untrapped
          (λ q. n.1 (subst (HasPlan empty) (sym whole) q)),
    )
      where
        untrapped : (c : SetCall) → Among c (on_items (is_item n.0) calls) → is_trapped c.end ≡ false
        untrapped c a = let b = filter_among (λ (d : SetCall). is_item n.0 d.item) calls c a in
            none c b.0 (same_item c.item n.0 b.1)

        whole : on_items (is_item n.0) (filter (stays marks) calls) ≡ on_items (is_item n.0) calls
        whole = all_stay (stays marks) (is_item n.0) calls (λ c a e.
            or_left (not (is_trapped c.end)) (is_marked marks c.called) (ap not (none c a (same_item c.item n.0 e))))

-- ---- the calls on an item are calls too

-- the calls that pass are calls of the same events
pub calls_filter : (q : SetCall → Bool) (events : ℕ) (calls : Calls) →
    CallsOf events calls →
    CallsOf events (filter q calls)
calls_filter q events calls h = record {
  rising = rising_filter q calls h.rising;
  within = λ c a. h.within c (filter_among q calls c a).0;
  lasting = λ c a. h.lasting c (filter_among q calls c a).0;
}

-- if no call is trapped, there is nothing to settle
pub none_trapped : (calls : Calls) (marks : List Bool) → list_any (λ c. is_trapped c.end) calls ≡ false →
    Settled calls marks
none_trapped calls marks none item = inr (λ c a e. by c a (is_trapped c.end) refl)
  where
    by : (c : SetCall) → Among c calls → (b : Bool) → is_trapped c.end ≡ b → is_trapped c.end ≡ false
    by c a false t = t
    by c a true t = absurd (true≢false (sym (any_some (λ d. is_trapped d.end) calls c a t) ∙ none))
