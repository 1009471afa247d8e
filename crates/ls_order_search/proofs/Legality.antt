-- A legal order gives a plan of the calls, some trapped ones left out.
use Rattle.std.proofs.Common.{◌≡◌, ◌∙◌, ◌||◌, ◌⊎◌, ◌+◌, ◌≤◌, inl, inr, ℕ, ℤ, Bool, true, false, cond, not, List, []}
use Rattle.std.proofs.Common.{◌∷◌, ◌++◌, map, filter, find, Option, Some, None, refl, sym, ap, subst, append_assoc}
use Rattle.std.proofs.Common.{append-nil, arith, eqb-true, eq-eqb, ne_of_lt}
use Rattle.std.specs.List.{list_any}
use Rattle.ls_orders.specs.Places.{is_marked}
use Rattle.std.proofs.lemmas.Bool.{eqb-false, true≢false, or_cases, or_parts, or_left, or_right}
use Rattle.ls_report.specs.Events.{Event, Text}
use Rattle.ls_orders.specs.declared.calls.Operation.{Operation}
use Rattle.ls_orders.specs.declared.calls.Operation.TheVariants.{Add, Remove, Contains}
use Rattle.ls_orders.specs.declared.calls.End.{End}
use Rattle.ls_orders.specs.declared.calls.End.TheVariants.{Pending, Returned, Trapped}
use Rattle.ls_orders.specs.declared.calls.SetCall.{SetCall}
use Rattle.ls_orders.specs.SetCalls.{asked_of, call_named, calls_from, end_of, set_calls, with_asked, Asked}
use Rattle.ls_orders.specs.Rules.{answer_of, differs, ended_before, is_returned, is_same}
use Rattle.ls_orders.specs.Legal.{IsLegal, IsRun, Set, after, empty}
use Rattle.ls_order_search.specs.Plans.{Among, Distinct, MayPrecede, IsPlan, Ordered, Runs, has_end, turns, want}
use Rattle.ls_order_search.specs.Search.{HasPlan, Calls, Lasting, NoOrder, NoWay, Rising, Way, Within, on_items, stays}
use Rattle.ls_order_search.specs.Trapped.{is_trapped}
use Rattle.ls_order_search.proofs.Lists.{distinct_same}
use Rattle.ls_order_search.proofs.Sets.{after_kept, runs_same}
use Rattle.ls_order_search.proofs.Filters.{among_filter, filter_among, ordered_filter, runs_filter}

-- ---- calls that come without need are left out

-- a call whose reply doesn't differ has its right place, or could as well be left out
stands : (e : End) (o : Operation) (s : Bool) →
    differs e (answer_of o s) ≡ false →
    (want e o ≡ Some s) ⊎ ((is_returned e ≡ false) × (turns o s ≡ false))
stands Pending Add true h = inr (refl, refl)
stands Pending Add false h = inl refl
stands Pending Remove true h = inl refl
stands Pending Remove false h = inr (refl, refl)
stands Pending Contains s h = inr (refl, refl)
stands (Trapped n) Add true h = inr (refl, refl)
stands (Trapped n) Add false h = inl refl
stands (Trapped n) Remove true h = inl refl
stands (Trapped n) Remove false h = inr (refl, refl)
stands (Trapped n) Contains s h = inr (refl, refl)
stands (Returned n None) o s h = absurd (true≢false h)
stands (Returned n (Some true)) Add true h = absurd (true≢false h)
stands (Returned n (Some true)) Add false h = inl refl
stands (Returned n (Some true)) Remove true h = inl refl
stands (Returned n (Some true)) Remove false h = absurd (true≢false h)
stands (Returned n (Some true)) Contains true h = inl refl
stands (Returned n (Some true)) Contains false h = absurd (true≢false h)
stands (Returned n (Some false)) Add true h = inl refl
stands (Returned n (Some false)) Add false h = absurd (true≢false h)
stands (Returned n (Some false)) Remove true h = absurd (true≢false h)
stands (Returned n (Some false)) Remove false h = inl refl
stands (Returned n (Some false)) Contains true h = absurd (true≢false h)
stands (Returned n (Some false)) Contains false h = inl refl

record Tidied (s : Set) (cs : Calls) : Type 0 where
  calls : Calls
  inside : (c : SetCall) → Among c calls → Among c cs
  returned : (c : SetCall) → Among c cs → is_returned c.end ≡ true → Among c calls
  ordered : Ordered calls
  run : Runs s calls

tidy : (s : Set) (cs : Calls) → IsRun s cs → Ordered cs → Tidied s cs
tidy s [] r o = record { calls = []; inside = λ c a. a; returned = λ c a e. a; ordered = tt; run = tt }
tidy s (c ∷ cs) r o = go (tidy (after s c) cs r.1 o.1) (stands c.end c.operation (s c.item) r.0)
  where
    kept : (t : Calls) → ((d : SetCall) → Among d t → Among d cs) → (d : SetCall) → Among d (c ∷ t) → Among d (c ∷ cs)
    kept t i d (inl e) = inl e
    kept t i d (inr a) = inr (i d a)

    there : (t : Calls) →
        ((d : SetCall) → Among d cs → is_returned d.end ≡ true → Among d t) →
        (d : SetCall) →
        Among d (c ∷ cs) →
        is_returned d.end ≡ true →
        Among d (c ∷ t)
    there t i d (inl e) h = inl e
    there t i d (inr a) h = inr (i d a h)

    out : (t : Calls) →
        is_returned c.end ≡ false →
        ((d : SetCall) → Among d cs → is_returned d.end ≡ true → Among d t) →
        (d : SetCall) →
        Among d (c ∷ cs) →
        is_returned d.end ≡ true →
        Among d t
    out t n i d (inl e) h = absurd (true≢false (sym h ∙ ap (λ (x : SetCall). is_returned x.end) (sym e) ∙ n))
    out t n i d (inr a) h = i d a h

    go : Tidied (after s c) cs →
        (want c.end c.operation ≡ Some (s c.item)) ⊎ ((is_returned c.end ≡ false) ×
        (turns c.operation (s c.item) ≡ false)) →
        Tidied s (c ∷ cs)
    go t (inl w) = record {
      calls = c ∷ t.calls;
      inside = kept t.calls t.inside;
      returned = there t.calls t.returned;
      ordered = (λ x a. o.0 x (t.inside x a), t.ordered);
      run = (w, t.run);
    }
    go t (inr k) = record {
      calls = t.calls;
      inside = λ d a. inr (t.inside d a);
      returned = out t.calls k.0 t.returned;
      ordered = t.ordered;
      run = runs_same (after s c) s t.calls (after_kept s c k.1) t.run;
    }

-- ---- the calls of a legal order

not_any : (q : SetCall → Bool) (xs : Calls) → list_any q xs ≡ false → (c : SetCall) → Among c xs → q c ≡ false
not_any q [] h c a = absurd a
not_any q (x ∷ xs) h c (inl e) = ap q (sym e) ∙ (or_parts (q x) (list_any q xs) h).0
not_any q (x ∷ xs) h c (inr a) = not_any q xs (or_parts (q x) (list_any q xs) h).1 c a

-- if any call passes, one among the calls does
pub some_any : (q : SetCall → Bool) (xs : Calls) → list_any q xs ≡ true → (c : SetCall) × Among c xs × (q c ≡ true)
some_any q [] h = absurd (true≢false (sym h))
some_any q (x ∷ xs) h = go (or_cases (q x) (list_any q xs) h) (λ e. some_any q xs e)
  where
    more : ((c : SetCall) × Among c xs × (q c ≡ true)) → (c : SetCall) × Among c (x ∷ xs) × (q c ≡ true)
    more r = (r.0, inr r.1, r.2)

    go : (q x ≡ true) ⊎ (list_any q xs ≡ true) →
        (list_any q xs ≡ true → (c : SetCall) × Among c xs × (q c ≡ true)) →
        (c : SetCall) × Among c (x ∷ xs) × (q c ≡ true)
    go (inl e) later = (x, inl refl, e)
    go (inr e) later = more (later e)

-- if a call among them passes, one passes
pub any_some : (q : SetCall → Bool) (xs : Calls) (c : SetCall) → Among c xs → q c ≡ true → list_any q xs ≡ true
any_some q [] c a e = absurd a
any_some q (x ∷ xs) c (inl i) e = or_left (q x) (list_any q xs) (ap q i ∙ e)
any_some q (x ∷ xs) c (inr a) e = or_right (q x) (list_any q xs) (any_some q xs c a e)

split_among : (x : SetCall) (xs : Calls) → Among x xs → (m : Calls) × (b : Calls) × (xs ≡ m ++ x ∷ b)
split_among x [] a = absurd a
split_among x (y ∷ ys) (inl e) = ([], ys, ap (λ z. z ∷ ys) e)
split_among x (y ∷ ys) (inr a) = let r = split_among x ys a in (y ∷ r.0, r.1, ap (λ l. y ∷ l) r.2)

module _ (calls : Calls)
    (once : (front back : Calls) (x : SetCall) → calls ≡ front ++ x ∷ back → list_any (is_same x) back ≡ false)
    (in_time : (front middle back : Calls) (x y : SetCall) → calls ≡ front ++ y ∷ (middle ++ x ∷ back) →
    ended_before x.end y.called ≡ false) where
  ordered_from : (front cs : Calls) → calls ≡ front ++ cs → Ordered cs
  ordered_from front [] e = tt
  ordered_from front (y ∷ ys) e = (before, ordered_from (front ++ y ∷ []) ys (e ∙ sym (append_assoc front (y ∷ []) ys)))
    where
      before : (x : SetCall) → Among x ys → MayPrecede y x
      before x a =
          let at = split_among x ys a in
          record {
            in_time = in_time front at.0 at.1 x y (e ∙ ap (λ l. front ++ y ∷ l) at.2);
            apart = λ i. eqb-false x.called y.called (not_any (is_same y) ys (once front ys y e) x a) (sym i);
          }

-- the call that is found is among the calls
pub found_among : (p : SetCall → Bool) (xs : Calls) (c : SetCall) → find p xs ≡ Some c → Among c xs
found_among p [] c e = cc
found_among p (x ∷ xs) c e = go (p x) e (λ i. found_among p xs c i)
  where
    same : Some x ≡ Some c → x ≡ c
    same k = cc

    go : (b : Bool) → cond b (Some x) (find p xs) ≡ Some c → (find p xs ≡ Some c → Among c xs) → Among c (x ∷ xs)
    go true i later = inl (same i)
    go false i later = inr (later i)

named_among : (look : Text → Option SetCall) (xs : Calls) →
    ((q : Text) (c : SetCall) → look q ≡ Some c → Among c xs) →
    (order : List Text) (calls : Calls) →
    map look order ≡ map (λ c. Some c) calls
    → (c : SetCall) → Among c calls → Among c xs
named_among look xs h [] [] e c a = absurd a
named_among look xs h [] (d ∷ ds) e c a = absurd cc
named_among look xs h (n ∷ ns) [] e c a = absurd a
named_among look xs h (n ∷ ns) (d ∷ ds) e c (inl i) = let head : look n ≡ Some d = cc in
    subst (λ z. Among z xs) i (h n d head)
named_among look xs h (n ∷ ns) (d ∷ ds) e c (inr a) = let tail : map look ns ≡ map (λ c. Some c) ds = cc in
    named_among look xs h ns ds tail c a

-- ---- which of the trapped calls stay

no_plan_of : (p : SetCall → Bool) →
    ((c : SetCall) → p c ≡ false → is_trapped c.end ≡ true) →
    (front back : Calls) →
    NoWay front back →
    HasPlan empty (front ++ filter p back) →
    ⊥
no_plan_of p h front [] nay q = nay (subst (HasPlan empty) (append-nil front) q)
no_plan_of p h front (c ∷ cs) nay q =
    go (p c) refl q (λ w. no_plan_of p h (front ++ c ∷ []) cs nay.0 w) (λ t w. no_plan_of p h front cs (nay.1 t) w)
  where
    go : (b : Bool) →
        p c ≡ b →
        HasPlan empty (front ++ cond b (c ∷ filter p cs) (filter p cs)) →
        (HasPlan empty ((front ++ c ∷ []) ++ filter p cs) → ⊥)
        → (is_trapped c.end ≡ true → HasPlan empty (front ++ filter p cs) → ⊥) → ⊥
    go true e w with' without = with' (subst (HasPlan empty) (sym (append_assoc front (c ∷ []) (filter p cs))) w)
    go false e w with' without = without (h c e) w

-- ---- the calls of a history rise

-- calls in order of their call events are distinct
pub distinct_rising : (xs : Calls) → Rising xs → Distinct xs
distinct_rising [] h = tt
distinct_rising (x ∷ xs) h = (λ y a. ne_of_lt (h.0 y a), distinct_rising xs h.1)

module _ (at : ℕ) (end : End) (cs : Calls) (from : (c : SetCall) → Among c cs → at + 1 ≤ c.called) where
  with_from : (o : Option Asked) (c : SetCall) → Among c (with_asked o at end cs) → at ≤ c.called
  with_from None c a = let le = from c a in omega arith
  with_from (Some q) c (inl e) = let same : at ≡ c.called = ap (λ (d : SetCall). d.called) e in omega arith
  with_from (Some q) c (inr a) = let le = from c a in omega arith

  with_rising : (o : Option Asked) → Rising cs → Rising (with_asked o at end cs)
  with_rising None r = r
  with_rising (Some q) r = (λ c a. let le = from c a in omega arith, r)

-- the calls from a place on are called there or later
pub calls_later : (at : ℕ) (es : List Event) (c : SetCall) → Among c (calls_from at es) → at ≤ c.called
calls_later at [] c a = absurd a
calls_later at (e ∷ es) c a = with_from at (end_of e.thread e.call (at + 1) es) (calls_from (at + 1) es)
    (λ d b. calls_later (at + 1) es d b) (asked_of e.occurrence) c a

-- the calls of a history are in order of their call events
pub calls_rising : (at : ℕ) (es : List Event) → Rising (calls_from at es)
calls_rising at [] = tt
calls_rising at (e ∷ es) = with_rising at (end_of e.thread e.call (at + 1) es) (calls_from (at + 1) es)
    (λ d b. calls_later (at + 1) es d b) (asked_of e.occurrence) (calls_rising (at + 1) es)

-- a call that has an end has returned or was trapped
pub ends : (e : End) → has_end e ≡ true → (is_returned e ≡ true) ⊎ (is_trapped e ≡ true)
ends Pending h = absurd (true≢false (sym h))
ends (Returned at r) h = inl refl
ends (Trapped at) h = inr refl

-- ---- the trapped calls that are left out

-- a plan with some trapped calls left out
pub way_by : (p : SetCall → Bool) →
    ((c : SetCall) → p c ≡ false → is_trapped c.end ≡ true) →
    (front back o : Calls) →
    IsPlan empty (front ++ filter p back) o →
    Way front back o
way_by p h front [] o q = subst (λ l. IsPlan empty l o) (append-nil front) q
way_by p h front (c ∷ cs) o q = go (p c) refl q (λ w. way_by p h (front ++ c ∷ []) cs o w)
    (λ w. way_by p h front cs o w)
  where
    go : (b : Bool) →
        p c ≡ b →
        IsPlan empty (front ++ cond b (c ∷ filter p cs) (filter p cs)) o →
        (IsPlan empty ((front ++ c ∷ []) ++ filter p cs) o → Way (front ++ c ∷ []) cs o)
        → (IsPlan empty (front ++ filter p cs) o → Way front cs o) →
        Way (front ++ c ∷ []) cs o ⊎ ((is_trapped c.end ≡ true) × Way front cs o)
    go true e w with' without = inl
        (with' (subst (λ l. IsPlan empty l o) (sym (append_assoc front (c ∷ []) (filter p cs))) w))
    go false e w with' without = inr (h c e, without w)

left_trapped : (marks : List Bool) (c : SetCall) → stays marks c ≡ false → is_trapped c.end ≡ true
left_trapped marks c e = flip (is_trapped c.end) (or_parts (not (is_trapped c.end)) (is_marked marks c.called) e).0
  where
    flip : (b : Bool) → not b ≡ false → b ≡ true
    flip true i = refl
    flip false i = absurd (true≢false i)

-- an order of the calls that stay is a way
pub joint_way : (marks : List Bool) (events : ℕ) (calls chosen o : Calls) →
    chosen ≡ filter (stays marks) calls →
    (Within events chosen → Lasting chosen → IsPlan empty chosen o) →
    Within events calls →
    Lasting calls →
    Way [] calls o
joint_way marks events calls chosen o e h w l =
    way_by (stays marks) (left_trapped marks) [] calls o (subst (λ x. IsPlan empty x o) e
    (h (λ c a. w c (among c a)) (λ c a. l c (among c a))))
  where
    among : (c : SetCall) → Among c chosen → Among c calls
    among c a = (filter_among (stays marks) calls c (subst (λ x. Among c x) e a)).0

-- ---- the calls of a legal order

module _ (h : List Event) (order : List Text) (l : IsLegal h order) where
  -- the calls of a legal order are ordered
  pub legal_ordered : Ordered l.calls
  legal_ordered = ordered_from l.calls l.once l.in_time [] l.calls refl

  pub legal_inside : (c : SetCall) → Among c l.calls → Among c (set_calls h)
  legal_inside = named_among (call_named h (set_calls h)) (set_calls h) (λ q c e. found_among _ (set_calls h) c e) order
      l.calls l.named

  -- a call that is there by its place is there
  pub there : (c : SetCall) (cs : Calls) →
      ((d : SetCall) → Among d cs → Among d (set_calls h)) →
      Among c (set_calls h) →
      list_any (is_same c) cs ≡ true →
      Among c cs
  there c cs in' a e =
      let r = some_any (is_same c) cs e in
      subst (λ d. Among d cs) (distinct_same (set_calls h) r.0 c (distinct_rising (set_calls h) (calls_rising 0 h))
      (in' r.0 r.1) a (eqb-true r.0.called c.called r.2)) r.1

  -- each returned call is in a legal order
  pub legal_returned : (c : SetCall) → Among c (set_calls h) → is_returned c.end ≡ true → Among c l.calls
  legal_returned c a r =
      let at = split_among c (set_calls h) a in
      there c l.calls legal_inside a (l.complete at.0 at.1 c at.2 r)

-- if the calls on some items have no order, no order is legal
pub never_legal : (h : List Event) (order : List Text) → NoOrder (set_calls h) → IsLegal h order → ⊥
never_legal h order nay l = no_plan_of chosen not_chosen [] (on_items nay.0 all) nay.1
    (on_items nay.0 t.calls, some nay.0)
  where
    all : Calls
    all = set_calls h

    t : Tidied empty l.calls
    t = tidy empty l.calls l.run (legal_ordered h order l)

    chosen : SetCall → Bool
    chosen c = not (is_trapped c.end) || list_any (is_same c) t.calls

    not_chosen : (c : SetCall) → chosen c ≡ false → is_trapped c.end ≡ true
    not_chosen c e = flip (is_trapped c.end) (or_parts (not (is_trapped c.end)) (list_any (is_same c) t.calls) e).0
      where
        flip : (b : Bool) → not b ≡ false → b ≡ true
        flip true i = refl
        flip false i = absurd (true≢false i)

    in_all : (c : SetCall) → Among c t.calls → Among c all
    in_all c a = legal_inside h order l c (t.inside c a)

    complete : (c : SetCall) →
        Among c all →
        chosen c ≡ true →
        (is_returned c.end ≡ true) ⊎ (is_trapped c.end ≡ true) →
        Among c t.calls
    complete c a s (inl r) = t.returned c (legal_returned h order l c a r) r
    complete c a s (inr r) = there h order l c t.calls in_all a
        (go (or_cases (not (is_trapped c.end)) (list_any (is_same c) t.calls) s))
      where
        go : (not (is_trapped c.end) ≡ true) ⊎ (list_any (is_same c) t.calls ≡ true) →
            list_any (is_same c) t.calls ≡ true
        go (inl n) = absurd (true≢false (sym n ∙ ap not r))
        go (inr e) = e

    stay : (c : SetCall) → Among c t.calls → chosen c ≡ true
    stay c a = or_right (not (is_trapped c.end)) (list_any (is_same c) t.calls)
        (any_some (is_same c) t.calls c a (eq-eqb c.called c.called refl))

    some : (p : ℤ → Bool) → IsPlan empty (filter chosen (on_items p all)) (on_items p t.calls)
    some p = record {
      inside = λ c a.
          let b = filter_among (λ (d : SetCall). p d.item) t.calls c a in
          among_filter chosen (on_items p all) c (among_filter (λ (d : SetCall). p d.item) all c (in_all c b.0) b.1)
          (stay c b.0);
      complete = λ c a e.
          let b = filter_among chosen (on_items p all) c a in
          let d = filter_among (λ (y : SetCall). p y.item) all c b.0 in
          among_filter (λ (y : SetCall). p y.item) t.calls c (complete c d.0 b.1 (ends c.end e)) d.1;
      ordered = ordered_filter (λ (d : SetCall). p d.item) t.calls t.ordered;
      run = runs_filter p empty empty t.calls (λ z e. refl) t.run;
    }
