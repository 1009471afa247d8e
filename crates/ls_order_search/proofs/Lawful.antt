-- What the search finds is a legal order.
use Rattle.std.proofs.Common.{◌≡◌, ◌∙◌, ◌==◌, ◌&&◌, ◌⊎◌, ◌+◌, ◌<◌, ◌≤◌, ◌^◌, inl, inr, ℕ, Bool, true, false, cond, List}
use Rattle.std.proofs.Common.{[], ◌∷◌, ◌++◌, length, map, Option, Some, None, refl, sym, ap, ap₂, subst, append_assoc}
use Rattle.std.proofs.Common.{append-nil, arith, le-ltb, lt-ltb, ne_eqb, eq-eqb}
use Rattle.std.specs.List.{list_any}
use Rattle.std.specs.Str.{bytes_eq}
use Rattle.std.proofs.lemmas.Bool.{true≢false, or_from}
use Rattle.ls_report.specs.Events as events
use Rattle.ls_report.specs.Events.{Event, Occurrence, Text}
use Rattle.ls_report.specs.Discipline.{is_history}
use Rattle.ls_orders.specs.declared.calls.Operation.{Operation}
use Rattle.ls_orders.specs.declared.calls.Operation.TheVariants.{Add, Remove, Contains}
use Rattle.ls_orders.specs.declared.calls.End.{End}
use Rattle.ls_orders.specs.declared.calls.End.TheVariants.{Pending, Returned, Trapped}
use Rattle.ls_orders.specs.declared.calls.SetCall.{SetCall}
use Rattle.ls_orders.specs.SetCalls.{Asked, asked_of, call_named, calls_from, end_at, end_of, first_foreign, set_calls}
use Rattle.ls_orders.specs.SetCalls.{with_asked}
use Rattle.ls_orders.specs.Rules.{answer_of, differs, ended_before, is_returned, is_same, named_by}
use Rattle.ls_orders.specs.Legal.{IsLegal, IsRun, Set, after, empty}
use Rattle.ls_order_search.specs.Plans.{Among, MayPrecede, Ordered, Runs, has_end, needed, want}
use Rattle.ls_order_search.specs.Search.{Calls, CallsOf, Lasting, Way, Within}
use Rattle.ls_order_search.specs.Trapped.{is_trapped}
use Rattle.ls_order_search.proofs.Lists.{among_either, among_front, among_it, among_with}
use Rattle.ls_order_search.proofs.Sets.{some_same}
use Rattle.ls_order_search.proofs.Legality.{any_some, calls_rising}
use Rattle.ls_order_search.proofs.Names.{found_by_name}

-- ---- the calls that were chosen

-- an order of all calls that have to be in it, in time, as a run of the set
pub record Lawful (all order : Calls) : Type 0 where
  pub inside : (c : SetCall) → Among c order → Among c all
  pub returned : (c : SetCall) → Among c all → is_returned c.end ≡ true → Among c order
  pub ordered : Ordered order
  pub run : Runs empty order

returned_end : (e : End) → is_returned e ≡ true → has_end e ≡ true
returned_end Pending h = absurd (true≢false (sym h))
returned_end (Trapped n) h = refl
returned_end (Returned n r) h = refl

not_both : (e : End) → is_returned e ≡ true → is_trapped e ≡ true → ⊥
not_both Pending h t = true≢false (sym h)
not_both (Trapped n) h t = true≢false (sym h)
not_both (Returned n r) h t = true≢false (sym t)

-- a way is such an order
pub way_is : (front back p : Calls) → Way front back p → Lawful (front ++ back) p
way_is front [] p w = record {
  inside = λ c a. among_front c front [] (w.inside c a);
  returned = λ c a e. w.complete c (subst (λ l. Among c l) (append-nil front) a) (returned_end c.end e);
  ordered = w.ordered;
  run = w.run;
}
way_is front (c ∷ cs) p (inl w) = subst (λ l. Lawful l p) (append_assoc front (c ∷ []) cs)
    (way_is (front ++ c ∷ []) cs p w)
way_is front (c ∷ cs) p (inr w) = less (way_is front cs p w.1)
  where
    less : Lawful (front ++ cs) p → Lawful (front ++ c ∷ cs) p
    less l = record {
      inside = λ d a. among_with d c front cs (l.inside d a);
      returned = λ d a e. there d (among_either d c front cs a) e;
      ordered = l.ordered;
      run = l.run;
    }
      where
        there : (d : SetCall) → (c ≡ d) ⊎ Among d (front ++ cs) → is_returned d.end ≡ true → Among d p
        there d (inl i) e = absurd (not_both d.end e (ap (λ (y : SetCall). is_trapped y.end) (sym i) ∙ w.0))
        there d (inr a) e = l.returned d a e

-- ---- the order is legal

right : (e : End) (o : Operation) (s : Bool) → want e o ≡ Some s → differs e (answer_of o s) ≡ false
right Pending o s w = refl
right (Trapped n) o s w = refl
right (Returned n None) o s w = cc
right (Returned n (Some r)) o s w = go o r s (some_same _ s w)
  where
    go : (o : Operation) (r s : Bool) → needed o r ≡ s → differs (Returned n (Some r)) (answer_of o s) ≡ false
    go Add true true e = absurd (true≢false (sym e))
    go Add true false e = refl
    go Add false true e = refl
    go Add false false e = absurd (true≢false e)
    go Remove true true e = refl
    go Remove true false e = absurd (true≢false e)
    go Remove false true e = absurd (true≢false (sym e))
    go Remove false false e = refl
    go Contains true true e = refl
    go Contains true false e = absurd (true≢false e)
    go Contains false true e = absurd (true≢false (sym e))
    go Contains false false e = refl

runs_is : (s : Set) (cs : Calls) → Runs s cs → IsRun s cs
runs_is s [] r = tt
runs_is s (c ∷ cs) r = (right c.end c.operation (s c.item) r.0, runs_is (after s c) cs r.1)

ordered_tail : (f : Calls) (y : SetCall) (b : Calls) → Ordered (f ++ y ∷ b) → (x : SetCall) → Among x b → MayPrecede y x
ordered_tail [] y b o = o.0
ordered_tail (z ∷ f) y b o = ordered_tail f y b o.1

-- none passes if each doesn't
pub any_none : (q : SetCall → Bool) (xs : Calls) → ((c : SetCall) → Among c xs → q c ≡ false) → list_any q xs ≡ false
any_none q [] h = refl
any_none q (x ∷ xs) h = or_from (q x) (list_any q xs) (h x (inl refl)) (any_none q xs (λ c a. h c (inr a)))

-- an order of the calls, all that returned among them, is legal by its names
pub legal_of : (h : List Event) (order : Calls) (names : List Text) →
    first_foreign h ≡ None →
    ((c : SetCall) → Among c (set_calls h) → is_returned c.end ≡ true → Among c order)
    → Ordered order → IsRun empty order → map (call_named h (set_calls h)) names ≡ map (λ c. Some c) order →
    IsLegal h names
legal_of h order names one returned ordered run named = record {
  one_set = one;
  calls = order;
  named = named;
  once = λ front back x e. any_none (is_same x) back (λ c a.
      ne_eqb c.called x.called (λ i. (ordered_tail front x back (subst Ordered e ordered) c a).apart (sym i)));
  complete = λ front back c e r. any_some (is_same c) order c
      (returned c (subst (λ k. Among c k) (sym e) (among_it c front back)) r) (eq-eqb c.called c.called refl);
  in_time = λ front middle back x y e. (ordered_tail front y (middle ++ x ∷ back) (subst Ordered e ordered) x
      (among_it x middle back)).in_time;
  run = run;
}

-- ---- the names

pub all_named : (h : List Event) (order : Calls) →
    ((c : SetCall) → Among c order → call_named h (set_calls h) (named_by h c) ≡ Some c)
    → map (call_named h (set_calls h)) (map (named_by h) order) ≡ map (λ c. Some c) order
all_named h [] named = refl
all_named h (c ∷ cs) named = ap₂ (λ x xs. x ∷ xs) (named c (inl refl)) (all_named h cs (λ d a. named d (inr a)))

-- the texts of such an order are a legal order of the history
pub names_legal : (h : List Event) (order : Calls) →
    is_history h ≡ true →
    length h < 2 ^ 64 →
    first_foreign h ≡ None →
    Way [] (set_calls h) order →
    IsLegal h (map (named_by h) order)
names_legal h order is small one w =
    let l = way_is [] (set_calls h) order w in
    legal_of h order (map (named_by h) order) one l.returned l.ordered (runs_is empty order l.run)
    (all_named h order (λ c a. found_by_name h is small c (l.inside c a)))

-- ---- the ends of a history's calls

end_lasts : (o : Occurrence) (at n : ℕ) → n ≤ at → ended_before (end_at at o) n ≡ false
end_lasts (events.Made a b c) at n le = refl
end_lasts (events.Called a b c) at n le = refl
end_lasts (events.Returned v) at n le = le-ltb at n le
end_lasts (events.Trapped k) at n le = le-ltb at n le

-- an end in the events from `at` on isn't before `at`
pub of_lasts : (thread : Text) (call at : ℕ) (es : List Event) (n : ℕ) →
    n ≤ at →
    ended_before (end_of thread call at es) n ≡ false
of_lasts thread call at [] n le = refl
of_lasts thread call at (e ∷ es) n le = go (bytes_eq e.thread thread && e.call == call)
    (of_lasts thread call (at + 1) es n (omega arith))
  where
    go : (b : Bool) →
        ended_before (end_of thread call (at + 1) es) n ≡ false →
        ended_before (cond b (end_at at e.occurrence) (end_of thread call (at + 1) es)) n ≡ false
    go true later = end_lasts e.occurrence at n le
    go false later = later

end_within : (o : Occurrence) (at n : ℕ) → at < n → has_end (end_at at o) ≡ true → ended_before (end_at at o) n ≡ true
end_within (events.Made a b c) at n lt h = absurd (true≢false (sym h))
end_within (events.Called a b c) at n lt h = absurd (true≢false (sym h))
end_within (events.Returned v) at n lt h = lt-ltb at n lt
end_within (events.Trapped k) at n lt h = lt-ltb at n lt

of_within : (thread : Text) (call at : ℕ) (es : List Event) (n : ℕ) →
    at + length es ≤ n →
    has_end (end_of thread call at es) ≡ true →
    ended_before (end_of thread call at es) n ≡ true
of_within thread call at [] n le h = absurd (true≢false (sym h))
of_within thread call at (e ∷ es) n le h = go (bytes_eq e.thread thread && e.call == call)
    (λ i. of_within thread call (at + 1) es n (omega arith) i) h
  where
    go : (b : Bool) →
        (has_end (end_of thread call (at + 1) es) ≡ true → ended_before (end_of thread call (at + 1) es) n ≡ true)
        → has_end (cond b (end_at at e.occurrence) (end_of thread call (at + 1) es)) ≡ true →
        ended_before (cond b (end_at at e.occurrence) (end_of thread call (at + 1) es)) n ≡ true
    go true later i = end_within e.occurrence at n (omega arith) i
    go false later i = later i

abbrev Fine : ℕ → SetCall → Type 0
Fine n c = (ended_before c.end c.called ≡ false) × (c.called < n) × (has_end c.end ≡ true → ended_before c.end n ≡ true)

fine_with : (n at : ℕ) (end : End) (cs : Calls) (o : Option Asked) →
    ended_before end at ≡ false →
    at < n →
    (has_end end ≡ true → ended_before end n ≡ true) →
    ((c : SetCall) → Among c cs → Fine n c)
    → (c : SetCall) → Among c (with_asked o at end cs) → Fine n c
fine_with n at end cs None l lt w rest c a = rest c a
fine_with n at end cs (Some q) l lt w rest c (inl e) = subst (Fine n) e (l, lt, w)
fine_with n at end cs (Some q) l lt w rest c (inr a) = rest c a

calls_fine : (at : ℕ) (es : List Event) (n : ℕ) →
    at + length es ≤ n →
    (c : SetCall) →
    Among c (calls_from at es) →
    Fine n c
calls_fine at [] n le c a = absurd a
calls_fine at (e ∷ es) n le c a =
    fine_with n at (end_of e.thread e.call (at + 1) es) (calls_from (at + 1) es) (asked_of e.occurrence)
    (of_lasts e.thread e.call (at + 1) es at (omega arith)) (omega arith)
    (λ h. of_within e.thread e.call (at + 1) es n (omega arith) h) (λ d b. calls_fine (at + 1) es n (omega arith) d b) c
    a

pub calls_within : (h : List Event) → Within (length h) (set_calls h)
calls_within h c a = let f = calls_fine 0 h (length h) (omega arith) c a in (f.1, f.2)

pub calls_lasting : (h : List Event) → Lasting (set_calls h)
calls_lasting h c a = (calls_fine 0 h (length h) (omega arith) c a).0

-- the calls of a history are calls of its events
pub calls_of_history : (h : List Event) (n : ℕ) (calls : Calls) → n ≡ length h → calls ≡ set_calls h → CallsOf n calls
calls_of_history h n calls e is = subst (λ m. CallsOf m calls) (sym e) (subst (CallsOf (length h)) (sym is) (record {
  rising = calls_rising 0 h;
  within = calls_within h;
  lasting = calls_lasting h;
}))
