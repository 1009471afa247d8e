-- The beginnings of a history with a legal order have one too: the order up to the first call that isn't called yet.
use Rattle.std.proofs.Common.{◌≡◌, ◌∙◌, ◌&&◌, ◌==◌, ◌+◌, ◌<◌, ◌≤◌, inl, inr, ℕ, zero, suc, Bool, true, false, cond}
use Rattle.std.proofs.Common.{List, [], ◌∷◌, length, map, filter, find, take, Option, Some, None, refl, sym, ap, ap₂}
use Rattle.std.proofs.Common.{subst, arith, lt-ltb, le-ltb, ltb-true, ltb-false}
use Rattle.std.specs.Prelude.{nat_lt}
use Rattle.std.specs.Option.{option_map_or}
use Rattle.std.specs.Str.{bytes_eq}
use Rattle.std.proofs.lemmas.Bool.{true≢false}
use Rattle.ls_report.specs.Events as events
use Rattle.ls_report.specs.Events.{Event, Occurrence, Text}
use Rattle.ls_orders.specs.declared.calls.End.{End}
use Rattle.ls_orders.specs.declared.calls.End.TheVariants.{Pending, Returned, Trapped}
use Rattle.ls_orders.specs.declared.calls.SetCall.{SetCall}
use Rattle.ls_orders.specs.Legal.{IsLegal, IsRun, Set, after, empty}
use Rattle.ls_orders.specs.Rules.{answer_of, differs, ended_before, is_returned}
use Rattle.ls_orders.specs.SetCalls.{Asked, asked_of, call_named, calls_from, end_at, end_of, first_after, foreign_from}
use Rattle.ls_orders.specs.SetCalls.{is_foreign, name_at, name_of, set_calls, with_asked}
use Rattle.ls_order_search.specs.Answers.{HasOrder, IsHopeless, NoneIsLegal}
use Rattle.ls_order_search.specs.Plans.{Among, MayPrecede, Ordered}
use Rattle.ls_order_search.specs.Search.{Calls}
use Rattle.ls_order_search.proofs.Filters.{filter_among}
use Rattle.ls_order_search.proofs.Lawful.{legal_of, of_lasts}
use Rattle.ls_order_search.proofs.Legality.{calls_later, legal_ordered, legal_returned}
use Rattle.ls_order_search.proofs.Names.{called_at, get_front}
use Rattle.ls_order_search.proofs.Steps.{sooner}

-- ---- what the first n events say of a call

abbrev pub cut_end : ℕ → End → End
cut_end n Pending = Pending
cut_end n (Trapped at) = cond (nat_lt at n) (Trapped at) Pending
cut_end n (Returned at reply) = cond (nat_lt at n) (Returned at reply) Pending

abbrev pub cut_call : ℕ → SetCall → SetCall
cut_call n c = record { called = c.called; operation = c.operation; item = c.item; end = cut_end n c.end }

abbrev pub is_early : ℕ → SetCall → Bool
is_early n c = nat_lt c.called n

cut_late : (n : ℕ) (e : End) → ended_before e n ≡ false → cut_end n e ≡ Pending
cut_late n Pending h = refl
cut_late n (Trapped at) h = ap (λ b. cond b (Trapped at) Pending) h
cut_late n (Returned at reply) h = ap (λ b. cond b (Returned at reply) Pending) h

cut_early : (n at : ℕ) (o : Occurrence) → at < n → end_at at o ≡ cut_end n (end_at at o)
cut_early n at (events.Made a b c) lt = refl
cut_early n at (events.Called a b c) lt = refl
cut_early n at (events.Returned v) lt = sym (ap (λ b. cond b (end_at at (events.Returned v)) Pending) (lt-ltb at n lt))
cut_early n at (events.Trapped k) lt = sym (ap (λ b. cond b (end_at at (events.Trapped k)) Pending) (lt-ltb at n lt))

cut_open : (n m : ℕ) (e : End) → ended_before e m ≡ false → ended_before (cut_end n e) m ≡ false
cut_open n m Pending h = refl
cut_open n m (Trapped at) h = go (nat_lt at n)
  where
    go : (b : Bool) → ended_before (cond b (Trapped at) Pending) m ≡ false
    go true = h
    go false = refl
cut_open n m (Returned at reply) h = go (nat_lt at n)
  where
    go : (b : Bool) → ended_before (cond b (Returned at reply) Pending) m ≡ false
    go true = h
    go false = refl

cut_differs : (n : ℕ) (e : End) (wanted : Bool) → differs e wanted ≡ false → differs (cut_end n e) wanted ≡ false
cut_differs n Pending wanted h = refl
cut_differs n (Trapped at) wanted h = go (nat_lt at n)
  where
    go : (b : Bool) → differs (cond b (Trapped at) Pending) wanted ≡ false
    go true = refl
    go false = refl
cut_differs n (Returned at reply) wanted h = go (nat_lt at n)
  where
    go : (b : Bool) → differs (cond b (Returned at reply) Pending) wanted ≡ false
    go true = h
    go false = refl

-- what has returned by then had returned
cut_returned : (n : ℕ) (e : End) → is_returned (cut_end n e) ≡ true → (is_returned e ≡ true) × (ended_before e n ≡ true)
cut_returned n Pending h = absurd (true≢false (sym h))
cut_returned n (Trapped at) h = absurd (go (nat_lt at n) h)
  where
    go : (b : Bool) → is_returned (cond b (Trapped at) Pending) ≡ true → ⊥
    go true k = true≢false (sym k)
    go false k = true≢false (sym k)
cut_returned n (Returned at reply) h = (refl, go (nat_lt at n) h)
  where
    go : (b : Bool) → is_returned (cond b (Returned at reply) Pending) ≡ true → b ≡ true
    go true k = refl
    go false k = absurd (true≢false (sym k))

-- ---- the set calls of a beginning

end_cut : (thread : Text) (call n at k : ℕ) (es : List Event) →
    n ≡ at + k →
    end_of thread call at (take k es) ≡ cut_end n (end_of thread call at es)
end_cut thread call n at zero es is = sym (cut_late n (end_of thread call at es)
    (of_lasts thread call at es n (omega arith)))
end_cut thread call n at (suc k) [] is = refl
end_cut thread call n at (suc k) (e ∷ es) is = go (bytes_eq e.thread thread && e.call == call)
    (end_cut thread call n (at + 1) k es (omega arith))
  where
    go : (b : Bool) → end_of thread call (at + 1) (take k es) ≡ cut_end n (end_of thread call (at + 1) es)
        → cond b (end_at at e.occurrence) (end_of thread call (at + 1) (take k es)) ≡ cut_end n
        (cond b (end_at at e.occurrence) (end_of thread call (at + 1) es))
    go true later = cut_early n at e.occurrence (omega arith)
    go false later = later

with_cut : (n at : ℕ) (o : Option Asked) (e : End) (cs : Calls) →
    at < n →
    with_asked o at (cut_end n e) (map (cut_call n) (filter (is_early n) cs)) ≡ map (cut_call n)
    (filter (is_early n) (with_asked o at e cs))
with_cut n at None e cs lt = refl
with_cut n at (Some q) e cs lt =
    let x : SetCall = record { called = at; operation = q.0; item = q.1; end = e } in
    sym (ap (λ b. map (cut_call n) (cond b (x ∷ filter (is_early n) cs) (filter (is_early n) cs))) (lt-ltb at n lt))

none_early : (n : ℕ) (cs : Calls) → ((c : SetCall) → Among c cs → n ≤ c.called) → filter (is_early n) cs ≡ []
none_early n [] h = refl
none_early n (c ∷ cs) h = ap (λ b. cond b (c ∷ filter (is_early n) cs) (filter (is_early n) cs))
    (le-ltb c.called n (h c (inl refl))) ∙ none_early n cs (λ d a. h d (inr a))

calls_cut : (n at k : ℕ) (es : List Event) →
    n ≡ at + k →
    calls_from at (take k es) ≡ map (cut_call n) (filter (is_early n) (calls_from at es))
calls_cut n at zero es is = sym
    (ap (map (cut_call n)) (none_early n (calls_from at es) (λ c a. let le = calls_later at es c a in omega arith)))
calls_cut n at (suc k) [] is = refl
calls_cut n at (suc k) (e ∷ es) is =
    ap₂ (λ end cs. with_asked (asked_of e.occurrence) at end cs) (end_cut e.thread e.call n (at + 1) k es (omega arith))
    (calls_cut n (at + 1) k es (omega arith))
    ∙ with_cut n at (asked_of e.occurrence) (end_of e.thread e.call (at + 1) es) (calls_from (at + 1) es) (omega arith)

pub set_calls_cut : (k : ℕ) (h : List Event) →
    set_calls (take k h) ≡ map (cut_call k) (filter (is_early k) (set_calls h))
set_calls_cut k h = calls_cut k 0 k h (omega arith)

foreign_cut : (first : Option Text) (k : ℕ) (es : List Event) →
    foreign_from first es ≡ None →
    foreign_from first (take k es) ≡ None
foreign_cut first zero es h = refl
foreign_cut first (suc k) [] h = refl
foreign_cut first (suc k) (e ∷ es) h = go (is_foreign first e.occurrence) h
    (λ r. foreign_cut (first_after first e.occurrence) k es r)
  where
    go : (b : Bool) → cond b (Some e) (foreign_from (first_after first e.occurrence) es) ≡ None
        → (foreign_from (first_after first e.occurrence) es ≡ None →
        foreign_from (first_after first e.occurrence) (take k es) ≡ None)
        → cond b (Some e) (foreign_from (first_after first e.occurrence) (take k es)) ≡ None
    go true r later = absurd cc
    go false r later = later r

-- ---- found by the same names

find_filter : (p q : SetCall → Bool) (xs : Calls) (c : SetCall) →
    find p xs ≡ Some c →
    q c ≡ true →
    find p (filter q xs) ≡ Some c
find_filter p q [] c e k = absurd cc
find_filter p q (x ∷ xs) c e k = go (p x) (q x) refl refl e (λ i. find_filter p q xs c i k)
  where
    same : Some x ≡ Some c → x ≡ c
    same i = cc

    go : (a b : Bool) →
        p x ≡ a →
        q x ≡ b →
        cond a (Some x) (find p xs) ≡ Some c →
        (find p xs ≡ Some c → find p (filter q xs) ≡ Some c)
        → find p (cond (q x) (x ∷ filter q xs) (filter q xs)) ≡ Some c
    go true b f g i later =
        ap (λ t. find p (cond t (x ∷ filter q xs) (filter q xs))) (ap q (same i) ∙ k) ∙
        ap (λ t. cond t (Some x) (find p (filter q xs))) f ∙ i
    go false true f g i later =
        ap (λ t. find p (cond t (x ∷ filter q xs) (filter q xs))) g ∙ ap (λ t. cond t (Some x) (find p (filter q xs))) f
        ∙ later i
    go false false f g i later = ap (λ t. find p (cond t (x ∷ filter q xs) (filter q xs))) g ∙ later i

find_map : (p p' : SetCall → Bool) (f : SetCall → SetCall) (xs : Calls) (c : SetCall) →
    ((d : SetCall) → Among d xs → p' (f d) ≡ p d) →
    find p xs ≡ Some c →
    find p' (map f xs) ≡ Some (f c)
find_map p p' f [] c h e = absurd cc
find_map p p' f (x ∷ xs) c h e = ap (λ b. cond b (Some (f x)) (find p' (map f xs))) (h x (inl refl)) ∙
    go (p x) e (λ i. find_map p p' f xs c (λ d a. h d (inr a)) i)
  where
    same : Some x ≡ Some c → x ≡ c
    same i = cc

    go : (b : Bool) →
        cond b (Some x) (find p xs) ≡ Some c →
        (find p xs ≡ Some c → find p' (map f xs) ≡ Some (f c)) →
        cond b (Some (f x)) (find p' (map f xs)) ≡ Some (f c)
    go true i later = ap (λ d. Some (f d)) (same i)
    go false i later = later i

module _ (k : ℕ) (h : List Event) where
  early_at : (c : SetCall) →
      Among c (filter (is_early k) (set_calls h)) →
      name_at (take k h) c.called ≡ name_at h c.called
  early_at c a =
      let b = filter_among (is_early k) (set_calls h) c a in
      let at = called_at h c b.0 in
      ap (λ o. option_map_or name_of o []) (get_front h k c.called at.0 (ltb-true c.called k b.1) at.1 ∙ sym at.1)

  named_cut : (name : Text) (c : SetCall) →
      call_named h (set_calls h) name ≡ Some c →
      is_early k c ≡ true →
      call_named (take k h) (set_calls (take k h)) name ≡ Some (cut_call k c)
  named_cut name c e early =
      ap (λ cs. call_named (take k h) cs name) (set_calls_cut k h)
      ∙ find_map (λ d. bytes_eq name (name_at h d.called)) (λ d. bytes_eq name (name_at (take k h) d.called))
      (cut_call k) (filter (is_early k) (set_calls h)) c
      (λ d a. ap (bytes_eq name) (early_at d a)) (find_filter (λ d. bytes_eq name (name_at h d.called)) (is_early k)
      (set_calls h) c e early)

-- ---- an order up to the first call that is called later

abbrev pub early : ℕ → Calls → Calls
early n [] = []
early n (c ∷ cs) = cond (is_early n c) (c ∷ early n cs) []

abbrev pub early_names : ℕ → Calls → List Text → List Text
early_names n [] names = []
early_names n (c ∷ cs) [] = []
early_names n (c ∷ cs) (t ∷ ts) = cond (is_early n c) (t ∷ early_names n cs ts) []

early_among : (n : ℕ) (cs : Calls) (c : SetCall) → Among c (early n cs) → Among c cs
early_among n [] c a = a
early_among n (x ∷ cs) c a = go (is_early n x) a (λ b. early_among n cs c b)
  where
    go : (b : Bool) → Among c (cond b (x ∷ early n cs) []) → (Among c (early n cs) → Among c cs) → Among c (x ∷ cs)
    go true (inl i) later = inl i
    go true (inr i) later = inr (later i)
    go false i later = absurd i

among_map : (f : SetCall → SetCall) (cs : Calls) (c : SetCall) → Among c cs → Among (f c) (map f cs)
among_map f [] c a = a
among_map f (x ∷ cs) c (inl i) = inl (ap f i)
among_map f (x ∷ cs) c (inr a) = inr (among_map f cs c a)

map_among : (f : SetCall → SetCall) (cs : Calls) (d : SetCall) →
    Among d (map f cs) →
    (c : SetCall) × Among c cs × (f c ≡ d)
map_among f [] d a = absurd a
map_among f (x ∷ cs) d (inl i) = (x, inl refl, i)
map_among f (x ∷ cs) d (inr a) = let r = map_among f cs d a in (r.0, inr r.1, r.2)

names_cut : (n : ℕ) (look look' : Text → Option SetCall) (cs : Calls) (names : List Text) →
    ((t : Text) (c : SetCall) → look t ≡ Some c → is_early n c ≡ true → look' t ≡ Some (cut_call n c))
    → map look names ≡ map (λ c. Some c) cs → map look' (early_names n cs names) ≡ map (λ c. Some c)
    (map (cut_call n) (early n cs))
names_cut n look look' [] names h e = refl
names_cut n look look' (c ∷ cs) [] h e = absurd cc
names_cut n look look' (c ∷ cs) (t ∷ ts) h e = go (is_early n c) refl (names_cut n look look' cs ts h tail)
  where
    head : look t ≡ Some c
    head = cc

    tail : map look ts ≡ map (λ d. Some d) cs
    tail = cc

    go : (b : Bool) →
        is_early n c ≡ b →
        map look' (early_names n cs ts) ≡ map (λ d. Some d) (map (cut_call n) (early n cs))
        → map look' (cond b (t ∷ early_names n cs ts) []) ≡ map (λ d. Some d)
        (map (cut_call n) (cond b (c ∷ early n cs) []))
    go true is later = ap₂ (λ x xs. x ∷ xs) (h t c head is) later
    go false is later = refl

ordered_cut : (n : ℕ) (cs : Calls) → Ordered cs → Ordered (map (cut_call n) (early n cs))
ordered_cut n [] o = tt
ordered_cut n (c ∷ cs) o = go (is_early n c) (ordered_cut n cs o.1)
  where
    before : (d : SetCall) → Among d (map (cut_call n) (early n cs)) → MayPrecede (cut_call n c) d
    before d a =
        let r = map_among (cut_call n) (early n cs) d a in
        let m = o.0 r.0 (early_among n cs r.0 r.1) in
        subst (MayPrecede (cut_call n c)) r.2 (record {
          in_time = cut_open n c.called r.0.end m.in_time;
          apart = m.apart;
        })

    go : (b : Bool) → Ordered (map (cut_call n) (early n cs)) → Ordered (map (cut_call n) (cond b (c ∷ early n cs) []))
    go true later = (before, later)
    go false later = tt

run_cut : (n : ℕ) (s : Set) (cs : Calls) → IsRun s cs → IsRun s (map (cut_call n) (early n cs))
run_cut n s [] r = tt
run_cut n s (c ∷ cs) r = go (is_early n c) (run_cut n (after s c) cs r.1)
  where
    go : (b : Bool) →
        IsRun (after s c) (map (cut_call n) (early n cs)) →
        IsRun s (map (cut_call n) (cond b (c ∷ early n cs) []))
    go true later = (cut_differs n c.end (answer_of c.operation (s c.item)) r.0, later)
    go false later = tt

-- a call that returns among the first n events is there
early_ended : (n : ℕ) (cs : Calls) (c : SetCall) →
    Ordered cs →
    Among c cs →
    is_early n c ≡ true →
    ended_before c.end n ≡ true →
    Among c (early n cs)
early_ended n [] c o a e t = a
early_ended n (x ∷ cs) c o a e t = go (is_early n x) refl a (λ b. early_ended n cs c o.1 b e t)
  where
    go : (b : Bool) →
        is_early n x ≡ b →
        Among c (x ∷ cs) →
        (Among c cs → Among c (early n cs)) →
        Among c (cond b (x ∷ early n cs) [])
    go true k (inl i) later = inl i
    go true k (inr b) later = inr (later b)
    go false k (inl i) later = absurd (true≢false (sym e ∙ ap (is_early n) (sym i) ∙ k))
    go false k (inr b) later = absurd
        (true≢false (sym t ∙ sooner n x.called c.end (o.0 c b).in_time (ltb-false x.called n k)))

-- ---- beginnings

-- if a history has a legal order, so has each beginning
pub beginning : (h : List Event) (k : ℕ) → HasOrder h → HasOrder (take k h)
beginning h k q = (
  early_names k cs q.0,
  legal_of (take k h) (map (cut_call k) (early k cs)) (early_names k cs q.0) (foreign_cut None k h l.one_set) returned
      (ordered_cut k cs (legal_ordered h q.0 l)) (run_cut k empty cs l.run)
      (names_cut k (call_named h (set_calls h)) (call_named (take k h) (set_calls (take k h))) cs q.0 (named_cut k h)
      l.named),
)
  where
    l : IsLegal h q.0
    l = q.1

    cs : Calls
    cs = l.calls

    returned : (d : SetCall) →
        Among d (set_calls (take k h)) →
        is_returned d.end ≡ true →
        Among d (map (cut_call k) (early k cs))
    returned d a r =
        let m = map_among (cut_call k) (filter (is_early k) (set_calls h)) d
        (subst (λ l. Among d l) (set_calls_cut k h) a) in
        let c : SetCall = m.0 in
        let f = filter_among (is_early k) (set_calls h) c m.1 in
        let t = cut_returned k c.end (ap (λ (x : SetCall). is_returned x.end) m.2 ∙ r) in
        subst (λ x. Among x (map (cut_call k) (early k cs))) m.2
        (among_map (cut_call k) (early k cs) c (early_ended k cs c (legal_ordered h q.0 l)
        (legal_returned h q.0 l c f.0 t.0) f.1 t.1))

take_less : (m n : ℕ) (h : List Event) → m ≤ n → take m (take n h) ≡ take m h
take_less zero n h le = refl
take_less (suc m) zero h le = absurd (omega arith)
take_less (suc m) (suc n) [] le = refl
take_less (suc m) (suc n) (e ∷ h) le = ap (λ l. e ∷ l) (take_less m n h (omega arith))

-- if the longer beginning has an order, so has the shorter; if the shorter has none, neither has the longer
pub shorter_legal : (h : List Event) (m n : ℕ) → m ≤ n → HasOrder (take n h) → HasOrder (take m h)
shorter_legal h m n le q = subst HasOrder (take_less m n h le) (beginning (take n h) m q)

pub longer_illegal : (h : List Event) (m n : ℕ) → m ≤ n → NoneIsLegal (take m h) → NoneIsLegal (take n h)
longer_illegal h m n le none order l = let q = shorter_legal h m n le (order, l) in none q.0 q.1

-- the empty history has the empty order
pub empty_legal : IsLegal [] []
empty_legal = legal_of [] [] [] refl (λ c a e. a) tt tt refl

-- a history without a legal order isn't empty
pub some_events : (h : List Event) → NoneIsLegal h → 0 < length h
some_events [] none = absurd (none [] empty_legal)
some_events (e ∷ h) none = omega arith

-- the place with which no order is legal any more
pub hopeless_at : (h : List Event) (n at more : ℕ) (order : List Text) →
    n ≡ length h →
    at < more →
    more ≤ n →
    more ≤ at + 1 →
    IsLegal (take at h) order →
    NoneIsLegal (take more h) →
    IsHopeless h at
hopeless_at h n at more order e lt le next before after = record {
  within = omega arith;
  before = λ count low. shorter_legal h count at low (order, before);
  with_it = λ count high. longer_illegal h more count (omega arith) after;
}
