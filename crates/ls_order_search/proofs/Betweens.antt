-- Between two events, one step more.
use Rattle.std.proofs.Common.{◌≡◌, ◌∙◌, ◌⊎◌, ◌+◌, ◌<◌, ◌≤◌, inl, inr, ℕ, zero, suc, ℤ, true, false, [], ◌∷◌, ◌++◌}
use Rattle.std.proofs.Common.{length, get_or, drop, refl, sym, ap, subst, append_assoc, append-nil, arith, suc-le-suc}
use Rattle.std.proofs.Common.{zero-le}
use Rattle.std.proofs.lemmas.Bool.{true≢false}
use Rattle.std.proofs.lemmas.List.{drop_more, get_or_default}
use Rattle.ls_orders.specs.declared.calls.SetCall.{SetCall}
use Rattle.ls_orders.specs.Rules.{ended_before}
use Rattle.ls_orders.specs.Legal.{Set, empty}
use Rattle.ls_order_search.specs.Plans.{Among, Distinct, IsPlan, has_end}
use Rattle.ls_order_search.specs.Search.{HasPlan, CalledAfter, CalledFrom, Between, Calls, Closed, Due, Lasting}
use Rattle.ls_order_search.specs.Search.{LastUntil, NoPlanOn, NotDue, Open, Passed, Rising, Stuck, Within, is_item}
use Rattle.ls_order_search.specs.Search.{on_items}
use Rattle.ls_order_search.proofs.Lists.{among_back, among_cases, among_front, distinct_front}
use Rattle.ls_order_search.proofs.Sets.{Same}
use Rattle.ls_order_search.proofs.Steps.{plan_same, sooner}
use Rattle.ls_order_search.proofs.Legality.{distinct_rising}

-- ---- at the start

pub at_start : (events : ℕ) (calls : Calls) (s : Set) → Same empty s → Rising calls → Between events calls 0 0 s [] []
at_start events calls s h r = record {
  plan = λ f q. (q.0, plan_same empty s (on_items f calls) q.0 h q.1);
  distinct = distinct_rising calls r;
  up_to = λ c a. absurd a;
  from = λ c a. omega arith;
  rising = r;
  known = λ c a. a;
  lasts = λ l c a. absurd a;
  back = λ l p q. plan_same s empty calls p (λ z. sym (h z)) q;
}

-- ---- a call is opened

module _ (events : ℕ) (calls : Calls) (at next : ℕ) (s : Set) (pool placed : Calls) (x : SetCall)
    (b : Between events calls at next s pool placed)
    (lt : next < length calls) (is : x ≡ get_or calls next x) (le : x.called ≤ at) where
  split : drop next calls ≡ x ∷ drop (next + 1) calls
  split = drop_more calls next x lt ∙ ap (λ y. y ∷ drop (next + 1) calls) (sym is)

  same : pool ++ drop next calls ≡ (pool ++ x ∷ []) ++ drop (next + 1) calls
  same = ap (λ l. pool ++ l) split ∙ sym (append_assoc pool (x ∷ []) (drop (next + 1) calls))

  after_this : Rising (x ∷ drop (next + 1) calls)
  after_this = subst Rising split b.rising

  comes : at ≤ x.called
  comes = b.from x (subst (λ l. Among x l) (sym split) (inl refl))

  x_known : Among x calls
  x_known = b.known x (among_back x pool (drop next calls) (subst (λ l. Among x l) (sym split) (inl refl)))

  pub opened : (more : Calls) → more ≡ pool ++ x ∷ [] → Between events calls at (next + 1) s more placed
  opened more e = subst (λ m. Between events calls at (next + 1) s m placed) (sym e) (record {
    plan = λ f q. subst (λ l. HasPlan s (on_items f l)) same (b.plan f q);
    distinct = subst Distinct same b.distinct;
    up_to = λ c a. upto c (among_cases c pool (x ∷ []) a);
    from = λ c a. b.from c (subst (λ l. Among c l) (sym split) (inr a));
    rising = after_this.1;
    known = λ c a. b.known c (subst (λ l. Among c l) (sym same) a);
    lasts = λ l c a. lasting l c (among_cases c pool (x ∷ []) a);
    back = λ l p q. b.back l p (subst (λ m. IsPlan s m p) (sym same) q);
  })
    where
      upto : (c : SetCall) → Among c pool ⊎ Among c (x ∷ []) → c.called ≤ at
      upto c (inl a) = b.up_to c a
      upto c (inr (inl i)) = subst (λ (d : SetCall). d.called ≤ at) i le
      upto c (inr (inr a)) = absurd a

      lasting : Lasting calls → (c : SetCall) → Among c pool ⊎ Among c (x ∷ []) → ended_before c.end at ≡ false
      lasting l c (inl a) = b.lasts l c a
      lasting l c (inr (inl i)) = subst (λ (d : SetCall). ended_before d.end at ≡ false) i
          (sooner at x.called x.end (l x x_known) comes)
      lasting l c (inr (inr a)) = absurd a

-- the next call is open now
pub opened_at : (events : ℕ) (calls : Calls) (at next : ℕ) (s : Set) (pool placed : Calls) (d : SetCall) (more : Calls)
    →
    Between events calls at next s pool placed →
    Due at calls next →
    more ≡ pool ++ get_or calls next d ∷ []
    → Between events calls at (next + 1) s more placed
opened_at events calls at next s pool placed d more b due e =
    let x = get_or calls next d in
    opened events calls at next s pool placed x b due.0 (get_or_default calls next d x due.0) (due.1 d) more e

ends_more : (at end to : ℕ) (pool more : Calls) (x : SetCall) →
    more ≡ pool ++ x ∷ [] →
    to ≤ end →
    (ended_before x.end at ≡ false → ended_before x.end to ≡ false) →
    LastUntil at more →
    LastUntil end pool →
    LastUntil to more
ends_more at end to pool more x e le own all before c a =
    cases (among_cases c pool (x ∷ []) (subst (λ l. Among c l) e a))
  where
    cases : Among c pool ⊎ Among c (x ∷ []) → ended_before c.end to ≡ false
    cases (inl a) = sooner to end c.end (before c a) le
    cases (inr (inl i)) = subst (λ (d : SetCall). ended_before d.end to ≡ false) i
        (own (all x (subst (λ l. Among x l) (sym e) (among_back x pool (x ∷ []) (inl refl)))))
    cases (inr (inr a)) = absurd a

-- the next call is open now, and it may be the first to end
pub opened_to : (events : ℕ) (calls : Calls) (at next : ℕ) (s : Set) (pool placed : Calls) (d : SetCall) (more : Calls)
    (end to : ℕ) →
    Open events calls at next s pool placed end →
    Due at calls next →
    more ≡ pool ++ get_or calls next d ∷ [] →
    at ≤ to →
    to ≤ end →
    (ended_before (get_or calls next d).end at ≡ false → ended_before (get_or calls next d).end to ≡ false) →
    Open events calls at (next + 1) s more placed to
opened_to events calls at next s pool placed d more end to o due e from le own =
    let b = opened_at events calls at next s pool placed d more o.between due e in
    let room = o.within in
    record {
      between = b;
      from = from;
      within = omega arith;
      lasts = λ l. ends_more at end to pool more (get_or calls next d) e le own (b.lasts l) (o.lasts l);
    }

-- the next call is none of the open calls
pub one_more : (events : ℕ) (calls : Calls) (at next : ℕ) (s : Set) (pool placed : Calls) (d : SetCall) (end : ℕ) →
    Open events calls at next s pool placed end →
    Due at calls next →
    Distinct (pool ++ get_or calls next d ∷ [])
one_more events calls at next s pool placed d end o due = distinct_front (pool ++ get_or calls next d ∷ [])
    (drop (next + 1) calls) (opened_at events calls at next s pool placed d (pool ++ get_or calls next d ∷ []) o.between
    due refl).distinct

-- before the first event nothing is placed or open
pub starts : (events : ℕ) (calls : Calls) (s : Set) (pool placed : Calls) →
    pool ≡ [] →
    placed ≡ [] →
    ((z : ℤ) → s z ≡ false) →
    Rising calls →
    Open events calls 0 0 s pool placed events
starts events calls s pool placed p q h r = record {
  between = subst (λ l. Between events calls 0 0 s l placed) (sym p)
      (subst (λ l. Between events calls 0 0 s [] l) (sym q) (at_start events calls s (λ z. sym (h z)) r));
  from = omega arith;
  within = omega arith;
  lasts = λ l c a. absurd (subst (λ m. Among c m) p a);
}

-- ---- events are over

rising_after : (at next : ℕ) (calls : Calls) →
    NotDue at calls next →
    Rising (drop next calls) →
    CalledAfter at (drop next calls)
rising_after at zero [] n r c a = absurd a
rising_after at (suc next) [] n r c a = absurd a
rising_after at zero (x ∷ xs) n r c (inl i) = subst (λ (d : SetCall). at < d.called) i (n (suc-le-suc zero-le) x)
rising_after at zero (x ∷ xs) n r c (inr a) = let first : at < x.called = n (suc-le-suc zero-le) x in
    let then : x.called < c.called = r.0 c a in omega arith
rising_after at (suc next) (x ∷ xs) n r c a = rising_after at next xs (λ lt d. n (suc-le-suc lt) d) r c a

module _ (events : ℕ) (calls : Calls) (at next : ℕ) (s : Set) (pool placed : Calls)
    (b : Between events calls at next s pool placed) (n : NotDue at calls next) where
  abbrev rest : Calls
  rest = drop next calls

  later : CalledAfter at rest
  later = rising_after at next calls n b.rising

  -- if the search is stuck, there is no plan
  pub no_more : Stuck at s pool → NoPlanOn calls
  no_more h = (h.0, λ q. h.1 rest b.distinct later (λ c a. b.up_to c a) (b.plan (is_item h.0) q))

  -- a later place, before which no call comes or ends, with the calls that were placed
  pub over : (t : Set) (less new : Calls) (to : ℕ) →
      Closed at s t pool less placed new →
      at ≤ to →
      CalledFrom to rest →
      (Lasting calls → LastUntil to less) →
      Between events calls to next t less new
  over t less new to k le comes lasts = record {
    plan = λ f q. k.2.plan f rest b.distinct later (λ c a. b.up_to c a) (b.plan f q);
    distinct = k.2.distinct rest b.distinct;
    up_to = λ c a. let by : c.called ≤ at = b.up_to c (k.2.among c a) in omega arith;
    from = comes;
    rising = b.rising;
    known = λ c a. known c (among_cases c less rest a);
    lasts = lasts;
    back = λ l p q. subst (λ m. IsPlan empty calls m) (sym (ap (λ m. m ++ p) k.1 ∙ append_assoc placed k.0 p))
        (b.back l (k.0 ++ p) (k.2.back rest b.distinct later (λ c a. b.up_to c a) (b.lasts l)
        (λ c a. l c (b.known c (among_back c pool rest a))) p q));
  }
    where
      known : (c : SetCall) → Among c less ⊎ Among c rest → Among c calls
      known c (inl a) = b.known c (among_front c pool rest (k.2.among c a))
      known c (inr a) = b.known c (among_back c pool rest a)

  -- the next place is a later one
  pub goes_up : (to at' : ℕ) → at < to → (at + 1 ≤ to → CalledFrom (at + 1) rest → at + 1 ≤ at') → at + 1 ≤ at'
  goes_up to at' le last = last (omega arith) (λ c a. let lt : at < c.called = later c a in omega arith)

  -- there no call has come or ended since
  pub passed : (t : Set) (less new : Calls) (end to at' : ℕ) →
      (Lasting calls → LastUntil end pool) →
      Passed at end events s t pool less placed new to →
      at' ≤ to →
      CalledFrom at' rest →
      (at + 1 ≤ to → CalledFrom (at + 1) rest → at + 1 ≤ at') →
      Open events calls at' next t less new to
  passed t less new end to at' lasts h le comes last =
      let up : at + 1 ≤ at' = goes_up to at' h.later last in
      let until : Lasting calls → LastUntil to less = λ l. h.lasts (b.lasts l) (lasts l) in
      record {
        between = over t less new at' h.closed (omega arith) comes
            (λ l c a. sooner at' to c.end (until l c a) le);
        from = le;
        within = h.within;
        lasts = until;
      }

-- ---- at the end

-- after the last event the placed calls are a plan
pub at_end : (events : ℕ) (calls : Calls) (next : ℕ) (s : Set) (pool placed : Calls) →
    Between events calls events next s pool placed →
    Within events calls →
    Lasting calls →
    IsPlan empty calls placed
at_end events calls next s pool placed b w l = subst (IsPlan empty calls) (append-nil placed) (b.back l [] (record {
  inside = λ c a. absurd a;
  complete = λ c a e. absurd (gone c (among_cases c pool (drop next calls) a) e);
  ordered = tt;
  run = tt;
}))
  where
    gone : (c : SetCall) → Among c pool ⊎ Among c (drop next calls) → has_end c.end ≡ true → ⊥
    gone c (inl a) e = true≢false (sym ((w c (b.known c (among_front c pool (drop next calls) a))).1 e) ∙ b.lasts l c a)
    gone c (inr a) e =
        let lt : c.called < events = (w c (b.known c (among_back c pool (drop next calls) a))).0 in
        let le : events ≤ c.called = b.from c a in
        omega arith
