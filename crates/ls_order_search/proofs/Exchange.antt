-- The choices of the search are safe: if there is a plan, there is one that begins with the chosen call.
use Rattle.std.proofs.Common.{◌≡◌, ◌∙◌, ◌==◌, ◌⊎◌, ◌+◌, inl, inr, ℕ, Bool, true, false, [], ◌∷◌, ◌++◌, Some, refl, sym}
use Rattle.std.proofs.Common.{ap, subst, append_assoc, arith, eqb-true}
use Rattle.std.specs.Ordering.{int_eq}
use Rattle.std.proofs.lemmas.Bool.{eqb-false, true≢false, lt-ltb}
use Rattle.ls_orders.specs.declared.calls.End.{End}
use Rattle.ls_orders.specs.declared.calls.End.TheVariants.{Pending, Returned, Trapped}
use Rattle.ls_orders.specs.declared.calls.SetCall.{SetCall}
use Rattle.ls_orders.specs.Rules.{ended_before}
use Rattle.ls_orders.specs.Legal.{Set, after}
use Rattle.ls_order_search.specs.Plans.{Among, Distinct, IsPlan, Ordered, Runs, has_end, turns, wanted}
use Rattle.ls_order_search.specs.Search.{HasPlan, Calls}
use Rattle.ls_order_search.proofs.Lists.{EndsFirst, among_cases, among_either, among_it, among_split, among_swap}
use Rattle.ls_order_search.proofs.Lists.{among_swapped, among_with, among_without, distinct_apart, distinct_same}
use Rattle.ls_order_search.proofs.Lists.{ordered_apart, ordered_swap, ordered_without, swap_apart}
use Rattle.ls_order_search.proofs.Sets.{Avoids, after_other, kept_end, runs_alike, runs_instead, runs_moved, runs_same}
use Rattle.ls_order_search.proofs.Sets.{runs_without, after_kept, item_is, item_apart, same_turn}

other_call : (c x : SetCall) → (c.called ≡ x.called → ⊥) → x ≡ c → ⊥
other_call c x nay e = nay (ap (λ (d : SetCall). d.called) (sym e))

-- ---- the first call of a plan is taken away, and put in front again

plan_without : (s t : Set) (p1 p2 : Calls) (x : SetCall) (f b : Calls) →
    Distinct (p1 ++ x ∷ p2) →
    IsPlan s (p1 ++ x ∷ p2) (f ++ x ∷ b) →
    Runs t (f ++ b) →
    IsPlan t (p1 ++ p2) (f ++ b)
plan_without s t p1 p2 x f b d p r = record {
  inside = λ c a. among_without c x p1 p2 (p.inside c (among_with c x f b a))
      (other_call c x (ordered_apart c x f b p.ordered a));
  complete = λ c a e. among_without c x f b (p.complete c (among_with c x p1 p2 a) e)
      (other_call c x (distinct_apart c x p1 p2 d a));
  ordered = ordered_without f x b p.ordered;
  run = r;
}

-- x is open: no call that is left ended before x was called
pub plan_with : (s : Set) (p1 p2 : Calls) (x : SetCall) (p : Calls) →
    Distinct (p1 ++ x ∷ p2) →
    ((c : SetCall) → Among c (p1 ++ p2) → ended_before c.end x.called ≡ false)
    → wanted x ≡ Some (s x.item) → IsPlan (after s x) (p1 ++ p2) p → IsPlan s (p1 ++ x ∷ p2) (x ∷ p)
plan_with s p1 p2 x p d opened w q = record {
  inside = λ c a. inside c a;
  complete = λ c a e. complete c (among_either c x p1 p2 a) e;
  ordered = (
    λ c a. record {
      in_time = opened c (q.inside c a);
      apart = λ e. distinct_apart c x p1 p2 d (q.inside c a) (sym e);
    },
    q.ordered,
  );
  run = (w, q.run);
}
  where
    inside : (c : SetCall) → Among c (x ∷ p) → Among c (p1 ++ x ∷ p2)
    inside c (inl e) = subst (λ z. Among z (p1 ++ x ∷ p2)) e (among_it x p1 p2)
    inside c (inr a) = among_with c x p1 p2 (q.inside c a)

    complete : (c : SetCall) → (x ≡ c) ⊎ Among c (p1 ++ p2) → has_end c.end ≡ true → Among c (x ∷ p)
    complete c (inl i) e = inl i
    complete c (inr a) e = inr (q.complete c a e)

-- ---- a call that changes nothing

-- a call that changes nothing may be placed first
pub keep_step : (s : Set) (p1 p2 : Calls) (x : SetCall) →
    Distinct (p1 ++ x ∷ p2) →
    wanted x ≡ Some (s x.item) →
    turns x.operation (s x.item) ≡ false
    → HasPlan s (p1 ++ x ∷ p2) → HasPlan (after s x) (p1 ++ p2)
keep_step s p1 p2 x d w t q =
    let o = q.0 in
    let p = q.1 in
    let at = among_split x o (p.complete x (among_it x p1 p2) (kept_end x.end x.operation (s x.item) w t)) in
    let p' = subst (IsPlan s (p1 ++ x ∷ p2)) at.2 p in
    let r = runs_without x (s x.item) at.0 at.1 s w t p'.run in (
      at.0 ++ at.1,
      plan_without s (after s x) p1 p2 x at.0 at.1 d p'
          (runs_same s (after s x) (at.0 ++ at.1) (λ z. sym (after_kept s x t z)) r),
    )

-- ---- a call that changes the set

-- In a run, if no call that changes nothing could come there, the first call on the item of z changes the item. That
-- call is z or comes before z.
record Turned (s : Set) (z : SetCall) (o : Calls) : Type 0 where
  front : Calls
  call : SetCall
  back : Calls
  is : o ≡ front ++ call ∷ back
  others : Avoids z.item front
  item : call.item ≡ z.item
  wants : wanted call ≡ Some (s z.item)
  changes : turns call.operation (s z.item) ≡ true
  opened : ended_before z.end call.called ≡ false

-- a call was called before another had ended
abbrev pub Open : SetCall → SetCall → Type 0
Open z c = ended_before z.end c.called ≡ false

abbrev NoKeeper : Set → SetCall → SetCall → Type 0
NoKeeper s z c = Open z c → c.item ≡ z.item → wanted c ≡ Some (s z.item) → turns c.operation (s z.item) ≡ false → ⊥

first_turned : (z : SetCall) (o : Calls) (s : Set) →
    Open z z →
    Among z o →
    Ordered o →
    Runs s o →
    ((c : SetCall) → Among c o → NoKeeper s z c) →
    Turned s z o
first_turned z [] s oz a d r nay = absurd a
first_turned z (c ∷ cs) s oz a d r nay = go (int_eq c.item z.item) refl
    (λ b no'. first_turned z cs (after s c) oz b d.1 r.1 no')
  where
    opened : (c ≡ z) ⊎ Among z cs → Open z c
    opened (inl e) = ap (λ (y : SetCall). ended_before z.end y.called) e ∙ oz
    opened (inr b) = (d.0 z b).in_time

    here : (t : Bool) → turns c.operation (s z.item) ≡ t → c.item ≡ z.item → Turned s z (c ∷ cs)
    here false t e = absurd (nay c (inl refl) (opened a) e (r.0 ∙ ap (λ i. Some (s i)) e) t)
    here true t e = record {
      front = [];
      call = c;
      back = cs;
      is = refl;
      others = λ y b i. b;
      item = e;
      wants = r.0 ∙ ap (λ i. Some (s i)) e;
      changes = t;
      opened = opened a;
    }

    among_rest : (c ≡ z) ⊎ Among z cs → (c.item ≡ z.item → ⊥) → Among z cs
    among_rest (inl e) other = absurd (other (ap (λ (y : SetCall). y.item) e))
    among_rest (inr b) other = b

    avoid : (f : Calls) →
        (c.item ≡ z.item → ⊥) →
        Avoids z.item f →
        (y : SetCall) →
        Among y (c ∷ f) →
        y.item ≡ z.item →
        ⊥
    avoid f other rest y (inl e) i = other (ap (λ (x : SetCall). x.item) e ∙ i)
    avoid f other rest y (inr b) i = rest y b i

    more : (c.item ≡ z.item → ⊥) → Turned (after s c) z cs → Turned s z (c ∷ cs)
    more other w =
        let same : after s c z.item ≡ s z.item = after_other s c z.item other in
        record {
          front = c ∷ w.front;
          call = w.call;
          back = w.back;
          is = ap (λ l. c ∷ l) w.is;
          others = avoid w.front other w.others;
          item = w.item;
          wants = w.wants ∙ ap (λ b. Some b) same;
          changes = ap (turns w.call.operation) (sym same) ∙ w.changes;
          opened = w.opened;
        }

    none : (c.item ≡ z.item → ⊥) → (y : SetCall) → Among y cs → NoKeeper (after s c) z y
    none other y b o i w t =
        let same : after s c z.item ≡ s z.item = after_other s c z.item other in
        nay y (inr b) o i (w ∙ ap (λ b. Some b) same) (ap (turns y.operation) (sym same) ∙ t)

    go : (t : Bool) →
        int_eq c.item z.item ≡ t →
        (Among z cs → ((y : SetCall) → Among y cs → NoKeeper (after s c) z y) → Turned (after s c) z cs) →
        Turned s z (c ∷ cs)
    go true e later = here (turns c.operation (s z.item)) refl (item_is c.item z.item e)
    go false e later =
        let other : c.item ≡ z.item → ⊥ = item_apart c.item z.item e in
        more other (later (among_rest a other) (none other))

-- what a plan of the calls that are left begins with
plan_turned : (s : Set) (rest : Calls) (z : SetCall) (o : Calls) →
    Among z rest →
    has_end z.end ≡ true →
    Open z z →
    ((c : SetCall) → Among c rest → NoKeeper s z c) →
    IsPlan s rest o →
    Turned s z o
plan_turned s rest z o a e oz nay p = first_turned z o s oz (p.complete z a e) p.ordered p.run
    (λ c b. nay c (p.inside c b))

-- z is the call that has to be placed now; nothing that changes nothing can be placed, and nothing that changes the set
abbrev NoTurner : Set → SetCall → SetCall → Type 0
NoTurner s z c = Open z c → c.item ≡ z.item → wanted c ≡ Some (s z.item) → turns c.operation (s z.item) ≡ true → ⊥

-- if no open call may come next on an item, there is no plan
pub stuck : (s : Set) (rest : Calls) (z : SetCall) (o : Calls) →
    Among z rest →
    has_end z.end ≡ true →
    Open z z →
    ((c : SetCall) → Among c rest → NoKeeper s z c) →
    ((c : SetCall) → Among c rest → NoTurner s z c)
    → IsPlan s rest o → ⊥
stuck s rest z o a e oz nay none p =
    let w = plan_turned s rest z o a e oz nay p in
    let there : Among w.call o = subst (λ l. Among w.call l) (sym w.is) (among_it w.call w.front w.back) in
    none w.call (p.inside w.call there) w.opened w.item w.wants w.changes

-- x, which changes the set, is the first to end of those that do
late_end : (x k : SetCall) → EndsFirst x k → has_end x.end ≡ false → has_end k.end ≡ false
late_end x k late e = go x.end k.end (λ n. late n) e
  where
    lost : (n : ℕ) → ((m : ℕ) → false ≡ false → ended_before (Trapped n) m ≡ false) → ⊥
    lost n h = true≢false (sym (lt-ltb n (n + 1) (omega arith)) ∙ h (n + 1) refl)

    go : (d e : End) →
        ((n : ℕ) → ended_before d n ≡ false → ended_before e n ≡ false) →
        has_end d ≡ false →
        has_end e ≡ false
    go Pending Pending h i = refl
    go Pending (Trapped n) h i = absurd (lost n h)
    go Pending (Returned n r) h i = absurd (lost n h)
    go (Trapped m) e h i = absurd (true≢false i)
    go (Returned m r) e h i = absurd (true≢false i)

abbrev Least : Set → SetCall → SetCall → SetCall → Type 0
Least s z x c = Open z c → c.item ≡ z.item → wanted c ≡ Some (s z.item) → turns c.operation (s z.item) ≡ true →
    EndsFirst x c

module _ (s : Set) (p1 p2 : Calls) (x z : SetCall) (d : Distinct (p1 ++ x ∷ p2)) (ix : x.item ≡ z.item)
    (wx : wanted x ≡ Some (s z.item)) (tx : turns x.operation (s z.item) ≡ true) where
  -- the call k, with which the plan's calls on the item begin, is x
  turn_same : (f b : Calls) → Avoids z.item f → IsPlan s (p1 ++ x ∷ p2) (f ++ x ∷ b) → HasPlan (after s x) (p1 ++ p2)
  turn_same f b av p =
      (f ++ b, plan_without s (after s x) p1 p2 x f b d p (runs_moved x f b s (λ c a i. av c a (i ∙ ix)) p.run))

  -- x is no call of the plan
  turn_new : (f b : Calls) (k : SetCall) →
      Avoids z.item f →
      k.item ≡ z.item →
      turns k.operation (s z.item) ≡ true →
      has_end k.end ≡ false
      → ((c : SetCall) → Among c (f ++ k ∷ b) → c.called ≡ x.called → ⊥) → IsPlan s (p1 ++ x ∷ p2) (f ++ k ∷ b) →
      HasPlan (after s x) (p1 ++ p2)
  turn_new f b k av ik tk free nay p = (
    f ++ b,
    record {
      inside = λ c a. let a' = among_with c k f b a in among_without c x p1 p2 (p.inside c a')
          (other_call c x (nay c a'));
      complete = λ c a e. among_without c k f b (p.complete c (among_with c x p1 p2 a) e)
          (λ i. true≢false (sym e ∙ ap (λ (y : SetCall). has_end y.end) (sym i) ∙ free));
      ordered = ordered_without f k b p.ordered;
      run = runs_alike x k (f ++ b) s (ix ∙ sym ik) (same_turn x.operation k.operation (s z.item) tx tk)
          (runs_moved k f b s (λ c a i. av c a (i ∙ ik)) p.run);
    },
  )

  -- x comes after k: they change places
  turn_swap : (f m b : Calls) (k : SetCall) →
      Avoids z.item f →
      k.item ≡ z.item →
      wanted k ≡ Some (s z.item) →
      turns k.operation (s z.item) ≡ true →
      EndsFirst x k
      → IsPlan s (p1 ++ x ∷ p2) (f ++ k ∷ (m ++ x ∷ b)) → HasPlan (after s x) (p1 ++ p2)
  turn_swap f m b k av ik wk tk late p =
      let same = same_turn x.operation k.operation (s z.item) tx tk in
      let moved : Runs (after s k) (f ++ (m ++ x ∷ b)) = runs_moved k f (m ++ x ∷ b) s (λ c a i. av c a (i ∙ ik)) p.run
      in
      let moved' : Runs (after s k) ((f ++ m) ++ x ∷ b) = subst (Runs (after s k)) (sym (append_assoc f m (x ∷ b)))
      moved in
      let instead : Runs (after s k) ((f ++ m) ++ k ∷ b) = runs_instead x k (s z.item) (f ++ m) b (after s k)
      (ix ∙ sym ik) same wx wk moved' in
      let instead' : Runs (after s k) (f ++ (m ++ k ∷ b)) = subst (Runs (after s k)) (append_assoc f m (k ∷ b)) instead
      in (
        f ++ (m ++ k ∷ b),
        record {
          inside = λ c a. among_without c x p1 p2 (p.inside c (among_swap c k x f m b a))
              (other_call c x (swap_apart c k x f m b p.ordered a));
          complete = λ c a e. among_swapped c k x f m b (p.complete c (among_with c x p1 p2 a) e)
              (other_call c x (distinct_apart c x p1 p2 d a));
          ordered = ordered_swap k x f m b late p.ordered;
          run = runs_alike x k (f ++ (m ++ k ∷ b)) s (ix ∙ sym ik) same instead';
        },
      )

  -- the place of the call x, if it is there
  data Found (o : Calls) : Type 0 where
    Nowhere : ((c : SetCall) → Among c o → c.called ≡ x.called → ⊥) → Found o
    Here : (y : SetCall) → Among y o → y.called ≡ x.called → Found o

  look : (o : Calls) → Found o
  look [] = Nowhere (λ c a e. a)
  look (y ∷ ys) = go (y.called == x.called) refl (look ys)
    where
      nowhere : (y.called ≡ x.called → ⊥) →
          ((c : SetCall) → Among c ys → c.called ≡ x.called → ⊥) →
          (c : SetCall) →
          Among c (y ∷ ys) →
          c.called ≡ x.called →
          ⊥
      nowhere nay rest c (inl i) e = nay (ap (λ (w : SetCall). w.called) i ∙ e)
      nowhere nay rest c (inr a) e = rest c a e

      go : (t : Bool) → (y.called == x.called) ≡ t → Found ys → Found (y ∷ ys)
      go true e f = Here y (inl refl) (eqb-true y.called x.called e)
      go false e (Nowhere nay) = Nowhere (nowhere (eqb-false y.called x.called e) nay)
      go false e (Here c a i) = Here c (inr a) i

  module _ (e : has_end z.end ≡ true) (az : Among z (p1 ++ x ∷ p2)) (oz : Open z z)
      (nay : (c : SetCall) → Among c (p1 ++ x ∷ p2) → NoKeeper s z c)
      (least : (c : SetCall) → Among c (p1 ++ x ∷ p2) → Least s z x c) where
    turn_at : (o : Calls) → IsPlan s (p1 ++ x ∷ p2) o → Turned s z o → Found o → HasPlan (after s x) (p1 ++ p2)
    turn_at o p w (Nowhere none) =
        let p' = subst (IsPlan s (p1 ++ x ∷ p2)) w.is p in
        let late = least w.call (p'.inside w.call (among_it w.call w.front w.back)) w.opened w.item w.wants w.changes in
        turn_new w.front w.back w.call w.others w.item w.changes (late_end x w.call late (no_end (has_end x.end) refl))
        (λ c a. none c (subst (λ l. Among c l) (sym w.is) a)) p'
      where
        no_end : (t : Bool) → has_end x.end ≡ t → has_end x.end ≡ false
        no_end true i = absurd (none x (p.complete x (among_it x p1 p2) i) refl)
        no_end false i = i
    turn_at o p w (Here y a i) = place (among_either x w.call w.front w.back (subst (λ l. Among x l) w.is there))
      where
        is_x : y ≡ x
        is_x = distinct_same (p1 ++ x ∷ p2) y x d (p.inside y a) (among_it x p1 p2) i

        there : Among x o
        there = subst (λ c. Among c o) is_x a

        p' : IsPlan s (p1 ++ x ∷ p2) (w.front ++ w.call ∷ w.back)
        p' = subst (IsPlan s (p1 ++ x ∷ p2)) w.is p

        late : EndsFirst x w.call
        late = least w.call (p'.inside w.call (among_it w.call w.front w.back)) w.opened w.item w.wants w.changes

        later : Among x w.back → HasPlan (after s x) (p1 ++ p2)
        later b =
            let at = among_split x w.back b in
            turn_swap w.front at.0 at.1 w.call w.others w.item w.wants w.changes late
            (subst (λ l. IsPlan s (p1 ++ x ∷ p2) (w.front ++ w.call ∷ l)) at.2 p')

        either : Among x w.front ⊎ Among x w.back → HasPlan (after s x) (p1 ++ p2)
        either (inl f) = absurd (w.others x f ix)
        either (inr b) = later b

        place : (w.call ≡ x) ⊎ Among x (w.front ++ w.back) → HasPlan (after s x) (p1 ++ p2)
        place (inl k) = turn_same w.front w.back w.others (subst (λ c. IsPlan s (p1 ++ x ∷ p2) (w.front ++ c ∷ w.back))
            k p')
        place (inr b) = either (among_cases x w.front w.back b)

    -- among the calls that change the set, the first to end may be placed first
    pub turn_step : HasPlan s (p1 ++ x ∷ p2) → HasPlan (after s x) (p1 ++ p2)
    turn_step q = turn_at q.0 q.1 (plan_turned s (p1 ++ x ∷ p2) z q.0 az e oz nay q.1) (look q.0)
