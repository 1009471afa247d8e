-- The first call in the order of what calls do, and in the order of their ends.
use Rattle.std.proofs.Common.{◌≡◌, ◌∙◌, ◌<◌, ◌≤◌, inl, inr, ℕ, ℤ, Bool, true, false, not, Option, Some, None}
use Rattle.std.proofs.Common.{refl, sym, ap, subst, arith, is_gt, is_lt, is_some, nat_cmp, int_cmp, Ordering, Less}
use Rattle.std.proofs.Common.{◌&&◌, Equal}
use Rattle.std.proofs.Common.{Greater, BTreeMap, eqb-true, eq-eqb, le-ltb, ltb-false, unwrap_or}
use Rattle.std.specs.BTreeMap.{get}
use Rattle.std.specs.BTreeMap.Range.{IsLeBy}
use Rattle.std.specs.Cmp.{IsTotalOrder, bool_cmp_total}
use Rattle.std.specs.Ordering.{bool_cmp, ordering_reverse, ordering_then}
use Rattle.std.specs.Prelude.{option_map, IsSome}
use Rattle.std.proofs.lemmas.Bool.{true≢false}
use Rattle.std.proofs.lemmas.Cmp.{by_ranked, int_cmp_total, ranked, tied_itself}
use Rattle.std.proofs.lemmas.Map.Keys.{le_from_not_gt}
use Rattle.std.proofs.lemmas.Map.Lookups.{exact_signed}
use Rattle.std.proofs.lemmas.Option.{same_Some}
use Rattle.ls_orders.specs.declared.calls.End.{End}
use Rattle.ls_orders.specs.declared.calls.End.TheVariants.{Pending, Returned, Trapped}
use Rattle.ls_orders.specs.declared.calls.SetCall.{SetCall}
use Rattle.ls_orders.specs.Rules.{ended_before}
use Rattle.ls_order_search.specs.declared.pool.Ending.{Ending}
use Rattle.ls_order_search.specs.declared.pool.Turn.{Turn}
use Rattle.ls_order_search.specs.Plans.{Among, turns, wanted}
use Rattle.ls_order_search.specs.Pools.{EndsNext, Indexed, IsFirst, ending_cmp, ending_of, first_ending, first_turn}
use Rattle.ls_order_search.specs.Pools.{end_if, place_of, turn_at, turn_cmp, turn_of}
use Rattle.ls_order_search.specs.Search.{Calls, Choice, Fits, Keeps, LastUntil, NoLater, Turns, ends_at}
use Rattle.ls_order_search.proofs.Indexes.{None≢Some}
use Rattle.ls_order_search.proofs.Steps.{sooner}
use Rattle.ls_order_search.proofs.Turns.{ending_is, exact_bool, turn_is}

-- ---- one order after another

first_le : (o p : Ordering) → is_gt (ordering_then o p) ≡ false → is_gt o ≡ false
first_le Less p h = refl
first_le Equal p h = refl
first_le Greater p h = h

then_le : (o p : Ordering) → o ≡ Equal → is_gt (ordering_then o p) ≡ false → is_gt p ≡ false
then_le o p e h = subst (λ r. is_gt (ordering_then r p) ≡ false) e h

le_then : (o p : Ordering) → o ≡ Equal → is_gt p ≡ false → is_gt (ordering_then o p) ≡ false
le_then o p e h = subst (λ r. is_gt (ordering_then r p) ≡ false) (sym e) h

level : (o p : Ordering) → o ≡ ordering_reverse p → is_gt o ≡ false → is_gt p ≡ false → o ≡ Equal
level Equal p e h g = refl
level Greater p e h g = absurd (true≢false h)
level Less Less e h g = absurd (true≢false (ap is_lt e))
level Less Equal e h g = absurd (true≢false (ap is_lt e))
level Less Greater e h g = absurd (true≢false g)

both_le : {K : Type 0} {R : K → K → Ordering} → IsTotalOrder R → (x y : K) → is_gt (R x y) ≡ false →
    is_gt (R y x) ≡ false → R x y ≡ Equal
both_le {K} {R} o x y h g = level (R x y) (R y x) (o.antisymm x y) h g

zero_le : (n : ℕ) (o : Ordering) → is_gt o ≡ false → is_gt (ordering_then (nat_cmp 0 n) o) ≡ false
zero_le n o h = by_ranked (0 < n) (0 ≡ n) (n < 0) (nat_cmp 0 n) (ranked 0 n _ refl)
    (λ e lt. ap (λ r. is_gt (ordering_then r o)) e) (λ e same. le_then (nat_cmp 0 n) o e h)
    (λ e lt. absurd (omega (arith, lt)))

false_le : (b : Bool) (o : Ordering) → is_gt o ≡ false → is_gt (ordering_then (bool_cmp false b) o) ≡ false
false_le false o h = h
false_le true o h = refl

last_zero : (n : ℕ) → is_gt (nat_cmp 0 n) ≡ false
last_zero n = first_le _ Equal (zero_le n Equal refl)

-- ---- by what calls do

-- what is left of the order where the items are the same, and are present or absent alike
abbrev rest_cmp : Turn → Turn → Ordering
rest_cmp a b = ordering_then (bool_cmp a.turns b.turns) (ordering_then (bool_cmp a.pending b.pending)
    (ordering_then (nat_cmp a.end b.end) (nat_cmp a.called b.called)))

start_le : (k : Turn) → IsLeBy turn_cmp (first_turn k.item k.present) k
start_le k = le_then (int_cmp k.item k.item) _ (tied_itself int_cmp_total k.item)
    (le_then (bool_cmp k.present k.present) _ (tied_itself bool_cmp_total k.present)
    (false_le k.turns _ (false_le k.pending _ (zero_le k.end _ (last_zero k.called)))))

module _ (item : ℤ) (was : Bool) (k l : Turn) (there : l.item ≡ item) (alike : l.present ≡ was)
    (from : IsLeBy turn_cmp (first_turn item was) k) (upto : IsLeBy turn_cmp k l) where
  on_item : int_cmp item k.item ≡ Equal
  on_item = both_le int_cmp_total item k.item (first_le _ _ from)
      (subst (λ z. is_gt (int_cmp k.item z) ≡ false) there (first_le _ _ upto))

  -- between two keys on the item there are only keys on the item
  pub same_item : k.item ≡ item
  same_item = sym (exact_signed item k.item on_item)

  back : int_cmp k.item l.item ≡ Equal
  back = ap (int_cmp k.item) (there ∙ sym same_item) ∙ tied_itself int_cmp_total k.item

  pub same_present : k.present ≡ was
  same_present = sym (exact_bool was k.present (both_le bool_cmp_total was k.present
      (first_le _ _ (then_le _ _ on_item from))
      (subst (λ b. is_gt (bool_cmp k.present b) ≡ false) alike (first_le _ _ (then_le _ _ back upto)))))

  rest_le : is_gt (rest_cmp k l) ≡ false
  rest_le = then_le _ _ (ap (bool_cmp k.present) (alike ∙ sym same_present) ∙ tied_itself bool_cmp_total k.present)
      (then_le _ _ back upto)

-- the order of two calls that both change the set, or both don't
abbrev later_cmp : Bool → Bool → SetCall → SetCall → Ordering
later_cmp b d x y = ordering_then (bool_cmp (b && not (is_some (place_of x.end))) (d && not (is_some (place_of y.end))))
    (ordering_then (nat_cmp (end_if b (place_of x.end)) (end_if d (place_of y.end))) (nat_cmp x.called y.called))

-- if one call's end isn't after another's, it has ended where the other has
no_later : (e f : End) (o : Ordering) → is_gt (ordering_then (bool_cmp (not (is_some (place_of e)))
    (not (is_some (place_of f)))) (ordering_then (nat_cmp (unwrap_or (place_of e) 0) (unwrap_or (place_of f) 0)) o))
    ≡ false → NoLater e f
no_later e Pending o h n b = refl
no_later Pending (Trapped k) o h n b = absurd (true≢false h)
no_later Pending (Returned k r) o h n b = absurd (true≢false h)
no_later (Trapped m) (Trapped k) o h n b = let low = le_from_not_gt m k (first_le _ o h) in let far = ltb-false m n b in
    le-ltb k n (omega arith)
no_later (Trapped m) (Returned k r) o h n b = let low = le_from_not_gt m k (first_le _ o h) in
    let far = ltb-false m n b in le-ltb k n (omega arith)
no_later (Returned m q) (Trapped k) o h n b = let low = le_from_not_gt m k (first_le _ o h) in
    let far = ltb-false m n b in le-ltb k n (omega arith)
no_later (Returned m q) (Returned k r) o h n b = let low = le_from_not_gt m k (first_le _ o h) in
    let far = ltb-false m n b in le-ltb k n (omega arith)

module _ (item : ℤ) (was : Bool) (m : BTreeMap Turn SetCall) (calls : Calls) (h : Indexed turn_cmp turn_of m calls)
  where
    -- a call that may come next stands in the map, not before the start
    fit_there : (d : SetCall) → Among d calls → Fits item was d → get turn_cmp m (turn_at d was) ≡ Some d
    fit_there d a f = h.has d (turn_at d was) a (ap (option_map (turn_at d)) f.wants)

    fit_from : (d : SetCall) → Fits item was d → IsLeBy turn_cmp (first_turn item was) (turn_at d was)
    fit_from d f = subst (λ z. IsLeBy turn_cmp (first_turn z was) (turn_at d was)) f.item_is (start_le (turn_at d was))

    pub none_from : ((q : Turn) → IsLeBy turn_cmp (first_turn item was) q → get turn_cmp m q ≡ None) →
        (d : SetCall) →
        Among d calls →
        Fits item was d →
        ⊥
    none_from none d a f = None≢Some d (sym (none (turn_at d was) (fit_from d f)) ∙ fit_there d a f)

    module _ (k : Turn) (x : SetCall) (first : IsFirst turn_cmp m (first_turn item was) (k, x)) where
      upto_fit : (d : SetCall) → Among d calls → Fits item was d → IsLeBy turn_cmp k (turn_at d was)
      upto_fit d a f = first.least (turn_at d was) (fit_from d f)
          (subst (λ o. IsSome o) (sym (fit_there d a f)) refl)

      -- if the first key is another's, no call may come next
      pub none_of : ((k.item ≡ item) × (k.present ≡ was) → ⊥) → (d : SetCall) → Among d calls → Fits item was d → ⊥
      none_of nay d a f =
          let up = upto_fit d a f in
          nay (
            same_item item was k (turn_at d was) f.item_is refl first.from up,
            same_present item was k (turn_at d was) f.item_is refl first.from up,
          )

      module _ (on : k.item ≡ item) (alike : k.present ≡ was) where
        of_x : (present : Bool) × (wanted x ≡ Some present) × (turn_at x present ≡ k)
        of_x = turn_is x k (h.only k x first.there).1

        by : of_x.0 ≡ was
        by = ap (λ (t : Turn). t.present) of_x.2 ∙ alike

        is_k : turn_at x was ≡ k
        is_k = ap (turn_at x) (sym by) ∙ of_x.2

        fits_x : Fits item was x
        fits_x = record {
          item_is = ap (λ (t : Turn). t.item) of_x.2 ∙ on;
          wants = of_x.1 ∙ ap (λ b. Some b) by;
        }

        rest : (d : SetCall) → Among d calls → Fits item was d
            → is_gt (rest_cmp (turn_at x was) (turn_at d was)) ≡ false
        rest d a f = subst (λ t. is_gt (rest_cmp t (turn_at d was)) ≡ false) (sym is_k)
            (rest_le item was k (turn_at d was) f.item_is refl first.from (upto_fit d a f))

        -- the call of the first key is chosen
        pub chosen : Choice item was calls x
        chosen = by_turns (turns x.operation was) refl
          where
            before : (d : SetCall) → Among d calls → turns x.operation was ≡ true → Keeps item was d → ⊥
            before d a t q = true≢false (subst (λ b. is_gt (bool_cmp true b) ≡ false) q.same
                (subst (λ b. is_gt (bool_cmp b (turns d.operation was)) ≡ false) t
                (first_le (bool_cmp (turns x.operation was) (turns d.operation was))
                (later_cmp (turns x.operation was) (turns d.operation was) x d) (rest d a q.fits))))

            later : (d : SetCall) → Among d calls → turns x.operation was ≡ true → Turns item was d
                → is_gt (later_cmp (turns x.operation was) (turns d.operation was) x d) ≡ false
            later d a t q = then_le (bool_cmp (turns x.operation was) (turns d.operation was))
                (later_cmp (turns x.operation was) (turns d.operation was) x d)
                (ap (bool_cmp (turns x.operation was)) (q.changes ∙ sym t)
                ∙ tied_itself bool_cmp_total (turns x.operation was)) (rest d a q.fits)

            least : (d : SetCall) → Among d calls → turns x.operation was ≡ true → Turns item was d
                → NoLater x.end d.end
            least d a t q = no_later x.end d.end (nat_cmp x.called d.called)
                (subst (λ b. is_gt (later_cmp true b x d) ≡ false) q.changes
                (subst (λ b. is_gt (later_cmp b (turns d.operation was) x d) ≡ false) t (later d a t q)))

            by_turns : (b : Bool) → turns x.operation was ≡ b → Choice item was calls x
            by_turns false t = inl (record { fits = fits_x; same = t })
            by_turns true t = inr (
              λ d a q. before d a t q,
              record { turn = record { fits = fits_x; changes = t }; least = λ d a q. least d a t q },
            )

-- ---- by their ends

ends_late : (e : End) (place from : ℕ) → place_of e ≡ Some place → ended_before e from ≡ false → from ≤ place
ends_late Pending place from i h = absurd (None≢Some place i)
ends_late (Trapped m) place from i h = subst (λ n. from ≤ n) (same_Some m place i) (ltb-false m from h)
ends_late (Returned m r) place from i h = subst (λ n. from ≤ n) (same_Some m place i) (ltb-false m from h)

ends_then : (e : End) (place n : ℕ) → place_of e ≡ Some place → n ≤ place → ended_before e n ≡ false
ends_then Pending place n i le = refl
ends_then (Trapped m) place n i le = let same = same_Some m place i in le-ltb m n (omega arith)
ends_then (Returned m r) place n i le = let same = same_Some m place i in le-ltb m n (omega arith)

never : (e : End) (n : ℕ) → place_of e ≡ None → ended_before e n ≡ false
never Pending n i = refl
never (Trapped m) n i = absurd (None≢Some m (sym i))
never (Returned m r) n i = absurd (None≢Some m (sym i))

not_here : (e : End) (at : ℕ) → place_of e ≡ None → ends_at at e ≡ false
not_here Pending at i = refl
not_here (Trapped m) at i = absurd (None≢Some m (sym i))
not_here (Returned m r) at i = absurd (None≢Some m (sym i))

is_here : (e : End) (place at : ℕ) → place_of e ≡ Some place → place ≡ at → ends_at at e ≡ true
is_here Pending place at i same = absurd (None≢Some place i)
is_here (Trapped m) place at i same = eq-eqb m at (same_Some m place i ∙ same)
is_here (Returned m r) place at i same = eq-eqb m at (same_Some m place i ∙ same)

place_here : (e : End) (at : ℕ) → ends_at at e ≡ true → place_of e ≡ Some at
place_here Pending at h = absurd (true≢false (sym h))
place_here (Trapped m) at h = ap (λ n. Some n) (eqb-true m at h)
place_here (Returned m r) at h = ap (λ n. Some n) (eqb-true m at h)

ending_le : (from : ℕ) (k : Ending) → from ≤ k.at → IsLeBy ending_cmp (first_ending from) k
ending_le from k le = by_ranked (from < k.at) (from ≡ k.at) (k.at < from) (nat_cmp from k.at) (ranked from k.at _ refl)
    (λ e lt. ap (λ o. is_gt (ordering_then o (nat_cmp 0 k.called))) e)
    (λ e same. le_then (nat_cmp from k.at) _ e (last_zero k.called)) (λ e lt. absurd (omega (arith, le, lt)))

module _ (from : ℕ) (m : BTreeMap Ending SetCall) (calls : Calls) (h : Indexed ending_cmp ending_of m calls) where
  abbrev key_of : SetCall → ℕ → Ending
  key_of d place = record { at = place; called = d.called }

  end_there : (d : SetCall) (place : ℕ) →
      Among d calls →
      place_of d.end ≡ Some place →
      get ending_cmp m (key_of d place) ≡ Some d
  end_there d place a i = h.has d (key_of d place) a (ap (option_map (key_of d)) i)

  -- if there is no key from the place on, no call ends there or later
  pub no_end : ((q : Ending) → IsLeBy ending_cmp (first_ending from) q → get ending_cmp m q ≡ None) →
      (d : SetCall) →
      Among d calls →
      ended_before d.end from ≡ false →
      place_of d.end ≡ None
  no_end none d a b = by (place_of d.end) refl
    where
      by : (o : Option ℕ) → place_of d.end ≡ o → place_of d.end ≡ None
      by None i = i
      by (Some n) i = absurd (None≢Some d (sym (none (key_of d n) (ending_le from (key_of d n)
          (ends_late d.end n from i b))) ∙ end_there d n a i))

  -- the call of the first key ends first
  pub first_end : (k : Ending) (x : SetCall) →
      IsFirst ending_cmp m (first_ending from) (k, x) →
      EndsNext from calls x
  first_end k x first = record {
    among = (h.only k x first.there).0;
    place = of_x.0;
    from = subst (λ n. from ≤ n) (sym at_x) (le_from_not_gt from k.at (first_le _ _ first.from));
    ends = of_x.1;
    least = λ d a b. by d a b (place_of d.end) refl;
  }
    where
      of_x : (place : ℕ) × (place_of x.end ≡ Some place) × (record { at = place; called = x.called } ≡ k)
      of_x = ending_is x k (h.only k x first.there).1

      at_x : of_x.0 ≡ k.at
      at_x = ap (λ (e : Ending). e.at) of_x.2

      by : (d : SetCall) → Among d calls → ended_before d.end from ≡ false → (o : Option ℕ) → place_of d.end ≡ o
          → ended_before d.end of_x.0 ≡ false
      by d a b None i = never d.end of_x.0 i
      by d a b (Some n) i =
          let up = first.least (key_of d n) (ending_le from (key_of d n) (ends_late d.end n from i b))
          (subst (λ o. IsSome o) (sym (end_there d n a i)) refl) in
          ends_then d.end n of_x.0 i (subst (λ j. j ≤ n) (sym at_x) (le_from_not_gt k.at n (first_le _ _ up)))

-- if the first to end ends elsewhere, no call ends at the place
pub none_here : (at : ℕ) (calls : Calls) (x : SetCall) →
    EndsNext at calls x →
    ends_at at x.end ≡ false →
    (d : SetCall) →
    Among d calls →
    ends_at at d.end ≡ false
none_here at calls x e nay d a = by (ends_at at d.end) refl
  where
    by : (b : Bool) → ends_at at d.end ≡ b → ends_at at d.end ≡ false
    by false t = t
    by true t =
        let i = place_here d.end at t in
        let le = ends_late d.end at e.place i (e.least d a (ends_then d.end at at i (omega arith))) in
        let from = e.from in
        absurd (true≢false (sym (is_here x.end e.place at e.ends (omega arith)) ∙ nay))

pub none_at_all : (at : ℕ) (calls : Calls) →
    ((c : SetCall) → Among c calls → ended_before c.end at ≡ false → place_of c.end ≡ None) →
    (d : SetCall) →
    Among d calls →
    ends_at at d.end ≡ false
none_at_all at calls none d a = by (ends_at at d.end) refl
  where
    by : (b : Bool) → ends_at at d.end ≡ b → ends_at at d.end ≡ false
    by false t = t
    by true t =
        let i = place_here d.end at t in
        absurd (None≢Some at (sym (none d a (ends_then d.end at at i (omega arith))) ∙ i))

-- up to the first end no call has ended
pub lasts_to : (from to : ℕ) (calls : Calls) (x : SetCall) →
    EndsNext from calls x →
    (ended_before x.end from ≡ false → ended_before x.end to ≡ false) →
    LastUntil from calls →
    LastUntil to calls
lasts_to from to calls x e own last d a = sooner to e.place d.end (e.least d a (last d a))
    (ends_late x.end e.place to e.ends (own (last x e.among)))

pub lasts_on : (from to : ℕ) (calls : Calls) →
    ((c : SetCall) → Among c calls → ended_before c.end from ≡ false → place_of c.end ≡ None) →
    LastUntil from calls →
    LastUntil to calls
lasts_on from to calls none last d a = never d.end to (none d a (last d a))
