-- Events are passed over at which no call comes or ends.
use Rattle.std.proofs.Common.{◌≡◌, ◌∙◌, ◌⊎◌, ◌+◌, ◌<◌, ◌≤◌, inl, inr, ℕ, ◌∷◌, length, get_or, drop}
use Rattle.std.proofs.Common.{min, refl, sym, ap, subst, arith}
use Rattle.std.proofs.lemmas.List.{drop_more, get_or_default}
use Rattle.ls_orders.specs.declared.calls.SetCall.{SetCall}
use Rattle.ls_order_search.specs.Plans.{Among}
use Rattle.ls_order_search.specs.Search.{CalledFrom, Calls, Rising}

module _ (calls : Calls) (next : ℕ) (x : SetCall) (lt : next < length calls) (is : x ≡ get_or calls next x) where
  split : drop next calls ≡ x ∷ drop (next + 1) calls
  split = drop_more calls next x lt ∙ ap (λ y. y ∷ drop (next + 1) calls) (sym is)

  -- the next call is the first of those that come
  pub first_called : Rising (drop next calls) → (n : ℕ) → n ≤ x.called → CalledFrom n (drop next calls)
  first_called r n le c a = by (subst (λ l. Among c l) split a)
    where
      rising : Rising (x ∷ drop (next + 1) calls)
      rising = subst Rising split r

      by : (x ≡ c) ⊎ Among c (drop (next + 1) calls) → n ≤ c.called
      by (inl e) = subst (λ (d : SetCall). n ≤ d.called) e le
      by (inr b) = let lower : x.called < c.called = rising.0 c b in omega arith

  pub no_later : (n : ℕ) → CalledFrom n (drop next calls) → n ≤ x.called
  no_later n h = h x (subst (λ l. Among x l) (sym split) (inl refl))

-- the first place of the next call and the number of events
module _ (calls : Calls) (next : ℕ) (d : SetCall) (events first : ℕ) (lt : next < length calls)
    (is : first ≡ min (get_or calls next d).called events) where
  x_is : get_or calls next d ≡ get_or calls next (get_or calls next d)
  x_is = get_or_default calls next d (get_or calls next d) lt

  -- the calls that are left are called at `first` or later
  pub first_comes : Rising (drop next calls) → CalledFrom first (drop next calls)
  first_comes r = first_called calls next (get_or calls next d) lt x_is r first (omega arith)

  -- `first` is the last such event
  pub first_is_last : (n : ℕ) → n ≤ events → CalledFrom n (drop next calls) → n ≤ first
  first_is_last n le h = let low : n ≤ (get_or calls next d).called = no_later calls next (get_or calls next d) lt x_is
      n h in omega arith
