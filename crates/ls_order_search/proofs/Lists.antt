-- Calls in lists.
use Rattle.std.proofs.Common.{◌≡◌, ◌∙◌, ◌⊎◌, inl, inr, ℕ, false, List, [], ◌∷◌, ◌++◌}
use Rattle.std.proofs.Common.{refl, sym, ap, subst}
use Rattle.ls_orders.specs.declared.calls.SetCall.{SetCall}
use Rattle.ls_orders.specs.Rules.{ended_before}
use Rattle.ls_order_search.specs.Plans.{Among, Distinct, MayPrecede, Ordered}

-- a call of the first list
pub among_front : (c : SetCall) (f b : List SetCall) → Among c f → Among c (f ++ b)
among_front c [] b h = absurd h
among_front c (y ∷ f) b (inl e) = inl e
among_front c (y ∷ f) b (inr h) = inr (among_front c f b h)

-- a call of the second list
pub among_back : (c : SetCall) (f b : List SetCall) → Among c b → Among c (f ++ b)
among_back c [] b h = h
among_back c (y ∷ f) b h = inr (among_back c f b h)

-- a call of two lists is of one of them
pub among_cases : (c : SetCall) (f b : List SetCall) → Among c (f ++ b) → Among c f ⊎ Among c b
among_cases c [] b h = inr h
among_cases c (y ∷ f) b (inl e) = inl (inl e)
among_cases c (y ∷ f) b (inr h) = go (among_cases c f b h)
  where
    go : Among c f ⊎ Among c b → Among c (y ∷ f) ⊎ Among c b
    go (inl a) = inl (inr a)
    go (inr a) = inr a

-- the call in the middle
pub among_it : (x : SetCall) (f b : List SetCall) → Among x (f ++ x ∷ b)
among_it x f b = among_back x f (x ∷ b) (inl refl)

-- a call of a list with one more
pub among_with : (c x : SetCall) (f b : List SetCall) → Among c (f ++ b) → Among c (f ++ x ∷ b)
among_with c x f b h = go (among_cases c f b h)
  where
    go : Among c f ⊎ Among c b → Among c (f ++ x ∷ b)
    go (inl a) = among_front c f (x ∷ b) a
    go (inr a) = among_back c f (x ∷ b) (inr a)

-- a call of a list with one more is that one, or of the list
pub among_either : (c x : SetCall) (f b : List SetCall) → Among c (f ++ x ∷ b) → (x ≡ c) ⊎ Among c (f ++ b)
among_either c x f b h = go (among_cases c f (x ∷ b) h)
  where
    go : Among c f ⊎ Among c (x ∷ b) → (x ≡ c) ⊎ Among c (f ++ b)
    go (inl a) = inr (among_front c f b a)
    go (inr (inl e)) = inl e
    go (inr (inr a)) = inr (among_back c f b a)

-- a call of a list with one more, other than that one
pub among_without : (c x : SetCall) (f b : List SetCall) → Among c (f ++ x ∷ b) → (x ≡ c → ⊥) → Among c (f ++ b)
among_without c x f b h nay = go (among_either c x f b h)
  where
    go : (x ≡ c) ⊎ Among c (f ++ b) → Among c (f ++ b)
    go (inl e) = absurd (nay e)
    go (inr a) = a

-- a list is split at a call
pub among_split : (x : SetCall) (o : List SetCall) →
    Among x o →
    (f : List SetCall) × (b : List SetCall) × (o ≡ f ++ x ∷ b)
among_split x [] h = absurd h
among_split x (y ∷ ys) (inl e) = ([], ys, ap (λ z. z ∷ ys) e)
among_split x (y ∷ ys) (inr h) =
    let r = among_split x ys h in
    (y ∷ r.0, r.1, ap (λ l. y ∷ l) r.2)

-- ---- ordered

-- an order without one call
pub ordered_without : (f : List SetCall) (x : SetCall) (b : List SetCall) → Ordered (f ++ x ∷ b) → Ordered (f ++ b)
ordered_without [] x b h = h.1
ordered_without (y ∷ f) x b h = (λ z a. h.0 z (among_with z x f b a), ordered_without f x b h.1)

-- no other call of an order has its place
pub ordered_apart : (c x : SetCall) (f b : List SetCall) →
    Ordered (f ++ x ∷ b) →
    Among c (f ++ b) →
    c.called ≡ x.called →
    ⊥
ordered_apart c x [] b h a e = (h.0 c a).apart (sym e)
ordered_apart c x (y ∷ f) b h (inl i) e = (h.0 x (among_it x f b)).apart (ap (λ (d : SetCall). d.called) i ∙ e)
ordered_apart c x (y ∷ f) b h (inr a) e = ordered_apart c x f b h.1 a e

-- ---- distinct

-- distinct calls without one
pub distinct_without : (f : List SetCall) (x : SetCall) (b : List SetCall) → Distinct (f ++ x ∷ b) → Distinct (f ++ b)
distinct_without [] x b h = h.1
distinct_without (y ∷ f) x b h = (λ z a. h.0 z (among_with z x f b a), distinct_without f x b h.1)

-- the first of distinct calls
pub distinct_front : (f b : List SetCall) → Distinct (f ++ b) → Distinct f
distinct_front [] b h = tt
distinct_front (y ∷ f) b h = (λ z a. h.0 z (among_front z f b a), distinct_front f b h.1)

-- no other call has its place
pub distinct_apart : (c x : SetCall) (f b : List SetCall) →
    Distinct (f ++ x ∷ b) →
    Among c (f ++ b) →
    c.called ≡ x.called →
    ⊥
distinct_apart c x [] b h a e = h.0 c a (sym e)
distinct_apart c x (y ∷ f) b h (inl i) e = h.0 x (among_it x f b) (ap (λ (d : SetCall). d.called) i ∙ e)
distinct_apart c x (y ∷ f) b h (inr a) e = distinct_apart c x f b h.1 a e

-- distinct calls with one place are the same
pub distinct_same : (xs : List SetCall) (x y : SetCall) →
    Distinct xs →
    Among x xs →
    Among y xs →
    x.called ≡ y.called →
    x ≡ y
distinct_same [] x y h a b e = absurd a
distinct_same (c ∷ xs) x y h (inl i) (inl j) e = sym i ∙ j
distinct_same (c ∷ xs) x y h (inl i) (inr b) e = absurd (h.0 y b (ap (λ (d : SetCall). d.called) i ∙ e))
distinct_same (c ∷ xs) x y h (inr a) (inl j) e = absurd (h.0 x a (ap (λ (d : SetCall). d.called) j ∙ sym e))
distinct_same (c ∷ xs) x y h (inr a) (inr b) e = distinct_same xs x y h.1 a b e

-- ---- one call for another

-- if x has not ended, k has not
abbrev pub EndsFirst : SetCall → SetCall → Type 0
EndsFirst x k = (n : ℕ) → ended_before x.end n ≡ false → ended_before k.end n ≡ false

swap_after : (k x : SetCall) (m b : List SetCall) →
    ((y : SetCall) → Among y (m ++ x ∷ b) → MayPrecede k y) →
    EndsFirst x k →
    Ordered (m ++ x ∷ b) →
    Ordered (m ++ k ∷ b)
swap_after k x [] b before late h = (λ y a. before y (inr a), h.1)
swap_after k x (y ∷ m) b before late h =
    (λ z a. first z (among_either z k m b a), swap_after k x m b (λ z a. before z (inr a)) late h.1)
  where
    first : (z : SetCall) → (k ≡ z) ⊎ Among z (m ++ b) → MayPrecede y z
    first z (inr a) = h.0 z (among_with z x m b a)
    first z (inl e) = subst (λ d. MayPrecede y d) e (record {
      in_time = late y.called (h.0 x (among_it x m b)).in_time;
      apart = λ i. (before y (inl refl)).apart (sym i);
    })

-- a call of the list after the exchange is one of the list before
pub among_swap : (c k x : SetCall) (f m b : List SetCall) →
    Among c (f ++ (m ++ k ∷ b)) →
    Among c (f ++ k ∷ (m ++ x ∷ b))
among_swap c k x f m b h = go (among_cases c f (m ++ k ∷ b) h)
  where
    among : (k ≡ c) ⊎ Among c (m ++ b) → Among c (k ∷ (m ++ x ∷ b))
    among (inl e) = inl e
    among (inr a) = inr (among_with c x m b a)

    go : Among c f ⊎ Among c (m ++ k ∷ b) → Among c (f ++ k ∷ (m ++ x ∷ b))
    go (inl a) = among_front c f (k ∷ (m ++ x ∷ b)) a
    go (inr a) = among_back c f (k ∷ (m ++ x ∷ b)) (among (among_either c k m b a))

-- and back, but for x
pub among_swapped : (c k x : SetCall) (f m b : List SetCall) →
    Among c (f ++ k ∷ (m ++ x ∷ b)) →
    (x ≡ c → ⊥) →
    Among c (f ++ (m ++ k ∷ b))
among_swapped c k x f m b h nay = go (among_cases c f (k ∷ (m ++ x ∷ b)) h)
  where
    go : Among c f ⊎ Among c (k ∷ (m ++ x ∷ b)) → Among c (f ++ (m ++ k ∷ b))
    go (inl a) = among_front c f (m ++ k ∷ b) a
    go (inr (inl e)) = among_back c f (m ++ k ∷ b) (among_back c m (k ∷ b) (inl e))
    go (inr (inr a)) = among_back c f (m ++ k ∷ b) (among_with c k m b (among_without c x m b a nay))

-- two calls change places in an order
pub ordered_swap : (k x : SetCall) (f m b : List SetCall) →
    EndsFirst x k →
    Ordered (f ++ k ∷ (m ++ x ∷ b)) →
    Ordered (f ++ (m ++ k ∷ b))
ordered_swap k x [] m b late h = swap_after k x m b h.0 late h.1
ordered_swap k x (y ∷ f) m b late h = (λ z a. h.0 z (among_swap z k x f m b a), ordered_swap k x f m b late h.1)

-- x is apart from the others after the exchange too
pub swap_apart : (c k x : SetCall) (f m b : List SetCall) →
    Ordered (f ++ k ∷ (m ++ x ∷ b)) →
    Among c (f ++ (m ++ k ∷ b)) →
    c.called ≡ x.called →
    ⊥
swap_apart c k x [] m b h a e = go (among_either c k m b a)
  where
    go : (k ≡ c) ⊎ Among c (m ++ b) → ⊥
    go (inl i) = (h.0 x (among_it x m b)).apart (ap (λ (d : SetCall). d.called) i ∙ e)
    go (inr i) = ordered_apart c x m b h.1 i e
swap_apart c k x (y ∷ f) m b h (inl i) e =
    (h.0 x (among_back x f (k ∷ (m ++ x ∷ b)) (inr (among_it x m b)))).apart (ap (λ (d : SetCall). d.called) i ∙ e)
swap_apart c k x (y ∷ f) m b h (inr a) e = swap_apart c k x f m b h.1 a e
