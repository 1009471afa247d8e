-- Serial histories that explain one, as both grow.
use Rattle.std.proofs.Common.{◌≡◌, ◌⊎◌, inl, inr, ℕ, zero, suc, ◌<◌, ◌≤◌, List, [], ◌∷◌, ◌++◌, Some, None, Contains}
use Rattle.std.proofs.Common.{length, slice_get, take, refl, sym, ap, subst, arith}
use Rattle.std.proofs.lemmas.Bool.{cases_lt}
use Rattle.std.proofs.lemmas.List.{take-append-le}
use Rattle.std.proofs.lemmas.List.Elements.{Contains-append_cases, Contains-append_left, Contains-push_cases}
use Rattle.ls_events.specs.declared.event.Event.{Event}
use Rattle.ls_serial.specs.Serial.{AreCalled, AreEnded, Explains, IsCall, IsEnd, IsEndOf, IsSerial, KeepsOrder}
use Rattle.ls_serial.proofs.Lists.{contains_get, get_contains, get_take, get_within, take_get, some_is}
use Rattle.ls_serial.proofs.Steps.{not_both}
use Rattle.ls_linearizable.specs.Once.{AreOnce}

serial_both : (xs ys : List Event) → IsSerial xs → IsSerial ys → IsSerial (xs ++ ys)
serial_both [] ys s t = t
serial_both (c ∷ []) ys s t = absurd s
serial_both (c ∷ e ∷ xs) ys s t = (s.0, s.1, serial_both xs ys s.2 t)

-- a call with its end behind a serial history
pub serial_pair : (g : List Event) (c e : Event) → IsSerial g → IsCall c → IsEndOf c e → IsSerial (g ++ c ∷ e ∷ [])
serial_pair g c e s call end = serial_both g (c ∷ e ∷ []) s (call, end, tt)

one_of_two : (c e x : Event) → Contains (c ∷ e ∷ []) x → (c ≡ x) ⊎ (e ≡ x)
one_of_two c e x (zero, lt, p) = inl p
one_of_two c e x (suc zero, lt, p) = inr p
one_of_two c e x (suc (suc k), lt, p) = absurd (omega arith)

get_left : (xs ys : List Event) (k : ℕ) (x : Event) → slice_get xs k ≡ Some x → slice_get (xs ++ ys) k ≡ Some x
get_left [] ys k x h = absurd (none h)
  where
    none : None ≡ Some x → ⊥
    none p = cc
get_left (y ∷ xs) ys zero x h = h
get_left (y ∷ xs) ys (suc k) x h = get_left xs ys k x h

get_seam : (xs ys : List Event) (x : Event) → slice_get (xs ++ x ∷ ys) (length xs) ≡ Some x
get_seam [] ys x = refl
get_seam (y ∷ xs) ys x = get_seam xs ys x

-- an element at a place within the first list stands there
left_get : (xs ys : List Event) (k : ℕ) (x : Event) → k < length xs → slice_get (xs ++ ys) k ≡ Some x →
    slice_get xs k ≡ Some x
left_get [] ys k x lt h = absurd (omega arith)
left_get (y ∷ xs) ys zero x lt h = h
left_get (y ∷ xs) ys (suc k) x lt h = left_get xs ys k x (omega arith) h

-- the last element
last_get : (xs : List Event) (y : Event) (k : ℕ) (x : Event) → length xs ≤ k → slice_get (xs ++ y ∷ []) k ≡ Some x →
    (k ≡ length xs) × (y ≡ x)
last_get [] y zero x le h = (refl, some_is h)
last_get [] y (suc k) x le h = absurd (none h)
  where
    none : None ≡ Some x → ⊥
    none p = cc
last_get (z ∷ xs) y zero x le h = absurd (omega arith)
last_get (z ∷ xs) y (suc k) x le h = let r = last_get xs y k x (omega arith) h in (ap suc r.0, r.1)

-- an element of the first list stands before each place behind it
in_take_left : (xs ys : List Event) (n : ℕ) (x : Event) → length xs ≤ n → Contains xs x → Contains (take n (xs ++ ys)) x
in_take_left xs ys n x le there =
    let at = contains_get xs x there in
    let lt = get_within xs at.0 x at.1 in
    get_contains (take n (xs ++ ys)) at.0 x
    (get_take n (xs ++ ys) at.0 x (omega (arith, lt)) (get_left xs ys at.0 x at.1))

of_take : (h : List Event) (n : ℕ) (x : Event) → Contains (take n h) x → Contains h x
of_take h n x there =
    let at = contains_get (take n h) x there in
    get_contains h at.0 x (take_get n h at.0 x at.1).1

-- ---- a history explains itself

same_ended : (h : List Event) (i j : ℕ) → i ≡ j → AreEnded (take i h) (take j h)
same_ended h i j e x there ends = subst (λ k. Contains (take k h) x) e there

-- a history in which no event stands twice explains itself
pub explains_itself : (h : List Event) → AreOnce h → Explains h h
explains_itself h once = record {
  ended = λ e there ends. there;
  called = λ c there call. there;
  order = λ c i j call at there. same_ended h i j (once c i j at there);
}

-- ---- the history that is explained has one event more

module _ (g h : List Event) (x : Explains g h) where
  -- a call
  module _ (c : Event) (call : IsCall c) (once : AreOnce (h ++ c ∷ [])) where
    ended_call : AreEnded (h ++ c ∷ []) g
    ended_call e there ends = by_place (Contains-push_cases h c e there)
      where
        by_place : Contains h e ⊎ (c ≡ e) → Contains g e
        by_place (inl old) = x.ended e old ends
        by_place (inr same) = absurd (not_both c call (subst IsEnd (sym same) ends))

    order_call : KeepsOrder g (h ++ c ∷ [])
    order_call d i j is_call at there = by_place (cases_lt i (length h))
      where
        by_place : (i < length h) ⊎ (length h ≤ i) → AreEnded (take i (h ++ c ∷ [])) (take j g)
        by_place (inl less) =
            let le : i ≤ length h = omega arith in
            subst (λ l. AreEnded l (take j g)) (sym (take-append-le i h (c ∷ []) le))
            (x.order d i j is_call (left_get h (c ∷ []) i d less at) there)
        by_place (inr past) =
            let r = last_get h c i d past at in
            let old = contains_get h d (x.called d (get_contains g j d there) is_call) in
            let lt = get_within h old.0 d old.1 in
            let same = once d old.0 i (get_left h (c ∷ []) old.0 d old.1) at in
            absurd (omega (arith, lt, same, r.0))

    -- a serial history still explains one that has a call event more
    pub one_called : Explains g (h ++ c ∷ [])
    one_called = record {
      ended = ended_call;
      called = λ d there is_call. Contains-append_left h (c ∷ []) d (x.called d there is_call);
      order = order_call;
    }

  -- an end that is explained already
  module _ (e : Event) (end : IsEnd e) (known : Contains g e) where
    ended_end : AreEnded (h ++ e ∷ []) g
    ended_end d there ends = by_place (Contains-push_cases h e d there)
      where
        by_place : Contains h d ⊎ (e ≡ d) → Contains g d
        by_place (inl old) = x.ended d old ends
        by_place (inr same) = subst (Contains g) same known

    order_end : KeepsOrder g (h ++ e ∷ [])
    order_end d i j is_call at there = by_place (cases_lt i (length h))
      where
        by_place : (i < length h) ⊎ (length h ≤ i) → AreEnded (take i (h ++ e ∷ [])) (take j g)
        by_place (inl less) =
            let le : i ≤ length h = omega arith in
            subst (λ l. AreEnded l (take j g)) (sym (take-append-le i h (e ∷ []) le))
            (x.order d i j is_call (left_get h (e ∷ []) i d less at) there)
        by_place (inr past) =
            let r = last_get h e i d past at in
            absurd (not_both e (subst IsCall (sym r.1) is_call) end)

    -- a serial history that has the call's end still explains one that has it too
    pub one_ended : Explains g (h ++ e ∷ [])
    one_ended = record {
      ended = ended_end;
      called = λ d there is_call. Contains-append_left h (e ∷ []) d (x.called d there is_call);
      order = order_end;
    }

  -- ---- the serial history has one call more

  module _ (c e : Event) (there : Contains h c) (end : IsEndOf c e) where
    called_pair : AreCalled (g ++ c ∷ e ∷ []) h
    called_pair d inside is_call = by_place (Contains-append_cases g (c ∷ e ∷ []) d inside)
      where
        by_two : (c ≡ d) ⊎ (e ≡ d) → Contains h d
        by_two (inl same) = subst (Contains h) same there
        by_two (inr same) = absurd (not_both d is_call (subst IsEnd same end.ends))

        by_place : Contains g d ⊎ Contains (c ∷ e ∷ []) d → Contains h d
        by_place (inl before) = x.called d before is_call
        by_place (inr new) = by_two (one_of_two c e d new)

    order_pair : KeepsOrder (g ++ c ∷ e ∷ []) h
    order_pair d i j is_call at inside = by_place (cases_lt j (length g))
      where
        by_place : (j < length g) ⊎ (length g ≤ j) → AreEnded (take i h) (take j (g ++ c ∷ e ∷ []))
        by_place (inl less) =
            let le : j ≤ length g = omega arith in
            subst (AreEnded (take i h)) (sym (take-append-le j g (c ∷ e ∷ []) le))
            (x.order d i j is_call at (left_get g (c ∷ e ∷ []) j d less inside))
        by_place (inr past) = λ y known ends.
            in_take_left g (c ∷ e ∷ []) j y past (x.ended y (of_take h i y known) ends)

    -- a serial history with a whole call more explains one in which the call has begun
    pub one_more : Explains (g ++ c ∷ e ∷ []) h
    one_more = record {
      ended = λ y known ends. Contains-append_left g (c ∷ e ∷ []) y (x.ended y known ends);
      called = called_pair;
      order = order_pair;
    }
