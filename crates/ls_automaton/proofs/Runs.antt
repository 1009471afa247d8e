-- Serial runs: each end has its call, and each call one end.
use Rattle.std.proofs.Common.{◌≡◌, ◌⊎◌, inl, inr, ℕ, zero, suc, ◌+◌, Bool, true, false, nat_eq, ◌&&◌, if◌then◌else◌}
use Rattle.std.proofs.Common.{List, [], ◌∷◌, ◌++◌, Some, Contains}
use Rattle.std.proofs.Common.{slice_get, take, ◌<◌, refl, sym, ap, ◌∙◌, subst, arith, length}
use Rattle.std.proofs.lemmas.Bool.Decides.{nat_tests}
use Rattle.ls_events.specs.declared.event.Event.{Event}
use Rattle.ls_events.specs.declared.event.Happening.{Happening}
use Rattle.ls_events.specs.declared.event.Happening.TheVariants.{Called, Returned, Trapped}
use Rattle.ls_serial.specs.Serial.{AreCalled, AreEnded, IsCall, IsEnd, IsEndOf, IsSerial, is_called}
use Rattle.ls_serial.proofs.Lists.{contains_get, get_within}
use Rattle.ls_serial.proofs.Steps.{not_both}
use Rattle.ls_linearizable.specs.Once.{AreOnce}
use Rattle.ls_linearizable.proofs.There.{there_cases, there_first, there_later, there_not}
use Rattle.ls_automaton.specs.Automaton.{IsPending, Serially, Status, Statuses, status_of, with_status}
use Rattle.ls_automaton.proofs.Lists.{get_of_first, get_of_second}

happens : (x : Happening) → is_called x ≡ true → x ≡ Called
happens Called h = refl
happens (Returned v) h = absurd cc
happens (Trapped k) h = absurd cc

-- calls of one thread with one number are the same
pub same_call : (a b : Event) → IsCall a → IsCall b → a.thread ≡ b.thread → a.call ≡ b.call → a ≡ b
same_call a b ca cb t n =
    let x : a.happening ≡ b.happening = happens a.happening ca ∙ sym (happens b.happening cb) in
    ap (λ i. record { thread = i; call = a.call; happening = a.happening }) t
    ∙ ap (λ i. record { thread = b.thread; call = i; happening = a.happening }) n
    ∙ ap (λ i. record { thread = b.thread; call = b.call; happening = i }) x

-- an end is that of one call
pub one_call : (a b e : Event) → IsCall a → IsCall b → IsEndOf a e → IsEndOf b e → a ≡ b
one_call a b e ca cb x y = same_call a b ca cb (sym x.thread ∙ y.thread) (sym x.call ∙ y.call)

pub record HasCall (g : List Event) (e : Event) : Type 0 where
  pub call : Event
  pub there : Contains g call
  pub is_call : IsCall call
  pub ends : IsEndOf call e

-- each end in a serial run stands behind its call
pub call_of : (g : List Event) (e : Event) → IsSerial g → Contains g e → IsEnd e → HasCall g e
call_of [] e serial there end = absurd (there_not e there)
call_of (c ∷ []) e serial there end = absurd serial
call_of (c ∷ d ∷ g) e serial there end = by_first (call_of g e serial.2) (there_cases c e (d ∷ g) there)
  where
    later : HasCall g e → HasCall (c ∷ d ∷ g) e
    later k = record {
      call = k.call;
      there = there_later c k.call (d ∷ g) (there_later d k.call g k.there);
      is_call = k.is_call;
      ends = k.ends;
    }

    by_second : (Contains g e → IsEnd e → HasCall g e) → (d ≡ e) ⊎ Contains g e → HasCall (c ∷ d ∷ g) e
    by_second more (inl is) =
        record { call = c; there = there_first c (d ∷ g); is_call = serial.0; ends = subst (IsEndOf c) is serial.1 }
    by_second more (inr rest) = later (more rest end)

    by_first : (Contains g e → IsEnd e → HasCall g e) → (c ≡ e) ⊎ Contains (d ∷ g) e → HasCall (c ∷ d ∷ g) e
    by_first more (inl is) = absurd (not_both e (subst IsCall is serial.0) end)
    by_first more (inr rest) = by_second more (there_cases d e g rest)

-- of two lists, neither has what the other has
pub apart : (xs ys : List Event) (x : Event) → AreOnce (xs ++ ys) → Contains xs x → Contains ys x → ⊥
apart xs ys x once one two =
    let a = contains_get xs x one in
    let b = contains_get ys x two in
    let same : a.0 ≡ length xs + b.0 =
    once x a.0 (length xs + b.0) (get_of_first xs ys a.0 x a.1) (get_of_second xs ys b.0 x b.1) in
    absurd (omega (arith, same, get_within xs a.0 x a.1))

once_later : (x : Event) (xs : List Event) → AreOnce (x ∷ xs) → AreOnce xs
once_later x xs once e i j at there = pred_is (once e (suc i) (suc j) at there)
  where
    pred_is : {m n : ℕ} → suc m ≡ suc n → m ≡ n
    pred_is p = cc

not_again : (x : Event) (xs : List Event) → AreOnce (x ∷ xs) → Contains xs x → ⊥
not_again x xs once there =
    let at = contains_get xs x there in not_zero (once x 0 (suc at.0) refl at.1)
  where
    not_zero : {n : ℕ} → 0 ≡ suc n → ⊥
    not_zero p = cc

-- each call has one end
pub one_end : (g : List Event) (c e f : Event) → IsSerial g → AreOnce g → IsCall c → Contains g e → Contains g f →
    IsEndOf c e → IsEndOf c f → e ≡ f
one_end [] c e f serial once call there_e there_f x y = absurd (there_not e there_e)
one_end (a ∷ []) c e f serial once call there_e there_f x y = absurd serial
one_end (a ∷ b ∷ g) c e f serial once call there_e there_f x y =
    by_place (λ p q. one_end g c e f serial.2 (once_later b g (once_later a (b ∷ g) once)) call p q x y)
    (place e x there_e) (place f y there_f)
  where
    place : (z : Event) → IsEndOf c z → Contains (a ∷ b ∷ g) z → (b ≡ z) ⊎ Contains g z
    place z w there = by_first (there_cases a z (b ∷ g) there)
      where
        by_first : (a ≡ z) ⊎ Contains (b ∷ g) z → (b ≡ z) ⊎ Contains g z
        by_first (inl is) = absurd (not_both z (subst IsCall is serial.0) w.ends)
        by_first (inr rest) = there_cases b z g rest

    -- the end of the first call stands no second time: its call would
    never : (z w : Event) → IsEndOf c z → IsEndOf c w → b ≡ z → Contains g w → ⊥
    never z w p q is there =
        let k = call_of g w serial.2 there q.ends in
        let one : c ≡ k.call = one_call c k.call w call k.is_call q k.ends in
        let two : a ≡ c = one_call a c b serial.0 call serial.1 (subst (IsEndOf c) (sym is) p) in
        not_again a (b ∷ g) once (there_later b a g (subst (Contains g) (sym (two ∙ one)) k.there))

    by_place : (Contains g e → Contains g f → e ≡ f) → (b ≡ e) ⊎ Contains g e → (b ≡ f) ⊎ Contains g f → e ≡ f
    by_place more (inl p) (inl q) = sym p ∙ q
    by_place more (inl p) (inr q) = absurd (never e f x y p q)
    by_place more (inr p) (inl q) = absurd (never f e y x q p)
    by_place more (inr p) (inr q) = more p q

pub serially_serial : {S : Type 0} (Leads : S → Event → Event → S → Type 0) (s m : S) (g : List Event) →
    Serially Leads s g m → IsSerial g
serially_serial Leads s m [] run = tt
serially_serial Leads s m (c ∷ []) run = absurd run
serially_serial Leads s m (c ∷ e ∷ g) run = (run.0, run.1, serially_serial Leads run.2 m g run.4)

-- ---- statuses

pub with_same : (calls : Statuses) (e f : Event) (x : Status) → f.thread ≡ e.thread → f.call ≡ e.call →
    status_of (with_status calls e x) f ≡ x
with_same calls e f x t n =
    let one : nat_eq f.thread e.thread ≡ true = grind (arith, nat_tests, t) in
    let two : nat_eq f.call e.call ≡ true = grind (arith, nat_tests, n) in
    ap (λ b. if b && nat_eq f.call e.call then x else calls f.thread f.call) one
    ∙ ap (λ b. if b then x else calls f.thread f.call) two

pub with_other : (calls : Statuses) (e : Event) (x : Status) (f : Event) →
    (f.thread ≡ e.thread → f.call ≡ e.call → ⊥) →
    status_of (with_status calls e x) f ≡ status_of calls f
with_other calls e x f not = by_test (nat_eq f.thread e.thread) (nat_eq f.call e.call) refl refl
  where
    by_test : (a b : Bool) → nat_eq f.thread e.thread ≡ a → nat_eq f.call e.call ≡ b →
        (if nat_eq f.thread e.thread && nat_eq f.call e.call then x else calls f.thread f.call) ≡ calls f.thread f.call
    by_test true true g h = absurd (not (grind (arith, nat_tests, g)) (grind (arith, nat_tests, h)))
    by_test true false g h = rw (g, h) refl
    by_test false b g h = rw g refl

-- which status it is
pub with_cases : (calls : Statuses) (e : Event) (x : Status) (t n : ℕ) (s : Status) → with_status calls e x t n ≡ s →
    ((t ≡ e.thread) × (n ≡ e.call) × (x ≡ s)) ⊎ ((t ≡ e.thread → n ≡ e.call → ⊥) × (calls t n ≡ s))
with_cases calls e x t n s h = by_test (nat_eq t e.thread) (nat_eq n e.call) refl refl h
  where
    by_test : (a b : Bool) → nat_eq t e.thread ≡ a → nat_eq n e.call ≡ b → (if a && b then x else calls t n) ≡ s →
        ((t ≡ e.thread) × (n ≡ e.call) × (x ≡ s)) ⊎ ((t ≡ e.thread → n ≡ e.call → ⊥) × (calls t n ≡ s))
    by_test true true f g is = inl (grind (arith, nat_tests, f), grind (arith, nat_tests, g), is)
    by_test true false f g is = inr (λ p q. grind (arith, nat_tests, g, q), is)
    by_test false b f g is = inr (λ p q. grind (arith, nat_tests, f, p), is)

-- the call of an end that a run has, and the history hasn't, is pending
pub pending_call : (h g : List Event) (e : Event) → IsSerial g → AreCalled g h → AreEnded h g →
    ((c f : Event) → IsCall c → IsEndOf c e → Contains g f → IsEndOf c f → f ≡ e) →
    Contains g e → IsEnd e → (Contains h e → ⊥) →
    (c : Event) × IsPending h c × IsEndOf c e × Contains g c
pending_call h g e serial called ended one there end new =
    let k = call_of g e serial there end in (
      k.call,
      record {
        there = called k.call k.there k.is_call;
        is_call = k.is_call;
        pending = λ f in_h ends.
            new (subst (Contains h) (one k.call f k.is_call k.ends (ended f in_h ends.ends) ends) in_h);
      },
      k.ends,
      k.there,
    )

-- an event is a call or an end
pub which : (e : Event) → IsCall e ⊎ IsEnd e
which e = by_test (is_called e.happening) refl
  where
    by_test : (b : Bool) → is_called e.happening ≡ b → IsCall e ⊎ IsEnd e
    by_test true h = inl h
    by_test false h = inr h

pub record HasEnd (g : List Event) (c : Event) : Type 0 where
  pub end : Event
  pub there : Contains g end
  pub ends : IsEndOf c end

-- each call in a serial run has its end there
pub end_of : (g : List Event) (c : Event) → IsSerial g → Contains g c → IsCall c → HasEnd g c
end_of [] c serial there call = absurd (there_not c there)
end_of (a ∷ []) c serial there call = absurd serial
end_of (a ∷ b ∷ g) c serial there call = by_first (end_of g c serial.2) (there_cases a c (b ∷ g) there)
  where
    by_second : (Contains g c → IsCall c → HasEnd g c) → (b ≡ c) ⊎ Contains g c → HasEnd (a ∷ b ∷ g) c
    by_second more (inl is) = absurd (not_both c call (subst IsEnd is serial.1.ends))
    by_second more (inr rest) = let k = more rest call in record {
      end = k.end;
      there = there_later a k.end (b ∷ g) (there_later b k.end g k.there);
      ends = k.ends;
    }

    by_first : (Contains g c → IsCall c → HasEnd g c) → (a ≡ c) ⊎ Contains (b ∷ g) c → HasEnd (a ∷ b ∷ g) c
    by_first more (inl is) = record {
      end = b;
      there = there_later a b (b ∷ g) (there_first b g);
      ends = subst (λ z. IsEndOf z b) is serial.1;
    }
    by_first more (inr rest) = by_second more (there_cases b c g rest)

-- of a serial run: an end isn't among what comes before its call
pub record CallIn (g : List Event) (e : Event) (j : ℕ) : Type 0 where
  pub call : Event
  pub is_call : IsCall call
  pub ends : IsEndOf call e
  pub place : ℕ
  pub before : place < j
  pub at : slice_get g place ≡ Some call

-- the call of an end among the first events stands among these
pub call_in : (g : List Event) (e : Event) (j : ℕ) → IsSerial g → Contains (take j g) e → IsEnd e → CallIn g e j
call_in [] e j serial there end = absurd (nothing j there)
  where
    nothing : (i : ℕ) → Contains (take i []) e → ⊥
    nothing zero there = there_not e there
    nothing (suc i) there = there_not e there
call_in (c ∷ []) e j serial there end = absurd serial
call_in (c ∷ d ∷ g) e zero serial there end = absurd (there_not e there)
call_in (c ∷ d ∷ g) e (suc zero) serial there end = absurd (by_first (there_cases c e (take zero (d ∷ g)) there))
  where
    by_first : (c ≡ e) ⊎ Contains (take zero (d ∷ g)) e → ⊥
    by_first (inl is) = not_both e (subst IsCall is serial.0) end
    by_first (inr none) = there_not e none
call_in (c ∷ d ∷ g) e (suc (suc j)) serial there end =
    by_first (λ rest. call_in g e j serial.2 rest end) (there_cases c e (d ∷ take j g) there)
  where
    later : CallIn g e j → CallIn (c ∷ d ∷ g) e (suc (suc j))
    later k = record {
      call = k.call;
      is_call = k.is_call;
      ends = k.ends;
      place = suc (suc k.place);
      before = omega (arith, k.before);
      at = k.at;
    }

    by_second : (Contains (take j g) e → CallIn g e j) → (d ≡ e) ⊎ Contains (take j g) e →
        CallIn (c ∷ d ∷ g) e (suc (suc j))
    by_second more (inl is) = record {
      call = c;
      is_call = serial.0;
      ends = subst (IsEndOf c) is serial.1;
      place = 0;
      before = omega arith;
      at = refl;
    }
    by_second more (inr rest) = later (more rest)

    by_first : (Contains (take j g) e → CallIn g e j) → (c ≡ e) ⊎ Contains (d ∷ take j g) e →
        CallIn (c ∷ d ∷ g) e (suc (suc j))
    by_first more (inl is) = absurd (not_both e (subst IsCall is serial.0) end)
    by_first more (inr rest) = by_second more (there_cases d e (take j g) rest)

-- of a serial run: an end isn't among what comes before its call
pub not_before_call : (g : List Event) (c e : Event) (j : ℕ) → IsSerial g → AreOnce g → IsCall c → IsEndOf c e →
    slice_get g j ≡ Some c → Contains (take j g) e → ⊥
not_before_call g c e j serial once call ends at there =
    let k = call_in g e j serial there ends.ends in
    let same : k.place ≡ j = once c k.place j (k.at ∙ ap Some (one_call k.call c e k.is_call call k.ends ends)) at in
    absurd (omega (arith, k.before, same))
