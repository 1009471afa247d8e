-- A serial run has at most two events for each event of a history that has its calls.
use Rattle.std.proofs.Common.{◌≡◌, ◌⊎◌, inl, inr, ℕ, zero, suc, ◌+◌, ◌<◌, ◌≤◌, List, [], ◌∷◌, Some, Contains}
use Rattle.std.proofs.Common.{length, slice_get, sym, ◌∙◌, subst, arith}
use Rattle.ls_events.specs.declared.event.Event.{Event}
use Rattle.ls_serial.specs.Serial.{AreCalled, IsSerial}
use Rattle.ls_serial.proofs.Lists.{contains_get, get_within}
use Rattle.ls_linearizable.specs.Once.{AreOnce}
use Rattle.ls_linearizable.proofs.There.{there_cases, there_first, there_later, there_not}
use Rattle.ls_automaton.proofs.Runs.{apart}

-- the list without the element at a place
without : ℕ → List Event → List Event
without i [] = []
without zero (x ∷ xs) = xs
without (suc i) (x ∷ xs) = x ∷ without i xs

one_fewer : (i : ℕ) (xs : List Event) → i < length xs → length xs ≡ length (without i xs) + 1
unfolding without
one_fewer i [] less = absurd (omega (arith, less))
one_fewer zero (x ∷ xs) less = omega arith
one_fewer (suc i) (x ∷ xs) less = let more = one_fewer i xs (omega (arith, less)) in omega (arith, more)

still_there : (i : ℕ) (xs : List Event) (c x : Event) → slice_get xs i ≡ Some c → (c ≡ x → ⊥) → Contains xs x →
    Contains (without i xs) x
unfolding without
still_there i [] c x at other there = absurd (there_not x there)
still_there zero (y ∷ xs) c x at other there = by_place (there_cases y x xs there)
  where
    same : Some y ≡ Some c → y ≡ c
    same h = cc

    by_place : (y ≡ x) ⊎ Contains xs x → Contains xs x
    by_place (inl is) = absurd (other (sym (same at) ∙ is))
    by_place (inr later) = later
still_there (suc i) (y ∷ xs) c x at other there =
    by_place (still_there i xs c x at other) (there_cases y x xs there)
  where
    by_place : (Contains xs x → Contains (without i xs) x) → (y ≡ x) ⊎ Contains xs x →
        Contains (y ∷ without i xs) x
    by_place more (inl is) = subst (Contains (y ∷ without i xs)) is (there_first y (without i xs))
    by_place more (inr later) = there_later y x (without i xs) (more later)

once_behind : (c e : Event) (g : List Event) → AreOnce (c ∷ e ∷ g) → AreOnce g
once_behind c e g once x i j at there = less (once x (suc (suc i)) (suc (suc j)) at there)
  where
    less : suc (suc i) ≡ suc (suc j) → i ≡ j
    less h = omega (arith, h)

pub few_calls : (g h : List Event) → IsSerial g → AreOnce g → AreCalled g h → length g ≤ length h + length h
few_calls [] h serial once called = omega arith
few_calls (c ∷ []) h serial once called = absurd serial
few_calls (c ∷ e ∷ g) h serial once called =
    let at = contains_get h c (called c (there_first c (e ∷ g)) serial.0) in
    let fewer = one_fewer at.0 h (get_within h at.0 c at.1) in
    let rest = few_calls g (without at.0 h) serial.2 (once_behind c e g once) (λ x there call.
    still_there at.0 h c x at.1
    (λ is. apart (c ∷ e ∷ []) g c once (there_first c (e ∷ [])) (subst (Contains g) (sym is) there))
    (called x (there_later c x (e ∷ g) (there_later e x g there)) call)) in
    omega (arith, fewer, rest)
