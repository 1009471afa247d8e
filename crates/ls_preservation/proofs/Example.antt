-- The example's code asks what its source asks.
use Rattle.std.proofs.Common.{◌≡◌, ◌≢◌, ℕ, zero, suc, ◌<◌, ◌^◌, ◌==◌, Bool, true, false, List, [], ◌∷◌, length, map}
use Rattle.std.proofs.Common.{Some, None, refl, sym, ap, ◌∙◌, subst, arith, slice_get, nat_lt, if◌then◌else◌, All}
use Rattle.std.proofs.lemmas.Bool.Decides.{nat_tests}
use Rattle.ls_events.specs.declared.kind.Kind.{Kind}
use Rattle.ls_events.specs.declared.kind.Kind.TheVariants.{NullPointer, StackOverflow, Error}
use Rattle.ls_events.specs.declared.value.Value.{Value}
use Rattle.ls_events.specs.declared.value.Value.TheVariants.{Int, Boolean, Reference, Pair}
use Rattle.ls_events.specs.declared.value.ValueType.{ValueType}
use Rattle.ls_events.specs.declared.value.ValueType.TheVariants as type
use Rattle.ls_events.specs.declared.action.Action.TheVariants as act
use Rattle.ls_meaning.specs.declared.sort.Sort.TheVariants.{NoValue, NewOf}
use Rattle.ls_meaning.specs.declared.completion.Completion.TheVariants.{Normal}
use Rattle.ls_events.specs.declared.action.Answer.{Answer}
use Rattle.ls_events.specs.declared.action.Answer.TheVariants.{Done, Gives, Fails}
use Rattle.ls_checked.specs.CheckedTree.{Class}
use Rattle.ls_meaning.specs.Course.{Answers, Results, Throws, with_value, ask}
use Rattle.ls_meaning.specs.Statements.{Completes, on_value, then_do}
use Rattle.ls_meaning.specs.Methods.{invoke, depth_limit, leave}
use Rattle.ls_meaning.specs.Threads.{Next, next, after_call, all_calls, result_of}
use Rattle.ls_code.specs.Code.{Start}
use Rattle.ls_code.specs.Thread.{Thread}
use Rattle.ls_code.specs.Frame.{Frame}
use Rattle.ls_code.specs.Calls.{Calls, CallThrows, with_callee}
use Rattle.ls_code.specs.Steps.{call_move}
use Rattle.ls_code.specs.Machine.{started}
use Rattle.ls_code.specs.Fed.{Paused}
use Rattle.ls_code.specs.Exchanges.{Says, Quietly, Touches, throwing, saw}
use Rattle.ls_code.specs.Reading.{carry, quiet, resume, fed, planned_move, after_lock as goes_on}
use Rattle.ls_code.specs.declared.code.Method.{Method}
use Rattle.ls_code.specs.declared.code.CallResult.TheVariants as result
use Rattle.ls_code.specs.declared.step.Mode.TheVariants as mode
use Rattle.ls_preservation.specs.InWords.{word_of, map_answer}
use Rattle.ls_preservation.specs.Sorts.{Suits, Suited, InKind}
use Rattle.ls_preservation.specs.Threads.{told, Asks, calls_of, object_cells}
use Rattle.ls_preservation.specs.ByWords.{IsExchanged}
use Rattle.ls_preservation.specs.Example.{file, program, code}
use Rattle.ls_preservation.proofs.Feeding.{asking}

abbrev words : Answers → List (Answer ℕ)
words had = map (map_answer word_of) had

abbrev bound : ℕ
bound = 1408

abbrev P : ℕ → ValueType → Type 0
P n t = n < 2 ^ 32

not_null : (n : ℕ) → n ≢ 0 → (n == 0) ≡ false
not_null n h = grind (arith, nat_tests)

-- the setup
abbrev setup_start : Start
setup_start = record { place = 0; need = 2; calls = result.Nothing ∷ [] }

abbrev in_setup : ℕ → List ℕ → Thread
in_setup c operands = record {
  top = record { counter = c; locals = []; operands = operands; need = 2 };
  below = [];
  mode = mode.Running;
  calls = result.Nothing ∷ [];
  ended = 0;
  pending = true;
}

abbrev constructor_at : Method
constructor_at = record { start = 21; arguments = 1; more = 0; need = 0 }

setup_enters : (n k : ℕ) →
    n ≢ 0 →
    quiet code 0 k (in_setup 3 (n ∷ n ∷ [])) ≡ Paused (act.Enter 1)
    (λ answer. Some (with_callee constructor_at (in_setup 3 (n ∷ n ∷ []))))
setup_enters n k h =
    asking code 0 k (in_setup 3 (n ∷ n ∷ [])) (act.Enter 1) _ refl
    (ap (λ b. call_move code (in_setup 3 (n ∷ n ∷ [])) 1 (if b then CallThrows NullPointer else
    (if nat_lt 0 64 then Calls (with_callee constructor_at (in_setup 3 (n ∷ n ∷ []))) else
    CallThrows StackOverflow))) (not_null n h))

setup_on : (x : Answer Value) (n : ℕ) (rest : Answers) →
    n ≢ 0 →
    fed code 0 bound bound (started setup_start) (words (x ∷ (Gives (Reference n) ∷ rest))) ≡ resume code 0 bound
    (words rest) (Paused (act.Enter 1) (λ answer. Some (with_callee constructor_at (in_setup 3 (n ∷ n ∷ [])))))
setup_on x n rest h = ap (λ q. resume code 0 bound (words rest) q) (setup_enters n 1407 h)

setup_asks : (had : Answers) →
    InKind file program 0 had →
    fed code 0 bound bound (started setup_start) (words had) ≡ told (next file program 0 had)
unfolding invoke depth_limit
setup_asks [] h = refl
setup_asks (x ∷ []) h = refl
setup_asks (x ∷ (Gives (Reference n) ∷ [])) h = setup_on x n [] h.1.0.0
setup_asks (x ∷ (Gives (Reference n) ∷ (y ∷ []))) h = setup_on x n (y ∷ []) h.1.0.0
setup_asks (x ∷ (Gives (Reference n) ∷ (y ∷ (Done ∷ [])))) h = setup_on x n (y ∷ (Done ∷ [])) h.1.0.0
setup_asks (x ∷ (Gives (Reference n) ∷ (y ∷ (Done ∷ (w ∷ []))))) h = setup_on x n (y ∷ (Done ∷ (w ∷ []))) h.1.0.0
setup_asks (x ∷ (Gives (Reference n) ∷ (y ∷ (Done ∷ (w ∷ (v ∷ rest)))))) h = absurd h.1.1.1.1.1.0
setup_asks (x ∷ (Gives (Reference n) ∷ (y ∷ (Gives v ∷ rest)))) h = absurd h.1.1.1.0
setup_asks (x ∷ (Gives (Reference n) ∷ (y ∷ (Fails k ∷ rest)))) h = absurd h.1.1.1.0
setup_asks (x ∷ (Gives (Int z) ∷ rest)) h = absurd h.1.0
setup_asks (x ∷ (Gives (Boolean b) ∷ rest)) h = absurd h.1.0
setup_asks (x ∷ (Gives (Pair n m) ∷ rest)) h = absurd h.1.0
setup_asks (x ∷ (Done ∷ rest)) h = let e = h.1.0 in cc
setup_asks (x ∷ (Fails k ∷ rest)) h = absurd h.1.0

-- the other thread
abbrev work_start : Start
work_start = record { place = 7; need = 1; calls = result.Nothing ∷ [] }

abbrev at_work : Frame → List Frame → Thread
at_work f below = record {
  top = f;
  below = below;
  mode = mode.Running;
  calls = result.Nothing ∷ [];
  ended = 0;
  pending = true;
}

abbrev lowest : List ℕ → Frame
lowest operands = record { counter = 9; locals = []; operands = operands; need = 1 }

abbrev method_at : Method
method_at = record { start = 13; arguments = 1; more = 1; need = 2 }

abbrev locking : ℕ → ℕ → Thread
locking n k = at_work (record { counter = 16; locals = n ∷ k ∷ []; operands = k ∷ []; need = 2 }) (lowest [] ∷ [])

work_enters : (n k : ℕ) →
    n ≢ 0 →
    quiet code 1 k (at_work (lowest (n ∷ [])) []) ≡ Paused (act.Enter 0)
    (λ answer. Some (with_callee method_at (at_work (lowest (n ∷ [])) [])))
work_enters n k h =
    asking code 1 k (at_work (lowest (n ∷ [])) []) (act.Enter 0) _ refl
    (ap (λ b. call_move code (at_work (lowest (n ∷ [])) []) 0
    (if b then CallThrows NullPointer else (if nat_lt 0 64 then
    Calls (with_callee method_at (at_work (lowest (n ∷ [])) [])) else CallThrows StackOverflow))) (not_null n h))

work_locks : (n k j : ℕ) →
    k ≢ 0 →
    quiet code 1 (suc j) (locking n k) ≡ Paused (act.Lock k) (goes_on code 1 (locking n k))
work_locks n k j h =
    ap (λ b. carry true true (planned_move code 1 (locking n k)
    (if b then Says (Quietly (throwing code (locking n k) NullPointer)) else
    Touches (act.Lock k) (act.ReadPair k) (saw code (locking n k) 1 1 (act.Lock k)))) (quiet code 1 j))
    (not_null k h)

work_on : (x : Answer Value) (n : ℕ) (rest : Answers) →
    n ≢ 0 →
    fed code 1 bound bound (started work_start) (words (x ∷ (Gives (Reference n) ∷ rest))) ≡ resume code 1 bound
    (words rest) (Paused (act.Enter 0) (λ answer. Some (with_callee method_at (at_work (lowest (n ∷ [])) []))))
work_on x n rest h = ap (λ q. resume code 1 bound (words rest) q) (work_enters n 1408 h)

work_further : (x y : Answer Value) (n k : ℕ) (rest : Answers) →
    n ≢ 0 →
    k ≢ 0 →
    fed code 1 bound bound (started work_start) (words (x ∷ (Gives (Reference n) ∷ (y ∷ (Gives (Reference k) ∷ rest)))))
    ≡ resume code 1 bound (words rest) (Paused (act.Lock k) (goes_on code 1 (locking n k)))
work_further x y n k rest h g =
    work_on x n (y ∷ (Gives (Reference k) ∷ rest)) h ∙ ap (λ q. resume code 1 bound (words rest) q)
    (work_locks n k 1405 g)

-- what the source does next after a name that isn't null, and after a lock
abbrev entered : ℕ → Bool → Answers → Next
entered n b rest =
    after_call 1 (if b then Throws NullPointer rest else with_value (invoke file depth_limit 0 (Reference n ∷ []) rest)
    (λ v rest. Results (result_of file 0 v) rest)) (all_calls file program 2 [])

-- what thread 1 does next after it has read a name that isn't null
pub next_on : (x : Answer Value) (n : ℕ) (rest : Answers) →
    n ≢ 0 →
    next file program 1 (x ∷ (Gives (Reference n) ∷ rest)) ≡ entered n false rest
next_on x n rest h = ap (λ b. entered n b rest) (not_null n h)

abbrev locked : ℕ → ℕ → Bool → Answers → Next
locked n k b rest =
    after_call 1 (with_value
    (leave None
    (then_do (on_value (if b then Throws NullPointer rest else ask (act.Lock k) NoValue rest)
    (Reference n ∷ (Reference k ∷ [])) (λ v rest. Completes Normal (Reference n ∷ (Reference k ∷ [])) rest))
    (λ locals rest. Completes Normal locals rest))) (λ v rest. Results (result_of file 0 v) rest))
    (all_calls file program 2 [])

-- what thread 1 does after it has made the lock
pub next_further : (x y : Answer Value) (n k : ℕ) (rest : Answers) →
    n ≢ 0 →
    k ≢ 0 →
    next file program 1 (x ∷ (Gives (Reference n) ∷ (y ∷ (Gives (Reference k) ∷ rest)))) ≡ locked n k false rest
unfolding invoke depth_limit
next_further x y n k rest h g = next_on x n (y ∷ (Gives (Reference k) ∷ rest)) h ∙
    ap (λ b. locked n k b rest) (not_null k g)

-- an answer in kind, if the source does this next
suits_at : (d e : Next) (x : Answer Value) → d ≡ e → Suits P d x → Suits P e x
suits_at d e x p h = subst (λ z. Suits P z x) p h

some : (n : ℕ) → suc n ≢ 0
some n e = absurd (omega arith)

after_lock : (x y : Answer Value) (n k : ℕ) (rest : Answers) →
    k ≢ 0 →
    Suited P (λ more. next file program 1 (x ∷ (Gives (Reference (suc n)) ∷ (y ∷ (Gives (Reference k) ∷ more))))) rest →
    fed code 1 bound bound (started work_start)
    (words (x ∷ (Gives (Reference (suc n)) ∷ (y ∷ (Gives (Reference k) ∷ rest))))) ≡ told
    (next file program 1 (x ∷ (Gives (Reference (suc n)) ∷ (y ∷ (Gives (Reference k) ∷ rest)))))
unfolding invoke depth_limit
after_lock x y n k [] g h = work_further x y (suc n) k [] (some n) g ∙
    sym (ap told (next_further x y (suc n) k [] (some n) g))
after_lock x y n k (Done ∷ []) g h = work_further x y (suc n) k (Done ∷ []) (some n) g ∙
    sym (ap told (next_further x y (suc n) k (Done ∷ []) (some n) g))
after_lock x y n k (Done ∷ (w ∷ [])) g h = work_further x y (suc n) k (Done ∷ (w ∷ [])) (some n) g ∙
    sym (ap told (next_further x y (suc n) k (Done ∷ (w ∷ [])) (some n) g))
after_lock x y n k (Done ∷ (w ∷ (v ∷ rest))) g h = absurd (suits_at _ _ v
    (next_further x y (suc n) k (Done ∷ (w ∷ [])) (some n) g) h.1.1.0)
after_lock x y n k (Gives v ∷ rest) g h = absurd (suits_at _ _ (Gives v) (next_further x y (suc n) k [] (some n) g) h.0)
after_lock x y n k (Fails e ∷ rest) g h = by_kind e rest (suits_at _ _ (Fails e)
    (next_further x y (suc n) k [] (some n) g) h.0) h.1
  where
    at_error : (rest : Answers) →
        Suited P (λ more.
        next file program 1 (x ∷ (Gives (Reference (suc n)) ∷ (y ∷ (Gives (Reference k) ∷ (Fails Error ∷ more))))))
        rest →
        fed code 1 bound bound (started work_start) (words (x ∷
        (Gives (Reference (suc n)) ∷ (y ∷ (Gives (Reference k) ∷ (Fails Error ∷ rest)))))) ≡ told
        (next file program 1 (x ∷ (Gives (Reference (suc n)) ∷ (y ∷ (Gives (Reference k) ∷ (Fails Error ∷ rest))))))
    at_error [] h = work_further x y (suc n) k (Fails Error ∷ []) (some n) g ∙
        sym (ap told (next_further x y (suc n) k (Fails Error ∷ []) (some n) g))
    at_error (w ∷ []) h = work_further x y (suc n) k (Fails Error ∷ (w ∷ [])) (some n) g ∙
        sym (ap told (next_further x y (suc n) k (Fails Error ∷ (w ∷ [])) (some n) g))
    at_error (w ∷ (v ∷ rest)) h = absurd
        (suits_at _ _ v (next_further x y (suc n) k (Fails Error ∷ (w ∷ [])) (some n) g) h.1.0)

    by_kind : (e : Kind) (rest : Answers) →
        e ≡ Error →
        Suited P (λ more.
        next file program 1 (x ∷ (Gives (Reference (suc n)) ∷ (y ∷ (Gives (Reference k) ∷ (Fails e ∷ more)))))) rest
        →
        fed code 1 bound bound (started work_start) (words (x ∷
        (Gives (Reference (suc n)) ∷ (y ∷ (Gives (Reference k) ∷ (Fails e ∷ rest)))))) ≡ told
        (next file program 1 (x ∷ (Gives (Reference (suc n)) ∷ (y ∷ (Gives (Reference k) ∷ (Fails e ∷ rest))))))
    by_kind e rest p h =
        subst (λ z. fed code 1 bound bound (started work_start)
        (words (x ∷ (Gives (Reference (suc n)) ∷ (y ∷ (Gives (Reference k) ∷ (Fails z ∷ rest)))))) ≡ told
        (next file program 1 (x ∷ (Gives (Reference (suc n)) ∷ (y ∷ (Gives (Reference k) ∷ (Fails z ∷ rest)))))))
        (sym p)
        (at_error rest
        (subst (λ z. Suited P (λ more. next file program 1
        (x ∷ (Gives (Reference (suc n)) ∷ (y ∷ (Gives (Reference k) ∷ (Fails z ∷ more)))))) rest) p h))

work_asks : (had : Answers) →
    InKind file program 1 had →
    fed code 1 bound bound (started work_start) (words had) ≡ told (next file program 1 had)
unfolding invoke depth_limit
work_asks [] h = refl
work_asks (x ∷ []) h = refl
work_asks (x ∷ (Gives (Reference zero) ∷ [])) h = refl
work_asks (x ∷ (Gives (Reference zero) ∷ (y ∷ []))) h = refl
work_asks (x ∷ (Gives (Reference zero) ∷ (y ∷ (z ∷ rest)))) h = absurd h.1.1.1.0
work_asks (x ∷ (Gives (Reference (suc n)) ∷ [])) h = work_on x (suc n) [] (some n) ∙
    sym (ap told (next_on x (suc n) [] (some n)))
work_asks (x ∷ (Gives (Reference (suc n)) ∷ (y ∷ []))) h = work_on x (suc n) (y ∷ []) (some n) ∙
    sym (ap told (next_on x (suc n) (y ∷ []) (some n)))
work_asks (x ∷ (Gives (Reference (suc n)) ∷ (y ∷ (Gives (Reference k) ∷ rest)))) h =
    after_lock x y n k rest (suits_at _ _ (Gives (Reference k)) (next_on x (suc n) (y ∷ []) (some n)) h.1.1.1.0).0
    h.1.1.1.1
work_asks (x ∷ (Gives (Reference (suc n)) ∷ (y ∷ (Gives (Int z) ∷ rest)))) h = absurd
    (suits_at _ _ (Gives (Int z)) (next_on x (suc n) (y ∷ []) (some n)) h.1.1.1.0)
work_asks (x ∷ (Gives (Reference (suc n)) ∷ (y ∷ (Gives (Boolean b) ∷ rest)))) h = absurd
    (suits_at _ _ (Gives (Boolean b)) (next_on x (suc n) (y ∷ []) (some n)) h.1.1.1.0)
work_asks (x ∷ (Gives (Reference (suc n)) ∷ (y ∷ (Gives (Pair m b) ∷ rest)))) h = absurd
    (suits_at _ _ (Gives (Pair m b)) (next_on x (suc n) (y ∷ []) (some n)) h.1.1.1.0)
work_asks (x ∷ (Gives (Reference (suc n)) ∷ (y ∷ (Done ∷ rest)))) h = let e = suits_at _ _ Done
    (next_on x (suc n) (y ∷ []) (some n)) h.1.1.1.0 in absurd (lock_answer e)
  where
    lock_answer : NewOf type.Lock ≡ NoValue → ⊥
    lock_answer e = cc
work_asks (x ∷ (Gives (Reference (suc n)) ∷ (y ∷ (Fails k ∷ rest)))) h = absurd
    (suits_at _ _ (Fails k) (next_on x (suc n) (y ∷ []) (some n)) h.1.1.1.0)
work_asks (x ∷ (Gives (Int z) ∷ rest)) h = absurd h.1.0
work_asks (x ∷ (Gives (Boolean b) ∷ rest)) h = absurd h.1.0
work_asks (x ∷ (Gives (Pair n m) ∷ rest)) h = absurd h.1.0
work_asks (x ∷ (Done ∷ rest)) h = let e = h.1.0 in cc
work_asks (x ∷ (Fails k ∷ rest)) h = absurd h.1.0

-- the parts of the code
abbrev AllOf : {A : Type 0} → (A → Type 0) → List A → Type 0
AllOf P [] = Unit {0}
AllOf P (x ∷ xs) = P x × AllOf P xs

all_of : {A : Type 0} → (P : A → Type 0) (xs : List A) → AllOf P xs → All P xs
all_of P [] h k d l = absurd (omega arith)
all_of P (x ∷ xs) h zero d l = h.0
all_of P (x ∷ xs) h (suc k) d l = all_of P xs h.1 k d (omega arith)

asks_all : (t : ℕ) (s : Start) (had : Answers) →
    slice_get code.starts t ≡ Some s →
    InKind file program t had →
    fed code t bound bound (started s) (words had) ≡ told (next file program t had)
asks_all zero s had e h = let e' : setup_start ≡ s = cc in subst
    (λ z. fed code 0 bound bound (started z) (words had) ≡ told (next file program 0 had)) e' (setup_asks had h)
asks_all (suc zero) s had e h = let e' : work_start ≡ s = cc in
    subst (λ z. fed code 1 bound bound (started z) (words had) ≡ told (next file program 1 had)) e' (work_asks had h)
asks_all (suc (suc t)) s had e h = cc

threads_all : (t : ℕ) → calls_of (slice_get code.starts t) (slice_get program.threads t)
threads_all zero = refl
threads_all (suc zero) = refl
threads_all (suc (suc t)) = tt

sizes_all : (c : ℕ) (class : Class) →
    slice_get file.classes c ≡ Some class →
    slice_get code.sizes c ≡ Some (object_cells (length class.fields))
sizes_all zero class e = let e' : record { fields = []; constructor = 1 } ≡ class = cc in
    ap (λ z. Some (object_cells (length z.fields))) e'
sizes_all (suc c) class e = cc

-- the code of the example asks what its source asks
pub example_asks : Asks file program code
example_asks = record {
  asks = asks_all;
  threads = threads_all;
  names = refl;
  sizes = sizes_all;
}

-- the code of the example takes locks by exchange alone
pub example_exchanged : All IsExchanged code.instructions
example_exchanged = all_of IsExchanged code.instructions (
  tt,
  (
    tt,
    (
      tt,
      (
        tt,
        (
          tt,
          (tt, (tt, (tt, (tt, (tt, (tt, (tt, (tt, (tt, (tt, (tt, (tt, (tt, (tt, (tt, (tt, (tt, tt))))))))))))))))),
        ),
      ),
    ),
  ),
)
