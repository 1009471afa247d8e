-- The code of an operation on a lock asks for what the operation asks for.
use Rattle.std.proofs.Common.{◌≡◌, ℕ, zero, suc, ◌+◌, ◌*◌, ◌/◌, ◌%◌, ◌^◌, ◌==◌, nat_le, subst, ◌<◌, ◌≤◌, Bool, true}
use Rattle.std.proofs.Common.{false, ◌&&◌, lt-ltb, List, [], ◌∷◌, length, Option, Some, None, refl, sym, ap, ◌∙◌, arith}
use Rattle.std.proofs.Common.{slice_get, nat_eq, if◌then◌else◌}
use Rattle.ls_events.specs.declared.kind.Kind.{Kind}
use Rattle.ls_events.specs.declared.kind.Kind.TheVariants.{NullPointer}
use Rattle.ls_events.specs.declared.action.Action.{Action}
use Rattle.ls_events.specs.declared.action.Action.TheVariants as act
use Rattle.ls_code.specs.declared.instruction.Instruction.TheVariants as op
use Rattle.ls_code.specs.declared.instruction.Resume.TheVariants as then
use Rattle.ls_lowered.specs.declared.tree.LockOperation.{LockOperation}
use Rattle.ls_lowered.specs.declared.tree.LockOperation.TheVariants.{Lock, Unlock, TryLock, IsHeld, LockMonitor}
use Rattle.ls_lowered.specs.declared.tree.LockOperation.TheVariants.{UnlockMonitor}
use Rattle.ls_lowered.specs.Course.{Answers, Course, Outcome, Ends, Throws, perform, unless_null}
use Rattle.ls_lowered.specs.Expressions.{operate_lock}
use Rattle.ls_emit.specs.LockCode.{lock_code, lock_size}
use Rattle.ls_emit.proofs.Places.{HasAt}
use Rattle.ls_emit.proofs.Told.{After, out}
use Rattle.std.proofs.lemmas.Bool.{eq-eqb}
use Rattle.ls_events.specs.declared.action.Answer.{Answer}
use Rattle.ls_events.specs.declared.action.Answer.TheVariants.{Done, Gives, Fails}
use Rattle.ls_code.specs.Frame.{Frame}
use Rattle.ls_code.specs.Thread.{Thread}
use Rattle.ls_code.specs.Throws.{thrown}
use Rattle.ls_code.specs.Fed.{Fed, Paused}
use Rattle.ls_code.specs.Exchanges.{Seen, Quietly, Says, Touches, throwing, thrown_to, saw, see_named, seeing_action}
use Rattle.ls_code.specs.Exchanges.{take_from, stuck as no_plan}
use Rattle.ls_code.specs.Steps.{Still, Asks as ThreadAsks, fetched_move, thrown_thread, silent_or_still}
use Rattle.ls_code.specs.Words.{pair_word}
use Rattle.ls_code.specs.Locks.{taken_of, is_own}
use Rattle.ls_code.specs.declared.lock_word.Taken.TheVariants as taken
use Rattle.std.proofs.lemmas.Bool.Decides.{nat_tests}
use Rattle.ls_emit.specs.Entering.{fed_from}
use Rattle.ls_code.specs.Reading.{is_take, is_back_to, is_drop, exchanged, full_word, word_of_another, after_lock}
use Rattle.ls_code.specs.Reading.{after_try, after_unlock, operation, planned_move, read_move, whole_move, quiet_from}
use Rattle.ls_code.specs.Reading.{resume}
use Rattle.ls_emit.proofs.Steps.{Setting, frame, here, Reaches, silently, begins, answers_from, next}
use Rattle.ls_emit.proofs.Runs.{Catches, Takes, narrow, fewer, pop_run, push_run}
use Rattle.ls_emit.proofs.ExpressionCode.{object_run}

module _ (s : Setting) where
  -- a throw, by either name
  same_throw : (t : Thread) (r : Option (Frame × List Frame)) → thrown_to t r ≡ thrown_thread t r
  same_throw t None = refl
  same_throw t (Some r) = refl

  -- an operation on a lock's word, which begins with SEE
  module _ (c x : ℕ) (ls stack : List ℕ) (room : suc (length stack) < s.base.top.need) (el : length ls ≡ s.wide) where
    abbrev t : Thread
    t = here s c ls (x ∷ stack)

    see_plan : (k : ℕ) (o : Action ℕ) →
        slice_get s.code.instructions c ≡ Some (op.See k) →
        seeing_action k x ≡ Some o →
        whole_move s.code s.number t ≡ planned_move s.code s.number t
        (if nat_eq x 0 then Says (Quietly (throwing s.code t NullPointer)) else
        Touches o (act.ReadPair x) (saw s.code t s.number k o))
    see_plan k o has eo =
        ap (λ z. read_move s.code s.number t (fetched_move s.code t z)) has
        ∙ ap (λ z. planned_move s.code s.number t (see_named s.code t s.number k x z)) eo
        ∙ ap (λ r. planned_move s.code s.number t (if nat_eq x 0 then
        Says (Quietly (throwing s.code t NullPointer)) else
        (if r then Touches o (act.ReadPair x) (saw s.code t s.number k o) else no_plan)))
        (lt-ltb (suc (length stack)) s.base.top.need room)

    operation_run : (b : Bool) (f : ℕ → Seen) (o : Action ℕ) (after : Answer ℕ → Option Thread)
        (course : Course (Outcome ℕ)) (q : Answers) (go : After ℕ) (h : After Kind) →
        whole_move s.code s.number t ≡ planned_move s.code s.number t
        (if b then Says (Quietly (throwing s.code t NullPointer)) else Touches o (act.ReadPair x) f) →
        operation s.code s.number t o ≡ ThreadAsks o after →
        c < s.budget →
        Catches s c (c + 1) q h →
        resume s.code s.number s.bound q (Paused o after) ≡ out course go h →
        Reaches s c (Some t) q (out (if b then Ends (Throws NullPointer) ls q else course) go h)
    operation_run b f o after course q go h e eo lt catches r zero le = absurd (let g : ⊥ = omega arith in g)
    operation_run true f o after course q go h e eo lt catches r (suc n) le =
        silently s.code s.number s.bound s.base c ls (x ∷ stack) (throwing s.code t NullPointer) q n e
        ∙ ap (λ u. fed_from s.code s.number s.bound n u q) (same_throw t
        (thrown s.code.handlers NullPointer (frame s c ls (x ∷ stack) ∷ s.base.below)))
        ∙ catches NullPointer ls (x ∷ stack) q c (omega arith) (omega arith) el (omega arith) n (omega arith)
    operation_run false f o after course q go h e eo lt catches r (suc n) le = begins s.code s.number s.bound s.base c
        ls (x ∷ stack) o after q n (e ∙ eo) ∙ r

    -- after a throw by TAKE or DROP
    thrown_run : (place : ℕ) (ops : List ℕ) (kind : Kind) (q rest : Answers) (h : After Kind) →
        Catches s place (place + 1) q h →
        length rest ≤ length q →
        resume s.code s.number s.bound rest (quiet_from s.code s.number s.bound
        (throwing s.code (here s place ls ops) kind)) ≡ h kind ls rest
    thrown_run place ops kind q rest h catches l =
        let inside = s.inside in
        answers_from s (throwing s.code (here s place ls ops) kind) rest
        ∙ ap (λ u. fed_from s.code s.number s.bound s.bound u rest)
        (same_throw (here s place ls ops) (thrown s.code.handlers kind (frame s place ls ops ∷ s.base.below)))
        ∙ catches kind ls ops rest place (omega arith) (omega arith) el (omega arith) s.bound (omega arith)

    went_run : (place : ℕ) (ops : List ℕ) (rest : Answers) (o : Fed) →
        Reaches s place (Some (here s place ls ops)) rest o →
        resume s.code s.number s.bound rest (quiet_from s.code s.number s.bound (Some (here s place ls ops))) ≡ o
    went_run place ops rest o r = (let inside = s.inside in answers_from s (Some (here s place ls ops)) rest ∙
        r s.bound (omega arith))

    lock_on : (rest : Answers) (go : After ℕ) →
        HasAt s.code.instructions c (lock_code c Lock) →
        c + 5 ≤ s.budget →
        Takes s (c + 5) stack rest go →
        resume s.code s.number s.bound rest (quiet_from s.code s.number s.bound (Some (exchanged t 1))) ≡ go 0 ls rest
    lock_on rest go has le takes =
        went_run (c + 1 + 1) (1 ∷ x ∷ stack) rest (go 0 ls rest)
        (next s (c + 1 + 1) (c + 1 + 1 + 1) (op.JumpIfFalse c) ls (1 ∷ x ∷ stack) ls (x ∷ stack) rest (go 0 ls rest)
        has.1.1.0 refl (omega arith)
        (pop_run s (c + 1 + 1 + 1) x ls stack rest (go 0 ls rest) has.1.1.1.0 (omega arith)
        (push_run s (c + 1 + 1 + 1 + 1) 0 ls stack rest (go 0 ls rest) has.1.1.1.1.0 (omega arith) (omega arith)
        (fewer s (c + 5) (c + 1 + 1 + 1 + 1 + 1) stack rest rest go (omega arith) (omega arith) takes 0 ls rest el
        (omega arith)))))

    lock_answers : (q : Answers) (go : After ℕ) (h : After Kind) →
        HasAt s.code.instructions c (lock_code c Lock) →
        c + 5 ≤ s.budget →
        Takes s (c + 5) stack q go →
        Catches s c (c + 5) q h →
        resume s.code s.number s.bound q (Paused (act.Lock x) (after_lock s.code s.number t)) ≡ out
        (perform (act.Lock x) ls q) go h
    lock_answers [] go h has le takes catches = refl
    lock_answers (Done ∷ rest) go h has le takes catches = lock_on rest go has le
        (λ w ls1 q1 e l. takes w ls1 q1 e (omega arith))
    lock_answers (Gives w ∷ rest) go h has le takes catches = lock_on rest go has le
        (λ w ls1 q1 e l. takes w ls1 q1 e (omega arith))
    lock_answers (Fails kind ∷ rest) go h has le takes catches =
        thrown_run (c + 1) (full_word s.number ∷ x ∷ stack) kind (Fails kind ∷ rest) rest h
        (narrow s c (c + 5) (c + 1) (c + 1 + 1) (Fails kind ∷ rest) (Fails kind ∷ rest) h (omega arith)
        (omega arith) (omega arith) catches) (omega arith)

    unlock_on : (rest : Answers) (go : After ℕ) →
        HasAt s.code.instructions c (lock_code c Unlock) →
        c + 3 ≤ s.budget →
        Takes s (c + 3) stack rest go →
        resume s.code s.number s.bound rest (quiet_from s.code s.number s.bound (Some (here s (c + 1 + 1) ls stack))) ≡
        go 0 ls rest
    unlock_on rest go has le takes =
        went_run (c + 1 + 1) stack rest (go 0 ls rest)
        (push_run s (c + 1 + 1) 0 ls stack rest (go 0 ls rest) has.1.1.0 (omega arith) (omega arith)
        (fewer s (c + 3) (c + 1 + 1 + 1) stack rest rest go (omega arith) (omega arith) takes 0 ls rest el
        (omega arith)))

    unlock_answers : (q : Answers) (go : After ℕ) (h : After Kind) →
        HasAt s.code.instructions c (lock_code c Unlock) →
        c + 3 ≤ s.budget →
        Takes s (c + 3) stack q go →
        Catches s c (c + 3) q h →
        resume s.code s.number s.bound q (Paused (act.Unlock x) (after_unlock s.code t)) ≡ out
        (perform (act.Unlock x) ls q) go h
    unlock_answers [] go h has le takes catches = refl
    unlock_answers (Done ∷ rest) go h has le takes catches = unlock_on rest go has le
        (λ w ls1 q1 e l. takes w ls1 q1 e (omega arith))
    unlock_answers (Gives w ∷ rest) go h has le takes catches = unlock_on rest go has le
        (λ w ls1 q1 e l. takes w ls1 q1 e (omega arith))
    unlock_answers (Fails kind ∷ rest) go h has le takes catches =
        thrown_run c (x ∷ stack) kind (Fails kind ∷ rest) rest h
        (narrow s c (c + 3) c (c + 1) (Fails kind ∷ rest) (Fails kind ∷ rest) h (omega arith) (omega arith)
        (omega arith) catches) (omega arith)

    -- the flag that TAKE leaves on the address
    flag_run : (f : ℕ) →
        f ≤ 1 →
        (rest : Answers) (go : After ℕ) →
        HasAt s.code.instructions c (lock_code c TryLock) →
        c + 4 ≤ s.budget →
        Takes s (c + 4) stack rest go →
        Reaches s (c + 1 + 1) (Some (here s (c + 1 + 1) ls (f ∷ x ∷ stack))) rest (go f ls rest)
    flag_run f small rest go has le takes =
        let last : pair_word x f % 2 ≡ f = omega arith in
        next s (c + 1 + 1) (c + 1 + 1 + 1) op.Pack ls (f ∷ x ∷ stack) ls (pair_word x f ∷ stack) rest (go f ls rest)
        has.1.1.0 refl (omega arith)
        (next s (c + 1 + 1 + 1) (c + 1 + 1 + 1 + 1) op.MarkOf ls (pair_word x f ∷ stack) ls (pair_word x f % 2 ∷ stack)
        rest (go f ls rest) has.1.1.1.0 refl (omega arith)
        (subst (λ z. Reaches s (c + 1 + 1 + 1 + 1) (Some (here s (c + 1 + 1 + 1 + 1) ls (z ∷ stack))) rest
        (go f ls rest)) (sym last)
        (fewer s (c + 4) (c + 1 + 1 + 1 + 1) stack rest rest go (omega arith) (omega arith) takes f ls rest el
        (omega arith))))

    other_is : taken_of (word_of_another s.number) s.number ≡ taken.Other
    other_is =
        let n = s.number in
        let e1 : (word_of_another n == 0) ≡ false = grind (arith, nat_tests) in
        let e2 : word_of_another n / 2 ^ 32 ≡ n + 1 + 1 = omega arith in
        let e3 : (n + 1 + 1 == n + 1) ≡ false = grind (arith, nat_tests) in
        ap (λ z. if z then taken.Taken ((n + 1) * 2 ^ 32 + 1) else
        (if is_own (word_of_another n) n then (if nat_le 2147483647 (word_of_another n % 2 ^ 32) then
        taken.TooMany else taken.Taken (word_of_another n + 1)) else taken.Other)) e1
        ∙ ap (λ z. if z == n + 1 then (if nat_le 2147483647 (word_of_another n % 2 ^ 32) then taken.TooMany else
        taken.Taken (word_of_another n + 1)) else taken.Other) e2
        ∙ ap (λ z. if z then (if nat_le 2147483647 (word_of_another n % 2 ^ 32) then taken.TooMany else
        taken.Taken (word_of_another n + 1)) else taken.Other) e3

    told_move : HasAt s.code.instructions c (lock_code c TryLock) →
        whole_move s.code s.number (here s (c + 1) ls (word_of_another s.number ∷ x ∷ stack)) ≡ silent_or_still
        (Some (here s (c + 1 + 1) ls (0 ∷ x ∷ stack)))
    told_move has =
        ap (λ z. read_move s.code s.number (here s (c + 1) ls (word_of_another s.number ∷ x ∷ stack))
        (fetched_move s.code (here s (c + 1) ls (word_of_another s.number ∷ x ∷ stack)) z)) has.1.0
        ∙ ap (λ k. planned_move s.code s.number (here s (c + 1) ls (word_of_another s.number ∷ x ∷ stack))
        (take_from s.code (here s (c + 1) ls (word_of_another s.number ∷ x ∷ stack)) 2 (act.TryLock x) x
        (word_of_another s.number) k)) other_is

    told_run : (rest : Answers) (o : Fed) →
        HasAt s.code.instructions c (lock_code c TryLock) →
        c + 4 ≤ s.budget →
        Reaches s (c + 1 + 1) (Some (here s (c + 1 + 1) ls (0 ∷ x ∷ stack))) rest o →
        Reaches s (c + 1) (Some (here s (c + 1) ls (word_of_another s.number ∷ x ∷ stack))) rest o
    told_run rest o has le r zero l = absurd (let g : ⊥ = omega arith in g)
    told_run rest o has le r (suc n) l = silently s.code s.number s.bound s.base (c + 1) ls
        (word_of_another s.number ∷ x ∷ stack) (Some (here s (c + 1 + 1) ls (0 ∷ x ∷ stack))) rest n (told_move has) ∙
        r n (omega arith)

    try_answers : (q : Answers) (go : After ℕ) (h : After Kind) →
        HasAt s.code.instructions c (lock_code c TryLock) →
        c + 4 ≤ s.budget →
        Takes s (c + 4) stack q go →
        Catches s c (c + 4) q h →
        resume s.code s.number s.bound q (Paused (act.TryLock x) (after_try s.code s.number t)) ≡ out
        (operate_lock TryLock x ls q) go h
    try_answers [] go h has le takes catches = refl
    try_answers (Done ∷ rest) go h has le takes catches = went_run (c + 1) (word_of_another s.number ∷ x ∷ stack) rest
        (go 0 ls rest)
        (told_run rest (go 0 ls rest) has le (flag_run 0 (omega arith) rest go has le
        (λ w ls1 q1 e l. takes w ls1 q1 e (omega arith))))
    try_answers (Gives zero ∷ rest) go h has le takes catches = went_run (c + 1) (word_of_another s.number ∷ x ∷ stack)
        rest (go 0 ls rest) (told_run rest (go 0 ls rest) has le
        (flag_run 0 (omega arith) rest go has le (λ w ls1 q1 e l. takes w ls1 q1 e (omega arith))))
    try_answers (Gives (suc k) ∷ rest) go h has le takes catches = went_run (c + 1 + 1) (1 ∷ x ∷ stack) rest
        (go 1 ls rest) (flag_run 1 (omega arith) rest go has le (λ w ls1 q1 e l. takes w ls1 q1 e (omega arith)))
    try_answers (Fails kind ∷ rest) go h has le takes catches =
        thrown_run (c + 1) (full_word s.number ∷ x ∷ stack) kind (Fails kind ∷ rest) rest h
        (narrow s c (c + 4) (c + 1) (c + 1 + 1) (Fails kind ∷ rest) (Fails kind ∷ rest) h (omega arith)
        (omega arith) (omega arith) catches) (omega arith)

    trying_is : HasAt s.code.instructions c (lock_code c TryLock) →
        operation s.code s.number t (act.TryLock x) ≡ ThreadAsks (act.TryLock x) (after_try s.code s.number t)
    trying_is has = ap (λ z. if is_take 2 z then ThreadAsks (act.TryLock x) (after_try s.code s.number t) else Still)
        has.1.0

    locking_is : HasAt s.code.instructions c (lock_code c Lock) →
        operation s.code s.number t (act.Lock x) ≡ ThreadAsks (act.Lock x) (after_lock s.code s.number t)
    locking_is has =
        ap (λ z. if is_take 1 z && is_back_to c (slice_get s.code.instructions (c + 1 + 1)) then
        ThreadAsks (act.Lock x) (after_lock s.code s.number t) else Still) has.1.0
        ∙ ap (λ z. if is_back_to c z then ThreadAsks (act.Lock x) (after_lock s.code s.number t) else Still) has.1.1.0
        ∙ ap (λ b. if b then ThreadAsks (act.Lock x) (after_lock s.code s.number t) else Still) (eq-eqb c c refl)

    unlocking_is : HasAt s.code.instructions c (lock_code c Unlock) →
        operation s.code s.number t (act.Unlock x) ≡ ThreadAsks (act.Unlock x) (after_unlock s.code t)
    unlocking_is has = ap (λ z. if is_drop 0 z then ThreadAsks (act.Unlock x) (after_unlock s.code t) else Still)
        has.1.0

    monitor_on : (rest : Answers) (go : After ℕ) →
        HasAt s.code.instructions c (lock_code c LockMonitor) →
        c + 5 ≤ s.budget →
        Takes s (c + 5) stack rest go →
        resume s.code s.number s.bound rest (quiet_from s.code s.number s.bound (Some (exchanged t 1))) ≡ go 0 ls rest
    monitor_on rest go has le takes =
        went_run (c + 1 + 1) (1 ∷ x ∷ stack) rest (go 0 ls rest)
        (next s (c + 1 + 1) (c + 1 + 1 + 1) (op.JumpIfFalse c) ls (1 ∷ x ∷ stack) ls (x ∷ stack) rest (go 0 ls rest)
        has.1.1.0 refl (omega arith)
        (pop_run s (c + 1 + 1 + 1) x ls stack rest (go 0 ls rest) has.1.1.1.0 (omega arith)
        (push_run s (c + 1 + 1 + 1 + 1) 0 ls stack rest (go 0 ls rest) has.1.1.1.1.0 (omega arith) (omega arith)
        (fewer s (c + 5) (c + 1 + 1 + 1 + 1 + 1) stack rest rest go (omega arith) (omega arith) takes 0 ls rest el
        (omega arith)))))

    monitor_answers : (q : Answers) (go : After ℕ) (h : After Kind) →
        HasAt s.code.instructions c (lock_code c LockMonitor) →
        c + 5 ≤ s.budget →
        Takes s (c + 5) stack q go →
        Catches s c (c + 5) q h →
        resume s.code s.number s.bound q (Paused (act.LockMonitor x) (after_lock s.code s.number t)) ≡ out
        (perform (act.LockMonitor x) ls q) go h
    monitor_answers [] go h has le takes catches = refl
    monitor_answers (Done ∷ rest) go h has le takes catches = monitor_on rest go has le
        (λ w ls1 q1 e l. takes w ls1 q1 e (omega arith))
    monitor_answers (Gives w ∷ rest) go h has le takes catches = monitor_on rest go has le
        (λ w ls1 q1 e l. takes w ls1 q1 e (omega arith))
    monitor_answers (Fails kind ∷ rest) go h has le takes catches =
        thrown_run (c + 1) (full_word s.number ∷ x ∷ stack) kind (Fails kind ∷ rest) rest h
        (narrow s c (c + 5) (c + 1) (c + 1 + 1) (Fails kind ∷ rest) (Fails kind ∷ rest) h (omega arith)
        (omega arith) (omega arith) catches) (omega arith)

    leave_on : (rest : Answers) (go : After ℕ) →
        HasAt s.code.instructions c (lock_code c UnlockMonitor) →
        c + 3 ≤ s.budget →
        Takes s (c + 3) stack rest go →
        resume s.code s.number s.bound rest (quiet_from s.code s.number s.bound (Some (here s (c + 1 + 1) ls stack))) ≡
        go 0 ls rest
    leave_on rest go has le takes =
        went_run (c + 1 + 1) stack rest (go 0 ls rest)
        (push_run s (c + 1 + 1) 0 ls stack rest (go 0 ls rest) has.1.1.0 (omega arith) (omega arith)
        (fewer s (c + 3) (c + 1 + 1 + 1) stack rest rest go (omega arith) (omega arith) takes 0 ls rest el
        (omega arith)))

    leave_answers : (q : Answers) (go : After ℕ) (h : After Kind) →
        HasAt s.code.instructions c (lock_code c UnlockMonitor) →
        c + 3 ≤ s.budget →
        Takes s (c + 3) stack q go →
        Catches s c (c + 3) q h →
        resume s.code s.number s.bound q (Paused (act.UnlockMonitor x) (after_unlock s.code t)) ≡ out
        (perform (act.UnlockMonitor x) ls q) go h
    leave_answers [] go h has le takes catches = refl
    leave_answers (Done ∷ rest) go h has le takes catches = leave_on rest go has le
        (λ w ls1 q1 e l. takes w ls1 q1 e (omega arith))
    leave_answers (Gives w ∷ rest) go h has le takes catches = leave_on rest go has le
        (λ w ls1 q1 e l. takes w ls1 q1 e (omega arith))
    leave_answers (Fails kind ∷ rest) go h has le takes catches =
        thrown_run c (x ∷ stack) kind (Fails kind ∷ rest) rest h
        (narrow s c (c + 3) c (c + 1) (Fails kind ∷ rest) (Fails kind ∷ rest) h (omega arith) (omega arith)
        (omega arith) catches) (omega arith)

    monitor_is : HasAt s.code.instructions c (lock_code c LockMonitor) →
        operation s.code s.number t (act.LockMonitor x) ≡ ThreadAsks (act.LockMonitor x) (after_lock s.code s.number t)
    monitor_is has =
        ap (λ z. if is_take 4 z && is_back_to c (slice_get s.code.instructions (c + 1 + 1)) then
        ThreadAsks (act.LockMonitor x) (after_lock s.code s.number t) else Still) has.1.0
        ∙ ap (λ z. if is_back_to c z then ThreadAsks (act.LockMonitor x) (after_lock s.code s.number t) else Still)
        has.1.1.0
        ∙ ap (λ b. if b then ThreadAsks (act.LockMonitor x) (after_lock s.code s.number t) else Still) (eq-eqb c c refl)

    leaving_is : HasAt s.code.instructions c (lock_code c UnlockMonitor) →
        operation s.code s.number t (act.UnlockMonitor x) ≡ ThreadAsks (act.UnlockMonitor x) (after_unlock s.code t)
    leaving_is has = ap (λ z. if is_drop 1 z then ThreadAsks (act.UnlockMonitor x) (after_unlock s.code t) else Still)
        has.1.0

  -- the code of an operation on a lock
  pub lock_run : (o : LockOperation) (c x : ℕ) (ls stack : List ℕ) (q : Answers) (go : After ℕ) (h : After Kind) →
      HasAt s.code.instructions c (lock_code c o) →
      c + lock_size o ≤ s.budget →
      suc (length stack) < s.base.top.need →
      length ls ≡ s.wide →
      Takes s (c + lock_size o) stack q go →
      Catches s c (c + lock_size o) q h →
      Reaches s c (Some (here s c ls (x ∷ stack))) q (out (unless_null x ls q (operate_lock o x ls q)) go h)
  lock_run Lock c x ls stack q go h has le room el takes catches =
      operation_run c x ls stack room el (nat_eq x 0) (saw s.code (here s c ls (x ∷ stack)) s.number 1 (act.Lock x))
      (act.Lock x) (after_lock s.code s.number (here s c ls (x ∷ stack))) (perform (act.Lock x) ls q) q go h
      (see_plan c x ls stack room el 1 (act.Lock x) has.0 refl) (locking_is c x ls stack room el has) (omega arith)
      (narrow s c (c + 5) c (c + 1) q q h (omega arith) (omega arith) (omega arith) catches)
      (lock_answers c x ls stack room el q go h has le takes catches)
  lock_run Unlock c x ls stack q go h has le room el takes catches =
      operation_run c x ls stack room el (nat_eq x 0) (saw s.code (here s c ls (x ∷ stack)) s.number 3 (act.Unlock x))
      (act.Unlock x) (after_unlock s.code (here s c ls (x ∷ stack))) (perform (act.Unlock x) ls q) q go h
      (see_plan c x ls stack room el 3 (act.Unlock x) has.0 refl) (unlocking_is c x ls stack room el has) (omega arith)
      (narrow s c (c + 3) c (c + 1) q q h (omega arith) (omega arith) (omega arith) catches)
      (unlock_answers c x ls stack room el q go h has le takes catches)
  lock_run LockMonitor c x ls stack q go h has le room el takes catches =
      operation_run c x ls stack room el (nat_eq x 0) (saw s.code (here s c ls (x ∷ stack)) s.number 4
      (act.LockMonitor x)) (act.LockMonitor x) (after_lock s.code s.number (here s c ls (x ∷ stack)))
      (perform (act.LockMonitor x) ls q) q go h
      (see_plan c x ls stack room el 4 (act.LockMonitor x) has.0 refl) (monitor_is c x ls stack room el has)
      (omega arith) (narrow s c (c + 5) c (c + 1) q q h (omega arith) (omega arith) (omega arith) catches)
      (monitor_answers c x ls stack room el q go h has le takes catches)
  lock_run UnlockMonitor c x ls stack q go h has le room el takes catches =
      operation_run c x ls stack room el (nat_eq x 0) (saw s.code (here s c ls (x ∷ stack)) s.number 5
      (act.UnlockMonitor x)) (act.UnlockMonitor x) (after_unlock s.code (here s c ls (x ∷ stack)))
      (perform (act.UnlockMonitor x) ls q) q go h
      (see_plan c x ls stack room el 5 (act.UnlockMonitor x) has.0 refl) (leaving_is c x ls stack room el has)
      (omega arith) (narrow s c (c + 3) c (c + 1) q q h (omega arith) (omega arith) (omega arith) catches)
      (leave_answers c x ls stack room el q go h has le takes catches)
  lock_run TryLock c x ls stack q go h has le room el takes catches =
      operation_run c x ls stack room el (nat_eq x 0) (saw s.code (here s c ls (x ∷ stack)) s.number 2 (act.TryLock x))
      (act.TryLock x) (after_try s.code s.number (here s c ls (x ∷ stack))) (operate_lock TryLock x ls q) q go h
      (see_plan c x ls stack room el 2 (act.TryLock x) has.0 refl) (trying_is c x ls stack room el has) (omega arith)
      (narrow s c (c + 4) c (c + 1) q q h (omega arith) (omega arith) (omega arith) catches)
      (try_answers c x ls stack room el q go h has le takes catches)
  lock_run IsHeld c x ls stack q go h has le room el takes catches =
      object_run s (act.IsHeld x) (then.Settle 1) c op.IsHeld x ls (x ∷ stack) stack q go h has.0 refl (λ w. refl)
      (omega arith) el takes catches
