-- The code of an expression asks for what the expression asks for: by induction on the tree.
use Rattle.std.proofs.Common.{◌≡◌, ℕ, suc, ◌+◌, ◌<◌, pos, List, [], ◌∷◌, ◌++◌, length, reverse, Some, Bool, true, false}
use Rattle.std.proofs.Common.{refl, sym, ap, subst, arith, slice_get, slice_index, slice_set, nat_eq, if◌then◌else◌}
use Rattle.std.proofs.lemmas.Bool.{lt-ltb}
use Rattle.ls_events.specs.declared.kind.Kind.{Kind}
use Rattle.ls_events.specs.declared.kind.Kind.TheVariants.{NullPointer}
use Rattle.ls_events.specs.declared.action.Action.TheVariants as act
use Rattle.ls_code.specs.declared.instruction.Instruction.TheVariants as op
use Rattle.ls_code.specs.declared.instruction.Resume.TheVariants as then
use Rattle.ls_code.specs.Moves.{Stuck as FrameStuck, Asks as FrameAsks}
use Rattle.ls_lowered.specs.LoweredTree.{Expression, Word, Local, Unary, Binary, And, Or, Hold, Keep}
use Rattle.ls_lowered.specs.LoweredTree.{After as Afterwards, Field, Item, SetFirst, ReadPair, SetPair, SwapPair}
use Rattle.ls_lowered.specs.LoweredTree.{AttemptMark, OnLock, Call, MakeObject, MakeLock, MakeMarkable, MakeArray}
use Rattle.ls_lowered.specs.LoweredTree.{Expressions, End, More}
use Rattle.ls_lowered.specs.Words.{int_of, bool_of}
use Rattle.ls_lowered.specs.Course.{Answers, Course, Ends, Outcome, Results, Throws, and_then, ask, perform}
use Rattle.ls_lowered.specs.Course.{unless_null, returned}
use Rattle.ls_lowered.specs.Expressions.{unary_word, operate, operate_lock, make_array, evaluate, evaluate_all}
use Rattle.ls_emit.specs.LockCode.{lock_code, lock_size}
use Rattle.ls_emit.specs.Expressions.{unary_code, binary_code, size, all_size, code, all_code}
use Rattle.ls_emit.specs.Emittable.{count}
use Rattle.ls_emit.specs.Entering.{TakesAll}
use Rattle.ls_emit.proofs.Places.{has_front, has_after, has_two, has_three, has_at, size_is, all_size_is}
use Rattle.ls_emit.proofs.Operands.{reversed}
use Rattle.ls_emit.proofs.Told.{After, out, out_then}
use Rattle.ls_emit.proofs.Steps.{Setting, here, Reaches, renamed, later, at_place}
use Rattle.ls_emit.proofs.Runs.{Catches, Takes, narrow, fewer, push_run, dup_run, load_run, pop_run, store_run}
use Rattle.ls_emit.proofs.Runs.{jump_run, branch_run, acts_on, unary_run, binary_run}
use Rattle.ls_emit.proofs.ExpressionCode.{takes_all, one_need, EnterRuns, Runs, AllRun, first_run, two_run, behind}
use Rattle.ls_emit.proofs.ExpressionCode.{behind_two, object_run, object_performs, array_run}
use Rattle.ls_emit.proofs.LockRuns.{lock_run}

null_then : {A : Type 0} (b : Bool) (ls : List ℕ) (q : Answers) (x : Course (Outcome ℕ))
    (f : ℕ → List ℕ → Answers → Course (Outcome A)) (go : After A) (h : After Kind) →
    out (if b then Ends (Throws NullPointer) ls q else and_then x f) go h ≡ out
    (if b then Ends (Throws NullPointer) ls q else x) (λ w ls q. out (f w ls q) go h) h
null_then true ls q x f go h = refl
null_then false ls q x f go h = out_then x f go h

module _ (s : Setting) (enter : EnterRuns s) where
  -- arguments after an object, and the call
  enters : (c m x : ℕ) (ws ls stack : List ℕ) (q : Answers) (go : After ℕ) (h : After Kind) →
      TakesAll (slice_get s.file m) (x ∷ ws) →
      c < s.budget →
      slice_get s.code.instructions c ≡ Some (op.Enter m) →
      length stack < s.base.top.need →
      length ls ≡ s.wide →
      Takes s (c + 1) stack q go →
      Catches s c (c + 1) q h →
      Reaches s c (Some (here s c ls (reverse ws ++ (x ∷ stack)))) q
      (out (unless_null x ls q (returned ls (s.calls m (x ∷ ws) q))) go h)
  enters c m x ws ls stack q go h takes_it lt has room el takes catches =
      subst (λ l. Reaches s c (Some (here s c ls l)) q (out (unless_null x ls q (returned ls (s.calls m (x ∷ ws) q))) go
      h)) (sym (reversed x ws stack))
      (enter c m x ws ls stack q go h takes_it lt has room el takes catches)

  mutual
    -- the code of each expression does what its course says
    pub runs : (e : Expression) (p : ℕ) → Runs s e p
    runs (Word w) p ls stack q go h has fits room le el takes catches =
        push_run s p w ls stack q (go w ls q) has.0 (omega arith) (omega arith) (takes w ls q el (omega arith))
    runs (Local n) p ls stack q go h has fits room le el takes catches =
        load_run s p n ls stack q (go (slice_index ls n) ls q) has.0 fits el (omega arith) (omega arith)
        (takes (slice_index ls n) ls q el (omega arith))
    runs (Unary o e) p ls stack q go h has fits room le el takes catches =
        let c = p + size e in
        first_run s e p (unary_code o ∷ []) (λ x ls q. Ends (Results (unary_word o x)) ls q) ls stack q go h (runs e p)
        has fits room (omega arith) el (narrow s p (p + (size e + 1)) p c q q h (omega arith) (omega arith)
        (omega arith) catches)
        (λ x ls1 q1 e1 l1. unary_run s o c x ls1 stack q1 go (behind s e p (unary_code o ∷ []) has).0 (omega arith) e1
        (fewer s (p + (size e + 1)) (c + 1) stack q q1 go (omega arith) l1 takes))
    runs (Binary o a b) p ls stack q go h has0 fits room le el takes catches =
        let has = has_two s.code.instructions p (code p a) (code (p + size a) b) (binary_code o ∷ []) has0 in
        let c = p + size a + size b in
        two_run s a b p (binary_code o ∷ []) (λ x y ls q. operate o x y ls q) ls stack q go h (runs a p)
        (runs b (p + size a)) has fits.0 fits.1 room (omega arith) el
        (narrow s p (p + (size a + size b + 1)) p c q q h (omega arith) (omega arith) (omega arith) catches)
        (λ x y ls1 q1 e1 l1. binary_run s o c x y ls1 stack q1 go h (behind_two s a b p (binary_code o ∷ []) has).0
        (omega arith) e1 (fewer s (p + (size a + size b + 1)) (c + 1) stack q q1 go (omega arith) l1 takes)
        (narrow s p (p + (size a + size b + 1)) c (c + 1) q q1 h (omega arith) (omega arith) l1 catches))
    runs (And a b) p ls stack q go h has0 fits room le el takes catches =
        let has = has_two s.code.instructions p (code p a) (op.JumpIfFalse (p + size a + size b + 2) ∷
        code (p + size a + 1) b) (op.Jump (p + size a + size b + 3) ∷ op.Push 0 ∷ []) has0 in
        let c = p + size a in
        let to = p + size a + size b + 2 in
        let over = p + size a + size b + 3 in
        let back = behind s a p _ has in
        let back2 = has_after s.code.instructions (c + 1) (size b) (code (c + 1) b) _ (size_is b (c + 1)) back.1 in
        let has_push = has_at s.code.instructions (c + 1 + size b + 1) to (op.Push 0 ∷ []) (omega arith) back2.1 in
        first_run s a p _ (λ x ls q. if nat_eq x 0 then Ends (Results 0) ls q else evaluate s.calls b ls q) ls stack q
        go h (runs a p) has fits.0 (omega arith) (omega arith) el
        (narrow s p (p + (size a + size b + 3)) p c q q h (omega arith) (omega arith) (omega arith) catches)
        (λ x ls1 q1 e1 l1.
        let takes1 = fewer s (p + (size a + size b + 3)) over stack q q1 go (omega arith) l1 takes in
        branch_run s (λ y. out y go h) (Ends (Results 0) ls1 q1) (evaluate s.calls b ls1 q1) c to x ls1 stack q1 back.0
        (omega arith)
        (later s to (c + 1) (Some (here s to ls1 stack)) q1 (go 0 ls1 q1) (omega arith)
        (push_run s to 0 ls1 stack q1 (go 0 ls1 q1) has_push.0 (omega (arith, one_need a)) (omega arith)
        (fewer s over (to + 1) stack q1 q1 go (omega arith) (omega arith) takes1 0 ls1 q1 e1 (omega arith))))
        (runs b (c + 1) ls1 stack q1 go h (has_front s.code.instructions (c + 1) (code (c + 1) b) _ back.1) fits.1
        (omega arith) (omega arith) e1
        (λ w ls2 q2 e2 l2. jump_run s (c + 1 + size b) over ls2 (w ∷ stack) q2 (go w ls2 q2) back2.0 (omega arith)
        (later s over (c + 1 + size b + 1) (Some (here s over ls2 (w ∷ stack))) q2 (go w ls2 q2) (omega arith)
        (takes1 w ls2 q2 e2 l2)))
        (narrow s p (p + (size a + size b + 3)) (c + 1) (c + 1 + size b) q q1 h (omega arith) (omega arith) l1
        catches)))
    runs (Or a b) p ls stack q go h has fits room le el takes catches =
        let c = p + size a in
        let to = p + size a + 3 in
        let over = p + size a + size b + 3 in
        let back = behind s a p _ has in
        let has_b = has_at s.code.instructions (c + 1 + 1 + 1) to (code to b) (omega arith) back.1.1.1 in
        first_run s a p _ (λ x ls q. if nat_eq x 0 then evaluate s.calls b ls q else Ends (Results 1) ls q) ls stack q
        go h (runs a p) has fits.0 (omega arith) (omega arith) el
        (narrow s p (p + (size a + size b + 3)) p c q q h (omega arith) (omega arith) (omega arith) catches)
        (λ x ls1 q1 e1 l1.
        let takes1 = fewer s (p + (size a + size b + 3)) over stack q q1 go (omega arith) l1 takes in
        branch_run s (λ y. out y go h) (evaluate s.calls b ls1 q1) (Ends (Results 1) ls1 q1) c to x ls1 stack q1 back.0
        (omega arith)
        (later s to (c + 1) (Some (here s to ls1 stack)) q1 (out (evaluate s.calls b ls1 q1) go h) (omega arith)
        (runs b to ls1 stack q1 go h has_b fits.1 (omega arith) (omega arith) e1
        (fewer s over (to + size b) stack q1 q1 go (omega arith) (omega arith) takes1)
        (narrow s p (p + (size a + size b + 3)) to (to + size b) q q1 h (omega arith) (omega arith) l1 catches)))
        (push_run s (c + 1) 1 ls1 stack q1 (go 1 ls1 q1) back.1.0 (omega (arith, one_need a)) (omega arith)
        (jump_run s (c + 1 + 1) over ls1 (1 ∷ stack) q1 (go 1 ls1 q1) back.1.1.0 (omega arith)
        (later s over (c + 1 + 1 + 1) (Some (here s over ls1 (1 ∷ stack))) q1 (go 1 ls1 q1) (omega arith)
        (takes1 1 ls1 q1 e1 (omega arith))))))
    runs (Hold a n b) p ls stack q go h has0 fits room le el takes catches =
        let has = has_two s.code.instructions p (code p a) (code (p + size a) b) (op.Store n ∷ []) has0 in
        let c = p + size a + size b in
        two_run s a b p (op.Store n ∷ []) (λ x y ls q. Ends (Results x) (slice_set ls n y) q) ls stack q go h (runs a p)
        (runs b (p + size a)) has fits.0 fits.2 room (omega arith) el
        (narrow s p (p + (size a + size b + 1)) p c q q h (omega arith) (omega arith) (omega arith) catches)
        (λ x y ls1 q1 e1 l1. store_run s c n y ls1 (x ∷ stack) q1 (go x (slice_set ls1 n y) q1)
        (behind_two s a b p (op.Store n ∷ []) has).0 fits.1 e1 (omega arith)
        (λ e2. fewer s (p + (size a + size b + 1)) (c + 1) stack q q1 go (omega arith) l1 takes x (slice_set ls1 n y) q1
        e2 (omega arith)))
    runs (Keep n a b) p ls stack q go h has fits room le el takes catches =
        let c = p + size a in
        let back = behind s a p _ has in
        first_run s a p _ (λ x ls q. evaluate s.calls b (slice_set ls n x) q) ls stack q go h (runs a p) has fits.0
        (omega arith) (omega arith) el (narrow s p (p + (size a + size b + 1)) p c q q h (omega arith) (omega arith)
        (omega arith) catches)
        (λ x ls1 q1 e1 l1. store_run s c n x ls1 stack q1 _ back.0 fits.1 e1 (omega arith)
        (λ e2. runs b (c + 1) (slice_set ls1 n x) stack q1 go h back.1 fits.2 (omega arith) (omega arith) e2
        (fewer s (p + (size a + size b + 1)) (c + 1 + size b) stack q q1 go (omega arith) l1 takes)
        (narrow s p (p + (size a + size b + 1)) (c + 1) (c + 1 + size b) q q1 h (omega arith) (omega arith) l1
        catches)))
    runs (Afterwards a b) p ls stack q go h has fits room le el takes catches =
        let c = p + size a in
        let back = behind s a p _ has in
        first_run s a p _ (λ x ls q. evaluate s.calls b ls q) ls stack q go h (runs a p) has fits.0 (omega arith)
        (omega arith) el (narrow s p (p + (size a + size b + 1)) p c q q h (omega arith) (omega arith) (omega arith)
        catches)
        (λ x ls1 q1 e1 l1. pop_run s c x ls1 stack q1 _ back.0 (omega arith)
        (runs b (c + 1) ls1 stack q1 go h back.1 fits.1 (omega arith) (omega arith) e1
        (fewer s (p + (size a + size b + 1)) (c + 1 + size b) stack q q1 go (omega arith) l1 takes)
        (narrow s p (p + (size a + size b + 1)) (c + 1) (c + 1 + size b) q q1 h (omega arith) (omega arith) l1
        catches)))
    runs (Field e f) p ls stack q go h has fits room le el takes catches =
        let c = p + size e in
        first_run s e p (op.GetField (f + 1) ∷ []) (λ x ls q. unless_null x ls q (ask (act.ReadField x (f + 1)) ls q))
        ls stack q go h (runs e p) has fits.0 room (omega arith) el
        (narrow s p (p + (size e + 1)) p c q q h (omega arith) (omega arith) (omega arith) catches)
        (λ x ls1 q1 e1 l1. object_run s (act.ReadField x (f + 1)) (then.Settle 1) c (op.GetField (f + 1)) x ls1
        (x ∷ stack) stack q1 go h (behind s e p (op.GetField (f + 1) ∷ []) has).0 refl (λ w. refl) (omega arith) e1
        (fewer s (p + (size e + 1)) (c + 1) stack q q1 go (omega arith) l1 takes)
        (narrow s p (p + (size e + 1)) c (c + 1) q q1 h (omega arith) (omega arith) l1 catches))
    runs (Item a i) p ls stack q go h has0 fits room le el takes catches =
        let has = has_two s.code.instructions p (code p a) (code (p + size a) i) (op.GetItem ∷ []) has0 in
        let c = p + size a + size i in
        two_run s a i p (op.GetItem ∷ []) (λ x n ls q. unless_null x ls q (ask (act.ReadItem x (int_of n)) ls q)) ls
        stack q go h (runs a p) (runs i (p + size a)) has fits.0 fits.1 room (omega arith) el
        (narrow s p (p + (size a + size i + 1)) p c q q h (omega arith) (omega arith) (omega arith) catches)
        (λ x n ls1 q1 e1 l1. object_run s (act.ReadItem x (int_of n)) (then.Settle 2) c op.GetItem x ls1 (n ∷ x ∷ stack)
        stack q1 go h (behind_two s a i p (op.GetItem ∷ []) has).0 refl (λ w. refl) (omega arith) e1
        (fewer s (p + (size a + size i + 1)) (c + 1) stack q q1 go (omega arith) l1 takes)
        (narrow s p (p + (size a + size i + 1)) c (c + 1) q q1 h (omega arith) (omega arith) l1 catches))
    runs (SetFirst a e) p ls stack q go h has0 fits room le el takes catches =
        let has = has_two s.code.instructions p (code p a) (op.Push 0 ∷ code (p + size a + 1) e)
        (op.PutItem ∷ op.Push 0 ∷ []) has0 in
        let c = p + size a in
        let d = c + 1 + size e in
        let back = behind s a p _ has in
        let back2 = behind s e (c + 1) (op.PutItem ∷ op.Push 0 ∷ []) back.1 in
        first_run s a p _ (λ x ls q. and_then (evaluate s.calls e ls q)
        (λ y ls q. unless_null x ls q (perform (act.WriteItem x (pos 0) y) ls q))) ls stack q go h (runs a p) has
        fits.0 (omega arith) (omega arith) el (narrow s p (p + (size a + size e + 3)) p c q q h (omega arith)
        (omega arith) (omega arith) catches)
        (λ x ls1 q1 e1 l1. push_run s c 0 ls1 (x ∷ stack) q1 _ back.0 (omega (arith, one_need e)) (omega arith)
        (first_run s e (c + 1) _ (λ y ls q. unless_null x ls q (perform (act.WriteItem x (pos 0) y) ls q)) ls1
        (0 ∷ x ∷ stack) q1 go h (runs e (c + 1)) back.1 fits.1 (omega arith) (omega arith) e1
        (narrow s p (p + (size a + size e + 3)) (c + 1) d q q1 h (omega arith) (omega arith) l1 catches)
        (λ y ls2 q2 e2 l2. object_performs s (act.WriteItem x (pos 0) y) (then.Discard 3) d op.PutItem x ls2
        (y ∷ 0 ∷ x ∷ stack) stack q2 go h back2.0 back2.1.0 refl (λ w. refl) (omega arith)
        (omega (arith, one_need a)) e2 (fewer s (p + (size a + size e + 3)) (d + 1 + 1) stack q q2 go (omega arith)
        (omega arith) takes) (narrow s p (p + (size a + size e + 3)) d (d + 1) q q2 h (omega arith) (omega arith)
        (omega arith) catches))))
    runs (ReadPair e) p ls stack q go h has fits room le el takes catches =
        let c = p + size e in
        first_run s e p (op.ReadPair ∷ []) (λ x ls q. unless_null x ls q (ask (act.ReadPair x) ls q)) ls stack q go h
        (runs e p) has fits room (omega arith) el (narrow s p (p + (size e + 1)) p c q q h (omega arith)
        (omega arith) (omega arith) catches)
        (λ x ls1 q1 e1 l1. object_run s (act.ReadPair x) (then.Settle 1) c op.ReadPair x ls1 (x ∷ stack) stack q1 go h
        (behind s e p (op.ReadPair ∷ []) has).0 refl (λ w. refl) (omega arith) e1
        (fewer s (p + (size e + 1)) (c + 1) stack q q1 go (omega arith) l1 takes)
        (narrow s p (p + (size e + 1)) c (c + 1) q q1 h (omega arith) (omega arith) l1 catches))
    runs (SetPair e a) p ls stack q go h has0 fits room le el takes catches =
        let has = has_two s.code.instructions p (code p e) (code (p + size e) a) (op.SetPair ∷ op.Push 0 ∷ []) has0 in
        let c = p + size e + size a in
        let back = behind_two s e a p (op.SetPair ∷ op.Push 0 ∷ []) has in
        two_run s e a p (op.SetPair ∷ op.Push 0 ∷ []) (λ x y ls q. unless_null x ls q (perform (act.SetPair x y) ls q))
        ls stack q go h (runs e p) (runs a (p + size e)) has fits.0 fits.1 room (omega arith) el
        (narrow s p (p + (size e + size a + 2)) p c q q h (omega arith) (omega arith) (omega arith) catches)
        (λ x y ls1 q1 e1 l1. object_performs s (act.SetPair x y) (then.Discard 2) c op.SetPair x ls1 (y ∷ x ∷ stack)
        stack q1 go h back.0 back.1.0 refl (λ w. refl) (omega arith) (omega (arith, one_need e)) e1
        (fewer s (p + (size e + size a + 2)) (c + 1 + 1) stack q q1 go (omega arith) l1 takes)
        (narrow s p (p + (size e + size a + 2)) c (c + 1) q q1 h (omega arith) (omega arith) l1 catches))
    runs (SwapPair e a b) p ls stack q go h has0 fits room le el takes catches =
        let has = has_three s.code.instructions p (code p e) (code (p + size e) a) (code (p + size e + size a) b)
        (op.SwapPair ∷ []) has0 in
        let c = p + size e + size a + size b in
        let back = behind s e p _ has in
        first_run s e p _ (λ x ls q. and_then (evaluate s.calls a ls q)
        (λ y ls q. and_then (evaluate s.calls b ls q) (λ z ls q.
        unless_null x ls q (ask (act.SwapPair x y z) ls q)))) ls stack q go h (runs e p) has fits.0 (omega arith)
        (omega arith) el (narrow s p (p + (size e + size a + size b + 1)) p (p + size e) q q h (omega arith)
        (omega arith) (omega arith) catches)
        (λ x ls0 q0 e0 l0. two_run s a b (p + size e) (op.SwapPair ∷ [])
        (λ y z ls q. unless_null x ls q (ask (act.SwapPair x y z) ls q)) ls0 (x ∷ stack) q0 go h
        (runs a (p + size e)) (runs b (p + size e + size a)) back fits.1 fits.2 (omega arith) (omega arith) e0
        (narrow s p (p + (size e + size a + size b + 1)) (p + size e) c q q0 h (omega arith) (omega arith) l0
        catches)
        (λ y z ls1 q1 e1 l1. object_run s (act.SwapPair x y z) (then.Settle 3) c op.SwapPair x ls1 (z ∷ y ∷ x ∷ stack)
        stack q1 go h (behind_two s a b (p + size e) (op.SwapPair ∷ []) back).0 refl (λ w. refl) (omega arith) e1
        (fewer s (p + (size e + size a + size b + 1)) (c + 1) stack q q1 go (omega arith) (omega arith) takes)
        (narrow s p (p + (size e + size a + size b + 1)) c (c + 1) q q1 h (omega arith) (omega arith) (omega arith)
        catches)))
    runs (AttemptMark e a b) p ls stack q go h has0 fits room le el takes catches =
        let has = has_three s.code.instructions p (code p e) (code (p + size e) a) (code (p + size e + size a) b)
        (op.AttemptMark ∷ []) has0 in
        let c = p + size e + size a + size b in
        let back = behind s e p _ has in
        first_run s e p _ (λ x ls q. and_then (evaluate s.calls a ls q)
        (λ y ls q. and_then (evaluate s.calls b ls q) (λ z ls q.
        unless_null x ls q (ask (act.AttemptMark x y (bool_of z)) ls q)))) ls stack q go h (runs e p) has fits.0
        (omega arith) (omega arith) el (narrow s p (p + (size e + size a + size b + 1)) p (p + size e) q q h
        (omega arith) (omega arith) (omega arith) catches)
        (λ x ls0 q0 e0 l0. two_run s a b (p + size e) (op.AttemptMark ∷ [])
        (λ y z ls q. unless_null x ls q (ask (act.AttemptMark x y (bool_of z)) ls q)) ls0 (x ∷ stack) q0 go h
        (runs a (p + size e)) (runs b (p + size e + size a)) back fits.1 fits.2 (omega arith) (omega arith) e0
        (narrow s p (p + (size e + size a + size b + 1)) (p + size e) c q q0 h (omega arith) (omega arith) l0
        catches)
        (λ y z ls1 q1 e1 l1. object_run s (act.AttemptMark x y (bool_of z)) (then.Settle 3) c op.AttemptMark x ls1
        (z ∷ y ∷ x ∷ stack) stack q1 go h (behind_two s a b (p + size e) (op.AttemptMark ∷ []) back).0 refl
        (λ w. refl) (omega arith) e1 (fewer s (p + (size e + size a + size b + 1)) (c + 1) stack q q1 go
        (omega arith) (omega arith) takes) (narrow s p (p + (size e + size a + size b + 1)) c (c + 1) q q1 h
        (omega arith) (omega arith) (omega arith) catches)))
    runs (OnLock o e) p ls stack q go h has fits room le el takes catches =
        let c = p + size e in
        first_run s e p (lock_code (p + size e) o) (λ x ls q. unless_null x ls q (operate_lock o x ls q)) ls stack q go
        h (runs e p) has fits (omega arith) (omega arith) el
        (narrow s p (p + (size e + lock_size o)) p c q q h (omega arith) (omega arith) (omega arith) catches)
        (λ x ls1 q1 e1 l1. lock_run s o c x ls1 stack q1 go h (behind s e p (lock_code (p + size e) o) has)
        (omega arith) (omega (arith, one_need e)) e1 (fewer s (p + (size e + lock_size o)) (c + lock_size o) stack q
        q1 go (omega arith) l1 takes) (narrow s p (p + (size e + lock_size o)) c (c + lock_size o) q q1 h
        (omega arith) (omega arith) l1 catches))
    runs (Call m e es) p ls stack q go h has0 fits room le el takes catches =
        let has = has_two s.code.instructions p (code p e) (all_code (p + size e) es) (op.Enter m ∷ []) has0 in
        let d = p + size e in
        let c = p + size e + all_size es in
        let whole = p + (size e + all_size es + 1) in
        let back = behind s e p (all_code d es ++ op.Enter m ∷ []) has in
        let at_enter = has_after s.code.instructions d (all_size es) (all_code d es) (op.Enter m ∷ [])
        (all_size_is es d) back in
        let calls = λ (x : ℕ) (ws ls : List ℕ) (q : Answers). unless_null x ls q (returned ls (s.calls m (x ∷ ws) q)) in
        first_run s e p (all_code d es ++ op.Enter m ∷ []) (λ x ls q. and_then (evaluate_all s.calls es ls q) (calls x))
        ls stack q go h (runs e p) has fits.1 (omega arith) (omega arith) el
        (narrow s p whole p d q q h (omega arith) (omega arith) (omega arith) catches)
        (λ x ls1 q1 e1 l1. renamed s d ls1 (x ∷ stack) q1 _ _
        (sym (out_then (evaluate_all s.calls es ls1 q1) (calls x) go h))
        (all_run es d ls1 (x ∷ stack) q1 (λ ws ls q. out (calls x ws ls q) go h) h
        (has_front s.code.instructions d (all_code d es) (op.Enter m ∷ []) back) fits.2 (omega arith) (omega arith)
        e1
        (λ ws ls2 q2 ew e2 l2. enters c m x ws ls2 stack q2 go h
        (takes_all (slice_get s.file m) x ws (count es) fits.0.1 ew) (omega arith) at_enter.0
        (omega (arith, one_need e)) e2 (fewer s whole (c + 1) stack q q2 go (omega arith) (omega arith) takes)
        (narrow s p whole c (c + 1) q q2 h (omega arith) (omega arith) (omega arith) catches))
        (narrow s p whole d c q q1 h (omega arith) (omega arith) l1 catches)))
    runs (MakeObject class m es) p ls stack q go h has fits room le el takes catches =
        let d = p + 2 in
        let c = d + all_size es in
        let whole = p + (all_size es + 4) in
        let back = has_at s.code.instructions (p + 1 + 1) d (all_code d es ++ op.Enter m ∷ op.Pop ∷ []) (omega arith)
        has.1.1 in
        let at_enter = has_after s.code.instructions d (all_size es) (all_code d es) (op.Enter m ∷ op.Pop ∷ [])
        (all_size_is es d) back in
        let made = λ (x : ℕ) (ls : List ℕ) (q : Answers). go x ls q in
        let calls = λ (x : ℕ) (ws ls : List ℕ) (q : Answers).
        unless_null x ls q (and_then (returned ls (s.calls m (x ∷ ws) q)) (λ w ls q. Ends (Results x) ls q)) in
        renamed s p ls stack q _ _
        (sym (out_then (ask (act.New class) ls q) (λ x ls q. and_then (evaluate_all s.calls es ls q) (calls x)) go
        h))
        (acts_on s (act.New class) then.Push (λ x. x ∷ stack) p (op.NewObject class) ls stack q
        (λ x ls q. out (and_then (evaluate_all s.calls es ls q) (calls x)) go h) h has.0
        (ap (λ b. if b then FrameAsks (act.New class) then.Push else FrameStuck)
        (lt-ltb (length stack) s.base.top.need (omega arith))) (λ w. refl) el
        (λ x q1 l1. dup_run s (p + 1) x ls stack q1 _ has.1.0 (omega arith) (omega arith)
        (at_place s d (p + 1 + 1) ls (x ∷ x ∷ stack) q1 _ (omega arith)
        (renamed s d ls (x ∷ x ∷ stack) q1 _ _ (sym (out_then (evaluate_all s.calls es ls q1) (calls x) go h))
        (all_run es d ls (x ∷ x ∷ stack) q1 (λ ws ls q. out (calls x ws ls q) go h) h
        (has_front s.code.instructions d (all_code d es) (op.Enter m ∷ op.Pop ∷ []) back) fits.2 (omega arith)
        (omega arith) el
        (λ ws ls2 q2 ew e2 l2. renamed s c ls2 (reverse ws ++ (x ∷ x ∷ stack)) q2 _ _
        (sym (null_then (nat_eq x 0) ls2 q2 (returned ls2 (s.calls m (x ∷ ws) q2)) (λ w ls q. Ends (Results x) ls q)
        go h))
        (enters c m x ws ls2 (x ∷ stack) q2 (λ w ls q. go x ls q) h
        (takes_all (slice_get s.file m) x ws (count es) fits.1.1 ew) (omega arith) at_enter.0 (omega arith) e2
        (λ w ls3 q3 e3 l3. pop_run s (c + 1) w ls3 (x ∷ stack) q3 (go x ls3 q3) at_enter.1.0 (omega arith)
        (fewer s whole (c + 1 + 1) stack q q3 go (omega arith) (omega arith) takes x ls3 q3 e3 (omega arith)))
        (narrow s p whole c (c + 1) q q2 h (omega arith) (omega arith) (omega arith) catches)))
        (narrow s p whole d c q q1 h (omega arith) (omega arith) l1 catches)))))
        (narrow s p whole p (p + 1) q q h (omega arith) (omega arith) (omega arith) catches))
    runs MakeLock p ls stack q go h has fits room le el takes catches =
        acts_on s act.NewLock then.Push (λ w. w ∷ stack) p op.NewLock ls stack q go h has.0
        (ap (λ b. if b then FrameAsks act.NewLock then.Push else FrameStuck)
        (lt-ltb (length stack) s.base.top.need (omega arith))) (λ w. refl) el
        (λ w rest l. takes w ls rest el l) catches
    runs (MakeMarkable e) p ls stack q go h has fits room le el takes catches =
        let c = p + size e in
        first_run s e p (op.NewMarkable ∷ []) (λ x ls q. ask (act.NewMarkable x) ls q) ls stack q go h (runs e p) has
        fits room (omega arith) el (narrow s p (p + (size e + 1)) p c q q h (omega arith) (omega arith)
        (omega arith) catches)
        (λ x ls1 q1 e1 l1. acts_on s (act.NewMarkable x) (then.Settle 1) (λ w. w ∷ stack) c op.NewMarkable ls1
        (x ∷ stack) q1 go h (behind s e p (op.NewMarkable ∷ []) has).0 refl (λ w. refl) e1
        (λ w rest l. fewer s (p + (size e + 1)) (c + 1) stack q q1 go (omega arith) l1 takes w ls1 rest e1 l)
        (narrow s p (p + (size e + 1)) c (c + 1) q q1 h (omega arith) (omega arith) l1 catches))
    runs (MakeArray e) p ls stack q go h has fits room le el takes catches =
        let c = p + size e in
        first_run s e p (op.NewArray ∷ []) make_array ls stack q go h (runs e p) has fits room (omega arith) el
        (narrow s p (p + (size e + 1)) p c q q h (omega arith) (omega arith) (omega arith) catches)
        (λ x ls1 q1 e1 l1. array_run s c x ls1 stack q1 go h (behind s e p (op.NewArray ∷ []) has).0 (omega arith) e1
        (fewer s (p + (size e + 1)) (c + 1) stack q q1 go (omega arith) l1 takes)
        (narrow s p (p + (size e + 1)) c (c + 1) q q1 h (omega arith) (omega arith) l1 catches))

    pub all_run : (es : Expressions) (p : ℕ) → AllRun s es p
    all_run End p ls stack q go h has fits room le el r catches =
        at_place s (p + 0) p ls stack q (go [] ls q) (omega arith) (r [] ls q refl el (omega arith))
    all_run (More e es) p ls stack q go h has fits room le el r catches =
        let d = p + size e in
        let c = p + size e + all_size es in
        let whole = p + (size e + all_size es) in
        first_run s e p (all_code d es) (λ w ls q. and_then (evaluate_all s.calls es ls q)
        (λ ws ls q. Ends (Results (w ∷ ws)) ls q)) ls stack q go h (runs e p) has fits.0 (omega arith) (omega arith)
        el (narrow s p whole p d q q h (omega arith) (omega arith) (omega arith) catches)
        (λ w ls1 q1 e1 l1. renamed s d ls1 (w ∷ stack) q1 _ _
        (sym (out_then (evaluate_all s.calls es ls1 q1) (λ ws ls q. Ends (Results (w ∷ ws)) ls q) go h))
        (all_run es d ls1 (w ∷ stack) q1 (λ ws ls q. go (w ∷ ws) ls q) h (behind s e p (all_code d es) has) fits.1
        (omega arith) (omega arith) e1
        (λ ws ls2 q2 ew e2 l2.
        subst (λ l. Reaches s c (Some (here s c ls2 l)) q2 (go (w ∷ ws) ls2 q2)) (sym (reversed w ws stack))
        (at_place s whole c ls2 (reverse (w ∷ ws) ++ stack) q2 (go (w ∷ ws) ls2 q2) (omega arith)
        (r (w ∷ ws) ls2 q2 (ap suc ew) e2 (omega arith))))
        (narrow s p whole d c q q1 h (omega arith) (omega arith) l1 catches)))
