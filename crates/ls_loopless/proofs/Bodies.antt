-- How many answers a course takes at the most: of statements without loops, methods and threads.
use Rattle.std.proofs.Common.{ℕ, zero, suc, ◌+◌, ◌<◌, ◌≤◌, Bool, true, false, cond, List, [], ◌∷◌, Option, Some}
use Rattle.std.proofs.Common.{None, length, arith}
use Rattle.std.specs.Prelude.{slice_get}
use Rattle.ls_events.specs.declared.value.Value.{Value}
use Rattle.ls_events.specs.declared.value.ValueType.{ValueType}
use Rattle.ls_checked.specs.CheckedTree.{Class, File, Method, Statement, Block, SetSlot, SetField, AddField, SetItem}
use Rattle.ls_checked.specs.CheckedTree.{Evaluate, If, While, Break, Continue, ReturnNothing, ReturnValue, Try}
use Rattle.ls_checked.specs.CheckedTree.{Statements, Done, Then}
use Rattle.ls_checked.specs.CheckedProgram.{Program, ProgramCall, ThreadProgram, Making, Calling}
use Rattle.ls_meaning.specs.declared.completion.Completion.TheVariants.{Normal, Broke, Continued, Returned, Threw}
use Rattle.ls_meaning.specs.Values.{truth_of, reference_of}
use Rattle.ls_meaning.specs.Course.{Answers, Evaluated, Asks, Results, Throws}
use Rattle.ls_meaning.specs.Expressions.{Calls, operate}
use Rattle.ls_meaning.specs.Course.{on_object}
use Rattle.ls_meaning.specs.declared.sort.Sort.TheVariants.{NoValue}
use Rattle.ls_events.specs.declared.action.Action.TheVariants.{WriteField}
use Rattle.ls_checked.specs.declared.tree.Operator.TheVariants.{Add}
use Rattle.ls_meaning.specs.Statements.{Executed, AsksFor, Completes, on_value, then_do, finally_do, finish_as}
use Rattle.ls_meaning.specs.Statements.{execute, execute_all}
use Rattle.ls_meaning.specs.Methods.{depth_limit, frame, invoke, leave, run_body}
use Rattle.ls_meaning.specs.Threads.{Next, Goes, Ended, Trapped, after_call, all_calls, calls_in, next, one_call}
use Rattle.ls_loopless.specs.Loops.{AreLoopless, HasNoLoops, HaveNoLoops, IsLoopless}
use Rattle.ls_loopless.proofs.Bounds.{Leaves, ask_leaves, evaluate_bound, leaves_more}
use Rattle.ls_loopless.proofs.Bounds.{none_taken, tell_leaves, with_leaves, object_leaves, operate_leaves, null_leaves}

-- of a statement
abbrev LeavesBy : ℕ → ℕ → Executed → Type 0
LeavesBy n l (AsksFor action sort) = l < n
LeavesBy n l (Completes d ls rest) = l ≤ n + length rest

by_more : (n m l : ℕ) (x : Executed) → n ≤ m → LeavesBy n l x → LeavesBy m l x
by_more n m l (AsksFor a s) le h = omega arith
by_more n m l (Completes d ls rest) le h = omega arith

-- after so many answers left
by_rest : (n m l r : ℕ) (x : Executed) → l ≤ n + r → LeavesBy m r x → LeavesBy (n + m) l x
by_rest n m l r (AsksFor a s) le h = omega arith
by_rest n m l r (Completes d ls rest) le h = omega arith

value_leaves : (n m l : ℕ) (x : Evaluated Value) (ls : List Value) (go : Value → Answers → Executed) → Leaves n l x →
    ((v : Value) (rest : Answers) → LeavesBy m (length rest) (go v rest)) → LeavesBy (n + m) l (on_value x ls go)
value_leaves n m l (Asks a s) ls go h k = omega arith
value_leaves n m l (Throws kind rest) ls go h k = omega arith
value_leaves n m l (Results v rest) ls go h k = by_rest n m l (length rest) (go v rest) h (k v rest)

then_leaves : (n m l : ℕ) (x : Executed) (go : List Value → Answers → Executed) → LeavesBy n l x →
    ((ls : List Value) (rest : Answers) → LeavesBy m (length rest) (go ls rest)) → LeavesBy (n + m) l (then_do x go)
then_leaves n m l (AsksFor a s) go h k = omega arith
then_leaves n m l (Completes Normal ls rest) go h k = by_rest n m l (length rest) (go ls rest) h (k ls rest)
then_leaves n m l (Completes (Broke i) ls rest) go h k = omega arith
then_leaves n m l (Completes (Continued i) ls rest) go h k = omega arith
then_leaves n m l (Completes (Returned v) ls rest) go h k = omega arith
then_leaves n m l (Completes (Threw kind) ls rest) go h k = omega arith

finally_leaves : (n m l : ℕ) (x : Executed) (go : List Value → Answers → Executed) → LeavesBy n l x →
    ((ls : List Value) (rest : Answers) → LeavesBy m (length rest) (go ls rest)) →
    LeavesBy (n + (m + 0)) l (finally_do x go)
finally_leaves n m l (AsksFor a s) go h k = omega arith
finally_leaves n m l (Completes d ls rest) go h k =
    by_rest n (m + 0) l (length rest) (finish_as d (go ls rest)) h
    (then_leaves m 0 (length rest) (go ls rest) (λ ls more. Completes d ls more) (k ls rest) (λ ls more. omega arith))

cond_by : (b : Bool) (n l : ℕ) (x y : Executed) → LeavesBy n l x → LeavesBy n l y → LeavesBy n l (cond b x y)
cond_by true n l x y h k = h
cond_by false n l x y h k = k

abbrev BoundsBy : (List Value → Answers → Executed) → Type 0
BoundsBy f = (n : ℕ) × ((ls : List Value) (q : Answers) → LeavesBy n (length q) (f ls q))

module _ (classes : List Class) (calls : Calls) (most : ℕ)
    (within : (m : ℕ) (vs : List Value) (q : Answers) → Leaves most (length q) (calls m vs q)) where
  normal_leaves : (n l : ℕ) (x : Evaluated Value) (ls : List Value) → Leaves n l x →
      LeavesBy (n + 0) l (on_value x ls (λ _ rest. Completes Normal ls rest))
  normal_leaves n l x ls h = value_leaves n 0 l x ls (λ _ rest. Completes Normal ls rest) h (λ v rest. omega arith)

  abbrev mutual
    execute_bound : (s : Statement) → IsLoopless s → BoundsBy (execute classes calls s)
    execute_bound (Block ss) h = execute_all_bound ss h
    execute_bound (SetSlot n e) h =
        let b = evaluate_bound classes calls most within e in (
          b.0 + 0,
          λ ls q. value_leaves b.0 0 (length q) _ ls _ (b.1 ls q) (λ v rest. omega arith),
        )
    execute_bound (SetField e f e') h =
        let b = evaluate_bound classes calls most within e in
        let c = evaluate_bound classes calls most within e' in (
          (b.0 + (c.0 + 1)) + 0,
          λ ls q. normal_leaves (b.0 + (c.0 + 1)) (length q) _ ls
              (with_leaves b.0 (c.0 + 1) (length q) _ _ (b.1 ls q)
              (λ o rest. with_leaves c.0 1 (length rest) _ _ (c.1 ls rest) (λ v more. object_leaves o _ _ more))),
        )
    execute_bound (AddField e f e') h =
        let b = evaluate_bound classes calls most within e in
        let c = evaluate_bound classes calls most within e' in (
          (b.0 + (1 + (c.0 + (0 + 1)))) + 0,
          λ ls q. normal_leaves (b.0 + (1 + (c.0 + (0 + 1)))) (length q) _ ls
              (with_leaves b.0 (1 + (c.0 + (0 + 1))) (length q) _ _ (b.1 ls q)
              (λ o rest. with_leaves 1 (c.0 + (0 + 1)) (length rest) _ _ (object_leaves o _ _ rest)
              (λ x more. with_leaves c.0 (0 + 1) (length more) _ _ (c.1 ls more)
              (λ y left. with_leaves 0 1 (length left) (operate Add x y left)
              (λ v last. on_object o (WriteField (reference_of o) f v) NoValue last) (operate_leaves Add x y left)
              (λ v last. object_leaves o (WriteField (reference_of o) f v) NoValue last))))),
        )
    execute_bound (SetItem a i e) h =
        let b = evaluate_bound classes calls most within a in
        let c = evaluate_bound classes calls most within i in
        let d = evaluate_bound classes calls most within e in (
          (b.0 + (c.0 + (d.0 + 1))) + 0,
          λ ls q. normal_leaves (b.0 + (c.0 + (d.0 + 1))) (length q) _ ls
              (with_leaves b.0 (c.0 + (d.0 + 1)) (length q) _ _ (b.1 ls q)
              (λ o rest. with_leaves c.0 (d.0 + 1) (length rest) _ _ (c.1 ls rest)
              (λ n more. with_leaves d.0 1 (length more) _ _ (d.1 ls more) (λ v left. object_leaves o _ _ left)))),
        )
    execute_bound (Evaluate e) h =
        let b = evaluate_bound classes calls most within e in
        (b.0 + 0, λ ls q. normal_leaves b.0 (length q) _ ls (b.1 ls q))
    execute_bound (If e x y) h =
        let b = evaluate_bound classes calls most within e in
        let c = execute_bound x h.0 in
        let d = execute_bound y h.1 in (
          b.0 + (c.0 + d.0),
          λ ls q. value_leaves b.0 (c.0 + d.0) (length q) _ ls _ (b.1 ls q)
              (λ v rest. cond_by (truth_of v) (c.0 + d.0) (length rest) _ _
              (by_more c.0 (c.0 + d.0) (length rest) _ (omega arith) (c.1 ls rest))
              (by_more d.0 (c.0 + d.0) (length rest) _ (omega arith) (d.1 ls rest))),
        )
    execute_bound (While e s) h = absurd h
    execute_bound (Break n) h = (0, λ ls q. omega arith)
    execute_bound (Continue n) h = (0, λ ls q. omega arith)
    execute_bound ReturnNothing h = (0, λ ls q. omega arith)
    execute_bound (ReturnValue e) h =
        let b = evaluate_bound classes calls most within e in
        (b.0 + 0, λ ls q. value_leaves b.0 0 (length q) _ ls _ (b.1 ls q) (λ v rest. omega arith))
    execute_bound (Try x f) h =
        let b = execute_bound x h.0 in
        let c = execute_bound f h.1 in (
          b.0 + (c.0 + 0),
          λ ls q. finally_leaves b.0 c.0 (length q) _ _ (b.1 ls q) (λ ms rest. c.1 ms rest),
        )

    execute_all_bound : (ss : Statements) → AreLoopless ss → BoundsBy (execute_all classes calls ss)
    execute_all_bound Done h = (0, λ ls q. omega arith)
    execute_all_bound (Then s ss) h =
        let b = execute_bound s h.0 in
        let c = execute_all_bound ss h.1 in
        (b.0 + c.0, λ ls q. then_leaves b.0 c.0 (length q) _ _ (b.1 ls q) (λ ms rest. c.1 ms rest))

leave_leaves : (r : Option ValueType) (n l : ℕ) (x : Executed) → LeavesBy n l x → Leaves n l (leave r x)
leave_leaves r n l (AsksFor a s) h = h
leave_leaves r n l (Completes Normal ls rest) h = h
leave_leaves r n l (Completes (Broke i) ls rest) h = h
leave_leaves r n l (Completes (Continued i) ls rest) h = h
leave_leaves r n l (Completes (Returned None) ls rest) h = h
leave_leaves r n l (Completes (Returned (Some v)) ls rest) h = h
leave_leaves r n l (Completes (Threw kind) ls rest) h = h

module _ (file : File) (none : HasNoLoops file) where
  -- a bound for calls
  abbrev CallsWithin : Calls → Type 0
  CallsWithin calls = (n : ℕ) × ((m : ℕ) (vs : List Value) (q : Answers) → Leaves n (length q) (calls m vs q))

  -- of the bodies of some methods
  module _ (calls : Calls) (c : CallsWithin calls) where
    bodies : (ms : List Method) → HaveNoLoops ms →
        (n : ℕ) × ((m : ℕ) (vs : List Value) (q : Answers) → Leaves n (length q)
        (run_body file calls (slice_get ms m) vs q))
    bodies [] h = (0, λ m vs q. none_taken 0 q)
    bodies (x ∷ xs) h =
        let b = execute_bound file.classes calls c.0 c.1 x.body h.0 in
        let d = bodies xs h.1 in
        (b.0 + d.0, both b.0 d.0 b.1 d.1)
      where
        both : (n k : ℕ) →
            ((ls : List Value) (q : Answers) → LeavesBy n (length q) (execute file.classes calls x.body ls q)) →
            ((m : ℕ) (vs : List Value) (q : Answers) → Leaves k (length q)
            (run_body file calls (slice_get xs m) vs q)) →
            (m : ℕ) (vs : List Value) (q : Answers) →
            Leaves (n + k) (length q) (run_body file calls (slice_get (x ∷ xs) m) vs q)
        both n k first others zero vs q = leaves_more n (n + k) (length q) _ (omega arith)
            (leave_leaves x.result n (length q) _ (first (frame x.slots vs) q))
        both n k first others (suc m) vs q = leaves_more k (n + k) (length q) _ (omega arith) (others m vs q)

  -- at any depth
  invoke_bound : (d : ℕ) → CallsWithin (invoke file d)
  unfolding invoke
  invoke_bound zero = (0, λ m vs q. omega arith)
  invoke_bound (suc d) =
      let b = bodies (invoke file d) (invoke_bound d) file.methods none in
      (1 + b.0, λ m vs q. with_leaves 1 b.0 (length q) _ _ (tell_leaves _ q) (λ _ rest. b.1 m vs rest))

  -- ---- threads

  -- a thread that goes on has had fewer answers
  abbrev pub LeavesNext : ℕ → ℕ → Next → Type 0
  LeavesNext n l (Goes action sort) = l < n
  LeavesNext n l Ended = Unit {0}
  LeavesNext n l Trapped = Unit {0}

  next_more : (n m l k : ℕ) (x : Next) → (l < n → k < m) → LeavesNext n l x → LeavesNext m k x
  next_more n m l k (Goes a s) more h = more h
  next_more n m l k Ended more h = tt
  next_more n m l k Trapped more h = tt

  after_leaves : (i n m l : ℕ) (x : Evaluated (Option Value)) (go : Answers → Next) → Leaves n l x →
      ((rest : Answers) → LeavesNext m (length rest) (go rest)) → LeavesNext (n + 1 + m) l (after_call i x go)
  after_leaves i n m l (Asks a s) go h k = omega arith
  after_leaves i n m l (Results v []) go h k = omega arith
  after_leaves i n m l (Results v (y ∷ rest)) go h k =
      next_more m (n + 1 + m) (length rest) l (go rest) (λ less. omega arith) (k rest)
  after_leaves i n m l (Throws kind []) go h k = omega arith
  after_leaves i n m l (Throws kind (y ∷ rest)) go h k = tt

  module _ (program : Program) where
    abbrev depth : CallsWithin (invoke file depth_limit)
    depth = invoke_bound depth_limit

    call_bound : (i : ℕ) (c : ProgramCall) →
        (n : ℕ) × ((q : Answers) → Leaves n (length q) (one_call file program i c q))
    call_bound i (Making name c text values) = (
      1 + (1 + (depth.0 + (1 + 0))),
      λ q. with_leaves 1 (1 + (depth.0 + (1 + 0))) (length q) _ _ (tell_leaves _ q)
          (λ _ rest. with_leaves 1 (depth.0 + (1 + 0)) (length rest) _ _ (ask_leaves _ _ rest)
          (λ o more. with_leaves depth.0 (1 + 0) (length more) _ _ (depth.1 _ (o ∷ values) more)
          (λ _ left. with_leaves 1 0 (length left) _ _ (tell_leaves _ left) (λ _ last. none_taken 0 last)))),
    )
    call_bound i (Calling name m text result values) = (
      1 + (1 + (depth.0 + 0)),
      λ q. with_leaves 1 (1 + (depth.0 + 0)) (length q) _ _ (tell_leaves _ q)
          (λ _ rest. with_leaves 1 (depth.0 + 0) (length rest) _ _ (ask_leaves _ _ rest)
          (λ o more. null_leaves (reference_of o) (depth.0 + 0) more _
          (with_leaves depth.0 0 (length more) _ _ (depth.1 m (o ∷ values) more) (λ v left. none_taken 0 left)))),
    )

    calls_bound : (cs : List ProgramCall) (i : ℕ) →
        (n : ℕ) × ((q : Answers) → LeavesNext n (length q) (all_calls file program i cs q))
    calls_bound [] i = (0, λ q. tt)
    calls_bound (c ∷ cs) i =
        let b = call_bound i c in
        let d = calls_bound cs (i + 1) in
        (b.0 + 1 + d.0, λ q. after_leaves i b.0 d.0 (length q) _ _ (b.1 q) d.1)

    threads_bound : (ts : List ThreadProgram) →
        (n : ℕ) × ((t : ℕ) (q : Answers) → LeavesNext n (length q)
        (all_calls file program 1 (calls_in (slice_get ts t)) q))
    threads_bound [] = (0, λ t q. tt)
    threads_bound (x ∷ xs) =
        let b = calls_bound x.calls 1 in
        let d = threads_bound xs in
        (b.0 + d.0, both b.0 d.0 b.1 d.1)
      where
        both : (n k : ℕ) → ((q : Answers) → LeavesNext n (length q) (all_calls file program 1 x.calls q)) →
            ((t : ℕ) (q : Answers) → LeavesNext k (length q) (all_calls file program 1 (calls_in (slice_get xs t)) q)) →
            (t : ℕ) (q : Answers) →
            LeavesNext (n + k) (length q) (all_calls file program 1 (calls_in (slice_get (x ∷ xs) t)) q)
        both n k first others zero q = next_more n (n + k) (length q) (length q) _ (λ less. omega arith) (first q)
        both n k first others (suc t) q = next_more k (n + k) (length q) (length q) _ (λ less. omega arith) (others t q)

    -- a bound for all threads
    pub next_bound : (n : ℕ) × ((t : ℕ) (q : Answers) → LeavesNext n (length q) (next file program t q))
    next_bound = threads_bound program.threads
