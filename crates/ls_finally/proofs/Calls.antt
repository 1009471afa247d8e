-- Trees whose calls have as many arguments as their methods don't see what calls do with other numbers of arguments.
use Rattle.std.proofs.Common.{◌≡◌, ℕ, zero, suc, List, [], ◌∷◌, length, refl, sym, ap, ap₂, subst, ◌∙◌, nat_eq}
use Rattle.std.proofs.Common.{if◌then◌else◌, pos, ◌+◌}
use Rattle.std.proofs.Math.Path.{fun_ext}
use Rattle.std.specs.Prelude.{slice_set}
use Rattle.ls_events.specs.declared.action.Action.TheVariants as act
use Rattle.ls_lowered.specs.LoweredTree.{Expression, Word, Local, Unary, Binary, And, Or, Hold, Keep, After, Field}
use Rattle.ls_lowered.specs.LoweredTree.{Item, SetFirst, ReadPair, SetPair, SwapPair, AttemptMark, OnLock, Call}
use Rattle.ls_lowered.specs.LoweredTree.{MakeObject, MakeLock, MakeMarkable, MakeArray, Expressions, End, More}
use Rattle.ls_lowered.specs.LoweredTree.{Statement, Block, SetLocal, SetField, AddField, SetItem, Evaluate, If, While}
use Rattle.ls_lowered.specs.LoweredTree.{Return, Try, Guarded, Throw, Leavable, Leave, Statements, Done, Then, File}
use Rattle.ls_lowered.specs.declared.tree.BinaryOperator.TheVariants as op
use Rattle.ls_lowered.specs.Words.{int_of, bool_of}
use Rattle.ls_lowered.specs.Course.{Answers, Course, Ends, Outcome, Results, Throws, Calls, finish, on_result, and_then}
use Rattle.ls_lowered.specs.Course.{ask, perform, unless_null, returned}
use Rattle.ls_lowered.specs.Expressions.{evaluate, evaluate_all, unary_word, operate, operate_lock, make_array}
use Rattle.ls_lowered.specs.Statements.{Completion, Normal, Returned, on_word, on_normal, on_any, on_leave, turns}
use Rattle.ls_lowered.specs.Statements.{and_normal, execute, execute_all, leave_to}
use Rattle.ls_finally.specs.Placed.{count, Takes, CallsWell, AllCallWell, IsPlacedStatement, ArePlaced}
use Rattle.ls_finally.proofs.Agreeing.{finish_finish}

abbrev Finds : Type 0
Finds = List ℕ → Answers → Course (Outcome ℕ)

abbrev FindsAll : Type 0
FindsAll = List ℕ → Answers → Course (Outcome (List ℕ))

abbrev Runs : Type 0
Runs = List ℕ → Answers → Course Completion

-- arguments are as many as their expressions
module _ (calls : Calls) {A : Type 0} where
  counted : (es : Expressions) (go go' : List ℕ → List ℕ → Answers → Course (Outcome A)) →
      ((ws ls : List ℕ) (q : Answers) → length ws ≡ count es → go' ws ls q ≡ go ws ls q) →
      (ls : List ℕ) (q : Answers) →
      and_then (evaluate_all calls es ls q) go' ≡ and_then (evaluate_all calls es ls q) go
  counted End go go' h ls q = h [] ls q refl
  counted (More e es) go go' h ls q =
      finish_finish (evaluate calls e ls q) _ (on_result go')
      ∙ ap (finish (evaluate calls e ls q))
      (fun_ext (λ o.
      fun_ext (λ ls.
      fun_ext (λ q. one (λ w ls q. counted es (λ ws ls q. go (w ∷ ws) ls q) (λ ws ls q. go' (w ∷ ws) ls q)
      (λ ws ls q e. h (w ∷ ws) ls q (ap suc e)) ls q) o ls q))))
      ∙ sym (finish_finish (evaluate calls e ls q) _ (on_result go))
    where
      one : ((w : ℕ) (ls : List ℕ) (q : Answers) → and_then (evaluate_all calls es ls q) (λ ws ls q. go' (w ∷ ws) ls q)
          ≡ and_then (evaluate_all calls es ls q) (λ ws ls q. go (w ∷ ws) ls q)) →
          (o : Outcome ℕ) (ls : List ℕ) (q : Answers) →
          finish (on_result (λ w ls q. and_then (evaluate_all calls es ls q) (λ ws ls q. Ends (Results (w ∷ ws)) ls q))
          o ls q) (on_result go') ≡ finish
          (on_result (λ w ls q. and_then (evaluate_all calls es ls q) (λ ws ls q. Ends (Results (w ∷ ws)) ls q)) o
          ls q) (on_result go)
      one again (Results w) ls q =
          finish_finish (evaluate_all calls es ls q) _ (on_result go')
          ∙ ap (finish (evaluate_all calls es ls q)) (fun_ext (λ o. fun_ext (λ ls. fun_ext (λ q. inner go' o ls q))))
          ∙ again w ls q
          ∙ ap (finish (evaluate_all calls es ls q)) (fun_ext
          (λ o. fun_ext (λ ls. fun_ext (λ q. sym (inner go o ls q)))))
          ∙ sym (finish_finish (evaluate_all calls es ls q) _ (on_result go))
        where
          inner : (g : List ℕ → List ℕ → Answers → Course (Outcome A)) (o : Outcome (List ℕ)) (ls : List ℕ)
              (q : Answers) →
              finish (on_result (λ ws ls q. Ends (Results (w ∷ ws)) ls q) o ls q) (on_result g) ≡ on_result
              (λ ws ls q. g (w ∷ ws) ls q) o ls q
          inner g (Results ws) ls q = refl
          inner g (Throws kind) ls q = refl
      one again (Throws kind) ls q = refl

module _ (ms : File) (calls calls' : Calls) (agree : (m : ℕ) (ws : List ℕ) (q : Answers) → Takes ms m (length ws) →
    calls' m ws q ≡ calls m ws q) where
  takes : (m n k : ℕ) → k ≡ n → Takes ms m n → Takes ms m k
  takes m n k e t = let P : ℕ → Type 0 = λ i. Takes ms m i in subst P (sym e) t

  mutual
    found : (e : Expression) → CallsWell ms e → evaluate calls' e ≡ evaluate calls e
    found (Word w) t = refl
    found (Local n) t = refl
    found (Unary o e) t = ap (λ (f : Finds). λ ls q. and_then (f ls q) (λ x ls q. Ends (Results (unary_word o x)) ls q))
        (found e t)
    found (Binary o a b) t = ap₂ (λ (f g : Finds). λ ls q. and_then (f ls q)
        (λ x ls q. and_then (g ls q) (λ y ls q. operate o x y ls q))) (found a t.0) (found b t.1)
    found (And a b) t = ap₂ (λ (f g : Finds). λ ls q. and_then (f ls q)
        (λ x ls q. if nat_eq x 0 then Ends (Results 0) ls q else g ls q)) (found a t.0) (found b t.1)
    found (Or a b) t = ap₂ (λ (f g : Finds). λ ls q. and_then (f ls q)
        (λ x ls q. if nat_eq x 0 then g ls q else Ends (Results 1) ls q)) (found a t.0) (found b t.1)
    found (Hold a n b) t = ap₂ (λ (f g : Finds). λ ls q. and_then (f ls q)
        (λ x ls q. and_then (g ls q) (λ y ls q. Ends (Results x) (slice_set ls n y) q))) (found a t.0) (found b t.1)
    found (Keep n a b) t = ap₂ (λ (f g : Finds). λ ls q. and_then (f ls q) (λ x ls q. g (slice_set ls n x) q))
        (found a t.0) (found b t.1)
    found (After a b) t = ap₂ (λ (f g : Finds). λ ls q. and_then (f ls q) (λ x ls q. g ls q)) (found a t.0)
        (found b t.1)
    found (Field e n) t = ap (λ (f : Finds). λ ls q. and_then (f ls q)
        (λ x ls q. unless_null x ls q (ask (act.ReadField x (n + 1)) ls q))) (found e t)
    found (Item a i) t = ap₂ (λ (f g : Finds). λ ls q. and_then (f ls q)
        (λ x ls q. and_then (g ls q) (λ n ls q. unless_null x ls q (ask (act.ReadItem x (int_of n)) ls q))))
        (found a t.0) (found i t.1)
    found (SetFirst a e) t = ap₂ (λ (f g : Finds). λ ls q. and_then (f ls q)
        (λ x ls q. and_then (g ls q) (λ y ls q. unless_null x ls q (perform (act.WriteItem x (pos 0) y) ls q))))
        (found a t.0) (found e t.1)
    found (ReadPair e) t = ap (λ (f : Finds). λ ls q. and_then (f ls q)
        (λ x ls q. unless_null x ls q (ask (act.ReadPair x) ls q))) (found e t)
    found (SetPair e a) t = ap₂ (λ (f g : Finds). λ ls q. and_then (f ls q)
        (λ x ls q. and_then (g ls q) (λ y ls q. unless_null x ls q (perform (act.SetPair x y) ls q)))) (found e t.0)
        (found a t.1)
    found (SwapPair e a b) t =
        ap₂ (λ (f g : Finds). λ ls q. and_then (f ls q) (λ x ls q.
        and_then (g ls q) (λ y ls q. and_then (evaluate calls' b ls q)
        (λ z ls q. unless_null x ls q (ask (act.SwapPair x y z) ls q))))) (found e t.0) (found a t.1)
        ∙ ap (λ (h : Finds). λ ls q. and_then (evaluate calls e ls q)
        (λ x ls q. and_then (evaluate calls a ls q) (λ y ls q.
        and_then (h ls q) (λ z ls q. unless_null x ls q (ask (act.SwapPair x y z) ls q))))) (found b t.2)
    found (AttemptMark e a b) t =
        ap₂ (λ (f g : Finds). λ ls q. and_then (f ls q) (λ x ls q.
        and_then (g ls q) (λ y ls q. and_then (evaluate calls' b ls q)
        (λ z ls q. unless_null x ls q (ask (act.AttemptMark x y (bool_of z)) ls q))))) (found e t.0) (found a t.1)
        ∙ ap (λ (h : Finds). λ ls q. and_then (evaluate calls e ls q)
        (λ x ls q. and_then (evaluate calls a ls q) (λ y ls q.
        and_then (h ls q) (λ z ls q. unless_null x ls q (ask (act.AttemptMark x y (bool_of z)) ls q)))))
        (found b t.2)
    found (OnLock o e) t = ap (λ (f : Finds). λ ls q. and_then (f ls q)
        (λ x ls q. unless_null x ls q (operate_lock o x ls q))) (found e t)
    found (Call m e es) t =
        ap₂ (λ (f : Finds) (g : FindsAll). λ ls q. and_then (f ls q)
        (λ x ls q. and_then (g ls q) (λ ws ls q. unless_null x ls q (returned ls (calls' m (x ∷ ws) q)))))
        (found e t.1) (all_found es t.2)
        ∙ ap (λ (h : ℕ → Finds). λ ls q. and_then (evaluate calls e ls q) (λ x ls q. h x ls q))
        (fun_ext (λ x. fun_ext (λ ls. fun_ext (λ q.
        counted calls es (λ ws ls q. unless_null x ls q (returned ls (calls m (x ∷ ws) q)))
        (λ ws ls q. unless_null x ls q (returned ls (calls' m (x ∷ ws) q)))
        (λ ws ls q n. ap (λ r. unless_null x ls q (returned ls r))
        (agree m (x ∷ ws) q (takes m (suc (count es)) (suc (length ws)) (ap suc n) t.0))) ls q))))
    found (MakeObject c m es) t =
        ap (λ (g : FindsAll). λ ls q. and_then (ask (act.New c) ls q)
        (λ x ls q. and_then (g ls q) (λ ws ls q. unless_null x ls q
        (and_then (returned ls (calls' m (x ∷ ws) q)) (λ w ls q. Ends (Results x) ls q))))) (all_found es t.1)
        ∙ ap (λ (h : ℕ → Finds). λ ls q. and_then (ask (act.New c) ls q) (λ x ls q. h x ls q))
        (fun_ext (λ x. fun_ext (λ ls. fun_ext (λ q.
        counted calls es
        (λ ws ls q. unless_null x ls q (and_then (returned ls (calls m (x ∷ ws) q))
        (λ w ls q. Ends (Results x) ls q))) (λ ws ls q. unless_null x ls q
        (and_then (returned ls (calls' m (x ∷ ws) q)) (λ w ls q. Ends (Results x) ls q)))
        (λ ws ls q n. ap (λ r. unless_null x ls q (and_then (returned ls r) (λ w ls q. Ends (Results x) ls q)))
        (agree m (x ∷ ws) q (takes m (suc (count es)) (suc (length ws)) (ap suc n) t.0))) ls q))))
    found MakeLock t = refl
    found (MakeMarkable e) t = ap (λ (f : Finds). λ ls q. and_then (f ls q) (λ x ls q. ask (act.NewMarkable x) ls q))
        (found e t)
    found (MakeArray e) t = ap (λ (f : Finds). λ ls q. and_then (f ls q) make_array) (found e t)

    all_found : (es : Expressions) → AllCallWell ms es → evaluate_all calls' es ≡ evaluate_all calls es
    all_found End t = refl
    all_found (More e es) t = ap₂ (λ (f : Finds) (g : FindsAll). λ ls q.
        and_then (f ls q) (λ w ls q. and_then (g ls q) (λ ws ls q. Ends (Results (w ∷ ws)) ls q))) (found e t.0)
        (all_found es t.1)

  module _ (k : ℕ) where
    mutual
      -- if calls do the same, each statement does the same
      pub runs : (s : Statement) → IsPlacedStatement ms k s → execute calls' s ≡ execute calls s
      runs (Block ss) t = all_run ss t
      runs (SetLocal n e) t = ap (λ (f : Finds). λ ls q. finish (f ls q)
          (on_word (λ w ls q. Ends Normal (slice_set ls n w) q))) (found e t.1.1)
      runs (SetField e n a) t = ap₂ (λ (f g : Finds). λ ls q.
          and_normal
          (and_then (f ls q)
          (λ x ls q. and_then (g ls q) (λ y ls q. unless_null x ls q (perform (act.WriteField x (n + 1) y) ls q)))))
          (found e t.0.1) (found a t.1.1)
      runs (AddField e n a) t = ap₂ (λ (f g : Finds). λ ls q.
          and_normal
          (and_then (f ls q) (λ x ls q. and_then (unless_null x ls q (ask (act.ReadField x (n + 1)) ls q))
          (λ y ls q. and_then (g ls q) (λ z ls q. and_then (operate op.Add y z ls q)
          (λ w ls q. unless_null x ls q (perform (act.WriteField x (n + 1) w) ls q))))))) (found e t.0.1)
          (found a t.1.1)
      runs (SetItem a i e) t =
          ap₂ (λ (f g : Finds). λ ls q. and_normal (and_then (f ls q)
          (λ x ls q. and_then (g ls q) (λ n ls q. and_then (evaluate calls' e ls q)
          (λ y ls q. unless_null x ls q (perform (act.WriteItem x (int_of n) y) ls q)))))) (found a t.0.1)
          (found i t.1.1)
          ∙ ap (λ (h : Finds). λ ls q. and_normal (and_then (evaluate calls a ls q)
          (λ x ls q. and_then (evaluate calls i ls q) (λ n ls q.
          and_then (h ls q) (λ y ls q. unless_null x ls q (perform (act.WriteItem x (int_of n) y) ls q))))))
          (found e t.2.1)
      runs (Evaluate e) t = ap (λ (f : Finds). λ ls q. and_normal (f ls q)) (found e t.1)
      runs (If e a b) t =
          ap (λ (f : Finds). λ ls q. finish (f ls q) (on_word
          (λ w ls q. if nat_eq w 0 then execute calls' b ls q else execute calls' a ls q))) (found e t.0.1)
          ∙ ap₂ (λ (f g : Runs). λ ls q. finish (evaluate calls e ls q)
          (on_word (λ w ls q. if nat_eq w 0 then g ls q else f ls q))) (runs a t.1) (runs b t.2)
      runs (While e s) t = ap₂ (λ (f : Finds) (g : Runs). λ ls q. turns (length q) f g ls q) (found e t.0.1)
          (runs s t.1)
      runs (Return e) t = ap (λ (f : Finds). λ ls q. finish (f ls q) (on_word (λ w ls q. Ends (Returned w) ls q)))
          (found e t.1)
      runs (Try a b) t = ap₂ (λ (f g : Runs). λ ls q. finish (f ls q) (on_any g)) (runs a t.0) (runs b t.1)
      runs (Guarded a n b) t = absurd t
      runs (Throw n) t = absurd t
      runs (Leavable a xs) t = ap₂ (λ (f : Runs) (g : ℕ → Runs). λ ls q. finish (f ls q) (on_leave g)) (runs a t.0)
          (fun_ext (λ n. leaves xs n t.1))
      runs (Leave n) t = refl

      all_run : (ss : Statements) → ArePlaced ms k ss → execute_all calls' ss ≡ execute_all calls ss
      all_run Done t = refl
      all_run (Then s ss) t = ap₂ (λ (f g : Runs). λ ls q. finish (f ls q) (on_normal g)) (runs s t.0) (all_run ss t.1)

      leaves : (xs : Statements) (n : ℕ) → ArePlaced ms k xs → leave_to calls' xs n ≡ leave_to calls xs n
      leaves Done zero t = refl
      leaves Done (suc n) t = refl
      leaves (Then x xs) zero t = runs x t.0
      leaves (Then x xs) (suc n) t = leaves xs n t.1
