-- A copy of RenamesStatements of ls_meaning, with each lemma pub. In the project those would be pub there.
-- Courses commute with renamings of references: statements.
use Rattle.std.proofs.Common.{◌≡◌, ℕ, zero, suc, Bool, true, false, cond, List, length, refl, sym, ap, ◌∙◌}
use Rattle.std.proofs.lemmas.List.{map-set, length-map}
use Rattle.ls_events.specs.declared.value.Value.{Value}
use Rattle.ls_events.specs.declared.action.Action.TheVariants.{ReadField, WriteField, WriteItem, Turn}
use Rattle.ls_events.specs.declared.value.ValueType.TheVariants as types
use Rattle.ls_checked.specs.declared.tree.Operator.TheVariants.{Add}
use Rattle.ls_checked.specs.CheckedTree.{Class, Statement, Block, SetSlot, SetField, AddField, SetItem, Evaluate, If}
use Rattle.ls_checked.specs.CheckedTree.{While, Break, Continue, ReturnNothing, ReturnValue, Try, Statements, Done}
use Rattle.ls_checked.specs.CheckedTree.{Then}
use Rattle.ls_meaning.specs.declared.completion.Completion.{Completion}
use Rattle.ls_meaning.specs.declared.completion.Completion.TheVariants.{Normal, Broke, Continued, Returned, Threw}
use Rattle.ls_meaning.specs.declared.sort.Sort.TheVariants.{NoValue, ValueOf}
use Rattle.ls_meaning.specs.Values.{int_of, reference_of, truth_of}
use Rattle.ls_meaning.specs.Course.{Answers, Evaluated, Asks, Results, Throws, tell, on_object}
use Rattle.ls_meaning.specs.Expressions.{Calls, operate, evaluate}
use Rattle.ls_meaning.specs.Statements.{Executed, AsksFor, Completes, on_value, and_normal, then_do, finally_do}
use Rattle.ls_meaning.specs.Statements.{turn_back, after_body, one_turn, turns, execute, execute_all}
use Rattle.ls_meaning.specs.Renamings.{IsRenaming, renamed, renamed_result, renamed_action}
use Rattle.ls_meaning.specs.Constants.{UsesConstants, UseConstants}
use Rattle.ls_works.proofs.CopiedExpressions.{other, others, all_renamed, Renames, CallsRename, reference_other}
use Rattle.ls_works.proofs.CopiedExpressions.{truth_other}
use Rattle.ls_works.proofs.CopiedExpressions.{int_other, tell_other, then_other, on_object_other, operate_other}
use Rattle.ls_works.proofs.CopiedExpressions.{evaluate_other}

module _ (names : ℕ → ℕ) (is : IsRenaming names) where
  abbrev pub completion_other : Completion Value → Completion Value
  completion_other Normal = Normal
  completion_other (Broke n) = Broke n
  completion_other (Continued n) = Continued n
  completion_other (Returned v) = Returned (renamed_result names v)
  completion_other (Threw kind) = Threw kind

  -- an execution with other names
  abbrev pub done_other : Executed → Executed
  done_other (AsksFor action sort) = AsksFor (renamed_action names action) sort
  done_other (Completes completion ls rest) = Completes (completion_other completion) (all_renamed names is ls)
      (other names is rest)

  abbrev pub Goes : Type 0
  Goes = List Value → Answers → Executed

  abbrev pub GoesRename : Goes → Goes → Type 0
  GoesRename go go' = (ls : List Value) (rest : Answers) → go' (all_renamed names is ls) (other names is rest) ≡
      done_other (go ls rest)

  abbrev pub EvaluatesRename : (List Value → Answers → Evaluated Value) → Type 0
  EvaluatesRename condition = (ls : List Value) (rest : Answers) →
      Renames names is (renamed names) (condition ls rest) (condition (all_renamed names is ls) (other names is rest))

  pub value_bind : (x : Evaluated Value) (ls : List Value) (go go' : Value → Answers → Executed) →
      ((v : Value) (rest : Answers) → go' (renamed names v) (other names is rest) ≡ done_other (go v rest)) →
      on_value (others names is (renamed names) x) (all_renamed names is ls) go' ≡ done_other (on_value x ls go)
  value_bind (Asks action sort) ls go go' h = refl
  value_bind (Results v rest) ls go go' h = h v rest
  value_bind (Throws kind rest) ls go go' h = refl

  pub value_other : (x x' : Evaluated Value) (ls : List Value) (go go' : Value → Answers → Executed) →
      Renames names is (renamed names) x x' →
      ((v : Value) (rest : Answers) → go' (renamed names v) (other names is rest) ≡ done_other (go v rest)) →
      on_value x' (all_renamed names is ls) go' ≡ done_other (on_value x ls go)
  value_other x x' ls go go' e h = ap (λ y. on_value y (all_renamed names is ls) go') e ∙ value_bind x ls go go' h

  pub normal_other : (x x' : Evaluated Value) (ls : List Value) →
      Renames names is (renamed names) x x' →
      and_normal x' (all_renamed names is ls) ≡ done_other (and_normal x ls)
  normal_other x x' ls e = value_other x x' ls _ _ e (λ v rest. refl)

  pub then_bind : (x : Executed) (go go' : Goes) →
      GoesRename go go' →
      then_do (done_other x) go' ≡ done_other (then_do x go)
  then_bind (AsksFor action sort) go go' h = refl
  then_bind (Completes Normal ls rest) go go' h = h ls rest
  then_bind (Completes (Broke n) ls rest) go go' h = refl
  then_bind (Completes (Continued n) ls rest) go go' h = refl
  then_bind (Completes (Returned v) ls rest) go go' h = refl
  then_bind (Completes (Threw kind) ls rest) go go' h = refl

  pub then_do_other : (x x' : Executed) (go go' : Goes) →
      x' ≡ done_other x →
      GoesRename go go' →
      then_do x' go' ≡ done_other (then_do x go)
  then_do_other x x' go go' e h = ap (λ y. then_do y go') e ∙ then_bind x go go' h

  pub finish_bind : (x : Executed) (go go' : Goes) →
      GoesRename go go' →
      finally_do (done_other x) go' ≡ done_other (finally_do x go)
  finish_bind (AsksFor action sort) go go' h = refl
  finish_bind (Completes reason ls rest) go go' h = then_do_other (go ls rest)
      (go' (all_renamed names is ls) (other names is rest)) _ _ (h ls rest) (λ ls rest. refl)

  pub finally_other : (x x' : Executed) (go go' : Goes) →
      x' ≡ done_other x →
      GoesRename go go' →
      finally_do x' go' ≡ done_other (finally_do x go)
  finally_other x x' go go' e h = ap (λ y. finally_do y go') e ∙ finish_bind x go go' h

  pub back_other : (again again' : Goes) →
      GoesRename again again' →
      (ls : List Value) (rest : Answers) →
      turn_back again' (all_renamed names is ls) (other names is rest) ≡ done_other (turn_back again ls rest)
  back_other again again' h ls rest = value_other (tell Turn rest) (tell Turn (other names is rest)) ls _ _
      (tell_other names is Turn Turn rest refl) (λ v rest. h ls rest)

  pub body_bind : (x : Executed) (again again' : Goes) →
      GoesRename again again' →
      after_body (done_other x) again' ≡ done_other (after_body x again)
  body_bind (AsksFor action sort) again again' h = refl
  body_bind (Completes Normal ls rest) again again' h = back_other again again' h ls rest
  body_bind (Completes (Continued zero) ls rest) again again' h = back_other again again' h ls rest
  body_bind (Completes (Continued (suc n)) ls rest) again again' h = refl
  body_bind (Completes (Broke zero) ls rest) again again' h = refl
  body_bind (Completes (Broke (suc n)) ls rest) again again' h = refl
  body_bind (Completes (Returned v) ls rest) again again' h = refl
  body_bind (Completes (Threw kind) ls rest) again again' h = refl

  pub if_done : (b b' : Bool) (x x' y y' : Executed) →
      b' ≡ b →
      x' ≡ done_other x →
      y' ≡ done_other y →
      cond b' x' y' ≡ done_other (cond b x y)
  if_done true b' x x' y y' e h k = ap (λ c. cond c x' y') e ∙ h
  if_done false b' x x' y y' e h k = ap (λ c. cond c x' y') e ∙ k

  pub turn_other : (condition : List Value → Answers → Evaluated Value) (body again again' : Goes) →
      EvaluatesRename condition →
      GoesRename body body →
      GoesRename again again' →
      GoesRename (one_turn condition body again) (one_turn condition body again')
  turn_other condition body again again' c b h ls rest =
      value_other _ _ ls _ _ (c ls rest) (λ v rest.
      if_done (truth_of v) (truth_of (renamed names v)) _ _ _ _ (truth_other names is v)
      (ap (λ x. after_body x again') (b ls rest) ∙ body_bind (body ls rest) again again' h) refl)

  pub turns_other : (n : ℕ) (condition : List Value → Answers → Evaluated Value) (body : Goes) →
      EvaluatesRename condition →
      GoesRename body body →
      GoesRename (turns n condition body) (turns n condition body)
  turns_other zero condition body c b = turn_other condition body _ _ c b (λ ls rest. refl)
  turns_other (suc n) condition body c b = turn_other condition body _ _ c b (turns_other n condition body c b)

  -- one line for each form
  module _ (classes : List Class) (calls : Calls) (k : CallsRename names is calls) where
    mutual
      -- each statement whose constants name no object, with other names
      pub execute_other : (s : Statement) →
          UsesConstants s →
          GoesRename (execute classes calls s) (execute classes calls s)
      execute_other (Block ss) h ls qs = all_other ss h ls qs
      execute_other (SetSlot n e) h ls qs =
          value_other _ _ ls _ _ (evaluate_other names is classes calls k e h ls qs) (λ v rest.
          ap (λ l. Completes Normal l (other names is rest)) (sym (map-set (renamed names) ls n v)))
      execute_other (SetField e f v) h ls qs =
          normal_other _ _ ls (
          then_other names is (renamed names) (renamed names) _ _ _ _
          (evaluate_other names is classes calls k e h.0 ls qs) (λ o rest.
          then_other names is (renamed names) (renamed names) _ _ _ _
          (evaluate_other names is classes calls k v h.1 ls rest) (λ w rest.
          on_object_other names is o (WriteField (reference_of o) f w)
          (WriteField (reference_of (renamed names o)) f (renamed names w)) NoValue rest
          (ap (λ n. WriteField n f (renamed names w)) (reference_other names is o)))))
      execute_other (AddField e f v) h ls qs =
          normal_other _ _ ls (
          then_other names is (renamed names) (renamed names) _ _ _ _
          (evaluate_other names is classes calls k e h.0 ls qs) (λ o rest.
          then_other names is (renamed names) (renamed names) _ _ _ _
          (on_object_other names is o (ReadField (reference_of o) f) (ReadField (reference_of (renamed names o)) f)
          (ValueOf types.Int) rest (ap (λ n. ReadField n f) (reference_other names is o))) (λ x rest.
          then_other names is (renamed names) (renamed names) _ _ _ _
          (evaluate_other names is classes calls k v h.1 ls rest) (λ y rest.
          then_other names is (renamed names) (renamed names) (operate Add x y rest) _ _
          (λ w. on_object (renamed names o) (WriteField (reference_of (renamed names o)) f w) NoValue)
          (operate_other names is Add x y rest) (λ w rest.
          on_object_other names is o (WriteField (reference_of o) f w)
          (WriteField (reference_of (renamed names o)) f (renamed names w)) NoValue rest
          (ap (λ n. WriteField n f (renamed names w)) (reference_other names is o)))))))
      execute_other (SetItem a i v) h ls qs =
          normal_other _ _ ls (
          then_other names is (renamed names) (renamed names) _ _ _ _
          (evaluate_other names is classes calls k a h.0 ls qs) (λ o rest.
          then_other names is (renamed names) (renamed names) _ _ _ _
          (evaluate_other names is classes calls k i h.1 ls rest) (λ n rest.
          then_other names is (renamed names) (renamed names) _ _ _ _
          (evaluate_other names is classes calls k v h.2 ls rest) (λ w rest.
          on_object_other names is o (WriteItem (reference_of o) (int_of n) w)
          (WriteItem (reference_of (renamed names o)) (int_of (renamed names n)) (renamed names w)) NoValue rest
          (ap (λ r. WriteItem r (int_of (renamed names n)) (renamed names w)) (reference_other names is o) ∙
          ap (λ z. WriteItem (names (reference_of o)) z (renamed names w)) (int_other names is n))))))
      execute_other (Evaluate e) h ls qs = normal_other _ _ ls (evaluate_other names is classes calls k e h ls qs)
      execute_other (If e a b) h ls qs =
          value_other _ _ ls _ _ (evaluate_other names is classes calls k e h.0 ls qs) (λ v rest.
          if_done (truth_of v) (truth_of (renamed names v)) _ _ _ _ (truth_other names is v)
          (execute_other a h.1 ls rest) (execute_other b h.2 ls rest))
      execute_other (While e s) h ls qs =
          ap (λ n. turns n (evaluate classes calls e) (execute classes calls s) (all_renamed names is ls)
          (other names is qs)) (length-map qs _)
          ∙ turns_other (length qs) (evaluate classes calls e) (execute classes calls s)
          (evaluate_other names is classes calls k e h.0) (execute_other s h.1) ls qs
      execute_other (Break n) h ls qs = refl
      execute_other (Continue n) h ls qs = refl
      execute_other ReturnNothing h ls qs = refl
      execute_other (ReturnValue e) h ls qs = value_other _ _ ls _ _ (evaluate_other names is classes calls k e h ls qs)
          (λ v rest. refl)
      execute_other (Try b f) h ls qs = finally_other _ _ _ _ (execute_other b h.0 ls qs) (execute_other f h.1)

      pub all_other : (ss : Statements) →
          UseConstants ss →
          GoesRename (execute_all classes calls ss) (execute_all classes calls ss)
      all_other Done h ls qs = refl
      all_other (Then s ss) h ls qs = then_do_other _ _ _ _ (execute_other s h.0 ls qs) (all_other ss h.1)
