-- What the work of a thread means commutes with renamings of references.
use Rattle.std.proofs.Common.{◌≡◌, ℕ, zero, suc, ◌+◌, ◌-◌, neg_ℤ, Bool, true, false, not, cond, List, [], ◌∷◌, ◌++◌}
use Rattle.std.proofs.Common.{map}
use Rattle.std.proofs.Common.{Option, slice_get, refl, sym, ap, ◌∙◌}
use Rattle.std.specs.Prelude.{pos, int_lt, nat_eq}
use Rattle.std.proofs.lemmas.List.{map-append, map-set}
use Rattle.ls_events.specs.declared.value.Value.{Value}
use Rattle.ls_events.specs.declared.value.Value.TheVariants as values
use Rattle.ls_events.specs.declared.value.ValueType.TheVariants as types
use Rattle.ls_events.specs.declared.action.Action.TheVariants.{ReadField, WriteField, ReadItem, WriteItem, ReadName}
use Rattle.ls_events.specs.declared.action.Action.TheVariants.{WriteName, New, NewMarkable, NewArray}
use Rattle.ls_checked.specs.declared.tree.Operator.TheVariants.{Add}
use Rattle.ls_checked.specs.CheckedTree.{File, Expression, Expressions, Statement, While}
use Rattle.ls_checked.specs.CheckedProgram.{Program, ProgramCall}
use Rattle.ls_meaning.specs.declared.completion.Completion.{Completion}
use Rattle.ls_meaning.specs.declared.completion.Completion.TheVariants.{Normal, Broke, Continued, Returned, Threw}
use Rattle.ls_meaning.specs.declared.sort.Sort.TheVariants.{NoValue, ValueOf, NewOf}
use Rattle.ls_meaning.specs.Values.{int_of, truth_of, reference_of, mark_of, nothing, wrapped}
use Rattle.ls_meaning.specs.Course.{Answers, Evaluated, Asks as EAsks, Results, Throws, on_object}
use Rattle.ls_meaning.specs.Constants.{CallsHaveConstants, FileHasConstants, HasConstants, HaveConstants, UsesConstants}
use Rattle.ls_meaning.specs.Expressions.{constructor_of, evaluate, field_of, operate}
use Rattle.ls_meaning.specs.Statements.{Executed, AsksFor, Completes, after_body, execute}
use Rattle.ls_meaning.specs.Methods.{invoke, leave, depth_limit}
use Rattle.ls_meaning.specs.Threads.{Next, named, result_of, all_calls}
use Rattle.ls_meaning.specs.Renamings.{IsRenaming, renamed, renamed_answers, renamed_next, renamed_result}
use Rattle.ls_source_pending.specs.Pending.{Purpose, ToCall, ToMake, ToMark, Operand, InField, InItem, InIndex}
use Rattle.ls_source_pending.specs.Pending.{InNegate, InNot, InLength, InLeft, InRight, InAnd, InOr, InTarget}
use Rattle.ls_source_pending.specs.Pending.{InArgument, InMade, InConstructor, InReference, InMark, InBoth, InWritten}
use Rattle.ls_source_pending.specs.Pending.{Waiting, ToSlot, ToTarget, ToField, ToCounter, ToAddend, ToSum, ToArray}
use Rattle.ls_source_pending.specs.Pending.{ToIndex, ToItem, ToNothing, ToIf, ToTest, ToReturn, Ending, OfSequence}
use Rattle.ls_source_pending.specs.Pending.{OfBody, OfTry, OfFinally, Frame, In, On, Up, Leaves, Control, Evaluates}
use Rattle.ls_source_pending.specs.Pending.{Argues, Invokes, Opens, Executes, Loops, Gives, Ends, Asks}
use Rattle.ls_source_pending.specs.Pending.{Enters, Turns}
use Rattle.ls_source_pending.specs.Meaning.{PartResult, OfValue, OfEnd, Rest, applied, argued, around, closed, done_now}
use Rattle.ls_source_pending.specs.Meaning.{evaluated, executed, filled, gone_on, rest_of}
use Rattle.ls_source.specs.Calls.{Bottom, OfMaking, OfCalling, Phase, Starts, Announces, Makes, Fetches, Works, Names}
use Rattle.ls_source.specs.Calls.{ReturnsWith, TrapsWith, IsTrapped, Thread, after_work, naming, phase_meaning}
use Rattle.ls_source.specs.Calls.{then_calls}
use Rattle.ls_works.specs.Frames.{renamed_thread}
use Rattle.ls_works.specs.Frames.{ControlHasConstants, EndingHasConstants, FrameHasConstants}
use Rattle.ls_works.specs.Frames.{FramesHaveConstants, OperandHasConstants, PhaseHasConstants, ThreadsRename}
use Rattle.ls_works.specs.Frames.{WaitingHasConstants, renamed_bottom, renamed_completion, renamed_control}
use Rattle.ls_works.specs.Frames.{renamed_ending, renamed_frame, renamed_operand, renamed_phase}
use Rattle.ls_works.specs.Frames.{renamed_purpose, renamed_waiting}
use Rattle.ls_works.proofs.CopiedExpressions.{other, others, all_renamed, Renames, CallsRename, reference_other}
use Rattle.ls_works.proofs.CopiedExpressions.{truth_other, int_other, mark_other, nothing_other, results_other}
use Rattle.ls_works.proofs.CopiedExpressions.{ask_other, tell_other, then_other, if_other, null_other}
use Rattle.ls_works.proofs.CopiedExpressions.{on_object_other, operate_other, pairs_other, call_other}
use Rattle.ls_works.proofs.CopiedExpressions.{evaluate_other, arguments_other}
use Rattle.ls_works.proofs.CopiedStatements.{completion_other, done_other, normal_other, then_do_other}
use Rattle.ls_works.proofs.CopiedStatements.{finally_other, body_bind, if_done, execute_other, all_other}
use Rattle.ls_works.proofs.CopiedThreads.{invoke_other, body_other, leave_other, after_bind, calls_other}
use Rattle.ls_works.proofs.CopiedThreads.{result_other, call_other as one_call_other}

module _ (file : File) (constants : FileHasConstants file) (names : ℕ → ℕ) (is : IsRenaming names) where
  abbrev ns : List Value → List Value
  ns vs = all_renamed names is vs

  abbrev qs : Answers → Answers
  qs q = other names is q

  abbrev R : Value → Value
  R v = renamed names v

  abbrev Same : Evaluated Value → Evaluated Value → Type 0
  Same x x' = Renames names is R x x'

  abbrev outcome_other : PartResult → PartResult
  outcome_other (OfValue v) = OfValue (R v)
  outcome_other (OfEnd c) = OfEnd (renamed_completion names c)

  abbrev RestRenames : Rest → Rest → Type 0
  RestRenames k k' = (d : ℕ) (ls : List Value) (o : PartResult) (q : Answers) →
      k' d (ns ls) (outcome_other o) (qs q) ≡ renamed_next names (k d ls o q)

  completion_same : (c : Completion Value) → completion_other names is c ≡ renamed_completion names c
  completion_same Normal = refl
  completion_same (Broke n) = refl
  completion_same (Continued n) = refl
  completion_same (Returned v) = refl
  completion_same (Threw kind) = refl

  calls : (d : ℕ) → CallsRename names is (invoke file d)
  calls d = invoke_other names is file constants d

  module _ (k k' : Rest) (h : RestRenames k k') where
    evaluated_bind : (d : ℕ) (ls : List Value) (x : Evaluated Value) →
        evaluated k' d (ns ls) (others names is R x) ≡ renamed_next names (evaluated k d ls x)
    evaluated_bind d ls (EAsks action sort) = refl
    evaluated_bind d ls (Results v q) = h d ls (OfValue v) q
    evaluated_bind d ls (Throws kind q) = h d ls (OfEnd (Threw kind)) q

    evaluated_other : (d : ℕ) (ls : List Value) (x x' : Evaluated Value) →
        Same x x' →
        evaluated k' d (ns ls) x' ≡ renamed_next names (evaluated k d ls x)
    evaluated_other d ls x x' e = ap (evaluated k' d (ns ls)) e ∙ evaluated_bind d ls x

    executed_bind : (d : ℕ) (x : Executed) →
        executed k' d (done_other names is x) ≡ renamed_next names (executed k d x)
    executed_bind d (AsksFor action sort) = refl
    executed_bind d (Completes c ls q) = ap (λ z. k' d (ns ls) (OfEnd z) (qs q)) (completion_same c) ∙
        h d ls (OfEnd c) q

    executed_other : (d : ℕ) (x x' : Executed) →
        x' ≡ done_other names is x →
        executed k' d x' ≡ renamed_next names (executed k d x)
    executed_other d x x' e = ap (executed k' d) e ∙ executed_bind d x

  -- ---- expressions

  applied_other : (d : ℕ) (p : Purpose) (vs : List Value) (q : Answers) →
      Same (applied file d p vs q) (applied file d (renamed_purpose names p) (ns vs) (qs q))
  applied_other d (ToCall m o) vs q =
      null_other names is R (reference_of o) (reference_of (R o)) q _ _ (reference_other names is o)
      (call_other names is (invoke file d) (calls d) m o vs q)
  applied_other d (ToMake c o) vs q =
      then_other names is R R _ _ _ _ (calls d (constructor_of file.classes c) (o ∷ vs) q) (λ v rest. refl)
  applied_other d (ToMark c) vs q = ask_other names is _ _ (NewOf (types.Markable c)) q
      (ap NewMarkable (pairs_other names is vs 0 1))

  argued_other : (d : ℕ) (ls : List Value) (p : Purpose) (before : List Value) (es : Expressions) (q : Answers) →
      HaveConstants es →
      Same (argued file d ls p before es q) (argued file d (ns ls) (renamed_purpose names p) (ns before) es (qs q))
  argued_other d ls p before es q c =
      then_other names is ns R _ _ _ _ (arguments_other names is file.classes (invoke file d) (calls d) es c ls q)
      (λ vs rest.
      ap (λ l. applied file d (renamed_purpose names p) l (qs rest)) (sym (map-append R before vs))
      ∙ applied_other d p (before ++ vs) rest)

  eval : (d : ℕ) (e : Expression) → HasConstants e → (ls : List Value) (q : Answers) →
      Same (evaluate file.classes (invoke file d) e ls q) (evaluate file.classes (invoke file d) e (ns ls) (qs q))
  eval d e c ls q = evaluate_other names is file.classes (invoke file d) (calls d) e c ls q

  filled_other : (d : ℕ) (ls : List Value) (f : Operand) (v : Value) (q : Answers) →
      OperandHasConstants f →
      Same (filled file d ls f v q) (filled file d (ns ls) (renamed_operand names f) (R v) (qs q))
  filled_other d ls (InField c f) v q h =
      on_object_other names is v _ _ (field_of file.classes c f) q
      (ap (λ n. ReadField n f) (reference_other names is v))
  filled_other d ls (InItem i) v q h =
      then_other names is R R _ _ _ _ (eval d i h ls q) (λ n rest.
      on_object_other names is v _ _ (ValueOf types.Boolean) rest
      (ap (λ r. ReadItem r (int_of (R n))) (reference_other names is v)
      ∙ ap (ReadItem (names (reference_of v))) (int_other names is n)))
  filled_other d ls (InIndex o) v q h =
      on_object_other names is o _ _ (ValueOf types.Boolean) q
      (ap (λ r. ReadItem r (int_of (R v))) (reference_other names is o)
      ∙ ap (ReadItem (names (reference_of o))) (int_other names is v))
  filled_other d ls InNegate v q h = results_other names is R (wrapped (neg_ℤ (int_of v))) _ q
      (ap (λ z. wrapped (neg_ℤ z)) (int_other names is v))
  filled_other d ls InNot v q h = results_other names is R (values.Boolean (not (truth_of v))) _ q
      (ap (λ b. values.Boolean (not b)) (truth_other names is v))
  filled_other d ls InLength v q h =
      if_other names is R _ _ _ _ _ _ (ap (λ z. int_lt z (pos 0)) (int_other names is v)) refl
      (ask_other names is _ _ (NewOf types.BooleanArray) q (ap NewArray (int_other names is v)))
  filled_other d ls (InLeft op b) v q h =
      then_other names is R R _ _ _ _ (eval d b h ls q) (λ y rest. operate_other names is op v y rest)
  filled_other d ls (InRight op x) v q h = operate_other names is op x v q
  filled_other d ls (InAnd b) v q h = if_other names is R _ _ _ _ _ _ (truth_other names is v) (eval d b h ls q) refl
  filled_other d ls (InOr b) v q h = if_other names is R _ _ _ _ _ _ (truth_other names is v) refl (eval d b h ls q)
  filled_other d ls (InTarget m es) v q h = argued_other d ls (ToCall m v) [] es q h
  filled_other d ls (InArgument p before es) v q h =
      ap (λ l. argued file d (ns ls) (renamed_purpose names p) l es (qs q)) (sym (map-append R before (v ∷ [])))
      ∙ argued_other d ls p (before ++ v ∷ []) es q h
  filled_other d ls (InMade c es) v q h = argued_other d ls (ToMake c v) [] es q h
  filled_other d ls (InConstructor o) v q h = refl
  filled_other d ls InReference v q h = results_other names is R (values.Reference (reference_of v)) _ q
      (ap values.Reference (reference_other names is v))
  filled_other d ls InMark v q h = results_other names is R (values.Boolean (mark_of v)) _ q
      (ap values.Boolean (mark_other names is v))
  filled_other d ls (InBoth a) v q h =
      null_other names is R a (names a) q _ _ refl (
      then_other names is R R _ _ _ _
      (ask_other names is _ _ NoValue q (ap (λ b. WriteItem (names a) (pos 0) (values.Boolean b))
      (mark_other names is v)))
      (λ w rest. results_other names is R (values.Reference (reference_of v)) _ rest
      (ap values.Reference (reference_other names is v))))
  filled_other d ls (InWritten p) v q h = results_other names is R (values.Reference (reference_of p)) _ q
      (ap values.Reference (reference_other names is p))

  -- ---- statements

  written_field : (o w : Value) (f : ℕ) (q : Answers) →
      Same (on_object o (WriteField (reference_of o) f w) NoValue q)
      (on_object (R o) (WriteField (reference_of (R o)) f (R w)) NoValue (qs q))
  written_field o w f q = on_object_other names is o _ _ NoValue q
      (ap (λ n. WriteField n f (R w)) (reference_other names is o))

  written_item : (o n w : Value) (q : Answers) →
      Same (on_object o (WriteItem (reference_of o) (int_of n) w) NoValue q)
      (on_object (R o) (WriteItem (reference_of (R o)) (int_of (R n)) (R w)) NoValue (qs q))
  written_item o n w q =
      on_object_other names is o _ _ NoValue q
      (ap (λ r. WriteItem r (int_of (R n)) (R w)) (reference_other names is o)
      ∙ ap (λ z. WriteItem (names (reference_of o)) z (R w)) (int_other names is n))

  run : (d : ℕ) (s : Statement) → UsesConstants s → (ls : List Value) (q : Answers) →
      execute file.classes (invoke file d) s (ns ls) (qs q) ≡ done_other names is
      (execute file.classes (invoke file d) s ls q)
  run d s c ls q = execute_other names is file.classes (invoke file d) (calls d) s c ls q

  gone_on_other : (d : ℕ) (ls : List Value) (f : Waiting) (v : Value) (q : Answers) →
      WaitingHasConstants f →
      gone_on file d (ns ls) (renamed_waiting names f) (R v) (qs q) ≡ done_other names is (gone_on file d ls f v q)
  gone_on_other d ls (ToSlot n) v q h = ap (λ l. Completes Normal l (qs q)) (sym (map-set R ls n v))
  gone_on_other d ls (ToTarget f e) v q h =
      normal_other names is _ _ ls (then_other names is R R _ _ _ _ (eval d e h ls q)
      (λ w rest. written_field v w f rest))
  gone_on_other d ls (ToField o f) v q h = normal_other names is _ _ ls (written_field o v f q)
  gone_on_other d ls (ToCounter f e) v q h =
      normal_other names is _ _ ls (
      then_other names is R R _ _ _ _
      (on_object_other names is v _ _ (ValueOf types.Int) q (ap (λ n. ReadField n f) (reference_other names is v)))
      (λ x rest. then_other names is R R _ _ _ _ (eval d e h ls rest)
      (λ y rest. then_other names is R R (operate Add x y rest) _ _
      (λ w. on_object (R v) (WriteField (reference_of (R v)) f w) NoValue) (operate_other names is Add x y rest)
      (λ w rest. written_field v w f rest))))
  gone_on_other d ls (ToAddend o f e) v q h =
      normal_other names is _ _ ls (
      then_other names is R R _ _ _ _ (eval d e h ls q)
      (λ y rest. then_other names is R R (operate Add v y rest) _ _
      (λ w. on_object (R o) (WriteField (reference_of (R o)) f w) NoValue) (operate_other names is Add v y rest)
      (λ w rest. written_field o w f rest)))
  gone_on_other d ls (ToSum o f x) v q h =
      normal_other names is _ _ ls (
      then_other names is R R (operate Add x v q) _ _
      (λ w. on_object (R o) (WriteField (reference_of (R o)) f w) NoValue) (operate_other names is Add x v q)
      (λ w rest. written_field o w f rest))
  gone_on_other d ls (ToArray i e) v q h =
      normal_other names is _ _ ls (
      then_other names is R R _ _ _ _ (eval d i h.0 ls q)
      (λ n rest. then_other names is R R _ _ _ _ (eval d e h.1 ls rest) (λ w rest. written_item v n w rest)))
  gone_on_other d ls (ToIndex o e) v q h =
      normal_other names is _ _ ls (
      then_other names is R R _ _ _ _ (eval d e h ls q) (λ w rest. written_item o v w rest))
  gone_on_other d ls (ToItem o n) v q h = normal_other names is _ _ ls (written_item o n v q)
  gone_on_other d ls ToNothing v q h = refl
  gone_on_other d ls (ToIf a b) v q h =
      if_done names is _ _ _ _ _ _ (truth_other names is v) (run d a h.0 ls q) (run d b h.1 ls q)
  gone_on_other d ls (ToTest e s) v q h =
      if_done names is _ _ _ _ _ _ (truth_other names is v)
      (ap (λ x. after_body x (execute file.classes (invoke file d) (While e s))) (run d s h.1 ls q)
      ∙ body_bind names is (execute file.classes (invoke file d) s ls q) _ _ (run d (While e s) h)) refl
  gone_on_other d ls ToReturn v q h = refl

  closed_other : (d : ℕ) (f : Ending) (x x' : Executed) →
      EndingHasConstants f →
      x' ≡ done_other names is x →
      closed file d (renamed_ending names f) x' ≡ done_other names is (closed file d f x)
  closed_other d (OfSequence ss) x x' h e =
      then_do_other names is x x' _ _ e (all_other names is file.classes (invoke file d) (calls d) ss h)
  closed_other d (OfBody c s) x x' h e =
      ap (λ y. after_body y (execute file.classes (invoke file d) (While c s))) e
      ∙ body_bind names is x _ _ (run d (While c s) h)
  closed_other d (OfTry f) x x' h e = finally_other names is x x' _ _ e (run d f h)
  closed_other d (OfFinally reason) x x' h e =
      then_do_other names is x x' _ _ e (λ ls rest. ap (λ c. Completes c (ns ls) (qs rest))
      (sym (completion_same reason)))

  -- ---- frames

  ends_as : (c : Completion Value) (ls : List Value) (q : Answers) →
      Completes (renamed_completion names c) (ns ls) (qs q) ≡ done_other names is (Completes c ls q)
  ends_as c ls q = ap (λ z. Completes z (ns ls) (qs q)) (sym (completion_same c))

  around_other : (f : Frame) → FrameHasConstants f → (k k' : Rest) → RestRenames k k' →
      RestRenames (around file f k) (around file (renamed_frame names f) k')
  around_other (In f) c k k' h d ls (OfValue v) q = evaluated_other k k' h d ls _ _ (filled_other d ls f v q c)
  around_other (In f) c k k' h d ls (OfEnd e) q = h d ls (OfEnd e) q
  around_other (On f) c k k' h d ls (OfValue v) q = executed_other k k' h d _ _ (gone_on_other d ls f v q c)
  around_other (On f) c k k' h d ls (OfEnd e) q = h d ls (OfEnd e) q
  around_other (Up f) c k k' h d ls (OfValue v) q = h d ls (OfValue v) q
  around_other (Up f) c k k' h d ls (OfEnd e) q =
      executed_other k k' h d _ _ (closed_other d f (Completes e ls q) _ c (ends_as e ls q))
  around_other (Leaves result saved outer) c k k' h d ls (OfValue v) q = h d ls (OfValue v) q
  around_other (Leaves result saved outer) c k k' h d ls (OfEnd e) q =
      evaluated_other k k' h outer saved _ _
      (ap (leave result) (ends_as e ls q) ∙ leave_other names is result (Completes e ls q))

  rest_other : (fs : List Frame) → FramesHaveConstants fs → (k k' : Rest) → RestRenames k k' →
      RestRenames (rest_of file k fs) (rest_of file k' (map (renamed_frame names) fs))
  rest_other [] c k k' h = h
  rest_other (f ∷ fs) c k k' h =
      around_other f c.0 (rest_of file k fs) (rest_of file k' (map (renamed_frame names) fs)) (rest_other fs c.1 k k' h)

  next_cond : (b : Bool) (x x' y y' : Next) →
      x' ≡ renamed_next names x →
      y' ≡ renamed_next names y →
      cond b x' y' ≡ renamed_next names (cond b x y)
  next_cond true x x' y y' e f = e
  next_cond false x x' y y' e f = f

  opens_other : (k k' : Rest) → RestRenames k k' → (m : ℕ) (vs : List Value) (d : ℕ) (ls : List Value) (q : Answers) →
      done_now file k' (Opens m (ns vs)) d (ns ls) (qs q) ≡ renamed_next names (done_now file k (Opens m vs) d ls q)
  opens_other k k' h m vs d ls q =
      next_cond (nat_eq d 0) _ _ _ _
      (ap (λ v. k' d (ns ls) (OfValue v) (qs q)) (sym (nothing_other names is)) ∙ h d ls (OfValue nothing) q)
      (evaluated_other k k' h d ls _ _
      (body_other names is file constants (invoke file (d - 1)) (calls (d - 1)) (slice_get file.methods m) m refl vs q))

  done_now_other : (k k' : Rest) → RestRenames k k' → (c : Control) → ControlHasConstants c →
      (d : ℕ) (ls : List Value) (q : Answers) →
      done_now file k' (renamed_control names c) d (ns ls) (qs q) ≡ renamed_next names (done_now file k c d ls q)
  done_now_other k k' h (Evaluates e) c d ls q = evaluated_other k k' h d ls _ _ (eval d e c ls q)
  done_now_other k k' h (Argues p before es) c d ls q = evaluated_other k k' h d ls _ _
      (argued_other d ls p before es q c)
  done_now_other k k' h (Invokes m vs) c d ls q = evaluated_other k k' h d ls _ _ (calls d m vs q)
  done_now_other k k' h (Opens m vs) c d ls q = opens_other k k' h m vs d ls q
  done_now_other k k' h (Executes s) c d ls q = executed_other k k' h d _ _ (run d s c ls q)
  done_now_other k k' h (Loops e s) c d ls q = executed_other k k' h d _ _ (run d (While e s) c ls q)
  done_now_other k k' h (Gives v) c d ls q = h d ls (OfValue v) q
  done_now_other k k' h (Ends e) c d ls q = h d ls (OfEnd e) q
  done_now_other k k' h (Asks action sort) c d ls q =
      evaluated_other k k' h d ls _ _ (ask_other names is action _ sort q refl)
  done_now_other k k' h (Enters m vs) c d ls [] = refl
  done_now_other k k' h (Enters m vs) c d ls (a ∷ q) = opens_other k k' h m vs d ls q
  done_now_other k k' h (Turns e s) c d ls [] = refl
  done_now_other k k' h (Turns e s) c d ls (a ∷ q) = executed_other k k' h d _ _ (run d (While e s) c ls q)

  -- ---- threads

  module _ (program : Program) (n : ℕ) (cs : List ProgramCall) (left : CallsHaveConstants cs) where
    then_calls_other : (x x' : Evaluated (Option Value)) →
        Renames names is (renamed_result names) x x' →
        then_calls file program n cs x' ≡ renamed_next names (then_calls file program n cs x)
    then_calls_other x x' e =
        ap (then_calls file program n cs) e
        ∙ after_bind names is file constants n x (all_calls file program (n + 1) cs)
        (calls_other names is file constants program (n + 1) cs left)

    naming_other : (name : ℕ) (o : Value) (q : Answers) →
        Renames names is (renamed_result names) (naming name o q) (naming name (R o) (qs q))
    naming_other name o q =
        then_other names is R (renamed_result names) _ _ _ _
        (tell_other names is (WriteName name o) (WriteName name (R o)) q refl) (λ w rest. refl)

    after_work_other : (b : Bottom) →
        RestRenames (after_work file program n cs b) (after_work file program n cs (renamed_bottom names b))
    after_work_other (OfMaking name o) d ls (OfValue v) q = then_calls_other _ _ (naming_other name o q)
    after_work_other (OfCalling m) d ls (OfValue v) q =
        then_calls_other (Results (result_of file m v) q) _ (ap (λ r. Results r (qs q))
        (result_other names is file constants (slice_get file.methods m) v))
    after_work_other (OfMaking name o) d ls (OfEnd Normal) q = refl
    after_work_other (OfMaking name o) d ls (OfEnd (Broke m)) q = refl
    after_work_other (OfMaking name o) d ls (OfEnd (Continued m)) q = refl
    after_work_other (OfMaking name o) d ls (OfEnd (Returned v)) q = refl
    after_work_other (OfMaking name o) d ls (OfEnd (Threw kind)) q = then_calls_other (Throws kind q) _ refl
    after_work_other (OfCalling m) d ls (OfEnd Normal) q = refl
    after_work_other (OfCalling m) d ls (OfEnd (Broke j)) q = refl
    after_work_other (OfCalling m) d ls (OfEnd (Continued j)) q = refl
    after_work_other (OfCalling m) d ls (OfEnd (Returned v)) q = refl
    after_work_other (OfCalling m) d ls (OfEnd (Threw kind)) q = then_calls_other (Throws kind q) _ refl

    phase_other : (p : Phase) → PhaseHasConstants p → (q : Answers) →
        phase_meaning file program n cs (renamed_phase names p) (qs q) ≡ renamed_next names
        (phase_meaning file program n cs p q)
    phase_other Starts c q = calls_other names is file constants program (n + 1) cs left q
    phase_other (Announces a) c q = then_calls_other _ _ (one_call_other names is file constants program n a c q)
    phase_other (Makes name class vs) c q =
        then_calls_other _ _ (
        then_other names is R (renamed_result names) _ _ _ _
        (ask_other names is (New class) (New class) (NewOf (types.Class class)) q refl) (λ o rest.
        then_other names is R (renamed_result names) _ _ _ _
        (calls depth_limit (constructor_of file.classes class) (o ∷ vs) rest) (λ v rest. naming_other name o rest)))
    phase_other (Fetches name m vs) c q =
        then_calls_other _ _ (
        then_other names is R (renamed_result names) _ _ _ _
        (ask_other names is (ReadName name) (ReadName name) (named program name) q refl) (λ o rest.
        null_other names is (renamed_result names) (reference_of o) (reference_of (R o)) rest _ _
        (reference_other names is o) (
        then_other names is R (renamed_result names) _ _ _ _ (calls depth_limit m (o ∷ vs) rest)
        (λ v rest. ap (λ r. Results r (qs rest)) (result_other names is file constants (slice_get file.methods m) v)))))
    phase_other (Works b work) c q =
        done_now_other (rest_of file (after_work file program n cs b) work.frames)
        (rest_of file (after_work file program n cs (renamed_bottom names b)) (map (renamed_frame names) work.frames))
        (rest_other work.frames c.1 (after_work file program n cs b)
        (after_work file program n cs (renamed_bottom names b)) (after_work_other b)) work.control c.0 work.depth
        work.locals q
    phase_other (Names name o) c q = then_calls_other _ _ (naming_other name o q)
    phase_other (ReturnsWith v) c q = then_calls_other (Results v q) _ refl
    phase_other (TrapsWith kind) c q = then_calls_other (Throws kind q) _ refl
    phase_other IsTrapped c q = refl

pub threads_rename : ThreadsRename
threads_rename file program constants names is t c q =
    phase_other file constants names is program t.number t.left c.0 t.phase c.1 q
