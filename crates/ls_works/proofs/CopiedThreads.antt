-- A copy of RenamesThreads of ls_meaning, with each lemma pub. In the project those would be pub there.
-- Courses commute with renamings of references: calls and threads.
use Rattle.std.proofs.Common.{◌≡◌, ℕ, zero, suc, ◌+◌, List, [], ◌∷◌, ◌++◌, length, map, drop, Option, Some, None, refl}
use Rattle.std.proofs.Common.{sym, ap, ◌∙◌}
use Rattle.std.specs.Prelude.{slice_get}
use Rattle.std.proofs.lemmas.List.{length-map, map-append}
use Rattle.ls_events.specs.declared.value.Value.{Value}
use Rattle.ls_events.specs.declared.value.ValueType.{ValueType}
use Rattle.ls_events.specs.declared.value.ValueType.TheVariants as types
use Rattle.ls_events.specs.declared.action.Action.TheVariants.{ReadName, WriteName, New, Enter, Call}
use Rattle.ls_checked.specs.CheckedTree.{Method, File}
use Rattle.ls_checked.specs.CheckedProgram.{Program, ThreadProgram, ProgramCall, Making, Calling}
use Rattle.ls_meaning.specs.declared.completion.Completion.TheVariants.{Normal, Broke, Continued, Returned, Threw}
use Rattle.ls_meaning.specs.declared.sort.Sort.TheVariants.{NewOf}
use Rattle.ls_meaning.specs.Values.{start_of, reference_of}
use Rattle.ls_meaning.specs.Course.{Answers, Evaluated, Asks, Results, Throws}
use Rattle.ls_meaning.specs.Expressions.{Calls, constructor_of}
use Rattle.ls_meaning.specs.Statements.{Executed, AsksFor, Completes, execute}
use Rattle.ls_meaning.specs.Methods.{frame, answer_without, leave, run_body, invoke, depth_limit}
use Rattle.ls_meaning.specs.Threads.{Next, result_by, result_in, named, one_call, after_call, all_calls, calls_in, next}
use Rattle.ls_meaning.specs.Renamings.{IsRenaming, renamed, renamed_result, renamed_answers, renamed_next}
use Rattle.ls_meaning.specs.Constants.{FileHasConstants, AllConstant, CallHasConstants, CallsHaveConstants}
use Rattle.ls_meaning.specs.Constants.{ProgramHasConstants}
use Rattle.ls_works.proofs.CopiedExpressions.{other, others, all_renamed, Renames, CallsRename, reference_other}
use Rattle.ls_works.proofs.CopiedExpressions.{nothing_other}
use Rattle.ls_works.proofs.CopiedExpressions.{constant_other, ask_other, tell_other, then_other, null_other}
use Rattle.ls_works.proofs.CopiedStatements.{done_other, execute_other}

module _ (names : ℕ → ℕ) (is : IsRenaming names) where
  pub start_other : (t : ValueType) → renamed names (start_of t) ≡ start_of t
  start_other types.Int = refl
  start_other types.Boolean = refl
  start_other types.BooleanArray = nothing_other names is
  start_other (types.Class c) = nothing_other names is
  start_other types.Lock = nothing_other names is
  start_other (types.Markable c) = nothing_other names is

  pub starts_other : (ts : List ValueType) → all_renamed names is (map start_of ts) ≡ map start_of ts
  starts_other [] = refl
  starts_other (t ∷ ts) = ap (λ v. v ∷ all_renamed names is (map start_of ts)) (start_other t) ∙
      ap (λ vs. start_of t ∷ vs) (starts_other ts)

  pub frame_other : (ts : List ValueType) (vs : List Value) →
      frame ts (all_renamed names is vs) ≡ all_renamed names is (frame ts vs)
  frame_other ts vs =
      ap (λ n. all_renamed names is vs ++ map start_of (drop n ts)) (length-map vs (renamed names))
      ∙ ap (λ l. all_renamed names is vs ++ l) (sym (starts_other (drop (length vs) ts)))
      ∙ sym (map-append (renamed names) vs (map start_of (drop (length vs) ts)))

  pub without_other : (t : Option ValueType) → answer_without t ≡ renamed names (answer_without t)
  without_other None = sym (nothing_other names is)
  without_other (Some t) = sym (start_other t)

  pub leave_other : (t : Option ValueType) (x : Executed) →
      Renames names is (renamed names) (leave t x) (leave t (done_other names is x))
  leave_other t (AsksFor action sort) = refl
  leave_other t (Completes Normal ls rest) = ap (λ v. Results v (other names is rest)) (without_other t)
  leave_other t (Completes (Broke n) ls rest) = ap (λ v. Results v (other names is rest)) (without_other t)
  leave_other t (Completes (Continued n) ls rest) = ap (λ v. Results v (other names is rest)) (without_other t)
  leave_other t (Completes (Returned None) ls rest) = ap (λ v. Results v (other names is rest)) (without_other t)
  leave_other t (Completes (Returned (Some v)) ls rest) = refl
  leave_other t (Completes (Threw kind) ls rest) = refl

  module _ (file : File) (constants : FileHasConstants file) where
    pub body_other : (calls : Calls) →
        CallsRename names is calls →
        (m : Option Method) →
        (n : ℕ) →
        m ≡ slice_get file.methods n →
        (vs : List Value) (rest : Answers) →
        Renames names is (renamed names) (run_body file calls m vs rest)
        (run_body file calls m (all_renamed names is vs) (other names is rest))
    body_other calls k None n e vs rest = ap (λ v. Results v (other names is rest)) (sym (nothing_other names is))
    body_other calls k (Some m) n e vs rest =
        ap (λ ls. leave m.result (execute file.classes calls m.body ls (other names is rest))) (frame_other m.slots vs)
        ∙ ap (leave m.result) (execute_other names is file.classes calls k m.body (constants n m (sym e))
        (frame m.slots vs) rest)
        ∙ leave_other m.result (execute file.classes calls m.body (frame m.slots vs) rest)

    pub invoke_other : (depth : ℕ) → CallsRename names is (invoke file depth)
    unfolding invoke
    invoke_other zero m vs rest = refl
    invoke_other (suc depth) m vs rest =
        then_other names is (renamed names) (renamed names) _ _ _ _ (tell_other names is (Enter m) (Enter m) rest refl)
        (λ v rest.
        body_other (invoke file depth) (invoke_other depth) (slice_get file.methods m) m refl vs rest)

    pub values_other : (vs : List Value) → AllConstant vs → all_renamed names is vs ≡ vs
    values_other [] h = refl
    values_other (v ∷ vs) h = ap (λ w. w ∷ all_renamed names is vs) (constant_other names is v h.0) ∙
        ap (λ l. v ∷ l) (values_other vs h.1)

    -- a call with constants
    pub entered_other : (m : ℕ) (o : Value) (vs : List Value) (rest : Answers) →
        AllConstant vs →
        Renames names is (renamed names) (invoke file depth_limit m (o ∷ vs) rest)
        (invoke file depth_limit m (renamed names o ∷ vs) (other names is rest))
    entered_other m o vs rest h =
        ap (λ l. invoke file depth_limit m (renamed names o ∷ l) (other names is rest)) (sym (values_other vs h))
        ∙ invoke_other depth_limit m (o ∷ vs) rest

    pub result_other : (m : Option Method) (v : Value) →
        result_in m (renamed names v) ≡ renamed_result names (result_in m v)
    result_other None v = refl
    result_other (Some m) v = by_type m.result
      where
        by_type : (t : Option ValueType) → result_by t (renamed names v) ≡ renamed_result names (result_by t v)
        by_type None = refl
        by_type (Some t) = refl

    pub call_other : (program : Program) (n : ℕ) (c : ProgramCall) →
        CallHasConstants c →
        (qs : Answers) →
        Renames names is (renamed_result names) (one_call file program n c qs)
        (one_call file program n c (other names is qs))
    call_other program n (Making name c text values) h qs =
        then_other names is (renamed names) (renamed_result names) _ _ _ _
        (tell_other names is (Call n) (Call n) qs refl) (λ u rest.
        then_other names is (renamed names) (renamed_result names) _ _ _ _
        (ask_other names is (New c) (New c) (NewOf (types.Class c)) rest refl) (λ o rest.
        then_other names is (renamed names) (renamed_result names) _ _ _ _
        (entered_other (constructor_of file.classes c) o values rest h) (λ v rest.
        then_other names is (renamed names) (renamed_result names) _ _ _ _
        (tell_other names is (WriteName name o) (WriteName name (renamed names o)) rest refl) (λ w rest. refl))))
    call_other program n (Calling name m text result values) h qs =
        then_other names is (renamed names) (renamed_result names) _ _ _ _
        (tell_other names is (Call n) (Call n) qs refl) (λ u rest.
        then_other names is (renamed names) (renamed_result names) _ _ _ _
        (ask_other names is (ReadName name) (ReadName name) (named program name) rest refl) (λ o rest.
        null_other names is (renamed_result names) (reference_of o) (reference_of (renamed names o)) rest _ _
        (reference_other names is o) (
        then_other names is (renamed names) (renamed_result names) _ _ _ _ (entered_other m o values rest h) (λ v rest.
        ap (λ r. Results r (other names is rest)) (result_other (slice_get file.methods m) v)))))

    pub after_bind : (n : ℕ) (x : Evaluated (Option Value)) (go : Answers → Next) →
        ((qs : Answers) → go (other names is qs) ≡ renamed_next names (go qs)) →
        after_call n (others names is (renamed_result names) x) go ≡ renamed_next names (after_call n x go)
    after_bind n (Asks action sort) go h = refl
    after_bind n (Results v []) go h = refl
    after_bind n (Results v (answer ∷ rest)) go h = h rest
    after_bind n (Throws kind []) go h = refl
    after_bind n (Throws kind (answer ∷ rest)) go h = refl

    pub calls_other : (program : Program) (n : ℕ) (cs : List ProgramCall) →
        CallsHaveConstants cs →
        (qs : Answers) →
        all_calls file program n cs (other names is qs) ≡ renamed_next names (all_calls file program n cs qs)
    calls_other program n [] h qs = refl
    calls_other program n (c ∷ cs) h qs =
        ap (λ x. after_call n x (all_calls file program (n + 1) cs)) (call_other program n c h.0 qs)
        ∙ after_bind n (one_call file program n c qs) (all_calls file program (n + 1) cs)
        (calls_other program (n + 1) cs h.1)

    pub thread_other : (program : Program) (t : Option ThreadProgram) (n : ℕ) →
        ProgramHasConstants program →
        t ≡ slice_get program.threads n →
        (qs : Answers) →
        all_calls file program 1 (calls_in t) (other names is qs) ≡ renamed_next names
        (all_calls file program 1 (calls_in t) qs)
    thread_other program None n h e qs = refl
    thread_other program (Some t) n h e qs = calls_other program 1 t.calls (h n t (sym e)) qs

    -- what a thread does next, with other names
    pub next_other : (program : Program) →
        ProgramHasConstants program →
        (thread : ℕ) (qs : Answers) →
        next file program thread (renamed_answers names qs) ≡ renamed_next names (next file program thread qs)
    next_other program h thread qs = thread_other program (slice_get program.threads thread) thread h refl qs
