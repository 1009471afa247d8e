-- Threads of typed programs ask for actions of the right types.
use Rattle.std.proofs.Common.{◌≡◌, ◌≢◌, ℕ, zero, suc, ◌+◌, ◌-◌, ◌<◌, ◌≤◌, List, [], ◌∷◌, length, Option, Some, None}
use Rattle.std.proofs.Common.{refl, sym, ap, ◌∙◌, subst, arith}
use Rattle.std.specs.Prelude.{slice_get}
use Rattle.ls_events.specs.declared.action.Action.{Action}
use Rattle.ls_events.specs.declared.action.Action.TheVariants as act
use Rattle.ls_events.specs.declared.value.Value.{Value}
use Rattle.ls_events.specs.declared.value.Value.TheVariants as values
use Rattle.ls_events.specs.declared.value.ValueType.{ValueType}
use Rattle.ls_events.specs.declared.value.ValueType.TheVariants as types
use Rattle.ls_checked.specs.CheckedTree.{File}
use Rattle.ls_checked.specs.CheckedProgram.{Program, SetupName, ThreadProgram, ProgramCall, Making, Calling}
use Rattle.ls_meaning.specs.declared.sort.Sort.{Sort}
use Rattle.ls_meaning.specs.declared.sort.Sort.TheVariants.{NoValue, NewOf}
use Rattle.ls_meaning.specs.Values.{reference_of}
use Rattle.ls_meaning.specs.Course.{Answers, Evaluated, Asks, Results, Throws}
use Rattle.ls_meaning.specs.Expressions.{constructor_of}
use Rattle.ls_meaning.specs.Methods.{depth_limit}
use Rattle.ls_meaning.specs.Threads.{Next, Goes, Ended, Trapped, result_by, result_in, result_of, class_in, named}
use Rattle.ls_meaning.specs.Threads.{one_call, event, after_call, all_calls, calls_in}
use Rattle.ls_types_judgement.specs.Sorts.{HasType, HasSort, HaveTypes}
use Rattle.ls_types_judgement.specs.Typing.{IsTypedFile, answer_sort}
use Rattle.ls_preservation.specs.Sorts.{Refers, Names, NameHas, call_at, Returns, ActionHas, Suits, Suited}
use Rattle.ls_preservation.specs.Threads.{IsSound}
use Rattle.ls_types_judgement.specs.Classes.{HasItsClasses}
use Rattle.ls_types_judgement.specs.Programs.{IsArgument, AreArguments, IsPlainResult, IsTypedMaking, IsTypedCalling}
use Rattle.ls_types_judgement.specs.Programs.{IsTypedCall, IsTypedProgram}
use Rattle.ls_meaning.proofs.Followers.{ends}
use Rattle.ls_soundness.proofs.Ways.{HasAction, Way, Sure, sure_same, Good, results_good, then_good, ask_fits, ask_good}
use Rattle.ls_soundness.proofs.Ways.{tell_fits, null_good}
use Rattle.ls_soundness.proofs.Methods.{calls_good}

-- answers that suit what is the same after no more answers
pub suited_same : (P : ℕ → ValueType → Type 0) (f g : Answers → Next) (had : Answers) →
    ((q : Answers) → length q ≤ length had → f q ≡ g q) →
    Suited P f had →
    Suited P g had
suited_same P f g [] e s = tt
suited_same P f g (x ∷ had) e s = (
  subst (λ z. Suits P z x) (e [] (omega arith)) s.0,
  suited_same P (λ q. f (x ∷ q)) (λ q. g (x ∷ q)) had (λ q l. e (x ∷ q) (omega arith)) s.1,
)

-- arguments have the types of their parameters, whatever references name
pub argument_has : (P : ℕ → ValueType → Type 0) (t : ValueType) (v : Value) → IsArgument t v → HasType P v t
argument_has P types.Int (values.Int z) h = h
argument_has P types.Boolean (values.Boolean b) h = tt
argument_has P types.Int (values.Boolean b) h = absurd h
argument_has P types.Int (values.Reference n) h = absurd h
argument_has P types.Int (values.Pair n b) h = absurd h
argument_has P types.Boolean (values.Int z) h = absurd h
argument_has P types.Boolean (values.Reference n) h = absurd h
argument_has P types.Boolean (values.Pair n b) h = absurd h
argument_has P types.BooleanArray v h = absurd h
argument_has P (types.Class c) v h = absurd h
argument_has P types.Lock v h = absurd h
argument_has P (types.Markable c) v h = absurd h

-- arguments that the program may have have the types of the parameters
pub arguments_have : (P : ℕ → ValueType → Type 0) (ts : List ValueType) (vs : List Value) →
    AreArguments ts vs →
    HaveTypes P ts vs
arguments_have P [] [] h = tt
arguments_have P [] (v ∷ vs) h = absurd h
arguments_have P (t ∷ ts) [] h = absurd h
arguments_have P (t ∷ ts) (v ∷ vs) h = (argument_has P t v h.0, arguments_have P ts vs h.1)

module _ (file : File) (there : HasItsClasses file) (program : Program) (things : List ValueType) (thread : ℕ) where
  null_refers : (n : ℕ) (t : ValueType) → n ≡ 0 → Refers things n t
  null_refers zero t e = tt
  null_refers (suc n) t e = absurd (let f : ⊥ = omega (arith, e) in f)

  refers_names : (n : ℕ) (t : ValueType) → n ≢ 0 → Refers things n t → Names things n t
  refers_names zero t ne h = absurd (ne refl)
  refers_names (suc n) t ne h = h

  -- what a body asks for is what a thread may ask for
  body_action : (a : Action Value) (s : Sort) →
      HasAction (Refers things) file a s →
      ActionHas file program things thread a s
  body_action (act.ReadField n f) s h = (h.0, h.1, refers_names n (types.Class h.0) h.2.0 h.2.1, h.3, h.4)
  body_action (act.WriteField n f v) s h = (h.0, h.1, refers_names n (types.Class h.0) h.2.0 h.2.1, h.3, h.4, h.5)
  body_action (act.ReadItem n i) s h = (refers_names n types.BooleanArray h.0.0 h.0.1, h.1)
  body_action (act.WriteItem n i v) s h = (refers_names n types.BooleanArray h.0.0 h.0.1, h.1, h.2)
  body_action (act.New c) s h = (subst (λ z. z < length file.classes) h.3 (there h.0 h.1 h.2), h.4)
  body_action act.NewLock s h = h
  body_action (act.NewMarkable v) s h = h
  body_action (act.NewArray z) s h = h
  body_action (act.Lock n) s h = (refers_names n types.Lock h.0.0 h.0.1, h.1)
  body_action (act.Unlock n) s h = (refers_names n types.Lock h.0.0 h.0.1, h.1)
  body_action (act.TryLock n) s h = (refers_names n types.Lock h.0.0 h.0.1, h.1)
  body_action (act.IsHeld n) s h = (refers_names n types.Lock h.0.0 h.0.1, h.1)
  body_action (act.LockMonitor n) s h = (h.0, refers_names n (types.Class h.0) h.1.0 h.1.1, h.2)
  body_action (act.UnlockMonitor n) s h = (h.0, refers_names n (types.Class h.0) h.1.0 h.1.1, h.2)
  body_action (act.ReadPair n) s h = (h.0, refers_names n (types.Markable h.0) h.1.0 h.1.1, h.2)
  body_action (act.SetPair n v) s h = (h.0, refers_names n (types.Markable h.0) h.1.0 h.1.1, h.2, h.3)
  body_action (act.SwapPair n e d) s h = (h.0, refers_names n (types.Markable h.0) h.1.0 h.1.1, h.2, h.3, h.4)
  body_action (act.AttemptMark n r m) s h = (h.0, refers_names n (types.Markable h.0) h.1.0 h.1.1, h.2, h.3)
  body_action act.Turn s h = h
  body_action (act.Enter m) s h = h
  body_action (act.ReadName n) s h = absurd h
  body_action (act.WriteName n v) s h = absurd h
  body_action (act.Call n) s h = absurd h
  body_action (act.Return n v) s h = absurd h
  body_action (act.Trap n k) s h = absurd h

  abbrev IsWell : Next → Type 0
  IsWell (Goes a s) = ActionHas file program things thread a s
  IsWell Ended = Unit {0}
  IsWell Trapped = Unit {0}

  -- after answers that name things of the right types, what is asked for is well
  abbrev sound_way : Way (Refers things) file
  sound_way = record {
    Left = Next;
    asks = Goes;
    Shown = λ f had. Suited (Refers things) f had → IsWell (f had);
    Fits = λ a s. ActionHas file program things thread a s;
    fits = body_action;
    same = λ f g had e s u. subst IsWell (sym (e had (omega arith))) (s (suited_same (Refers things) f g had e u));
    at_end = λ f a s e has u. subst IsWell (sym e) has;
    at_more = λ f a s y rest e m k u. k (subst (λ z. Suits (Refers things) z y) e u.0) u.1;
  }

  abbrev Calls_well : {A : Type 0} → (A → Type 0) → (Answers → Evaluated A) → Type 0
  Calls_well H x = Good (Refers things) file sound_way H x

  abbrev Well : (Answers → Next) → Type 0
  Well f = Sure (Refers things) file sound_way f

  name_has : (o : Option SetupName) (n : SetupName) →
      o ≡ Some n →
      elim o as (λ _. Type 0) [ None ↦ ⊥ | Some name ↦ types.Class n.class ≡ types.Class name.class ]
  name_has o n e = subst
      (λ z. elim z as (λ _. Type 0) [ None ↦ ⊥ | Some name ↦ types.Class n.class ≡ types.Class name.class ]) (sym e)
      refl

  making_well : (n name c : ℕ) (text : List ℕ) (vs : List Value) →
      IsTypedFile file →
      IsTypedMaking file program name c vs →
      Calls_well (λ v. Returns (Some (Making name c text vs)) v)
      (λ q. one_call file program n (Making name c text vs) q)
  making_well n name c text vs t is =
      then_good (Refers things) file sound_way _ _ _ _ (tell_fits (Refers things) file sound_way (act.Call n) refl)
      (λ u hu.
      then_good (Refers things) file sound_way _ _ _ _ (ask_good (Refers things) file sound_way (act.New c)
      (NewOf (types.Class c)) tt (constructor_of file.classes c, is.constructor, is.found, is.own, refl)) (λ o ho.
      then_good (Refers things) file sound_way _ _ _ _
      (calls_good (Refers things) null_refers file sound_way t depth_limit (constructor_of file.classes c)
      is.constructor o vs is.found
      (subst (λ z. HasType (Refers things) o (types.Class z)) (sym is.own) ho.1)
      (arguments_have (Refers things) _ vs is.fit)) (λ v hv.
      then_good (Refers things) file sound_way _ _ _ _
      (tell_fits (Refers things) file sound_way (act.WriteName name o) (
        types.Class c,
        subst (λ z. NameHas program name (types.Class z)) is.holds
            (name_has (slice_get program.names name) is.setup_name is.named),
        ho.1,
        refl,
      )) (λ u hu.
      results_good (Refers things) file sound_way _ None tt))))

  result_returns : (name m : ℕ) (text : List ℕ) (r : Option ValueType) (vs : List Value) (v : Value) →
      IsPlainResult r →
      HasSort (Refers things) (answer_sort r) v →
      Returns (Some (Calling name m text r vs)) (result_by r v)
  result_returns name m text None vs v p h = tt
  result_returns name m text (Some types.Int) vs (values.Int z) p h = h
  result_returns name m text (Some types.Int) vs (values.Boolean b) p h = absurd h
  result_returns name m text (Some types.Int) vs (values.Reference n) p h = absurd h
  result_returns name m text (Some types.Int) vs (values.Pair n b) p h = absurd h
  result_returns name m text (Some types.Boolean) vs (values.Boolean b) p h = tt
  result_returns name m text (Some types.Boolean) vs (values.Int z) p h = absurd h
  result_returns name m text (Some types.Boolean) vs (values.Reference n) p h = absurd h
  result_returns name m text (Some types.Boolean) vs (values.Pair n b) p h = absurd h
  result_returns name m text (Some types.BooleanArray) vs v p h = absurd p
  result_returns name m text (Some (types.Class c)) vs v p h = absurd p
  result_returns name m text (Some types.Lock) vs v p h = absurd p
  result_returns name m text (Some (types.Markable c)) vs v p h = absurd p

  class_is : (o : Option SetupName) (n : SetupName) → o ≡ Some n → class_in o ≡ n.class
  class_is o n e = ap class_in e

  calling_well : (n name m : ℕ) (text : List ℕ) (r : Option ValueType) (vs : List Value) →
      IsTypedFile file →
      IsTypedCalling file program name m r vs →
      Calls_well (λ v. Returns (Some (Calling name m text r vs)) v)
      (λ q. one_call file program n (Calling name m text r vs) q)
  calling_well n name m text r vs t is =
      let class : class_in (slice_get program.names name) ≡ is.called.class = class_is _ is.setup_name is.named ∙
      sym is.own in
      let result : (v : Value) → HasSort (Refers things) (answer_sort is.called.result) v →
      Returns (Some (Calling name m text r vs)) (result_of file m v) =
      λ v hv. subst (λ z. Returns (Some (Calling name m text r vs)) (result_in z v)) (sym is.found)
      (subst (λ z. Returns (Some (Calling name m text r vs)) (result_by z v)) (sym is.answers)
      (result_returns name m text r vs v is.plain (subst (λ z. HasSort (Refers things) (answer_sort z) v) is.answers
      hv))) in
      then_good (Refers things) file sound_way _ _ _ _ (tell_fits (Refers things) file sound_way (act.Call n) refl)
      (λ u hu.
      then_good (Refers things) file sound_way _ _ _ _
      (ask_fits (Refers things) file sound_way (act.ReadName name) (named program name) tt (
        types.Class (class_in (slice_get program.names name)),
        subst (λ z. NameHas program name (types.Class z)) (sym (class_is _ is.setup_name is.named))
            (name_has (slice_get program.names name) is.setup_name is.named),
        refl,
      )) (λ o ho.
      null_good (Refers things) file sound_way _ (reference_of o) _ (λ ne.
      then_good (Refers things) file sound_way _ _ _ _
      (calls_good (Refers things) null_refers file sound_way t depth_limit m is.called o vs is.found
      (subst (λ z. HasType (Refers things) o (types.Class z)) class ho) (arguments_have (Refers things) _ vs is.fit))
      (λ v hv.
      results_good (Refers things) file sound_way _ (result_of file m v) (result v hv)))))

  call_well : (n : ℕ) (c : ProgramCall) →
      IsTypedFile file →
      IsTypedCall file program c →
      Calls_well (λ v. Returns (Some c) v) (λ q. one_call file program n c q)
  call_well n (Making name c text vs) t is = making_well n name c text vs t is
  call_well n (Calling name m text r vs) t is = calling_well n name m text r vs t is

  after_by : (n : ℕ) (x : Evaluated (Option Value)) (go : Answers → Next) →
      after_call n x go ≡ ends Goes x (λ v rest. event (act.Return n v) rest go)
      (λ kind rest. event (act.Trap n kind) rest (λ rest. Trapped))
  after_by n (Asks a s) go = refl
  after_by n (Results v rest) go = refl
  after_by n (Throws kind rest) go = refl

  event_well : (a : Action Value) (go : Answers → Next) →
      ActionHas file program things thread a NoValue →
      Well go →
      Well (λ q. event a q go)
  event_well a go has w = record { is = goes }
    where
      goes : (had : Answers) → Suited (Refers things) (λ q. event a q go) had → IsWell (event a had go)
      goes [] u = has
      goes (y ∷ rest) u = w.is rest u.1

  trapped_well : Well (λ q. Trapped)
  trapped_well = record { is = λ had u. tt }

  ended_well : Well (λ q. Ended)
  ended_well = record { is = λ had u. tt }

  module _ (t : IsTypedFile file) (all : List ProgramCall) (all_is : all ≡ calls_in (slice_get program.threads thread))
    where
      calls_well : (cs : List ProgramCall) (n : ℕ) →
          1 ≤ n →
          ((i : ℕ) (c : ProgramCall) → slice_get cs i ≡ Some c → slice_get all (n - 1 + i) ≡ Some c) →
          ((i : ℕ) (c : ProgramCall) → slice_get cs i ≡ Some c → IsTypedCall file program c) →
          Well (λ q. all_calls file program n cs q)
      calls_well [] n l at typed = ended_well
      calls_well (c ∷ cs) n l at typed =
          let here : call_at program thread n ≡ Some c = ap (λ z. slice_get z (n - 1)) (sym all_is) ∙
          ap (slice_get all) (omega arith) ∙ at 0 c refl in
          let rest : Well (λ q. all_calls file program (n + 1) cs q) =
          calls_well cs (n + 1) (omega arith) (λ i d e. ap (slice_get all) (omega (arith, l)) ∙ at (suc i) d e)
          (λ i d e. typed (suc i) d e) in
          sure_same (Refers things) file sound_way _ _ (λ q. after_by n (one_call file program n c q)
          (all_calls file program (n + 1) cs))
          ((call_well n c t (typed 0 c refl)).good (λ v rest. event (act.Return n v) rest
          (all_calls file program (n + 1) cs)) (λ kind rest. event (act.Trap n kind) rest (λ rest. Trapped))
          (λ v hv. event_well (act.Return n v) (all_calls file program (n + 1) cs)
          (subst (λ z. Returns z v) (sym here) hv, refl) rest)
          (λ kind. event_well (act.Trap n kind) (λ rest. Trapped) refl trapped_well))

typed_calls : (file : File) (program : Program) (thread : ℕ) →
    IsTypedProgram file program →
    (i : ℕ) (c : ProgramCall) →
    slice_get (calls_in (slice_get program.threads thread)) i ≡ Some c →
    IsTypedCall file program c
typed_calls file program thread typed i c e = in_thread (slice_get program.threads thread) refl e
  where
    in_thread : (o : Option ThreadProgram) →
        slice_get program.threads thread ≡ o →
        slice_get (calls_in o) i ≡ Some c →
        IsTypedCall file program c
    in_thread None is e = absurd (none e)
      where
        none : None ≡ Some c → ⊥
        none e = cc
    in_thread (Some calls) is e = typed thread calls i c is e

-- the law: typed programs of typed files ask on things of the right types
pub is_sound : (file : File) (program : Program) →
    IsTypedFile file →
    HasItsClasses file →
    IsTypedProgram file program →
    IsSound file program
is_sound file program t there typed = record {
  sound = λ things thread had a s known e.
      subst (IsWell file there program things thread) e
      ((calls_well file there program things thread t (calls_in (slice_get program.threads thread)) refl
      (calls_in (slice_get program.threads thread)) 1 (omega arith)
      (λ i c is. ap (slice_get (calls_in (slice_get program.threads thread))) (omega arith) ∙ is)
      (typed_calls file program thread typed)).is had known);
}
