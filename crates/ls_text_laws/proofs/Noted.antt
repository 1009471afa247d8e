-- A thread's events: its calls in order, each with its return, or with a trap that ends the thread.
use Rattle.std.proofs.Common.{◌≡◌, ℕ, suc, ◌+◌, ◌-◌, ◌≤◌, List, [], ◌∷◌, ◌++◌, length, Option, Some, None, refl, sym}
use Rattle.std.proofs.Common.{ap, ◌∙◌, subst, arith}
use Rattle.std.specs.Prelude.{slice_get}
use Rattle.ls_events.specs.declared.event.Event.{Event}
use Rattle.ls_events.specs.declared.kind.Kind.{Kind}
use Rattle.ls_events.specs.declared.action.Action.{Action}
use Rattle.ls_events.specs.declared.action.Action.TheVariants as act
use Rattle.ls_events.specs.declared.action.Answer.{Answer}
use Rattle.ls_events.specs.declared.value.Value.{Value}
use Rattle.ls_events.specs.declared.value.ValueType.{ValueType}
use Rattle.ls_events.specs.declared.value.ValueType.TheVariants as types
use Rattle.ls_checked.specs.CheckedTree.{File}
use Rattle.ls_checked.specs.CheckedProgram.{Program, SetupName, ProgramCall, Making, Calling}
use Rattle.ls_meaning.specs.declared.sort.Sort.{Sort}
use Rattle.ls_meaning.specs.declared.sort.Sort.TheVariants.{NoValue, NewOf}
use Rattle.ls_meaning.specs.Values.{reference_of}
use Rattle.ls_meaning.specs.Course.{Answers, Evaluated, Asks, Results, Throws, ask, tell, with_value, unless_null}
use Rattle.ls_meaning.specs.Expressions.{constructor_of}
use Rattle.ls_meaning.specs.Methods.{invoke, depth_limit}
use Rattle.ls_meaning.specs.Runs.{event_of}
use Rattle.ls_meaning.specs.Threads.{Next, Goes, Ended, Trapped, result_of, class_in, named, one_call, after_call}
use Rattle.ls_meaning.specs.Threads.{all_calls, calls_in, next}
use Rattle.ls_types_judgement.specs.Sorts.{HasType}
use Rattle.ls_types_judgement.specs.Typing.{IsTypedFile}
use Rattle.ls_preservation.specs.Sorts.{Suits, Suited, call_at}
use Rattle.ls_types_judgement.specs.Programs.{IsTypedMaking, IsTypedCalling, IsTypedCall}
use Rattle.ls_meaning.proofs.Followers.{ends}
use Rattle.ls_soundness.proofs.Ways.{HasAction, Way, Sure, Good, results_good, then_good, ask_fits, ask_good, tell_fits}
use Rattle.ls_soundness.proofs.Ways.{null_good}
use Rattle.ls_soundness.proofs.Methods.{calls_good}
use Rattle.ls_soundness.proofs.Threads.{suited_same, arguments_have}
use Rattle.ls_text_laws.proofs.Follows as follows
use Rattle.ls_text_laws.proofs.Follows.{Follows, called, returned, trapped, newer}

-- what a thread does next, with the last event of the thread, and the event that it does next, if it is one
pub record Noted : Type 0 where
  pub last : Option Event
  pub coming : Option Event
  pub next : Next

module _ (file : File) (program : Program) (t : ℕ) where
  abbrev quietly : Option Event → Action Value → Sort → Noted
  quietly d a s = record { last = d; coming = None; next = Goes a s }

  abbrev over : Option Event → Next → Noted
  over d z = record { last = d; coming = None; next = z }

  abbrev aloud : Option Event → Action Value → Event → Answers → (Answers → Noted) → Noted
  aloud d a e [] go = record { last = d; coming = Some e; next = Goes a NoValue }
  aloud d a e (y ∷ rest) go = go rest

  -- a call after its event
  abbrev body : ProgramCall → Answers → Evaluated (Option Value)
  body (Making name c text values) rest =
      with_value (ask (act.New c) (NewOf (types.Class c)) rest) (λ o rest.
      with_value (invoke file depth_limit (constructor_of file.classes c) (o ∷ values) rest) (λ _ rest.
      with_value (tell (act.WriteName name o) rest) (λ _ rest. Results None rest)))
  body (Calling name m text result values) rest =
      with_value (ask (act.ReadName name) (named program name) rest) (λ o rest.
      unless_null (reference_of o) rest (
      with_value (invoke file depth_limit m (o ∷ values) rest) (λ v rest. Results (result_of file m v) rest)))

  abbrev then_trap : ℕ → Kind → Answers → Noted
  then_trap n k rest = aloud (Some (called t n)) (act.Trap n k) (trapped t n k) rest
      (λ rest. over (Some (trapped t n k)) Trapped)

  -- the calls of a thread, with the last event so far
  abbrev pub noted_calls : ℕ → Option Event → List ProgramCall → Answers → Noted
  noted_calls n d [] answers = over d Ended
  noted_calls n d (c ∷ cs) answers =
      aloud d (act.Call n) (called t n) answers (λ rest.
      ends (quietly (Some (called t n))) (body c rest)
      (λ v rest. aloud (Some (called t n)) (act.Return n v) (returned t n v) rest
      (noted_calls (n + 1) (Some (returned t n v)) cs))
      (then_trap n))

  abbrev then_return : ℕ → List ProgramCall → Option Value → Answers → Noted
  then_return n cs v rest = aloud (Some (called t n)) (act.Return n v) (returned t n v) rest
      (noted_calls (n + 1) (Some (returned t n v)) cs)

  -- ---- it does what the thread does

  first_asks : (n : ℕ) (c : ProgramCall) → one_call file program n c [] ≡ Asks (act.Call n) NoValue
  first_asks n (Making name c text values) = refl
  first_asks n (Calling name m text result values) = refl

  then_body : (n : ℕ) (c : ProgramCall) (y : Answer Value) (rest : Answers) →
      one_call file program n c (y ∷ rest) ≡ body c rest
  then_body n (Making name c text values) y rest = refl
  then_body n (Calling name m text result values) y rest = refl

  module _ (n : ℕ) (cs : List ProgramCall) (rest_is : (d : Option Event) (q : Answers) →
      (noted_calls (n + 1) d cs q).next ≡ all_calls file program (n + 1) cs q) where
    return_is : (v : Option Value) (rest : Answers) →
        (then_return n cs v rest).next ≡ after_call n (Results v rest) (all_calls file program (n + 1) cs)
    return_is v [] = refl
    return_is v (y ∷ rest) = rest_is (Some (returned t n v)) rest

    body_is : (x : Evaluated (Option Value)) →
        (ends (quietly (Some (called t n))) x (then_return n cs) (then_trap n)).next ≡ after_call n x
        (all_calls file program (n + 1) cs)
    body_is (Asks a s) = refl
    body_is (Results v rest) = return_is v rest
    body_is (Throws k []) = refl
    body_is (Throws k (y ∷ rest)) = refl

  next_is : (n : ℕ) (d : Option Event) (cs : List ProgramCall) (q : Answers) →
      (noted_calls n d cs q).next ≡ all_calls file program n cs q
  next_is n d [] q = refl
  next_is n d (c ∷ cs) [] = sym (ap (λ x. after_call n x (all_calls file program (n + 1) cs)) (first_asks n c))
  next_is n d (c ∷ cs) (y ∷ rest) =
      body_is n cs (λ d q. next_is (n + 1) d cs q) (body c rest) ∙
      sym (ap (λ x. after_call n x (all_calls file program (n + 1) cs)) (then_body n c y rest))

  -- ---- what is due

  -- it may follow, and its call is there
  abbrev pub IsDue : Option Event → Option Event → Type 0
  IsDue d None = Unit {0}
  IsDue d (Some e) = Follows t d e × (c : ProgramCall) × (call_at program t e.call ≡ Some c)

  -- what comes is the event of what the thread does
  abbrev IsComing : Next → Option Event → Type 0
  IsComing (Goes a s) o = event_of t a ≡ o
  IsComing Ended o = Unit {0}
  IsComing Trapped o = Unit {0}

  abbrev IsRight : Noted → Type 0
  IsRight z = IsComing z.next z.coming × IsDue z.last z.coming

  -- along the answers, each last event is the event that came last
  abbrev AreSteps : (Answers → Noted) → Option Event → Answers → Type 0
  AreSteps f d [] = (f []).last ≡ d
  AreSteps f d (y ∷ rest) = ((f []).last ≡ d) × AreSteps (λ q. f (y ∷ q)) (newer d (f []).coming) rest

  steps_same : (f g : Answers → Noted) (d : Option Event) (had : Answers) →
      ((q : Answers) → length q ≤ length had → f q ≡ g q) →
      AreSteps g d had →
      AreSteps f d had
  steps_same f g d [] e h = ap (λ (z : Noted). z.last) (e [] (omega arith)) ∙ h
  steps_same f g d (y ∷ had) e h = (
    ap (λ (z : Noted). z.last) (e [] (omega arith)) ∙ h.0,
    subst (λ o. AreSteps (λ q. f (y ∷ q)) (newer d o) had) (sym (ap (λ (z : Noted). z.coming) (e [] (omega arith))))
        (steps_same (λ q. f (y ∷ q)) (λ q. g (y ∷ q)) (newer d (g []).coming) had (λ q l. e (y ∷ q) (omega arith)) h.1),
  )

  steps_end : (f : Answers → Noted) (d : Option Event) (had : Answers) (y : Answer Value) →
      AreSteps f d (had ++ y ∷ []) →
      (f (had ++ y ∷ [])).last ≡ newer (f had).last (f had).coming
  steps_end f d [] y h = h.1 ∙ ap (λ z. newer z (f []).coming) (sym h.0)
  steps_end f d (x ∷ had) y h = steps_end (λ q. f (x ∷ q)) (newer d (f []).coming) had y h.1

  -- a body does no event
  body_quiet : (P : ℕ → ValueType → Type 0) (a : Action Value) (s : Sort) → HasAction P file a s → event_of t a ≡ None
  body_quiet P (act.Call n) s h = absurd h
  body_quiet P (act.Return n v) s h = absurd h
  body_quiet P (act.Trap n k) s h = absurd h
  body_quiet P (act.ReadField n f) s h = refl
  body_quiet P (act.WriteField n f v) s h = refl
  body_quiet P (act.ReadItem n i) s h = refl
  body_quiet P (act.WriteItem n i v) s h = refl
  body_quiet P (act.ReadName n) s h = refl
  body_quiet P (act.WriteName n v) s h = refl
  body_quiet P (act.New c) s h = refl
  body_quiet P act.NewLock s h = refl
  body_quiet P (act.NewMarkable v) s h = refl
  body_quiet P (act.NewArray z) s h = refl
  body_quiet P (act.Lock n) s h = refl
  body_quiet P (act.Unlock n) s h = refl
  body_quiet P (act.TryLock n) s h = refl
  body_quiet P (act.IsHeld n) s h = refl
  body_quiet P (act.LockMonitor n) s h = refl
  body_quiet P (act.UnlockMonitor n) s h = refl
  body_quiet P (act.ReadPair n) s h = refl
  body_quiet P (act.SetPair n v) s h = refl
  body_quiet P (act.SwapPair n e d) s h = refl
  body_quiet P (act.AttemptMark n r m) s h = refl
  body_quiet P act.Turn s h = refl
  body_quiet P (act.Enter m) s h = refl

  module _ (P : ℕ → ValueType → Type 0) (null : (n : ℕ) (s : ValueType) → n ≡ 0 → P n s) (typed : IsTypedFile file)
    where
      -- what is shown of a thread whose last event is d, after answers that suit it
      abbrev Known_to : Option Event → (Answers → Noted) → Answers → Type 0
      Known_to d f had = Suited P (λ q. (f q).next) had → AreSteps f d had × IsRight (f had)

      abbrev noted_way : Option Event → Way P file
      noted_way d = record {
        Left = Noted;
        asks = quietly d;
        Shown = Known_to d;
        Fits = λ a s. event_of t a ≡ None;
        fits = body_quiet P;
        same = λ f g had e k u.
            let h = k (suited_same P (λ q. (f q).next) (λ q. (g q).next) had (λ q l. ap (λ (z : Noted). z.next) (e q l))
            u) in
            (steps_same f g d had e h.0, subst IsRight (sym (e had (omega arith))) h.1);
        at_end = λ f a s e has u. (ap (λ (z : Noted). z.last) e, subst IsRight (sym e) (has, tt));
        at_more = λ f a s y rest e m k u.
            let here : Suits P (Goes a s) y = subst (λ (z : Noted). Suits P z.next y) e u.0 in
            let h = k here u.1 in (
              (
                ap (λ (z : Noted). z.last) e,
                subst (λ (z : Noted). AreSteps (λ q. f (y ∷ q)) (newer d z.coming) rest)
                    (sym e) h.0,
              ),
              h.1,
            );
      }

      abbrev IsShown : Option Event → (Answers → Noted) → Type 0
      IsShown d f = Sure P file (noted_way d) f

      over_shown : (d : Option Event) (z : Next) → IsComing z None → IsShown d (λ q. over d z)
      over_shown d z c = record { is = shown }
        where
          steps : (had : Answers) → AreSteps (λ q. over d z) d had
          steps [] = refl
          steps (y ∷ had) = (refl, steps had)

          shown : (had : Answers) → Known_to d (λ q. over d z) had
          shown had u = (steps had, (c, tt))

      aloud_shown : (d : Option Event) (a : Action Value) (e : Event) (go : Answers → Noted) →
          event_of t a ≡ Some e →
          IsDue d (Some e) →
          IsShown (Some e) go →
          IsShown d (λ q. aloud d a e q go)
      aloud_shown d a e go is due after = record { is = shown }
        where
          shown : (had : Answers) → Known_to d (λ q. aloud d a e q go) had
          shown [] u = (refl, (is, due))
          shown (y ∷ rest) u = let h = after.is rest u.1 in ((refl, h.0), h.1)

      abbrev Quiet : Option Event → (Answers → Evaluated (Option Value)) → Type 0
      Quiet d x = Good P file (noted_way d) (λ v. Unit {0}) x

      class_is : (o : Option SetupName) (n : SetupName) → o ≡ Some n → class_in o ≡ n.class
      class_is o n e = ap class_in e

      making_quiet : (d : Option Event) (name c : ℕ) (text : List ℕ) (vs : List Value) →
          IsTypedMaking file program name c vs →
          Quiet d (λ q. body (Making name c text vs) q)
      making_quiet d name c text vs is =
          let w = noted_way d in
          then_good P file w _ _ _ _ (ask_good P file w (act.New c) (NewOf (types.Class c)) tt
          (constructor_of file.classes c, is.constructor, is.found, is.own, refl)) (λ o ho.
          then_good P file w _ _ _ _
          (calls_good P null file w typed depth_limit (constructor_of file.classes c) is.constructor o vs is.found
          (subst (λ z. HasType P o (types.Class z)) (sym is.own) ho.1) (arguments_have P _ vs is.fit)) (λ v hv.
          then_good P file w _ _ _ _ (tell_fits P file w (act.WriteName name o) refl) (λ u hu.
          results_good P file w _ None tt)))

      calling_quiet : (d : Option Event) (name m : ℕ) (text : List ℕ) (r : Option ValueType) (vs : List Value) →
          IsTypedCalling file program name m r vs →
          Quiet d (λ q. body (Calling name m text r vs) q)
      calling_quiet d name m text r vs is =
          let w = noted_way d in
          let class : class_in (slice_get program.names name) ≡ is.called.class = class_is _ is.setup_name is.named ∙
          sym is.own in
          then_good P file w _ _ _ _ (ask_fits P file w (act.ReadName name) (named program name) tt refl) (λ o ho.
          null_good P file w _ (reference_of o) _ (λ ne.
          then_good P file w _ _ _ _
          (calls_good P null file w typed depth_limit m is.called o vs is.found
          (subst (λ z. HasType P o (types.Class z)) class ho) (arguments_have P _ vs is.fit)) (λ v hv.
          results_good P file w _ (result_of file m v) tt)))

      body_shown : (d : Option Event) (c : ProgramCall) → IsTypedCall file program c → Quiet d (λ q. body c q)
      body_shown d (Making name c text vs) is = making_quiet d name c text vs is
      body_shown d (Calling name m text r vs) is = calling_quiet d name m text r vs is

      module _ (all : List ProgramCall) (all_is : all ≡ calls_in (slice_get program.threads t)) where
        calls_shown : (cs : List ProgramCall) (n : ℕ) (d : Option Event) →
            1 ≤ n →
            Follows t d (called t n) →
            ((i : ℕ) (c : ProgramCall) → slice_get cs i ≡ Some c → slice_get all (n - 1 + i) ≡ Some c) →
            ((i : ℕ) (c : ProgramCall) → slice_get cs i ≡ Some c → IsTypedCall file program c) →
            IsShown d (noted_calls n d cs)
        calls_shown [] n d l f at typed = over_shown d Ended tt
        calls_shown (c ∷ cs) n d l f at typed =
            let here : call_at program t n ≡ Some c = ap (λ z. slice_get z (n - 1)) (sym all_is) ∙
            ap (slice_get all) (omega arith) ∙ at 0 c refl in
            aloud_shown d (act.Call n) (called t n) _ refl (f, c, here)
            ((body_shown (Some (called t n)) c (typed 0 c refl)).good (then_return n cs) (then_trap n)
            (λ v hv. aloud_shown (Some (called t n)) (act.Return n v) (returned t n v) _ refl
            (follows.Gives n v, c, here)
            (calls_shown cs (n + 1) (Some (returned t n v)) (omega arith) (follows.Next n v)
            (λ i b e. ap (slice_get all) (omega (arith, l)) ∙ at (suc i) b e) (λ i b e. typed (suc i) b e)))
            (λ k. aloud_shown (Some (called t n)) (act.Trap n k) (trapped t n k) _ refl (follows.Fails n k, c, here)
            (over_shown (Some (trapped t n k)) Trapped tt)))

  -- ---- a thread

  -- a thread after these answers, with its last event
  abbrev pub noted : Answers → Noted
  noted q = noted_calls 1 None (calls_in (slice_get program.threads t)) q

  pub noted_next : (q : Answers) → (noted q).next ≡ next file program t q
  noted_next q = next_is 1 None (calls_in (slice_get program.threads t)) q

  -- what holds of a thread after answers that suit it
  module _ (P : ℕ → ValueType → Type 0) (null : (n : ℕ) (s : ValueType) → n ≡ 0 → P n s) (typed : IsTypedFile file)
      (calls : (i : ℕ) (c : ProgramCall) → slice_get (calls_in (slice_get program.threads t)) i ≡ Some c →
      IsTypedCall file program c) where
    whole : IsShown P null typed None noted
    whole = calls_shown P null typed (calls_in (slice_get program.threads t)) refl
        (calls_in (slice_get program.threads t)) 1 None (omega arith) follows.First
        (λ i c e. ap (slice_get (calls_in (slice_get program.threads t))) (omega arith) ∙ e) calls

    shown : (had : Answers) → Suited P (next file program t) had → AreSteps noted None had × IsRight (noted had)
    shown had u = whole.is had (suited_same P (next file program t) (λ q. (noted q).next) had
        (λ q l. sym (noted_next q)) u)

    -- the event of what it does next is due
    pub event_due : (had : Answers) (a : Action Value) (s : Sort) →
        Suited P (next file program t) had →
        next file program t had ≡ Goes a s →
        ((noted had).coming ≡ event_of t a) × IsDue (noted had).last (event_of t a)
    event_due had a s u e =
        let h = (shown had u).1 in
        let coming : event_of t a ≡ (noted had).coming = subst (λ z. IsComing z (noted had).coming) (noted_next had ∙ e)
        h.0 in
        (sym coming, subst (IsDue (noted had).last) (sym coming) h.1)

    -- and is the last one then
    pub event_last : (had : Answers) (y : Answer Value) →
        Suited P (next file program t) (had ++ y ∷ []) →
        (noted (had ++ y ∷ [])).last ≡ newer (noted had).last (noted had).coming
    event_last had y u = steps_end noted None had y (shown (had ++ y ∷ []) u).0
