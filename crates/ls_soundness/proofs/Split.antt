-- Answers in kind to a thread are answers in kind to its call, up to the call's end, and then to what comes after.
use Rattle.std.proofs.Common.{◌≡◌, ℕ, ◌+◌, ◌≤◌, List, [], ◌∷◌, ◌++◌, length, Some, refl, sym, ap, ◌∙◌, subst, arith}
use Rattle.std.specs.Prelude.{slice_get}
use Rattle.std.proofs.lemmas.List.{length-append}
use Rattle.ls_events.specs.declared.kind.Kind.{Kind}
use Rattle.ls_events.specs.declared.action.Action.{Action}
use Rattle.ls_events.specs.declared.action.Action.TheVariants as act
use Rattle.ls_events.specs.declared.action.Answer.{Answer}
use Rattle.ls_events.specs.declared.action.Answer.TheVariants.{Done, Gives, Fails}
use Rattle.ls_events.specs.declared.value.Value.{Value}
use Rattle.ls_events.specs.declared.value.ValueType.{ValueType}
use Rattle.ls_events.specs.declared.value.ValueType.TheVariants as types
use Rattle.ls_checked.specs.CheckedTree.{File, Method}
use Rattle.ls_meaning.specs.declared.sort.Sort.{Sort}
use Rattle.ls_meaning.specs.Course.{Answers, Evaluated, Asks, Results, Throws}
use Rattle.ls_meaning.specs.Methods.{invoke}
use Rattle.ls_meaning.specs.Threads.{Next, Goes}
use Rattle.ls_types_judgement.specs.Sorts.{HasType, HasSort, HaveTypes}
use Rattle.ls_types_judgement.specs.Typing.{IsTypedFile, answer_sort, parameters_of}
use Rattle.ls_refs.specs.Laws as refs
use Rattle.ls_preservation.specs.Sorts.{CanFail, Suits, Suited}
use Rattle.ls_soundness.specs.InCall.{then_next}
use Rattle.ls_soundness.proofs.Values.{Makes, sort_of_answer}
use Rattle.ls_meaning.proofs.Followers.{ends}
use Rattle.ls_soundness.proofs.Ways.{Way, Sure, sure_same}
use Rattle.ls_soundness.proofs.Methods.{calls_good}
use Rattle.ls_soundness.proofs.Threads.{suited_same}

-- how a call ends
pub data End : Type 0 where
  Gave : (value : Value) → End
  Threw : (kind : Kind) → End

-- what is left of a thread, and of the call that it is in
abbrev pub Both : Type 0
Both = Next × Evaluated Value

-- the same for all lists that aren't longer
pub refs_same : (P : ℕ → ValueType → Type 0) (f g : Answers → Evaluated Value) (had : Answers) →
    ((q : Answers) → length q ≤ length had → f q ≡ g q) →
    refs.Suited P f had →
    refs.Suited P g had
refs_same P f g [] e s = tt
refs_same P f g (x ∷ had) e s = (
  subst (λ z. refs.Suits P z x) (e [] (omega arith)) s.0,
  refs_same P (λ q. f (x ∷ q)) (λ q. g (x ∷ q)) had (λ q l. e (x ∷ q) (omega arith)) s.1,
)

-- an answer that suits a thread suits its call; a turn back fails in neither
fails_call : (P : ℕ → ValueType → Type 0) (a : Action Value) (s : Sort) (k : Kind) →
    CanFail a k →
    refs.Suits P (Asks a s) (Fails k)
fails_call P (act.ReadField n f) s k u = tt
fails_call P (act.WriteField n f v) s k u = tt
fails_call P (act.ReadItem n i) s k u = tt
fails_call P (act.WriteItem n i v) s k u = tt
fails_call P (act.ReadName n) s k u = tt
fails_call P (act.WriteName n v) s k u = tt
fails_call P (act.New c) s k u = tt
fails_call P act.NewLock s k u = tt
fails_call P (act.NewMarkable v) s k u = tt
fails_call P (act.NewArray z) s k u = tt
fails_call P (act.Lock n) s k u = tt
fails_call P (act.Unlock n) s k u = tt
fails_call P (act.TryLock n) s k u = tt
fails_call P (act.IsHeld n) s k u = tt
fails_call P (act.LockMonitor n) s k u = tt
fails_call P (act.UnlockMonitor n) s k u = tt
fails_call P (act.ReadPair n) s k u = tt
fails_call P (act.SetPair n v) s k u = tt
fails_call P (act.SwapPair n e d) s k u = tt
fails_call P (act.AttemptMark n r m) s k u = tt
fails_call P act.Turn s k u = absurd u
fails_call P (act.Enter m) s k u = tt
fails_call P (act.Call n) s k u = tt
fails_call P (act.Return n v) s k u = tt
fails_call P (act.Trap n kind) s k u = tt

suits_call : (P : ℕ → ValueType → Type 0) (a : Action Value) (s : Sort) (y : Answer Value) →
    Makes s →
    Suits P (Goes a s) y →
    refs.Suits P (Asks a s) y
suits_call P a s Done m u = u
suits_call P a s (Gives v) m u = sort_of_answer P v s m u
suits_call P a s (Fails k) m u = fails_call P a s k u

-- what a thread does next, with what its call does
abbrev pub two : (a : Next) (b : Evaluated Value) → Both
two a b = (a, b)

module _ (P : ℕ → ValueType → Type 0) (file : File) (H : Value → Type 0) (go : Value → Answers → Next)
    (throw : Kind → Answers → Next) where
  -- the value of a call that has ended is as it should be
  abbrev pub EndHas : End → Type 0
  EndHas (Gave v) = H v
  EndHas (Threw k) = Unit {0}

  -- a call's end, to the call
  abbrev pub call_end : End → Answers → Evaluated Value
  call_end (Gave v) q = Results v q
  call_end (Threw k) q = Throws k q

  -- a call's end, to the thread
  abbrev pub thread_end : End → Answers → Next
  thread_end (Gave v) q = go v q
  thread_end (Threw k) q = throw k q

  -- the call has ended, after the first answers
  pub record Past (f : Answers → Both) (had : Answers) : Type 0 where
    pub before : Answers
    pub rest : Answers
    pub end : End
    pub has : EndHas end
    pub whole : had ≡ before ++ rest
    pub suited : refs.Suited P (λ q. (f q).1) before
    pub call : (more : Answers) → length more ≤ length rest → (f (before ++ more)).1 ≡ call_end end more
    pub thread : (more : Answers) → length more ≤ length rest → (f (before ++ more)).0 ≡ thread_end end more

  -- the call goes on
  pub record Within (f : Answers → Both) (had : Answers) : Type 0 where
    pub suited : refs.Suited P (λ q. (f q).1) had
    pub action : Action Value
    pub sort : Sort
    pub asks : (f had).1 ≡ Asks action sort

  -- after answers that suit the thread: the call goes on, or it has ended after the first of them
  pub data Split (f : Answers → Both) (had : Answers) : Type 0 where
    Goes_on : (is : Within f had) → Split f had
    Has_ended : (is : Past f had) → Split f had

  split_same : (f g : Answers → Both) (had : Answers) →
      ((q : Answers) → length q ≤ length had → f q ≡ g q) →
      Split g had →
      Split f had
  split_same f g had e (Goes_on is) = Goes_on (record {
    suited = refs_same P (λ q. (g q).1) (λ q. (f q).1) had (λ q l. ap (λ (z : Both). z.1) (sym (e q l))) is.suited;
    action = is.action;
    sort = is.sort;
    asks = ap (λ (z : Both). z.1) (e had (omega arith)) ∙ is.asks;
  })
  split_same f g had e (Has_ended is) = Has_ended (record {
    before = is.before;
    rest = is.rest;
    end = is.end;
    has = is.has;
    whole = is.whole;
    suited = refs_same P (λ q. (g q).1) (λ q. (f q).1) is.before
        (λ q l. ap (λ (z : Both). z.1) (sym (e q (shorter q l)))) is.suited;
    call = λ more l. ap (λ (z : Both). z.1) (e (is.before ++ more) (longer more l)) ∙ is.call more l;
    thread = λ more l. ap (λ (z : Both). z.0) (e (is.before ++ more) (longer more l)) ∙ is.thread more l;
  })
    where
      all : length had ≡ length is.before + length is.rest
      all = ap length is.whole ∙ length-append is.before is.rest

      shorter : (q : Answers) → length q ≤ length is.before → length q ≤ length had
      shorter q l = omega (arith, l, all)

      longer : (more : Answers) → length more ≤ length is.rest → length (is.before ++ more) ≤ length had
      longer more l = let e = length-append is.before more in omega (arith, l, all, e)

  split_more : (f : Answers → Both) (a : Action Value) (s : Sort) (y : Answer Value) (rest : Answers) →
      f [] ≡ two (Goes a s) (Asks a s) →
      Makes s →
      Suits P (Goes a s) y →
      Split (λ q. f (y ∷ q)) rest →
      Split f (y ∷ rest)
  split_more f a s y rest e m u (Goes_on is) = Goes_on (record {
    suited = (subst (λ (z : Both). refs.Suits P z.1 y) (sym e) (suits_call P a s y m u), is.suited);
    action = is.action;
    sort = is.sort;
    asks = is.asks;
  })
  split_more f a s y rest e m u (Has_ended is) = Has_ended (record {
    before = y ∷ is.before;
    rest = is.rest;
    end = is.end;
    has = is.has;
    whole = ap (λ z. y ∷ z) is.whole;
    suited = (subst (λ (z : Both). refs.Suits P z.1 y) (sym e) (suits_call P a s y m u), is.suited);
    call = is.call;
    thread = is.thread;
  })

  abbrev split_way : Way P file
  split_way = record {
    Left = Both;
    asks = λ a s. (Goes a s, Asks a s);
    Shown = λ f had. Suited P (λ q. (f q).0) had → Split f had;
    Fits = λ a s. Unit {0};
    fits = λ a s h. tt;
    same = λ f g had e s u.
        split_same f g had e
        (s (suited_same P (λ q. (f q).0) (λ q. (g q).0) had (λ q l. ap (λ (z : Both). z.0) (e q l)) u));
    at_end = λ f a s e has u. Goes_on (record { suited = tt; action = a; sort = s; asks = ap (λ (z : Both). z.1) e });
    at_more = λ f a s y rest e m k u. let here : Suits P (Goes a s) y = subst (λ (z : Both). Suits P z.0 y) e u.0 in
        split_more f a s y rest e m here (k here u.1);
  }

  ended : (end : End) →
      EndHas end →
      (f : Answers → Both) →
      ((q : Answers) → f q ≡ two (thread_end end q) (call_end end q)) →
      Sure P file split_way f
  ended end has f e = record {
    is = λ had u. Has_ended (record {
      before = [];
      rest = had;
      end = end;
      has = has;
      whole = refl;
      suited = tt;
      call = λ more l. ap (λ (z : Both). z.1) (e more);
      thread = λ more l. ap (λ (z : Both). z.0) (e more);
    });
  }

  -- what a call does, with what its thread does next
  abbrev pub both_of : Evaluated Value → Both
  both_of x = (then_next x go throw, x)

  both_ends : (x : Evaluated Value) →
      both_of x ≡ ends (λ a s. two (Goes a s) (Asks a s)) x (λ v q. two (go v q) (Results v q))
      (λ k q. two (throw k q) (Throws k q))
  both_ends (Asks a s) = refl
  both_ends (Results v q) = refl
  both_ends (Throws k q) = refl

-- a call of a typed method in a thread
pub split_of : (P : ℕ → ValueType → Type 0) (null : (n : ℕ) (t : ValueType) → n ≡ 0 → P n t) (file : File) →
    IsTypedFile file →
    (depth n : ℕ) (m : Method) (o : Value) (vs : List Value) (go : Value → Answers → Next)
    (throw : Kind → Answers → Next) (had : Answers) →
    slice_get file.methods n ≡ Some m → HasType P o (types.Class m.class) → HaveTypes P (parameters_of m) vs →
    Suited P (λ q. then_next (invoke file depth n (o ∷ vs) q) go throw) had →
    Split P file (HasSort P (answer_sort m.result)) go throw
    (λ q. both_of P file (HasSort P (answer_sort m.result)) go throw (invoke file depth n (o ∷ vs) q)) had
split_of P null file t depth n m o vs go throw had found ho hvs u =
    let H = HasSort P (answer_sort m.result) in
    let w = split_way P file H go throw in
    (sure_same P file w _ _ (λ q. both_ends P file H go throw (invoke file depth n (o ∷ vs) q))
    ((calls_good P null file w t depth n m o vs found ho hvs).good (λ v q. two (go v q) (Results v q))
    (λ k q. two (throw k q) (Throws k q))
    (λ v hv. ended P file H go throw (Gave v) hv _ (λ q. refl))
    (λ k. ended P file H go throw (Threw k) tt _ (λ q. refl)))).is had u
