-- The words of a call that a thread makes, also after the thread has gone on.
use Rattle.std.proofs.Common.{◌≡◌, ℕ, List, [], ◌∷◌, ◌++◌, map, Some, refl, sym, ap, ◌∙◌, subst, arith}
use Rattle.std.specs.Prelude.{slice_get}
use Rattle.ls_events.specs.declared.kind.Kind.{Kind}
use Rattle.ls_events.specs.declared.action.Action.TheVariants as act
use Rattle.ls_events.specs.declared.action.Answer.{Answer}
use Rattle.ls_events.specs.declared.action.Answer.TheVariants.{Done, Gives, Fails}
use Rattle.ls_events.specs.declared.value.Value.{Value}
use Rattle.ls_events.specs.declared.value.Value.TheVariants as values
use Rattle.ls_events.specs.declared.value.ValueType.{ValueType}
use Rattle.ls_events.specs.declared.value.ValueType.TheVariants as types
use Rattle.ls_checked.specs.CheckedTree.{File, Method}
use Rattle.ls_meaning.specs.declared.sort.Sort.{Sort}
use Rattle.ls_meaning.specs.declared.sort.Sort.TheVariants.{NoValue, ValueOf, NewOf, PairOf}
use Rattle.ls_meaning.specs.Course.{Answers, Evaluated, Asks, Results, Throws}
use Rattle.ls_meaning.specs.Methods.{invoke}
use Rattle.ls_meaning.specs.Threads.{Next, Goes, Ended, Trapped}
use Rattle.ls_lowered.specs.Course as low
use Rattle.ls_lowered.specs.Methods as courses
use Rattle.ls_refs.specs.ValueWords.{value_word, IsSmall}
use Rattle.ls_types_judgement.specs.Sorts.{HasType, HasSort, HaveTypes}
use Rattle.ls_types_judgement.specs.Typing.{IsTypedFile, answer_sort, parameters_of}
use Rattle.ls_refs.specs.Lowered.{lowered_file}
use Rattle.ls_refs.specs.Laws as refs
use Rattle.ls_refs.specs.Laws.{AsksAsFile, answer_word, answer_words, in_words}
use Rattle.ls_refs.proofs.Sim as sim
use Rattle.ls_refs.proofs.Methods.{calls_agree, asks_as_file}
use Rattle.ls_preservation.specs.Sorts.{HasSortBy, Suits, Suited}
use Rattle.ls_soundness.specs.InCall.{then_next, InCall}
use Rattle.ls_soundness.proofs.Threads.{suited_same}
use Rattle.ls_soundness.proofs.Split.{End, Gave, Threw, refs_same, EndHas, call_end, thread_end, Past, Split, Goes_on}
use Rattle.ls_soundness.proofs.Split.{Has_ended, both_of, split_of}

null_small : (n : ℕ) (t : ValueType) → n ≡ 0 → IsSmall n t
null_small n t e = omega (arith, e)

-- sorts of answers
abbrev AreOf : List Sort → Answers → Type 0
AreOf [] [] = Unit {0}
AreOf (s ∷ ss) (y ∷ rest) = refs.Suits IsSmall (Asks (act.Lock 0) s) y × AreOf ss rest
AreOf _ _ = ⊥

record HasSorts (rest : Answers) : Type 0 where
  sorts : List Sort
  are : AreOf sorts rest

record HasOne (y : Answer Value) : Type 0 where
  sort : Sort
  is : refs.Suits IsSmall (Asks (act.Lock 0) sort) y

-- a value of some sort, by what it is
value_sort : (v : Value) (s : Sort) → HasSortBy IsSmall v s → HasOne (Gives v)
value_sort (values.Int z) (ValueOf types.Int) h = record { sort = ValueOf types.Int; is = h }
value_sort (values.Boolean b) s h = record { sort = ValueOf types.Boolean; is = tt }
value_sort (values.Reference n) (ValueOf types.BooleanArray) h = record { sort = ValueOf types.Lock; is = h }
value_sort (values.Reference n) (ValueOf (types.Class c)) h = record { sort = ValueOf types.Lock; is = h }
value_sort (values.Reference n) (ValueOf types.Lock) h = record { sort = ValueOf types.Lock; is = h }
value_sort (values.Reference n) (ValueOf (types.Markable c)) h = record { sort = ValueOf types.Lock; is = h }
value_sort (values.Reference n) (NewOf t) h = record { sort = ValueOf types.Lock; is = h.1 }
value_sort (values.Pair n b) (PairOf c) h = record { sort = PairOf c; is = h }
value_sort (values.Int z) (ValueOf types.Boolean) h = absurd h
value_sort (values.Int z) (ValueOf types.BooleanArray) h = absurd h
value_sort (values.Int z) (ValueOf (types.Class c)) h = absurd h
value_sort (values.Int z) (ValueOf types.Lock) h = absurd h
value_sort (values.Int z) (ValueOf (types.Markable c)) h = absurd h
value_sort (values.Int z) NoValue h = absurd h
value_sort (values.Int z) (NewOf t) h = absurd h
value_sort (values.Int z) (PairOf c) h = absurd h
value_sort (values.Reference n) (ValueOf types.Int) h = absurd h
value_sort (values.Reference n) (ValueOf types.Boolean) h = absurd h
value_sort (values.Reference n) NoValue h = absurd h
value_sort (values.Reference n) (PairOf c) h = absurd h
value_sort (values.Pair n b) (ValueOf types.Int) h = absurd h
value_sort (values.Pair n b) (ValueOf types.Boolean) h = absurd h
value_sort (values.Pair n b) (ValueOf types.BooleanArray) h = absurd h
value_sort (values.Pair n b) (ValueOf (types.Class c)) h = absurd h
value_sort (values.Pair n b) (ValueOf types.Lock) h = absurd h
value_sort (values.Pair n b) (ValueOf (types.Markable c)) h = absurd h
value_sort (values.Pair n b) NoValue h = absurd h
value_sort (values.Pair n b) (NewOf t) h = absurd h

answer_has : (d : Next) (y : Answer Value) → Suits IsSmall d y → HasOne y
answer_has (Goes a s) Done h = record { sort = s; is = h }
answer_has (Goes a s) (Gives v) h = value_sort v s h
answer_has (Goes a s) (Fails k) h = record { sort = s; is = tt }
answer_has Ended y h = absurd h
answer_has Trapped y h = absurd h

sorts_of : (f : Answers → Next) (rest : Answers) → Suited IsSmall f rest → HasSorts rest
sorts_of f [] u = record { sorts = []; are = tt }
sorts_of f (y ∷ rest) u =
    let one = answer_has (f []) y u.0 in
    let others = sorts_of (λ q. f (y ∷ q)) rest u.1 in
    record { sorts = one.sort ∷ others.sorts; are = (one.is, others.are) }

-- what asks for as many answers as there are left, of their sorts, before it ends
abbrev replay : Evaluated Value → List Sort → Answers → Evaluated Value
replay end [] r = end
replay end (s ∷ ss) [] = Asks (act.Lock 0) s
replay end (s ∷ ss) (y ∷ r) = replay end ss r

abbrev word_replay : low.Told → List Sort → low.Answers → low.Told
word_replay end [] r = end
word_replay end (s ∷ ss) [] = low.Asked (act.Lock 0)
word_replay end (s ∷ ss) (y ∷ r) = word_replay end ss r

replays : (end : Evaluated Value) (ss : List Sort) (r : Answers) →
    word_replay (in_words end) ss (answer_words r) ≡ in_words (replay end ss r)
replays end [] r = refl
replays end (s ∷ ss) [] = refl
replays end (s ∷ ss) (y ∷ r) = replays end ss r

replay_done : (end : Evaluated Value) (ss : List Sort) (rest : Answers) → AreOf ss rest → replay end ss rest ≡ end
replay_done end [] [] a = refl
replay_done end [] (y ∷ rest) a = absurd a
replay_done end (s ∷ ss) [] a = absurd a
replay_done end (s ∷ ss) (y ∷ rest) a = replay_done end ss rest a.1

replay_suited : (end : Answers → Evaluated Value) (ss : List Sort) (rest : Answers) →
    AreOf ss rest →
    refs.Suited IsSmall (λ more. replay (end more) ss more) rest
replay_suited end [] [] a = tt
replay_suited end [] (y ∷ rest) a = absurd a
replay_suited end (s ∷ ss) [] a = absurd a
replay_suited end (s ∷ ss) (y ∷ rest) a = (a.0, replay_suited (λ more. end (y ∷ more)) ss rest a.1)

-- an end in words that isn't asked for
abbrev IsOver : low.Told → Type 0
IsOver (low.Asked a) = ⊥
IsOver (low.Gave w r) = Unit {0}
IsOver (low.Raised k r) = Unit {0}
IsOver low.Lost = ⊥

over_by : (x y : low.Told) → x ≡ y → IsOver y → IsOver x
over_by x y e h = subst IsOver (sym e) h

word_replay_is : (end target : low.Told) (ss : List Sort) (r : low.Answers) →
    word_replay end ss r ≡ target →
    IsOver target →
    end ≡ target
word_replay_is end target [] r e o = e
word_replay_is end target (s ∷ ss) [] e o = absurd (over_by _ _ e o)
word_replay_is end target (s ∷ ss) (y ∷ r) e o = word_replay_is end target ss r e o

-- suited first, and then the rest
suited_join : (f : Answers → Evaluated Value) (before rest : Answers) →
    refs.Suited IsSmall f before →
    refs.Suited IsSmall (λ more. f (before ++ more)) rest →
    refs.Suited IsSmall f (before ++ rest)
suited_join f [] rest a b = b
suited_join f (y ∷ before) rest a b = (a.0, suited_join (λ q. f (y ∷ q)) before rest a.1 b)

suited_rest : (f : Answers → Next) (before rest : Answers) →
    Suited IsSmall f (before ++ rest) →
    Suited IsSmall (λ more. f (before ++ more)) rest
suited_rest f [] rest u = u
suited_rest f (y ∷ before) rest u = suited_rest (λ q. f (y ∷ q)) before rest u.1

suits_ends : (x : Evaluated Value) (go : Value → Answers → Evaluated Value) (h : Kind → Answers → Evaluated Value)
    (y : Answer Value) →
    refs.Suits IsSmall x y →
    refs.Suits IsSmall (sim.ends x go h) y
suits_ends (Asks a s) go h y u = u
suits_ends (Results v r) go h y u = absurd u
suits_ends (Throws k r) go h y u = absurd u

suited_ends : (x : Answers → Evaluated Value) (go : Value → Answers → Evaluated Value)
    (h : Kind → Answers → Evaluated Value) (had : Answers) →
    refs.Suited IsSmall x had →
    refs.Suited IsSmall (λ q. sim.ends (x q) go h) had
suited_ends x go h [] u = tt
suited_ends x go h (y ∷ had) u = (suits_ends (x []) go h y u.0, suited_ends (λ q. x (y ∷ q)) go h had u.1)

module _ (file : File) (t : IsTypedFile file) (depth n : ℕ) (m : Method) (o : Value) (vs : List Value)
    (found : slice_get file.methods n ≡ Some m) (ho : HasType IsSmall o (types.Class m.class))
    (hvs : HaveTypes IsSmall (parameters_of m) vs)
    (go : Value → Answers → Next) (throw : Kind → Answers → Next) where
  abbrev course : Answers → Evaluated Value
  course q = invoke file depth n (o ∷ vs) q

  abbrev word_course : low.Answers → low.Told
  word_course q = courses.invoke (lowered_file file) depth n (map value_word (o ∷ vs)) q

  abbrev H : Value → Type 0
  H = HasSort IsSmall (answer_sort m.result)

  abbrev Ends_so : End → Answers → Evaluated Value
  Ends_so end q = call_end IsSmall file H go throw end q

  module _ (ss : List Sort) where
    abbrev goes : Value → Answers → Evaluated Value
    goes v r = replay (Results v r) ss r

    abbrev throws : Kind → Answers → Evaluated Value
    throws k r = replay (Throws k r) ss r

    abbrev word_goes : ℕ → List ℕ → low.Answers → low.Told
    word_goes w ls r = word_replay (low.Gave w r) ss r

    abbrev word_throws : Kind → List ℕ → low.Answers → low.Told
    word_throws k ls r = word_replay (low.Raised k r) ss r

    -- a course whose end is replayed ends so
    over_is : (x target : low.Told) →
        sim.word_ends (low.returned [] x) word_goes word_throws ≡ target →
        IsOver target →
        x ≡ target
    over_is (low.Asked a) target e over = absurd (over_by _ _ e over)
    over_is (low.Gave w r) target e over = word_replay_is (low.Gave w r) target ss r e over
    over_is (low.Raised k r) target e over = word_replay_is (low.Raised k r) target ss r e over
    over_is low.Lost target e over = absurd (over_by _ _ e over)

    replayed : (had : Answers) →
        refs.Suited IsSmall (λ q. sim.ends (course q) goes throws) had →
        sim.word_ends (low.returned [] (word_course (answer_words had))) word_goes word_throws ≡ in_words
        (sim.ends (course had) goes throws)
    replayed had u = ((calls_agree IsSmall null_small (λ n t h. h) file t depth 0 [] n m o vs found ho hvs).sim goes
        throws word_goes word_throws
        (λ v l hv k. record { is = λ q s. replays (Results v q) ss q })
        (λ k l kp. record { is = λ q s. replays (Throws k q) ss q })).is had u

    end_replayed : (end : End) (more : Answers) →
        sim.ends (Ends_so end more) goes throws ≡ replay (Ends_so end more) ss more
    end_replayed (Gave v) more = refl
    end_replayed (Threw k) more = refl

  over_end : (end : End) (rest : Answers) → IsOver (in_words (Ends_so end rest))
  over_end (Gave v) rest = tt
  over_end (Threw k) rest = tt

  abbrev Was : (had : Answers) → Type 0
  Was had = Past IsSmall file H go throw (λ q. both_of IsSmall file H go throw (course q)) had

  -- what comes after the call is suited by the rest
  rest_suited : (had : Answers) (p : Was had) →
      Suited IsSmall (λ q. then_next (course q) go throw) had →
      Suited IsSmall (λ q. thread_end IsSmall file H go throw p.end q) p.rest
  rest_suited had p u =
      suited_same IsSmall (λ more. then_next (course (p.before ++ more)) go throw)
      (λ q. thread_end IsSmall file H go throw p.end q) p.rest p.thread
      (suited_rest (λ q. then_next (course q) go throw) p.before p.rest
      (subst (λ z. Suited IsSmall (λ q. then_next (course q) go throw) z) p.whole u))

  past_words : (had : Answers) (p : Was had) →
      Suited IsSmall (λ q. then_next (course q) go throw) had →
      word_course (answer_words had) ≡ in_words (course had)
  past_words had p u =
      let sorted = sorts_of _ p.rest (rest_suited had p u) in
      let ss = sorted.sorts in
      let is : course had ≡ Ends_so p.end p.rest = ap course p.whole ∙ p.call p.rest (omega arith) in
      let suited : refs.Suited IsSmall (λ q. sim.ends (course q) (goes ss) (throws ss)) had =
      subst (λ z. refs.Suited IsSmall (λ q. sim.ends (course q) (goes ss) (throws ss)) z) (sym p.whole)
      (suited_join _ p.before p.rest (suited_ends course (goes ss) (throws ss) p.before p.suited)
      (refs_same IsSmall (λ more. replay (Ends_so p.end more) ss more) _ p.rest
      (λ more l. sym (ap (λ z. sim.ends z (goes ss) (throws ss)) (p.call more l) ∙ end_replayed ss p.end more))
      (replay_suited (Ends_so p.end) ss p.rest sorted.are))) in
      over_is ss (word_course (answer_words had)) (in_words (course had))
      (replayed ss had suited
      ∙ ap in_words (ap (λ z. sim.ends z (goes ss) (throws ss)) is ∙ end_replayed ss p.end p.rest ∙
      replay_done (Ends_so p.end p.rest) ss p.rest sorted.are ∙ sym is))
      (subst (λ z. IsOver (in_words z)) (sym is) (over_end p.end p.rest))

  abbrev InThis : Answers → Type 0
  InThis had = InCall file depth n m.result (o ∷ vs) go throw had

  asks_not : (a : _) (s : Sort) (end : End) (rest : Answers) → Asks a s ≡ Ends_so end rest → ⊥
  asks_not a s (Gave v) rest e = cc
  asks_not a s (Threw k) rest e = cc

  ended_so : (had : Answers) (p : Was had) (end : End) (rest : Answers) →
      course had ≡ Ends_so end rest →
      Ends_so p.end p.rest ≡ Ends_so end rest
  ended_so had p end rest e = sym (ap course p.whole ∙ p.call p.rest (omega arith)) ∙ e

  same_result : (end : End) (r rest : Answers) (v : Value) →
      Ends_so end r ≡ Results v rest →
      EndHas IsSmall file H go throw end →
      Suited IsSmall (λ q. thread_end IsSmall file H go throw end q) r →
      H v × Suited IsSmall (go v) rest
  same_result (Gave w) r rest v e has u =
      let vs : w ≡ v = cc in
      let rs : r ≡ rest = cc in
      (subst H vs has, subst (λ z. Suited IsSmall (go v) z) rs (subst (λ z. Suited IsSmall (go z) r) vs u))
  same_result (Threw k) r rest v e has u = cc

  same_throw : (end : End) (r rest : Answers) (k : Kind) →
      Ends_so end r ≡ Throws k rest →
      Suited IsSmall (λ q. thread_end IsSmall file H go throw end q) r →
      Suited IsSmall (throw k) rest
  same_throw (Gave w) r rest k e u = cc
  same_throw (Threw j) r rest k e u =
      let ks : j ≡ k = cc in
      let rs : r ≡ rest = cc in
      subst (λ z. Suited IsSmall (throw k) z) rs (subst (λ z. Suited IsSmall (throw z) r) ks u)

  in_split : (had : Answers) →
      Suited IsSmall (λ q. then_next (course q) go throw) had →
      Split IsSmall file H go throw (λ q. both_of IsSmall file H go throw (course q)) had →
      InThis had
  in_split had u (Goes_on w) = record {
    words = (asks_as_file file t).asks depth n m o vs had found (ho, hvs) w.suited;
    answered = λ v rest e. absurd (asks_not w.action w.sort (Gave v) rest (sym w.asks ∙ e));
    thrown = λ k rest e. absurd (asks_not w.action w.sort (Threw k) rest (sym w.asks ∙ e));
  }
  in_split had u (Has_ended p) = record {
    words = past_words had p u;
    answered = λ v rest e. same_result p.end p.rest rest v (ended_so had p (Gave v) rest e) p.has (rest_suited had p u);
    thrown = λ k rest e. same_throw p.end p.rest rest k (ended_so had p (Threw k) rest e) (rest_suited had p u);
  }

  -- answers that suit a thread suit the call that it makes
  pub in_call : (had : Answers) → Suited IsSmall (λ q. then_next (course q) go throw) had → InThis had
  in_call had u = in_split had u (split_of IsSmall null_small file t depth n m o vs go throw had found ho hvs u)
