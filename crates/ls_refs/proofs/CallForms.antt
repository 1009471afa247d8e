-- The words of calls ask what the calls ask.
use Rattle.std.proofs.Common.{◌≡◌, ◌≢◌, ℕ, ◌+◌, ◌<◌, ◌≤◌, ◌^◌, Bool, true, false, List, [], ◌∷◌, length, Some, refl}
use Rattle.std.proofs.Common.{sym, ap, ◌∙◌, subst, arith}
use Rattle.std.specs.Prelude.{pos, slice_index, slice_set, slice_get}
use Rattle.std.proofs.lemmas.List.{get_or-set_other}
use Rattle.ls_events.specs.declared.kind.Kind.{Kind}
use Rattle.ls_events.specs.declared.action.Action.{Action}
use Rattle.ls_events.specs.declared.action.Action.TheVariants as act
use Rattle.ls_events.specs.declared.value.Value.{Value}
use Rattle.ls_events.specs.declared.value.Value.TheVariants.{Int, Boolean, Reference, Pair}
use Rattle.ls_events.specs.declared.value.ValueType.{ValueType}
use Rattle.ls_events.specs.declared.value.ValueType.TheVariants as types
use Rattle.ls_checked.specs.declared.tree.Called.TheVariants.{Method as OfMethod, LockIt, UnlockIt, TryIt, AskIt}
use Rattle.ls_checked.specs.declared.tree.Called.TheVariants.{HoldMonitor, FreeMonitor, GetReference, IsMarked, SetBoth}
use Rattle.ls_checked.specs.declared.tree.Called.TheVariants.{Attempt}
use Rattle.ls_checked.specs.CheckedTree.{File, Method, Expression, Call, Expressions, End, More}
use Rattle.ls_meaning.specs.declared.sort.Sort.TheVariants.{NoValue, ValueOf, PairOf}
use Rattle.ls_meaning.specs.Values.{truth_of, reference_of, mark_of, pair_of}
use Rattle.ls_meaning.specs.Course.{Answers, Evaluated, with_value}
use Rattle.ls_meaning.specs.Expressions.{Calls, arguments}
use Rattle.ls_lowered.specs.Words as words
use Rattle.ls_lowered.specs.LoweredTree as trees
use Rattle.ls_lowered.specs.Course as low
use Rattle.ls_lowered.specs.Expressions.{evaluate, flag_word}
use Rattle.ls_refs.specs.ValueWords.{value_word}
use Rattle.ls_types_judgement.specs.Sorts.{HasType, HasSort}
use Rattle.ls_types_judgement.specs.Typing.{answer_sort, parameters_of}
use Rattle.ls_refs.specs.Temporaries.{temporaries}
use Rattle.ls_refs.specs.Calls.{pack}
use Rattle.ls_refs.specs.Lowered.{lowered}
use Rattle.ls_refs.proofs.Values.{reference_word, truth_word, packed, half_word, odd_word, pair_has}
use Rattle.ls_refs.proofs.Sim.{sim_eq, word_ends, ends_and, Sim, Agrees, gets_agrees, then_agrees, flat, ask_agrees}
use Rattle.ls_refs.proofs.Sim.{perform_agrees, null_agrees, null_and, Kept}
use Rattle.ls_refs.proofs.Good.{Holds, holds_kept, CallsAgree, Good, Each, all_agree, one_argument}

-- a temporary, after another one was set and later ones were used
slot_on : (c i j w : ℕ) (old new : List ℕ) →
    i < c →
    i ≢ j →
    Kept c old new →
    slice_index (slice_set new j w) i ≡ slice_index old i
slot_on c i j w old new l ne k = get_or-set_other new j i w 0 (λ e. ne e) ∙ k.at i l

bool_back : (b : Bool) → words.bool_of (words.bool_word b) ≡ b
bool_back true = refl
bool_back false = refl

abbrev IsAction : Action ℕ → Action ℕ → Type 0
IsAction a b = a ≡ b

swap_is : (a a' b b' c c' : ℕ) → a ≡ a' → b ≡ b' → c ≡ c' → IsAction (act.SwapPair a b c) (act.SwapPair a' b' c')
swap_is a a' b b' c c' e f g = ap (λ n. act.SwapPair n b c) e ∙ ap (λ n. act.SwapPair a' n c) f ∙
    ap (λ n. act.SwapPair a' b' n) g

attempt_is : (a a' b b' : ℕ) (c c' : Bool) →
    a ≡ a' →
    b ≡ b' →
    c ≡ c' →
    IsAction (act.AttemptMark a b c) (act.AttemptMark a' b' c')
attempt_is a a' b b' c c' e f g = ap (λ n. act.AttemptMark n b c) e ∙ ap (λ n. act.AttemptMark a' n c) f ∙
    ap (λ n. act.AttemptMark a' b' n) g

item_is : (a a' b b' : ℕ) → a ≡ a' → b ≡ b' → IsAction (act.WriteItem a (pos 0) b) (act.WriteItem a' (pos 0) b')
item_is a a' b b' e f = ap (λ n. act.WriteItem n (pos 0) b) e ∙ ap (λ n. act.WriteItem a' (pos 0) n) f

module _ (P : ℕ → ValueType → Type 0) (small : (n : ℕ) (t : ValueType) → P n t → n < 2 ^ 32) (file : File)
    (calls : Calls) (calls' : low.Calls) (called : CallsAgree P file calls calls') (slots : List ValueType) where
  -- a call of a method asks and ends as its words do
  pub method_agrees : (n : ℕ) (m : Method) (e : Expression) (es : Expressions) →
      slice_get file.methods n ≡ Some m →
      Good P file calls calls' slots (ValueOf (types.Class m.class)) e →
      Each P file calls calls' slots (parameters_of m) es →
      Good P file calls calls' slots (answer_sort m.result) (Call e (OfMethod n) es)
  method_agrees n m e es is a each = record {
    good = λ base ls old h le room.
        let b = base + 0 + temporaries e in
        then_agrees P _ _ _ _ base (base + 0) b old _ _ _ _ (omega arith) (omega arith)
        (a.good (base + 0) ls old h (omega arith) (omega arith)) (λ o l ho k.
        then_agrees P _ _ _ _ b b b l _ _ _ _ (omega arith) (omega arith)
        (all_agree P file calls calls' slots (parameters_of m) es b ls l each
        (holds_kept P slots ls (base + 0) old l (omega arith) k h) (omega arith) (omega (arith, k.long)))
        (λ vs l2 hvs k2.
        null_agrees P _ _ b l2 _ _ _ _ (reference_word P o (types.Class m.class) tt ho)
        (called b l2 n m o vs is ho hvs)));
  }

  -- locks
  pub lock_agrees : (e : Expression) →
      Good P file calls calls' slots (ValueOf types.Lock) e →
      Good P file calls calls' slots NoValue (Call e LockIt End)
  lock_agrees e a = record {
    good = λ base ls old h le room. then_agrees P _ _ _ _ base (base + 0) base old _ _ _ _ (omega arith) (omega arith)
        (a.good (base + 0) ls old h (omega arith) (omega arith)) (λ o l ho k.
        null_agrees P _ _ base l _ _ _ _ (reference_word P o types.Lock tt ho)
        (perform_agrees P base l (act.Lock (reference_of o)) (act.Lock (value_word o))
        (ap act.Lock (reference_word P o types.Lock tt ho))));
  }

  -- `unlock()` asks and ends as its words do
  pub unlock_agrees : (e : Expression) →
      Good P file calls calls' slots (ValueOf types.Lock) e →
      Good P file calls calls' slots NoValue (Call e UnlockIt End)
  unlock_agrees e a = record {
    good = λ base ls old h le room. then_agrees P _ _ _ _ base (base + 0) base old _ _ _ _ (omega arith) (omega arith)
        (a.good (base + 0) ls old h (omega arith) (omega arith)) (λ o l ho k.
        null_agrees P _ _ base l _ _ _ _ (reference_word P o types.Lock tt ho)
        (perform_agrees P base l (act.Unlock (reference_of o)) (act.Unlock (value_word o))
        (ap act.Unlock (reference_word P o types.Lock tt ho))));
  }

  -- monitors
  pub hold_agrees : (c : ℕ) (e : Expression) →
      Good P file calls calls' slots (ValueOf (types.Class c)) e →
      Good P file calls calls' slots NoValue (Call e (HoldMonitor c) End)
  hold_agrees c e a = record {
    good = λ base ls old h le room. then_agrees P _ _ _ _ base (base + 0) base old _ _ _ _ (omega arith) (omega arith)
        (a.good (base + 0) ls old h (omega arith) (omega arith)) (λ o l ho k.
        null_agrees P _ _ base l _ _ _ _ (reference_word P o (types.Class c) tt ho)
        (perform_agrees P base l (act.LockMonitor (reference_of o)) (act.LockMonitor (value_word o))
        (ap act.LockMonitor (reference_word P o (types.Class c) tt ho))));
  }

  -- the end of `synchronized` asks and ends as its words do
  pub free_agrees : (c : ℕ) (e : Expression) →
      Good P file calls calls' slots (ValueOf (types.Class c)) e →
      Good P file calls calls' slots NoValue (Call e (FreeMonitor c) End)
  free_agrees c e a = record {
    good = λ base ls old h le room. then_agrees P _ _ _ _ base (base + 0) base old _ _ _ _ (omega arith) (omega arith)
        (a.good (base + 0) ls old h (omega arith) (omega arith)) (λ o l ho k.
        null_agrees P _ _ base l _ _ _ _ (reference_word P o (types.Class c) tt ho)
        (perform_agrees P base l (act.UnlockMonitor (reference_of o)) (act.UnlockMonitor (value_word o))
        (ap act.UnlockMonitor (reference_word P o (types.Class c) tt ho))));
  }

  -- an answer that is a boolean is its own flag
  flag_is : (v : Value) → HasType P v types.Boolean → flag_word (value_word v) ≡ value_word v
  flag_is (Boolean true) h = refl
  flag_is (Boolean false) h = refl
  flag_is (Int z) h = absurd h
  flag_is (Reference n) h = absurd h
  flag_is (Pair n m) h = absurd h

  flag_agrees : (base : ℕ) (old : List ℕ) (x : Answers → Evaluated Value)
      (x' : low.Answers → low.Course (low.Outcome ℕ)) →
      Agrees P (HasSort P (ValueOf types.Boolean)) value_word base old x x' →
      Agrees P (HasSort P (ValueOf types.Boolean)) value_word base old x
      (λ q. low.and_then (x' q) (λ w l r. low.Ends (low.Results (flag_word w)) l r))
  flag_agrees base old x x' a = record {
    sim = λ go h go' h' kg kh.
        sim_eq P _ _ _ _ (λ q. refl) (λ q. ends_and (x' q) (λ w l r. low.Ends (low.Results (flag_word w)) l r) go' h')
        (a.sim go h (λ w l r. go' (flag_word w) l r) h' (λ v l hv k.
        subst (λ w. Sim P (go v) (go' w l)) (sym (flag_is v hv)) (kg v l hv k)) kh);
  }

  -- `tryLock()` asks and ends as its words do
  pub try_agrees : (e : Expression) →
      Good P file calls calls' slots (ValueOf types.Lock) e →
      Good P file calls calls' slots (ValueOf types.Boolean) (Call e TryIt End)
  try_agrees e a = record {
    good = λ base ls old h le room. then_agrees P _ _ _ _ base (base + 0) base old _ _ _ _ (omega arith) (omega arith)
        (a.good (base + 0) ls old h (omega arith) (omega arith)) (λ o l ho k.
        null_agrees P _ _ base l _ _ _ _ (reference_word P o types.Lock tt ho)
        (flag_agrees base l _ _ (ask_agrees P base l (act.TryLock (reference_of o)) (ValueOf types.Boolean)
        (act.TryLock (value_word o)) (ap act.TryLock (reference_word P o types.Lock tt ho)))));
  }

  -- `isHeldByCurrentThread()` asks and ends as its words do
  pub held_agrees : (e : Expression) →
      Good P file calls calls' slots (ValueOf types.Lock) e →
      Good P file calls calls' slots (ValueOf types.Boolean) (Call e AskIt End)
  held_agrees e a = record {
    good = λ base ls old h le room. then_agrees P _ _ _ _ base (base + 0) base old _ _ _ _ (omega arith) (omega arith)
        (a.good (base + 0) ls old h (omega arith) (omega arith)) (λ o l ho k.
        null_agrees P _ _ base l _ _ _ _ (reference_word P o types.Lock tt ho)
        (ask_agrees P base l (act.IsHeld (reference_of o)) (ValueOf types.Boolean) (act.IsHeld (value_word o))
        (ap act.IsHeld (reference_word P o types.Lock tt ho))));
  }

  -- the halves of a markable's pair
  pub reference_agrees : (c : ℕ) (e : Expression) →
      Good P file calls calls' slots (ValueOf (types.Markable c)) e →
      Good P file calls calls' slots (ValueOf (types.Class c)) (Call e (GetReference c) End)
  reference_agrees c e a = record {
    good = λ base ls old h le room.
        flat P _ _ base old _ (λ q. evaluate calls' (lowered file.classes (base + 0) e) old q)
        (λ x l q. low.unless_null x l q (low.ask (act.ReadPair x) l q)) _ (
        then_agrees P _ _ _ _ base (base + 0) base old _ _ _ _ (omega arith) (omega arith)
        (a.good (base + 0) ls old h (omega arith) (omega arith)) (λ o l ho k.
        null_and P _ _ base l _ _ _ _ _ (reference_word P o (types.Markable c) tt ho) (
        then_agrees P _ _ _ _ base base base l _ _ _ _ (omega arith) (omega arith)
        (ask_agrees P base l (act.ReadPair (reference_of o)) (PairOf c) (act.ReadPair (value_word o))
        (ap act.ReadPair (reference_word P o (types.Markable c) tt ho))) (λ p l2 hp k2.
        gets_agrees P (HasSort P (ValueOf (types.Class c))) value_word base l2 (Reference (reference_of p)) _
        (pair_has P p c hp) (half_word P small p c hp)))));
  }

  -- `isMarked()` asks and ends as its words do
  pub marked_agrees : (c : ℕ) (e : Expression) →
      Good P file calls calls' slots (ValueOf (types.Markable c)) e →
      Good P file calls calls' slots (ValueOf types.Boolean) (Call e (IsMarked c) End)
  marked_agrees c e a = record {
    good = λ base ls old h le room.
        flat P _ _ base old _ (λ q. evaluate calls' (lowered file.classes (base + 0) e) old q)
        (λ x l q. low.unless_null x l q (low.ask (act.ReadPair x) l q)) _ (
        then_agrees P _ _ _ _ base (base + 0) base old _ _ _ _ (omega arith) (omega arith)
        (a.good (base + 0) ls old h (omega arith) (omega arith)) (λ o l ho k.
        null_and P _ _ base l _ _ _ _ _ (reference_word P o (types.Markable c) tt ho) (
        then_agrees P _ _ _ _ base base base l _ _ _ _ (omega arith) (omega arith)
        (ask_agrees P base l (act.ReadPair (reference_of o)) (PairOf c) (act.ReadPair (value_word o))
        (ap act.ReadPair (reference_word P o (types.Markable c) tt ho))) (λ p l2 hp k2.
        gets_agrees P (HasSort P (ValueOf types.Boolean)) value_word base l2 (Boolean (mark_of p)) _ tt
        (odd_word P small p c hp)))));
  }

  -- a reference and a mark, packed
  pack_inner : (x : low.Course (low.Outcome ℕ)) (w : ℕ) (k' : ℕ → List ℕ → low.Answers → low.Course (low.Outcome ℕ))
      (go : ℕ → List ℕ → low.Answers → low.Told) (h : Kind → List ℕ → low.Answers → low.Told) →
      word_ends (low.and_then (low.and_then x (λ y l r. low.Ends (low.Results (words.pair_word w y)) l r)) k') go h ≡
      word_ends (low.and_then x (λ y l r. k' (words.pair_word w y) l r)) go h
  pack_inner (low.Asks a) w k' go h = refl
  pack_inner (low.Ends (low.Results y) l r) w k' go h = refl
  pack_inner (low.Ends (low.Throws k) l r) w k' go h = refl
  pack_inner low.Stuck w k' go h = refl

  pack_outer : (x : low.Course (low.Outcome ℕ)) (b : List ℕ → low.Answers → low.Course (low.Outcome ℕ))
      (k' : ℕ → List ℕ → low.Answers → low.Course (low.Outcome ℕ)) (go : ℕ → List ℕ → low.Answers → low.Told)
      (h : Kind → List ℕ → low.Answers → low.Told) →
      word_ends (low.and_then
      (low.and_then x (λ w l r. low.and_then (b l r) (λ y l r. low.Ends (low.Results (words.pair_word w y)) l r)))
      k') go h ≡ word_ends (low.and_then x (λ w l r. low.and_then (b l r) (λ y l r. k' (words.pair_word w y) l r)))
      go h
  pack_outer (low.Asks a) b k' go h = refl
  pack_outer (low.Ends (low.Results w) l r) b k' go h = pack_inner (b l r) w k' go h
  pack_outer (low.Ends (low.Throws k) l r) b k' go h = refl
  pack_outer low.Stuck b k' go h = refl

  pack_and : (H : Value → Type 0) (base : ℕ) (old : List ℕ) (x : Answers → Evaluated Value) (a b : trees.Expression)
      (k' : ℕ → List ℕ → low.Answers → low.Course (low.Outcome ℕ)) →
      Agrees P H value_word base old x (λ q. low.and_then (evaluate calls' a old q)
      (λ w l r. low.and_then (evaluate calls' b l r) (λ y l r. k' (words.pair_word w y) l r))) →
      Agrees P H value_word base old x (λ q. low.and_then (evaluate calls' (pack a b) old q) k')
  pack_and H base old x a b k' s = record {
    sim = λ go h go' h' kg kh. sim_eq P _ _ _ _ (λ q. refl) (λ q.
        pack_outer (evaluate calls' a old q) (λ l r. evaluate calls' b l r) k' go' h') (s.sim go h go' h' kg kh);
  }

  -- a reference and a mark as arguments give the word of their pair
  pub pair_arguments : (c : ℕ) (r m : Expression) →
      Good P file calls calls' slots (ValueOf (types.Class c)) r →
      Good P file calls calls' slots (ValueOf types.Boolean) m →
      (H : Value → Type 0) (base : ℕ) (ls : List Value) (old : List ℕ) (k : List Value → Answers → Evaluated Value)
      (k' : ℕ → List ℕ → low.Answers → low.Course (low.Outcome ℕ)) →
      Holds P slots ls old → length slots ≤ base → base + temporaries r + temporaries m ≤ length old →
      ((x y : Value) (l : List ℕ) → HasType P x (types.Class c) → HasType P y types.Boolean →
      Agrees P H value_word base l (λ q. k (x ∷ y ∷ []) q) (λ q. k' (value_word (pair_of x y)) l q)) →
      Agrees P H value_word base old (λ q. with_value (arguments file.classes calls (More r (More m End)) ls q) k)
      (λ q. low.and_then
      (evaluate calls' (pack (lowered file.classes base r) (lowered file.classes (base + temporaries r) m)) old q)
      k')
  pair_arguments c r m ar am H base ls old k k' h le room f =
      one_argument P file calls calls' H value_word base old r (More m End) ls k _
      (pack_and H base old _ (lowered file.classes base r) (lowered file.classes (base + temporaries r) m) k' (
      then_agrees P _ _ _ _ base base base old _ _ _ _ (omega arith) (omega arith)
      (ar.good base ls old h le (omega arith)) (λ x l hx k1.
      one_argument P file calls calls' H value_word base l m End ls (λ vs q. k (x ∷ vs) q) _ (
      then_agrees P _ _ _ _ base (base + temporaries r) base l _ _ _ _ (omega arith) (omega arith)
      (am.good (base + temporaries r) ls l (holds_kept P slots ls base old l le k1 h) (omega arith)
      (omega (arith, k1.long))) (λ y l2 hy k2.
      subst (λ w. Agrees P H value_word base l2 (λ q. k (x ∷ y ∷ []) q) (λ q. k' w l2 q)) (sym (packed P x y c hx hy))
      (f x y l2 hx hy))))))

  -- `set(r, m)` asks and ends as its words do
  pub set_agrees : (c : ℕ) (e r m : Expression) →
      Good P file calls calls' slots (ValueOf (types.Markable c)) e →
      Good P file calls calls' slots (ValueOf (types.Class c)) r →
      Good P file calls calls' slots (ValueOf types.Boolean) m →
      Good P file calls calls' slots NoValue (Call e SetBoth (More r (More m End)))
  set_agrees c e r m a ar am = record {
    good = λ base ls old h le room.
        let b = base + 0 + temporaries e in
        then_agrees P _ _ _ _ base (base + 0) b old _ _ _ _ (omega arith) (omega arith)
        (a.good (base + 0) ls old h (omega arith) (omega arith)) (λ o l ho k1.
        pair_arguments c r m ar am (HasSort P NoValue) b ls l _ _
        (holds_kept P slots ls (base + 0) old l (omega arith) k1 h) (omega arith) (omega (arith, k1.long))
        (λ x y l2 hx hy.
        null_agrees P _ _ b l2 _ _ _ _ (reference_word P o (types.Markable c) tt ho)
        (perform_agrees P b l2 (act.SetPair (reference_of o) (pair_of x y))
        (act.SetPair (value_word o) (value_word (pair_of x y)))
        (ap (λ n. act.SetPair n (value_word (pair_of x y))) (reference_word P o (types.Markable c) tt ho)))));
  }

  -- `attemptMark(r, m)` asks and ends as its words do
  pub attempt_agrees : (c : ℕ) (e r m : Expression) →
      Good P file calls calls' slots (ValueOf (types.Markable c)) e →
      Good P file calls calls' slots (ValueOf (types.Class c)) r →
      Good P file calls calls' slots (ValueOf types.Boolean) m →
      Good P file calls calls' slots (ValueOf types.Boolean) (Call e Attempt (More r (More m End)))
  attempt_agrees c e r m a ar am = record {
    good = λ base ls old h le room.
        let b = base + 0 + temporaries e in
        then_agrees P _ _ _ _ base (base + 0) b old _ _ _ _ (omega arith) (omega arith)
        (a.good (base + 0) ls old h (omega arith) (omega arith)) (λ o l ho k1.
        one_argument P file calls calls' _ value_word b l r (More m End) ls _ _ (
        then_agrees P _ _ _ _ b b (b + temporaries r) l _ _ _ _ (omega arith) (omega arith)
        (ar.good b ls l (holds_kept P slots ls (base + 0) old l (omega arith) k1 h) (omega arith)
        (omega (arith, k1.long))) (λ x l2 hx k2.
        one_argument P file calls calls' _ value_word (b + temporaries r) l2 m End ls _ _ (
        then_agrees P _ _ _ _ (b + temporaries r) (b + temporaries r) (b + temporaries r) l2 _ _ _ _ (omega arith)
        (omega arith) (am.good (b + temporaries r) ls l2
        (holds_kept P slots ls b l l2 (omega arith) k2 (holds_kept P slots ls (base + 0) old l (omega arith) k1 h))
        (omega arith) (omega (arith, k1.long, k2.long))) (λ y l3 hy k3.
        null_agrees P _ _ (b + temporaries r) l3 _ _ _ _ (reference_word P o (types.Markable c) tt ho)
        (ask_agrees P (b + temporaries r) l3 (act.AttemptMark (reference_of o) (reference_of x) (truth_of y))
        (ValueOf types.Boolean) (act.AttemptMark (value_word o) (value_word x) (words.bool_of (value_word y)))
        (attempt_is _ _ _ _ _ _ (reference_word P o (types.Markable c) tt ho) (reference_word P x (types.Class c) tt hx)
        (ap words.bool_of (truth_word P y hy) ∙ bool_back (truth_of y)))))))));
  }
