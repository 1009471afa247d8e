-- The methods of the list, each alone on a good store.
use Rattle.std.proofs.lemmas.Option.{none-some}
use Rattle.std.proofs.Common.{◌≡◌, ◌≢◌, ◌⊎◌, inl, inr, ◌∙◌, ◌-◌, ◌≤◌, ℕ, zero, suc, ℤ, Bool, true, false}
use Rattle.std.proofs.Common.{List, [], ◌∷◌, ◌++◌, append_assoc, length, Option, Some, refl, sym, ap, subst}
use Rattle.std.proofs.Common.{arith}
use Rattle.std.specs.Prelude.{int_lt, nat_eq, slice_get, slice_set, slice_index_or, if◌then◌else◌}
use Rattle.std.specs.Ordering.{int_eq}
use Rattle.std.proofs.lemmas.Bool.{cases_eq}
use Rattle.std.proofs.lemmas.Bool.Decides.{nat_tests}
use Rattle.ls_events.specs.declared.value.Value.{Value}
use Rattle.ls_events.specs.declared.value.Value.TheVariants.{Int, Boolean, Reference}
use Rattle.ls_events.specs.declared.value.ValueType.TheVariants as types
use Rattle.ls_events.specs.declared.action.Action.TheVariants as act
use Rattle.ls_events.specs.declared.action.Answer.TheVariants.{Done as Did, Gives, Fails}
use Rattle.ls_checked.specs.declared.tree.Called.TheVariants.{UnlockIt}
use Rattle.ls_checked.specs.declared.tree.Operator.TheVariants.{Less}
use Rattle.ls_checked.specs.CheckedTree.{Class, Expression, Statement, Statements, Block, Then, Done, Evaluate, Call}
use Rattle.ls_checked.specs.CheckedTree.{Field, Slot, Binary}
use Rattle.ls_checked.specs.CheckedTree.{SetSlot, End}
use Rattle.ls_meaning.specs.declared.sort.Sort.TheVariants.{NoValue}
use Rattle.ls_meaning.specs.declared.completion.Completion.TheVariants.{Normal, Returned}
use Rattle.ls_meaning.specs.Values.{nothing}
use Rattle.ls_meaning.specs.Course.{Answers, Evaluated, Results, with_value}
use Rattle.ls_meaning.specs.Expressions.{Calls, evaluate, field_of}
use Rattle.ls_meaning.specs.Statements.{Executed, AsksFor, Completes, after_body, execute, execute_all, finally_do}
use Rattle.ls_meaning.specs.Statements.{one_turn, then_do, turns}
use Rattle.ls_meaning.specs.Methods.{invoke, leave}
use Rattle.ls_meaning.specs.Store.{Free, HeldBy, Hold, LockOf, Object, Store, Thing, thing_at, with_thing}
use Rattle.ls_meaning.specs.Effect.{Does, Effect, at_thing, change, effect, held_less, on_lock, put_back, unlocking}
use Rattle.ls_meaning.specs.Effect.{with_hold}
use Rattle.ls_meaning.specs.Threads.{Goes, Next as NextOf, after_call}
use Rattle.ls_search_laws.proofs.Renaming.{at_suc, with_other, with_same}
use Rattle.ls_one_at_a_time.specs.CoarseList.{file, key, next}
use Rattle.ls_orders.specs.declared.calls.Operation.{Operation}
use Rattle.ls_orders.specs.declared.calls.Operation.TheVariants.{Contains}
use Rattle.ls_orders.specs.Rules.{answer_of, present_after}
use Rattle.ls_coarse_set.proofs.Chain.{AllSmall, Behind, Key, Next, Nowhere, Passes, Rest, Stay, behind_stays, greatest}
use Rattle.ls_coarse_set.proofs.Chain.{passes_more}
use Rattle.ls_coarse_set.proofs.Items.{AllBelow, Rising, below_more, first_key, found, member, passed}
use Rattle.ls_coarse_set.proofs.Items.{rising_back}
use Rattle.ls_coarse_set.proofs.Safe.{Acts, Courses, Safe, acting, returning, same_safe}

-- ---- things

set_same : (ts : List Thing) (n : ℕ) (t : Thing) → slice_get ts n ≡ Some t → slice_set ts n t ≡ ts
set_same [] n t there = absurd (none-some _ there)
set_same (x ∷ ts) zero t there = let e : x ≡ t = cc in ap (λ z. z ∷ ts) (sym e)
set_same (x ∷ ts) (suc n) t there = ap (λ l. x ∷ l) (set_same ts n t there)

pub same_thing : (s : Store) (c : ℕ) (t : Thing) → thing_at s c ≡ Some t → with_thing s c t ≡ s
same_thing s zero t there = absurd (none-some _ there)
same_thing s (suc n) t there =
    let e : suc n - 1 ≡ n = omega arith in
    ap (λ l. record { things = l; names = s.names })
    (ap (λ k. slice_set s.things k t) e ∙ set_same s.things n t (sym (at_suc s n) ∙ there))

-- where a thing is, the reference is not null
pub not_null : (s : Store) (c : ℕ) (t : Thing) → thing_at s c ≡ Some t → nat_eq c 0 ≡ false
not_null s zero t there = absurd (none-some _ there)
not_null s (suc n) t there = grind (arith, nat_tests)

-- a field is read
pub reads : (s : Store) (u c i : ℕ) (m : Hold) (fs : List Value) → thing_at s c ≡ Some (Object m fs) →
    effect file.classes s u (act.ReadField c i) ≡ Does s (Gives (slice_index_or fs i nothing))
reads s u c i m fs there =
    ap (λ t. at_thing s c t (change u (act.ReadField c i))) there
    ∙ ap (λ z. Does z (Gives (slice_index_or fs i nothing))) (same_thing s c (Object m fs) there)

-- a field is written
pub writes : (s : Store) (u c i : ℕ) (v : Value) (m : Hold) (fs : List Value) → thing_at s c ≡ Some (Object m fs) →
    effect file.classes s u (act.WriteField c i v) ≡ Does (with_thing s c (Object m (slice_set fs i v))) Did
writes s u c i v m fs there = ap (λ t. at_thing s c t (change u (act.WriteField c i v))) there

-- ---- the list

-- the name, the object and its lock
pub record IsFrame (s : Store) (hold : Hold) : Type 0 where
  pub names : s.names ≡ Reference 1 ∷ []
  pub monitor : Hold
  pub object : thing_at s 1 ≡ Some (Object monitor (Reference 3 ∷ Reference 2 ∷ []))
  pub lock : thing_at s 2 ≡ Some (LockOf hold)

-- the list has these items
pub record IsList (s : Store) (hold : Hold) (ks : List ℤ) : Type 0 where
  pub frame : IsFrame s hold
  pub behind : Behind s 3 ks
  pub rising : Rising ks
  pub small : AllSmall ks

-- what a call does
pub record Follows (o : Operation) (z : ℤ) (ks : List ℤ) (b : Bool) (js : List ℤ) : Type 0 where
  pub answers : b ≡ answer_of o (member z ks)
  pub items : (i : ℤ) → member i js ≡ (if int_eq z i then present_after o (member i ks) else member i ks)

-- the call answers so, and the list has other items
pub record IsDone (o : Operation) (z : ℤ) (ks : List ℤ) (value : Option Value) (s : Store) : Type 0 where
  pub answer : Bool
  pub is : value ≡ Some (Boolean answer)
  pub items : List ℤ
  pub list : IsList s Free items
  pub follows : Follows o z ks answer items

-- ---- the lock

pub lock_changes : (s : Store) (old new : Hold) → thing_at s 2 ≡ Some (LockOf old) →
    Stay s (with_thing s 2 (LockOf new)) Nowhere
lock_changes s old new there c m fs off at = by_place (cases_eq c 2)
  where
    not_lock : Some (LockOf old) ≡ Some (Object m fs) → ⊥
    not_lock k = cc

    by_place : (c ≡ 2) ⊎ (c ≢ 2) → thing_at (with_thing s 2 (LockOf new)) c ≡ Some (Object m fs)
    by_place (inl e) = absurd (not_lock (sym there ∙ ap (thing_at s) (sym e) ∙ at))
    by_place (inr ne) = with_other s 2 c (LockOf old) (LockOf new) there ne ∙ at

pub frame_changes : (s : Store) (old new : Hold) → IsFrame s old → IsFrame (with_thing s 2 (LockOf new)) new
frame_changes s old new f = record {
  names = f.names;
  monitor = f.monitor;
  object = lock_changes s old new f.lock 1 f.monitor _ (λ h. h) f.object;
  lock = with_same s 2 (LockOf old) (LockOf new) f.lock;
}

-- the list with another hold of its lock
pub list_changes : (s : Store) (old new : Hold) (ks : List ℤ) → IsList s old ks →
    IsList (with_thing s 2 (LockOf new)) new ks
list_changes s old new ks l = record {
  frame = frame_changes s old new l.frame;
  behind = behind_stays s (with_thing s 2 (LockOf new)) (lock_changes s old new l.frame.lock) ks 3 l.behind;
  rising = l.rising;
  small = l.small;
}

-- a thread takes the free lock
pub locks : (s : Store) (u : ℕ) → thing_at s 2 ≡ Some (LockOf Free) →
    effect file.classes s u (act.Lock 2) ≡ Does (with_thing s 2 (LockOf (HeldBy u 1))) Did
locks s u there = ap (λ t. at_thing s 2 t (change u (act.Lock 2))) there

pub own : (u : ℕ) → nat_eq u u ≡ true
own u = grind (arith, nat_tests)

unlocks : (s : Store) (u : ℕ) → thing_at s 2 ≡ Some (LockOf (HeldBy u 1)) →
    effect file.classes s u (act.Unlock 2) ≡ Does (with_thing s 2 (LockOf Free)) Did
unlocks s u there =
    ap (λ t. at_thing s 2 t (change u (act.Unlock 2))) there
    ∙ ap (λ b. put_back s 2 (with_hold LockOf
    (if b then Rattle.ls_meaning.specs.Effect.Becomes
    (held_less u 1) Did else Rattle.ls_meaning.specs.Effect.Becomes (HeldBy u 1)
    (Fails Rattle.ls_events.specs.declared.kind.Kind.TheVariants.IllegalMonitorState)))) (own u)

-- ---- calls

-- the calls that a body makes
abbrev pub inside : Calls
inside = invoke file 63

module _ (t n : ℕ) (behind : Courses) (Good : Option Value → Store → Type 0) where
  abbrev pub Runs : ℕ → Courses → Store → Type 0
  Runs k r s = Safe file.classes t n behind Good k r s

  -- a body, with the unlocking behind
  abbrev pub ending : Executed → NextOf
  ending x = after_call n (with_value (leave (Some types.Boolean) x) (λ v rest. Results (Some v) rest)) behind

  abbrev pub freeing : List Value → Answers → Executed
  freeing = execute file.classes inside (Block (Then (Evaluate (Call (Field (Slot 0) 1 1) UnlockIt End)) Done))

  -- the end of a call
  abbrev pub closing : Executed → NextOf
  closing x = ending (then_do (finally_do x freeing) (λ ls rest. Completes Normal ls rest))

  -- the lock is freed, and the call returns
  pub closes : (v : Value) (ls : List Value) (s : Store) → IsFrame s (HeldBy t 1) →
      Good (Some v) (with_thing s 2 (LockOf Free)) → (k : ℕ) →
      Runs k (λ q. closing (Completes (Returned (Some v)) (Reference 1 ∷ ls) q)) s
  closes v ls s f good = acting file.classes t n behind Good _ second s s (record {
    action = act.ReadField 1 1;
    sort = field_of file.classes 1 1;
    answer = Gives (Reference 2);
    asks = refl;
    does = reads s t 1 1 f.monitor (Reference 3 ∷ Reference 2 ∷ []) f.object;
    silent = λ u. refl;
    on = λ q. refl;
  }) (acting file.classes t n behind Good second third s (with_thing s 2 (LockOf Free)) (record {
    action = act.Unlock 2;
    sort = NoValue;
    answer = Did;
    asks = refl;
    does = unlocks s t f.lock;
    silent = λ u. refl;
    on = λ q. refl;
  }) (returning file.classes t n behind Good third (with_thing s 2 (LockOf Free)) (record {
    value = Some v;
    asks = refl;
    on = λ q. refl;
    good = good;
  })))
    where
      second : Courses
      second q = closing (Completes (Returned (Some v)) (Reference 1 ∷ ls) (Gives (Reference 2) ∷ q))

      third : Courses
      third q = closing (Completes (Returned (Some v)) (Reference 1 ∷ ls) (Gives (Reference 2) ∷ Did ∷ q))

-- ---- the way to the first node that isn't below

pub le_refl : (k : ℕ) → k ≤ k
le_refl k = omega arith

abbrev pub condition : List Value → Answers → Evaluated Value
condition = evaluate file.classes inside (Binary Less (key (Slot 3)) (Slot 1))

abbrev pub forward : List Value → Answers → Executed
forward = execute file.classes inside (Block (Then (SetSlot 2 (Slot 3)) (Then (SetSlot 3 (next (Slot 3))) Done)))

abbrev pub again : ℕ → List Value → Answers → Executed
again zero ls q = AsksFor act.Turn NoValue
again (suc f) ls q = turns f condition forward ls q

turns_are : (f : ℕ) (ls : List Value) (q : Answers) →
    turns f condition forward ls q ≡ one_turn condition forward (again f) ls q
turns_are zero ls q = refl
turns_are (suc f) ls q = refl

abbrev less : ℕ → ℕ
less zero = zero
less (suc f) = f

again_is : (f : ℕ) → 1 ≤ f → (ls : List Value) (q : Answers) → again f ls q ≡ turns (less f) condition forward ls q
again_is zero le ls q = absurd (omega (arith, le))
again_is (suc f) le ls q = refl

less_than : (f m : ℕ) → suc m ≤ f → m ≤ less f
less_than zero m le = absurd (omega (arith, le))
less_than (suc f) m le = omega (arith, le)

more_than : (m f : ℕ) → suc (suc (suc m)) ≤ f → (1 ≤ f) × (suc m ≤ f)
more_than m f le = (omega (arith, le), omega (arith, le))

module _ (t n : ℕ) (behind : Courses) (Good : Option Value → Store → Type 0) (z : ℤ) (ks : List ℤ) (more : List Value)
    (rest : Statements) where
  abbrev pub locals : ℕ → ℕ → List Value
  locals p c = Reference 1 ∷ Int z ∷ Reference p ∷ Reference c ∷ more

  abbrev pub closing' : Executed → NextOf
  closing' = closing t n behind Good

  -- the loop with so much fuel
  abbrev pub looping : ℕ → ℕ → ℕ → Courses
  looping p c f q = closing' (then_do (turns f condition forward (locals p c) q) (execute_all file.classes inside rest))

  -- a method from its loop on
  abbrev pub behind_loop : ℕ → ℕ → Courses
  behind_loop p c q = closing' (execute_all file.classes inside rest (locals p c) q)

  abbrev pub Safely : ℕ → Courses → Store → Type 0
  Safely k r s = Safe file.classes t n behind Good k r s

  -- one action, and then fewer
  step : (k : ℕ) (r later : Courses) (s s' : Store) → Acts file.classes t n behind Good r s later s' →
      ((j : ℕ) → suc j ≡ k → Safely j later s') → Safely k r s
  step zero r later s s' a safe = tt
  step (suc j) r later s s' a safe = inr (later, s', a, safe j refl)

  -- where the loop stands
  pub record Stands (s : Store) (before after : List ℤ) (p c : ℕ) : Type 0 where
    pub way : Passes s 3 before p
    pub next : Next s p c
    pub on : Rest s c after
    pub below : AllBelow z before
    pub whole : before ++ after ≡ ks

  -- the key at the front of a chain
  pub key_of : (s : Store) (c : ℕ) (after : List ℤ) → Rest s c after → Key s c (first_key after)
  key_of s c [] x = x
  key_of s c (k ∷ ks) x = x.0

  module _ (s : Store) (small : int_lt z greatest ≡ true)
      (exits : (before after : List ℤ) (p c : ℕ) → Stands s before after p c → int_lt (first_key after) z ≡ false →
      (k : ℕ) → Safely k (behind_loop p c) s) where
    abbrev Enough : (Answers → ℕ) → Type 0
    Enough fuel = (q : Answers) → length q ≤ fuel q

    -- the loop, if it stands so on fewer steps
    abbrev Holds : ℕ → Type 0
    Holds b = (k : ℕ) → k ≤ b → (before after : List ℤ) (p c : ℕ) → Stands s before after p c → (fuel : Answers → ℕ) →
        Enough fuel →
        Safely k (λ q. looping p c (fuel q) q) s

    module _ (p c : ℕ) (fuel : Answers → ℕ) (set : nat_eq c 0 ≡ false) where
      abbrev one : Answers → NextOf
      one q = closing' (then_do (one_turn condition forward (again (fuel q)) (locals p c) q)
          (execute_all file.classes inside rest))

      one_is : (q : Answers) → looping p c (fuel q) q ≡ one q
      one_is q = ap (λ x. closing' (then_do x (execute_all file.classes inside rest)))
          (turns_are (fuel q) (locals p c) q)

      asks_key : one [] ≡ Goes (act.ReadField c 0) (field_of file.classes 0 0)
      asks_key = rw set refl

      -- behind the first key
      abbrev tested : Bool → (Answers → ℕ) → Courses
      tested b f q = closing' (then_do
          (if b then after_body (forward (locals p c) q) (again (f q)) else Completes Normal (locals p c) q)
          (execute_all file.classes inside rest))

      on_key : (k : ℤ) (q : Answers) → one (Gives (Int k) ∷ q) ≡ tested (int_lt k z) (λ q. fuel (Gives (Int k) ∷ q)) q
      on_key k q = rw set refl

      asks_next : (f : Answers → ℕ) → tested true f [] ≡ Goes (act.ReadField c 1) (field_of file.classes 0 1)
      asks_next f = rw set refl

      abbrev turned : ℕ → (Answers → ℕ) → Courses
      turned r f q = closing' (then_do (Rattle.ls_meaning.specs.Statements.turn_back (again (f q)) (locals c r) q)
          (execute_all file.classes inside rest))

      on_next : (f : Answers → ℕ) (r : ℕ) (q : Answers) → tested true f (Gives (Reference r) ∷ q) ≡
          turned r (λ q. f (Gives (Reference r) ∷ q)) q
      on_next f r q = rw set refl

    module _ (b : ℕ) (fewer : Holds b) (k : ℕ) (le : k ≤ suc b) (before : List ℤ) (p c : ℕ) (fuel : Answers → ℕ)
        (enough : Enough fuel) where
      -- the key is below: one node further
      goes_on : (i : ℤ) (is : List ℤ) (set : nat_eq c 0 ≡ false) → Stands s before (i ∷ is) p c → int_lt i z ≡ true →
          (j : ℕ) → suc j ≡ k →
          Safely j (tested p c fuel set true (λ q. fuel (Gives (Int i) ∷ q))) s
      goes_on i is set st lt j e = step j _ (turned p c fuel set r f2) s s (record {
        action = act.ReadField c 1;
        sort = field_of file.classes 0 1;
        answer = Gives (Reference r);
        asks = asks_next p c fuel set f1;
        does = reads s t c 1 link.monitor (link.key ∷ Reference r ∷ []) link.there;
        silent = λ u. refl;
        on = on_next p c fuel set f1 r;
      }) (λ j2 e2. step j2 _ (λ q. looping c r (less (f3 q)) q) s s (record {
        action = act.Turn;
        sort = NoValue;
        answer = Did;
        asks = refl;
        does = refl;
        silent = λ u. refl;
        on = λ q. ap (λ x. closing' (then_do x (execute_all file.classes inside rest)))
            (again_is (f3 q) (more_than (length q) (f3 q) (enough (Gives (Int i) ∷ Gives (Reference r) ∷ Did ∷ q))).0
            (locals c r) q);
      }) (λ j3 e3. fewer j3 (omega (arith, e, e2, e3, le)) (before ++ i ∷ []) is c r stands (λ q. less (f3 q))
          (λ q. less_than (f3 q) (length q)
          (more_than (length q) (f3 q) (enough (Gives (Int i) ∷ Gives (Reference r) ∷ Did ∷ q))).1)))
        where
          r : ℕ
          r = st.on.1

          link : Next s c st.on.1
          link = st.on.2

          f1 : Answers → ℕ
          f1 q = fuel (Gives (Int i) ∷ q)

          f2 : Answers → ℕ
          f2 q = fuel (Gives (Int i) ∷ Gives (Reference st.on.1) ∷ q)

          f3 : Answers → ℕ
          f3 q = fuel (Gives (Int i) ∷ Gives (Reference st.on.1) ∷ Did ∷ q)

          stands : Stands s (before ++ i ∷ []) is c st.on.1
          stands = record {
            way = passes_more s 3 before p c i st.way st.next st.on.0;
            next = st.on.2;
            on = st.on.3;
            below = below_more z before i st.below lt;
            whole = append_assoc before (i ∷ []) is ∙ st.whole;
          }

      not_above : int_lt greatest z ≡ true → ⊥
      not_above lt = grind (arith, nat_tests)

      by_test : (after : List ℤ) (set : nat_eq c 0 ≡ false) → Stands s before after p c → (x : Bool) →
          int_lt (first_key after) z ≡ x →
          (j : ℕ) → suc j ≡ k → Safely j (tested p c fuel set x (λ q. fuel (Gives (Int (first_key after)) ∷ q))) s
      by_test [] set st true lt j e = absurd (not_above lt)
      by_test (i ∷ is) set st true lt j e = goes_on i is set st lt j e
      by_test after set st false ge j e = exits before after p c st ge j

      turn : (after : List ℤ) → Stands s before after p c → Safely k (λ q. looping p c (fuel q) q) s
      turn after st = same_safe file.classes t n behind Good _ (one p c fuel set) (one_is p c fuel set) s k
          (step k _ (tested p c fuel set (int_lt (first_key after) z) (λ q. fuel (Gives (Int (first_key after)) ∷ q))) s
          s (record {
            action = act.ReadField c 0;
            sort = field_of file.classes 0 0;
            answer = Gives (Int (first_key after));
            asks = asks_key p c fuel set;
            does = reads s t c 0 node.monitor (Int (first_key after) ∷ node.next ∷ []) node.there;
            silent = λ u. refl;
            on = on_key p c fuel set (first_key after);
          }) (λ j e. by_test after set st (int_lt (first_key after) z) refl j e))
        where
          node : Key s c (first_key after)
          node = key_of s c after st.on

          set : nat_eq c 0 ≡ false
          set = not_null s c _ (key_of s c after st.on).there

    holds : (b : ℕ) → Holds b
    holds zero zero le before after p c st fuel enough = tt
    holds zero (suc k) le before after p c st fuel enough = absurd (omega (arith, le))
    holds (suc b) k le before after p c st fuel enough = turn b (holds b) k le before p c fuel enough after st

    -- the loop, from the first node on
    pub looks : (k : ℕ) (after : List ℤ) (c : ℕ) → Stands s [] after 3 c → Safely k (λ q. looping 3 c (length q) q) s
    looks k after c st = holds k k (le_refl k) [] after 3 c st (λ q. length q) (λ q. le_refl (length q))

  -- the first key says whether the item is there
  pub says : (s : Store) (before after : List ℤ) (p c : ℕ) → int_lt z greatest ≡ true → Rising ks →
      Stands s before after p c →
      int_lt (first_key after) z ≡ false → member z ks ≡ int_eq (first_key after) z
  says s before after p c small rising st ge =
      ap (member z) (sym st.whole)
      ∙ passed z before after st.below
      ∙ found z after small (rising_back before after (subst Rising (sym st.whole) rising)) ge

-- ---- contains

-- what `contains` does after the loop
abbrev pub contains_rest : Statements
contains_rest = Then (Rattle.ls_checked.specs.CheckedTree.ReturnValue
    (Binary Rattle.ls_checked.specs.declared.tree.Operator.TheVariants.Equal (key (Slot 3)) (Slot 1))) Done

pub either_same : (b x : Bool) → x ≡ (if b then x else x)
either_same true x = refl
either_same false x = refl

module _ (t n : ℕ) (behind : Courses) (z : ℤ) (ks : List ℤ) (s : Store) (small : int_lt z greatest ≡ true)
    (list : IsList s (HeldBy t 1) ks) where
  -- `contains` from the end of the loop on
  pub contains_exits : (before after : List ℤ) (p c : ℕ) →
      Stands t n behind (IsDone Contains z ks) z ks [] contains_rest s before after p c →
      int_lt (first_key after) z ≡ false →
      (k : ℕ) → Safe file.classes t n behind (IsDone Contains z ks) k
      (behind_loop t n behind (IsDone Contains z ks) z ks [] contains_rest p c) s
  contains_exits before after p c st ge = acting file.classes t n behind (IsDone Contains z ks) _ _ s s (record {
    action = act.ReadField c 0;
    sort = field_of file.classes 0 0;
    answer = Gives (Int (first_key after));
    asks = rw set refl;
    does = reads s t c 0 node.monitor (Int (first_key after) ∷ node.next ∷ []) node.there;
    silent = λ u. refl;
    on = λ q. rw set refl;
  }) (closes t n behind (IsDone Contains z ks) (Boolean (int_eq (first_key after) z))
      (Int z ∷ Reference p ∷ Reference c ∷ []) s list.frame
      (record {
        answer = int_eq (first_key after) z;
        is = refl;
        items = ks;
        list = list_changes s (HeldBy t 1) Free ks list;
        follows = record {
          answers = sym (says t n behind
              (IsDone Contains z ks) z ks [] contains_rest s before after p c small list.rising st ge);
          items = λ i. either_same (int_eq z i) (member i ks);
        };
      }))
    where
      node : Key s c (first_key after)
      node = key_of t n behind (IsDone Contains z ks) z ks [] contains_rest s c after st.on

      set : nat_eq c 0 ≡ false
      set = not_null s c _ (key_of t n behind (IsDone Contains z ks) z ks [] contains_rest s c after st.on).there
