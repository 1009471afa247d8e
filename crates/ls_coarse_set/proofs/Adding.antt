-- The method that adds an item, behind the loop.
use Rattle.std.proofs.lemmas.Option.{none-some}
use Rattle.std.proofs.Common.{◌≡◌, ◌≢◌, ◌∙◌, ◌≤◌, not, ℕ, suc, ℤ, pos, Bool, true, false}
use Rattle.std.proofs.Common.{List, [], ◌∷◌, ◌++◌, length, Option, Some, None, refl, sym, ap, subst, arith}
use Rattle.std.specs.Prelude.{int_lt, nat_eq, slice_get, slice_set, if◌then◌else◌}
use Rattle.std.specs.Ordering.{int_eq}
use Rattle.ls_events.specs.declared.value.Value.{Value}
use Rattle.ls_events.specs.declared.value.Value.TheVariants.{Int, Boolean, Reference}
use Rattle.ls_events.specs.declared.value.ValueType.TheVariants as types
use Rattle.ls_events.specs.declared.action.Action.TheVariants as act
use Rattle.ls_events.specs.declared.action.Answer.TheVariants.{Done as Did, Gives}
use Rattle.ls_checked.specs.CheckedTree.{Statements, Block, Then, Done, Slot, Binary}
use Rattle.ls_checked.specs.CheckedTree.{SetSlot}
use Rattle.ls_meaning.specs.declared.sort.Sort.TheVariants.{NoValue, NewOf}
use Rattle.ls_meaning.specs.declared.completion.Completion.TheVariants.{Normal, Returned}
use Rattle.ls_meaning.specs.Values.{nothing}
use Rattle.ls_meaning.specs.Course.{Answers, Results, with_value}
use Rattle.ls_meaning.specs.Expressions.{field_of}
use Rattle.ls_meaning.specs.Statements.{Executed, Completes, execute_all, then_do}
use Rattle.ls_meaning.specs.Methods.{enter, invoke}
use Rattle.ls_meaning.specs.Store.{Free, HeldBy, Hold, LockOf, Object, Store, Thing, new_number, thing_at, with_new}
use Rattle.ls_meaning.specs.Store.{with_thing}
use Rattle.ls_meaning.specs.Threads.{Next as NextOf}
use Rattle.ls_search_laws.proofs.Renaming.{at_suc, new_other, with_other, with_same}
use Rattle.ls_one_at_a_time.specs.CoarseList.{file, key}
use Rattle.ls_orders.specs.declared.calls.Operation.TheVariants.{Add}
use Rattle.ls_coarse_set.proofs.Chain.{AllSmall, Behind, Key, Next, Nowhere, Rest, Stay, greatest}
use Rattle.ls_coarse_set.proofs.Chain.{keeps_rest, key_stays, next_stays, passes_stays, redirects, rest_stays}
use Rattle.ls_coarse_set.proofs.Chain.{small_back, small_front}
use Rattle.ls_coarse_set.proofs.Items.{Rising, above_rest, adds_one, first_key, member}
use Rattle.ls_coarse_set.proofs.Items.{rising_added}
use Rattle.ls_coarse_set.proofs.Safe.{Courses, Safe, acting, same_safe}
use Rattle.ls_checked.specs.declared.tree.Operator.TheVariants.{Equal}
use Rattle.ls_checked.specs.CheckedTree.{If, Literal, ReturnValue, SetField}
use Rattle.ls_one_at_a_time.specs.CoarseList.{new_node}
use Rattle.ls_meaning.specs.Statements.{on_value}
use Rattle.ls_coarse_set.proofs.Chain.{keeps_key, keeps_next, passes_stays}
use Rattle.ls_coarse_set.proofs.Methods.{IsDone, IsFrame, IsList, Stands, behind_loop, closes, closing, inside, key_of}
use Rattle.ls_coarse_set.proofs.Methods.{list_changes, not_null, reads, says, writes}
use Rattle.ls_coarse_set.proofs.Removing.{frame_written, join, present}

-- ---- a new node

past : (xs : List Thing) → slice_get xs (length xs) ≡ None
past [] = refl
past (x ∷ xs) = past xs

new_is : (s : Store) → new_number s ≡ suc (length s.things)
new_is s = omega arith

no_thing : (s : Store) → thing_at s (new_number s) ≡ None
no_thing s = ap (thing_at s) (new_is s) ∙ at_suc s (length s.things) ∙ past s.things

last_of : (xs : List Thing) (y : Thing) → slice_get (xs ++ y ∷ []) (length xs) ≡ Some y
last_of [] y = refl
last_of (x ∷ xs) y = last_of xs y

new_there : (s : Store) (x : Thing) → thing_at (with_new s x) (new_number s) ≡ Some x
new_there s x = ap (thing_at (with_new s x)) (new_is s) ∙ at_suc (with_new s x) (length s.things) ∙ last_of s.things x

not_new : (s : Store) (c : ℕ) (x : Thing) → thing_at s c ≡ Some x → c ≢ new_number s
not_new s c x there e = none-some _ (sym (no_thing s) ∙ ap (thing_at s) (sym e) ∙ there)

abbrev node_of : Value → Value → Thing
node_of k r = Object Free (k ∷ r ∷ [])

module _ (s : Store) (z : ℤ) (c : ℕ) where
  abbrev pub made : ℕ
  made = new_number s

  abbrev pub s1 : Store
  s1 = with_new s (node_of (Int (pos 0)) (Reference 0))

  abbrev pub s2 : Store
  s2 = with_thing s1 made (node_of (Int z) (Reference 0))

  abbrev pub s3 : Store
  s3 = with_thing s2 made (node_of (Int z) (Reference c))

  pub there1 : thing_at s1 made ≡ Some (node_of (Int (pos 0)) (Reference 0))
  there1 = new_there s (node_of (Int (pos 0)) (Reference 0))

  pub there2 : thing_at s2 made ≡ Some (node_of (Int z) (Reference 0))
  there2 = with_same s1 made (node_of (Int (pos 0)) (Reference 0)) (node_of (Int z) (Reference 0)) there1

  pub there3 : thing_at s3 made ≡ Some (node_of (Int z) (Reference c))
  there3 = with_same s2 made (node_of (Int z) (Reference 0)) (node_of (Int z) (Reference c)) there2

  pub others_stay : (d : ℕ) (x : Thing) → thing_at s d ≡ Some x → thing_at s3 d ≡ Some x
  others_stay d x at =
      let ne = not_new s d x at in
      with_other s2 made d (node_of (Int z) (Reference 0)) (node_of (Int z) (Reference c)) there2 ne
      ∙ with_other s1 made d (node_of (Int (pos 0)) (Reference 0)) (node_of (Int z) (Reference 0)) there1 ne
      ∙ new_other s d (node_of (Int (pos 0)) (Reference 0)) ne
      ∙ at

  pub stay : Stay s s3 Nowhere
  stay d m fs off at = others_stay d (Object m fs) at

  pub frame_stays : (hold : Hold) → IsFrame s hold → IsFrame s3 hold
  frame_stays hold f = record {
    names = f.names;
    monitor = f.monitor;
    object = others_stay 1 (Object f.monitor (Reference 3 ∷ Reference 2 ∷ [])) f.object;
    lock = others_stay 2 (LockOf hold) f.lock;
  }

-- ---- add

abbrev pub add_last : Statements
add_last = Then (ReturnValue (Literal (Boolean true))) Done

abbrev pub add_second : Statements
add_second = Then (SetField (Slot 2) 1 (Slot 4)) add_last

abbrev pub add_first : Statements
add_first = Then (SetField (Slot 4) 1 (Slot 3)) add_second

abbrev pub add_new : Statements
add_new = Then (SetSlot 4 (Literal (Reference 0))) (Then (SetSlot 4 (new_node (Slot 1))) add_first)

-- what `add` does after the loop
abbrev pub add_rest : Statements
add_rest = Then (If (Binary Equal (key (Slot 3)) (Slot 1)) (ReturnValue (Literal (Boolean false))) (Block Done)) add_new

new_call : (m : ℕ) (z : ℤ) (q : Answers) → inside 0 (Reference m ∷ Int z ∷ []) q ≡
    enter file (invoke file 62) 0 (Reference m ∷ Int z ∷ []) q
unfolding invoke
new_call m z q = refl

builds : (m : ℕ) (z : ℤ) → nat_eq m 0 ≡ false → (q : Answers) →
    enter file (invoke file 62) 0 (Reference m ∷ Int z ∷ []) (Did ∷ Did ∷ q) ≡ Results nothing q
builds m z set q = rw set refl

module _ (t n : ℕ) (behind : Courses) (z : ℤ) (ks : List ℤ) (s : Store) (small : int_lt z greatest ≡ true)
    (list : IsList s (HeldBy t 1) ks) where
  abbrev In : Option Value → Store → Type 0
  In = IsDone Add z ks

  abbrev more : List Value
  more = Reference 0 ∷ []

  abbrev Place : List ℤ → List ℤ → ℕ → ℕ → Type 0
  Place = Stands t n behind In z ks more add_rest s

  abbrev ls : ℕ → ℕ → ℕ → List Value
  ls p c m = Int z ∷ Reference p ∷ Reference c ∷ Reference m ∷ []

  abbrev close : Executed → NextOf
  close = closing t n behind In

  -- the item is there
  not_added : (before after : List ℤ) (p c : ℕ) → Place before after p c → int_lt (first_key after) z ≡ false →
      int_eq (first_key after) z ≡ true → (k : ℕ) →
      Safe file.classes t n behind In k
      (λ q. close (Completes (Returned (Some (Boolean false))) (Reference 1 ∷ ls p c 0) q)) s
  not_added before after p c st ge match =
      let there : member z ks ≡ true = says t n behind In z ks more add_rest s before after p c small list.rising st ge
      ∙ match in
      closes t n behind In (Boolean false) (ls p c 0) s list.frame (record {
        answer = false;
        is = refl;
        items = ks;
        list = list_changes s (HeldBy t 1) Free ks list;
        follows = record { answers = sym (ap not there); items = λ i. present z i ks there };
      })

  module _ (before after : List ℤ) (p c : ℕ) (st : Place before after p c) (ge : int_lt (first_key after) z ≡ false)
      (no_match : int_eq (first_key after) z ≡ false) where
    abbrev m : ℕ
    m = made s z c

    abbrev t3 : Store
    t3 = s3 s z c

    next3 : Next t3 p c
    next3 = next_stays s t3 (stay s z c) p c st.next

    abbrev w : Store
    w = with_thing t3 p (Object st.next.monitor (st.next.key ∷ Reference m ∷ []))

    abbrev link3 : Next t3 p c
    link3 = record {
      monitor = st.next.monitor;
      key = st.next.key;
      there =
          others_stay s z c p (Object st.next.monitor (st.next.key ∷ Reference c ∷ [])) st.next.there;
    }

    node : Key s c (first_key after)
    node = key_of t n behind In z ks more add_rest s c after st.on

    apart : m ≢ p
    apart e = not_new s p _ st.next.there (sym e)

    rising' : Rising (before ++ after)
    rising' = subst Rising (sym st.whole) list.rising

    small' : AllSmall (before ++ after)
    small' = subst AllSmall (sym st.whole) list.small

    rest3 : Rest t3 c after
    rest3 = rest_stays s t3 (stay s z c) after c st.on

    le_same : length after ≤ length after
    le_same = omega arith

    rest_w : Rest w m (z ∷ after)
    rest_w = (
      keeps_key t3 p m c link3 m z (record { monitor = Free; next = Reference c; there = there3 s z c }),
      c,
      keeps_next t3 p m c link3 m c apart (record { monitor = Free; key = Int z; there = there3 s z c }),
      keeps_rest t3 p m c link3 after (small_back before after small') rest3 after c
          (small_back before after small') le_same rest3,
    )

    behind_w : Behind w 3 (before ++ z ∷ after)
    behind_w = redirects t3 p m c link3 after (small_back before after small') rest3 before 3 (z ∷ after)
        (small_front before after small') (passes_stays s t3 (stay s z c) before 3 p st.way) rest_w

    list_w : IsList w (HeldBy t 1) (before ++ z ∷ after)
    list_w = record {
      frame = frame_written t3 p c (first_key after) (HeldBy t 1) (frame_stays s z c (HeldBy t 1) list.frame) link3
          (key_stays s t3 (stay s z c) c (first_key after) node) m;
      behind = behind_w;
      rising = rising_added z before after st.below rising' (above_rest z after ge no_match);
      small = join before [] (z ∷ after) (small_front before after small') (small, small_back before after small');
    }

    none : member z ks ≡ false
    none = says t n behind In z ks more add_rest s before after p c small list.rising st ge ∙ no_match

    items_are : (j : ℤ) → member j (before ++ z ∷ after) ≡ (if int_eq z j then true else member j ks)
    items_are j = adds_one z j before after ∙ ap (λ l. if int_eq z j then true else member j l) st.whole

    c_set : nat_eq c 0 ≡ false
    c_set = not_null s c _ node.there

    p_set : nat_eq p 0 ≡ false
    p_set = not_null s p _ st.next.there

    m_set : nat_eq m 0 ≡ false
    m_set = not_null (s1 s z c) m _ (there1 s z c)

    -- the constructor of the node
    abbrev making : Courses
    making q = close (then_do (on_value
        (with_value (inside 0 (Reference m ∷ Int z ∷ []) q) (λ u rest. Results (Reference m) rest))
        (Reference 1 ∷ ls p c 0) (λ v rest. Completes Normal (slice_set (Reference 1 ∷ ls p c 0) 4 v) rest))
        (execute_all file.classes inside add_first))

    abbrev entered : Courses
    entered q = close (then_do (on_value
        (with_value (enter file (invoke file 62) 0 (Reference m ∷ Int z ∷ []) q) (λ u rest. Results (Reference m) rest))
        (Reference 1 ∷ ls p c 0) (λ v rest. Completes Normal (slice_set (Reference 1 ∷ ls p c 0) 4 v) rest))
        (execute_all file.classes inside add_first))

    making_is : (q : Answers) → making q ≡ entered q
    making_is q = ap (λ x. close (then_do (on_value (with_value x (λ u rest. Results (Reference m) rest))
        (Reference 1 ∷ ls p c 0) (λ v rest. Completes Normal (slice_set (Reference 1 ∷ ls p c 0) 4 v) rest))
        (execute_all file.classes inside add_first))) (new_call m z q)

    abbrev linking : Statements → Courses
    linking ss q = close (execute_all file.classes inside ss (Reference 1 ∷ ls p c m) q)

    ends : (k : ℕ) → Safe file.classes t n behind In k (linking add_last) w
    ends = closes t n behind In (Boolean true) (ls p c m) w list_w.frame (record {
      answer = true;
      is = refl;
      items = before ++ z ∷ after;
      list = list_changes w (HeldBy t 1) Free (before ++ z ∷ after) list_w;
      follows = record { answers = sym (ap not none); items = items_are };
    })

    links : (k : ℕ) → Safe file.classes t n behind In k (linking add_first) (s2 s z c)
    links = acting file.classes t n behind In _ (linking add_second) (s2 s z c) t3 (record {
      action = act.WriteField m 1 (Reference c);
      sort = NoValue;
      answer = Did;
      asks = rw m_set refl;
      does = writes (s2 s z c) t m 1 (Reference c) Free (Int z ∷ Reference 0 ∷ []) (there2 s z c);
      silent = λ u. refl;
      on = λ q. rw m_set refl;
    }) (acting file.classes t n behind In _ (linking add_last) t3 w (record {
      action = act.WriteField p 1 (Reference m);
      sort = NoValue;
      answer = Did;
      asks = rw p_set refl;
      does = writes t3 t p 1 (Reference m) st.next.monitor (st.next.key ∷ Reference c ∷ []) link3.there;
      silent = λ u. refl;
      on = λ q. rw p_set refl;
    }) ends)

    makes : (k : ℕ) → Safe file.classes t n behind In k making (s1 s z c)
    makes k = same_safe file.classes t n behind In making entered making_is (s1 s z c) k
        (acting file.classes t n behind In entered (λ q. entered (Did ∷ q)) (s1 s z c) (s1 s z c) (record {
          action = act.Enter 0;
          sort = NoValue;
          answer = Did;
          asks = refl;
          does = refl;
          silent = λ u. refl;
          on = λ q. refl;
        }) (acting file.classes t n behind In _ (linking add_first) (s1 s z c) (s2 s z c) (record {
          action = act.WriteField m 0 (Int z);
          sort = NoValue;
          answer = Did;
          asks = rw m_set refl;
          does = writes (s1 s z c) t m 0 (Int z) Free (Int (pos 0) ∷ Reference 0 ∷ []) (there1 s z c);
          silent = λ u. refl;
          on = λ q. ap (λ x. close (then_do (on_value (with_value x (λ u rest. Results (Reference m) rest))
              (Reference 1 ∷ ls p c 0) (λ v rest. Completes Normal (slice_set (Reference 1 ∷ ls p c 0) 4 v) rest))
              (execute_all file.classes inside add_first))) (builds m z m_set q);
        }) links) k)

    adds : (k : ℕ) → Safe file.classes t n behind In k
        (λ q. close (execute_all file.classes inside add_new (Reference 1 ∷ ls p c 0) q)) s
    adds = acting file.classes t n behind In _ making s (s1 s z c) (record {
      action = act.New 0;
      sort = NewOf (types.Class 0);
      answer = Gives (Reference m);
      asks = refl;
      does = refl;
      silent = λ u. refl;
      on = λ q. refl;
    }) makes

  added_or_not : (before after : List ℤ) (p c : ℕ) → Place before after p c → int_lt (first_key after) z ≡ false →
      (b : Bool) → int_eq (first_key after) z ≡ b → (k : ℕ) → Safe file.classes t n behind In k
      (λ q. close (then_do (if b then Completes (Returned (Some (Boolean false))) (Reference 1 ∷ ls p c 0) q
      else Completes Normal (Reference 1 ∷ ls p c 0) q) (execute_all file.classes inside add_new))) s
  added_or_not before after p c st ge true e = not_added before after p c st ge e
  added_or_not before after p c st ge false e = adds before after p c st ge e

  -- `add` from the end of the loop on
  pub add_exits : (before after : List ℤ) (p c : ℕ) → Place before after p c → int_lt (first_key after) z ≡ false →
      (k : ℕ) → Safe file.classes t n behind In k (behind_loop t n behind In z ks more add_rest p c) s
  add_exits before after p c st ge = acting file.classes t n behind In _ _ s s (record {
    action = act.ReadField c 0;
    sort = field_of file.classes 0 0;
    answer = Gives (Int (first_key after));
    asks = rw set refl;
    does = reads s t c 0 first.monitor (Int (first_key after) ∷ first.next ∷ []) first.there;
    silent = λ u. refl;
    on = λ q. rw set refl;
  }) (added_or_not before after p c st ge (int_eq (first_key after) z) refl)
    where
      first : Key s c (first_key after)
      first = key_of t n behind In z ks more add_rest s c after st.on

      set : nat_eq c 0 ≡ false
      set = not_null s c _ (key_of t n behind In z ks more add_rest s c after st.on).there
