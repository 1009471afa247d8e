-- The methods that change the list, behind the loop.
use Rattle.std.proofs.lemmas.Bool.Decides.{Decides-int_eq}
use Rattle.std.proofs.Common.{◌≡◌, ◌≢◌, ◌∙◌, ◌≤◌, not, ℕ, ℤ, Bool, true, false}
use Rattle.std.proofs.Common.{List, [], ◌∷◌, ◌++◌, length, Option, Some, refl, sym, ap, subst, arith}
use Rattle.std.specs.Prelude.{int_lt, nat_eq, if◌then◌else◌}
use Rattle.std.specs.Ordering.{int_eq}
use Rattle.std.proofs.lemmas.Bool.Decides.{nat_tests}
use Rattle.ls_events.specs.declared.value.Value.{Value}
use Rattle.ls_events.specs.declared.value.Value.TheVariants.{Int, Boolean, Reference}
use Rattle.ls_events.specs.declared.action.Action.TheVariants as act
use Rattle.ls_events.specs.declared.action.Answer.TheVariants.{Done as Did, Gives}
use Rattle.ls_checked.specs.CheckedTree.{Statements, Block, Then, Done, Slot, Binary}
use Rattle.ls_meaning.specs.declared.sort.Sort.TheVariants.{NoValue}
use Rattle.ls_meaning.specs.declared.completion.Completion.TheVariants.{Normal, Returned}
use Rattle.ls_meaning.specs.Expressions.{field_of}
use Rattle.ls_meaning.specs.Statements.{Completes, execute_all, then_do}
use Rattle.ls_meaning.specs.Store.{Free, HeldBy, Hold, LockOf, Object, Store, thing_at}
use Rattle.ls_one_at_a_time.specs.CoarseList.{file, key, next}
use Rattle.ls_orders.specs.declared.calls.Operation.TheVariants.{Remove}
use Rattle.ls_coarse_set.proofs.Chain.{AllSmall, Behind, Key, Next, greatest}
use Rattle.ls_coarse_set.proofs.Chain.{keeps_rest, keeps_thing, redirects}
use Rattle.ls_coarse_set.proofs.Chain.{small_back, small_front, written}
use Rattle.ls_coarse_set.proofs.Items.{Rising, first_key, member, removes_one}
use Rattle.ls_coarse_set.proofs.Items.{rising_back, rising_removed}
use Rattle.ls_coarse_set.proofs.Safe.{Courses, Safe, acting}
use Rattle.ls_checked.specs.declared.tree.Operator.TheVariants.{NotEqual}
use Rattle.ls_checked.specs.CheckedTree.{If, Literal, ReturnValue, SetField}
use Rattle.ls_coarse_set.proofs.Methods.{IsDone, IsFrame, IsList, Stands, behind_loop, closes, closing, inside, key_of}
use Rattle.ls_coarse_set.proofs.Methods.{list_changes, not_null, reads, says, writes}

-- ---- the node before isn't the list or its lock

module _ (s : Store) (p c : ℕ) (k : ℤ) (hold : Hold) (f : IsFrame s hold) (link : Next s p c) (node : Key s c k) where
  lock_not : {m : Hold} {fs : List Value} → Some (LockOf hold) ≡ Some (Object m fs) → ⊥
  lock_not e = cc

  c_not_lock : c ≢ 2
  c_not_lock e = lock_not (sym f.lock ∙ ap (thing_at s) (sym e) ∙ node.there)

  second : {m m' : Hold} {x y u v : Value} → Some (Object m (x ∷ u ∷ [])) ≡ Some (Object m' (y ∷ v ∷ [])) → u ≡ v
  second e = cc

  number : {a b : ℕ} → Reference a ≡ Reference b → a ≡ b
  number e = cc

  pub not_lock : 2 ≢ p
  not_lock e = lock_not (sym f.lock ∙ ap (thing_at s) e ∙ link.there)

  pub not_list : 1 ≢ p
  not_list e = c_not_lock (sym (number (second (sym f.object ∙ ap (thing_at s) e ∙ link.there))))

  -- a write to a node leaves the list and its lock
  pub frame_written : (q : ℕ) → IsFrame (written s p q c link) hold
  frame_written q = record {
    names = f.names;
    monitor = f.monitor;
    object = keeps_thing s p q c link 1 not_list ∙ f.object;
    lock = keeps_thing s p q c link 2 not_lock ∙ f.lock;
  }

-- ---- remove

abbrev pub remove_last : Statements
remove_last = Then (SetField (Slot 2) 1 (next (Slot 3))) (Then (ReturnValue (Literal (Boolean true))) Done)

-- what `remove` does after the loop
abbrev pub remove_rest : Statements
remove_rest = Then (If (Binary NotEqual (key (Slot 3)) (Slot 1)) (ReturnValue (Literal (Boolean false))) (Block Done))
    remove_last

not_greatest : (z : ℤ) → int_lt z greatest ≡ true → int_eq greatest z ≡ true → ⊥
not_greatest z a b = grind (arith, nat_tests)

same_item : (c x : Bool) → x ≡ false → x ≡ (if c then false else x)
same_item true x e = e
same_item false x e = refl

there_item : (c x : Bool) → x ≡ true → x ≡ (if c then true else x)
there_item true x e = e
there_item false x e = refl

-- an item that isn't there is none of them
absent : (z i : ℤ) (ks : List ℤ) → member z ks ≡ false → member i ks ≡ (if int_eq z i then false else member i ks)
absent z i ks e = by_test (int_eq z i) refl
  where
    by_test : (b : Bool) → int_eq z i ≡ b → member i ks ≡ (if b then false else member i ks)
    by_test true same = ap (λ x. member x ks) (sym ((Decides-int_eq z i).0 same)) ∙ e
    by_test false same = refl

-- where the item is there, nothing is changed by adding it
pub present : (z i : ℤ) (ks : List ℤ) → member z ks ≡ true → member i ks ≡ (if int_eq z i then true else member i ks)
present z i ks e = by_test (int_eq z i) refl
  where
    by_test : (b : Bool) → int_eq z i ≡ b → member i ks ≡ (if b then true else member i ks)
    by_test true same = ap (λ x. member x ks) (sym ((Decides-int_eq z i).0 same)) ∙ e
    by_test false same = refl

-- keys at the front and at the back are below the greatest int
pub join : (xs ys zs : List ℤ) → AllSmall xs → AllSmall zs → AllSmall (xs ++ zs)
join [] ys zs a b = b
join (x ∷ xs) ys zs a b = (a.0, join xs ys zs a.1 b)

module _ (t n : ℕ) (behind : Courses) (z : ℤ) (ks : List ℤ) (s : Store) (small : int_lt z greatest ≡ true)
    (list : IsList s (HeldBy t 1) ks) where
  abbrev Gone : Option Value → Store → Type 0
  Gone = IsDone Remove z ks

  abbrev Place : List ℤ → List ℤ → ℕ → ℕ → Type 0
  Place = Stands t n behind Gone z ks [] remove_rest s

  abbrev ls : ℕ → ℕ → List Value
  ls p c = Int z ∷ Reference p ∷ Reference c ∷ []

  -- the item isn't there
  not_removed : (before after : List ℤ) (p c : ℕ) → Place before after p c → int_lt (first_key after) z ≡ false →
      int_eq (first_key after) z ≡ false → (k : ℕ) →
      Safe file.classes t n behind Gone k
      (λ q. closing t n behind Gone (Completes (Returned (Some (Boolean false))) (Reference 1 ∷ ls p c) q)) s
  not_removed before after p c st ge no_match =
      let none : member z ks ≡ false =
      says t n behind Gone z ks [] remove_rest s before after p c small list.rising st ge ∙ no_match in
      closes t n behind Gone (Boolean false) (ls p c) s list.frame (record {
        answer = false;
        is = refl;
        items = ks;
        list = list_changes s (HeldBy t 1) Free ks list;
        follows = record { answers = sym none; items = λ i. absent z i ks none };
      })

  module _ (before : List ℤ) (i : ℤ) (is : List ℤ) (p c : ℕ) (st : Place before (i ∷ is) p c) (ge : int_lt i z ≡ false)
      (match : int_eq i z ≡ true) where
    r : ℕ
    r = st.on.1

    abbrev w : Store
    w = written s p st.on.1 c st.next

    rising' : Rising (before ++ i ∷ is)
    rising' = subst Rising (sym st.whole) list.rising

    small' : AllSmall (before ++ i ∷ is)
    small' = subst AllSmall (sym st.whole) list.small

    le_suc : length is ≤ length (i ∷ is)
    le_suc = omega arith

    behind_w : Behind w 3 (before ++ is)
    behind_w = redirects s p st.on.1 c st.next (i ∷ is) (small_back before (i ∷ is) small') st.on before 3 is
        (small_front before (i ∷ is) small') st.way
        (keeps_rest s p st.on.1 c st.next (i ∷ is) (small_back before (i ∷ is) small') st.on is st.on.1
        (small_back before (i ∷ is) small').1 le_suc st.on.3)

    list_w : IsList w (HeldBy t 1) (before ++ is)
    list_w = record {
      frame = frame_written s p c i (HeldBy t 1) list.frame st.next st.on.0 st.on.1;
      behind = behind_w;
      rising = rising_removed i before is rising';
      small = join before is is (small_front before (i ∷ is) small') (small_back before (i ∷ is) small').1;
    }

    z_is : i ≡ z
    z_is = (Decides-int_eq i z).0 match

    there : member z ks ≡ true
    there = says t n behind Gone z ks [] remove_rest s before (i ∷ is) p c small list.rising st ge ∙ match

    items_are : (j : ℤ) → member j (before ++ is) ≡ (if int_eq z j then false else member j ks)
    items_are j =
        removes_one z j before is st.below (subst (λ x. Rising (x ∷ is)) z_is (rising_back before (i ∷ is) rising'))
        ∙ ap (λ x. if int_eq z j then false else member j (before ++ x ∷ is)) (sym z_is)
        ∙ ap (λ l. if int_eq z j then false else member j l) st.whole

    taken_out : (k : ℕ) → Safe file.classes t n behind Gone k
        (λ q. closing t n behind Gone (execute_all file.classes inside remove_last (Reference 1 ∷ ls p c) q)) s
    taken_out = acting file.classes t n behind Gone _
        (λ q. closing t n behind Gone (execute_all file.classes inside remove_last (Reference 1 ∷ ls p c)
        (Gives (Reference st.on.1) ∷ q))) s s (record {
          action = act.ReadField c 1;
          sort = field_of file.classes 0 1;
          answer = Gives (Reference st.on.1);
          asks = rw c_set refl;
          does = reads s t c 1 st.on.2.monitor (st.on.2.key ∷ Reference st.on.1 ∷ []) st.on.2.there;
          silent = λ u. refl;
          on = λ q. refl;
        }) (acting file.classes t n behind Gone _ _ s w (record {
          action = act.WriteField p 1 (Reference st.on.1);
          sort = NoValue;
          answer = Did;
          asks = rw (c_set, p_set) refl;
          does = writes s t p 1 (Reference st.on.1) st.next.monitor (st.next.key ∷ Reference c ∷ []) st.next.there;
          silent = λ u. refl;
          on = λ q. rw (c_set, p_set) refl;
        }) (closes t n behind Gone (Boolean true) (ls p c) w list_w.frame (record {
          answer = true;
          is = refl;
          items = before ++ is;
          list = list_changes w (HeldBy t 1) Free (before ++ is) list_w;
          follows = record { answers = sym there; items = items_are };
        })))
      where
        c_set : nat_eq c 0 ≡ false
        c_set = not_null s c _ st.on.0.there

        p_set : nat_eq p 0 ≡ false
        p_set = not_null s p _ st.next.there

  removed_or_not : (before after : List ℤ) (p c : ℕ) → Place before after p c → int_lt (first_key after) z ≡ false →
      (b : Bool) → int_eq (first_key after) z ≡ b → (k : ℕ) → Safe file.classes t n behind Gone k
      (λ q. closing t n behind Gone (then_do
      (if not b then Completes (Returned (Some (Boolean false))) (Reference 1 ∷ ls p c) q
      else Completes Normal (Reference 1 ∷ ls p c) q) (execute_all file.classes inside remove_last))) s
  removed_or_not before after p c st ge false e = not_removed before after p c st ge e
  removed_or_not before [] p c st ge true e = absurd (not_greatest z small e)
  removed_or_not before (i ∷ is) p c st ge true e = taken_out before i is p c st ge e

  -- `remove` from the end of the loop on
  pub remove_exits : (before after : List ℤ) (p c : ℕ) → Place before after p c → int_lt (first_key after) z ≡ false →
      (k : ℕ) → Safe file.classes t n behind Gone k (behind_loop t n behind Gone z ks [] remove_rest p c) s
  remove_exits before after p c st ge = acting file.classes t n behind Gone _ _ s s (record {
    action = act.ReadField c 0;
    sort = field_of file.classes 0 0;
    answer = Gives (Int (first_key after));
    asks = rw set refl;
    does = reads s t c 0 node.monitor (Int (first_key after) ∷ node.next ∷ []) node.there;
    silent = λ u. refl;
    on = λ q. rw set refl;
  }) (removed_or_not before after p c st ge (int_eq (first_key after) z) refl)
    where
      node : Key s c (first_key after)
      node = key_of t n behind Gone z ks [] remove_rest s c after st.on

      set : nat_eq c 0 ≡ false
      set = not_null s c _ (key_of t n behind Gone z ks [] remove_rest s c after st.on).there
