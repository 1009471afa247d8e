-- A whole call of a method, alone on a good store.
use Rattle.std.proofs.Common.{◌≡◌, ◌+◌, ℕ, ℤ, true, false}
use Rattle.std.proofs.Common.{List, [], ◌∷◌, length, Option, refl, ap}
use Rattle.std.specs.Prelude.{int_lt, slice_index_or}
use Rattle.ls_events.specs.declared.value.Value.{Value}
use Rattle.ls_events.specs.declared.value.Value.TheVariants.{Int, Reference}
use Rattle.ls_events.specs.declared.value.ValueType.{ValueType}
use Rattle.ls_events.specs.declared.action.Action.TheVariants as act
use Rattle.ls_events.specs.declared.action.Answer.TheVariants.{Done as Did, Gives}
use Rattle.ls_checked.specs.CheckedTree.{Statements, Block, Done}
use Rattle.ls_checked.specs.CheckedProgram.{Program, ProgramCall, Calling}
use Rattle.ls_meaning.specs.declared.sort.Sort.TheVariants.{NoValue}
use Rattle.ls_meaning.specs.Values.{nothing}
use Rattle.ls_meaning.specs.Course.{Answers}
use Rattle.ls_meaning.specs.Expressions.{field_of}
use Rattle.ls_meaning.specs.Statements.{execute, execute_all}
use Rattle.ls_meaning.specs.Methods.{depth_limit, invoke}
use Rattle.ls_meaning.specs.Store.{Free, HeldBy, LockOf, Store, with_thing}
use Rattle.ls_meaning.specs.Effect.{Does}
use Rattle.ls_meaning.specs.Threads.{Goes, all_calls, named}
use Rattle.ls_one_at_a_time.specs.CoarseList.{file, searching}
use Rattle.ls_one_at_a_time.specs.Locked.{locked_body}
use Rattle.ls_orders.specs.declared.calls.Operation.{Operation}
use Rattle.ls_orders.specs.declared.calls.Operation.TheVariants.{Add, Contains, Remove}
use Rattle.ls_coarse_set.proofs.Chain.{greatest}
use Rattle.ls_coarse_set.proofs.Items.{first_key}
use Rattle.ls_coarse_set.proofs.Safe.{Courses, Safe, acting}
use Rattle.ls_coarse_set.proofs.Methods.{IsDone, IsList, Stands, behind_loop, closing, inside}
use Rattle.ls_coarse_set.proofs.Methods.{list_changes, reads}
use Rattle.ls_coarse_set.proofs.Methods.{contains_exits, contains_rest, ending, locks, looks, looping}
use Rattle.ls_coarse_set.proofs.Removing.{remove_exits, remove_rest}
use Rattle.ls_coarse_set.proofs.Adding.{add_exits, add_rest}

module _ (program : Program) (t n : ℕ) (cs : List ProgramCall) (text : List ℕ) (result : Option ValueType) (z : ℤ) where
  abbrev pub behind : Courses
  behind = all_calls file program (n + 1) cs

  -- behind the call's event
  abbrev pub entry : ℕ → Courses
  entry m q = all_calls file program n (Calling 0 m text result (Int z ∷ []) ∷ cs) (Did ∷ q)

  abbrev slots : List Value → List Value
  slots more = Reference 1 ∷ Int z ∷ Reference 0 ∷ Reference 0 ∷ more

  module _ (o : Operation) (ks : List ℤ) where
    abbrev Goal : Option Value → Store → Type 0
    Goal = IsDone o z ks

    abbrev body : List Value → Statements → Courses
    body more rest q = ending t n behind Goal
        (execute file.classes inside (locked_body 1 1 [] (Block (searching rest)) Done) (slots more) q)

    abbrev held : List Value → Statements → Courses
    held more rest q = closing t n behind Goal (execute_all file.classes inside (searching rest) (slots more) q)

    abbrev IsMethod : ℕ → List Value → Statements → Type 0
    IsMethod m more rest = (entry m (Gives (Reference 1) ∷ []) ≡ Goes (act.Enter m) NoValue) ×
        ((q : Answers) → entry m (Gives (Reference 1) ∷ Did ∷ q) ≡ body more rest q)

    module _ (s : Store) (list : IsList s Free ks) (small : int_lt z greatest ≡ true) (m : ℕ) (more : List Value)
        (rest : Statements)
        (method : IsMethod m more rest) where
      abbrev taken : Store
      taken = with_thing s 2 (LockOf (HeldBy t 1))

      l : IsList taken (HeldBy t 1) ks
      l = list_changes s Free (HeldBy t 1) ks list

      abbrev IsExit : Type 0
      IsExit = (before after : List ℤ) (p c : ℕ) →
          Stands t n behind Goal z ks more rest taken before after p c → int_lt (first_key after) z ≡ false →
          (k : ℕ) → Safe file.classes t n behind Goal k (behind_loop t n behind Goal z ks more rest p c) taken

      module _ (exits : IsExit) where
        abbrev c : ℕ
        c = l.behind.0

        loops : (k : ℕ) → Safe file.classes t n behind Goal k
            (λ q. looping t n behind Goal z ks more rest 3 l.behind.0 (length q) q) taken
        loops k = looks t n behind Goal z ks more rest taken small exits k ks l.behind.0 (record {
          way = refl;
          next = l.behind.1;
          on = l.behind.2;
          below = tt;
          whole = refl;
        })

        finds : (k : ℕ) → Safe file.classes t n behind Goal k (held more rest) taken
        finds = acting file.classes t n behind Goal _ (λ q. held more rest (Gives (Reference 3) ∷ q)) taken taken
            (record {
              action = act.ReadField 1 0;
              sort = field_of file.classes 1 0;
              answer = Gives (Reference 3);
              asks = refl;
              does = reads taken t 1 0 l.frame.monitor (Reference 3 ∷ Reference 2 ∷ []) l.frame.object;
              silent = λ u. refl;
              on = λ q. refl;
            }) (acting file.classes t n behind Goal _ _ taken taken (record {
              action = act.ReadField 3 1;
              sort = field_of file.classes 0 1;
              answer = Gives (Reference l.behind.0);
              asks = refl;
              does = reads taken t 3 1 l.behind.1.monitor (l.behind.1.key ∷ Reference l.behind.0 ∷ []) l.behind.1.there;
              silent = λ u. refl;
              on = λ q. refl;
            }) loops)

        pub whole : (k : ℕ) → Safe file.classes t n behind Goal k (entry m) s
        whole = acting file.classes t n behind Goal (entry m) (λ q. entry m (Gives (Reference 1) ∷ q)) s s (record {
          action = act.ReadName 0;
          sort = named program 0;
          answer = Gives (Reference 1);
          asks = refl;
          does = ap (λ ns. Does s (Gives (slice_index_or ns 0 nothing))) list.frame.names;
          silent = λ u. refl;
          on = λ q. refl;
        }) (acting file.classes t n behind Goal _ (body more rest) s s (record {
          action = act.Enter m;
          sort = NoValue;
          answer = Did;
          asks = method.0;
          does = refl;
          silent = λ u. refl;
          on = method.1;
        }) (acting file.classes t n behind Goal _ (λ q. body more rest (Gives (Reference 2) ∷ q)) s s (record {
          action = act.ReadField 1 1;
          sort = field_of file.classes 1 1;
          answer = Gives (Reference 2);
          asks = refl;
          does = reads s t 1 1 list.frame.monitor (Reference 3 ∷ Reference 2 ∷ []) list.frame.object;
          silent = λ u. refl;
          on = λ q. refl;
        }) (acting file.classes t n behind Goal _ (held more rest) s taken (record {
          action = act.Lock 2;
          sort = NoValue;
          answer = Did;
          asks = refl;
          does = locks s t list.frame.lock;
          silent = λ u. refl;
          on = λ q. refl;
        }) finds)))

  is_add : (ks : List ℤ) → IsMethod Add ks 2 (Reference 0 ∷ []) add_rest
  unfolding invoke depth_limit
  is_add ks = (refl, λ q. refl)

  is_remove : (ks : List ℤ) → IsMethod Remove ks 3 [] remove_rest
  unfolding invoke depth_limit
  is_remove ks = (refl, λ q. refl)

  is_contains : (ks : List ℤ) → IsMethod Contains ks 4 [] contains_rest
  unfolding invoke depth_limit
  is_contains ks = (refl, λ q. refl)

  module _ (ks : List ℤ) (s : Store) (list : IsList s Free ks) (small : int_lt z greatest ≡ true) where
    locked : IsList (with_thing s 2 (LockOf (HeldBy t 1))) (HeldBy t 1) ks
    locked = list_changes s Free (HeldBy t 1) ks list

    -- a whole call of `add`
    pub adds : (k : ℕ) → Safe file.classes t n behind (IsDone Add z ks) k (entry 2) s
    adds = whole Add ks s list small 2 (Reference 0 ∷ []) add_rest (is_add ks)
        (add_exits t n behind z ks (with_thing s 2 (LockOf (HeldBy t 1))) small locked)

    -- a whole call of `remove`
    pub removes : (k : ℕ) → Safe file.classes t n behind (IsDone Remove z ks) k (entry 3) s
    removes = whole Remove ks s list small 3 [] remove_rest (is_remove ks)
        (remove_exits t n behind z ks (with_thing s 2 (LockOf (HeldBy t 1))) small locked)

    -- a whole call of `contains`
    pub says_contains : (k : ℕ) → Safe file.classes t n behind (IsDone Contains z ks) k (entry 4) s
    says_contains = whole Contains ks s list small 4 [] contains_rest (is_contains ks)
        (contains_exits t n behind z ks (with_thing s 2 (LockOf (HeldBy t 1))) small locked)
