-- The making of the list, from the start.
use Rattle.std.proofs.Common.{◌≡◌, ℕ, pos}
use Rattle.std.proofs.Common.{List, [], ◌∷◌, Option, None, refl}
use Rattle.ls_events.specs.declared.value.Value.{Value}
use Rattle.ls_events.specs.declared.value.Value.TheVariants.{Int, Reference}
use Rattle.ls_events.specs.declared.value.ValueType.TheVariants as types
use Rattle.ls_events.specs.declared.action.Action.{Action}
use Rattle.ls_events.specs.declared.action.Action.TheVariants as act
use Rattle.ls_events.specs.declared.action.Answer.{Answer}
use Rattle.ls_events.specs.declared.action.Answer.TheVariants.{Done as Did, Gives}
use Rattle.ls_checked.specs.CheckedProgram.{Program, ProgramCall}
use Rattle.ls_meaning.specs.declared.sort.Sort.{Sort}
use Rattle.ls_meaning.specs.declared.sort.Sort.TheVariants.{NoValue, NewOf}
use Rattle.ls_meaning.specs.Expressions.{field_of}
use Rattle.ls_meaning.specs.Methods.{depth_limit, invoke}
use Rattle.ls_meaning.specs.Store.{Free, LockOf, Object, Store, Thing}
use Rattle.ls_meaning.specs.Effect.{Does, effect}
use Rattle.ls_meaning.specs.Threads.{Goes, all_calls}
use Rattle.ls_meaning.specs.Runs.{event_of}
use Rattle.ls_one_at_a_time.specs.CoarseList.{file}
use Rattle.ls_coarse_set.proofs.Safe.{Courses, Safe, acting, returning}
use Rattle.ls_coarse_set.proofs.Methods.{IsList}
use Rattle.std.specs.Prelude.{negsuc}
use Rattle.ls_checked.specs.CheckedProgram.{Making}

-- the list is made, without items
abbrev pub IsMade : Option Value → Store → Type 0
IsMade value s = (value ≡ None) × IsList s Free []

module _ (program : Program) (cs : List ProgramCall) (text : List ℕ) where
  abbrev pub rest_calls : Courses
  rest_calls = all_calls file program 2 cs

  -- behind the call's event
  abbrev pub making : Courses
  making q = all_calls file program 1 (Making 0 1 text [] ∷ cs) (Did ∷ q)

  abbrev Safely : ℕ → Courses → Store → Type 0
  Safely = Safe file.classes 0 1 rest_calls IsMade

  go : (r : Courses) (s s' : Store) (a : Action Value) (sort : Sort) (y : Answer Value) → r [] ≡ Goes a sort →
      effect file.classes s 0 a ≡ Does s' y → ((u : ℕ) → event_of u a ≡ None) →
      ((k : ℕ) → Safely k (λ q. r (y ∷ q)) s') → (k : ℕ) → Safely k r s
  go r s s' a sort y asks does silent = acting file.classes 0 1 rest_calls IsMade r (λ q. r (y ∷ q)) s s' (record {
    action = a;
    sort = sort;
    answer = y;
    asks = asks;
    does = does;
    silent = silent;
    on = λ q. refl;
  })

  abbrev least : Value
  least = Int (negsuc 2147483647)

  abbrev most : Value
  most = Int (pos 2147483647)

  abbrev store : List Thing → Value → Store
  store ts v = record { things = ts; names = v ∷ [] }

  abbrev object : Value → Value → Thing
  object a b = Object Free (a ∷ b ∷ [])

  abbrev null : Value
  null = Reference 0

  abbrev zero_key : Value
  zero_key = Int (pos 0)

  abbrev st : List Thing → Store
  st ts = store ts null

  abbrev whole : Store
  whole = store (object (Reference 3) (Reference 2) ∷ LockOf Free ∷ object least (Reference 4) ∷ object most null ∷ [])
      (Reference 1)

  is_list : IsList whole Free []
  is_list = record {
    frame = record { names = refl; monitor = Free; object = refl; lock = refl };
    behind = (
      4,
      record { monitor = Free; key = least; there = refl },
      record { monitor = Free; next = null; there = refl },
    );
    rising = tt;
    small = tt;
  }

  -- `new CoarseList()` makes the list
  pub made : (k : ℕ) → Safely k making (st [])
  unfolding invoke depth_limit
  made =
      go making (st []) (st (object null null ∷ [])) (act.New 1) (NewOf (types.Class 1)) (Gives (Reference 1)) refl refl
      (λ u. refl)
      (go _ _ (st (object null null ∷ [])) (act.Enter 1) NoValue Did refl refl (λ u. refl)
      (go _ _ (st (object null null ∷ LockOf Free ∷ [])) act.NewLock (NewOf types.Lock) (Gives (Reference 2)) refl refl
      (λ u. refl)
      (go _ _ (st (object null (Reference 2) ∷ LockOf Free ∷ []))
      (act.WriteField 1 1 (Reference 2)) NoValue Did refl refl (λ u. refl)
      (go _ _ (st (object null (Reference 2) ∷ LockOf Free ∷ object zero_key null ∷ [])) (act.New 0)
      (NewOf (types.Class 0)) (Gives (Reference 3)) refl refl (λ u. refl)
      (go _ _ (st (object null (Reference 2) ∷ LockOf Free ∷ object zero_key null ∷ []))
      (act.Enter 0) NoValue Did refl refl (λ u. refl)
      (go _ _ (st (object null (Reference 2) ∷ LockOf Free ∷ object least null ∷ []))
      (act.WriteField 3 0 least) NoValue Did refl refl (λ u. refl)
      (go _ _ (st (object (Reference 3) (Reference 2) ∷ LockOf Free ∷ object least null ∷ []))
      (act.WriteField 1 0 (Reference 3)) NoValue Did refl refl (λ u. refl)
      (go _ _ (st (object (Reference 3) (Reference 2) ∷ LockOf Free ∷ object least null ∷ [])) (act.ReadField 1 0)
      (field_of file.classes 1 0) (Gives (Reference 3)) refl refl (λ u. refl)
      (go _ _ (st (object (Reference 3) (Reference 2) ∷ LockOf Free ∷ object least null ∷ object zero_key null ∷ []))
      (act.New 0) (NewOf (types.Class 0)) (Gives (Reference 4)) refl refl (λ u. refl)
      (go _ _ (st (object (Reference 3) (Reference 2) ∷ LockOf Free ∷ object least null ∷ object zero_key null ∷ []))
      (act.Enter 0) NoValue Did refl refl (λ u. refl)
      (go _ _ (st (object (Reference 3) (Reference 2) ∷ LockOf Free ∷ object least null ∷ object most null ∷ []))
      (act.WriteField 4 0 most) NoValue Did refl refl (λ u. refl)
      (go _ _ (st (object (Reference 3) (Reference 2) ∷ LockOf Free ∷ object least
      (Reference 4) ∷ object most null ∷ [])) (act.WriteField 3 1 (Reference 4)) NoValue Did refl refl (λ u. refl)
      (go _ _ whole (act.WriteName 0 (Reference 1)) NoValue Did refl refl (λ u. refl)
      (returning file.classes 0 1 rest_calls IsMade _ whole (record {
        value = None;
        asks = refl;
        on = λ q. refl;
        good = (refl, is_list);
      })))))))))))))))
