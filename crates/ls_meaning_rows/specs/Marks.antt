-- What a markable reference holds after an operation (java.util.concurrent.atomic.AtomicMarkableReference). Each text
-- is above its checked file. Then come its thread program, schedule and trace.
use Rattle.std.specs.Prelude.{◌≡◌, true, false, [], ◌∷◌, ◌++◌, replicate, None, Some}
use Rattle.ls_events.specs.declared.value.Value.TheVariants as values
use Rattle.ls_events.specs.declared.value.ValueType.TheVariants as types
use Rattle.ls_events.specs.declared.action.Action.TheVariants.{ReadField, WriteField, ReadName, WriteName, New}
use Rattle.ls_events.specs.declared.action.Action.TheVariants.{NewMarkable, Enter, ReadPair, SetPair, SwapPair}
use Rattle.ls_events.specs.declared.action.Action.TheVariants.{AttemptMark, Return}
use Rattle.ls_events.specs.declared.action.Action.TheVariants as actions
use Rattle.ls_checked.specs.declared.tree.Operator.TheVariants as operators
use Rattle.ls_checked.specs.declared.tree.Called.TheVariants as called
use Rattle.ls_checked.specs.CheckedTree.{Literal, Slot, Field, Not, Binary, And, Or, Call, MakeMarkable, End, More}
use Rattle.ls_checked.specs.CheckedTree.{SetField, Evaluate, ReturnValue}
use Rattle.ls_meaning.specs.Runs.{source_trace}
use Rattle.ls_meaning_rows.specs.Made.{yes, no, null, at, block, one_class, method, making, calling, program, line}
use Rattle.ls_meaning_rows.specs.Made.{done, gives}

-- r holds (this, false): return r.compareAndSet(this, null, true, true) || r.getReference() != this || r.isMarked();
abbrev pub ExpectedMarkIsSet : Type 0
ExpectedMarkIsSet =
    source_trace
    (record {
      classes = (one_class ((types.Markable 0) ∷ []) 1 ∷ []);
      methods =
          (method 0 0 ((types.Class 0) ∷ []) (Some types.Boolean)
          (block ((SetField (Slot 0) 0 (MakeMarkable 0 (More (Slot 0) (More (Literal no) End)))) ∷
          (ReturnValue
          (Or (Or (Call (Field (Slot 0) 0 0) called.CompareAndSet
          (More (Slot 0) (More (Literal null) (More (Literal yes) (More (Literal yes) End)))))
          (Binary operators.NotEqual (Call (Field (Slot 0) 0 0) (called.GetReference 0) End) (Slot 0)))
          (Call (Field (Slot 0) 0 0) (called.IsMarked 0) End))) ∷ []))
          ∷ method 0 0 ((types.Class 0) ∷ []) None (block [])
          ∷ []);
    })
    (program (0 ∷ []) ((making 0 0 [] ∷ []) ∷ (calling 0 0 [] ∷ []) ∷ []))
    (replicate 9 0 ++ replicate 99 1)
    ≡
    (line 0 (actions.Call 1) done
    ∷ line 0 (New 0) (gives (at 1))
    ∷ line 0 (Enter 1) done
    ∷ line 0 (WriteName 0 (at 1)) done
    ∷ line 0 (Return 1 None) done
    ∷ line 1 (actions.Call 1) done
    ∷ line 1 (ReadName 0) (gives (at 1))
    ∷ line 1 (Enter 0) done
    ∷ line 1 (NewMarkable (values.Pair 1 false)) (gives (at 2))
    ∷ line 1 (WriteField 1 0 (at 2)) done
    ∷ line 1 (ReadField 1 0) (gives (at 2))
    ∷ line 1 (SwapPair 2 (values.Pair 1 true) (values.Pair 0 true)) (gives no)
    ∷ line 1 (ReadField 1 0) (gives (at 2))
    ∷ line 1 (ReadPair 2) (gives (values.Pair 1 false))
    ∷ line 1 (ReadField 1 0) (gives (at 2))
    ∷ line 1 (ReadPair 2) (gives (values.Pair 1 false))
    ∷ line 1 (Return 1 (Some no)) done
    ∷ [])

-- r holds (this, false): r.set(null, true); return r.getReference() == null && r.isMarked();
abbrev pub SetIsRead : Type 0
SetIsRead =
    source_trace
    (record {
      classes = (one_class ((types.Markable 0) ∷ []) 1 ∷ []);
      methods =
          (method 0 0 ((types.Class 0) ∷ []) (Some types.Boolean)
          (block ((SetField (Slot 0) 0 (MakeMarkable 0 (More (Slot 0) (More (Literal no) End)))) ∷
          (Evaluate (Call (Field (Slot 0) 0 0) called.SetBoth (More (Literal null) (More (Literal yes) End)))) ∷
          (ReturnValue
          (And (Binary operators.Equal (Call (Field (Slot 0) 0 0) (called.GetReference 0) End) (Literal null))
          (Call (Field (Slot 0) 0 0) (called.IsMarked 0) End))) ∷ []))
          ∷ method 0 0 ((types.Class 0) ∷ []) None (block [])
          ∷ []);
    })
    (program (0 ∷ []) ((making 0 0 [] ∷ []) ∷ (calling 0 0 [] ∷ []) ∷ []))
    (replicate 9 0 ++ replicate 99 1)
    ≡
    (line 0 (actions.Call 1) done
    ∷ line 0 (New 0) (gives (at 1))
    ∷ line 0 (Enter 1) done
    ∷ line 0 (WriteName 0 (at 1)) done
    ∷ line 0 (Return 1 None) done
    ∷ line 1 (actions.Call 1) done
    ∷ line 1 (ReadName 0) (gives (at 1))
    ∷ line 1 (Enter 0) done
    ∷ line 1 (NewMarkable (values.Pair 1 false)) (gives (at 2))
    ∷ line 1 (WriteField 1 0 (at 2)) done
    ∷ line 1 (ReadField 1 0) (gives (at 2))
    ∷ line 1 (SetPair 2 (values.Pair 0 true)) done
    ∷ line 1 (ReadField 1 0) (gives (at 2))
    ∷ line 1 (ReadPair 2) (gives (values.Pair 0 true))
    ∷ line 1 (ReadField 1 0) (gives (at 2))
    ∷ line 1 (ReadPair 2) (gives (values.Pair 0 true))
    ∷ line 1 (Return 1 (Some yes)) done
    ∷ [])

-- r holds (this, false): return r.attemptMark(null, true) || r.isMarked() || r.getReference() != this;
abbrev pub RefusedAttempt : Type 0
RefusedAttempt =
    source_trace
    (record {
      classes = (one_class ((types.Markable 0) ∷ []) 1 ∷ []);
      methods =
          (method 0 0 ((types.Class 0) ∷ []) (Some types.Boolean)
          (block ((SetField (Slot 0) 0 (MakeMarkable 0 (More (Slot 0) (More (Literal no) End)))) ∷
          (ReturnValue
          (Or (Or (Call (Field (Slot 0) 0 0) called.Attempt (More (Literal null) (More (Literal yes) End)))
          (Call (Field (Slot 0) 0 0) (called.IsMarked 0) End))
          (Binary operators.NotEqual (Call (Field (Slot 0) 0 0) (called.GetReference 0) End) (Slot 0)))) ∷ []))
          ∷ method 0 0 ((types.Class 0) ∷ []) None (block [])
          ∷ []);
    })
    (program (0 ∷ []) ((making 0 0 [] ∷ []) ∷ (calling 0 0 [] ∷ []) ∷ []))
    (replicate 9 0 ++ replicate 99 1)
    ≡
    (line 0 (actions.Call 1) done
    ∷ line 0 (New 0) (gives (at 1))
    ∷ line 0 (Enter 1) done
    ∷ line 0 (WriteName 0 (at 1)) done
    ∷ line 0 (Return 1 None) done
    ∷ line 1 (actions.Call 1) done
    ∷ line 1 (ReadName 0) (gives (at 1))
    ∷ line 1 (Enter 0) done
    ∷ line 1 (NewMarkable (values.Pair 1 false)) (gives (at 2))
    ∷ line 1 (WriteField 1 0 (at 2)) done
    ∷ line 1 (ReadField 1 0) (gives (at 2))
    ∷ line 1 (AttemptMark 2 0 true) (gives no)
    ∷ line 1 (ReadField 1 0) (gives (at 2))
    ∷ line 1 (ReadPair 2) (gives (values.Pair 1 false))
    ∷ line 1 (ReadField 1 0) (gives (at 2))
    ∷ line 1 (ReadPair 2) (gives (values.Pair 1 false))
    ∷ line 1 (Return 1 (Some no)) done
    ∷ [])

-- r holds (this, true): return r.attemptMark(this, false) && !r.isMarked() && r.getReference() == this;
abbrev pub AttemptClears : Type 0
AttemptClears =
    source_trace
    (record {
      classes = (one_class ((types.Markable 0) ∷ []) 1 ∷ []);
      methods =
          (method 0 0 ((types.Class 0) ∷ []) (Some types.Boolean)
          (block ((SetField (Slot 0) 0 (MakeMarkable 0 (More (Slot 0) (More (Literal yes) End)))) ∷
          (ReturnValue
          (And (And (Call (Field (Slot 0) 0 0) called.Attempt (More (Slot 0) (More (Literal no) End)))
          (Not (Call (Field (Slot 0) 0 0) (called.IsMarked 0) End)))
          (Binary operators.Equal (Call (Field (Slot 0) 0 0) (called.GetReference 0) End) (Slot 0)))) ∷ []))
          ∷ method 0 0 ((types.Class 0) ∷ []) None (block [])
          ∷ []);
    })
    (program (0 ∷ []) ((making 0 0 [] ∷ []) ∷ (calling 0 0 [] ∷ []) ∷ []))
    (replicate 9 0 ++ replicate 99 1)
    ≡
    (line 0 (actions.Call 1) done
    ∷ line 0 (New 0) (gives (at 1))
    ∷ line 0 (Enter 1) done
    ∷ line 0 (WriteName 0 (at 1)) done
    ∷ line 0 (Return 1 None) done
    ∷ line 1 (actions.Call 1) done
    ∷ line 1 (ReadName 0) (gives (at 1))
    ∷ line 1 (Enter 0) done
    ∷ line 1 (NewMarkable (values.Pair 1 true)) (gives (at 2))
    ∷ line 1 (WriteField 1 0 (at 2)) done
    ∷ line 1 (ReadField 1 0) (gives (at 2))
    ∷ line 1 (AttemptMark 2 1 false) (gives yes)
    ∷ line 1 (ReadField 1 0) (gives (at 2))
    ∷ line 1 (ReadPair 2) (gives (values.Pair 1 false))
    ∷ line 1 (ReadField 1 0) (gives (at 2))
    ∷ line 1 (ReadPair 2) (gives (values.Pair 1 false))
    ∷ line 1 (Return 1 (Some yes)) done
    ∷ [])
