-- Runs of list classes. Each text is above its checked file. Then come its thread program, schedule and trace.
use Rattle.std.specs.Prelude.{◌≡◌, [], ◌∷◌, ◌++◌, replicate, None, Some}
use Rattle.ls_events.specs.declared.value.ValueType.TheVariants as types
use Rattle.ls_events.specs.declared.action.Action.TheVariants.{ReadField, WriteField, ReadItem, WriteItem, ReadName}
use Rattle.ls_events.specs.declared.action.Action.TheVariants.{WriteName, New, NewLock, NewMarkable, NewArray, Lock}
use Rattle.ls_events.specs.declared.action.Action.TheVariants.{Unlock, TryLock, IsHeld, ReadPair, SetPair, SwapPair}
use Rattle.ls_events.specs.declared.action.Action.TheVariants.{AttemptMark, Turn, Enter, Return, Trap}
use Rattle.ls_events.specs.declared.action.Action.TheVariants as actions
use Rattle.ls_checked.specs.declared.tree.Operator.TheVariants as operators
use Rattle.ls_checked.specs.declared.tree.Called.TheVariants as called
use Rattle.ls_checked.specs.CheckedTree.{Literal, Slot, Field, Not, Binary, And, Call, MakeObject, MakeLock, End, More}
use Rattle.ls_checked.specs.CheckedTree.{SetSlot, SetField, Evaluate, If, While, ReturnValue, Try}
use Rattle.ls_meaning.specs.Runs.{source_trace}
use Rattle.ls_meaning_rows.specs.Made.{int, minus, yes, no, null, at, block, one_class, method, making, calling}
use Rattle.ls_meaning_rows.specs.Made.{program, line, done, gives}

-- class Node { int key; Node next; boolean marked; Lock lock = new ReentrantLock(); Node(int k) { key = k; }
-- void lock() { lock.lock(); } void unlock() { lock.unlock(); } }
-- class LazyList {
--   Node head; LazyList() { head = new Node(Integer.MIN_VALUE); head.next = new Node(Integer.MAX_VALUE); }
--   boolean validate(Node pred, Node curr) { return !pred.marked && !curr.marked && pred.next == curr; }
--   boolean add(int item) {
--     while (true) {
--       Node pred = head, curr = pred.next;
--       while (curr.key < item) { pred = curr; curr = curr.next; }
--       pred.lock();
--       try {
--         curr.lock();
--         try {
--           if (validate(pred, curr)) {
--             if (curr.key == item) return false; Node node = new Node(item); node.next = curr; pred.next = node;
--                 return true;
--           }
--         } finally { curr.unlock(); }
--       } finally { pred.unlock(); }
--     }
--   }
--   boolean remove(int item) { .. if (curr.key != item) return false; curr.marked = true; pred.next = curr.next;
--       return true; .. }
--   boolean contains(int item) { Node curr = head; while (curr.key < item) curr = curr.next; return curr.key == item
--       && !curr.marked; }
-- }
abbrev pub LazyList : Type 0
LazyList =
    source_trace
    (record {
      classes = (one_class (types.Int ∷ (types.Class 0) ∷ types.Boolean ∷ types.Lock ∷ []) 0 ∷
          one_class ((types.Class 0) ∷ []) 3 ∷ []);
      methods =
          (method 0 1 ((types.Class 0) ∷ types.Int ∷ []) None
          (block ((SetField (Slot 0) 3 MakeLock) ∷ (SetField (Slot 0) 0 (Slot 1)) ∷ []))
          ∷ method 0 0 ((types.Class 0) ∷ []) None (block ((Evaluate (Call (Field (Slot 0) 0 3) called.LockIt End)) ∷
          []))
          ∷ method 0 0 ((types.Class 0) ∷ []) None (block ((Evaluate (Call (Field (Slot 0) 0 3) called.UnlockIt End)) ∷
          []))
          ∷ method 1 0 ((types.Class 1) ∷ []) None
          (block ((SetField (Slot 0) 0 (MakeObject 0 (More (Literal (minus 2147483648)) End))) ∷
          (SetField (Field (Slot 0) 1 0) 1 (MakeObject 0 (More (Literal (int 2147483647)) End))) ∷ []))
          ∷ method 1 2 ((types.Class 1) ∷ (types.Class 0) ∷ (types.Class 0) ∷ []) (Some types.Boolean)
          (block ((ReturnValue (And (And (Not (Field (Slot 1) 0 2)) (Not (Field (Slot 2) 0 2)))
          (Binary operators.Equal (Field (Slot 1) 0 1) (Slot 2)))) ∷ []))
          ∷ method 1 1 ((types.Class 1) ∷ types.Int ∷ (types.Class 0) ∷ (types.Class 0) ∷ (types.Class 0) ∷ [])
          (Some types.Boolean)
          (block ((While (Literal yes)
          (block ((block ((SetSlot 2 (Literal null)) ∷ (SetSlot 2 (Field (Slot 0) 1 0)) ∷
          (SetSlot 3 (Literal null)) ∷ (SetSlot 3 (Field (Slot 2) 0 1)) ∷ [])) ∷
          (While (Binary operators.Less (Field (Slot 3) 0 0) (Slot 1))
          (block ((SetSlot 2 (Slot 3)) ∷ (SetSlot 3 (Field (Slot 3) 0 1)) ∷ []))) ∷
          (Evaluate (Call (Slot 2) (called.Method 1) End)) ∷
          (Try (block ((Evaluate (Call (Slot 3) (called.Method 1) End)) ∷
          (Try (block
          ((If (Call (Slot 0) (called.Method 4) (More (Slot 2) (More (Slot 3) End)))
          (block ((If (Binary operators.Equal (Field (Slot 3) 0 0) (Slot 1)) (ReturnValue (Literal no)) (block []))
          ∷ (block ((SetSlot 4 (Literal null)) ∷ (SetSlot 4 (MakeObject 0 (More (Slot 1) End))) ∷ [])) ∷
          (SetField (Slot 4) 1 (Slot 3)) ∷ (SetField (Slot 2) 1 (Slot 4)) ∷ (ReturnValue (Literal yes)) ∷ []))
          (block [])) ∷ [])) (block ((Evaluate (Call (Slot 3) (called.Method 2) End)) ∷ []))) ∷ []))
          (block ((Evaluate (Call (Slot 2) (called.Method 2) End)) ∷ []))) ∷ []))) ∷ []))
          ∷ method 1 1 ((types.Class 1) ∷ types.Int ∷ (types.Class 0) ∷ (types.Class 0) ∷ []) (Some types.Boolean)
          (block ((While (Literal yes)
          (block ((block ((SetSlot 2 (Literal null)) ∷ (SetSlot 2 (Field (Slot 0) 1 0)) ∷
          (SetSlot 3 (Literal null)) ∷ (SetSlot 3 (Field (Slot 2) 0 1)) ∷ [])) ∷
          (While (Binary operators.Less (Field (Slot 3) 0 0) (Slot 1))
          (block ((SetSlot 2 (Slot 3)) ∷ (SetSlot 3 (Field (Slot 3) 0 1)) ∷ []))) ∷
          (Evaluate (Call (Slot 2) (called.Method 1) End)) ∷
          (Try (block ((Evaluate (Call (Slot 3) (called.Method 1) End)) ∷
          (Try (block
          ((If (Call (Slot 0) (called.Method 4) (More (Slot 2) (More (Slot 3) End)))
          (block ((If (Binary operators.NotEqual (Field (Slot 3) 0 0) (Slot 1)) (ReturnValue (Literal no))
          (block [])) ∷ (SetField (Slot 3) 2 (Literal yes)) ∷ (SetField (Slot 2) 1 (Field (Slot 3) 0 1)) ∷
          (ReturnValue (Literal yes)) ∷ [])) (block [])) ∷ []))
          (block ((Evaluate (Call (Slot 3) (called.Method 2) End)) ∷ []))) ∷ []))
          (block ((Evaluate (Call (Slot 2) (called.Method 2) End)) ∷ []))) ∷ []))) ∷ []))
          ∷ method 1 1 ((types.Class 1) ∷ types.Int ∷ (types.Class 0) ∷ []) (Some types.Boolean)
          (block ((block ((SetSlot 2 (Literal null)) ∷ (SetSlot 2 (Field (Slot 0) 1 0)) ∷ [])) ∷
          (While (Binary operators.Less (Field (Slot 2) 0 0) (Slot 1)) (SetSlot 2 (Field (Slot 2) 0 1))) ∷
          (ReturnValue (And (Binary operators.Equal (Field (Slot 2) 0 0) (Slot 1)) (Not (Field (Slot 2) 0 2)))) ∷
          []))
          ∷ []);
    })
    (program (1 ∷ []) ((making 0 1 [] ∷ calling 0 5 ((int 3) ∷ []) ∷ []) ∷ (calling 0 7 ((int 3) ∷ []) ∷ []) ∷
    (calling 0 6 ((int 3) ∷ []) ∷ []) ∷ []))
    (replicate 999 0 ++ replicate 8 1 ++ replicate 999 2 ++ replicate 3 1)
    ≡
    (line 0 (actions.Call 1) done
    ∷ line 0 (New 1) (gives (at 1))
    ∷ line 0 (Enter 3) done
    ∷ line 0 (New 0) (gives (at 2))
    ∷ line 0 (Enter 0) done
    ∷ line 0 NewLock (gives (at 3))
    ∷ line 0 (WriteField 2 3 (at 3)) done
    ∷ line 0 (WriteField 2 0 (minus 2147483648)) done
    ∷ line 0 (WriteField 1 0 (at 2)) done
    ∷ line 0 (ReadField 1 0) (gives (at 2))
    ∷ line 0 (New 0) (gives (at 4))
    ∷ line 0 (Enter 0) done
    ∷ line 0 NewLock (gives (at 5))
    ∷ line 0 (WriteField 4 3 (at 5)) done
    ∷ line 0 (WriteField 4 0 (int 2147483647)) done
    ∷ line 0 (WriteField 2 1 (at 4)) done
    ∷ line 0 (WriteName 0 (at 1)) done
    ∷ line 0 (Return 1 None) done
    ∷ line 0 (actions.Call 2) done
    ∷ line 0 (ReadName 0) (gives (at 1))
    ∷ line 0 (Enter 5) done
    ∷ line 0 (ReadField 1 0) (gives (at 2))
    ∷ line 0 (ReadField 2 1) (gives (at 4))
    ∷ line 0 (ReadField 4 0) (gives (int 2147483647))
    ∷ line 0 (Enter 1) done
    ∷ line 0 (ReadField 2 3) (gives (at 3))
    ∷ line 0 (Lock 3) done
    ∷ line 0 (Enter 1) done
    ∷ line 0 (ReadField 4 3) (gives (at 5))
    ∷ line 0 (Lock 5) done
    ∷ line 0 (Enter 4) done
    ∷ line 0 (ReadField 2 2) (gives no)
    ∷ line 0 (ReadField 4 2) (gives no)
    ∷ line 0 (ReadField 2 1) (gives (at 4))
    ∷ line 0 (ReadField 4 0) (gives (int 2147483647))
    ∷ line 0 (New 0) (gives (at 6))
    ∷ line 0 (Enter 0) done
    ∷ line 0 NewLock (gives (at 7))
    ∷ line 0 (WriteField 6 3 (at 7)) done
    ∷ line 0 (WriteField 6 0 (int 3)) done
    ∷ line 0 (WriteField 6 1 (at 4)) done
    ∷ line 0 (WriteField 2 1 (at 6)) done
    ∷ line 0 (Enter 2) done
    ∷ line 0 (ReadField 4 3) (gives (at 5))
    ∷ line 0 (Unlock 5) done
    ∷ line 0 (Enter 2) done
    ∷ line 0 (ReadField 2 3) (gives (at 3))
    ∷ line 0 (Unlock 3) done
    ∷ line 0 (Return 2 (Some yes)) done
    ∷ line 1 (actions.Call 1) done
    ∷ line 1 (ReadName 0) (gives (at 1))
    ∷ line 1 (Enter 7) done
    ∷ line 1 (ReadField 1 0) (gives (at 2))
    ∷ line 1 (ReadField 2 0) (gives (minus 2147483648))
    ∷ line 1 (ReadField 2 1) (gives (at 6))
    ∷ line 1 Turn done
    ∷ line 1 (ReadField 6 0) (gives (int 3))
    ∷ line 2 (actions.Call 1) done
    ∷ line 2 (ReadName 0) (gives (at 1))
    ∷ line 2 (Enter 6) done
    ∷ line 2 (ReadField 1 0) (gives (at 2))
    ∷ line 2 (ReadField 2 1) (gives (at 6))
    ∷ line 2 (ReadField 6 0) (gives (int 3))
    ∷ line 2 (Enter 1) done
    ∷ line 2 (ReadField 2 3) (gives (at 3))
    ∷ line 2 (Lock 3) done
    ∷ line 2 (Enter 1) done
    ∷ line 2 (ReadField 6 3) (gives (at 7))
    ∷ line 2 (Lock 7) done
    ∷ line 2 (Enter 4) done
    ∷ line 2 (ReadField 2 2) (gives no)
    ∷ line 2 (ReadField 6 2) (gives no)
    ∷ line 2 (ReadField 2 1) (gives (at 6))
    ∷ line 2 (ReadField 6 0) (gives (int 3))
    ∷ line 2 (WriteField 6 2 yes) done
    ∷ line 2 (ReadField 6 1) (gives (at 4))
    ∷ line 2 (WriteField 2 1 (at 4)) done
    ∷ line 2 (Enter 2) done
    ∷ line 2 (ReadField 6 3) (gives (at 7))
    ∷ line 2 (Unlock 7) done
    ∷ line 2 (Enter 2) done
    ∷ line 2 (ReadField 2 3) (gives (at 3))
    ∷ line 2 (Unlock 3) done
    ∷ line 2 (Return 1 (Some yes)) done
    ∷ line 1 (ReadField 6 0) (gives (int 3))
    ∷ line 1 (ReadField 6 2) (gives yes)
    ∷ line 1 (Return 1 (Some no)) done
    ∷ [])
