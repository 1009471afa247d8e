-- `synchronized`: its checked form, what it may lock, and its slots (JLS 8.4.3.6, 14.19).
use Rattle.std.specs.Prelude.{◌≡◌, ◌+◌, ℕ, true, List, [], ◌∷◌, ◌++◌, codes, Some, None, Ok, Err}
use Rattle.ls_events.specs.declared.value.Value.TheVariants as values
use Rattle.ls_events.specs.declared.value.ValueType.{ValueType}
use Rattle.ls_events.specs.declared.value.ValueType.TheVariants as types
use Rattle.ls_checked.specs.declared.tree.Called.TheVariants as called
use Rattle.ls_checked.specs.CheckedTree as checked
use Rattle.ls_types_elaboration.specs.declared.mismatch.Mismatch.TheVariants as mismatches
use Rattle.ls_types_elaboration.specs.declared.rule.Rule.TheVariants as rules
use Rattle.ls_types_elaboration.specs.declared.static_types.Static.TheVariants.{Of, NullType, Void}
use Rattle.ls_types_elaboration.specs.Trees as parsed
use Rattle.ls_types_elaboration.specs.Scopes.{Slots}
use Rattle.ls_types_elaboration.specs.TypedStatements.{statement}
use Rattle.ls_types_rows.specs.Written.{at, name, one, nothing, self, named, call, items, variable, parameter, int}
use Rattle.ls_types_rows.specs.Written.{block, locals, own}
use Rattle.ls_types_rows.specs.Statements.{body, slots, filled, Breaks, set, declare, loop}
use Rattle.ls_types_rows.specs.Files.{A, Are, Break, checked_method}

-- the object goes into a slot; its monitor is locked, and unlocked after the block
abbrev pub held : ℕ → ℕ → checked.Expression → List checked.Statement → checked.Statement
held slot c object ss = checked.Block (block (
    checked.SetSlot slot object
    ∷ checked.Evaluate (checked.Call (checked.Slot slot) (called.HoldMonitor c) checked.End)
    ∷ checked.Try (checked.Block (block ss)) (checked.Evaluate
    (checked.Call (checked.Slot slot) (called.FreeMonitor c) checked.End)) ∷ []))

-- `length more` slots more; `n` more of the slots have names
abbrev pub with_slots : List ValueType → ℕ → Slots
with_slots more n = record { types = slots.types ++ more; named = slots.named + n }

-- `synchronized (o) { int y = 1; }`: its slot comes before those of its block. Two such statements have two slots,
-- also if one is in the other.
abbrev pub Forms : Type 0
Forms =
    (statement (body None) [] locals slots (parsed.Synchronized (named (codes "o") 1)
    (declare (codes "y") 3 parsed.NoItem))
    ≡ Ok (record {
      tree = held 3 1 (own 6) (checked.SetSlot 4 (int 0) ∷ checked.SetSlot 4 (int 1) ∷ []);
      slots = with_slots (types.Class 1 ∷ types.Int ∷ []) 1;
    }))
    × (statement (body None) [] locals slots
    (parsed.Block (items (parsed.Synchronized (self 1) parsed.NoItem ∷
    parsed.Synchronized (named (codes "n") 2) parsed.NoItem ∷ [])))
    ≡ Ok (record {
      tree = checked.Block (block (held 3 0 (checked.Slot 0) [] ∷ held 4 0 (own 3) [] ∷ []));
      slots = with_slots (types.Class 0 ∷ types.Class 0 ∷ []) 0;
    }))
    × (statement (body None) [] locals slots (parsed.Synchronized (self 1)
    (items (parsed.Synchronized (named (codes "o") 2) (items (set (codes "x") 3 ∷ [])) ∷ [])))
    ≡ Ok (record {
      tree = held 3 0 (checked.Slot 0) (held 4 1 (own 6) (checked.SetSlot 1 (int 1) ∷ []) ∷ []);
      slots = with_slots (types.Class 0 ∷ types.Class 1 ∷ []) 0;
    }))

-- it is no loop, and a jump goes through it
abbrev pub JumpsThrough : Type 0
JumpsThrough =
    (statement (body None) [] locals slots
    (loop None (parsed.Synchronized (self 1) (items (parsed.Break None (at 2) ∷ []))))
    ≡ Ok (record {
      tree = checked.While (checked.Literal (values.Boolean true))
          (held 3 0 (checked.Slot 0) (checked.Break 0 ∷ []));
      slots = with_slots (types.Class 0 ∷ []) 0;
    }))
    × Breaks (parsed.Synchronized (self 1) (items (parsed.Break None (at 2) ∷ []))) rules.NoLoop 2

-- after its block, a local of that block is out of scope
abbrev pub OutOfBlock : Type 0
OutOfBlock = Breaks
    (parsed.Block (items (parsed.Synchronized (self 1) (declare (codes "y") 3 parsed.NoItem) ∷ set (codes "y") 5 ∷ [])))
    rules.UnknownName 5

-- only objects of the file's classes have monitors for texts; the expression is checked before the block
abbrev pub Locked : Type 0
Locked =
    Breaks (parsed.Synchronized (named (codes "l") 1) parsed.NoItem)
    (rules.WrongType (mismatches.NoObject (Of types.Lock))) 1
    × Breaks (parsed.Synchronized (named (codes "r") 1) parsed.NoItem)
    (rules.WrongType (mismatches.NoObject (Of (types.Markable 0)))) 1
    × Breaks (parsed.Synchronized (named (codes "a") 1) parsed.NoItem)
    (rules.WrongType (mismatches.NoObject (Of types.BooleanArray))) 1
    × Breaks (parsed.Synchronized (named (codes "x") 1) parsed.NoItem)
    (rules.WrongType (mismatches.NoObject (Of types.Int))) 1
    × Breaks (parsed.Synchronized (nothing 1) parsed.NoItem) (rules.WrongType (mismatches.NoObject NullType)) 1
    × Breaks (parsed.Synchronized (call (codes "v") [] 1) parsed.NoItem) (rules.WrongType (mismatches.NoObject Void)) 2
    × Breaks (parsed.Synchronized (nothing 1) (items (parsed.Break None (at 2) ∷ [])))
    (rules.WrongType (mismatches.NoObject NullType)) 1
    × Breaks (parsed.Synchronized (named (codes "z") 1) (items (parsed.Break None (at 2) ∷ []))) rules.UnknownName 1

-- the slot of a monitor is none of the 128
abbrev pub NamedSlotsAlone : Type 0
NamedSlotsAlone =
    (statement (body None) [] locals (filled 200 128) (parsed.Synchronized (self 1) parsed.NoItem)
    ≡ Ok (record {
      tree = held 200 0 (checked.Slot 0) [];
      slots = record
          { types = (filled 200 128).types ++ types.Class 0 ∷ []; named = 128 };
    }))
    × (statement (body None) [] locals (filled 200 127) (parsed.Block
    (parsed.Declare (variable parsed.Int (codes "y") 1 None) parsed.NoItem))
    ≡ Ok (record { tree = checked.Block (block (checked.SetSlot 200 (int 0) ∷ [])); slots = filled 201 128 }))
    × (statement (body None) [] locals (filled 128 128) (parsed.Synchronized (self 1)
    (parsed.Declare (variable parsed.Int (codes "y") 1 None) parsed.NoItem))
    ≡ Err (record { rule = rules.Limit; span = at 99 }))

-- a synchronized method locks its own object: the slot comes after those of the parameters, and the lock holds for the
-- whole body
abbrev pub SynchronizedMethods : Type 0
SynchronizedMethods =
    Are (A (parsed.Method true None (name (codes "f") 1) (parameter parsed.Int (codes "x") 2 ∷ [])
    (declare (codes "y") 3 parsed.NoItem) ∷ []))
    (record {
      classes = record { fields = []; constructor = 1 } ∷ [];
      methods =
          record {
            class = 0;
            parameters = 1;
            slots = types.Class 0 ∷ types.Int ∷ types.Class 0 ∷ types.Int ∷ [];
            result = None;
            body = checked.Block
                (block (held 2 0 (checked.Slot 0) (checked.SetSlot 3 (int 0) ∷ checked.SetSlot 3 (int 1) ∷ []) ∷ []));
          }
          ∷ checked_method 0 None [] ∷ [];
    })
    × Break (A (parsed.Method true (Some parsed.Int) (name (codes "f") 1) [] parsed.NoItem ∷ [])) rules.MissingReturn 1
    × Are (A (parsed.Method true (Some parsed.Int) (name (codes "f") 1) []
    (items (parsed.Return (Some (one 2)) (at 3) ∷ [])) ∷ []))
    (record {
      classes = record { fields = []; constructor = 1 } ∷ [];
      methods =
          record {
            class = 0;
            parameters = 0;
            slots = types.Class 0 ∷ types.Class 0 ∷ [];
            result = Some types.Int;
            body = checked.Block (block (held 1 0 (checked.Slot 0) (checked.ReturnValue (int 1) ∷ []) ∷ []));
          }
          ∷ checked_method 0 None [] ∷ [];
    })
