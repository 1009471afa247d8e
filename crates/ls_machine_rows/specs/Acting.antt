-- The table of instructions, a step of one thread for each case: actions.
use Rattle.std.specs.Prelude.{pos, negsuc, true, false, [], ◌∷◌}
use Rattle.ls_machine_rows.specs.Stages.{Says, memory}
use Rattle.ls_code.specs.declared.instruction.Instruction.TheVariants as op
use Rattle.ls_events.specs.declared.kind.Kind.TheVariants as kinds
use Rattle.ls_events.specs.declared.action.Action.TheVariants as act
use Rattle.ls_events.specs.declared.action.Answer.TheVariants.{Done, Gives, Fails}

-- fields
abbrev pub Fields : Type 0
Fields =
    (Says (op.GetField 1) (2 ∷ []) memory (act.ReadField 2 1) (Gives 31) 1 (31 ∷ []) memory)
    × (Says (op.PutField 1) (9 ∷ 2 ∷ []) memory (act.WriteField 2 1 9) Done 1 [] (2 ∷ 30 ∷ 9 ∷ 2 ∷ 0 ∷ 1 ∷ 11 ∷ 0 ∷ []))
    × (Says (op.PutField 0) (9 ∷ 2 ∷ []) memory (act.WriteField 2 0 9) Done 1 [] (2 ∷ 9 ∷ 31 ∷ 2 ∷ 0 ∷ 1 ∷ 11 ∷ 0 ∷ []))

-- elements; out of range they throw ArrayIndexOutOfBoundsException
abbrev pub Items : Type 0
Items =
    (Says op.GetItem (1 ∷ 4 ∷ []) memory (act.ReadItem 4 (pos 1)) (Gives 1) 1 (1 ∷ []) memory)
    × (Says op.GetItem (2 ∷ 4 ∷ []) memory (act.ReadItem 4 (pos 2)) (Fails kinds.ArrayIndexOutOfBounds) 20 (3 ∷ [])
    memory)
    × (Says op.GetItem (4294967295 ∷ 4 ∷ []) memory (act.ReadItem 4 (negsuc 0)) (Fails kinds.ArrayIndexOutOfBounds) 20
    (3 ∷ []) memory)
    × (Says op.PutItem (1 ∷ 0 ∷ 4 ∷ []) memory (act.WriteItem 4 (pos 0) 1) Done 1 []
    (2 ∷ 30 ∷ 31 ∷ 2 ∷ 1 ∷ 1 ∷ 11 ∷ 0 ∷ []))
    × (Says op.PutItem (1 ∷ 2 ∷ 4 ∷ []) memory (act.WriteItem 4 (pos 2) 1) (Fails kinds.ArrayIndexOutOfBounds) 20
    (3 ∷ []) memory)

-- setup names, and a turn
abbrev pub Names : Type 0
Names =
    (Says (op.GetName 0) [] memory (act.ReadName 0) (Gives 2) 1 (2 ∷ []) memory)
    × (Says (op.PutName 0) (9 ∷ []) memory (act.WriteName 0 9) Done 1 [] (9 ∷ 30 ∷ 31 ∷ 2 ∷ 0 ∷ 1 ∷ 11 ∷ 0 ∷ []))
    × (Says (op.Turn 9) (7 ∷ []) memory (act.Turn) Done 9 (7 ∷ []) memory)

-- makings take the next cells
abbrev pub Makings : Type 0
Makings =
    (Says (op.NewObject 0) [] memory (act.New 0) (Gives 9) 1 (9 ∷ []) (2 ∷ 30 ∷ 31 ∷ 2 ∷ 0 ∷ 1 ∷ 11 ∷ 0 ∷ 0 ∷ 0 ∷ []))
    × (Says op.NewLock [] memory (act.NewLock) (Gives 9) 1 (9 ∷ []) (2 ∷ 30 ∷ 31 ∷ 2 ∷ 0 ∷ 1 ∷ 11 ∷ 0 ∷ 0 ∷ []))
    × (Says op.NewMarkable (11 ∷ []) memory (act.NewMarkable 11) (Gives 9) 1 (9 ∷ [])
    (2 ∷ 30 ∷ 31 ∷ 2 ∷ 0 ∷ 1 ∷ 11 ∷ 0 ∷ 11 ∷ []))
    × (Says op.NewArray (3 ∷ []) memory (act.NewArray (pos 3)) (Gives 9) 1 (9 ∷ [])
    (2 ∷ 30 ∷ 31 ∷ 2 ∷ 0 ∷ 1 ∷ 11 ∷ 0 ∷ 3 ∷ 0 ∷ 0 ∷ 0 ∷ []))
    × (Says op.NewArray (0 ∷ []) memory (act.NewArray (pos 0)) (Gives 9) 1 (9 ∷ [])
    (2 ∷ 30 ∷ 31 ∷ 2 ∷ 0 ∷ 1 ∷ 11 ∷ 0 ∷ 0 ∷ []))

-- the operations of a lock in one step
abbrev pub LocksInOneStep : Type 0
LocksInOneStep =
    (Says op.Lock (8 ∷ []) memory (act.Lock 8) Done 1 [] (2 ∷ 30 ∷ 31 ∷ 2 ∷ 0 ∷ 1 ∷ 11 ∷ 8589934593 ∷ []))
    × (Says op.Lock (8 ∷ []) (2 ∷ 30 ∷ 31 ∷ 2 ∷ 0 ∷ 1 ∷ 11 ∷ 8589934593 ∷ []) (act.Lock 8) Done 1 []
    (2 ∷ 30 ∷ 31 ∷ 2 ∷ 0 ∷ 1 ∷ 11 ∷ 8589934594 ∷ []))
    × (Says op.Lock (8 ∷ []) (2 ∷ 30 ∷ 31 ∷ 2 ∷ 0 ∷ 1 ∷ 11 ∷ 10737418239 ∷ []) (act.Lock 8) (Fails kinds.Error) 20
    (7 ∷ []) (2 ∷ 30 ∷ 31 ∷ 2 ∷ 0 ∷ 1 ∷ 11 ∷ 10737418239 ∷ []))
    × (Says op.TryLock (8 ∷ []) memory (act.TryLock 8) (Gives 1) 1 (1 ∷ [])
    (2 ∷ 30 ∷ 31 ∷ 2 ∷ 0 ∷ 1 ∷ 11 ∷ 8589934593 ∷ []))
    × (Says op.TryLock (8 ∷ []) (2 ∷ 30 ∷ 31 ∷ 2 ∷ 0 ∷ 1 ∷ 11 ∷ 8589934593 ∷ []) (act.TryLock 8) (Gives 1) 1 (1 ∷ [])
    (2 ∷ 30 ∷ 31 ∷ 2 ∷ 0 ∷ 1 ∷ 11 ∷ 8589934594 ∷ []))
    × (Says op.TryLock (8 ∷ []) (2 ∷ 30 ∷ 31 ∷ 2 ∷ 0 ∷ 1 ∷ 11 ∷ 12884901889 ∷ []) (act.TryLock 8) (Gives 0) 1 (0 ∷ [])
    (2 ∷ 30 ∷ 31 ∷ 2 ∷ 0 ∷ 1 ∷ 11 ∷ 12884901889 ∷ []))
    × (Says op.Unlock (8 ∷ []) (2 ∷ 30 ∷ 31 ∷ 2 ∷ 0 ∷ 1 ∷ 11 ∷ 8589934594 ∷ []) (act.Unlock 8) Done 1 []
    (2 ∷ 30 ∷ 31 ∷ 2 ∷ 0 ∷ 1 ∷ 11 ∷ 8589934593 ∷ []))
    × (Says op.Unlock (8 ∷ []) (2 ∷ 30 ∷ 31 ∷ 2 ∷ 0 ∷ 1 ∷ 11 ∷ 8589934593 ∷ []) (act.Unlock 8) Done 1 [] memory)
    × (Says op.Unlock (8 ∷ []) memory (act.Unlock 8) (Fails kinds.IllegalMonitorState) 20 (5 ∷ []) memory)
    × (Says op.Unlock (8 ∷ []) (2 ∷ 30 ∷ 31 ∷ 2 ∷ 0 ∷ 1 ∷ 11 ∷ 12884901889 ∷ []) (act.Unlock 8)
    (Fails kinds.IllegalMonitorState) 20 (5 ∷ []) (2 ∷ 30 ∷ 31 ∷ 2 ∷ 0 ∷ 1 ∷ 11 ∷ 12884901889 ∷ []))
    × (Says op.IsHeld (8 ∷ []) memory (act.IsHeld 8) (Gives 0) 1 (0 ∷ []) memory)
    × (Says op.IsHeld (8 ∷ []) (2 ∷ 30 ∷ 31 ∷ 2 ∷ 0 ∷ 1 ∷ 11 ∷ 8589934594 ∷ []) (act.IsHeld 8) (Gives 1) 1 (1 ∷ [])
    (2 ∷ 30 ∷ 31 ∷ 2 ∷ 0 ∷ 1 ∷ 11 ∷ 8589934594 ∷ []))
    × (Says op.IsHeld (8 ∷ []) (2 ∷ 30 ∷ 31 ∷ 2 ∷ 0 ∷ 1 ∷ 11 ∷ 12884901889 ∷ []) (act.IsHeld 8) (Gives 0) 1 (0 ∷ [])
    (2 ∷ 30 ∷ 31 ∷ 2 ∷ 0 ∷ 1 ∷ 11 ∷ 12884901889 ∷ []))

-- a markable's operations
abbrev pub Markables : Type 0
Markables =
    (Says op.ReadPair (7 ∷ []) memory (act.ReadPair 7) (Gives 11) 1 (11 ∷ []) memory)
    × (Says op.SetPair (4 ∷ 7 ∷ []) memory (act.SetPair 7 4) Done 1 [] (2 ∷ 30 ∷ 31 ∷ 2 ∷ 0 ∷ 1 ∷ 4 ∷ 0 ∷ []))
    × (Says op.SwapPair (4 ∷ 11 ∷ 7 ∷ []) memory (act.SwapPair 7 11 4) (Gives 1) 1 (1 ∷ [])
    (2 ∷ 30 ∷ 31 ∷ 2 ∷ 0 ∷ 1 ∷ 4 ∷ 0 ∷ []))
    × (Says op.SwapPair (4 ∷ 10 ∷ 7 ∷ []) memory (act.SwapPair 7 10 4) (Gives 0) 1 (0 ∷ []) memory)
    × (Says op.AttemptMark (0 ∷ 5 ∷ 7 ∷ []) memory (act.AttemptMark 7 5 false) (Gives 1) 1 (1 ∷ [])
    (2 ∷ 30 ∷ 31 ∷ 2 ∷ 0 ∷ 1 ∷ 10 ∷ 0 ∷ []))
    × (Says op.AttemptMark (1 ∷ 5 ∷ 7 ∷ []) (2 ∷ 30 ∷ 31 ∷ 2 ∷ 0 ∷ 1 ∷ 10 ∷ 0 ∷ []) (act.AttemptMark 7 5 true) (Gives 1)
    1 (1 ∷ []) memory)
    × (Says op.AttemptMark (0 ∷ 4 ∷ 7 ∷ []) memory (act.AttemptMark 7 4 false) (Gives 0) 1 (0 ∷ []) memory)
