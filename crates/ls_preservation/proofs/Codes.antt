-- Without the instructions that exchange a lock's word, no thread has a plan for one.
use Rattle.std.proofs.Common.{◌≡◌, ℕ, true, List, Option, Some, None, slice_get, subst, refl, ap, arith, All}
use Rattle.ls_code.specs.Code.{Code}
use Rattle.ls_code.specs.Frame.{Frame, top_one}
use Rattle.ls_code.specs.Thread.{Thread}
use Rattle.ls_code.specs.Moves.{FrameMove, Next, Throws, Stuck, Asks as FrameAsks, Beyond, frame_move, on_one}
use Rattle.ls_code.specs.Moves.{at_object}
use Rattle.ls_code.specs.Steps.{Move, Plans, of_frame}
use Rattle.ls_code.specs.declared.instruction.Instruction.{Instruction}
use Rattle.ls_code.specs.declared.instruction.Instruction.TheVariants as op
use Rattle.std.proofs.lemmas.Bool.Decides.{nat_tests}
use Rattle.ls_code.specs.Reading.{is_take, is_back_to, is_drop}
use Rattle.ls_preservation.proofs.Lists.{get_within, index_there}
use Rattle.ls_preservation.proofs.UsualMoves.{IsWide, Frames, Moves, one_all, object_all, frame_all, silent_all}
use Rattle.ls_preservation.proofs.UsualMoves.{wide_all}

-- one of all
pub all_get : {A : Type 0} → (P : A → Type 0) (xs : List A) (n : ℕ) (x : A) → All P xs → slice_get xs n ≡ Some x → P x
all_get P xs n x h e = subst P (index_there xs n x x e) (h n x (get_within xs n x e))

abbrev pub IsWhole : Instruction → Type 0
IsWhole (op.See p) = ⊥
IsWhole (op.Take p) = ⊥
IsWhole (op.DropLock x) = ⊥
IsWhole i = Unit {0}

-- a frame has no instruction on a lock's word
abbrev IsPlain : FrameMove → Type 0
IsPlain (Beyond i) = IsWide i
IsPlain d = Unit {0}

frames : Frames IsPlain
frames = record { next = λ f. tt; throws = λ k. tt; stuck = tt; asks = λ a r e. tt; beyond = λ i h. h }

lock_plain : (f : Frame) (go : ℕ → FrameMove) →
    ((a : ℕ) → IsPlain (go a)) →
    IsPlain (on_one (top_one f.operands) (λ a. at_object a (go a)))
lock_plain f go h = one_all IsPlain frames (top_one f.operands) _ (λ a. object_all IsPlain frames a (go a) (h a))

frame_plain : (i : Instruction) (f : Frame) → IsWhole i → IsPlain (frame_move i f)
frame_plain op.Lock f h = lock_plain f _ (λ a. tt)
frame_plain op.Unlock f h = lock_plain f _ (λ a. tt)
frame_plain op.TryLock f h = lock_plain f _ (λ a. tt)
frame_plain (op.See x) f h = absurd h
frame_plain (op.Take x) f h = absurd h
frame_plain (op.DropLock x) f h = absurd h
frame_plain i f h = frame_all IsPlain frames i f tt

-- a thread has no plan
abbrev pub NoPlan : Move → Type 0
NoPlan (Plans go) = ⊥
NoPlan _ = Unit {0}

moves : Moves NoPlan
moves = record { silent = λ t. tt; still = tt; asks = λ a go e. tt }

of_none : (p : Code) (t : Thread) (d : FrameMove) → IsPlain d → NoPlan (of_frame p t d)
of_none p t (Next f) h = tt
of_none p t (Throws k) h = silent_all NoPlan moves _
of_none p t Stuck h = tt
of_none p t (FrameAsks a r) h = tt
of_none p t (Beyond i) h = wide_all NoPlan moves p t i h

-- an instruction on a lock's word, or another
pub data Word (i : Instruction) : Type 0 where
  IsSee : (x : ℕ) → i ≡ op.See x → Word i
  IsTake : (x : ℕ) → i ≡ op.Take x → Word i
  IsDrop : (x : ℕ) → i ≡ op.DropLock x → Word i
  IsAnother : IsWhole i → Word i

-- each instruction is on a lock's word, or another
pub word_of : (i : Instruction) → Word i
word_of op.Halt = IsAnother tt
word_of (op.Push x) = IsAnother tt
word_of (op.Load x) = IsAnother tt
word_of (op.Store x) = IsAnother tt
word_of op.Pop = IsAnother tt
word_of op.Dup = IsAnother tt
word_of op.Add = IsAnother tt
word_of op.Sub = IsAnother tt
word_of op.Mul = IsAnother tt
word_of op.Div = IsAnother tt
word_of op.Remainder = IsAnother tt
word_of op.Neg = IsAnother tt
word_of op.Lt = IsAnother tt
word_of op.Le = IsAnother tt
word_of op.Gt = IsAnother tt
word_of op.Ge = IsAnother tt
word_of op.Eq = IsAnother tt
word_of op.Ne = IsAnother tt
word_of op.Not = IsAnother tt
word_of (op.Jump x) = IsAnother tt
word_of (op.JumpIfFalse x) = IsAnother tt
word_of (op.JumpIfTrue x) = IsAnother tt
word_of (op.Turn x) = IsAnother tt
word_of (op.GetField x) = IsAnother tt
word_of (op.PutField x) = IsAnother tt
word_of op.GetItem = IsAnother tt
word_of op.PutItem = IsAnother tt
word_of (op.GetName x) = IsAnother tt
word_of (op.PutName x) = IsAnother tt
word_of (op.NewObject x) = IsAnother tt
word_of op.NewLock = IsAnother tt
word_of op.NewMarkable = IsAnother tt
word_of op.NewArray = IsAnother tt
word_of op.Lock = IsAnother tt
word_of op.Unlock = IsAnother tt
word_of op.TryLock = IsAnother tt
word_of op.IsHeld = IsAnother tt
word_of (op.See x) = IsSee x refl
word_of (op.Take x) = IsTake x refl
word_of (op.DropLock x) = IsDrop x refl
word_of op.ReadPair = IsAnother tt
word_of op.ReferenceOf = IsAnother tt
word_of op.MarkOf = IsAnother tt
word_of op.Pack = IsAnother tt
word_of op.SetPair = IsAnother tt
word_of op.SwapPair = IsAnother tt
word_of op.AttemptMark = IsAnother tt
word_of (op.Enter x) = IsAnother tt
word_of op.Leave = IsAnother tt
word_of op.LeaveWith = IsAnother tt
word_of op.Throw = IsAnother tt
word_of (op.Call x) = IsAnother tt
word_of (op.Result x) = IsAnother tt
word_of op.Trap = IsAnother tt

-- an instruction that isn't on a lock's word has no plan for one
pub another : (p : Code) (t : Thread) (i : Instruction) → IsWhole i → NoPlan (of_frame p t (frame_move i t.top))
another p t i h = of_none p t (frame_move i t.top) (frame_plain i t.top h)

-- the instruction is the TAKE that is looked for
pub take_there : (x : ℕ) (o : Option Instruction) → is_take x o ≡ true → o ≡ Some (op.Take x)
take_there x None e = cc
take_there x (Some op.Halt) e = cc
take_there x (Some (op.Push y)) e = cc
take_there x (Some (op.Load y)) e = cc
take_there x (Some (op.Store y)) e = cc
take_there x (Some op.Pop) e = cc
take_there x (Some op.Dup) e = cc
take_there x (Some op.Add) e = cc
take_there x (Some op.Sub) e = cc
take_there x (Some op.Mul) e = cc
take_there x (Some op.Div) e = cc
take_there x (Some op.Remainder) e = cc
take_there x (Some op.Neg) e = cc
take_there x (Some op.Lt) e = cc
take_there x (Some op.Le) e = cc
take_there x (Some op.Gt) e = cc
take_there x (Some op.Ge) e = cc
take_there x (Some op.Eq) e = cc
take_there x (Some op.Ne) e = cc
take_there x (Some op.Not) e = cc
take_there x (Some (op.Jump y)) e = cc
take_there x (Some (op.JumpIfFalse y)) e = cc
take_there x (Some (op.JumpIfTrue y)) e = cc
take_there x (Some (op.Turn y)) e = cc
take_there x (Some (op.GetField y)) e = cc
take_there x (Some (op.PutField y)) e = cc
take_there x (Some op.GetItem) e = cc
take_there x (Some op.PutItem) e = cc
take_there x (Some (op.GetName y)) e = cc
take_there x (Some (op.PutName y)) e = cc
take_there x (Some (op.NewObject y)) e = cc
take_there x (Some op.NewLock) e = cc
take_there x (Some op.NewMarkable) e = cc
take_there x (Some op.NewArray) e = cc
take_there x (Some op.Lock) e = cc
take_there x (Some op.Unlock) e = cc
take_there x (Some op.TryLock) e = cc
take_there x (Some op.IsHeld) e = cc
take_there x (Some (op.See y)) e = cc
take_there x (Some (op.Take y)) e = (let s : y ≡ x = grind (arith, nat_tests) in ap (λ z. Some (op.Take z)) s)
take_there x (Some (op.DropLock y)) e = cc
take_there x (Some op.ReadPair) e = cc
take_there x (Some op.ReferenceOf) e = cc
take_there x (Some op.MarkOf) e = cc
take_there x (Some op.Pack) e = cc
take_there x (Some op.SetPair) e = cc
take_there x (Some op.SwapPair) e = cc
take_there x (Some op.AttemptMark) e = cc
take_there x (Some (op.Enter y)) e = cc
take_there x (Some op.Leave) e = cc
take_there x (Some op.LeaveWith) e = cc
take_there x (Some op.Throw) e = cc
take_there x (Some (op.Call y)) e = cc
take_there x (Some (op.Result y)) e = cc
take_there x (Some op.Trap) e = cc

-- the instruction is the jump back that is looked for
pub back_there : (x : ℕ) (o : Option Instruction) → is_back_to x o ≡ true → o ≡ Some (op.JumpIfFalse x)
back_there x None e = cc
back_there x (Some op.Halt) e = cc
back_there x (Some (op.Push y)) e = cc
back_there x (Some (op.Load y)) e = cc
back_there x (Some (op.Store y)) e = cc
back_there x (Some op.Pop) e = cc
back_there x (Some op.Dup) e = cc
back_there x (Some op.Add) e = cc
back_there x (Some op.Sub) e = cc
back_there x (Some op.Mul) e = cc
back_there x (Some op.Div) e = cc
back_there x (Some op.Remainder) e = cc
back_there x (Some op.Neg) e = cc
back_there x (Some op.Lt) e = cc
back_there x (Some op.Le) e = cc
back_there x (Some op.Gt) e = cc
back_there x (Some op.Ge) e = cc
back_there x (Some op.Eq) e = cc
back_there x (Some op.Ne) e = cc
back_there x (Some op.Not) e = cc
back_there x (Some (op.Jump y)) e = cc
back_there x (Some (op.JumpIfFalse y)) e = (let s : y ≡ x = grind (arith, nat_tests) in
    ap (λ z. Some (op.JumpIfFalse z)) s)
back_there x (Some (op.JumpIfTrue y)) e = cc
back_there x (Some (op.Turn y)) e = cc
back_there x (Some (op.GetField y)) e = cc
back_there x (Some (op.PutField y)) e = cc
back_there x (Some op.GetItem) e = cc
back_there x (Some op.PutItem) e = cc
back_there x (Some (op.GetName y)) e = cc
back_there x (Some (op.PutName y)) e = cc
back_there x (Some (op.NewObject y)) e = cc
back_there x (Some op.NewLock) e = cc
back_there x (Some op.NewMarkable) e = cc
back_there x (Some op.NewArray) e = cc
back_there x (Some op.Lock) e = cc
back_there x (Some op.Unlock) e = cc
back_there x (Some op.TryLock) e = cc
back_there x (Some op.IsHeld) e = cc
back_there x (Some (op.See y)) e = cc
back_there x (Some (op.Take y)) e = cc
back_there x (Some (op.DropLock y)) e = cc
back_there x (Some op.ReadPair) e = cc
back_there x (Some op.ReferenceOf) e = cc
back_there x (Some op.MarkOf) e = cc
back_there x (Some op.Pack) e = cc
back_there x (Some op.SetPair) e = cc
back_there x (Some op.SwapPair) e = cc
back_there x (Some op.AttemptMark) e = cc
back_there x (Some (op.Enter y)) e = cc
back_there x (Some op.Leave) e = cc
back_there x (Some op.LeaveWith) e = cc
back_there x (Some op.Throw) e = cc
back_there x (Some (op.Call y)) e = cc
back_there x (Some (op.Result y)) e = cc
back_there x (Some op.Trap) e = cc

-- the instruction is the DROP that is looked for
pub drop_there : (x : ℕ) (o : Option Instruction) → is_drop x o ≡ true → o ≡ Some (op.DropLock x)
drop_there x None e = cc
drop_there x (Some op.Halt) e = cc
drop_there x (Some (op.Push y)) e = cc
drop_there x (Some (op.Load y)) e = cc
drop_there x (Some (op.Store y)) e = cc
drop_there x (Some op.Pop) e = cc
drop_there x (Some op.Dup) e = cc
drop_there x (Some op.Add) e = cc
drop_there x (Some op.Sub) e = cc
drop_there x (Some op.Mul) e = cc
drop_there x (Some op.Div) e = cc
drop_there x (Some op.Remainder) e = cc
drop_there x (Some op.Neg) e = cc
drop_there x (Some op.Lt) e = cc
drop_there x (Some op.Le) e = cc
drop_there x (Some op.Gt) e = cc
drop_there x (Some op.Ge) e = cc
drop_there x (Some op.Eq) e = cc
drop_there x (Some op.Ne) e = cc
drop_there x (Some op.Not) e = cc
drop_there x (Some (op.Jump y)) e = cc
drop_there x (Some (op.JumpIfFalse y)) e = cc
drop_there x (Some (op.JumpIfTrue y)) e = cc
drop_there x (Some (op.Turn y)) e = cc
drop_there x (Some (op.GetField y)) e = cc
drop_there x (Some (op.PutField y)) e = cc
drop_there x (Some op.GetItem) e = cc
drop_there x (Some op.PutItem) e = cc
drop_there x (Some (op.GetName y)) e = cc
drop_there x (Some (op.PutName y)) e = cc
drop_there x (Some (op.NewObject y)) e = cc
drop_there x (Some op.NewLock) e = cc
drop_there x (Some op.NewMarkable) e = cc
drop_there x (Some op.NewArray) e = cc
drop_there x (Some op.Lock) e = cc
drop_there x (Some op.Unlock) e = cc
drop_there x (Some op.TryLock) e = cc
drop_there x (Some op.IsHeld) e = cc
drop_there x (Some (op.See y)) e = cc
drop_there x (Some (op.Take y)) e = cc
drop_there x (Some (op.DropLock y)) e = (let s : y ≡ x = grind (arith, nat_tests) in ap (λ z. Some (op.DropLock z)) s)
drop_there x (Some op.ReadPair) e = cc
drop_there x (Some op.ReferenceOf) e = cc
drop_there x (Some op.MarkOf) e = cc
drop_there x (Some op.Pack) e = cc
drop_there x (Some op.SetPair) e = cc
drop_there x (Some op.SwapPair) e = cc
drop_there x (Some op.AttemptMark) e = cc
drop_there x (Some (op.Enter y)) e = cc
drop_there x (Some op.Leave) e = cc
drop_there x (Some op.LeaveWith) e = cc
drop_there x (Some op.Throw) e = cc
drop_there x (Some (op.Call y)) e = cc
drop_there x (Some (op.Result y)) e = cc
drop_there x (Some op.Trap) e = cc
