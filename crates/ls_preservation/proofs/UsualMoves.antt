-- What holds of a frame's move and of a thread's, if it holds of each kind of move.
use Rattle.std.proofs.Common.{◌≡◌, ℕ, ◌+◌, Bool, true, false, not, ◌&&◌, ◌==◌, ◌%◌, ◌^◌, nat_le, nat_lt, length, Option}
use Rattle.std.proofs.Common.{Some, None, slice_get, refl, if◌then◌else◌, pos}
use Rattle.ls_events.specs.declared.kind.Kind.{Kind}
use Rattle.ls_events.specs.declared.kind.Kind.TheVariants.{NegativeArraySize}
use Rattle.ls_events.specs.declared.action.Action.{Action}
use Rattle.ls_events.specs.declared.action.Action.TheVariants.{NewArray, Call}
use Rattle.ls_events.specs.declared.action.Answer.{Answer}
use Rattle.ls_code.specs.Words.{int_of}
use Rattle.ls_code.specs.declared.instruction.Resume.{Resume}
use Rattle.ls_code.specs.declared.instruction.Resume.TheVariants.{Settle}
use Rattle.std.specs.Int.RustNames.{int_lt}
use Rattle.ls_code.specs.Code.{Code}
use Rattle.ls_code.specs.Frame.{Frame, top_one, top_two, top_three}
use Rattle.ls_code.specs.Thread.{Thread}
use Rattle.ls_code.specs.Kinds.{kind_of}
use Rattle.ls_code.specs.Moves.{FrameMove, Next, Throws, Stuck, Asks as FrameAsks, Beyond, frame_move, with_room}
use Rattle.ls_code.specs.Moves.{on_one, on_two, on_three, at_object}
use Rattle.ls_code.specs.Calls.{CallMove, Calls, CallThrows, CallStuck, enter_move, call_begun}
use Rattle.ls_code.specs.Steps.{Move, Silent, Still, Asks, silent_or_still, call_move, on_top, on_kind, value_move}
use Rattle.ls_code.specs.Steps.{found_move, wide_move}
use Rattle.ls_code.specs.declared.code.Method.{Method}
use Rattle.ls_code.specs.declared.code.CallResult.{CallResult}
use Rattle.ls_code.specs.declared.instruction.ThreadInstruction.{ThreadInstruction}
use Rattle.ls_code.specs.declared.code.CallResult.TheVariants as result
use Rattle.ls_code.specs.declared.instruction.ThreadInstruction.TheVariants as wide
use Rattle.ls_code.specs.declared.instruction.Instruction.{Instruction}
use Rattle.ls_code.specs.declared.instruction.Instruction.TheVariants as op
use Rattle.ls_preservation.specs.ByWords.{is_on_lock}

-- an instruction of a thread that isn't on a lock's word
abbrev pub IsWide : ThreadInstruction → Type 0
IsWide (wide.See x) = ⊥
IsWide (wide.Take x) = ⊥
IsWide (wide.DropLock x) = ⊥
IsWide i = Unit {0}

-- an instruction that is neither on a lock nor on a lock's word
abbrev pub IsUsual : Instruction → Type 0
IsUsual op.Lock = ⊥
IsUsual op.Unlock = ⊥
IsUsual op.TryLock = ⊥
IsUsual (op.See x) = ⊥
IsUsual (op.Take x) = ⊥
IsUsual (op.DropLock x) = ⊥
IsUsual i = Unit {0}

-- each kind of a frame's move
pub record Frames (P : FrameMove → Type 0) : Type 0 where
  pub next : (f : Frame) → P (Next f)
  pub throws : (k : Kind) → P (Throws k)
  pub stuck : P Stuck
  pub asks : (a : Action ℕ) (r : Resume) → is_on_lock a ≡ false → P (FrameAsks a r)
  pub beyond : (i : ThreadInstruction) → IsWide i → P (Beyond i)

module _ (P : FrameMove → Type 0) (holds : Frames P) where
  open holds use {next, throws, stuck, asks, beyond}

  pub one_all : (o : Option ℕ) (go : ℕ → FrameMove) → ((a : ℕ) → P (go a)) → P (on_one o go)
  one_all None go h = stuck
  one_all (Some a) go h = h a

  two_all : (o : Option (ℕ × ℕ)) (go : ℕ → ℕ → FrameMove) → ((a b : ℕ) → P (go a b)) → P (on_two o go)
  two_all None go h = stuck
  two_all (Some p) go h = h p.0 p.1

  three_all : (o : Option (ℕ × ℕ × ℕ)) (go : ℕ → ℕ → ℕ → FrameMove) →
      ((a b c : ℕ) → P (go a b c)) →
      P (on_three o go)
  three_all None go h = stuck
  three_all (Some p) go h = h p.0 p.1 p.2

  if_all : (b : Bool) (x y : FrameMove) → P x → P y → P (if b then x else y)
  if_all true x y h g = h
  if_all false x y h g = g

  room_all : (f : Frame) (x : FrameMove) → P x → P (with_room f x)
  room_all f x h = if_all (nat_lt (length f.operands) f.need) x Stuck h stuck

  pub object_all : (a : ℕ) (x : FrameMove) → P x → P (at_object a x)
  object_all a x h = if_all (a == 0) (Throws _) x (throws _) h

  -- the move of a usual instruction
  pub frame_all : (i : Instruction) (f : Frame) → IsUsual i → P (frame_move i f)
  frame_all (op.Push x) f h = room_all f _ (next _)
  frame_all (op.Load x) f h = room_all f _ (one_all (slice_get f.locals x) _ (λ a. next _))
  frame_all (op.Store x) f h = one_all (top_one f.operands) _
      (λ a. if_all (nat_lt x (length f.locals)) _ _ (next _) stuck)
  frame_all op.Pop f h = one_all (top_one f.operands) _ (λ a. next _)
  frame_all op.Dup f h = room_all f _ (one_all (top_one f.operands) _ (λ a. next _))
  frame_all op.Add f h = two_all (top_two f.operands) _ (λ a b. next _)
  frame_all op.Sub f h = two_all (top_two f.operands) _ (λ a b. next _)
  frame_all op.Mul f h = two_all (top_two f.operands) _ (λ a b. next _)
  frame_all op.Div f h = two_all (top_two f.operands) _ (λ a b. if_all (b % 2 ^ 32 == 0) _ _ (throws _) (next _))
  frame_all op.Remainder f h = two_all (top_two f.operands) _ (λ a b. if_all (b % 2 ^ 32 == 0) _ _ (throws _) (next _))
  frame_all op.Neg f h = one_all (top_one f.operands) _ (λ a. next _)
  frame_all op.Lt f h = two_all (top_two f.operands) _ (λ a b. next _)
  frame_all op.Le f h = two_all (top_two f.operands) _ (λ a b. next _)
  frame_all op.Gt f h = two_all (top_two f.operands) _ (λ a b. next _)
  frame_all op.Ge f h = two_all (top_two f.operands) _ (λ a b. next _)
  frame_all op.Eq f h = two_all (top_two f.operands) _ (λ a b. next _)
  frame_all op.Ne f h = two_all (top_two f.operands) _ (λ a b. next _)
  frame_all op.Not f h = one_all (top_one f.operands) _ (λ a. next _)
  frame_all (op.Jump x) f h = next _
  frame_all (op.JumpIfFalse x) f h = one_all (top_one f.operands) _ (λ a. if_all (a == 0) _ _ (next _) (next _))
  frame_all (op.JumpIfTrue x) f h = one_all (top_one f.operands) _ (λ a. if_all (a == 1) _ _ (next _) (next _))
  frame_all (op.Turn x) f h = asks _ _ refl
  frame_all (op.GetField x) f h = one_all (top_one f.operands) _ (λ a. object_all a _ (asks _ _ refl))
  frame_all (op.PutField x) f h = two_all (top_two f.operands) _ (λ a v. object_all a _ (asks _ _ refl))
  frame_all op.GetItem f h = two_all (top_two f.operands) _ (λ a i. object_all a _ (asks _ _ refl))
  frame_all op.PutItem f h = three_all (top_three f.operands) _ (λ a i v. object_all a _ (asks _ _ refl))
  frame_all (op.GetName x) f h = room_all f _ (asks _ _ refl)
  frame_all (op.PutName x) f h = one_all (top_one f.operands) _ (λ a. asks _ _ refl)
  frame_all (op.NewObject x) f h = room_all f _ (asks _ _ refl)
  frame_all op.NewLock f h = room_all f _ (asks _ _ refl)
  frame_all op.NewMarkable f h = one_all (top_one f.operands) _ (λ a. asks _ _ refl)
  frame_all op.NewArray f h = one_all (top_one f.operands) _
      (λ a. if_all (int_lt (int_of a) (pos 0)) (Throws NegativeArraySize) (FrameAsks (NewArray (int_of a)) (Settle 1))
      (throws _) (asks _ _ refl))
  frame_all op.Lock f h = absurd h
  frame_all op.Unlock f h = absurd h
  frame_all op.TryLock f h = absurd h
  frame_all op.IsHeld f h = one_all (top_one f.operands) _ (λ a. object_all a _ (asks _ _ refl))
  frame_all op.ReadPair f h = one_all (top_one f.operands) _ (λ a. object_all a _ (asks _ _ refl))
  frame_all op.ReferenceOf f h = one_all (top_one f.operands) _ (λ a. next _)
  frame_all op.MarkOf f h = one_all (top_one f.operands) _ (λ a. next _)
  frame_all op.Pack f h = two_all (top_two f.operands) _ (λ a b. next _)
  frame_all op.SetPair f h = two_all (top_two f.operands) _ (λ a w. object_all a _ (asks _ _ refl))
  frame_all op.SwapPair f h = three_all (top_three f.operands) _ (λ a e n. object_all a _ (asks _ _ refl))
  frame_all op.AttemptMark f h = three_all (top_three f.operands) _ (λ a r m. object_all a _ (asks _ _ refl))
  frame_all op.Halt f h = beyond _ tt
  frame_all (op.See x) f h = absurd h
  frame_all (op.Take x) f h = absurd h
  frame_all (op.DropLock x) f h = absurd h
  frame_all (op.Enter x) f h = beyond _ tt
  frame_all op.Leave f h = beyond _ tt
  frame_all op.LeaveWith f h = beyond _ tt
  frame_all op.Throw f h = beyond _ tt
  frame_all (op.Call x) f h = beyond _ tt
  frame_all (op.Result x) f h = beyond _ tt
  frame_all op.Trap f h = beyond _ tt

-- each kind of a thread's move
pub record Moves (Q : Move → Type 0) : Type 0 where
  pub silent : (t : Thread) → Q (Silent t)
  pub still : Q Still
  pub asks : (a : Action ℕ) (go : Answer ℕ → Option Thread) → is_on_lock a ≡ false → Q (Asks a go)

module _ (Q : Move → Type 0) (holds : Moves Q) where
  open holds use {silent, still, asks}

  pub silent_all : (o : Option Thread) → Q (silent_or_still o)
  silent_all None = still
  silent_all (Some t) = silent t

  call_all : (p : Code) (t : Thread) (x : ℕ) (c : CallMove) → Q (call_move p t x c)
  call_all p t x (Calls callee) = asks _ _ refl
  call_all p t x (CallThrows k) = silent_all _
  call_all p t x CallStuck = still

  found_all : (p : Code) (t : Thread) (x : ℕ) (o : Option Method) → Q (found_move p t x o)
  found_all p t x None = still
  found_all p t x (Some m) = call_all p t x (enter_move m t)

  top_all : (o : Option ℕ) (go : ℕ → Move) → ((a : ℕ) → Q (go a)) → Q (on_top o go)
  top_all None go h = still
  top_all (Some a) go h = h a

  kind_all : (o : Option Kind) (go : Kind → Move) → ((k : Kind) → Q (go k)) → Q (on_kind o go)
  kind_all None go h = still
  kind_all (Some k) go h = h k

  choice_all : (b : Bool) (x y : Move) → Q x → Q y → Q (if b then x else y)
  choice_all true x y h g = h
  choice_all false x y h g = g

  value_all : (t : Thread) (x : ℕ) (o : Option CallResult) → Q (value_move t x o)
  value_all t x None = still
  value_all t x (Some result.Int) = top_all (top_one t.top.operands) _ (λ w. asks _ _ refl)
  value_all t x (Some result.Boolean) = top_all (top_one t.top.operands) _ (λ w. asks _ _ refl)
  value_all t x (Some result.Nothing) = asks _ _ refl

  -- the move of an instruction of a thread that isn't on a lock's word
  pub wide_all : (p : Code) (t : Thread) (i : ThreadInstruction) → IsWide i → Q (wide_move p t i)
  wide_all p t wide.Halt h = silent _
  wide_all p t (wide.Enter x) h = found_all p t x (slice_get p.methods x)
  wide_all p t wide.Leave h = silent_all _
  wide_all p t wide.LeaveWith h = top_all (top_one t.top.operands) _ (λ w. silent_all _)
  wide_all p t wide.Throw h = top_all (top_one t.top.operands) _ (λ w. kind_all (kind_of w) _ (λ k. silent_all _))
  wide_all p t (wide.Call x) h = choice_all (not t.pending && (x == t.ended + 1) && nat_le x (length t.calls))
      (Asks (Call x) (λ answer. Some (call_begun t))) Still (asks _ _ refl) still
  wide_all p t (wide.Result x) h = choice_all (t.pending && (x == t.ended + 1))
      (value_move t x (slice_get t.calls t.ended)) Still (value_all t x (slice_get t.calls t.ended)) still
  wide_all p t wide.Trap h = choice_all t.pending _ _ (top_all (top_one t.top.operands) _
      (λ w. kind_all (kind_of w) _ (λ k. asks _ _ refl))) still
  wide_all p t (wide.See x) h = absurd h
  wide_all p t (wide.Take x) h = absurd h
  wide_all p t (wide.DropLock x) h = absurd h
