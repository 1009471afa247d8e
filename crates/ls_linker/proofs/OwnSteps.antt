-- The silent steps of a thread's own code, one by one.
use Rattle.std.proofs.Common.{◌≡◌, ℕ, ◌+◌, List, length, Option, Some, None, Bool, true, false, not, ◌&&◌, ◌==◌, nat_lt}
use Rattle.std.proofs.Common.{nat_le, refl, sym, ap, ◌∙◌, subst, slice_get, if◌then◌else◌}
use Rattle.std.proofs.lemmas.Option.{none-some, same_Some}
use Rattle.ls_events.specs.declared.kind.Kind.{Kind}
use Rattle.ls_code.specs.Code.{Code}
use Rattle.ls_code.specs.Frame.{Frame, top_one}
use Rattle.ls_code.specs.Thread.{Thread}
use Rattle.ls_code.specs.Moves.{FrameMove, Next, Throws, Stuck, Asks as FrameAsks, Beyond, frame_move, with_room}
use Rattle.ls_code.specs.Moves.{on_one}
use Rattle.ls_events.specs.declared.action.Action.TheVariants as act
use Rattle.ls_code.specs.Calls.{CallMove, Calls, CallThrows, CallStuck, enter_move, call_begun, call_trapped}
use Rattle.ls_code.specs.Kinds.{kind_of}
use Rattle.ls_code.specs.Throws.{find_row, caught, onto, thrown}
use Rattle.ls_code.specs.Steps.{Move, Silent, Still, Asks, Plans, silent_or_still, thrown_thread, throw_move, call_move}
use Rattle.ls_code.specs.Steps.{on_top, on_kind, found_move, of_frame, fetched_move, thread_move, value_move}
use Rattle.ls_code.specs.declared.code.CallResult.{CallResult}
use Rattle.ls_code.specs.declared.code.CallResult.TheVariants as result
use Rattle.ls_code.specs.declared.code.Method.{Method as MethodRow}
use Rattle.ls_code.specs.declared.code.HandlerRow.{HandlerRow}
use Rattle.ls_code.specs.declared.instruction.Instruction.{Instruction}
use Rattle.ls_code.specs.declared.instruction.Instruction.TheVariants as op
use Rattle.ls_code.specs.declared.step.Mode.TheVariants as mode

-- the instructions of a thread's own code
abbrev pub IsOwn : Instruction → Type 0
IsOwn (op.Push v) = Unit {0}
IsOwn op.Dup = Unit {0}
IsOwn op.Pop = Unit {0}
IsOwn (op.Enter m) = Unit {0}
IsOwn op.Halt = Unit {0}
IsOwn (op.Call n) = Unit {0}
IsOwn (op.NewObject c) = Unit {0}
IsOwn (op.GetName n) = Unit {0}
IsOwn (op.PutName n) = Unit {0}
IsOwn (op.Result n) = Unit {0}
IsOwn op.Trap = Unit {0}
IsOwn _ = ⊥

-- where a silent step of an instruction leads, if it stays in the frame
abbrev pub LeadsTo : ℕ → ℕ → Instruction → Thread → Type 0
LeadsTo p trap (op.Push v) s = s.top.counter ≡ p + 1
LeadsTo p trap op.Dup s = s.top.counter ≡ p + 1
LeadsTo p trap op.Pop s = s.top.counter ≡ p + 1
LeadsTo p trap (op.Enter m) s = s.top.counter ≡ trap
LeadsTo p trap op.Halt s = s.mode ≡ mode.Ended
LeadsTo p trap _ s = ⊥

module _ (c : Code) (t : Thread) (trap : ℕ) where
  abbrev By : Instruction → Move → Type 0
  By i (Silent s) = length s.below ≡ length t.below → LeadsTo t.top.counter trap i s
  By i Still = Unit {0}
  By i (Asks action go) = Unit {0}
  By i (Plans go) = Unit {0}

  -- the move of a frame, if what it goes on to is so, and if it throws nothing
  abbrev Frames : Instruction → FrameMove → Type 0
  Frames i (Next f) = (s : Thread) → s.top.counter ≡ f.counter → LeadsTo t.top.counter trap i s
  Frames i (Throws kind) = ⊥
  Frames i Stuck = Unit {0}
  Frames i (FrameAsks action resume) = Unit {0}
  Frames i (Beyond w) = ⊥

  by_frame : (i : Instruction) (d : FrameMove) → Frames i d → By i (of_frame c t d)
  by_frame i (Next f) h = λ e. h _ refl
  by_frame i (Throws kind) h = absurd h
  by_frame i Stuck h = tt
  by_frame i (FrameAsks action resume) h = tt
  by_frame i (Beyond w) h = absurd h

  if_frames : (i : Instruction) (b : Bool) (x y : FrameMove) → Frames i x → Frames i y → Frames i (if b then x else y)
  if_frames i true x y h g = h
  if_frames i false x y h g = g

  room_frames : (i : Instruction) (f : Frame) (x : FrameMove) → Frames i x → Frames i (with_room f x)
  room_frames i f x h = if_frames i (nat_lt (length f.operands) f.need) x Stuck h tt

  one_frames : (i : Instruction) (o : Option ℕ) (go : ℕ → FrameMove) →
      ((a : ℕ) → Frames i (go a)) →
      Frames i (on_one o go)
  one_frames i None go h = tt
  one_frames i (Some a) go h = h a

  -- a throw is caught by the row of the thread
  caught_at : (row : HandlerRow) (b : Bool) (f g : Frame) →
      (if b then Some f else None) ≡ Some g →
      f.counter ≡ row.handler →
      g.counter ≡ row.handler
  caught_at row true f g e h = ap (λ (w : Frame). w.counter) (sym (same_Some f g e)) ∙ h
  caught_at row false f g e h = absurd (none-some g e)

  caught_by : (m : ℕ) (row : HandlerRow) (o : Option Frame) →
      ((g : Frame) → o ≡ Some g → g.counter ≡ row.handler) →
      row.handler ≡ trap →
      By (op.Enter m) (silent_or_still (thrown_thread t (onto o t.below)))
  caught_by m row None is h = tt
  caught_by m row (Some g) is h = λ e. is g refl ∙ h

  throw_by : (m : ℕ) (kind : Kind) (row : HandlerRow) (o : Option HandlerRow) →
      find_row c.handlers t.top.counter ≡ o →
      o ≡ Some row →
      row.handler ≡ trap →
      By (op.Enter m)
      (silent_or_still
      (thrown_thread t (elim o as (λ _. Option (Frame × List Frame))
      [ Some row ↦ onto (caught row kind t.top) t.below | None ↦ thrown c.handlers kind t.below ])))
  throw_by m kind row (Some r) e is h =
      let same : r ≡ row = same_Some r row is in
      caught_by m r (caught r kind t.top) (λ g is. caught_at r _ _ g is refl)
      (ap (λ (w : HandlerRow). w.handler) same ∙ h)
  throw_by m kind row None e is h = absurd (none-some row is)

  if_on : (i : Instruction) (b : Bool) (x : Move) → By i x → By i (if b then x else Still)
  if_on i true x h = h
  if_on i false x h = tt

  top_on : (i : Instruction) (o : Option ℕ) (go : ℕ → Move) → ((w : ℕ) → By i (go w)) → By i (on_top o go)
  top_on i None go h = tt
  top_on i (Some w) go h = h w

  kind_on : (i : Instruction) (o : Option Kind) (go : Kind → Move) → ((k : Kind) → By i (go k)) → By i (on_kind o go)
  kind_on i None go h = tt
  kind_on i (Some k) go h = h k

  abbrev trapping : Thread → Kind → Move
  trapping x kind = Asks (act.Trap (x.ended + 1) kind) (λ answer. Some (call_trapped x))

  trap_on : By op.Trap (of_frame c t (frame_move op.Trap t.top))
  trap_on =
      if_on op.Trap t.pending (on_top (top_one t.top.operands) (λ w. on_kind (kind_of w) (trapping t)))
      (top_on op.Trap (top_one t.top.operands) (λ w. on_kind (kind_of w) (trapping t))
      (λ w. kind_on op.Trap (kind_of w) (trapping t) (λ k. tt)))

  -- no step of TRAP is silent
  pub trap_acts : slice_get c.instructions t.top.counter ≡ Some op.Trap →
      (s : Thread) →
      thread_move c t ≡ Silent s →
      length s.below ≡ length t.below →
      ⊥
  trap_acts is s e same =
      let move : thread_move c t ≡ of_frame c t (frame_move op.Trap t.top) = ap (fetched_move c t) is in
      (subst (By op.Trap) (sym move ∙ e) trap_on) same

  module _ (row : HandlerRow) (guards : find_row c.handlers t.top.counter ≡ Some row) (leads : row.handler ≡ trap) where
    throw_on : (m : ℕ) (kind : Kind) → By (op.Enter m) (throw_move c t kind)
    throw_on m kind = throw_by m kind row (find_row c.handlers t.top.counter) refl guards leads

    call_on : (m : ℕ) (d : CallMove) → By (op.Enter m) (call_move c t m d)
    call_on m (Calls callee) = tt
    call_on m (CallThrows kind) = throw_on m kind
    call_on m CallStuck = tt

    found_on : (m : ℕ) (o : Option MethodRow) → By (op.Enter m) (found_move c t m o)
    found_on m None = tt
    found_on m (Some r) = call_on m (enter_move r t)

    value_on : (n : ℕ) (o : Option CallResult) → By (op.Result n) (value_move t n o)
    value_on n None = tt
    value_on n (Some result.Nothing) = tt
    value_on n (Some result.Int) = top_on (op.Result n) (top_one t.top.operands) _ (λ w. tt)
    value_on n (Some result.Boolean) = top_on (op.Result n) (top_one t.top.operands) _ (λ w. tt)

    by_own : (i : Instruction) → IsOwn i → By i (of_frame c t (frame_move i t.top))
    by_own (op.Push v) own = by_frame (op.Push v) _ (room_frames (op.Push v) t.top _ (λ s e. e))
    by_own op.Dup own = by_frame op.Dup _ (room_frames op.Dup t.top _
        (one_frames op.Dup (top_one t.top.operands) _ (λ a s e. e)))
    by_own op.Pop own = by_frame op.Pop _ (one_frames op.Pop (top_one t.top.operands) _ (λ a s e. e))
    by_own (op.Enter m) own = found_on m (slice_get c.methods m)
    by_own op.Halt own = λ e. refl
    by_own (op.Call n) own = if_on (op.Call n) (not t.pending && (n == t.ended + 1) && nat_le n (length t.calls))
        (Asks (act.Call n) (λ answer. Some (call_begun t))) tt
    by_own (op.NewObject x) own = by_frame (op.NewObject x) _ (room_frames (op.NewObject x) t.top _ tt)
    by_own (op.GetName n) own = by_frame (op.GetName n) _ (room_frames (op.GetName n) t.top _ tt)
    by_own (op.PutName n) own = by_frame (op.PutName n) _ (one_frames (op.PutName n) (top_one t.top.operands) _
        (λ a. tt))
    by_own (op.Result n) own = if_on (op.Result n) (t.pending && (n == t.ended + 1))
        (value_move t n (slice_get t.calls t.ended)) (value_on n (slice_get t.calls t.ended))
    by_own op.Trap own = trap_on
    by_own (op.Load x) own = absurd own
    by_own (op.Store x) own = absurd own
    by_own op.Add own = absurd own
    by_own op.Sub own = absurd own
    by_own op.Mul own = absurd own
    by_own op.Div own = absurd own
    by_own op.Remainder own = absurd own
    by_own op.Neg own = absurd own
    by_own op.Lt own = absurd own
    by_own op.Le own = absurd own
    by_own op.Gt own = absurd own
    by_own op.Ge own = absurd own
    by_own op.Eq own = absurd own
    by_own op.Ne own = absurd own
    by_own op.Not own = absurd own
    by_own (op.Jump x) own = absurd own
    by_own (op.JumpIfFalse x) own = absurd own
    by_own (op.JumpIfTrue x) own = absurd own
    by_own (op.Turn x) own = absurd own
    by_own (op.GetField x) own = absurd own
    by_own (op.PutField x) own = absurd own
    by_own op.GetItem own = absurd own
    by_own op.PutItem own = absurd own
    by_own op.NewLock own = absurd own
    by_own op.NewMarkable own = absurd own
    by_own op.NewArray own = absurd own
    by_own op.Lock own = absurd own
    by_own op.Unlock own = absurd own
    by_own op.TryLock own = absurd own
    by_own op.IsHeld own = absurd own
    by_own (op.See x) own = absurd own
    by_own (op.Take x) own = absurd own
    by_own (op.DropLock x) own = absurd own
    by_own op.ReadPair own = absurd own
    by_own op.ReferenceOf own = absurd own
    by_own op.MarkOf own = absurd own
    by_own op.Pack own = absurd own
    by_own op.SetPair own = absurd own
    by_own op.SwapPair own = absurd own
    by_own op.AttemptMark own = absurd own
    by_own op.Leave own = absurd own
    by_own op.LeaveWith own = absurd own
    by_own op.Throw own = absurd own

    -- where a silent step of a thread's own code leads
    pub own_step : (i : Instruction) →
        IsOwn i →
        slice_get c.instructions t.top.counter ≡ Some i →
        (s : Thread) →
        thread_move c t ≡ Silent s →
        length s.below ≡ length t.below →
        LeadsTo t.top.counter trap i s
    own_step i own is s e same =
        let move : thread_move c t ≡ of_frame c t (frame_move i t.top) = ap (fetched_move c t) is in
        (subst (By i) (sym move ∙ e) (by_own i own)) same
