-- Each silent step within a frame leads ahead, or back to a place that is known.
use Rattle.std.proofs.Common.{◌≡◌, ℕ, suc, ◌+◌, ◌<◌, ◌%◌, ◌^◌, List, [], ◌∷◌, length, Option, Some, None, Bool, true}
use Rattle.std.proofs.Common.{false, ◌&&◌, ◌==◌, nat_le, nat_lt, refl, sym, ap, ◌∙◌, subst, arith, slice_get}
use Rattle.std.proofs.Common.{if◌then◌else◌, pos, ◌⊎◌, inl, inr}
use Rattle.std.proofs.lemmas.Bool.Decides.{nat_tests}
use Rattle.std.proofs.lemmas.Option.{none-some, same_Some}
use Rattle.std.specs.Int.RustNames.{int_lt}
use Rattle.ls_events.specs.declared.kind.Kind.{Kind}
use Rattle.ls_events.specs.declared.kind.Kind.TheVariants.{NegativeArraySize, NullPointer}
use Rattle.ls_events.specs.declared.action.Action.TheVariants.{NewArray}
use Rattle.ls_code.specs.Words.{int_of}
use Rattle.ls_code.specs.Kinds.{kind_of}
use Rattle.ls_code.specs.Code.{Code}
use Rattle.ls_code.specs.Frame.{Frame, top_one, top_two, top_three}
use Rattle.ls_code.specs.Thread.{Thread}
use Rattle.ls_code.specs.Moves.{FrameMove, Next, Throws, Stuck, Asks as FrameAsks, Beyond, frame_move, with_room}
use Rattle.ls_code.specs.Moves.{on_one, on_two, on_three, at_object}
use Rattle.ls_code.specs.Calls.{CallMove, Calls, CallThrows, CallStuck, enter_move, left_with}
use Rattle.ls_code.specs.Throws.{find_row, caught, onto, thrown}
use Rattle.ls_code.specs.Steps.{Move, Silent, Still, Asks, Plans, silent_or_still, thrown_thread, throw_move, call_move}
use Rattle.ls_code.specs.Steps.{on_top, on_kind, found_move, of_frame, fetched_move, thread_move}
use Rattle.ls_code.specs.declared.code.Method.{Method as MethodRow}
use Rattle.ls_code.specs.declared.code.HandlerRow.{HandlerRow}
use Rattle.ls_code.specs.declared.instruction.Resume.TheVariants.{Settle}
use Rattle.ls_code.specs.declared.instruction.ThreadInstruction.TheVariants as wide
use Rattle.ls_code.specs.declared.instruction.Instruction.{Instruction}
use Rattle.ls_code.specs.declared.instruction.Instruction.TheVariants as op
use Rattle.ls_linker.proofs.Silent.{Ahead}
use Rattle.ls_linker.proofs.SilentStatements.{RowsLead}

-- the row that is found leads ahead
test : (r : HandlerRow) (place : ℕ) → (nat_le r.from place && nat_lt place r.to) ≡ true → place < r.to
test r place e = grind (arith, nat_tests)

find_by : (n : ℕ) (r : HandlerRow) (rs : List HandlerRow) (place : ℕ) (b : Bool) →
    (nat_le r.from place && nat_lt place r.to) ≡ b →
    RowsLead n (r ∷ rs) →
    (row : HandlerRow) →
    (if b then Some r else find_row rs place) ≡ Some row →
    ((row : HandlerRow) → find_row rs place ≡ Some row → (place < row.handler) × (row.handler < n)) →
    (place < row.handler) × (row.handler < n)
find_by n r rs place true e h row is rest =
    let same : r ≡ row = same_Some r row is in
    let lt : place < r.to = test r place e in
    subst (λ (w : HandlerRow). (place < w.handler) × (w.handler < n)) same (omega (arith, lt, h.0.0), h.0.1)
find_by n r rs place false e h row is rest = rest row is

-- the row that is found leads to a later place of the unit
pub find_leads : (n : ℕ) (rs : List HandlerRow) (place : ℕ) (row : HandlerRow) →
    RowsLead n rs →
    find_row rs place ≡ Some row →
    (place < row.handler) × (row.handler < n)
find_leads n [] place row h e = absurd (none-some row e)
find_leads n (r ∷ rs) place row h e = find_by n r rs place (nat_le r.from place && nat_lt place r.to) refl h row e
    (λ w is. find_leads n rs place w h.1 is)

-- a throw that isn't caught drops frames
abbrev Shorter : Kind → List Frame → Option (Frame × List Frame) → Type 0
Shorter kind frames None = Unit {0}
Shorter kind frames (Some r) = length r.1 < length frames

onto_shorter : (kind : Kind) (f : Frame) (below : List Frame) (o : Option Frame) →
    Shorter kind (f ∷ below) (onto o below)
onto_shorter kind f below None = tt
onto_shorter kind f below (Some g) = omega arith

further : (kind : Kind) (f : Frame) (below : List Frame) (o : Option (Frame × List Frame)) →
    Shorter kind below o →
    Shorter kind (f ∷ below) o
further kind f below None h = tt
further kind f below (Some r) h = omega (arith, h)

row_shorter : (rows : List HandlerRow) (kind : Kind) (f : Frame) (below : List Frame) →
    Shorter kind below (thrown rows kind below) →
    (o : Option HandlerRow) →
    Shorter kind (f ∷ below) (elim o as (λ _. Option (Frame × List Frame))
    [ Some row ↦ onto (caught row kind f) below | None ↦ thrown rows kind below ])
row_shorter rows kind f below h (Some row) = onto_shorter kind f below (caught row kind f)
row_shorter rows kind f below h None = further kind f below (thrown rows kind below) h

shorter : (rows : List HandlerRow) (kind : Kind) (frames : List Frame) → Shorter kind frames (thrown rows kind frames)
shorter rows kind [] = tt
shorter rows kind (f ∷ below) = row_shorter rows kind f below (shorter rows kind below) (find_row rows f.counter)

module _ (n : ℕ) (B : ℕ → Type 0) where
  -- a frame's move leads ahead, or back
  abbrev pub Onto : ℕ → ℕ → Type 0
  Onto p x = ((p < x) × (x < n)) ⊎ ((p + 1 < n) × B x)

  abbrev GoesOn : ℕ → FrameMove → Type 0
  GoesOn p (Next f) = Onto p f.counter
  GoesOn p (Throws kind) = Unit {0}
  GoesOn p Stuck = Unit {0}
  GoesOn p (FrameAsks action resume) = Unit {0}
  GoesOn p (Beyond (wide.Enter x)) = Unit {0}
  GoesOn p (Beyond wide.LeaveWith) = Unit {0}
  GoesOn p (Beyond wide.Throw) = Unit {0}
  GoesOn p (Beyond (wide.See x)) = Unit {0}
  GoesOn p (Beyond (wide.Take x)) = Unit {0}
  GoesOn p (Beyond (wide.DropLock x)) = Unit {0}
  GoesOn p (Beyond _) = ⊥

  one_on : (p : ℕ) (o : Option ℕ) (go : ℕ → FrameMove) → ((a : ℕ) → GoesOn p (go a)) → GoesOn p (on_one o go)
  one_on p None go h = tt
  one_on p (Some a) go h = h a

  two_on : (p : ℕ) (o : Option (ℕ × ℕ)) (go : ℕ → ℕ → FrameMove) →
      ((a b : ℕ) → GoesOn p (go a b)) →
      GoesOn p (on_two o go)
  two_on p None go h = tt
  two_on p (Some x) go h = h x.0 x.1

  three_on : (p : ℕ) (o : Option (ℕ × ℕ × ℕ)) (go : ℕ → ℕ → ℕ → FrameMove) →
      ((a b c : ℕ) → GoesOn p (go a b c)) →
      GoesOn p (on_three o go)
  three_on p None go h = tt
  three_on p (Some x) go h = h x.0 x.1 x.2

  if_on : (p : ℕ) (b : Bool) (x y : FrameMove) → GoesOn p x → GoesOn p y → GoesOn p (if b then x else y)
  if_on p true x y h g = h
  if_on p false x y h g = g

  room_on : (p : ℕ) (f : Frame) (x : FrameMove) → GoesOn p x → GoesOn p (with_room f x)
  room_on p f x h = if_on p (nat_lt (length f.operands) f.need) x Stuck h tt

  object_on : (p a : ℕ) (x : FrameMove) → GoesOn p x → GoesOn p (at_object a x)
  object_on p a x h = if_on p (a == 0) (Throws NullPointer) x tt h

  step : (p : ℕ) → p + 1 < n → Onto p (p + 1)
  step p h = inl (omega arith, h)

  jumped : (p x : ℕ) → (p < x) × (x < n) → Onto p (p + 1)
  jumped p x h = inl (omega arith, omega (arith, h.0, h.1))

  jumped_if : (p x : ℕ) → p + 1 < n → ((p < x) × (x < n)) ⊎ B x → Onto p x
  jumped_if p x l (inl h) = inl h
  jumped_if p x l (inr h) = inr (l, h)

  frame_on : (i : Instruction) (f : Frame) → Ahead n B f.counter i → GoesOn f.counter (frame_move i f)
  frame_on (op.Push x) f h = room_on f.counter f _ (step f.counter h)
  frame_on (op.Load x) f h = room_on f.counter f _ (one_on f.counter (slice_get f.locals x) _ (λ a. step f.counter h))
  frame_on (op.Store x) f h = one_on f.counter (top_one f.operands) _
      (λ a. if_on f.counter (nat_lt x (length f.locals)) _ _ (step f.counter h) tt)
  frame_on op.Pop f h = one_on f.counter (top_one f.operands) _ (λ a. step f.counter h)
  frame_on op.Dup f h = room_on f.counter f _ (one_on f.counter (top_one f.operands) _ (λ a. step f.counter h))
  frame_on op.Add f h = two_on f.counter (top_two f.operands) _ (λ a b. step f.counter h)
  frame_on op.Sub f h = two_on f.counter (top_two f.operands) _ (λ a b. step f.counter h)
  frame_on op.Mul f h = two_on f.counter (top_two f.operands) _ (λ a b. step f.counter h)
  frame_on op.Div f h = two_on f.counter (top_two f.operands) _
      (λ a b. if_on f.counter (b % 2 ^ 32 == 0) _ _ tt (step f.counter h))
  frame_on op.Remainder f h = two_on f.counter (top_two f.operands) _
      (λ a b. if_on f.counter (b % 2 ^ 32 == 0) _ _ tt (step f.counter h))
  frame_on op.Neg f h = one_on f.counter (top_one f.operands) _ (λ a. step f.counter h)
  frame_on op.Lt f h = two_on f.counter (top_two f.operands) _ (λ a b. step f.counter h)
  frame_on op.Le f h = two_on f.counter (top_two f.operands) _ (λ a b. step f.counter h)
  frame_on op.Gt f h = two_on f.counter (top_two f.operands) _ (λ a b. step f.counter h)
  frame_on op.Ge f h = two_on f.counter (top_two f.operands) _ (λ a b. step f.counter h)
  frame_on op.Eq f h = two_on f.counter (top_two f.operands) _ (λ a b. step f.counter h)
  frame_on op.Ne f h = two_on f.counter (top_two f.operands) _ (λ a b. step f.counter h)
  frame_on op.Not f h = one_on f.counter (top_one f.operands) _ (λ a. step f.counter h)
  frame_on (op.Jump x) f h = inl h
  frame_on (op.JumpIfFalse x) f h = one_on f.counter (top_one f.operands) _
      (λ a. if_on f.counter (a == 0) _ _ (jumped_if f.counter x h.0 h.1) (step f.counter h.0))
  frame_on (op.JumpIfTrue x) f h = one_on f.counter (top_one f.operands) _
      (λ a. if_on f.counter (a == 1) _ _ (inl h) (jumped f.counter x h))
  frame_on (op.Turn x) f h = tt
  frame_on (op.GetField x) f h = one_on f.counter (top_one f.operands) _ (λ a. object_on f.counter a _ tt)
  frame_on (op.PutField x) f h = two_on f.counter (top_two f.operands) _ (λ a v. object_on f.counter a _ tt)
  frame_on op.GetItem f h = two_on f.counter (top_two f.operands) _ (λ a i. object_on f.counter a _ tt)
  frame_on op.PutItem f h = three_on f.counter (top_three f.operands) _ (λ a i v. object_on f.counter a _ tt)
  frame_on (op.GetName x) f h = room_on f.counter f _ tt
  frame_on (op.PutName x) f h = one_on f.counter (top_one f.operands) _ (λ a. tt)
  frame_on (op.NewObject x) f h = room_on f.counter f _ tt
  frame_on op.NewLock f h = room_on f.counter f _ tt
  frame_on op.NewMarkable f h = one_on f.counter (top_one f.operands) _ (λ a. tt)
  frame_on op.NewArray f h = one_on f.counter (top_one f.operands) _
      (λ a. if_on f.counter (int_lt (int_of a) (pos 0)) (Throws NegativeArraySize)
      (FrameAsks (NewArray (int_of a)) (Settle 1)) tt tt)
  frame_on op.Lock f h = one_on f.counter (top_one f.operands) _ (λ a. object_on f.counter a _ tt)
  frame_on op.Unlock f h = one_on f.counter (top_one f.operands) _ (λ a. object_on f.counter a _ tt)
  frame_on op.TryLock f h = one_on f.counter (top_one f.operands) _ (λ a. object_on f.counter a _ tt)
  frame_on op.IsHeld f h = one_on f.counter (top_one f.operands) _ (λ a. object_on f.counter a _ tt)
  frame_on op.ReadPair f h = one_on f.counter (top_one f.operands) _ (λ a. object_on f.counter a _ tt)
  frame_on op.ReferenceOf f h = one_on f.counter (top_one f.operands) _ (λ a. step f.counter h)
  frame_on op.MarkOf f h = one_on f.counter (top_one f.operands) _ (λ a. step f.counter h)
  frame_on op.Pack f h = two_on f.counter (top_two f.operands) _ (λ a b. step f.counter h)
  frame_on op.SetPair f h = two_on f.counter (top_two f.operands) _ (λ a w. object_on f.counter a _ tt)
  frame_on op.SwapPair f h = three_on f.counter (top_three f.operands) _ (λ a e m. object_on f.counter a _ tt)
  frame_on op.AttemptMark f h = three_on f.counter (top_three f.operands) _ (λ a r m. object_on f.counter a _ tt)
  frame_on op.Halt f h = absurd h
  frame_on (op.See x) f h = tt
  frame_on (op.Take x) f h = tt
  frame_on (op.DropLock x) f h = tt
  frame_on (op.Enter x) f h = tt
  frame_on op.Leave f h = absurd h
  frame_on op.LeaveWith f h = tt
  frame_on op.Throw f h = tt
  frame_on (op.Call x) f h = absurd h
  frame_on (op.Result x) f h = absurd h
  frame_on op.Trap f h = absurd h

  module _ (c : Code) (t : Thread) (rows : List HandlerRow) (lead : RowsLead n rows)
      (guards : find_row c.handlers t.top.counter ≡ find_row rows t.top.counter) where
    -- a silent step that stays in the frame
    abbrev Leads : Thread → Type 0
    Leads s = length s.below ≡ length t.below → Onto t.top.counter s.top.counter

    abbrev LeadsBy : Move → Type 0
    LeadsBy (Silent s) = Leads s
    LeadsBy Still = Unit {0}
    LeadsBy (Asks action go) = Unit {0}
    LeadsBy (Plans go) = Unit {0}

    caught_on : (kind : Kind) (row : HandlerRow) (o : Option Frame) →
        ((g : Frame) → o ≡ Some g → g.counter ≡ row.handler) →
        (t.top.counter < row.handler) × (row.handler < n) →
        LeadsBy (silent_or_still (thrown_thread t (onto o t.below)))
    caught_on kind row None is h = tt
    caught_on kind row (Some g) is h = λ e. let same : g.counter ≡ row.handler = is g refl in
        inl (omega (arith, same, h.0), omega (arith, same, h.1))

    caught_at : (kind : Kind) (row : HandlerRow) (b : Bool) (f g : Frame) →
        (if b then Some f else None) ≡ Some g →
        f.counter ≡ row.handler →
        g.counter ≡ row.handler
    caught_at kind row true f g e h = ap (λ (w : Frame). w.counter) (sym (same_Some f g e)) ∙ h
    caught_at kind row false f g e h = absurd (none-some g e)

    dropped : (kind : Kind) (o : Option (Frame × List Frame)) →
        Shorter kind t.below o →
        LeadsBy (silent_or_still (thrown_thread t o))
    dropped kind None h = tt
    dropped kind (Some r) h = λ e. absurd (let no : ⊥ = omega (arith, h, e) in no)

    throw_by : (kind : Kind) (o : Option HandlerRow) → find_row c.handlers t.top.counter ≡ o →
        LeadsBy (silent_or_still
        (thrown_thread t (elim o as (λ _. Option (Frame × List Frame))
        [ Some row ↦ onto (caught row kind t.top) t.below | None ↦ thrown c.handlers kind t.below ])))
    throw_by kind (Some row) e = caught_on kind row (caught row kind t.top) (λ g is. caught_at kind row _ _ g is refl)
        (find_leads n rows t.top.counter row lead (sym guards ∙ e))
    throw_by kind None e = dropped kind (thrown c.handlers kind t.below) (shorter c.handlers kind t.below)

    throw_on : (kind : Kind) → LeadsBy (throw_move c t kind)
    throw_on kind = throw_by kind (find_row c.handlers t.top.counter) refl

    call_on : (x : ℕ) (d : CallMove) → LeadsBy (call_move c t x d)
    call_on x (Calls callee) = tt
    call_on x (CallThrows kind) = throw_on kind
    call_on x CallStuck = tt

    found_on : (x : ℕ) (o : Option MethodRow) → LeadsBy (found_move c t x o)
    found_on x None = tt
    found_on x (Some m) = call_on x (enter_move m t)

    left_if : (b : Bool) (s : Thread) (k : ℕ) →
        length t.below ≡ suc k →
        length s.below ≡ k →
        LeadsBy (silent_or_still (if b then Some s else None))
    left_if true s k e is = λ same. absurd (let no : ⊥ = omega (arith, e, is, same) in no)
    left_if false s k e is = tt

    left_on : (below : List Frame) (word : ℕ) →
        length t.below ≡ length below →
        LeadsBy (silent_or_still (left_with t below word))
    left_on [] word e = tt
    left_on (f ∷ below) word e = left_if (nat_lt (length f.operands) f.need) _ (length below) e refl

    top_on : (o : Option ℕ) (go : ℕ → Move) → ((w : ℕ) → LeadsBy (go w)) → LeadsBy (on_top o go)
    top_on None go h = tt
    top_on (Some w) go h = h w

    kind_on : (o : Option Kind) (go : Kind → Move) → ((k : Kind) → LeadsBy (go k)) → LeadsBy (on_kind o go)
    kind_on None go h = tt
    kind_on (Some k) go h = h k

    of_on : (d : FrameMove) → GoesOn t.top.counter d → LeadsBy (of_frame c t d)
    of_on (Next f) h = λ e. h
    of_on (Throws kind) h = throw_on kind
    of_on Stuck h = tt
    of_on (FrameAsks action resume) h = tt
    of_on (Beyond (wide.Enter x)) h = found_on x (slice_get c.methods x)
    of_on (Beyond wide.LeaveWith) h = top_on (top_one t.top.operands) _ (λ w. left_on t.below w refl)
    of_on (Beyond wide.Throw) h = top_on (top_one t.top.operands) _ (λ w. kind_on (kind_of w) _ (λ k. throw_on k))
    of_on (Beyond wide.Halt) h = absurd h
    of_on (Beyond wide.Leave) h = absurd h
    of_on (Beyond (wide.Call x)) h = absurd h
    of_on (Beyond (wide.Result x)) h = absurd h
    of_on (Beyond wide.Trap) h = absurd h
    of_on (Beyond (wide.See x)) h = tt
    of_on (Beyond (wide.Take x)) h = tt
    of_on (Beyond (wide.DropLock x)) h = tt

    -- a silent step of an instruction that leads ahead leads to a later place of the unit, or back
    pub silent_on : (i : Instruction) →
        slice_get c.instructions t.top.counter ≡ Some i →
        Ahead n B t.top.counter i →
        (s : Thread) →
        thread_move c t ≡ Silent s →
        Leads s
    silent_on i is h s e =
        let move : thread_move c t ≡ of_frame c t (frame_move i t.top) = ap (fetched_move c t) is in
        subst LeadsBy (sym move ∙ e) (of_on (frame_move i t.top) (frame_on i t.top h))
