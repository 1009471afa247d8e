-- What a step leaves alone: its thread's calls, and all of the cells but their words.
use Rattle.std.proofs.Common.{◌≡◌, ℕ, ◌+◌, ◌-◌, ◌==◌, List, [], ◌∷◌, ◌++◌, ◌/◌, length, replicate, slice_set}
use Rattle.std.proofs.Common.{unsigned_abs, Option, Some, None, Bool, true, false, not, ◌&&◌, ◌||◌, nat_le, nat_lt}
use Rattle.std.proofs.Common.{slice_get, refl, if◌then◌else◌, ℤ}
use Rattle.ls_code.specs.Code.{Code}
use Rattle.ls_code.specs.Frame.{Frame, top_one, top_two}
use Rattle.ls_code.specs.Thread.{Thread, with_frames}
use Rattle.ls_code.specs.Throws.{thrown}
use Rattle.ls_code.specs.Kinds.{kind_of}
use Rattle.ls_code.specs.Calls.{CallMove, Calls, CallThrows, CallStuck, enter_move, with_callee, left_frame, left_with}
use Rattle.ls_code.specs.Calls.{call_begun, call_trapped}
use Rattle.ls_code.specs.Cells.{Cells, Effect, Answers, Waits, Stops, Unfit, effect, on_cell, on_item, on_name}
use Rattle.ls_code.specs.Cells.{read_effect, written, written_at, place_at, making, cell_at, lock_effect, with_words}
use Rattle.ls_code.specs.Cells.{in_range}
use Rattle.ls_code.specs.Locks.{taken_of, left_of, is_own}
use Rattle.ls_code.specs.Words.{bool_word, pair_word}
use Rattle.ls_code.specs.Exchanges.{Seen, Quietly, Reports, Plan, Says, Touches, Stores, see_at, see_named}
use Rattle.ls_code.specs.Exchanges.{seeing_action, saw, throwing, thrown_to, with_word, stuck, replaced, taking_answer}
use Rattle.ls_code.specs.Exchanges.{take_at, take_named, take_from, taking_action, dropping_action, took, drop_at}
use Rattle.ls_code.specs.Exchanges.{drop_named, drop_to}
use Rattle.ls_code.specs.Moves.{FrameMove, Next, Throws, Stuck, Asks as FrameAsks, Beyond, frame_move, pushed}
use Rattle.ls_code.specs.Steps.{Move, Silent, Still, Asks, Plans, StepResult, silent_or_still, thrown_thread}
use Rattle.ls_code.specs.Steps.{throw_move}
use Rattle.ls_code.specs.Steps.{answered, call_move, on_top, on_kind, begin_move, value_move, found_move, wide_move}
use Rattle.ls_code.specs.Steps.{of_frame, fetched_move, thread_move, replied, settled, ended_so, seen_outcome, touched}
use Rattle.ls_code.specs.Steps.{planned, performed}
use Rattle.ls_code.specs.declared.code.Method.{Method}
use Rattle.ls_code.specs.declared.code.CallResult.{CallResult}
use Rattle.ls_code.specs.declared.code.CallResult.TheVariants.{Nothing, Int, Boolean}
use Rattle.ls_code.specs.declared.instruction.Instruction.{Instruction}
use Rattle.ls_code.specs.declared.instruction.Resume.{Resume}
use Rattle.ls_code.specs.declared.instruction.ThreadInstruction.{ThreadInstruction}
use Rattle.ls_code.specs.declared.instruction.ThreadInstruction.TheVariants as wide
use Rattle.ls_code.specs.declared.lock_word.Taken.{Taken}
use Rattle.ls_code.specs.declared.lock_word.Taken.TheVariants as taken
use Rattle.ls_code.specs.declared.lock_word.Left.{Left}
use Rattle.ls_code.specs.declared.lock_word.Left.TheVariants as left
use Rattle.ls_code.specs.declared.step.Did.{Did}
use Rattle.ls_events.specs.declared.kind.Kind.{Kind}
use Rattle.ls_events.specs.declared.kind.Kind.TheVariants.{ArrayIndexOutOfBounds, Error, IllegalMonitorState}
use Rattle.ls_events.specs.declared.kind.Kind.TheVariants.{NullPointer, StackOverflow}
use Rattle.ls_events.specs.declared.action.Action.{Action}
use Rattle.ls_events.specs.declared.action.Action.TheVariants as act
use Rattle.ls_events.specs.declared.action.Answer.{Answer}
use Rattle.ls_events.specs.declared.action.Answer.TheVariants.{Done, Gives, Fails}

abbrev pub SameSizes : Cells → Cells → Type 0
SameSizes c d = (d.limit ≡ c.limit) × (d.names ≡ c.names) × (d.sizes ≡ c.sizes)

module _ (c : Cells) where
  abbrev EffectKeeps : Effect → Type 0
  EffectKeeps (Answers d answer) = SameSizes c d
  EffectKeeps Waits = Unit {0}
  EffectKeeps Stops = Unit {0}
  EffectKeeps Unfit = Unit {0}

  same : SameSizes c c
  same = (refl, refl, refl)

  cell_keeps : (o : Option ℕ) (go : ℕ → Effect) → ((w : ℕ) → EffectKeeps (go w)) → EffectKeeps (on_cell o go)
  cell_keeps None go h = tt
  cell_keeps (Some w) go h = h w

  if_keeps : (b : Bool) (e f : Effect) → EffectKeeps e → EffectKeeps f → EffectKeeps (if b then e else f)
  if_keeps true e f h k = h
  if_keeps false e f h k = k

  place_keeps : (o : Option ℕ) (w : ℕ) (answer : Answer ℕ) → EffectKeeps (written_at c o w answer)
  place_keeps None w answer = tt
  place_keeps (Some place) w answer = if_keeps (nat_lt place (length c.words))
      (Answers (with_words c (slice_set c.words place w)) answer) Unfit (refl, refl, refl) tt

  written_keeps : (a o w : ℕ) (answer : Answer ℕ) → EffectKeeps (written c a o w answer)
  written_keeps a o w answer = place_keeps (place_at a o) w answer

  read_keeps : (a o : ℕ) → EffectKeeps (read_effect c a o)
  read_keeps a o = cell_keeps (cell_at c a o) (λ w. Answers c (Gives w)) (λ w. same)

  making_keeps : (ws : List ℕ) → EffectKeeps (making c ws)
  making_keeps ws = if_keeps (nat_le (length c.words + length ws) c.limit)
      (Answers (with_words c (c.words ++ ws)) (Gives (length c.words + 1))) Stops (refl, refl, refl) tt

  item_keeps : (a : ℕ) (i : ℤ) (e : Effect) → EffectKeeps e → EffectKeeps (on_item c a i e)
  item_keeps a i e h = cell_keeps (cell_at c a 0) _ (λ count.
      if_keeps (in_range i count) e (Answers c (Fails ArrayIndexOutOfBounds)) h same)

  name_keeps : (n : ℕ) (e : Effect) → EffectKeeps e → EffectKeeps (on_name c n e)
  name_keeps n e h = if_keeps (nat_lt n c.names) e Unfit h tt

  taken_keeps : (lock : ℕ) (won : Answer ℕ) (other : Effect) →
      EffectKeeps other →
      (t : Taken) →
      EffectKeeps (elim t as (λ _. Effect) [
        | taken.Taken next ↦ written c lock 0 next won
        | taken.Other ↦ other
        | taken.TooMany ↦ Answers c (Fails Error)
      ])
  taken_keeps lock won other h (taken.Taken next) = written_keeps lock 0 next won
  taken_keeps lock won other h taken.Other = h
  taken_keeps lock won other h taken.TooMany = same

  lock_keeps : (lock thread : ℕ) (won : Answer ℕ) (other : Effect) →
      EffectKeeps other →
      EffectKeeps (lock_effect c lock thread won other)
  lock_keeps lock thread won other h = cell_keeps (cell_at c lock 0) _
      (λ w. taken_keeps lock won other h (taken_of w thread))

  left_keeps : (lock : ℕ) (l : Left) →
      EffectKeeps (elim l as (λ _. Effect) [
        | left.Left next ↦ written c lock 0 next Done
        | left.NotOwner ↦ Answers c
            (Fails IllegalMonitorState)
      ])
  left_keeps lock (left.Left next) = written_keeps lock 0 next Done
  left_keeps lock left.NotOwner = same

  effect_keeps : (n : ℕ) (a : Action ℕ) → EffectKeeps (effect c n a)
  effect_keeps n (act.ReadField object field) = read_keeps object field
  effect_keeps n (act.WriteField object field value) = written_keeps object field value Done
  effect_keeps n (act.ReadItem array index) = item_keeps array index (read_effect c array (unsigned_abs index + 1))
      (read_keeps array (unsigned_abs index + 1))
  effect_keeps n (act.WriteItem array index value) = item_keeps array index
      (written c array (unsigned_abs index + 1) value Done) (written_keeps array (unsigned_abs index + 1) value Done)
  effect_keeps n (act.ReadName k) = name_keeps k _ (read_keeps 1 k)
  effect_keeps n (act.WriteName k value) = name_keeps k _ (written_keeps 1 k value Done)
  effect_keeps n (act.New class) = cell_keeps (slice_get c.sizes class) _ (λ size. making_keeps (replicate size 0))
  effect_keeps n act.NewLock = making_keeps (0 ∷ [])
  effect_keeps n (act.NewMarkable word) = making_keeps (word ∷ [])
  effect_keeps n (act.NewArray count) = making_keeps (unsigned_abs count ∷ replicate (unsigned_abs count) 0)
  effect_keeps n (act.Lock lock) = lock_keeps lock n Done Waits tt
  effect_keeps n (act.Unlock lock) = cell_keeps (cell_at c lock 0) _ (λ w. left_keeps lock (left_of w n))
  effect_keeps n (act.TryLock lock) = lock_keeps lock n (Gives 1) _ same
  effect_keeps n (act.IsHeld lock) = cell_keeps (cell_at c lock 0) _ (λ w. same)
  effect_keeps n (act.LockMonitor object) = lock_keeps object n Done Waits tt
  effect_keeps n (act.UnlockMonitor object) = cell_keeps (cell_at c object 0) _ (λ w. left_keeps object (left_of w n))
  effect_keeps n (act.ReadPair markable) = read_keeps markable 0
  effect_keeps n (act.SetPair markable word) = written_keeps markable 0 word Done
  effect_keeps n (act.SwapPair markable expected word) = cell_keeps (cell_at c markable 0) _
      (λ old. if_keeps (old == expected) (written c markable 0 word (Gives 1)) (Answers c (Gives 0))
      (written_keeps markable 0 word (Gives 1)) same)
  effect_keeps n (act.AttemptMark markable reference mark) = cell_keeps (cell_at c markable 0) _
      (λ old. if_keeps (old / 2 == reference) (written c markable 0 (pair_word reference (bool_word mark)) (Gives 1))
      (Answers c (Gives 0)) (written_keeps markable 0 (pair_word reference (bool_word mark)) (Gives 1)) same)
  effect_keeps n act.Turn = same
  effect_keeps n (act.Enter method) = same
  effect_keeps n (act.Call k) = same
  effect_keeps n (act.Return k value) = same
  effect_keeps n (act.Trap k kind) = same

module _ (p : Code) (t : Thread) where
  abbrev ThreadKeeps : Option Thread → Type 0
  ThreadKeeps None = Unit {0}
  ThreadKeeps (Some s) = s.calls ≡ t.calls

  abbrev SeenKeeps : Seen → Type 0
  SeenKeeps (Quietly s) = ThreadKeeps s
  SeenKeeps (Reports action answer s) = ThreadKeeps s

  abbrev PlanKeeps : Plan → Type 0
  PlanKeeps (Says seen) = SeenKeeps seen
  PlanKeeps (Touches operation touch go) = (w : ℕ) → SeenKeeps (go w)
  PlanKeeps (Stores touch seen) = SeenKeeps seen

  abbrev MoveKeeps : Move → Type 0
  MoveKeeps (Silent s) = s.calls ≡ t.calls
  MoveKeeps Still = Unit {0}
  MoveKeeps (Asks action go) = (w : Answer ℕ) → ThreadKeeps (go w)
  MoveKeeps (Plans go) = (n : ℕ) → PlanKeeps (go n)

  thrown_keeps : (r : Option (Frame × List Frame)) → ThreadKeeps (thrown_thread t r)
  thrown_keeps None = tt
  thrown_keeps (Some r) = refl

  throwing_keeps : (r : Option (Frame × List Frame)) → ThreadKeeps (thrown_to t r)
  throwing_keeps None = tt
  throwing_keeps (Some r) = refl

  silent_keeps : (o : Option Thread) → ThreadKeeps o → MoveKeeps (silent_or_still o)
  silent_keeps None h = tt
  silent_keeps (Some s) h = h

  throws : (kind : Kind) → MoveKeeps (throw_move p t kind)
  throws kind = silent_keeps _ (thrown_keeps (thrown p.handlers kind (t.top ∷ t.below)))

  move_if : (b : Bool) (m n : Move) → MoveKeeps m → MoveKeeps n → MoveKeeps (if b then m else n)
  move_if true m n h k = h
  move_if false m n h k = k

  on_top_keeps : (o : Option ℕ) (go : ℕ → Move) → ((w : ℕ) → MoveKeeps (go w)) → MoveKeeps (on_top o go)
  on_top_keeps None go h = tt
  on_top_keeps (Some w) go h = h w

  on_kind_keeps : (o : Option Kind) (go : Kind → Move) → ((w : Kind) → MoveKeeps (go w)) → MoveKeeps (on_kind o go)
  on_kind_keeps None go h = tt
  on_kind_keeps (Some w) go h = h w

  answered_keeps : (resume : Resume) (w : Answer ℕ) → ThreadKeeps (answered p t resume w)
  answered_keeps resume Done = refl
  answered_keeps resume (Gives word) = refl
  answered_keeps resume (Fails kind) = thrown_keeps (thrown p.handlers kind (t.top ∷ t.below))

  abbrev CallKeeps : CallMove → Type 0
  CallKeeps (Calls s) = s.calls ≡ t.calls
  CallKeeps (CallThrows kind) = Unit {0}
  CallKeeps CallStuck = Unit {0}

  call_keeps : (x : ℕ) (m : CallMove) → CallKeeps m → MoveKeeps (call_move p t x m)
  call_keeps x (Calls s) h = λ w. h
  call_keeps x (CallThrows kind) h = throws kind
  call_keeps x CallStuck h = tt

  call_if : (b : Bool) (m n : CallMove) → CallKeeps m → CallKeeps n → CallKeeps (if b then m else n)
  call_if true m n h k = h
  call_if false m n h k = k

  this_keeps : (m : Method) (o : Option ℕ) →
      CallKeeps (elim o as (λ _. CallMove) [
        | None ↦ CallStuck
        | Some this ↦ if this == 0 then
            CallThrows NullPointer else (if nat_lt (length t.below) 64 then Calls (with_callee m t) else
            CallThrows StackOverflow)
      ])
  this_keeps m None = tt
  this_keeps m (Some this) = call_if (this == 0) _ _ tt (call_if (nat_lt (length t.below) 64) _ _ refl tt)

  found_keeps : (x : ℕ) (o : Option Method) → MoveKeeps (found_move p t x o)
  found_keeps x None = tt
  found_keeps x (Some m) = call_keeps x (enter_move m t) (this_keeps m (slice_get t.top.operands (m.arguments - 1)))

  left_frame_keeps : (below : List Frame) → ThreadKeeps (left_frame t below)
  left_frame_keeps [] = tt
  left_frame_keeps (f ∷ below) = refl

  thread_if : (b : Bool) (x y : Option Thread) → ThreadKeeps x → ThreadKeeps y → ThreadKeeps (if b then x else y)
  thread_if true x y h k = h
  thread_if false x y h k = k

  left_with_keeps : (below : List Frame) (w : ℕ) → ThreadKeeps (left_with t below w)
  left_with_keeps [] w = tt
  left_with_keeps (f ∷ below) w = thread_if (nat_lt (length f.operands) f.need)
      (Some (with_frames t (pushed f w) below)) None refl tt

  value_keeps : (x : ℕ) (o : Option CallResult) → MoveKeeps (value_move t x o)
  value_keeps x None = tt
  value_keeps x (Some Int) = on_top_keeps (top_one t.top.operands) _ (λ word. λ w. refl)
  value_keeps x (Some Boolean) = on_top_keeps (top_one t.top.operands) _ (λ word. λ w. refl)
  value_keeps x (Some Nothing) = λ w. refl

  seen_if : (b : Bool) (x y : Seen) → SeenKeeps x → SeenKeeps y → SeenKeeps (if b then x else y)
  seen_if true x y h k = h
  seen_if false x y h k = k

  plan_if : (b : Bool) (x y : Plan) → PlanKeeps x → PlanKeeps y → PlanKeeps (if b then x else y)
  plan_if true x y h k = h
  plan_if false x y h k = k

  saw_taken : (operation : Action ℕ) (word : ℕ) (k : Taken) →
      SeenKeeps (elim k as (λ _. Seen) [
        | taken.Other ↦ Reports operation (Gives 0) (with_word t word)
        | taken.Taken next
            ↦ Quietly (with_word t word)
        | taken.TooMany ↦ Quietly (with_word t word)
      ])
  saw_taken operation word taken.Other = refl
  saw_taken operation word (taken.Taken next) = refl
  saw_taken operation word taken.TooMany = refl

  saw_keeps : (n x : ℕ) (operation : Action ℕ) (word : ℕ) → SeenKeeps (saw p t n x operation word)
  saw_keeps n x operation word =
      let on : Seen = Quietly (with_word t word) in
      let off : Seen = Reports operation (Fails IllegalMonitorState) (throwing p t IllegalMonitorState) in
      let other : Seen = if is_own word n then on else off in
      let third : Seen = if x == 3 || x == 5 then other else on in
      seen_if (x == 2) _ third (saw_taken operation word (taken_of word n))
      (seen_if (x == 3 || x == 5) other on (seen_if (is_own word n) on off refl
      (throwing_keeps (thrown p.handlers IllegalMonitorState (t.top ∷ t.below)))) refl)

  see_named_keeps : (n x lock : ℕ) (o : Option (Action ℕ)) → PlanKeeps (see_named p t n x lock o)
  see_named_keeps n x lock None = tt
  see_named_keeps n x lock (Some operation) =
      let fits : Plan = Touches operation (act.ReadPair lock) (saw p t n x operation) in
      let b : Bool = nat_lt (length t.top.operands) t.top.need in
      plan_if (lock == 0) (Says (Quietly (throwing p t NullPointer))) (if b then fits else stuck)
      (throwing_keeps (thrown p.handlers NullPointer (t.top ∷ t.below)))
      (plan_if b fits stuck (λ w. saw_keeps n x operation w) tt)

  see_keeps : (n x : ℕ) (o : Option ℕ) → PlanKeeps (see_at p t n x o)
  see_keeps n x None = tt
  see_keeps n x (Some lock) = see_named_keeps n x lock (seeing_action x lock)

  took_keeps : (x : ℕ) (operation : Action ℕ) (won : ℕ) → SeenKeeps (took t x operation won)
  took_keeps x operation won =
      let no : Seen = Reports operation (Gives 0) (replaced t 0) in
      let again : Seen = Quietly (replaced t 0) in
      seen_if (won == 1) (Reports operation (taking_answer x) (replaced t 1)) (if x == 2 then no else again) refl
      (seen_if (x == 2) no again refl refl)

  take_from_keeps : (x : ℕ) (operation : Action ℕ) (lock word : ℕ) (k : Taken) →
      PlanKeeps (take_from p t x operation lock word k)
  take_from_keeps x operation lock word taken.Other = refl
  take_from_keeps x operation lock word taken.TooMany = throwing_keeps (thrown p.handlers Error (t.top ∷ t.below))
  take_from_keeps x operation lock word (taken.Taken next) = λ w. took_keeps x operation w

  take_named_keeps : (n x lock word : ℕ) (o : Option (Action ℕ)) → PlanKeeps (take_named p t n x lock word o)
  take_named_keeps n x lock word None = tt
  take_named_keeps n x lock word (Some operation) = take_from_keeps x operation lock word (taken_of word n)

  take_keeps : (n x : ℕ) (o : Option (ℕ × ℕ)) → PlanKeeps (take_at p t n x o)
  take_keeps n x None = tt
  take_keeps n x (Some r) = take_named_keeps n x r.0 r.1 (taking_action x r.0)

  drop_to_keeps : (o : Action ℕ) (lock : ℕ) (l : Left) → PlanKeeps (drop_to t o lock l)
  drop_to_keeps o lock left.NotOwner = tt
  drop_to_keeps o lock (left.Left next) = refl

  drop_named_keeps : (n lock word : ℕ) (o : Option (Action ℕ)) → PlanKeeps (drop_named t n lock word o)
  drop_named_keeps n lock word None = tt
  drop_named_keeps n lock word (Some o) = drop_to_keeps o lock (left_of word n)

  drop_keeps : (n x : ℕ) (o : Option (ℕ × ℕ)) → PlanKeeps (drop_at t n x o)
  drop_keeps n x None = tt
  drop_keeps n x (Some r) = drop_named_keeps n r.0 r.1 (dropping_action x r.0)

  begin_keeps : (x : ℕ) → MoveKeeps (begin_move t x)
  begin_keeps x =
      let begins : Move = Asks (act.Call x) (λ answer. Some (call_begun t)) in
      move_if (not t.pending && (x == t.ended + 1) && nat_le x (length t.calls)) begins Still (λ w. refl) tt

  abbrev trapping : Move
  trapping = on_top (top_one t.top.operands) (λ word. on_kind (kind_of word)
      (λ kind. Asks (act.Trap (t.ended + 1) kind) (λ answer. Some (call_trapped t))))

  trap_keeps : (b : Bool) → MoveKeeps (if b then trapping else Still)
  trap_keeps b = move_if b trapping Still (on_top_keeps (top_one t.top.operands) _
      (λ w. on_kind_keeps (kind_of w) _ (λ kind. λ a. refl))) tt

  wide_keeps : (i : ThreadInstruction) → MoveKeeps (wide_move p t i)
  wide_keeps wide.Halt = refl
  wide_keeps (wide.Enter x) = found_keeps x (slice_get p.methods x)
  wide_keeps wide.Leave = silent_keeps _ (left_frame_keeps t.below)
  wide_keeps wide.LeaveWith = on_top_keeps (top_one t.top.operands) _ (λ w. silent_keeps _ (left_with_keeps t.below w))
  wide_keeps wide.Throw = on_top_keeps (top_one t.top.operands) _
      (λ w. on_kind_keeps (kind_of w) _ (λ kind. throws kind))
  wide_keeps (wide.Call x) = begin_keeps x
  wide_keeps (wide.Result x) = move_if (t.pending && (x == t.ended + 1)) (value_move t x (slice_get t.calls t.ended))
      Still (value_keeps x (slice_get t.calls t.ended)) tt
  wide_keeps wide.Trap = trap_keeps t.pending
  wide_keeps (wide.See x) = λ n. see_keeps n x (top_one t.top.operands)
  wide_keeps (wide.Take x) = λ n. take_keeps n x (top_two t.top.operands)
  wide_keeps (wide.DropLock x) = λ n. drop_keeps n x (top_two t.top.operands)

  frame_keeps : (m : FrameMove) → MoveKeeps (of_frame p t m)
  frame_keeps (Next f) = refl
  frame_keeps (Throws kind) = throws kind
  frame_keeps Stuck = tt
  frame_keeps (FrameAsks action resume) = λ w. answered_keeps resume w
  frame_keeps (Beyond instruction) = wide_keeps instruction

  fetched_keeps : (o : Option Instruction) → MoveKeeps (fetched_move p t o)
  fetched_keeps None = tt
  fetched_keeps (Some i) = frame_keeps (frame_move i t.top)

  move_keeps : MoveKeeps (thread_move p t)
  move_keeps = fetched_keeps (slice_get p.instructions t.top.counter)

  abbrev pub OutcomeKeeps : Cells → StepResult → Type 0
  OutcomeKeeps c o = (o.thread.calls ≡ t.calls) × SameSizes c o.cells

  replied_keeps : (c d : Cells) (action : Action ℕ) (answer : Answer ℕ) (o : Option Thread) →
      SameSizes c d →
      ThreadKeeps o →
      OutcomeKeeps c (replied d t action answer o)
  replied_keeps c d action answer None h k = (refl, h)
  replied_keeps c d action answer (Some s) h k = (k, h)

  settled_keeps : (c : Cells) (action : Action ℕ) (go : Answer ℕ → Option Thread) (e : Effect) →
      EffectKeeps c e →
      ((w : Answer ℕ) → ThreadKeeps (go w)) →
      OutcomeKeeps c (settled c t action go e)
  settled_keeps c action go (Answers d answer) h k = replied_keeps c d action answer (go answer) h (k answer)
  settled_keeps c action go Waits h k = (refl, same c)
  settled_keeps c action go Stops h k = (refl, same c)
  settled_keeps c action go Unfit h k = (refl, same c)

  ended_keeps : (c d : Cells) (o : Option Thread) (did : Did) →
      SameSizes c d →
      ThreadKeeps o →
      OutcomeKeeps c (ended_so d t o did)
  ended_keeps c d None did h k = (refl, h)
  ended_keeps c d (Some s) did h k = (k, h)

  seen_keeps : (c d : Cells) (seen : Seen) → SameSizes c d → SeenKeeps seen → OutcomeKeeps c (seen_outcome d t seen)
  seen_keeps c d (Quietly s) h k = ended_keeps c d s _ h k
  seen_keeps c d (Reports action answer s) h k = ended_keeps c d s _ h k

  touched_keeps : (c : Cells) (go : ℕ → Seen) (e : Effect) →
      EffectKeeps c e →
      ((w : ℕ) → SeenKeeps (go w)) →
      OutcomeKeeps c (touched c t go e)
  touched_keeps c go (Answers d Done) h k = seen_keeps c d (go 0) h (k 0)
  touched_keeps c go (Answers d (Gives word)) h k = seen_keeps c d (go word) h (k word)
  touched_keeps c go (Answers d (Fails kind)) h k = (refl, h)
  touched_keeps c go Waits h k = (refl, same c)
  touched_keeps c go Stops h k = (refl, same c)
  touched_keeps c go Unfit h k = (refl, same c)

  planned_keeps : (c : Cells) (n : ℕ) (plan : Plan) → PlanKeeps plan → OutcomeKeeps c (planned c n t plan)
  planned_keeps c n (Says seen) k = seen_keeps c c seen (same c) k
  planned_keeps c n (Touches operation touch go) k = touched_keeps c go (effect c n touch) (effect_keeps c n touch) k
  planned_keeps c n (Stores touch seen) k = touched_keeps c (λ word. seen) (effect c n touch) (effect_keeps c n touch)
      (λ word. k)

  performed_keeps : (c : Cells) (n : ℕ) (m : Move) → MoveKeeps m → OutcomeKeeps c (performed c n t m)
  performed_keeps c n (Silent s) k = (k, same c)
  performed_keeps c n Still k = (refl, same c)
  performed_keeps c n (Asks action go) k = settled_keeps c action go (effect c n action) (effect_keeps c n action) k
  performed_keeps c n (Plans go) k = planned_keeps c n (go n) (k n)

  pub step_keeps : (c : Cells) (n : ℕ) → OutcomeKeeps c (performed c n t (thread_move p t))
  step_keeps c n = performed_keeps c n (thread_move p t) move_keeps
