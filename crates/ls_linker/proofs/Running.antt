-- The instructions of a fed thread outside of any method, one lemma for each.
use Rattle.std.proofs.Common.{◌≡◌, ℕ, zero, suc, ◌+◌, ◌-◌, ◌<◌, ◌≤◌, List, [], ◌∷◌, length, map, drop, Bool, true}
use Rattle.std.proofs.Common.{false, Option, Some, None, slice_get, nat_lt, nat_le, ◌==◌, ◌&&◌, if◌then◌else◌, refl, ap}
use Rattle.std.proofs.Common.{◌∙◌, arith}
use Rattle.std.proofs.lemmas.Bool.{lt-ltb, le-leb}
use Rattle.std.proofs.lemmas.Bool.Decides.{nat_tests}
use Rattle.ls_events.specs.declared.kind.Kind.{Kind}
use Rattle.ls_events.specs.declared.kind.Kind.TheVariants as kinds
use Rattle.ls_events.specs.declared.value.Value.{Value}
use Rattle.ls_events.specs.declared.action.Action.{Action}
use Rattle.ls_events.specs.declared.action.Action.TheVariants as act
use Rattle.ls_events.specs.declared.action.Answer.{Answer}
use Rattle.ls_code.specs.Code.{Code}
use Rattle.ls_code.specs.Frame.{Frame, led_to}
use Rattle.ls_code.specs.Thread.{Thread}
use Rattle.ls_code.specs.Kinds.{kind_of}
use Rattle.ls_code.specs.Throws.{kind_word, find_row, cut_to, caught, onto, thrown}
use Rattle.ls_code.specs.Moves.{FrameMove, Next, Stuck, Asks as FrameAsks}
use Rattle.ls_code.specs.Calls.{halted, call_trapped}
use Rattle.ls_code.specs.Steps.{Move, Silent, Still, Asks, thread_move, fetched_move, of_frame, answered, thrown_thread}
use Rattle.ls_code.specs.Steps.{value_move, on_kind}
use Rattle.ls_code.specs.Steps as Steps
use Rattle.ls_code.specs.Fed.{Fed, Pause, Paused, IsOver, TooLong, ending}
use Rattle.ls_code.specs.Reading.{begins_early, read_move, carry, quiet, resume, fed}
use Rattle.ls_code.specs.Fed as fed
use Rattle.ls_code.specs.declared.instruction.Resume.TheVariants as then
use Rattle.ls_code.specs.declared.instruction.Instruction.{Instruction}
use Rattle.ls_code.specs.declared.instruction.Instruction.TheVariants as op
use Rattle.ls_code.specs.declared.step.Mode.{Mode}
use Rattle.ls_code.specs.declared.step.Mode.TheVariants as mode
use Rattle.ls_code.specs.declared.code.HandlerRow.{HandlerRow}
use Rattle.ls_code.specs.declared.code.CallResult.{CallResult}
use Rattle.ls_code.specs.declared.code.CallResult.TheVariants as result
use Rattle.ls_emit.specs.Entering.{fed_from, thrown_in}
use Rattle.ls_preservation.specs.InWords.{word_of}
use Rattle.ls_linker.specs.Threads.{pushes, result_code}
use Rattle.ls_linker.proofs.UnitLists.{laid}
use Rattle.ls_emit.proofs.Places.{HasAt}

-- Where a thread runs: the code, its number, the bound on silent steps, and the table of its calls. Its need of
-- operands, and its first and last place.
pub record Setting : Type 0 where
  pub code : Code
  pub number : ℕ
  pub bound : ℕ
  pub calls : List CallResult
  pub need : ℕ
  pub from : ℕ
  pub trap : ℕ

-- a throw at any place but the last leads to the last, where TRAP is
pub record Guarded (s : Setting) : Type 0 where
  pub some : 1 ≤ s.need
  pub at_trap : slice_get s.code.instructions s.trap ≡ Some op.Trap
  pub guards : (d : ℕ) →
      s.from ≤ d →
      d < s.trap →
      find_row s.code.handlers d ≡ Some (record { from = s.from; to = s.trap; handler = s.trap; depth = 0 })

same_number : (n : ℕ) → (n == n) ≡ true
same_number n = grind (arith, nat_tests)

module _ (s : Setting) where
  -- the thread's only frame, at a place, with these operands
  abbrev pub frame : ℕ → List ℕ → Frame
  frame p operands = record { counter = p; locals = []; operands = operands; need = s.need }

  -- the thread at a place, with these operands, e ended calls, and a pending call or none
  abbrev pub here : ℕ → List ℕ → ℕ → Bool → Thread
  here p operands ended pending = record {
    top = frame p operands;
    below = [];
    mode = mode.Running;
    calls = s.calls;
    ended = ended;
    pending = pending;
  }

  -- what the thread tells, fed with answers
  abbrev pub feeds : ℕ → Thread → List (Answer ℕ) → Fed
  feeds n t q = fed s.code s.number s.bound n t q

  -- what it tells at an action, fed with answers
  abbrev pub goes_on : List (Answer ℕ) → Action ℕ → (Answer ℕ → Option Thread) → Fed
  goes_on q action go = resume s.code s.number s.bound q (Paused action go)

  silent : (m n : ℕ) (p : ℕ) (operands : List ℕ) (e : ℕ) (b : Bool) (u : Thread) (q : List (Answer ℕ)) →
      m ≡ suc n →
      thread_move s.code (here p operands e b) ≡ Silent u →
      feeds m (here p operands e b) q ≡ feeds n u q
  silent m n p operands e b u q is move =
      ap (λ k. feeds k (here p operands e b) q) is
      ∙ ap (λ d. resume s.code s.number s.bound q (carry true (begins_early d)
      (read_move s.code s.number (here p operands e b) d) (quiet s.code s.number n))) move

  paused : (n : ℕ) (p : ℕ) (operands : List ℕ) (e : ℕ) (b : Bool) (action : Action ℕ) (go : Answer ℕ → Option Thread) →
      thread_move s.code (here p operands e b) ≡ Asks action go →
      quiet s.code s.number n (here p operands e b) ≡ Paused action go
  paused zero p operands e b action go move = ap (λ d. carry false (begins_early d)
      (read_move s.code s.number (here p operands e b) d) (λ t. TooLong)) move
  paused (suc n) p operands e b action go move = ap (λ d. carry true (begins_early d)
      (read_move s.code s.number (here p operands e b) d) (quiet s.code s.number n)) move

  acts : (n : ℕ) (p : ℕ) (operands : List ℕ) (e : ℕ) (b : Bool) (action : Action ℕ) (go : Answer ℕ → Option Thread)
      (q : List (Answer ℕ)) →
      thread_move s.code (here p operands e b) ≡ Asks action go →
      feeds n (here p operands e b) q ≡ goes_on q action go
  acts n p operands e b action go q move = ap (resume s.code s.number s.bound q)
      (paused n p operands e b action go move)

  over_of : (m : Mode) (q : List (Answer ℕ)) → resume s.code s.number s.bound q (IsOver m) ≡ ending m
  over_of m [] = refl
  over_of m (x ∷ q) = refl

  -- a thread that is over
  trapped_over : (n : ℕ) (t : Thread) (q : List (Answer ℕ)) → feeds n (call_trapped t) q ≡ fed.Trapped
  trapped_over zero t q = over_of mode.Trapped q
  trapped_over (suc n) t q = over_of mode.Trapped q

  ended_over : (n : ℕ) (t : Thread) (q : List (Answer ℕ)) → feeds n (halted t) q ≡ fed.Ended
  ended_over zero t q = over_of mode.Ended q
  ended_over (suc n) t q = over_of mode.Ended q

  fetched : (p : ℕ) (i : Instruction) (operands : List ℕ) (e : ℕ) (b : Bool) →
      slice_get s.code.instructions p ≡ Some i →
      thread_move s.code (here p operands e b) ≡ fetched_move s.code (here p operands e b) (Some i)
  fetched p i operands e b has = ap (fetched_move s.code (here p operands e b)) has

  room : (operands : List ℕ) (p e : ℕ) (b : Bool) (move : FrameMove) →
      length operands < s.need →
      of_frame s.code (here p operands e b) (if nat_lt (length operands) s.need then move else Stuck) ≡ of_frame s.code
      (here p operands e b) move
  room operands p e b move lt = ap (λ x. of_frame s.code (here p operands e b) (if x then move else Stuck))
      (lt-ltb (length operands) s.need lt)

  -- CALL, HALT, and the pushes
  pub begins : (p e n : ℕ) (q : List (Answer ℕ)) →
      slice_get s.code.instructions p ≡ Some (op.Call (e + 1)) →
      e + 1 ≤ length s.calls →
      feeds n (here p [] e false) q ≡ goes_on q (act.Call (e + 1)) (λ answer. Some (here (p + 1) [] e true))
  begins p e n q has le =
      acts n p [] e false (act.Call (e + 1)) (λ answer. Some (here (p + 1) [] e true)) q
      (fetched p (op.Call (e + 1)) [] e false has
      ∙ ap (λ x. if x && nat_le (e + 1) (length s.calls) then
      Asks (act.Call (e + 1)) (λ answer. Some (here (p + 1) [] e true)) else Still) (same_number (e + 1))
      ∙ ap (λ x. if x then Asks (act.Call (e + 1)) (λ answer. Some (here (p + 1) [] e true)) else Still)
      (le-leb (e + 1) (length s.calls) le))

  -- HALT ends the thread
  pub halts : (p e n : ℕ) (q : List (Answer ℕ)) →
      slice_get s.code.instructions p ≡ Some op.Halt →
      1 ≤ n →
      feeds n (here p [] e false) q ≡ fed.Ended
  halts p e n q has le =
      silent n (n - 1) p [] e false (halted (here p [] e false)) q (omega arith) (fetched p op.Halt [] e false has) ∙
      ended_over (n - 1) (here p [] e false) q

  -- the arguments of a call are pushed
  pub pushes_run : (vs : List Value) (p m n : ℕ) (operands : List ℕ) (e : ℕ) (q : List (Answer ℕ)) →
      HasAt s.code.instructions p (pushes vs) →
      length operands + length vs ≤ s.need →
      m ≡ n + length vs →
      feeds m (here p operands e true) q ≡ feeds n (here (p + length vs) (laid (map word_of vs) operands) e true) q
  pushes_run [] p m n operands e q has le is =
      (let a : m ≡ n = omega arith in ap (λ k. feeds k (here p operands e true) q) a) ∙
      (let b : p ≡ p + 0 = omega arith in ap (λ k. feeds n (here k operands e true) q) b)
  pushes_run (v ∷ vs) p m n operands e q has le is =
      silent m (n + length vs) p operands e true (here (p + 1) (word_of v ∷ operands) e true) q (omega arith)
      (fetched p (op.Push (word_of v)) operands e true has.0 ∙
      room operands p e true (Next (frame (p + 1) (word_of v ∷ operands))) (omega arith))
      ∙ pushes_run vs (p + 1) (n + length vs) n (word_of v ∷ operands) e q has.1 (omega arith) refl
      ∙ (let b : p + 1 + length vs ≡ p + length (v ∷ vs) = omega arith in
      ap (λ k. feeds n (here k (laid (map word_of vs) (word_of v ∷ operands)) e true) q) b)

  -- the instructions that act
  pub reads : (p e n name : ℕ) (q : List (Answer ℕ)) →
      slice_get s.code.instructions p ≡ Some (op.GetName name) →
      1 ≤ s.need →
      feeds n (here p [] e true) q ≡ goes_on q (act.ReadName name) (answered s.code (here p [] e true) then.Push)
  reads p e n name q has le =
      acts n p [] e true (act.ReadName name) (answered s.code (here p [] e true) then.Push) q
      (fetched p (op.GetName name) [] e true has ∙ room [] p e true (FrameAsks (act.ReadName name) then.Push)
      (omega arith))

  -- NEW OBJECT asks for the making
  pub makes : (p e n class : ℕ) (q : List (Answer ℕ)) →
      slice_get s.code.instructions p ≡ Some (op.NewObject class) →
      1 ≤ s.need →
      feeds n (here p [] e true) q ≡ goes_on q (act.New class) (answered s.code (here p [] e true) then.Push)
  makes p e n class q has le =
      acts n p [] e true (act.New class) (answered s.code (here p [] e true) then.Push) q
      (fetched p (op.NewObject class) [] e true has ∙ room [] p e true (FrameAsks (act.New class) then.Push)
      (omega arith))

  -- DUP
  pub doubles : (p e m n o : ℕ) (q : List (Answer ℕ)) →
      slice_get s.code.instructions p ≡ Some op.Dup →
      2 ≤ s.need →
      m ≡ suc n →
      feeds m (here p (o ∷ []) e true) q ≡ feeds n (here (p + 1) (o ∷ (o ∷ [])) e true) q
  doubles p e m n o q has le is =
      silent m n p (o ∷ []) e true (here (p + 1) (o ∷ (o ∷ [])) e true) q is
      (fetched p op.Dup (o ∷ []) e true has ∙ room (o ∷ []) p e true (Next (frame (p + 1) (o ∷ (o ∷ []))))
      (omega arith))

  -- POP
  pub drops : (p e n word : ℕ) (operands : List ℕ) (q : List (Answer ℕ)) →
      slice_get s.code.instructions p ≡ Some op.Pop →
      1 ≤ n →
      feeds n (here p (word ∷ operands) e true) q ≡ feeds (n - 1) (here (p + 1) operands e true) q
  drops p e n word operands q has le =
      silent n (n - 1) p (word ∷ operands) e true (here (p + 1) operands e true) q (omega arith)
      (fetched p op.Pop (word ∷ operands) e true has)

  -- PUT NAME asks for the write of the setup name
  pub names : (p e n name o : ℕ) (q : List (Answer ℕ)) →
      slice_get s.code.instructions p ≡ Some (op.PutName name) →
      feeds n (here p (o ∷ []) e true) q ≡ goes_on q (act.WriteName name o)
      (answered s.code (here p (o ∷ []) e true) (then.Discard 1))
  names p e n name o q has = acts n p (o ∷ []) e true (act.WriteName name o)
      (answered s.code (here p (o ∷ []) e true) (then.Discard 1)) q (fetched p (op.PutName name) (o ∷ []) e true has)

  -- the results
  ends_by : (p e : ℕ) (operands : List ℕ) (r : CallResult) →
      slice_get s.code.instructions p ≡ Some (op.Result (e + 1)) →
      slice_get s.calls e ≡ Some r →
      thread_move s.code (here p operands e true) ≡ value_move (here p operands e true) (e + 1) (Some r)
  ends_by p e operands r has is =
      fetched p (op.Result (e + 1)) operands e true has
      ∙ ap (λ b. if b then value_move (here p operands e true) (e + 1) (slice_get s.calls e) else Still)
      (same_number (e + 1))
      ∙ ap (value_move (here p operands e true) (e + 1)) is

  -- RESULT of a call without a value
  pub ends_plain : (p e n : ℕ) (q : List (Answer ℕ)) →
      slice_get s.code.instructions p ≡ Some (op.Result (e + 1)) →
      slice_get s.calls e ≡ Some result.Nothing →
      feeds n (here p [] e true) q ≡ goes_on q (act.Return (e + 1) None)
      (λ answer. Some (here (p + 1) [] (e + 1) false))
  ends_plain p e n q has is = acts n p [] e true (act.Return (e + 1) None)
      (λ answer. Some (here (p + 1) [] (e + 1) false)) q (ends_by p e [] result.Nothing has is)

  -- the word that a call returns, if it returns one
  abbrev pub returned : CallResult → ℕ → Option ℕ
  returned result.Nothing word = None
  returned result.Int word = Some word
  returned result.Boolean word = Some word

  -- RESULT asks for the return event
  pub ends : (r : CallResult) (p e n word : ℕ) (q : List (Answer ℕ)) →
      HasAt s.code.instructions p (result_code r (e + 1)) →
      slice_get s.calls e ≡ Some r →
      1 ≤ n →
      feeds n (here p (word ∷ []) e true) q ≡ goes_on q (act.Return (e + 1) (returned r word))
      (λ answer. Some (here (p + length (result_code r (e + 1))) [] (e + 1) false))
  ends result.Nothing p e n word q has is le =
      drops p e n word [] q has.0 le ∙ ends_plain (p + 1) e (n - 1) q has.1.0 is
      ∙ (let b : p + 1 + 1 ≡ p + 2 = omega arith in ap (λ k.
      goes_on q (act.Return (e + 1) None) (λ answer. Some (here k [] (e + 1) false))) b)
  ends result.Int p e n word q has is le = acts n p (word ∷ []) e true (act.Return (e + 1) (Some word))
      (λ answer. Some (here (p + 1) [] (e + 1) false)) q (ends_by p e (word ∷ []) result.Int has.0 is)
  ends result.Boolean p e n word q has is le = acts n p (word ∷ []) e true (act.Return (e + 1) (Some word))
      (λ answer. Some (here (p + 1) [] (e + 1) false)) q (ends_by p e (word ∷ []) result.Boolean has.0 is)

  -- what a throw leads to: a trap event, and the end
  abbrev pub traps : ℕ → Kind → List (Answer ℕ) → Fed
  traps e kind [] = fed.Asked (act.Trap (e + 1) kind)
  traps e kind (x ∷ q) = fed.Trapped

  kind_back : (kind : Kind) → kind_of (kind_word kind) ≡ Some kind
  kind_back kinds.Arithmetic = refl
  kind_back kinds.NullPointer = refl
  kind_back kinds.ArrayIndexOutOfBounds = refl
  kind_back kinds.NegativeArraySize = refl
  kind_back kinds.IllegalMonitorState = refl
  kind_back kinds.StackOverflow = refl
  kind_back kinds.Error = refl

  abbrev at_last : ℕ → Kind → Thread
  at_last e kind = here s.trap (kind_word kind ∷ []) e true

  trap_run : Guarded s → (e n : ℕ) (kind : Kind) (q : List (Answer ℕ)) → feeds n (at_last e kind) q ≡ traps e kind q
  trap_run g e n kind q =
      acts n s.trap (kind_word kind ∷ []) e true (act.Trap (e + 1) kind)
      (λ answer. Some (call_trapped (at_last e kind))) q
      (fetched s.trap op.Trap (kind_word kind ∷ []) e true g.at_trap
      ∙ ap (λ k. on_kind k (λ found. Asks (act.Trap (e + 1) found)
      (λ answer. Some (call_trapped (here s.trap (kind_word kind ∷ []) e true))))) (kind_back kind))
      ∙ after q
    where
      after : (q : List (Answer ℕ)) →
          goes_on q (act.Trap (e + 1) kind) (λ answer. Some (call_trapped (at_last e kind))) ≡ traps e kind q
      after [] = refl
      after (x ∷ q) = trapped_over s.bound (at_last e kind) q

  cut : (operands : List ℕ) → cut_to 0 operands ≡ []
  cut operands = drops_all operands (length operands - 0) (omega arith)
    where
      drops_all : (xs : List ℕ) (n : ℕ) → n ≡ length xs → drop n xs ≡ []
      drops_all [] zero is = refl
      drops_all [] (suc n) is = refl
      drops_all (x ∷ xs) zero is = absurd (let f : ⊥ = omega arith in f)
      drops_all (x ∷ xs) (suc n) is = drops_all xs n (omega arith)

  pub caught_here : Guarded s →
      (p e : ℕ) (stack operands : List ℕ) (kind : Kind) →
      s.from ≤ p →
      p < s.trap →
      thrown_thread (here p stack e true) (thrown s.code.handlers kind (frame p operands ∷ [])) ≡ Some (at_last e kind)
  caught_here g p e stack operands kind low high =
      let row : HandlerRow = record { from = s.from; to = s.trap; handler = s.trap; depth = 0 } in
      ap (λ o. thrown_thread (here p stack e true) (elim o as (λ _. Option (Frame × List Frame))
      [ Some row ↦ onto (caught row kind (frame p operands)) [] | None ↦ thrown s.code.handlers kind [] ]))
      (g.guards p low high)
      ∙ ap (λ l. thrown_thread (here p stack e true) (onto (if nat_lt (length l) s.need then
      Some (led_to (frame p operands) s.trap (kind_word kind ∷ l)) else None) [])) (cut operands)
      ∙ ap (λ b. thrown_thread (here p stack e true) (onto (if b then
      Some (led_to (frame p operands) s.trap (kind_word kind ∷ [])) else None) []))
      (lt-ltb 0 s.need (omega (arith, g.some)))

  -- a throw leads to the trap event
  pub throws : Guarded s →
      (p e n : ℕ) (stack operands : List ℕ) (kind : Kind) (q : List (Answer ℕ)) →
      s.from ≤ p →
      p < s.trap →
      fed_from s.code s.number s.bound n (thrown_in s.code (here p stack e true) operands kind) q ≡ traps e kind q
  throws g p e n stack operands kind q low high =
      ap (λ u. fed_from s.code s.number s.bound n u q) (caught_here g p e stack operands kind low high) ∙
      trap_run g e n kind q

  -- a throw by the instruction itself
  pub throws_at : Guarded s →
      (p e n : ℕ) (operands : List ℕ) (kind : Kind) (q : List (Answer ℕ)) →
      s.from ≤ p →
      p < s.trap →
      1 ≤ n →
      thread_move s.code (here p operands e true) ≡ Steps.throw_move s.code (here p operands e true) kind →
      feeds n (here p operands e true) q ≡ traps e kind q
  throws_at g p e n operands kind q low high le move =
      silent n (n - 1) p operands e true (at_last e kind) q (omega arith)
      (move ∙ ap Steps.silent_or_still (caught_here g p e operands operands kind low high)) ∙
      trap_run g e (n - 1) kind q
