-- In its own code a thread is silent for few steps in a row.
use Rattle.std.proofs.Common.{◌≡◌, ℕ, zero, suc, ◌+◌, ◌-◌, ◌≤◌, ◌<◌, List, [], ◌∷◌, ◌++◌, length, Some, refl, sym, ap}
use Rattle.std.proofs.Common.{◌∙◌, subst, arith, append_assoc, slice_get, ◌⊎◌, inl, inr}
use Rattle.std.proofs.lemmas.Option.{same_Some}
use Rattle.ls_events.specs.declared.value.Value.{Value}
use Rattle.ls_checked.specs.CheckedTree.{Class, File}
use Rattle.ls_checked.specs.CheckedProgram.{ProgramCall, Making, Calling, ThreadProgram, Program}
use Rattle.ls_meaning.specs.Expressions.{constructor_of}
use Rattle.ls_code.specs.Code.{Code, Start}
use Rattle.ls_code.specs.Thread.{Thread}
use Rattle.ls_code.specs.Throws.{find_row}
use Rattle.ls_code.specs.declared.code.CallResult.{CallResult}
use Rattle.ls_code.specs.declared.code.CallResult.TheVariants as result
use Rattle.ls_code.specs.declared.code.HandlerRow.{HandlerRow}
use Rattle.ls_code.specs.declared.instruction.Instruction.{Instruction}
use Rattle.ls_code.specs.declared.instruction.Instruction.TheVariants as op
use Rattle.ls_code.specs.declared.step.Mode.TheVariants as mode
use Rattle.ls_preservation.specs.Threads.{result_type}
use Rattle.ls_lowered.specs.LoweredTree as low
use Rattle.ls_emit.specs.Units.{units_of}
use Rattle.ls_linker.specs.Threads.{pushes, result_code, call_code, calls_code, thread_code, thread_size}
use Rattle.ls_linker.specs.Threads.{thread_row}
use Rattle.ls_linker.specs.Linked.{linked, words_of, units_code, units_rows}
use Rattle.ls_linker.proofs.UnitLists.{RowsEnd}
use Rattle.ls_emit.proofs.Places.{HasAt}
use Rattle.ls_linker.proofs.UnitRuns.{all_within, units_end, units_long}
use Rattle.ls_linker.proofs.ThreadRuns.{ThreadLies, Thread as LyingThread, threads_lie}
use Rattle.ls_linker.proofs.Linked.{last_traps}
use Rattle.ls_linker.specs.Quick.{InFrame}
use Rattle.ls_linker.specs.Own.{values_of, most_values, ThreadsAreQuick}
use Rattle.ls_linker.proofs.OwnSteps.{IsOwn, LeadsTo, trap_acts, own_step}

-- how many silent steps code may begin with
abbrev run : List Instruction → ℕ
run [] = 0
run (op.Push v ∷ is) = suc (run is)
run (op.Dup ∷ is) = suc (run is)
run (op.Pop ∷ is) = suc (run is)
run (op.Enter m ∷ is) = 1
run (op.Halt ∷ is) = 1
run _ = 0

-- own code, of which no part begins with more
abbrev Fine : ℕ → List Instruction → Type 0
Fine k [] = Unit {0}
Fine k (i ∷ is) = IsOwn i × (run (i ∷ is) ≤ k) × Fine k is

fine_more : (k j : ℕ) (is : List Instruction) → k ≤ j → Fine k is → Fine j is
fine_more k j [] l h = tt
fine_more k j (i ∷ is) l h = (h.0, (let a = h.1 in omega (arith, a, l)), fine_more k j is l h.2)

pushes_run : (vs : List Value) (ys : List Instruction) → run (pushes vs ++ ys) ≡ length vs + run ys
pushes_run [] ys = omega arith
pushes_run (v ∷ vs) ys = omega (arith, pushes_run vs ys)

pushes_fine : (k : ℕ) (vs : List Value) (ys : List Instruction) →
    length vs + run ys ≤ k →
    Fine k ys →
    Fine k (pushes vs ++ ys)
pushes_fine k [] ys l h = h
pushes_fine k (v ∷ vs) ys l h = (tt, omega (arith, pushes_run vs ys, l), pushes_fine k vs ys (omega (arith, l)) h)

-- code that begins with an action
abbrev Acts : List Instruction → Type 0
Acts ys = run ys ≤ 1

result_fine : (k : ℕ) (r : CallResult) (n : ℕ) (ys : List Instruction) →
    1 ≤ k →
    Fine k ys →
    Fine k (result_code r n ++ ys)
result_fine k result.Nothing n ys l h = (tt, l, (tt, omega arith, h))
result_fine k result.Int n ys l h = (tt, omega arith, h)
result_fine k result.Boolean n ys l h = (tt, omega arith, h)

call_fine : (classes : List Class) (n : ℕ) (c : ProgramCall) (k : ℕ) (ys : List Instruction) →
    length (values_of c) + 3 ≤ k →
    Fine k ys →
    Fine k (call_code classes n c ++ ys)
call_fine classes n (Making name x text vs) k ys l h =
    let rest : List Instruction = op.Enter (constructor_of classes x) ∷ op.Pop ∷ op.PutName name ∷ op.Result n ∷ [] in
    let same : pushes vs ++ (rest ++ ys) ≡ (pushes vs ++ rest) ++ ys = sym (append_assoc (pushes vs) rest ys) in
    let behind : Fine k (rest ++ ys) = (
      tt,
      omega (arith, l),
      (tt, omega (arith, l), (tt, omega arith, (tt, omega arith, h))),
    ) in
    let from : Fine k ((pushes vs ++ rest) ++ ys) = subst (Fine k) same
    (pushes_fine k vs (rest ++ ys) (omega (arith, l)) behind) in
    let long : run ((pushes vs ++ rest) ++ ys) ≡ length vs + 1 = ap run (sym same) ∙ pushes_run vs (rest ++ ys) in
    (tt, omega arith, (tt, omega arith, (tt, omega (arith, long, l), from)))
call_fine classes n (Calling name m text answers vs) k ys l h =
    let rest : List Instruction = op.Enter m ∷ result_code (result_type answers) n in
    let same : pushes vs ++ (rest ++ ys) ≡ (pushes vs ++ rest) ++ ys = sym (append_assoc (pushes vs) rest ys) in
    let behind : Fine k (rest ++ ys) = (
      tt,
      omega (arith, l),
      result_fine k (result_type answers) n ys (omega (arith, l)) h,
    ) in
    (tt, omega arith, (tt, omega arith, subst (Fine k) same (pushes_fine k vs (rest ++ ys) (omega (arith, l)) behind)))

calls_fine : (classes : List Class) (n : ℕ) (cs : List ProgramCall) →
    Fine (most_values cs + 3) (calls_code classes n cs)
calls_fine classes n [] = (tt, omega arith, (tt, omega arith, tt))
calls_fine classes n (c ∷ cs) =
    call_fine classes n c (most_values (c ∷ cs) + 3) (calls_code classes (n + 1) cs) (omega arith)
    (fine_more (most_values cs + 3) (most_values (c ∷ cs) + 3) (calls_code classes (n + 1) cs) (omega arith)
    (calls_fine classes (n + 1) cs))

-- the code from a place on
look : (k : ℕ) (whole : List Instruction) (start : ℕ) (is : List Instruction) →
    HasAt whole start is →
    Fine k is →
    (p j : ℕ) →
    p ≡ start + j →
    j < length is →
    (rest : List Instruction) × HasAt whole p rest × Fine k rest × (p + length rest ≡ start + length is)
look k whole start [] has fine p j e l = absurd (let no : ⊥ = omega (arith, l) in no)
look k whole start (i ∷ is) has fine p zero e l = (let here : start ≡ p = omega (arith, e) in
    (i ∷ is, subst (λ q. HasAt whole q (i ∷ is)) here has, fine, omega (arith, e)))
look k whole start (i ∷ is) has fine p (suc j) e l =
    let r = look k whole (start + 1) is has.1 fine.2 p j (omega (arith, e)) (omega (arith, l)) in
    (r.0, r.1, r.2, omega (arith, r.3))

same_instruction : (whole : List Instruction) (p q : ℕ) (a b : Instruction) →
    p ≡ q →
    slice_get whole p ≡ Some a →
    slice_get whole q ≡ Some b →
    a ≡ b
same_instruction whole p q a b e f g = same_Some a b (sym f ∙ ap (slice_get whole) e ∙ g)

-- after a silent step: one step less is left, or no silent step follows
abbrev Left : ℕ → ℕ → List Instruction → Instruction → Thread → Type 0
Left p trap is i s = ((run (i ∷ is) ≡ suc (run is)) × (s.top.counter ≡ p + 1)) ⊎
    ((run (i ∷ is) ≡ 1) × ((s.top.counter ≡ trap) ⊎ (s.mode ≡ mode.Ended)))

leads_run : (p trap : ℕ) (i : Instruction) (is : List Instruction) (s : Thread) →
    LeadsTo p trap i s →
    Left p trap is i s
leads_run p trap op.Halt is s h = inr (refl, inr h)
leads_run p trap (op.Push x) is s h = inl (refl, h)
leads_run p trap (op.Load x) is s h = absurd h
leads_run p trap (op.Store x) is s h = absurd h
leads_run p trap op.Pop is s h = inl (refl, h)
leads_run p trap op.Dup is s h = inl (refl, h)
leads_run p trap op.Add is s h = absurd h
leads_run p trap op.Sub is s h = absurd h
leads_run p trap op.Mul is s h = absurd h
leads_run p trap op.Div is s h = absurd h
leads_run p trap op.Remainder is s h = absurd h
leads_run p trap op.Neg is s h = absurd h
leads_run p trap op.Lt is s h = absurd h
leads_run p trap op.Le is s h = absurd h
leads_run p trap op.Gt is s h = absurd h
leads_run p trap op.Ge is s h = absurd h
leads_run p trap op.Eq is s h = absurd h
leads_run p trap op.Ne is s h = absurd h
leads_run p trap op.Not is s h = absurd h
leads_run p trap (op.Jump x) is s h = absurd h
leads_run p trap (op.JumpIfFalse x) is s h = absurd h
leads_run p trap (op.JumpIfTrue x) is s h = absurd h
leads_run p trap (op.Turn x) is s h = absurd h
leads_run p trap (op.GetField x) is s h = absurd h
leads_run p trap (op.PutField x) is s h = absurd h
leads_run p trap op.GetItem is s h = absurd h
leads_run p trap op.PutItem is s h = absurd h
leads_run p trap (op.GetName x) is s h = absurd h
leads_run p trap (op.PutName x) is s h = absurd h
leads_run p trap (op.NewObject x) is s h = absurd h
leads_run p trap op.NewLock is s h = absurd h
leads_run p trap op.NewMarkable is s h = absurd h
leads_run p trap op.NewArray is s h = absurd h
leads_run p trap op.Lock is s h = absurd h
leads_run p trap op.Unlock is s h = absurd h
leads_run p trap op.TryLock is s h = absurd h
leads_run p trap op.IsHeld is s h = absurd h
leads_run p trap (op.See x) is s h = absurd h
leads_run p trap (op.Take x) is s h = absurd h
leads_run p trap (op.DropLock x) is s h = absurd h
leads_run p trap op.ReadPair is s h = absurd h
leads_run p trap op.ReferenceOf is s h = absurd h
leads_run p trap op.MarkOf is s h = absurd h
leads_run p trap op.Pack is s h = absurd h
leads_run p trap op.SetPair is s h = absurd h
leads_run p trap op.SwapPair is s h = absurd h
leads_run p trap op.AttemptMark is s h = absurd h
leads_run p trap (op.Enter x) is s h = inr (refl, inl h)
leads_run p trap op.Leave is s h = absurd h
leads_run p trap op.LeaveWith is s h = absurd h
leads_run p trap op.Throw is s h = absurd h
leads_run p trap (op.Call x) is s h = absurd h
leads_run p trap (op.Result x) is s h = absurd h
leads_run p trap op.Trap is s h = absurd h

before : (p q : ℕ) → p ≤ q → (p < q) ⊎ (p ≡ q)
before zero zero l = inr refl
before zero (suc q) l = inl (omega arith)
before (suc p) zero l = absurd (let no : ⊥ = omega (arith, l) in no)
before (suc p) (suc q) l = further (before p q (omega (arith, l)))
  where
    further : (p < q) ⊎ (p ≡ q) → (suc p < suc q) ⊎ (suc p ≡ suc q)
    further (inl h) = inl (omega (arith, h))
    further (inr h) = inr (ap suc h)

module _ (c : Code) (from trap k : ℕ) (row : HandlerRow) (leads : row.handler ≡ trap)
    (at_trap : slice_get c.instructions trap ≡ Some op.Trap)
    (guards : (p : ℕ) → from ≤ p → p < trap → find_row c.handlers p ≡ Some row) where
  -- nothing silent follows at the place of TRAP, nor after the thread's end
  trap_stops : (n : ℕ) (x x' : Thread) → x.top.counter ≡ trap → InFrame c n x x' → n ≡ 0
  trap_stops zero x x' e h = refl
  trap_stops (suc n) x x' e h = absurd (trap_acts c x trap (ap (slice_get c.instructions) e ∙ at_trap) h.1 h.2 h.3)

  ended_stops : (n : ℕ) (x x' : Thread) → x.mode ≡ mode.Ended → InFrame c n x x' → n ≡ 0
  ended_stops zero x x' e h = refl
  ended_stops (suc n) x x' e h = absurd (let no : mode.Ended ≡ mode.Running = sym e ∙ h.0 in cc)

  stops : (n : ℕ) (x x' : Thread) → (x.top.counter ≡ trap) ⊎ (x.mode ≡ mode.Ended) → InFrame c n x x' → n ≡ 0
  stops n x x' (inl e) h = trap_stops n x x' e h
  stops n x x' (inr e) h = ended_stops n x x' e h

  left_by : (n p : ℕ) (i : Instruction) (is : List Instruction) (s x' : Thread) →
      Left p trap is i s →
      InFrame c n s x' →
      (s.top.counter ≡ p + 1 → n ≤ run is) →
      suc n ≤ run (i ∷ is)
  left_by n p i is s x' (inl l) h rest = let r = rest l.1 in omega (arith, l.0, r)
  left_by n p i is s x' (inr l) h rest = omega (arith, l.0, stops n s x' l.1 h)

  step_at : (n : ℕ) (i : Instruction) (is : List Instruction) (p : ℕ) (x x' : Thread) →
      from ≤ p →
      HasAt c.instructions p (i ∷ is) →
      Fine k (i ∷ is) →
      x.top.counter ≡ p →
      (h : InFrame c (suc n) x x') →
      (p < trap → (s : Thread) → s.top.counter ≡ p + 1 → InFrame c n s x' → n ≤ run is) → (p < trap) ⊎ (p ≡ trap) →
      suc n ≤ run (i ∷ is)
  step_at n i is p x x' lo has fine e h rest (inr at) = (let no = trap_stops (suc n) x x' (e ∙ at) h in
      omega (arith, no))
  step_at n i is p x x' lo has fine e h rest (inl below) =
      let o = own_step c x trap row (ap (find_row c.handlers) e ∙ guards p lo below) leads i fine.0
      (ap (slice_get c.instructions) e ∙ has.0) h.1 h.2 h.3 in
      left_by n p i is h.1 x' (subst (λ q. Left q trap is i h.1) e (leads_run x.top.counter trap i is h.1 o)) h.4
      (λ at. rest below h.1 at h.4)

  runs : (n : ℕ) (is : List Instruction) (p : ℕ) (x x' : Thread) →
      from ≤ p →
      p ≤ trap →
      p + length is ≡ trap + 1 →
      HasAt c.instructions p is →
      Fine k is →
      x.top.counter ≡ p →
      InFrame c n x x' →
      n ≤ run is
  runs zero is p x x' lo hi len has fine e h = omega arith
  runs (suc n) [] p x x' lo hi len has fine e h = absurd (let no : ⊥ = omega (arith, hi, len) in no)
  runs (suc n) (i ∷ is) p x x' lo hi len has fine e h =
      step_at n i is p x x' lo has fine e h (λ below s at h'.
      runs n is (p + 1) s x' (omega (arith, lo)) (omega (arith, below)) (omega (arith, len)) has.1 fine.2 at h')
      (before p trap hi)

fine_run : (k : ℕ) (is : List Instruction) → Fine k is → run is ≤ k
fine_run k [] h = omega arith
fine_run k (i ∷ is) h = h.1

some_code : (classes : List Class) (n : ℕ) (cs : List ProgramCall) → 1 ≤ length (calls_code classes n cs)
some_code classes n [] = omega arith
some_code classes n (Making name c text vs ∷ cs) = omega arith
some_code classes n (Calling name m text answers vs ∷ cs) = omega arith

module _ (file : File) (program : Program) (lowered : low.File) where
  abbrev code : Code
  code = linked file program (units_of lowered)

  abbrev words : ℕ
  words = words_of (units_of lowered)

  thread_at : (t : ℕ) (s : Start) →
      slice_get code.starts t ≡ Some s →
      LyingThread code file.classes program.threads words t s
  thread_at t s e =
      threads_lie code file.classes program.threads words words (units_code 0 (units_of lowered))
      (units_rows 0 (units_of lowered)) (omega arith) (sym (units_long (units_of lowered) 0))
      (let same : 0 + words ≡ words = omega arith in subst (λ k. RowsEnd k (units_rows 0 (units_of lowered))) same
      (units_end (units_of lowered) 0 (all_within lowered))) refl refl t s e

  lying_quick : (p : ThreadProgram) (place n : ℕ) (x x' : Thread) →
      ThreadLies code file.classes p words place →
      place ≤ x.top.counter →
      x.top.counter < place + thread_size file.classes p →
      InFrame code n x x' →
      n ≤ most_values p.calls + 3
  lying_quick p place n x x' lies lo hi h =
      let size = thread_size file.classes p in
      let some = some_code file.classes 1 p.calls in
      let k = most_values p.calls + 3 in
      let trap = place + (size - 1) in
      let r = look k code.instructions place (thread_code file.classes p) lies.stands
      (calls_fine file.classes 1 p.calls) x.top.counter (x.top.counter - place) (omega (arith, lo))
      (omega (arith, lo, hi)) in
      let quick = runs code place trap k (thread_row place size) refl
      (last_traps code.instructions file.classes 1 p.calls place lies.stands) lies.guards n r.0 x.top.counter x
      x' lo (omega (arith, hi, some)) (omega (arith, r.3, some)) r.1 r.2 refl h in
      let most = fine_run k r.0 r.2 in
      omega (arith, quick, most)

  -- the law: threads are quick in their own code
  pub threads_quick : ThreadsAreQuick file program code
  threads_quick t p s found starts n x x' lo hi h =
      let th = thread_at t s starts in
      let same : th.program ≡ p = same_Some th.program p (sym th.found ∙ found) in
      let at : s.place ≡ th.place = ap (λ (z : Start). z.place) th.starts in
      subst (λ z. n ≤ most_values z.calls + 3) same
      (lying_quick th.program th.place n x x' th.lies (omega (arith, lo, at))
      (omega (arith, hi, at, ap (thread_size file.classes) same)) h)
