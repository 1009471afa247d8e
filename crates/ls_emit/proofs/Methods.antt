-- Methods that call each other ask what their courses ask: by induction on how many more frames there may be.
use Rattle.std.proofs.Common.{◌≡◌, ℕ, zero, suc, ◌+◌, ◌-◌, ◌*◌, ◌<◌, ◌≤◌, List, [], ◌∷◌, ◌++◌, length, reverse}
use Rattle.std.proofs.Common.{replicate, drop, Option, Some, None, Bool, true, false, refl, sym, ap, ◌∙◌, arith}
use Rattle.std.proofs.Common.{slice_get, nat_lt, nat_eq, if◌then◌else◌, length-append, append-nil, suc-mul}
use Rattle.std.proofs.lemmas.Bool.{lt-ltb, le-ltb, ne_eqb}
use Rattle.std.proofs.lemmas.List.{length-replicate}
use Rattle.ls_events.specs.declared.kind.Kind.{Kind}
use Rattle.ls_events.specs.declared.kind.Kind.TheVariants.{NullPointer, StackOverflow}
use Rattle.ls_events.specs.declared.action.Action.TheVariants as act
use Rattle.ls_code.specs.declared.instruction.Instruction.TheVariants as op
use Rattle.ls_code.specs.declared.instruction.ThreadInstruction.TheVariants as wide
use Rattle.ls_code.specs.declared.code.Method.{Method as MethodRow}
use Rattle.ls_code.specs.declared.step.Mode.{Mode}
use Rattle.ls_code.specs.declared.step.Mode.TheVariants as mode
use Rattle.ls_code.specs.Code.{Code}
use Rattle.ls_code.specs.Frame.{Frame}
use Rattle.ls_code.specs.Thread.{Thread}
use Rattle.ls_code.specs.Throws.{find_row, thrown}
use Rattle.ls_code.specs.Moves.{Beyond}
use Rattle.ls_code.specs.Calls.{CallMove, Calls as Enters, CallThrows, CallStuck, with_callee}
use Rattle.ls_code.specs.Steps.{thrown_thread, call_move, found_move, thread_move}
use Rattle.ls_code.specs.Fed.{Fed, Paused}
use Rattle.ls_code.specs.Reading.{fed, resume}
use Rattle.ls_lowered.specs.LoweredTree.{File}
use Rattle.ls_lowered.specs.Course.{Answers, Course, Asks, Ends, Stuck, Throws, returned}
use Rattle.ls_lowered.specs.Statements.{Completion, execute}
use Rattle.ls_lowered.specs.Methods.{given, told, run_body, invoke}
use Rattle.ls_emit.specs.Needs.{statement_need}
use Rattle.ls_emit.specs.Statements.{statement_size, statement_code, statement_rows}
use Rattle.ls_emit.specs.Units.{method_need, units_of, LieIn}
use Rattle.ls_emit.specs.Emittable.{IsEmittableFile}
use Rattle.ls_emit.specs.Entering.{told_by, fed_from, given_back, TakesAll, UnitsAsk}
use Rattle.ls_emit.proofs.Places.{HasAt, has_front, has_after}
use Rattle.ls_emit.proofs.Operands.{this_at, arguments_are, without_arguments}
use Rattle.ls_emit.proofs.Told.{After, out, out_returned, Go, end}
use Rattle.ls_emit.proofs.Steps.{Setting, standing, silent_step, acts, move_at, here, raised, Reaches, silent}
use Rattle.ls_emit.proofs.Runs.{Catches, Takes, push_run}
use Rattle.ls_emit.proofs.ExpressionCode.{EnterRuns}
use Rattle.ls_emit.proofs.StatementPlaces.{statement_size_is}
use Rattle.ls_emit.proofs.Exits.{Exits, by_row, raised_by}
use Rattle.ls_emit.proofs.StatementCode.{leave_run}
use Rattle.ls_emit.proofs.StatementRuns.{executes}
use Rattle.ls_emit.proofs.Placed.{row_at, Placed, no_row, placed}

-- what a body's completion gives is what its caller goes on with
abbrev given_on : (ℕ → Answers → Fed) → (Kind → Answers → Fed) → Go
given_on go h completion ls q = told_by (given completion q) go h

told_given : (x : Course Completion) (go : ℕ → Answers → Fed) (h : Kind → Answers → Fed) →
    end x (given_on go h) ≡ told_by (told x (λ completion ls q. given completion q)) go h
told_given (Asks action) go h = refl
told_given (Ends completion ls q) go h = refl
told_given Stuck go h = refl

-- a throw forgets the innermost frame
thrown_over : (t : Thread) (f : Frame) (below : List Frame) (o : Option (Frame × List Frame)) →
    thrown_thread (record t { top = f; below = below }) o ≡ thrown_thread t o
thrown_over t f below None = refl
thrown_over t f below (Some r) = refl

-- the caller's frame, which waits at p, and a method's frame above it
abbrev waiting : Thread → ℕ → List ℕ → List ℕ → Frame
waiting t p ls stack = record { counter = p; locals = ls; operands = stack; need = t.top.need }

abbrev callee : Thread → ℕ → List ℕ → List ℕ → ℕ → Thread
callee t p ls stack need = record {
  top = record { counter = 0; locals = []; operands = []; need = need };
  below = waiting t p ls stack ∷ t.below;
  mode = mode.Running;
  calls = t.calls;
  ended = t.ended;
  pending = t.pending;
}

callee_is : (row : MethodRow) (t : Thread) (p : ℕ) (values stack ls : List ℕ) →
    length values ≡ row.arguments →
    with_callee row (standing t p ls (reverse values ++ stack)) ≡ standing (callee t p ls stack row.need) row.start
    (values ++ replicate row.more 0) []
callee_is row t p values stack ls e =
    let made = λ (xs ys : List ℕ). standing (callee t p ls ys row.need) row.start (xs ++ replicate row.more 0) [] in
    ap (λ xs. made xs (drop row.arguments (reverse values ++ stack))) (arguments_are values stack row.arguments e)
    ∙ ap (λ ys. made values ys) (without_arguments values stack row.arguments e)

module _ (file : File) (emittable : IsEmittableFile file) (c : Code) (words : ℕ) (lies : LieIn c words (units_of file))
  where
    -- the frame of a method in which d methods more may be entered, one in the other
    abbrev setting : (number bound budget wide : ℕ) (t : Thread) (d : ℕ) → budget ≤ bound → Setting
    setting number bound budget wide t d inside = record {
      file = file;
      code = c;
      number = number;
      bound = bound;
      base = t;
      calls = invoke file d;
      wide = wide;
      budget = budget;
      inside = inside;
    }

    abbrev chosen : Thread → MethodRow → Thread → Bool → CallMove
    chosen base row t null = if null then CallThrows NullPointer else
        (if nat_lt (length base.below) 64 then Enters (with_callee row t) else CallThrows StackOverflow)

    enters_at : (number bound : ℕ) (t : Thread) (p m this : ℕ) (values stack ls : List ℕ) (row : MethodRow) →
        slice_get c.instructions p ≡ Some (op.Enter m) →
        slice_get c.methods m ≡ Some row →
        length (this ∷ values) ≡ row.arguments →
        thread_move c (standing t p ls (reverse (this ∷ values) ++ stack)) ≡ call_move c
        (standing t p ls (reverse (this ∷ values) ++ stack)) m
        (chosen t row (standing t p ls (reverse (this ∷ values) ++ stack)) (nat_eq this 0))
    enters_at number bound t p m this values stack ls row has is e =
        let ops = reverse (this ∷ values) ++ stack in
        let u = standing t p ls ops in
        move_at c number bound t p ls ops (op.Enter m) (Beyond (wide.Enter m)) has refl
        ∙ ap (found_move c u m) is
        ∙ ap (λ o. call_move c u m
        (elim o as (λ _. CallMove) [ None ↦ CallStuck | Some w ↦ chosen t row u (nat_eq w 0) ]))
        (this_at this values stack row.arguments e)

    -- what follows the method's value and its throw
    abbrev Returns : (number bound spare p : ℕ) (stack ls : List ℕ) (t : Thread) (q : Answers) →
        (ℕ → Answers → Fed) →
        Type 0
    Returns number bound spare p stack ls t q go = (n word : ℕ) (rest : Answers) → length rest ≤ length q → spare ≤ n →
        fed_from c number bound n (Some (standing t (p + 1) ls (word ∷ stack))) rest ≡ go word rest

    abbrev Raises : (number bound spare p : ℕ) (ls : List ℕ) (t : Thread) (q : Answers) →
        (Kind → Answers → Fed) →
        Type 0
    Raises number bound spare p ls t q h = (n : ℕ) (ops : List ℕ) (kind : Kind) (rest : Answers) →
        length rest ≤ length q → spare ≤ n → fed_from c number bound n
        (thrown_thread (standing t p ls ops) (thrown c.handlers kind (waiting t p ls ops ∷ t.below))) rest ≡ h kind rest

    -- a method other than at null, entered with room for d more
    abbrev Entered : ℕ → Type 0
    Entered d = (number bound spare m this p : ℕ) (values stack ls : List ℕ) (t : Thread) (q : Answers)
        (go : ℕ → Answers → Fed) (h : Kind → Answers → Fed) → nat_eq this 0 ≡ false →
        slice_get c.instructions p ≡ Some (op.Enter m) → length stack < t.top.need → length t.below + d ≡ 64 →
        TakesAll (slice_get file m) (this ∷ values) → spare + d * (words + 1) ≤ bound →
        Returns number bound spare p stack ls t q go → Raises number bound spare p ls t q h → (n : ℕ) → spare + 1 ≤ n →
        fed_from c number bound n (Some (standing t p ls (reverse (this ∷ values) ++ stack))) q ≡ told_by
        (invoke file d m (this ∷ values) q) go h

    null_or : (d : ℕ) →
        Entered d →
        (number bound budget wide : ℕ) (t : Thread) (inside : budget ≤ bound) →
        length t.below + d ≡ 64 →
        budget + d * (words + 1) ≤ bound →
        (b : Bool) (p m this : ℕ) (values ls stack : List ℕ) (q : Answers) (go : After ℕ) (h : After Kind) →
        nat_eq this 0 ≡ b →
        TakesAll (slice_get file m) (this ∷ values) →
        p < budget →
        slice_get c.instructions p ≡ Some (op.Enter m) →
        length stack < t.top.need →
        length ls ≡ wide →
        Takes (setting number bound budget wide t d inside) (p + 1) stack q go →
        Catches (setting number bound budget wide t d inside) p (p + 1) q h →
        Reaches (setting number bound budget wide t d inside) p
        (Some (standing t p ls (reverse (this ∷ values) ++ stack))) q
        (out (if b then Ends (Throws NullPointer) ls q else returned ls (invoke file d m (this ∷ values) q)) go h)
    null_or d entered number bound budget wide t inside deep fits true p m this values ls stack q go h e takes_it lt has
        room el takes catches =
        let s = setting number bound budget wide t d inside in
        let ops = reverse (this ∷ values) ++ stack in
        let u = standing t p ls ops in
        let at = placed file emittable c words lies m (this ∷ values) takes_it in
        let row = row_at at.start at.method in
        silent s p ls ops (raised s NullPointer p ls ops) q (h NullPointer ls q)
        (enters_at number bound t p m this values stack ls row has at.row at.takes ∙
        ap (λ b. call_move c u m (chosen t row u b)) e) lt
        (catches NullPointer ls ops q p (omega arith) (omega arith) el (omega arith))
    null_or d entered number bound budget wide t inside deep fits false p m this values ls stack q
        go h e takes_it lt has
        room el takes catches = λ n le.
        entered number bound (budget - (p + 1)) m this p values stack ls t q (λ w q. go w ls q)
        (λ kind q. h kind ls q) e
        has room deep takes_it (omega arith)
        (λ n1 word rest l1 l2. takes word ls rest el l1 n1 (omega arith))
        (λ n1 ops kind rest l1 l2. catches kind ls ops rest p (omega arith) (omega arith) el l1 n1 (omega arith))
        n (omega arith)
        ∙ sym (out_returned (invoke file d m (this ∷ values) q) ls go h)

    enter_runs : (d : ℕ) →
        Entered d →
        (number bound budget wide : ℕ) (t : Thread) (inside : budget ≤ bound) →
        length t.below + d ≡ 64 →
        budget + d * (words + 1) ≤ bound →
        EnterRuns (setting number bound budget wide t d inside)
    enter_runs d entered number bound budget wide t inside deep fits p m this values ls stack q go h
        takes_it lt has room
        el takes catches =
        null_or d entered number bound budget wide t inside deep fits (nat_eq this 0) p m this
        values ls stack q go h refl
        takes_it lt has room el takes catches

    -- the body, above its caller
    body_run : (d : ℕ) →
        Entered d →
        (number bound spare m p : ℕ) (values stack ls : List ℕ) (t : Thread) (q : Answers) (go : ℕ → Answers → Fed)
        (h : Kind → Answers → Fed) (at : Placed file c words m values) →
        length stack < t.top.need →
        length t.below + suc d ≡ 64 →
        spare + suc d * (words + 1) ≤ bound →
        Returns number bound spare p stack ls t q go →
        Raises number bound spare p ls t q h →
        fed_from c number bound bound
        (Some (standing (callee t p ls stack (method_need at.method)) at.start
        (values ++ replicate at.method.locals 0) [])) q ≡ told_by
        (run_body (invoke file d) (slice_get file m) values q) go h
    body_run d entered number bound spare m p values stack ls t q go h at room deep fits returns raises =
        let g = at.method in
        let start = at.start in
        let size = statement_size g.body in
        let base = callee t p ls stack (method_need g) in
        let budget = spare + words + 1 in
        let all : budget + d * (words + 1) ≤ bound = omega (arith, suc-mul d (words + 1)) in
        let inside : budget ≤ bound = omega arith in
        let wide = g.arguments + g.locals in
        let s = setting number bound budget wide base d inside in
        let locals = values ++ replicate g.locals 0 in
        let el : length locals ≡ wide = omega (
          arith,
          length-append values (replicate g.locals 0),
          length-replicate {A = ℕ} g.locals 0,
          at.takes,
        ) in
        let within : start + (size + 2) ≤ words = at.within in
        let code = statement_code [] start g.body in
        let enough : statement_need g.body ≤ method_need g = omega arith in
        let tail : HasAt c.instructions (start + size) (op.Push 0 ∷ op.LeaveWith ∷ []) = has_after c.instructions start
        size code (op.Push 0 ∷ op.LeaveWith ∷ []) (statement_size_is g.body [] start) at.has in
        let leaves = λ (w c1 : ℕ) (ls1 ops : List ℕ) (rest : Answers) (l1 : c1 < words) (l2 : length
        rest ≤ length q) (n :
        ℕ) (le : budget ≤ n + (c1 + 1)).
        ap (λ b. fed_from c number bound n (if b then Some (standing t (p + 1) ls (w ∷ stack)) else None) rest)
        (lt-ltb (length stack) t.top.need room)
        ∙ returns n w rest l2 (omega arith) in
        let x : Exits s start (start + size) (statement_rows start g.body) [] q (given_on go h) = record {
          normal = λ ls1 rest e1 l1. push_run s (start + size) 0 ls1 [] rest (go 0 rest) tail.0 (omega arith)
              (omega arith)
              (leave_run s (start + size + 1) 0 ls1 [] rest (go 0 rest) tail.1.0 (omega arith)
              (leaves 0 (start + size + 1) ls1 (0 ∷ []) rest (omega arith) l1));
          others = record {
            left = λ n ls1 rest a b d1. absurd (let f : ⊥ = omega arith in f);
            returned = λ w c1 ls1 ops rest l1 l2 a b. leaves w c1 ls1 ops rest (omega arith) b;
            threw = λ kind c1 ls1 ops rest l1 l2 free a b n le.
                ap (λ u. fed_from c number bound n u rest)
                (raised_by s kind c1 ls1 ops
                ∙ ap (by_row s kind c1 ls1 ops) (at.guards c1 l1 (omega arith) ∙
                no_row c1 (statement_rows start g.body) free)
                ∙ thrown_over (standing t p ls stack) (here s c1 ls1 ops).top base.below
                (thrown c.handlers kind (waiting t p ls stack ∷ t.below)))
                ∙ raises n stack kind rest b (omega arith);
          };
        } in
        executes s (enter_runs d entered number bound budget wide base inside (omega arith) all)
        g.body [] start locals q
        (given_on go h) (has_front c.instructions start code _ at.has) at.fits.body enough (omega arith)
        (λ c1 l1 l2. (
          [],
          at.guards c1 l1 (omega arith) ∙ ap (λ l. find_row l c1)
              (sym (append-nil (statement_rows start g.body))),
        )) el x bound (omega arith)
        ∙ told_given (execute (invoke file d) g.body locals q) go h
        ∙ ap (λ o. told_by (run_body (invoke file d) o values q) go h) (sym at.is)

    -- the callee of a method that is entered
    after_enter : (d : ℕ) →
        Entered d →
        (number bound spare m this p : ℕ) (values stack ls : List ℕ) (t : Thread) (q : Answers) (go : ℕ → Answers → Fed)
        (h : Kind → Answers → Fed) (at : Placed file c words m (this ∷ values)) →
        length stack < t.top.need →
        length t.below + suc d ≡ 64 →
        spare + suc d * (words + 1) ≤ bound →
        Returns number bound spare p stack ls t q go →
        Raises number bound spare p ls t q h →
        resume c number bound q
        (Paused (act.Enter m)
        (λ answer. Some (with_callee (row_at at.start at.method)
        (standing t p ls (reverse (this ∷ values) ++ stack))))) ≡ told_by (invoke file (suc d) m (this ∷ values) q) go
        h
    unfolding invoke
    after_enter d entered number bound spare m this p values stack ls t [] go h at room deep fits returns raises = refl
    after_enter d entered number bound spare m this p values stack ls t (answer ∷ rest) go h at room deep fits returns
        raises =
        ap (λ u. fed_from c number bound bound (Some u) rest) (callee_is (row_at at.start at.method) t p (this ∷ values)
        stack ls at.takes)
        ∙ body_run d entered number bound spare m p (this ∷ values) stack ls t rest go h at room deep fits
        (λ n word rest1 l1 l2. returns n word rest1 (omega arith) l2)
        (λ n ops kind rest1 l1 l2. raises n ops kind rest1 (omega arith) l2)

    -- a thread that enters a method, with d methods more to enter, does what the method's course says
    pub enters : (d : ℕ) → Entered d
    unfolding invoke
    enters zero number bound spare m this p values stack ls t q go h e has room deep takes_it fits returns raises zero
        le = absurd (let f : ⊥ = omega arith in f)
    enters zero number bound spare m this p values stack ls t q go h e has room deep takes_it fits
        returns raises (suc n)
        le =
        let ops = reverse (this ∷ values) ++ stack in
        let u = standing t p ls ops in
        let at = placed file emittable c words lies m (this ∷ values) takes_it in
        let row = row_at at.start at.method in
        silent_step c number bound t p ls ops (thrown_thread u
        (thrown c.handlers StackOverflow (waiting t p ls ops ∷ t.below))) q n
        (enters_at number bound t p m this values stack ls row has at.row at.takes
        ∙ ap (λ b. call_move c u m (chosen t row u b)) e
        ∙ ap (λ b. call_move c u m (if b then Enters (with_callee row u) else CallThrows StackOverflow))
        (le-ltb (length t.below) 64 (omega arith)))
        ∙ raises n ops StackOverflow q (omega arith) (omega arith)
    enters (suc d) number bound spare m this p values stack ls t q go h e has room deep takes_it fits returns raises n
        le =
        let ops = reverse (this ∷ values) ++ stack in
        let u = standing t p ls ops in
        let at = placed file emittable c words lies m (this ∷ values) takes_it in
        let row = row_at at.start at.method in
        acts c number bound t p ls ops (act.Enter m) (λ answer. Some (with_callee row u)) q n
        (enters_at number bound t p m this values stack ls row has at.row at.takes
        ∙ ap (λ b. call_move c u m (chosen t row u b)) e
        ∙ ap (λ b. call_move c u m (if b then Enters (with_callee row u) else CallThrows StackOverflow))
        (lt-ltb (length t.below) 64 (omega arith)))
        ∙ after_enter d (enters d) number bound spare m this p values stack ls t q go h at room deep fits returns raises

-- the law: the units of a file ask what its methods ask
pub ask : (file : File) → IsEmittableFile file → UnitsAsk file (units_of file)
ask file emittable c words lies number bound depth spare m this values stack t q go h entering takes_it fits returns
    raises n le =
    let p = t.top.counter in
    let ls = t.top.locals in
    let with_mode = λ (k : Mode). record t { mode = k } in
    let with_operands = λ (ops : List ℕ). standing t p ls ops in
    ap (λ k. fed c number bound n (with_mode k) q) entering.running
    ∙ ap (λ ops. fed c number bound n (with_operands ops) q) entering.operands
    ∙ enters file emittable c words lies depth number bound spare m this p values stack ls t q go h
    (ne_eqb this 0 entering.not_null) entering.enters entering.room entering.allowed takes_it fits
    (λ n1 word rest l1 l2. sym (ap (λ k. fed c number bound n1 (record (given_back t stack word) { mode = k }) rest)
    entering.running) ∙ returns n1 word rest l1 l2)
    (λ n1 ops kind rest l1 l2.
    let o = thrown c.handlers kind (waiting t p ls ops ∷ t.below) in
    ap (λ u. fed_from c number bound n1 u rest) (thrown_over (with_mode mode.Running) (waiting t p ls ops) t.below o ∙
    sym (ap (λ k. thrown_thread (with_mode k) o) entering.running))
    ∙ raises n1 ops kind rest l1 l2)
    n le
