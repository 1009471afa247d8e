-- Many steps of one thread, one after another.
use Rattle.std.proofs.Common.{◌≡◌, ℕ, zero, suc, ◌+◌, ◌<◌, ◌≤◌, ◌++◌, ◌∷◌, ◌-◌, List, [], Bool, true, false, ◌&&◌, drop}
use Rattle.std.proofs.Common.{drop-cons, length, map, set, get_or, Option, Some, None, slice_get, option_map, refl, ap}
use Rattle.std.proofs.Common.{sym, subst, ◌∙◌, arith}
use Rattle.std.proofs.Math.Seq.{map-set_same}
use Rattle.std.proofs.lemmas.List.{append-nil, map-set, length-set, get_or-set_same, set-get_or, set-set}
use Rattle.std.proofs.lemmas.List.Sums.{sum_by-set}
use Rattle.std.proofs.lemmas.List.Elements.{All-set}
use Rattle.std.proofs.lemmas.Option.{slice_get_within, slice_get-map, slice_get-get_or, get_or_from_slice_get}
use Rattle.ls_code.specs.Code.{Code}
use Rattle.ls_code.specs.Cells.{Cells}
use Rattle.ls_code.specs.Events.{events_of}
use Rattle.ls_code.specs.Frame.{Frame}
use Rattle.ls_code.specs.Thread.{Thread, with_top}
use Rattle.ls_code.specs.Moves.{FrameMove, Next, Throws, Stuck, Asks as FrameAsks, Beyond, frame_move}
use Rattle.ls_code.specs.Steps.{Silent, StepResult, step_result, performed, fetched_move, of_frame}
use Rattle.ls_code.specs.Machine.{Machine, is_due, is_running, stops, after, Stepped, stepped_by, machine_step}
use Rattle.ls_code.specs.Machine.{machine_run, open_step, due_step, step_of}
use Rattle.ls_code.specs.declared.instruction.Instruction.{Instruction}
use Rattle.ls_code.specs.declared.step.Did.{Did}
use Rattle.ls_code.specs.declared.step.Did.TheVariants as did
use Rattle.ls_events.specs.declared.event.Event.{Event}
use Rattle.ls_machine_moves.specs.Gliding.{next_of, moved_by, moved, glided}
use Rattle.ls_machine_threads.specs.Memory.{KeptThread, MethodsFit, keeping_thread, no_thread, events_left}
use Rattle.ls_machine.specs.Back.{IsOf}
use Rattle.ls_machine.specs.Room.{HasMemory}
use Rattle.ls_machine.specs.Staying.{turns, standing_at, outcome_at, IsUnseenStep, Stays}
use Rattle.ls_machine.specs.Outcomes.{Came}
use Rattle.ls_machine.specs.Takes.{IsUnseen, TakesEvents}
use Rattle.ls_machine.proofs.Back.{calls_of, needs_kept}
use Rattle.ls_machine.proofs.Keeping.{step_keeps}
use Rattle.ls_machine.proofs.Whole.{came_here}

-- so many steps of a thread and then one more, and then as many more
pub turns_cons : (count n : ℕ) (rest : List ℕ) → turns count n (n ∷ rest) ≡ n ∷ turns count n rest
turns_cons zero n rest = refl
turns_cons (suc count) n rest = turns_cons count n (n ∷ rest)

pub turns_plus : (a b n : ℕ) (rest : List ℕ) → turns (a + b) n rest ≡ turns a n (turns b n rest)
turns_plus zero b n rest =
    let e : 0 + b ≡ b = omega arith in
    rw e refl
turns_plus (suc a) b n rest =
    let e : suc a + b ≡ suc (a + b) = omega arith in
    rw e (turns_plus a b n (n ∷ rest) ∙ ap (turns a n) (turns_cons b n rest))

-- steps that do nothing
pub idle_turns :
    (m : Machine) (n count : ℕ) (rest : List ℕ)
    → (machine_step m n).machine ≡ m
    → machine_run m (turns count n rest) ≡ machine_run m rest
idle_turns m n zero rest h = refl
idle_turns m n (suc count) rest h = idle_turns m n count (n ∷ rest) h ∙ ap (λ (x : Machine). machine_run x rest) h

machine_after :
    (m : Machine) (n : ℕ) (t : Thread) (c : Cells) (b : Bool) (es : List Event)
    → b ≡ m.stopped
    → es ≡ []
    → record m { threads = set m.threads n t; cells = c; stopped = b; history = m.history ++ es } ≡ standing_at m n t c
machine_after m n t c b es e f = rw (e, f, append-nil) refl

-- a step that isn't seen
pub one_step :
    (m : Machine) (n : ℕ) (old new : KeptThread) (c' : Cells)
    → slice_get m.threads n ≡ Some old.thread
    → m.stopped ≡ false
    → is_due m.threads n old.thread ≡ true
    → IsUnseenStep m.code n old new m.cells c'
    → (machine_step m n).machine ≡ standing_at m n new.thread c'
one_step m n old new c' there runs due step =
    let o : StepResult = outcome_at m.code n old m.cells in
    let found : machine_step m n ≡ stepped_by (after m n o) o.did = ap (step_of m n) there ∙
    (ap (open_step m n old.thread) runs ∙ ap (due_step m n old.thread) due) in
    let is : after m n o ≡ standing_at m n o.thread o.cells = machine_after m n o.thread o.cells (stops o.did)
    (events_of m.code n o.did) (step.unseen.0 ∙ sym runs) (step.unseen.1 m.code n) in
    let thread : new.thread ≡ o.thread = ap (λ (k : KeptThread). k.thread) step.came.0 in
    ap (λ (s : Stepped). s.machine) found ∙
    (is ∙ (ap (λ (t : Thread). standing_at m n t o.cells) (sym thread) ∙
    ap (standing_at m n new.thread) (sym step.came.1)))

-- the thread is due again
and_right : (a b : Bool) → a && b ≡ true → b ≡ true
and_right true b h = h
and_right false b h = absurd cc

due_stays :
    (ts : List Thread) (n : ℕ) (t s : Thread)
    → is_due ts n t ≡ true
    → is_running s.mode ≡ true
    → is_due (set ts n s) n s ≡ true
due_stays ts zero t s due runs = rw runs refl
due_stays [] (suc n) t s due runs = rw runs (and_right (is_running t.mode) _ due)
due_stays (x ∷ ts) (suc n) t s due runs = rw runs (and_right (is_running t.mode) _ due)

there_again : (ts : List Thread) (n : ℕ) (t s : Thread) → slice_get ts n ≡ Some t → slice_get (set ts n s) n ≡ Some s
there_again ts n t s there =
    let within = slice_get_within ts n t there in
    let count = length-set ts n s in
    slice_get-get_or (set ts n s) n s (omega (arith, within, count)) ∙ ap Some (get_or-set_same ts n s s within)

unchanged : (ts : List Thread) (n : ℕ) (t : Thread) → slice_get ts n ≡ Some t → set ts n t ≡ ts
unchanged ts n t there = ap (set ts n) (sym (get_or_from_slice_get ts n t t there)) ∙ set-get_or ts n t

-- no steps
pub stays_none : (p : Code) (n : ℕ) (k : KeptThread) (c : Cells) → Stays p n 0 k k c c
stays_none p n k c = record {
  runs = λ m rest code there cells stopped due. ap (λ (x : Machine). machine_run x rest)
      (sym (rw (unchanged m.threads n k.thread there, cells) refl));
  memory = refl;
  calls = refl;
  left = omega arith;
  limit = refl;
  names = refl;
  sizes = refl;
}

-- one step more
module _ (p : Code) (n count total : ℕ) (old mid new : KeptThread) (c c1 c2 : Cells) (s : Stays p n count old mid c c1)
    (running : is_running mid.thread.mode ≡ true) (step : IsUnseenStep p n mid new c1 c2) (more : total ≡ suc count)
  where
    abbrev kept : Machine → Machine
    kept m = standing_at m n mid.thread c1

    more_runs :
        (m : Machine) (rest : List ℕ)
        → m.code ≡ p
        → slice_get m.threads n ≡ Some old.thread
        → m.cells ≡ c
        → m.stopped ≡ false
        → is_due m.threads n old.thread ≡ true
        → machine_run m (turns total n rest) ≡ machine_run (standing_at m n new.thread c2) rest
    more_runs m rest code there cells stopped due =
        let first : machine_run m (turns count n (n ∷ rest)) ≡ machine_run (kept m) (n ∷ rest) =
        s.runs m (n ∷ rest) code
        there cells stopped due in
        let here : IsUnseenStep m.code n mid new c1 c2 = subst (λ (q : Code). IsUnseenStep q n mid new c1 c2) (sym code)
        step in
        let second : (machine_step (kept m) n).machine ≡ standing_at (kept m) n new.thread c2 = one_step (kept m) n mid
        new c2 (there_again m.threads n old.thread mid.thread there) stopped
        (due_stays m.threads n old.thread mid.thread due running) here in
        let same : standing_at (kept m) n new.thread c2 ≡ standing_at m n new.thread c2 = ap
        (λ (ts : List Thread). record m { threads = ts; cells = c2 }) (set-set m.threads n mid.thread new.thread)
        in
        rw more (first ∙ ap (λ (x : Machine). machine_run x rest) (second ∙ same))

    pub stays_more : Stays p n total old new c c2
    stays_more =
        let o : StepResult = outcome_at p n mid c1 in
        let keeps = step_keeps p mid.thread c1 n in
        let thread : new.thread ≡ o.thread = ap (λ (k : KeptThread). k.thread) step.came.0 in
        record {
          runs = more_runs;
          memory = step.came.0 ∙ (ap (λ (k : KeptThread). keeping_thread k o.thread) s.memory ∙
              ap (keeping_thread old) (sym thread));
          calls = ap calls_of step.came.0 ∙ (keeps.0 ∙ s.calls);
          left = let a = s.left in let b = step.left in omega (arith, a, b);
          limit = ap (λ (x : Cells). x.limit) step.came.1 ∙ (keeps.1.0 ∙ s.limit);
          names = ap (λ (x : Cells). x.names) step.came.1 ∙ (keeps.1.1 ∙ s.names);
          sizes = ap (λ (x : Cells). x.sizes) step.came.1 ∙ (keeps.1.2 ∙ s.sizes);
        }

-- a silent move of the innermost frame
of_next :
    (p : Code) (t : Thread) (f : Frame) (move : FrameMove)
    → next_of move ≡ Some f
    → of_frame p t move ≡ Silent (with_top t f)
of_next p t f (Next g) h = let e : g ≡ f = cc in rw e refl
of_next p t f (Throws kind) h = absurd cc
of_next p t f Stuck h = absurd cc
of_next p t f (FrameAsks action resume) h = absurd cc
of_next p t f (Beyond instruction) h = absurd cc

fetched_next :
    (p : Code) (t : Thread) (f : Frame) (i : Option Instruction)
    → moved_by t.top i ≡ Some f
    → fetched_move p t i ≡ Silent (with_top t f)
fetched_next p t f None h = absurd cc
fetched_next p t f (Some i) h = of_next p t f (frame_move i t.top) h

silent_unseen : IsUnseen did.Silent
silent_unseen = (refl, λ p thread. refl)

silent_step :
    (p : Code) (n : ℕ) (k : KeptThread) (f : Frame) (c : Cells)
    → moved p.instructions (Some k.thread.top) ≡ Some f
    → IsUnseenStep p n k (keeping_thread k (with_top k.thread f)) c c
silent_step p n k f c h =
    let is : outcome_at p n k c ≡ step_result (with_top k.thread f) c did.Silent = ap (performed c n k.thread)
    (fetched_next p k.thread f _ h) in
    record {
      came = (
        ap (λ (o : StepResult). keeping_thread k o.thread) (sym is),
        ap (λ (o : StepResult). o.cells)
            (sym is),
        refl,
      );
      unseen = subst IsUnseen (ap (λ (o : StepResult). o.did) (sym is)) silent_unseen;
      left = omega arith;
    }

-- many silent moves of the innermost frame
abbrev with_frame : KeptThread → Frame → KeptThread
with_frame k f = keeping_thread k (with_top k.thread f)

glided_more :
    (p : Code) (n count k : ℕ) (old mid : KeptThread) (f : Frame) (c c1 : Cells) (o : Option Frame)
    → ((g : Frame) → o ≡ Some g → Stays p n (count + k) old (with_frame mid g) c c1)
    → is_running mid.thread.mode ≡ true
    → moved p.instructions o ≡ Some f
    → Stays p n (count + suc k) old (with_frame mid f) c c1
glided_more p n count k old mid f c c1 None before running is = absurd cc
glided_more p n count k old mid f c c1 (Some g) before running is =
    stays_more p n (count + k) (count + suc k) old (with_frame mid g) (with_frame mid f) c c1 c1 (before g refl) running
    (silent_step p n (with_frame mid g) f c1 is) (omega arith)

pub stays_glided :
    (p : Code) (n count k : ℕ) (old mid : KeptThread) (f : Frame) (c c1 : Cells)
    → Stays p n count old mid c c1
    → is_running mid.thread.mode ≡ true
    → glided p.instructions k mid.thread.top ≡ Some f
    → Stays p n (count + k) old (with_frame mid f) c c1
stays_glided p n count zero old mid f c c1 s running is =
    let e : mid.thread.top ≡ f = cc in
    let none : count + 0 ≡ count = omega arith in
    rw (none, ← e) s
stays_glided p n count (suc k) old mid f c c1 s running is =
    glided_more p n count k old mid f c c1 (glided p.instructions k mid.thread.top)
    (λ g e. stays_glided p n count k old mid g c c1 s running e) running is

-- the memory is there again
module _ (p : Code) (ts : List KeptThread) (n count limit : ℕ) (k : KeptThread) (c c' : Cells) (within : n < length ts)
    (s : Stays p n count (get_or ts n no_thread) k c c') where
  pub memory_stays : (events : ℕ) → HasMemory p ts events limit → HasMemory p (set ts n k) events limit
  memory_stays events m =
      let P : KeptThread → Type 0 = λ t. MethodsFit p.methods t.locals_room t.operands_room in
      let here : P (get_or ts n no_thread) = m.fit n no_thread within in
      let new : P k = subst P (sym s.memory) here in
      let sums = sum_by-set (λ (t : KeptThread). events_left t.thread) ts n k no_thread within in
      record {
        few = rw length-set m.few;
        fit = All-set P ts n k new m.fit;
        events_fit = let e = m.events_fit in let l = s.left in omega (arith, sums, l, e);
      }

  pub of_stays : IsOf p ts c limit → IsOf p (set ts n k) c' limit
  of_stays is = record {
    calls = map-set_same calls_of ts n k no_thread s.calls ∙ is.calls;
    needs = needs_kept p ts n k is.needs (ap (λ (t : KeptThread). t.operands_room) s.memory) within;
    names = s.names ∙ is.names;
    sizes = s.sizes ∙ is.sizes;
    room = let same = s.limit in let r = is.room in omega (arith, same, r);
    events = is.events;
  }

-- as steps of a whole machine
pub machine_stays :
    (m : Machine) (n count : ℕ) (ts : List KeptThread) (k : KeptThread) (c' : Cells) (rest : List ℕ)
    → n < length ts
    → m.threads ≡ map (λ t. t.thread) ts
    → m.stopped ≡ false
    → is_due m.threads n (get_or ts n no_thread).thread ≡ true
    → Stays m.code n count (get_or ts n no_thread) k m.cells c'
    → machine_run m (turns count n rest) ≡ machine_run (record {
      code = m.code;
      threads = map (λ t. t.thread) (set ts n k);
      cells = c';
      stopped = m.stopped;
      history = m.history;
    }) rest
machine_stays m n count ts k c' rest within list runs due s =
    let t : Thread = (get_or ts n no_thread).thread in
    let found : slice_get m.threads n ≡ Some t = ap (λ xs. slice_get xs n) list ∙
    slice_get-map (λ (x : KeptThread). x.thread) ts n ∙
    ap (option_map (λ (x : KeptThread). x.thread)) (slice_get-get_or ts n no_thread within) in
    let threads : set m.threads n k.thread ≡ map (λ (x : KeptThread). x.thread) (set ts n k) = ap
    (λ xs. set xs n k.thread) list ∙ sym (map-set (λ (x : KeptThread). x.thread) ts n k) in
    s.runs m rest refl found refl runs due ∙ ap (λ (xs : List Thread).
    machine_run (record m { threads = xs; cells = c' }) rest) threads

-- steps that do nothing, on a machine by its parts
pub idle_run :
    (v m : Machine) (n count : ℕ) (d : Did)
    → v ≡ m
    → machine_step v n ≡ stepped_by v d
    → (rest : List ℕ)
    → machine_run m (turns count n rest) ≡ machine_run m rest
idle_run v m n count d is stays rest = subst (λ (x : Machine). machine_run x (turns count n rest) ≡ machine_run x rest)
    is (idle_turns v n count rest (ap (λ (s : Stepped). s.machine) stays))

-- a step that is said with what it did is one of which nothing is said
pub unseen_here :
    (p : Code) (n : ℕ) (old new : KeptThread) (c c' : Cells) (d : Did) (i : Instruction)
    → slice_get p.instructions old.thread.top.counter ≡ Some i
    → Came (performed c n old.thread (of_frame p old.thread (frame_move i old.thread.top))) old new c' d
    → TakesEvents p n d old.thread new.thread
    → IsUnseen d
    → IsUnseenStep p n old new c c'
unseen_here p n old new c c' d i e came takes unseen =
    let here : Came (outcome_at p n old c) old new c' d = came_here p c n old old new c' d i refl e came in
    record { came = (here.0, here.1, refl); unseen = subst IsUnseen here.2 unseen; left = omega (arith, takes) }

-- many silent moves, as the thread says them
pub glide_stays :
    (p : Code) (n count k : ℕ) (old mid new : KeptThread) (c c1 : Cells)
    → Stays p n count old mid c c1
    → is_running mid.thread.mode ≡ true
    → glided p.instructions k mid.thread.top ≡ Some new.thread.top
    → new ≡ keeping_thread mid (with_top mid.thread new.thread.top)
    → Stays p n (count + k) old new c c1
glide_stays p n count k old mid new c c1 s running is same = subst
    (λ (t : KeptThread). Stays p n (count + k) old t c c1) (sym same)
    (stays_glided p n count k old mid new.thread.top c c1 s running is)

-- the first of many steps of a thread are taken
pub turn_rest :
    (m m1 : Machine) (n count a left : ℕ) (rest : List ℕ)
    → a + left ≡ count
    → ((more : List ℕ) → machine_run m (turns a n more) ≡ machine_run m1 more)
    → machine_run m (turns count n rest) ≡ machine_run m1 (turns left n rest)
turn_rest m m1 n count a left rest e h = rw (← e) (ap (machine_run m) (turns_plus a left n rest) ∙
    h (turns left n rest))

pub turn_one :
    (m m1 : Machine) (n left next : ℕ) (rest : List ℕ)
    → left ≡ suc next
    → m1 ≡ (machine_step m n).machine
    → machine_run m (turns left n rest) ≡ machine_run m1 (turns next n rest)
turn_one m m1 n left next rest e is = rw e (ap (machine_run m) (turns_cons next n rest) ∙
    ap (λ (x : Machine). machine_run x (turns next n rest)) (sym is))

-- neighbours in a schedule that are steps of the same thread
pub same_more :
    (steps : List ℕ) (from at next n d : ℕ)
    → from ≤ at
    → next ≡ suc at
    → at < length steps
    → get_or steps at d ≡ n
    → drop from steps ≡ turns (at - from) n (drop at steps)
    → drop from steps ≡ turns (next - from) n (drop next steps)
same_more steps from at next n d below after within here h =
    let one : drop at steps ≡ n ∷ drop (suc at) steps = drop-cons steps at d within ∙
    ap (λ x. x ∷ drop (suc at) steps) here in
    let count : suc at - from ≡ suc (at - from) = omega (arith, below) in
    rw (after, count) (h ∙ ap (turns (at - from) n) one)

pub step_from :
    (m m1 : Machine) (steps : List ℕ) (at next n d : ℕ)
    → next ≡ suc at
    → at < length steps
    → get_or steps at d ≡ n
    → m1 ≡ (machine_step m n).machine
    → machine_run m (drop at steps) ≡ machine_run m1 (drop next steps)
step_from m m1 steps at next n d after within here is =
    let one : drop at steps ≡ n ∷ drop (suc at) steps = drop-cons steps at d within ∙
    ap (λ x. x ∷ drop (suc at) steps) here in
    rw after (ap (machine_run m) one ∙ ap (λ (x : Machine). machine_run x (drop (suc at) steps)) (sym is))

pub turn_from :
    (m m1 : Machine) (steps : List ℕ) (at next end n d : ℕ)
    → next ≡ suc at
    → next ≤ end
    → at < length steps
    → get_or steps at d ≡ n
    → drop next steps ≡ turns (end - next) n (drop end steps)
    → ((more : List ℕ) → machine_run m (turns (end - at) n more) ≡ machine_run m1 more)
    → machine_run m (drop at steps) ≡ machine_run m1 (drop end steps)
turn_from m m1 steps at next end n d after up within here same h =
    let one : drop at steps ≡ n ∷ drop next steps = rw after
    (drop-cons steps at d within ∙ ap (λ x. x ∷ drop (suc at) steps) here) in
    let count : end - at ≡ suc (end - next) = omega (arith, after, up) in
    let many : drop at steps ≡ turns (end - at) n (drop end steps) = rw count
    (one ∙ (ap (λ (xs : List ℕ). n ∷ xs) same ∙ sym (turns_cons (end - next) n (drop end steps)))) in
    ap (machine_run m) many ∙ h (drop end steps)
