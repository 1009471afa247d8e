-- A step of one thread as a step of the whole machine.
use Rattle.std.proofs.Common.{◌≡◌, ℕ, ◌+◌, ◌<◌, ◌≤◌, ◌++◌, List, [], Bool, false, length, map, set, get_or, true}
use Rattle.std.proofs.Common.{Option, Some, slice_get, option_map, refl, ap, sym, subst, ◌∙◌, arith}
use Rattle.std.proofs.lemmas.List.{append-nil, map-set, length-map, length-set, set-get_or}
use Rattle.std.proofs.lemmas.List.Sums.{sum_by-set}
use Rattle.std.proofs.lemmas.List.Elements.{All-set}
use Rattle.std.proofs.lemmas.Option.{slice_get-map, slice_get-get_or, slice_get_past}
use Rattle.ls_code.specs.Code.{Code}
use Rattle.ls_code.specs.Thread.{Thread}
use Rattle.ls_machine_threads.specs.Memory.{KeptThread, MethodsFit, no_thread, events_left}
use Rattle.ls_machine.specs.Outcomes.{Came}
use Rattle.ls_machine.specs.Room.{HasMemory}
use Rattle.ls_machine.specs.Takes.{IsUnseen, TakesEvents}
use Rattle.ls_code.specs.Cells.{Cells}
use Rattle.ls_code.specs.Events.{events_of}
use Rattle.ls_code.specs.Moves.{frame_move}
use Rattle.ls_code.specs.Steps.{StepResult, performed, thread_move, fetched_move, of_frame}
use Rattle.ls_code.specs.declared.instruction.Instruction.{Instruction}
use Rattle.ls_code.specs.Machine.{Machine, is_due, stops, after, Stepped, stepped_by, machine_step, open_step, due_step}
use Rattle.ls_code.specs.Machine.{step_of}
use Rattle.ls_code.specs.declared.step.Did.{Did}
use Rattle.ls_code.specs.declared.step.Did.TheVariants as did
use Rattle.ls_events.specs.declared.event.Event.{Event}

-- after a step of thread n the memory is there again
pub memory_kept : (p : Code) (ts : List KeptThread) (events limit n : ℕ) (k : KeptThread) (o : StepResult) (c : Cells)
    (d : Did) →
    n < length ts →
    HasMemory p ts events limit →
    Came o (get_or ts n no_thread) k c d →
    TakesEvents p n d (get_or ts n no_thread).thread k.thread →
    HasMemory p (set ts n k) (events + length (events_of p n d)) limit
memory_kept p ts events limit n k o c d h m came takes =
    let P : KeptThread → Type 0 = λ t. MethodsFit p.methods t.locals_room t.operands_room in
    let here : P (get_or ts n no_thread) = m.fit n no_thread h in
    let new : P k = subst P (sym came.0) here in
    let sums = sum_by-set (λ (t : KeptThread). events_left t.thread) ts n k no_thread h in
    record {
      few = rw length-set m.few;
      fit = All-set P ts n k new m.fit;
      events_fit = let e = m.events_fit in omega (arith, sums, takes, e);
    }

stepped_is : (m : Machine) (n : ℕ) (o : StepResult) (threads : List Thread) (c : Cells) (d : Did) →
    set m.threads n o.thread ≡ threads →
    o.cells ≡ c →
    o.did ≡ d →
    stepped_by (after m n o) o.did ≡ stepped_by (record {
      code = m.code;
      threads = threads;
      cells = c;
      stopped = stops d;
      history = m.history ++ events_of m.code n d;
    }) d
stepped_is m n o threads c d e f g = rw (e, f, g) refl

-- a step of a thread that is due
pub step_due : (m : Machine) (n : ℕ) (ts : List KeptThread) (k : KeptThread) (c : Cells) (d : Did) →
    n < length ts →
    m.threads ≡ map (λ t. t.thread) ts →
    m.stopped ≡ false →
    is_due m.threads n (get_or ts n no_thread).thread ≡ true →
    Came (performed m.cells n (get_or ts n no_thread).thread (thread_move m.code (get_or ts n no_thread).thread))
    (get_or ts n no_thread) k c d →
    machine_step m n ≡ stepped_by (record {
      code = m.code;
      threads = map (λ t. t.thread) (set ts n k);
      cells = c;
      stopped = stops d;
      history = m.history ++ events_of m.code n d;
    }) d
step_due m n ts k c d h list runs due came =
    let t : Thread = (get_or ts n no_thread).thread in
    let found : slice_get m.threads n ≡ Some t = ap (λ xs. slice_get xs n) list ∙
    slice_get-map (λ (x : KeptThread). x.thread) ts n ∙
    ap (option_map (λ (x : KeptThread). x.thread)) (slice_get-get_or ts n no_thread h) in
    let o : StepResult = performed m.cells n t (thread_move m.code t) in
    let same : k.thread ≡ o.thread = ap (λ (x : KeptThread). x.thread) came.0 in
    let threads : set m.threads n o.thread ≡ map (λ (x : KeptThread). x.thread) (set ts n k) = ap
    (λ xs. set xs n o.thread) list ∙ (ap (set (map (λ (x : KeptThread). x.thread) ts) n) (sym same) ∙
    sym (map-set (λ (x : KeptThread). x.thread) ts n k)) in
    let cells = sym came.1 in
    let did = sym came.2 in
    ap (step_of m n) found ∙
    (ap (open_step m n t) runs ∙ (ap (due_step m n t) due ∙
    stepped_is m n o (map (λ (x : KeptThread). x.thread) (set ts n k)) c d threads cells did))

-- after a step of thread n that is unseen the memory is there again
pub memory_unseen : (p : Code) (ts : List KeptThread) (events limit n : ℕ) (k : KeptThread) (o : StepResult) (c : Cells)
    (d : Did) →
    n < length ts →
    HasMemory p ts events limit →
    Came o (get_or ts n no_thread) k c d →
    TakesEvents p n d (get_or ts n no_thread).thread k.thread →
    IsUnseen d →
    HasMemory p (set ts n k) events limit
memory_unseen p ts events limit n k o c d h m came takes unseen =
    let kept = memory_kept p ts events limit n k o c d h m came takes in
    let none : length (events_of p n d) ≡ 0 = ap length (unseen.1 p n) in
    record { few = kept.few; fit = kept.fit; events_fit = let e = kept.events_fit in omega (arith, none, e) }

unseen_is : (m : Machine) (threads : List Thread) (c : Cells) (d : Did) (b : Bool) (es : List Event) →
    b ≡ m.stopped →
    es ≡ [] →
    stepped_by (record { code = m.code; threads = threads; cells = c; stopped = b; history = m.history ++ es }) d ≡
    stepped_by (record { code = m.code; threads = threads; cells = c; stopped = m.stopped; history = m.history }) d
unseen_is m threads c d b es e f = rw (e, f, append-nil) refl

-- a step of a thread that is due, which is unseen
pub step_unseen : (m : Machine) (n : ℕ) (ts : List KeptThread) (k : KeptThread) (c : Cells) (d : Did) →
    n < length ts →
    m.threads ≡ map (λ t. t.thread) ts →
    m.stopped ≡ false →
    is_due m.threads n (get_or ts n no_thread).thread ≡ true →
    Came (performed m.cells n (get_or ts n no_thread).thread (thread_move m.code (get_or ts n no_thread).thread))
    (get_or ts n no_thread) k c d →
    IsUnseen d →
    machine_step m n ≡ stepped_by (record {
      code = m.code;
      threads = map (λ t. t.thread) (set ts n k);
      cells = c;
      stopped = m.stopped;
      history = m.history;
    }) d
step_unseen m n ts k c d h list runs due came unseen =
    step_due m n ts k c d h list runs due came ∙ unseen_is m (map (λ (x : KeptThread). x.thread) (set ts n k)) c d
    (stops d) (events_of m.code n d) (unseen.0 ∙ sym runs) (unseen.1 m.code n)

-- the step of a thread whose instruction is known
pub came_here : (p : Code) (c : Cells) (n : ℕ) (k old new : KeptThread) (cells : Cells) (d : Did) (i : Instruction) →
    k ≡ old →
    slice_get p.instructions k.thread.top.counter ≡ Some i →
    Came (performed c n k.thread (of_frame p k.thread (frame_move i k.thread.top))) k new cells d →
    Came (performed c n old.thread (thread_move p old.thread)) old new cells d
came_here p c n k old new cells d i is e came =
    let here : Came (performed c n k.thread (thread_move p k.thread)) k new cells d = subst
    (λ (o : Option Instruction). Came (performed c n k.thread (fetched_move p k.thread o)) k new cells d)
    (sym e) came in
    subst (λ (t : KeptThread). Came (performed c n t.thread (thread_move p t.thread)) t new cells d) is here

-- a thread that is as it was
pub same_threads : (ts : List KeptThread) (n : ℕ) (k : KeptThread) → k ≡ get_or ts n no_thread → set ts n k ≡ ts
same_threads ts n k e = rw e (set-get_or ts n no_thread)

-- a step of a thread that isn't there does nothing
pub step_past : (m : Machine) (n : ℕ) (ts : List KeptThread) →
    length ts ≤ n →
    m.threads ≡ map (λ t. t.thread) ts →
    machine_step m n ≡ stepped_by m did.Idle
step_past m n ts past list =
    let count : length m.threads ≡ length ts = ap length list ∙ length-map ts (λ t. t.thread) in
    ap (step_of m n) (slice_get_past m.threads n (omega (arith, count, past)))

module _ (m : Machine) (n : ℕ) (ts : List KeptThread) (inside : n < length ts)
    (list : m.threads ≡ map (λ t. t.thread) ts) where
  found : slice_get m.threads n ≡ Some (get_or ts n no_thread).thread
  found = ap (λ xs. slice_get xs n) list ∙ slice_get-map (λ (x : KeptThread). x.thread) ts n ∙
      ap (option_map (λ (x : KeptThread). x.thread)) (slice_get-get_or ts n no_thread inside)

  -- once the machine has stopped, a step does nothing
  pub step_stopped : m.stopped ≡ true → machine_step m n ≡ stepped_by m did.Stopped
  step_stopped stopped = ap (step_of m n) found ∙ ap (open_step m n (get_or ts n no_thread).thread) stopped

  -- a step of a thread that isn't due does nothing
  pub step_undue : m.stopped ≡ false →
      is_due m.threads n (get_or ts n no_thread).thread ≡ false →
      machine_step m n ≡ stepped_by m did.Idle
  step_undue runs undue = ap (step_of m n) found ∙ (ap (open_step m n (get_or ts n no_thread).thread) runs ∙
      ap (due_step m n (get_or ts n no_thread).thread) undue)

-- what a step that does nothing leaves and says
module _ (v m : Machine) (n : ℕ) (d : Did) (is : v ≡ m) (stays : machine_step v n ≡ stepped_by v d) where
  pub left_as_it_was : m ≡ (machine_step m n).machine
  left_as_it_was = subst (λ (x : Machine). x ≡ (machine_step x n).machine) is
      (sym (ap (λ (s : Stepped). s.machine) stays))

  pub said : d ≡ (machine_step m n).did
  said = subst (λ (x : Machine). d ≡ (machine_step x n).did) is (sym (ap (λ (s : Stepped). s.did) stays))
