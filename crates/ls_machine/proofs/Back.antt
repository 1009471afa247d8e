-- A machine that is set back: what it was made of stays, so it is as it was loaded.
use Rattle.std.proofs.Common.{◌≡◌, ℕ, zero, suc, ◌+◌, ◌-◌, ◌*◌, ◌<◌, ◌≤◌, ◌++◌, List, [], ◌∷◌, length, map, take, drop}
use Rattle.std.proofs.Common.{set, get_or, true, false, Bool, Some, None, Option, slice_get, refl, ap, sym, subst, ◌∙◌}
use Rattle.std.proofs.Common.{arith}
use Rattle.std.proofs.Math.Seq.{map-set_same}
use Rattle.std.proofs.lemmas.List.{length-map}
use Rattle.std.proofs.lemmas.List.Sums.{sum_by-cons}
use Rattle.std.proofs.lemmas.List.Elements.{All-set}
use Rattle.std.specs.List.{All, sum_by}
use Rattle.ls_code.specs.Code.{Code, Start}
use Rattle.ls_code.specs.Cells.{Cells}
use Rattle.ls_code.specs.Thread.{Thread}
use Rattle.ls_code.specs.Steps.{performed, thread_move}
use Rattle.ls_code.specs.Machine.{Machine, started, is_due, step_of, open_step, due_step, machine_step, machine_run}
use Rattle.ls_code.specs.declared.code.CallResult.{CallResult}
use Rattle.ls_code.specs.declared.step.Did.{Did}
use Rattle.ls_machine_threads.specs.Memory.{KeptThread, MethodsFit, no_thread, events_left, started_kept, back_at}
use Rattle.ls_machine.specs.Outcomes.{Came}
use Rattle.ls_machine.specs.Room.{HasMemory}
use Rattle.ls_machine.specs.Back.{IsOf, all_back}
use Rattle.ls_machine.proofs.Keeping.{step_keeps}

abbrev pub calls_of : KeptThread → List CallResult
calls_of t = t.thread.calls

abbrev pub Needs : Code → KeptThread → Type 0
Needs p t = All (λ s. s.need ≤ t.operands_room) p.starts

-- no thread has another memory than the one in its place
pub needs_kept : (p : Code) (ts : List KeptThread) (n : ℕ) (k : KeptThread) →
    All (Needs p) ts →
    k.operands_room ≡ (get_or ts n no_thread).operands_room →
    (n < length ts) →
    All (Needs p) (set ts n k)
needs_kept p ts n k all same within =
    let here : Needs p (get_or ts n no_thread) = all n no_thread within in
    All-set (Needs p) ts n k (subst (λ (room : ℕ). All (λ s. s.need ≤ room) p.starts) (sym same) here) all

-- after a step of thread n
pub of_kept : (p : Code) (ts : List KeptThread) (c : Cells) (limit n : ℕ) (k : KeptThread) (c' : Cells) (d : Did) →
    n < length ts →
    IsOf p ts c limit →
    Came (performed c n (get_or ts n no_thread).thread (thread_move p (get_or ts n no_thread).thread))
    (get_or ts n no_thread) k c' d →
    IsOf p (set ts n k) c' limit
of_kept p ts c limit n k c' d within is came =
    let old = get_or ts n no_thread in
    let keeps = step_keeps p old.thread c n in
    let calls : calls_of k ≡ calls_of old = ap calls_of came.0 ∙ keeps.0 in
    record {
      calls = map-set_same calls_of ts n k no_thread calls ∙ is.calls;
      needs = needs_kept p ts n k is.needs (ap (λ (t : KeptThread). t.operands_room) came.0) within;
      names = ap (λ (x : Cells). x.names) came.1 ∙ (keeps.1.1 ∙ is.names);
      sizes = ap (λ (x : Cells). x.sizes) came.1 ∙ (keeps.1.2 ∙ is.sizes);
      room = let same : c'.limit ≡ c.limit = ap (λ (x : Cells). x.limit) came.1 ∙ keeps.1.0 in let r = is.room in
          omega (arith, same, r);
      events = is.events;
    }

-- the threads of a machine as it is loaded
module _ (locals operands : ℕ) where
  calls_started : (starts : List Start) →
      map calls_of (map (started_kept locals operands) starts) ≡ map (λ (s : Start). s.calls) starts
  calls_started [] = refl
  calls_started (s ∷ starts) = ap (λ xs. s.calls ∷ xs) (calls_started starts)

  needs_started : (p : Code) →
      All (λ s. s.need ≤ operands) p.starts →
      (starts : List Start) (k : ℕ) (d : KeptThread) →
      k < length (map (started_kept locals operands) starts) →
      Needs p (get_or (map (started_kept locals operands) starts) k d)
  needs_started p fit [] k d h = absurd (omega arith)
  needs_started p fit (s ∷ starts) zero d h = fit
  needs_started p fit (s ∷ starts) (suc k) d h = needs_started p fit starts k d (omega arith)

  pub of_started : (p : Code) (c : Cells) →
      All (λ s. s.need ≤ operands) p.starts →
      c.names ≡ p.names →
      c.sizes ≡ p.sizes →
      p.names ≤ c.limit →
      IsOf p (map (started_kept locals operands) p.starts) c (sum_by (λ s. 2 * length s.calls) p.starts)
  of_started p c fit names sizes room = record {
    calls = calls_started p.starts;
    needs = needs_started p fit p.starts;
    names = names;
    sizes = sizes;
    room = room;
    events = omega arith;
  }

-- all threads back
pub count_back : (ss : List Start) (ts : List KeptThread) → length (all_back ss ts) ≡ length ts
count_back [] ts = refl
count_back (s ∷ ss) [] = refl
count_back (s ∷ ss) (t ∷ ts) = ap suc (count_back ss ts)

-- what is known of the memory of each
all_rooms : (P : ℕ → ℕ → Type 0) (ss : List Start) (ts : List KeptThread) →
    All (λ t. P t.locals_room t.operands_room) ts →
    All (λ t. P t.locals_room t.operands_room) (all_back ss ts)
all_rooms P [] ts h k d l = h k d l
all_rooms P (s ∷ ss) [] h k d l = absurd (omega arith)
all_rooms P (s ∷ ss) (t ∷ ts) h zero d l = h 0 d (omega arith)
all_rooms P (s ∷ ss) (t ∷ ts) h (suc k) d l = all_rooms P ss ts (λ j e m. h (suc j) e (omega arith)) k d (omega arith)

calls_back : (ss : List Start) (ts : List KeptThread) → map calls_of (all_back ss ts) ≡ map calls_of ts
calls_back [] ts = refl
calls_back (s ∷ ss) [] = refl
calls_back (s ∷ ss) (t ∷ ts) = ap (λ xs. calls_of t ∷ xs) (calls_back ss ts)

-- with the calls of the starts they are as the starts say
threads_back : (ss : List Start) (ts : List KeptThread) →
    map calls_of ts ≡ map (λ (s : Start). s.calls) ss →
    map (λ (t : KeptThread). t.thread) (all_back ss ts) ≡ map started ss
threads_back [] [] h = refl
threads_back [] (t ∷ ts) h = absurd cc
threads_back (s ∷ ss) [] h = absurd cc
threads_back (s ∷ ss) (t ∷ ts) h =
    let here : calls_of t ≡ s.calls = cc in
    let rest : map calls_of ts ≡ map (λ (x : Start). x.calls) ss = cc in
    let same : (back_at s t).thread ≡ started s = ap (λ (calls : List CallResult). record (started s) { calls = calls })
    here in
    ap (λ (x : Thread). x ∷ map (λ (y : KeptThread). y.thread) (all_back ss ts)) same ∙
    ap (λ (xs : List Thread). started s ∷ xs) (threads_back ss ts rest)

events_back : (ss : List Start) (ts : List KeptThread) →
    map calls_of ts ≡ map (λ (s : Start). s.calls) ss →
    sum_by (λ t. events_left t.thread) (all_back ss ts) ≡ sum_by (λ s. 2 * length s.calls) ss
events_back [] [] h = refl
events_back [] (t ∷ ts) h = absurd cc
events_back (s ∷ ss) [] h = absurd cc
events_back (s ∷ ss) (t ∷ ts) h =
    let here : calls_of t ≡ s.calls = cc in
    let rest : map calls_of ts ≡ map (λ (x : Start). x.calls) ss = cc in
    let count : length (calls_of t) ≡ length s.calls = ap length here in
    let left : 2 * (length (calls_of t) - 0) - 0 ≡ 2 * length s.calls = omega (arith, count) in
    let f : KeptThread → ℕ = λ x. events_left x.thread in
    sum_by-cons f (back_at s t) (all_back ss ts) ∙ (ap (λ n. n + sum_by f (all_back ss ts)) left ∙
    (ap (λ n. 2 * length s.calls + n) (events_back ss ts rest) ∙
    sym (sum_by-cons (λ (x : Start). 2 * length x.calls) s ss)))

-- all memory is there again
pub memory_back : (p : Code) (ts : List KeptThread) (c : Cells) (events limit : ℕ) →
    HasMemory p ts events limit →
    IsOf p ts c limit →
    HasMemory p (all_back p.starts ts) 0 limit
memory_back p ts c events limit m is = record {
  few = let e = count_back p.starts ts in let few = m.few in omega (arith, e, few);
  fit = all_rooms (λ locals operands. MethodsFit p.methods locals operands) p.starts ts m.fit;
  events_fit = let e = events_back p.starts ts is.calls in let l = is.events in omega (arith, e, l);
}

pub of_back : (p : Code) (ts : List KeptThread) (c c' : Cells) (limit : ℕ) →
    IsOf p ts c limit →
    c'.names ≡ c.names →
    c'.sizes ≡ c.sizes →
    c'.limit ≡ c.limit →
    IsOf p (all_back p.starts ts) c' limit
of_back p ts c c' limit is names sizes cells = record {
  calls = calls_back p.starts ts ∙ is.calls;
  needs = all_rooms (λ locals operands. All (λ s. s.need ≤ operands) p.starts) p.starts ts is.needs;
  names = names ∙ is.names;
  sizes = sizes ∙ is.sizes;
  room = let r = is.room in omega (arith, cells, r);
  events = is.events;
}

-- there is a thread for each start
pub count_of : (p : Code) (ts : List KeptThread) (c : Cells) (limit : ℕ) →
    IsOf p ts c limit →
    length ts ≡ length p.starts
count_of p ts c limit is = sym (length-map ts calls_of) ∙ (ap length is.calls ∙
    length-map p.starts (λ (s : Start). s.calls))

pub all_loaded : (p : Code) (ts : List KeptThread) (c : Cells) (limit : ℕ) →
    IsOf p ts c limit →
    map (λ (t : KeptThread). t.thread) (all_back p.starts ts) ≡ map started p.starts
all_loaded p ts c limit is = threads_back p.starts ts is.calls

-- thread i put back, and those above it still to be
pub back_more : (ss : List Start) (ts : List KeptThread) (i : ℕ) (s d : Start) (t e : KeptThread) →
    i < length ss →
    i < length ts →
    s ≡ get_or ss i d →
    t ≡ get_or ts i e →
    take (suc i) (set ts i (back_at s t)) ++ all_back (drop (suc i) ss) (drop (suc i) (set ts i (back_at s t))) ≡ take i
    ts ++ all_back (drop i ss) (drop i ts)
back_more [] ts i s d t e h k is it = absurd (omega arith)
back_more (x ∷ ss) [] i s d t e h k is it = absurd (omega arith)
back_more (x ∷ ss) (y ∷ ts) zero s d t e h k is it = rw (is, it) refl
back_more (x ∷ ss) (y ∷ ts) (suc i) s d t e h k is it = ap (λ (zs : List KeptThread). y ∷ zs)
    (back_more ss ts i s d t e (omega arith) (omega arith) is it)

-- a run keeps the code and the number of cells
due_keeps : (m : Machine) (n : ℕ) (t : Thread) (b : Bool) →
    let s = (due_step m n t b).machine in (s.code ≡ m.code) × (s.cells.limit ≡ m.cells.limit)
due_keeps m n t false = (refl, refl)
due_keeps m n t true = (refl, (step_keeps m.code t m.cells n).1.0)

open_keeps : (m : Machine) (n : ℕ) (t : Thread) (b : Bool) →
    let s = (open_step m n t b).machine in (s.code ≡ m.code) × (s.cells.limit ≡ m.cells.limit)
open_keeps m n t true = (refl, refl)
open_keeps m n t false = due_keeps m n t (is_due m.threads n t)

there_keeps : (m : Machine) (n : ℕ) (o : Option Thread) →
    let s = (step_of m n o).machine in (s.code ≡ m.code) × (s.cells.limit ≡ m.cells.limit)
there_keeps m n None = (refl, refl)
there_keeps m n (Some t) = open_keeps m n t m.stopped

pub runs_keep : (m : Machine) (ns : List ℕ) →
    ((machine_run m ns).code ≡ m.code) × ((machine_run m ns).cells.limit ≡ m.cells.limit)
runs_keep m [] = (refl, refl)
runs_keep m (n ∷ ns) =
    let one = there_keeps m n (slice_get m.threads n) in
    let rest = runs_keep (machine_step m n).machine ns in (rest.0 ∙ one.0, rest.1 ∙ one.1)
