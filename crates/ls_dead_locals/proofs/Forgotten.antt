-- A dead local may have any value, and so may all of them.
use Rattle.std.proofs.Common.{◌≡◌, ℕ, true, List, refl, ◌∙◌, slice_set}
use Rattle.ls_events.specs.declared.value.Value.{Value}
use Rattle.ls_checked.specs.CheckedTree.{File}
use Rattle.ls_checked.specs.CheckedProgram.{Program, ProgramCall}
use Rattle.ls_meaning.specs.declared.completion.Completion.TheVariants.{Normal, Broke, Continued, Returned, Threw}
use Rattle.ls_source_pending.specs.Pending.{State}
use Rattle.ls_source_pending.specs.ExpressionMoves.{at}
use Rattle.ls_source_pending.specs.Meaning.{OfValue, OfEnd}
use Rattle.ls_source.specs.Calls.{Bottom, OfMaking, OfCalling, Works, Thread, after_work}
use Rattle.ls_dead_locals.specs.Around.{control_dead, frames_ways}
use Rattle.ls_dead_locals.specs.Same.{IsSameThread, IsSameWork, ReadsNoLocals}
use Rattle.ls_dead_locals.proofs.Spared.{but}
use Rattle.ls_dead_locals.proofs.Ignoring.{meaning_same}

-- the local of one slot
pub one_forgotten : (s : State) (n : ℕ) (v : Value) →
    control_dead n s.control (frames_ways n s.frames) ≡ true →
    IsSameWork s (at s.control s.frames (slice_set s.locals n v) s.depth)
one_forgotten s n v h file base reads q =
    meaning_same n v file base (λ d ls r p e. reads d ls (but n v ls) r p) s h q

pub same_work : (s : State) → IsSameWork s s
same_work s file base reads q = refl

pub same_along : (s t u : State) → IsSameWork s t → IsSameWork t u → IsSameWork s u
same_along s t u h k file base reads q = k file base reads q ∙ h file base reads q

-- what comes after the body of a call reads no local of it
pub after_reads_none : (file : File) (program : Program) (n : ℕ) (cs : List ProgramCall) (b : Bottom) →
    ReadsNoLocals (after_work file program n cs b)
after_reads_none file program n cs (OfMaking name o) d ls ls' (OfValue a) q = refl
after_reads_none file program n cs (OfCalling m) d ls ls' (OfValue a) q = refl
after_reads_none file program n cs (OfMaking name o) d ls ls' (OfEnd Normal) q = refl
after_reads_none file program n cs (OfMaking name o) d ls ls' (OfEnd (Broke m)) q = refl
after_reads_none file program n cs (OfMaking name o) d ls ls' (OfEnd (Continued m)) q = refl
after_reads_none file program n cs (OfMaking name o) d ls ls' (OfEnd (Returned a)) q = refl
after_reads_none file program n cs (OfMaking name o) d ls ls' (OfEnd (Threw kind)) q = refl
after_reads_none file program n cs (OfCalling m) d ls ls' (OfEnd Normal) q = refl
after_reads_none file program n cs (OfCalling m) d ls ls' (OfEnd (Broke k)) q = refl
after_reads_none file program n cs (OfCalling m) d ls ls' (OfEnd (Continued k)) q = refl
after_reads_none file program n cs (OfCalling m) d ls ls' (OfEnd (Returned a)) q = refl
after_reads_none file program n cs (OfCalling m) d ls ls' (OfEnd (Threw kind)) q = refl

-- a thread in the body of a call, whose work means the same
pub thread_same : (n : ℕ) (cs : List ProgramCall) (b : Bottom) (s s' : State) →
    IsSameWork s s' →
    IsSameThread (record { number = n; left = cs; phase = Works b s })
    (record { number = n; left = cs; phase = Works b s' })
thread_same n cs b s s' h file program q =
    h file (after_work file program n cs b) (after_reads_none file program n cs b) q

pub thread_stays : (t : Thread) → IsSameThread t t
thread_stays t file program q = refl
