-- Threads with the memory that they have.
use Rattle.std.specs.Prelude.{◌≡◌, ℕ, ◌+◌, ◌-◌, ◌*◌, ◌<◌, ◌≤◌, ◌^◌, List, [], length, slice_index_or, Bool, true, false}
use Rattle.std.specs.List.{All}
use Rattle.ls_code.specs.Code.{Start}
use Rattle.ls_code.specs.Thread.{Thread}
use Rattle.ls_code.specs.Machine.{started}
use Rattle.ls_code.specs.declared.code.Method.{Method}
use Rattle.ls_code.specs.declared.code.CallResult.{CallResult}
use Rattle.ls_code.specs.declared.step.Mode.TheVariants.{Ended}
use Rattle.ls_machine_moves.specs.Frames.{Kept, no_frame}

-- a thread with the memory that each of its frames has
pub record KeptThread : Type 0 where
  pub thread : Thread
  pub locals_room : ℕ
  pub operands_room : ℕ

-- the same memory with another thread in it
abbrev pub keeping_thread : KeptThread → Thread → KeptThread
keeping_thread k t = record k { thread = t }

abbrev pub no_thread : KeptThread
no_thread = record {
  thread = record {
    top = no_frame.frame;
    below = [];
    mode = Ended;
    calls = [];
    ended = 0;
    pending = false;
  };
  locals_room = 0;
  operands_room = 0;
}

-- a thread at its start with its memory
abbrev pub started_kept : ℕ → ℕ → Start → KeptThread
started_kept locals operands s = record { thread = started s; locals_room = locals; operands_room = operands }

-- a thread at a start, with its own calls and memory
abbrev pub back_at : Start → KeptThread → KeptThread
back_at s t = keeping_thread t (record (started s) { calls = t.thread.calls })

-- each caller can go on after its call
abbrev pub CallersGoOn : ℕ → List Kept → Type 0
CallersGoOn inner frames = (k : ℕ) → inner < k → k < length frames →
    (slice_index_or frames k no_frame).frame.counter + 1 < 2 ^ 64

-- each frame has this memory
abbrev pub HaveRooms : ℕ → ℕ → List Kept → Type 0
HaveRooms locals operands frames = (k : ℕ) → k < length frames →
    ((slice_index_or frames k no_frame).locals_room ≡ locals) ×
    ((slice_index_or frames k no_frame).operands_room ≡ operands)

pub record IsThread (frames : List Kept) (inner locals operands : ℕ) : Type 0 where
  pub inside : inner < length frames
  pub deep : length frames ≡ 65
  pub rooms : HaveRooms locals operands frames
  pub callers : CallersGoOn inner frames

-- the memory of each frame is enough for each method
abbrev pub MethodsFit : List Method → ℕ → ℕ → Type 0
MethodsFit methods locals operands = All (λ m. (m.arguments + m.more ≤ locals) × (m.need ≤ operands)) methods

abbrev pub pending_count : Bool → ℕ
pending_count true = 1
pending_count false = 0

-- the calls that have ended and the one that is pending are calls of the thread
abbrev pub AreCalls : List CallResult → ℕ → Bool → Type 0
AreCalls calls ended pending = ended + pending_count pending ≤ length calls

-- the events that the thread can still have
abbrev pub events_left : Thread → ℕ
events_left t = 2 * (length t.calls - t.ended) - pending_count t.pending
