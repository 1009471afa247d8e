-- A machine on which single instructions are tried.
use Rattle.std.specs.Prelude.{◌≡◌, ℕ, List, [], ◌∷◌, false}
use Rattle.ls_code.specs.Thread.{Thread}
use Rattle.ls_code.specs.Machine.{Machine, machine_step}
use Rattle.ls_code.specs.declared.step.Did.{Did}
use Rattle.ls_code.specs.declared.step.Did.TheVariants as did
use Rattle.ls_code.specs.declared.step.Mode.{Mode}
use Rattle.ls_code.specs.declared.step.Mode.TheVariants as mode
use Rattle.ls_code.specs.declared.instruction.Instruction.{Instruction}
use Rattle.ls_events.specs.declared.action.Action.{Action}
use Rattle.ls_events.specs.declared.action.Answer.{Answer}

-- The cells. A setup name holds 2. An object of two fields is at addresses from 2 on, an array of two items from 4 on.
-- The markable at 7 holds reference 5 with its mark set. The lock at 8 is free.
abbrev pub memory : List ℕ
memory = 2 ∷ 30 ∷ 31 ∷ 2 ∷ 0 ∷ 1 ∷ 11 ∷ 0 ∷ []

abbrev pub thread_of : List ℕ → Mode → ℕ → List ℕ → Thread
thread_of locals goes counter operands = record {
  top = record { counter = counter; locals = locals; operands = operands; need = 4 };
  below = [];
  mode = goes;
  calls = [];
  ended = 0;
  pending = false;
}

abbrev pub thread : Mode → ℕ → List ℕ → Thread
thread = thread_of (10 ∷ 20 ∷ [])

-- the setup has ended; thread 1 is at a place with these operands, the top first; a throw at place 0 leads to place 20
abbrev pub machine_of : List ℕ → Instruction → ℕ → List ℕ → List ℕ → Machine
machine_of locals i counter operands words = record {
  code = record {
    instructions = i ∷ [];
    handlers = record { from = 0; to = 1; handler = 20; depth = 0 } ∷ [];
    methods = [];
    sizes = 2 ∷ [];
    starts = [];
    names = 1;
  };
  threads = thread mode.Ended 0 [] ∷ thread_of locals mode.Running counter operands ∷ [];
  cells = record { words = words; limit = 12; names = 1; sizes = 2 ∷ [] };
  stopped = false;
  history = [];
}

abbrev pub machine : Instruction → ℕ → List ℕ → List ℕ → Machine
machine = machine_of (10 ∷ 20 ∷ [])

-- the instruction on these operands does this, and leaves the thread at a place with operands, and these cells
abbrev pub Does : Instruction → List ℕ → List ℕ → Did → ℕ → List ℕ → List ℕ → Type 0
Does i operands words it place left next =
    machine_step (machine i 0 operands words) 1 ≡ record { machine = machine i place left next; did = it }

-- in silence
abbrev pub Goes : Instruction → List ℕ → ℕ → List ℕ → Type 0
Goes i operands place left = Does i operands memory did.Silent place left memory

-- a throw in silence; its kind is on top at the handler
abbrev pub Throws : Instruction → List ℕ → ℕ → Type 0
Throws i operands kind = Does i operands memory did.Silent 20 (kind ∷ []) memory

-- with an action and its answer
abbrev pub Says : Instruction → List ℕ → List ℕ → Action ℕ → Answer ℕ → ℕ → List ℕ → List ℕ → Type 0
Says i operands words action answer place left next = Does i operands words (did.Acted action answer) place left next
