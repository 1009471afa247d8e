-- A turnstile and its seats as contracts see them, what a step answers, and the record at the end.
use Rattle.std.specs.Prelude.{◌≡◌, ◌≢◌, ℕ, ◌+◌, ◌<◌, ◌≤◌, List, length, take, map, slice_index}
use Rattle.std.specs.List.{All, sum_by}
use Rattle.atomic_table.specs.Seated.{TableId}
use Rattle.ls_code.specs.Code.{Code}
use Rattle.ls_code.specs.Machine.{Machine, loaded, machine_run, machine_step}
use Rattle.ls_code.specs.declared.step.Did.{Did}
use Rattle.ls_schedule.specs.Records.{IsRecordOf}
use Rattle.ls_schedule.specs.declared.replaying.Record.{Record}
use Rattle.ls_live.specs.declared.turn.Turn.{Turn}
use Rattle.ls_live.specs.declared.turn.Turn.TheVariants.{Stepped, NotYet, Over}

-- its name, the code and the number of cells with which its machine began, its tape, and how many seats it has
pub record TurnstileState : Type 0 where
  pub id : TableId
  pub code : Code
  pub cells : ℕ
  pub tape : List ℕ
  pub seats : ℕ

-- of the seat's turnstile the name, the machine at its start and the tape; its thread, how many entries it has seen
-- done, and how many it did
pub record SeatState : Type 0 where
  pub id : TableId
  pub start : Machine
  pub tape : List ℕ
  pub thread : ℕ
  pub seen : ℕ
  pub steps : ℕ

abbrev pub turnstile_state : TableId → Code → ℕ → List ℕ → ℕ → TurnstileState
turnstile_state id code cells tape seats = record { id = id; code = code; cells = cells; tape = tape; seats = seats }

abbrev pub seat_state : TableId → Machine → List ℕ → ℕ → ℕ → ℕ → SeatState
seat_state id start tape thread seen steps = record {
  id = id;
  start = start;
  tape = tape;
  thread = thread;
  seen = seen;
  steps = steps;
}

-- the seat came from the `open` that made the turnstile
abbrev pub IsSeatOf : TurnstileState → SeatState → Type 0
IsSeatOf t c = (c.id ≡ t.id) × (c.start ≡ loaded t.code t.cells) × (c.tape ≡ t.tape)

-- the seat of a thread as `open` makes it
abbrev pub new_seat : TurnstileState → ℕ → SeatState
new_seat t thread = seat_state t.id (loaded t.code t.cells) t.tape thread 0 0

-- what the step at a place of the tape does in the machine's run of the tape
abbrev pub did_at : Code → ℕ → List ℕ → ℕ → Did
did_at code cells tape place = (machine_step (machine_run (loaded code cells) (take place tape))
    (slice_index tape place)).did

-- the seat once it has seen so many entries done and done so many
abbrev pub moved : SeatState → ℕ → ℕ → SeatState
moved c seen steps = seat_state c.id c.start c.tape c.thread seen steps

-- What a step of the seat c of the turnstile t answers, with the seat d after it. No less has been done than the seat
-- had seen.
-- Stepped: the entry at the place is its thread's, and what the step did is what it does in the machine's run of the
-- tape.
-- NotYet: the entry at the place is another's. Over: all have been done.
abbrev pub IsTurn : TurnstileState → SeatState → Turn → SeatState → Type 0
IsTurn t c (Stepped place did) d =
    (c.seen ≤ place) × (place < length t.tape) × (slice_index t.tape place ≡ c.thread) ×
    (did ≡ did_at t.code t.cells t.tape place) × (d ≡ moved c (place + 1) (c.steps + 1))
IsTurn t c (NotYet place) d = (c.seen ≤ place) × (place < length t.tape) × (slice_index t.tape place ≢ c.thread) ×
    (d ≡ moved c place c.steps)
IsTurn t c Over d = d ≡ moved c (length t.tape) c.steps

-- how many entries the seats did
abbrev pub steps_of : List SeatState → ℕ
steps_of = sum_by (λ c. c.steps)

-- all seats are there; the record is that of the tape's first entries, as many as the seats did, and no fewer than any
-- of them had seen
pub record Closes (t : TurnstileState) (seats : List SeatState) (r : Record) : Type 0 where
  pub all : length seats ≡ t.seats
  pub within : steps_of seats ≤ length t.tape
  pub record_of : IsRecordOf t.code t.cells (take (steps_of seats) t.tape) r
  pub seen : All (λ c. c.seen ≤ steps_of seats) seats

-- seats of the turnstile, of the same threads in the same order
abbrev pub AreBack : TurnstileState → List SeatState → List SeatState → Type 0
AreBack t given back = (map (λ c. c.thread) back ≡ map (λ c. c.thread) given) × All (IsSeatOf t) back

-- they have seen the tape's end
abbrev pub AreOver : TurnstileState → List SeatState → Type 0
AreOver t = All (λ c. c.seen ≡ length t.tape)
