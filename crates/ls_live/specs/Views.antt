-- What a seat of the turnstile knows, and the rule of its table.
use Rattle.std.specs.Prelude.{◌≡◌, ℕ, ◌+◌, ◌*◌, ◌-◌, ◌/◌, ◌<◌, ◌≤◌, ◌==◌, ◌&&◌, zero, suc, max, List, [], ◌∷◌, length}
use Rattle.std.specs.Prelude.{take, Bool, true, false, slice_index, nat_lt}
use mathlib.Core.Option.{Option, some, none}
use lib.ListN.{get_elem?}
use Rattle.atomic_table.specs.Table.{State, Me, Step}
use Rattle.ls_code.specs.Code.{Code}
use Rattle.ls_code.specs.Machine.{Machine, loaded, machine_run}
use Rattle.ls_live.specs.declared.view.View.{View}

-- what f counts in all views
abbrev pub total : (View → ℕ) → List View → ℕ
total f [] = 0
total f (v ∷ vs) = f v + total f vs

-- the view of whoever deals the seats, of which it has dealt so many
abbrev pub dealer : Machine → List ℕ → ℕ → ℕ → View
dealer start tape parts dealt = record {
  start = start;
  tape = tape;
  parts = parts;
  dealing = true;
  live = false;
  thread = dealt;
  seen = 0;
  steps = 0;
  ready = false;
  out = 0;
}

-- the view of the seat of a thread, between its steps
abbrev pub seated : Machine → List ℕ → ℕ → ℕ → ℕ → View
seated start tape thread seen steps = record {
  start = start;
  tape = tape;
  parts = 1;
  dealing = false;
  live = true;
  thread = thread;
  seen = seen;
  steps = steps;
  ready = false;
  out = 0;
}

-- the view of seats that were joined, which can only be joined further
abbrev pub joined : Machine → List ℕ → ℕ → ℕ → ℕ → View
joined start tape parts seen steps = record {
  start = start;
  tape = tape;
  parts = parts;
  dealing = false;
  live = false;
  thread = 0;
  seen = seen;
  steps = steps;
  ready = false;
  out = 0;
}

abbrev pub no_code : Code
no_code = record { instructions = []; handlers = []; methods = []; sizes = []; starts = []; names = 0 }

-- the view of a seat that was joined into another
abbrev pub spent : View
spent = joined (loaded no_code 0) [] 0 0 0

abbrev pub dealt_left : View → View
dealt_left v = dealer v.start v.tape (v.parts - 1) (v.thread + 1)

abbrev pub dealt_right : View → View
dealt_right v = seated v.start v.tape v.thread 0 0

abbrev pub both : View → View → View
both v w = joined w.start w.tape (v.parts + w.parts) (max v.seen w.seen) (v.steps + w.steps)

-- whether the entry at a place is the thread's
abbrev pub is_turn : List ℕ → ℕ → ℕ → Bool
is_turn tape thread place = nat_lt place (length tape) && (slice_index tape place == thread)

-- after a load that found the word n
abbrev pub looked : View → ℕ → View
looked v n = record v { seen = n / 2; ready = is_turn v.tape v.thread (n / 2) }

-- while the machine is out with the seat
abbrev pub holding : View → View
holding v = record v { ready = false; out = 1 }

-- after the machine was given back
abbrev pub given : View → View
given v = record v { seen = v.seen + 1; steps = v.steps + 1; ready = false; out = 0 }

-- the slot: the machine is at home, or out
abbrev pub home : Machine → ℕ → Option Machine
home m zero = some m
home m (suc n) = none

-- what a view has to do with the table: its number there, how many views there are, the entries done, and whether the
-- machine is out
pub record Fits (start : Machine) (tape : List ℕ) (place out count id : ℕ) (v : View) : Type 0 where
  pub same : 0 < v.parts → (v.start ≡ start) × (v.tape ≡ tape)
  pub idle : v.parts ≡ 0 → (v.steps ≡ 0) × (v.out ≡ 0)
  pub seen : v.seen ≤ place
  pub deals : v.dealing ≡ true → (id ≡ 0) × (count ≡ v.thread + 1)
  pub lives : v.live ≡ true → id ≡ v.thread + 1
  pub ready : v.ready ≡ true →
      (v.live ≡ true) × (v.seen ≡ place) × (out ≡ 0) × (place < length tape) × (slice_index tape place ≡ v.thread)
  pub holds : 0 < v.out →
      (v.live ≡ true) × (v.out ≡ 1) × (v.seen ≡ place) × (out ≡ 1) × (slice_index tape place ≡ v.thread)

-- the word is twice the number of entries done, and one more while the machine is out; at home it is what they made of
-- it
pub record Keeps (start : Machine) (tape : List ℕ) (seats : ℕ) (s : State Machine View) : Type 0 where
  pub place : ℕ
  pub out : ℕ
  pub small : out < 2
  pub within : place + out ≤ length tape
  pub words : s.words ≡ (2 * place + out) ∷ []
  pub homes : s.homes ≡ home (machine_run start (take place tape)) out ∷ []
  pub parts : total (λ v. v.parts) s.views ≡ seats
  pub steps : total (λ v. v.steps) s.views ≡ place
  pub outs : total (λ v. v.out) s.views ≡ out
  pub each : (id : ℕ) (v : View) → get_elem? s.views id ≡ some v → Fits start tape place out (length s.views) id v

abbrev pub Mine : Type 0
Mine = Me Machine View

-- a load: no less is seen than before. At the seat's own entry the machine is at home
abbrev pub Looks : Step Machine → Mine → ℕ → Mine → Type 0
Looks s m n w =
    (w ≡ (looked m.0 n, m.1)) × (m.0.seen ≤ n / 2) × (n / 2 ≤ length m.0.tape)
    × (is_turn m.0.tape m.0.thread (n / 2) ≡ true → n ≡ 2 * (n / 2))

-- the one try to take the machine, which wins
abbrev pub Takes : Step Machine → Mine → ℕ → Mine → Type 0
Takes s m n w = (n ≡ s.first) × (w ≡ (holding m.0, (0, machine_run m.0.start (take m.0.seen m.0.tape)) ∷ []))

abbrev pub GivesBack : Step Machine → Mine → ℕ → Mine → Type 0
GivesBack s m n w = w ≡ (given m.0, [])
