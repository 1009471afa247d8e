-- A machine that follows a state of the source.
use Rattle.std.proofs.Common.{◌≡◌, ℕ, zero, suc, ◌+◌, ◌<◌, ◌≤◌, ◌^◌, Bool, true, false, ◌&&◌, ◌||◌, List, [], ◌∷◌, ◌++◌}
use Rattle.std.proofs.Common.{length, map, Option, Some, None, refl, sym, ap, ◌∙◌, subst, arith, slice_get, slice_set}
use Rattle.std.proofs.Common.{nat_eq, if◌then◌else◌}
use Rattle.ls_events.specs.declared.event.Event.{Event}
use Rattle.ls_events.specs.declared.value.Value.{Value}
use Rattle.ls_events.specs.declared.value.ValueType.{ValueType}
use Rattle.ls_events.specs.declared.action.Action.{Action}
use Rattle.ls_events.specs.declared.action.Answer.{Answer}
use Rattle.ls_meaning.specs.declared.sort.Sort.{Sort}
use Rattle.ls_meaning.specs.Course.{Answers}
use Rattle.ls_meaning.specs.Store.{Store}
use Rattle.ls_meaning.specs.Effect.{effect}
use Rattle.ls_meaning.specs.Threads.{Next, Goes, Ended, Trapped, next}
use Rattle.ls_meaning.specs.Steps as source
use Rattle.ls_meaning.specs.Runs.{State, answers_of, has_ended, has_started}
use Rattle.ls_code.specs.Code.{Start}
use Rattle.ls_code.specs.Thread.{Thread}
use Rattle.ls_code.specs.Cells.{Cells}
use Rattle.ls_code.specs.Cells as cells
use Rattle.ls_code.specs.Steps.{Asks as MoveAsks}
use Rattle.ls_code.specs.Steps as machine_steps
use Rattle.ls_code.specs.Fed.{Pause, Paused, Passes, IsOver, IsStuck, TooLong}
use Rattle.ls_code.specs.Reading.{whole_move, quiet_from, resume}
use Rattle.ls_preservation.proofs.Setting.{Setting}
use Rattle.ls_preservation.proofs.Others.{IsHeldType, lock_on, lock_renamed, renamed_lock, lock_named, LockNamed}
use Rattle.ls_preservation.proofs.Middle.{Middle, same_mode}
use Rattle.ls_code.specs.Machine.{Machine, Entry, started, is_running, setup_ended, is_due}
use Rattle.ls_code.specs.Machine as machine
use Rattle.ls_code.specs.declared.step.Mode.{Mode}
use Rattle.ls_code.specs.declared.step.Mode.TheVariants as mode
use Rattle.ls_preservation.specs.InWords.{word_of, written, map_action, map_answer, in_words}
use Rattle.ls_meaning.specs.Renamings.{renamed, renamed_action, renamed_next}
use Rattle.ls_preservation.specs.Sorts.{Names, Refers, ActionHas, InKind, Known}
use Rattle.ls_preservation.specs.Threads.{told}
use Rattle.ls_preservation.specs.Translations.{most_silent}
use Rattle.ls_preservation.specs.Same.{total}
use Rattle.ls_preservation.proofs.Lists.{index_there, get_within}
use Rattle.ls_preservation.proofs.Feeding.{IsLoud, beginning, ended, stand, resumed, Stands}
use Rattle.ls_preservation.proofs.Cells.{address_one, length_all, things_fit, offset_below, AgreeTo}
use Rattle.ls_preservation.proofs.Effects.{things_length, many_length, renaming, Holds, Grows, Agrees}
use Rattle.ls_preservation.proofs.AllCases.{names_of, effects_agree}
use Rattle.ls_preservation.proofs.Answers.{action_words, answers_words, suited_renamed, Says}

-- an entry of the source's trace
abbrev pub line : ℕ → Action Value → Answer Value → source.Entry Value
line t a y = record { thread = t; action = a; answer = y }

-- an entry of the machine's trace
abbrev pub line_in : ℕ → Action ℕ → Answer ℕ → Entry
line_in t b w = record { thread = t; action = b; answer = w }

pub entry_same : (t : ℕ) (b b' : Action ℕ) (w w' : Answer ℕ) →
    b ≡ b' →
    w ≡ w' →
    ◌≡◌ {A = Entry} (line_in t b w) (line_in t b' w')
entry_same t b b' w w' p q = cc

-- the state after an answer to a thread
abbrev pub told_to : State → ℕ → Answers → Store → Answer Value → State
told_to s t had st y = record { store = st; answers = slice_set s.answers t (had ++ y ∷ []) }

-- the machine after a step of a thread
abbrev pub went : Machine → ℕ → Thread → Cells → Bool → List Event → Machine
went m t x c stopped events = record {
  code = m.code;
  threads = slice_set m.threads t x;
  cells = c;
  stopped = stopped;
  history = events;
}

-- what a step of the machine is, if a thread's part of it is this
abbrev pub moved : Machine → ℕ → machine_steps.StepResult → machine.Stepped
moved m t o = machine.stepped_by (machine.after m t o) o.did

-- The words of the section below that other files write without its setting: each says what its namesake there says.
pub record Notions : Type 1 where
  pub named : List ValueType
  pub names : ℕ
  pub bound : ℕ
  pub StoreHolds : List ValueType → Store → Cells → Type 0
  pub stands : ℕ → Thread → Pause
  pub words : (ℕ → ℕ) → Answers → List (Answer ℕ)
  pub fed_to : ℕ → Start → List (Answer ℕ) → Pause
  pub Each : Cells → List ValueType → (ℕ → ℕ) → ℕ → Option Answers → Option Thread → Type 0
  pub Follows : State → Machine → Type 0
  pub InWords : (ℕ → ℕ) → Next → Pause → Type 0
  pub Live : State → source.Entry Value → Type 0
  pub Later : State → State → Type 0
  pub write : State → source.Entry Value → Entry
  pub acts_as : State → Action Value → Action ℕ

module _ (setting : Setting) where
  open setting use {file, program, code, asks, sound, room, small}

  -- the types of the setup names' objects
  abbrev pub named : List ValueType
  named = names_of program

  -- how many setup names there are
  abbrev pub names : ℕ
  names = length named

  -- the bound on silent instructions
  abbrev pub bound : ℕ
  bound = most_silent code

  -- the cells hold the store
  abbrev pub StoreHolds : List ValueType → Store → Cells → Type 0
  StoreHolds σ st c = Holds file.classes named code.sizes room σ st c

  -- where a thread is on its way to its next action
  abbrev pub stands : ℕ → Thread → Pause
  stands t x = Stands code t bound x

  -- answers of the source as words
  abbrev pub words : (ℕ → ℕ) → Answers → List (Answer ℕ)
  words ρ had = map (map_answer (written ρ)) had

  -- where a thread is after these answers
  abbrev pub fed_to : ℕ → Start → List (Answer ℕ) → Pause
  fed_to t s ws = stand code t bound ws (stands t (started s))

  -- a thread of the machine is in the midst of what a thread does on its way from its last answer to its next question
  abbrev pub Each : Cells → List ValueType → (ℕ → ℕ) → ℕ → Option Answers → Option Thread → Type 0
  Each c σ ρ t None None = Unit {0}
  Each c σ ρ t (Some had) (Some x) =
      (s : Start) × (slice_get code.starts t ≡ Some s) × Known file program σ t had × (y : Thread) ×
      (stands t y ≡ fed_to t s (words ρ had)) × Middle code c t y x
  Each c σ ρ t _ _ = ⊥

  -- A machine follows a state of the source: the relation between the two runs. The machine has the code. Its cells
  -- hold the store, whose things have the types `sorts`. Each thread is between its last answer and its next question.
  pub record Follows (s : State) (m : Machine) : Type 0 where
    pub sorts : List ValueType
    pub same_code : m.code ≡ code
    pub holds : StoreHolds sorts s.store m.cells
    pub count : length s.answers ≡ length program.threads
    pub each : (t : ℕ) → Each m.cells sorts (renaming names s.store) t (slice_get s.answers t) (slice_get m.threads t)

  -- what the source does next and a pause of the machine's thread are the same, in words
  abbrev pub InWords : (ℕ → ℕ) → Next → Pause → Type 0
  InWords ρ (Goes a s) (Paused b go) = b ≡ map_action ρ (written ρ) a
  InWords ρ Ended (IsOver mode.Ended) = Unit {0}
  InWords ρ Trapped (IsOver mode.Trapped) = Unit {0}
  InWords ρ _ _ = ⊥

  in_words_at : (ρ : ℕ → ℕ) (t : ℕ) (d : Next) (q : Pause) →
      resume code t bound [] q ≡ told (renamed_next ρ d) →
      InWords ρ d q
  in_words_at ρ t (Goes a s) (Paused b go) h = (let e : b ≡ map_action (λ n. n) word_of (renamed_action ρ a) = cc in e ∙
      action_words ρ a)
  in_words_at ρ t (Goes a s) (Passes x) h = cc
  in_words_at ρ t (Goes a s) (IsOver mode.Running) h = cc
  in_words_at ρ t (Goes a s) (IsOver mode.Ended) h = cc
  in_words_at ρ t (Goes a s) (IsOver mode.Trapped) h = cc
  in_words_at ρ t (Goes a s) IsStuck h = cc
  in_words_at ρ t (Goes a s) TooLong h = cc
  in_words_at ρ t Ended (Paused b go) h = cc
  in_words_at ρ t Ended (Passes x) h = cc
  in_words_at ρ t Ended (IsOver mode.Running) h = cc
  in_words_at ρ t Ended (IsOver mode.Ended) h = tt
  in_words_at ρ t Ended (IsOver mode.Trapped) h = cc
  in_words_at ρ t Ended IsStuck h = cc
  in_words_at ρ t Ended TooLong h = cc
  in_words_at ρ t Trapped (Paused b go) h = cc
  in_words_at ρ t Trapped (Passes x) h = cc
  in_words_at ρ t Trapped (IsOver mode.Running) h = cc
  in_words_at ρ t Trapped (IsOver mode.Ended) h = cc
  in_words_at ρ t Trapped (IsOver mode.Trapped) h = tt
  in_words_at ρ t Trapped IsStuck h = cc
  in_words_at ρ t Trapped TooLong h = cc

  -- what the store's objects take is within the room of the cells
  pub used_length : (σ : List ValueType) (st : Store) (c : Cells) → StoreHolds σ st c → names + total st.things ≤ room
  used_length σ st c holds =
      omega (
        arith,
        ap length holds.words,
        length_all (renaming names st) st.names st.things,
        many_length σ st.names named holds.names,
        holds.within,
      )

  refers_small : (σ : List ValueType) (st : Store) (c : Cells) →
      StoreHolds σ st c →
      (n : ℕ) (s : ValueType) →
      Refers σ n s →
      n < 2 ^ 32
  refers_small σ st c holds zero s h = omega arith
  refers_small σ st c holds (suc n) s h = omega (
    arith,
    get_within σ n s h,
    things_length file.classes σ st.things σ holds.typed,
    things_fit st.things,
    used_length σ st c holds,
  )

  address_small : (σ : List ValueType) (st : Store) (c : Cells) →
      StoreHolds σ st c →
      (n : ℕ) (s : ValueType) →
      Refers σ n s →
      renaming names st n < 2 ^ 32
  address_small σ st c holds zero s h = omega arith
  address_small σ st c holds (suc n) s h =
      let within : n < length st.things = omega (
        arith,
        get_within σ n s h,
        things_length file.classes σ st.things σ holds.typed,
      ) in
      omega (arith, offset_below st.things n within, used_length σ st c holds)

  -- a fed thread asks what the source asks, in words
  pub asks_words : (σ : List ValueType) (st : Store) (c : Cells) →
      StoreHolds σ st c →
      (t : ℕ) (s : Start) (had : Answers) →
      slice_get code.starts t ≡ Some s →
      Known file program σ t had →
      InWords (renaming names st) (next file program t had) (fed_to t s (words (renaming names st) had))
  asks_words σ st c holds t s had start known =
      let ρ = renaming names st in
      let law : (h : Answers) → next file program t (map (map_answer (renamed ρ)) h) ≡ renamed_next ρ
      (next file program t h) = λ h. sound.renames ρ
      (record { null = refl; apart = address_one names st.things }) t h in
      let kind : InKind file program t (map (map_answer (renamed ρ)) had) = suited_renamed (Refers σ)
      (λ n r. n < 2 ^ 32) ρ refl (address_one names st.things) (address_small σ st c holds)
      (next file program t) (next file program t) law had known in
      let same = asks.asks t s (map (map_answer (renamed ρ)) had) start kind in
      in_words_at ρ t (next file program t had) _
      (sym (resumed code t bound (words ρ had) (stands t (started s)))
      ∙ ap (λ l. resume code t bound l (stands t (started s))) (sym (answers_words ρ had)) ∙ same ∙ ap told (law had))

  -- such a pause isn't for too long a silence
  pub in_words_loud : (ρ : ℕ → ℕ) (d : Next) (q : Pause) → InWords ρ d q → IsLoud q
  in_words_loud ρ (Goes a s) (Paused b go) h = tt
  in_words_loud ρ (Goes a s) (Passes x) h = tt
  in_words_loud ρ (Goes a s) (IsOver m) h = tt
  in_words_loud ρ (Goes a s) IsStuck h = tt
  in_words_loud ρ (Goes a s) TooLong h = h
  in_words_loud ρ Ended TooLong h = h
  in_words_loud ρ Ended (Paused b go) h = tt
  in_words_loud ρ Ended (Passes x) h = tt
  in_words_loud ρ Ended (IsOver m) h = tt
  in_words_loud ρ Ended IsStuck h = tt
  in_words_loud ρ Trapped TooLong h = h
  in_words_loud ρ Trapped (Paused b go) h = tt
  in_words_loud ρ Trapped (Passes x) h = tt
  in_words_loud ρ Trapped (IsOver m) h = tt
  in_words_loud ρ Trapped IsStuck h = tt

  -- the thread that begins the operation is where the source says
  pub stands_so : (σ : List ValueType) (st : Store) (c : Cells) →
      StoreHolds σ st c →
      (t : ℕ) (had : Answers) (x : Thread) (each : Each c σ (renaming names st) t (Some had) (Some x)) →
      InWords (renaming names st) (next file program t had) (stands t each.3)
  stands_so σ st c holds t had x each =
      subst (λ q. InWords (renaming names st) (next file program t had) q) (sym each.4)
      (asks_words σ st c holds t each.0 had each.1 each.2)

  -- each thread of the machine pauses in time
  pub loud_so : (σ : List ValueType) (st : Store) (c : Cells) →
      StoreHolds σ st c →
      (t : ℕ) (had : Answers) (x : Thread) (each : Each c σ (renaming names st) t (Some had) (Some x)) →
      IsLoud (stands t each.3)
  loud_so σ st c holds t had x each = in_words_loud (renaming names st) (next file program t had) _
      (stands_so σ st c holds t had x each)

  pub mode_so : (σ : List ValueType) (st : Store) (c : Cells) (t : ℕ) (had : Answers) (x : Thread)
      (each : Each c σ (renaming names st) t (Some had) (Some x)) →
      x.mode ≡ each.3.mode
  mode_so σ st c t had x each = same_mode code c t each.3 x each.5

  -- never stuck
  pub not_stuck : (ρ : ℕ → ℕ) (d : Next) → InWords ρ d IsStuck → ⊥
  not_stuck ρ (Goes a s) h = h
  not_stuck ρ Ended h = h
  not_stuck ρ Trapped h = h

  -- if the setup has ended in the machine, it has ended in the source
  over_same : (ρ : ℕ → ℕ) (d : Next) → InWords ρ d (IsOver mode.Ended) → has_ended d ≡ true
  over_same ρ (Goes a s) h = absurd h
  over_same ρ Ended h = refl
  over_same ρ Trapped h = absurd h

  over_mode : (σ : List ValueType) (st : Store) (c : Cells) →
      StoreHolds σ st c →
      (had : Answers) (x : Thread) →
      Each c σ (renaming names st) 0 (Some had) (Some x) →
      (m : Mode) →
      x.mode ≡ m →
      machine.has_ended m ≡ true →
      has_ended (next file program 0 had) ≡ true
  over_mode σ st c holds had x each mode.Running em e = cc
  over_mode σ st c holds had x each mode.Trapped em e = cc
  over_mode σ st c holds had x each mode.Ended em e =
      let at : stands 0 each.3 ≡ IsOver mode.Ended = ended code 0 bound each.3 (sym (mode_so σ st c 0 had x each) ∙ em)
      in
      over_same (renaming names st) (next file program 0 had)
      (subst (λ q. InWords (renaming names st) (next file program 0 had) q) at
      (stands_so σ st c holds 0 had x each))

  over_at : (s : State) (σ : List ValueType) (c : Cells) →
      StoreHolds σ s.store c →
      (o : Option Answers) (p : Option Thread) →
      slice_get s.answers 0 ≡ o →
      Each c σ (renaming names s.store) 0 o p →
      setup_ended p ≡ true →
      has_ended (next file program 0 (answers_of s 0)) ≡ true
  over_at s σ c holds None None eo each e = cc
  over_at s σ c holds None (Some x) eo each e = absurd each
  over_at s σ c holds (Some had) None eo each e = absurd each
  over_at s σ c holds (Some had) (Some x) eo each e =
      ap (λ l. has_ended (next file program 0 l)) (index_there s.answers 0 had [] eo) ∙
      over_mode σ s.store c holds had x each x.mode refl e

  pub setup_back : (s : State) (m : Machine) →
      Follows s m →
      setup_ended (slice_get m.threads 0) ≡ true →
      has_ended (next file program 0 (answers_of s 0)) ≡ true
  setup_back s m h e = over_at s h.sorts m.cells h.holds (slice_get s.answers 0) (slice_get m.threads 0) refl (h.each 0)
      e

  and_both : (a b : Bool) → (a && b) ≡ true → (a ≡ true) × (b ≡ true)
  and_both true true e = (refl, refl)
  and_both true false e = cc
  and_both false b e = cc

  or_started : (a b c : Bool) → (a || b) ≡ true → (b ≡ true → c ≡ true) → (if a then true else c) ≡ true
  or_started true b c e f = refl
  or_started false true c e f = f refl
  or_started false false c e f = cc

  -- if a thread of the machine is due, the thread of the source has started
  pub started_back : (s : State) (m : Machine) →
      Follows s m →
      (t : ℕ) (x : Thread) →
      is_due m.threads t x ≡ true →
      (x.mode ≡ mode.Running) × (has_started file program s t ≡ true)
  started_back s m h t x e =
      let b = and_both (is_running x.mode) _ e in
      (runs x.mode b.0, or_started (nat_eq t 0) (setup_ended (slice_get m.threads 0)) _ b.1 (setup_back s m h))
    where
      runs : (m : Mode) → is_running m ≡ true → m ≡ mode.Running
      runs mode.Running e = refl
      runs mode.Ended e = cc
      runs mode.Trapped e = cc

  -- the lock, or the object with the monitor, that a thread's operation is on
  abbrev pub LockThere : List ValueType → Store → Cells → ℕ → Type 0
  LockThere σ st c lock = (n : ℕ) × (q : ValueType) × IsHeldType q × Names σ n q × (renaming names st n ≡ lock)

  some_lock : (σ : List ValueType) (ρ : ℕ → ℕ) (o : Option ℕ) (lock : ℕ) →
      LockNamed σ o →
      renamed_lock ρ o ≡ Some lock →
      (n : ℕ) × (q : ValueType) × IsHeldType q × Names σ n q × (ρ n ≡ lock)
  some_lock σ ρ None lock h e = cc
  some_lock σ ρ (Some n) lock h e = (n, h.0, h.1, h.2, cc)

  lock_there : (σ : List ValueType) (st : Store) (c : Cells) (t : ℕ) (had : Answers) →
      Known file program σ t had →
      (b : Action ℕ) (go : Answer ℕ → Option Thread) (lock : ℕ) →
      lock_on b ≡ Some lock →
      (d : Next) →
      next file program t had ≡ d →
      InWords (renaming names st) d (Paused b go) →
      LockThere σ st c lock
  lock_there σ st c t had known b go lock on Ended ed w = absurd w
  lock_there σ st c t had known b go lock on Trapped ed w = absurd w
  lock_there σ st c t had known b go lock on (Goes a q) ed w =
      some_lock σ (renaming names st) (lock_on a) lock (lock_named file program σ t a q
      (sound.sound σ t had a q known ed))
      (sym (lock_renamed (renaming names st) (written (renaming names st)) a) ∙ ap lock_on (sym w) ∙ on)

  -- a thread that begins an operation
  pub began : (σ : List ValueType) (st : Store) (c : Cells) →
      StoreHolds σ st c →
      (t : ℕ) (had : Answers) (x : Thread) (each : Each c σ (renaming names st) t (Some had) (Some x)) →
      each.3.mode ≡ mode.Running →
      (b : Action ℕ) (go : Answer ℕ → Option Thread) →
      whole_move code t each.3 ≡ MoveAsks b go →
      stands t each.3 ≡ Paused b go
  began σ st c holds t had x each runs b go em = beginning code t bound each.3 b go runs em
      (loud_so σ st c holds t had x each)

  -- if a thread asks for an operation on a lock, the lock is a thing of the store
  pub lock_of : (σ : List ValueType) (st : Store) (c : Cells) →
      StoreHolds σ st c →
      (t : ℕ) (had : Answers) (x : Thread) (each : Each c σ (renaming names st) t (Some had) (Some x)) →
      each.3.mode ≡ mode.Running →
      (b : Action ℕ) (go : Answer ℕ → Option Thread) →
      whole_move code t each.3 ≡ MoveAsks b go →
      (lock : ℕ) →
      lock_on b ≡ Some lock →
      LockThere σ st c lock
  lock_of σ st c holds t had x each runs b go em lock on =
      lock_there σ st c t had each.2 b go lock on (next file program t had) refl
      (subst (λ q. InWords (renaming names st) (next file program t had) q)
      (began σ st c holds t had x each runs b go em) (stands_so σ st c holds t had x each))

  -- the place to which an answer leads
  pub some_thread : (ρ : ℕ → ℕ) (t : ℕ) (d : Next) (o : Option Thread) →
      InWords ρ d (quiet_from code t bound o) →
      (x : Thread) × (o ≡ Some x)
  some_thread ρ t d None h = absurd (not_stuck ρ d h)
  some_thread ρ t d (Some x) h = (x, refl)

  -- what is kept of an entry, whatever is made later
  abbrev pub Live : State → source.Entry Value → Type 0
  Live s e = ((ρ' : ℕ → ℕ) → AgreeTo (length s.store.things) (renaming names s.store) ρ' →
      in_words (renaming names s.store) e ≡ in_words ρ' e) × Says program e.thread e.action

  -- a later state: the store has grown, and each thing has kept its address
  abbrev pub Later : State → State → Type 0
  Later s s' = Grows names s.store s'.store

  -- an entry of the source's trace in words
  abbrev pub write : State → source.Entry Value → Entry
  write s e = in_words (renaming names s.store) e

  -- an action of the source in words
  abbrev pub acts_as : State → Action Value → Action ℕ
  acts_as s a = map_action (renaming names s.store) (written (renaming names s.store)) a

  -- what an action does agrees with what the machine does for it
  pub agree_here : (s : State) (m : Machine) (h : Follows s m) (t : ℕ) (a : Action Value) (q : Sort) →
      ActionHas file program h.sorts t a q →
      Agrees file.classes named code.sizes room h.sorts s.store a q (effect file.classes s.store t a)
      (cells.effect m.cells t (acts_as s a))
  agree_here s m h t a q has = effects_agree file program code.sizes room small asks.sizes h.sorts s.store m.cells
      h.holds t a q has

  -- to be opened
  abbrev pub notions : Notions
  notions = record {
    named = named;
    names = names;
    bound = bound;
    StoreHolds = StoreHolds;
    stands = stands;
    words = words;
    fed_to = fed_to;
    Each = Each;
    Follows = Follows;
    InWords = InWords;
    Live = Live;
    Later = Later;
    write = write;
    acts_as = acts_as;
  }
