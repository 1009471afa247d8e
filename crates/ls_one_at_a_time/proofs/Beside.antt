-- A run, and a serial run beside it: each state of the run has one, and each step keeps it.
use Rattle.std.proofs.Common.{◌≡◌, ◌≢◌, ◌⊎◌, inl, inr, ℕ, ◌+◌, ◌<◌, List, []}
use Rattle.std.proofs.Common.{◌∷◌, ◌++◌, Contains, length, refl, sym, ap, ◌∙◌, subst, append_assoc, append-nil}
use Rattle.std.proofs.lemmas.Bool.{cases_eq}
use Rattle.ls_events.specs.declared.value.Value.{Value}
use Rattle.ls_events.specs.declared.event.Event.{Event}
use Rattle.ls_events.specs.declared.action.Action.{Action}
use Rattle.ls_events.specs.declared.action.Answer.{Answer}
use Rattle.ls_events.specs.declared.action.Answer.TheVariants.{Done}
use Rattle.ls_checked.specs.CheckedTree.{File}
use Rattle.ls_checked.specs.CheckedProgram.{Program, ProgramCall}
use Rattle.ls_meaning.specs.declared.sort.Sort.{Sort}
use Rattle.ls_meaning.specs.Course.{Answers, Asks}
use Rattle.ls_meaning.specs.Store.{Store}
use Rattle.ls_meaning.specs.Effect.{Does, effect}
use Rattle.ls_meaning.specs.Threads.{Goes, Ended, after_call, all_calls, next, one_call}
use Rattle.ls_meaning.specs.Runs.{State, answers_of, event_of, source_history}
use Rattle.ls_search_laws.specs.Stepping.{events_in}
use Rattle.ls_serial.specs.Serial.{Explains, IsSerial}
use Rattle.ls_linearizable.specs.Once.{AreOnce}
use Rattle.ls_one_at_a_time.proofs.Kit.{IsGuarded, Kit}
use Rattle.ls_one_at_a_time.proofs.Standing.{CallsFrom, IsAt, IsOut, Reached, SetupEnded, called, count_stays}
use Rattle.ls_one_at_a_time.proofs.Standing.{IsUp, all_up, up_ended, next_state, other}
use Rattle.ls_one_at_a_time.proofs.Standing.{out_later, own, reach_acts, steps_so}

module _ (file : File) (program : Program) (k : Kit file program)
    (once : (schedule : List ℕ) → AreOnce (source_history file program schedule)) where
  -- the answers of a call up to its lock, and then those of its body
  abbrev pub held_of : (n : ℕ) (c : ProgramCall) → IsGuarded file program k n c → Answers → Answers
  held_of n c guard q = guard.before guard.last ++ Done ∷ q

  -- the thread has gone on alone from the serial run, by these answers
  pub record Ahead (s' : State) (t : ℕ) (q : Answers) (told : List Event) (z : State) : Type 0 where
    pub reached : Reached file program z told
    pub mine : answers_of z t ≡ answers_of s' t ++ q
    pub others : (v : ℕ) → v ≢ t → answers_of z v ≡ answers_of s' v
    pub count : length z.answers ≡ length program.threads

  -- a state of a run, and one of a serial run whose history explains the run's
  pub record IsBeside (s s' : State) (g h : List Event) : Type 0 where
    pub reached : Reached file program s h
    pub serial_run : Reached file program s' g
    pub count : length s.answers ≡ length program.threads
    pub count' : length s'.answers ≡ length program.threads
    pub free : k.Idle s'.store
    pub serial : IsSerial g
    pub explains : Explains g h

  -- where a thread stands that hasn't the lock
  abbrev pub Out : State → State → List Event → List Event → ℕ → Type 0
  Out s s' g h t = IsOut file program k t (answers_of s t) (answers_of s' t) g h

  -- no thread has the lock
  pub record IsCalm (s s' : State) (g h : List Event) : Type 0 where
    pub store : s.store ≡ s'.store
    pub outs : (t : ℕ) → Out s s' g h t

  -- a thread has it
  pub record IsBusy (s s' : State) (g h : List Event) : Type 0 where
    pub u : ℕ
    pub within : u < length program.threads
    pub outs : (t : ℕ) → t ≢ u → Out s s' g h t
    pub n : ℕ
    pub call : ProgramCall
    pub rest : List ProgramCall
    pub at : IsAt file program k u (answers_of s' u) (CallsFrom n (call ∷ rest))
    pub q : Answers
    pub mine : answers_of s u ≡ answers_of s' u ++ (at.guarded.0.before at.guarded.0.last ++ Done ∷ q)
    pub stands : k.Stands at.guarded.0.body q
    pub there : Contains h (called u n)
    pub held : k.Has u s.store
    pub up : IsUp file program s u
    pub z : State
    pub ahead : Ahead s' u (at.guarded.0.before at.guarded.0.last ++ Done ∷ q) (g ++ called u n ∷ []) z
    pub store : z.store ≡ s.store

  -- a state of a run has a serial run beside it
  pub record Holds (s : State) (h : List Event) : Type 0 where
    pub s' : State
    pub g : List Event
    pub beside : IsBeside s s' g h
    pub mode : IsCalm s s' g h ⊎ IsBusy s s' g h

  -- ---- a step alone

  -- it has started there too
  pub ahead_up : (s' z : State) (t : ℕ) (q : Answers) (told : List Event) → IsUp file program s' t →
      Ahead s' t q told z →
      IsUp file program z t
  ahead_up s' z t q told up a = by_number (cases_eq t 0)
    where
      by_number : (t ≡ 0) ⊎ (t ≢ 0) → IsUp file program z t
      by_number (inl e) = subst (IsUp file program z) (sym e) refl
      by_number (inr ne) = all_up file program z t
          (ap (next file program 0) (a.others 0 (λ e. ne (sym e))) ∙ up_ended file program s' t ne up)

  -- a thread that has gone on alone goes on by one action more
  pub ahead_more : (s' z : State) (t : ℕ) (q : Answers) (told : List Event) (act : Action Value) (sort : Sort)
      (store : Store)
      (x : Answer Value) → IsUp file program s' t → t < length program.threads → Ahead s' t q told z →
      next file program t (answers_of s' t ++ q) ≡ Goes act sort → effect file.classes z.store t act ≡ Does store x →
      Ahead s' t (q ++ x ∷ []) (told ++ events_in (event_of t act)) (next_state z t store x)
  ahead_more s' z t q told act sort store x up lt a asks does = record {
    reached = reach_acts file program z told t act x store a.reached
        (steps_so file program z t act sort store x (ahead_up s' z t q told up a)
        (ap (next file program t) a.mine ∙ asks) does);
    mine =
        own z t store x (subst (λ c. t < c) (sym a.count) lt)
        ∙ ap (λ l. l ++ x ∷ []) a.mine
        ∙ append_assoc (answers_of s' t) q (x ∷ []);
    others = λ v other_v. other z t v store x other_v ∙ a.others v other_v;
    count = count_stays z t store x ∙ a.count;
  }

  -- a thread that asks for an action hasn't ended
  pub goes_not : {a : Action Value} {sort : Sort} → Goes a sort ≡ Ended → ⊥
  goes_not p = cc

  -- what has started has started after a step of another thread, or of its own
  pub up_stays : (s : State) (t u : ℕ) (store : Store) (x : Answer Value) → IsUp file program s u →
      (t ≡ 0 → SetupEnded file program s → ⊥) → IsUp file program (next_state s t store x) u
  up_stays s t u store x up goes = by_number (cases_eq u 0) (cases_eq t 0)
    where
      by_number : (u ≡ 0) ⊎ (u ≢ 0) → (t ≡ 0) ⊎ (t ≢ 0) → IsUp file program (next_state s t store x) u
      by_number (inl e) h = subst (IsUp file program (next_state s t store x)) (sym e) refl
      by_number (inr ne) (inl e) = absurd (goes e (up_ended file program s u ne up))
      by_number (inr ne) (inr apart) = all_up file program (next_state s t store x) u
          (ap (next file program 0) (other s t 0 store x (λ e. apart (sym e))) ∙ up_ended file program s u ne up)

  -- a setup that asks for an action hasn't ended
  pub goes_on : (s : State) (t : ℕ) (a : Action Value) (sort : Sort) →
      next file program t (answers_of s t) ≡ Goes a sort →
      t ≡ 0 → SetupEnded file program s → ⊥
  goes_on s t a sort asks e ended =
      goes_not (sym (subst (λ v. next file program v (answers_of s v) ≡ Goes a sort) e asks) ∙ ended)

  -- what a thread asks for after answers of its call
  pub asks_at : (t n : ℕ) (c : ProgramCall) (cs : List ProgramCall) (b q : Answers) (a : Action Value) (sort : Sort) →
      IsAt file program k t b (CallsFrom n (c ∷ cs)) → one_call file program n c q ≡ Asks a sort →
      next file program t (b ++ q) ≡ Goes a sort
  asks_at t n c cs b q a sort at one = at.on q ∙ ap (λ x. after_call n x (all_calls file program (n + 1) cs)) one

  -- ---- others stay where they are

  pub out_same : (t : ℕ) (a b : Answers) (g h h' : List Event) → IsOut file program k t a b g h →
      IsOut file program k t a b g (h ++ h')
  out_same t a b g h h' out =
      subst (λ l. IsOut file program k t a b l (h ++ h')) (append-nil g)
      (out_later file program k t a b g h [] h' out)

  -- a step of another thread leaves a thread where it stands
  pub stays_out : (s s' : State) (g h h' : List Event) (t v : ℕ) (store : Store) (x : Answer Value) → v ≢ t →
      Out s s' g h v → Out (next_state s t store x) s' g (h ++ h') v
  stays_out s s' g h h' t v store x ne out =
      subst (λ a. IsOut file program k v a (answers_of s' v) g (h ++ h')) (sym (other s t v store x ne))
      (out_same v (answers_of s v) (answers_of s' v) g h h' out)
