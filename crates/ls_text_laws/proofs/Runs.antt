-- The history of each source run of a program that a text is, is one that is read.
use Rattle.std.proofs.Common.{◌≡◌, ◌≢◌, ℕ, zero, suc, ◌-◌, ◌<◌, Bool, true, false, inl, inr, List, [], ◌∷◌, ◌++◌}
use Rattle.std.proofs.Common.{length, map, Option, Some, None, refl, sym, ap, ◌∙◌, subst, arith}
use Rattle.std.specs.Prelude.{option_and_then, slice_get, slice_index_or, slice_set, filter_map, if◌then◌else◌}
use Rattle.std.specs.List.{cons_option, list_all}
use Rattle.std.specs.Option.{option_map_or}
use Rattle.std.proofs.lemmas.Bool.{and_from}
use Rattle.std.proofs.lemmas.Bool.Decides.{eqb_tells}
use Rattle.std.proofs.lemmas.List.{length-map}
use Rattle.ls_events.specs.declared.event.Event.{Event as RunEvent}
use Rattle.ls_events.specs.declared.value.Value.{Value}
use Rattle.ls_events.specs.declared.value.Value.TheVariants as values
use Rattle.ls_events.specs.declared.value.ValueType.{ValueType}
use Rattle.ls_events.specs.declared.value.ValueType.TheVariants as types
use Rattle.ls_events.specs.declared.action.Action.{Action}
use Rattle.ls_events.specs.declared.action.Action.TheVariants as act
use Rattle.ls_events.specs.declared.action.Answer.{Answer}
use Rattle.ls_checked.specs.CheckedTree.{File}
use Rattle.ls_checked.specs.CheckedProgram.{SetupName, ProgramCall, Making, Calling, ThreadProgram, Program}
use Rattle.ls_meaning.specs.declared.sort.Sort.{Sort}
use Rattle.ls_meaning.specs.Course.{Answers}
use Rattle.ls_meaning.specs.Store.{Store}
use Rattle.ls_meaning.specs.Effect.{Effect, Waits, Does, effect}
use Rattle.ls_meaning.specs.Threads.{Next, Goes, Ended, Trapped, all_calls, calls_in, next}
use Rattle.ls_meaning.specs.Steps.{Entry, Stepped, Same, Moved, Acted, after, traced, trace}
use Rattle.ls_meaning.specs.Runs.{State, answers_of, start, has_started, performed, idle, step_of, stepped, source_step}
use Rattle.ls_meaning.specs.Runs.{event_of, history_of, source_history}
use Rattle.ls_types_judgement.specs.Typing.{IsTypedFile}
use Rattle.ls_preservation.specs.Sorts.{Refers, Returns, ActionHas, Suits, Suited, Known, call_at}
use Rattle.ls_preservation.specs.Threads.{IsSound}
use Rattle.ls_preservation.proofs.Lists.{get_within, length-set}
use Rattle.ls_preservation.proofs.Effects.{HaveTypes, refers_more}
use Rattle.ls_preservation.proofs.AllCases.{names_of}
use Rattle.ls_preservation.proofs.Answers.{suited_end, suited_more}
use Rattle.ls_types_programs.proofs.Pieces.{some_none, same_some}
use Rattle.ls_types_judgement.specs.Programs.{IsArgument, AreArguments, IsTypedCall, IsTypedProgram}
use Rattle.ls_report.specs.Events.{Event}
use Rattle.ls_report.specs.Discipline.{continues, is_next, is_shown, last_of}
use Rattle.ls_report.specs.Lines.{history_text, line}
use Rattle.ls_report.specs.Printing.{named, run_line, run_text}
use Rattle.ls_report.specs.Printing as printing
use Rattle.ls_text_laws.specs.Histories.{IsReadable}
use Rattle.ls_text_laws.proofs.Follows as follows
use Rattle.ls_text_laws.proofs.Follows.{Follows, newer}
use Rattle.ls_text_laws.proofs.Kept.{Holds, Kept, KeptBy, effects_kept}
use Rattle.ls_text_laws.proofs.Names.{AreProgramNames}
use Rattle.ls_text_laws.proofs.Lines.{int_shown, values_in, last_pushed, same_name, other_name, IsOf, IsFor, named_is}
use Rattle.ls_text_laws.proofs.Lines.{comes_next}
use Rattle.ls_text_laws.proofs.Noted.{Noted, IsDue, noted_calls, noted, event_due, event_last}

-- ---- lists

index_set : {A : Type 0} (xs : List A) (t : ℕ) (y d : A) → t < length xs → slice_index_or (slice_set xs t y) t d ≡ y
index_set [] t y d h = absurd (omega arith)
index_set (x ∷ xs) zero y d h = refl
index_set (x ∷ xs) (suc t) y d h = index_set xs t y d (omega arith)

index_other : {A : Type 0} (xs : List A) (t u : ℕ) (y d : A) →
    u ≢ t →
    slice_index_or (slice_set xs t y) u d ≡ slice_index_or xs u d
index_other [] t u y d ne = refl
index_other (x ∷ xs) zero zero y d ne = absurd (ne refl)
index_other (x ∷ xs) zero (suc u) y d ne = refl
index_other (x ∷ xs) (suc t) zero y d ne = refl
index_other (x ∷ xs) (suc t) (suc u) y d ne = index_other xs t u y d (λ e. ne (ap suc e))

no_answers : (ts : List ThreadProgram) (t : ℕ) →
    slice_index_or {A = Answers} (map (λ (u : ThreadProgram). []) ts) t [] ≡ []
no_answers [] t = refl
no_answers (u ∷ ts) zero = refl
no_answers (u ∷ ts) (suc t) = no_answers ts t

-- ---- arguments are shown

argument_shown : (t : ValueType) (v : Value) → IsArgument t v → is_shown v ≡ true
argument_shown types.Int (values.Int z) h = int_shown z h
argument_shown types.Boolean (values.Boolean b) h = refl
argument_shown types.Int (values.Boolean b) h = absurd h
argument_shown types.Int (values.Reference n) h = absurd h
argument_shown types.Int (values.Pair n b) h = absurd h
argument_shown types.Boolean (values.Int z) h = absurd h
argument_shown types.Boolean (values.Reference n) h = absurd h
argument_shown types.Boolean (values.Pair n b) h = absurd h
argument_shown types.BooleanArray v h = absurd h
argument_shown (types.Class c) v h = absurd h
argument_shown types.Lock v h = absurd h
argument_shown (types.Markable c) v h = absurd h

arguments_shown : (ts : List ValueType) (vs : List Value) → AreArguments ts vs → list_all is_shown vs ≡ true
arguments_shown [] [] h = refl
arguments_shown [] (v ∷ vs) h = absurd h
arguments_shown (t ∷ ts) [] h = absurd h
arguments_shown (t ∷ ts) (v ∷ vs) h = and_from (is_shown v) (list_all is_shown vs) (argument_shown t v h.0)
    (arguments_shown ts vs h.1)

call_shown : (file : File) (program : Program) (c : ProgramCall) →
    IsTypedCall file program c →
    list_all is_shown (values_in c) ≡ true
call_shown file program (Making n class text vs) h = arguments_shown _ vs h.fit
call_shown file program (Calling n m text result vs) h = arguments_shown _ vs h.fit

-- ---- the text of a history

-- what is printed of a run is the text of its named events
pub text_is : (p : Program) (es : List RunEvent) → run_text p es ≡ history_text (filter_map (named p) es)
text_is p [] = refl
text_is p (e ∷ es) = by_name (text_is p es) (named p e)
  where
    by_name : run_text p es ≡ history_text (filter_map (named p) es) →
        (o : Option Event) →
        option_map_or line o [] ++ run_text p es ≡ history_text (cons_option o (filter_map (named p) es))
    by_name rest None = rest
    by_name rest (Some d) = ap (λ l. line d ++ l) rest

follows_thread : (t : ℕ) (d : Option RunEvent) (e : RunEvent) → Follows t d e → e.thread ≡ t
follows_thread t d e follows.First = refl
follows_thread t d e (follows.Next n v) = refl
follows_thread t d e (follows.Gives n v) = refl
follows_thread t d e (follows.Fails n k) = refl

null_refers : (things : List ValueType) (n : ℕ) (t : ValueType) → n ≡ 0 → Refers things n t
null_refers things zero t e = tt
null_refers things (suc n) t e = absurd (let f : ⊥ = omega (arith, e) in f)

names_typed : (ns : List SetupName) →
    HaveTypes [] (map (λ n. values.Reference 0) ns) (map (λ x. types.Class x.class) ns)
names_typed [] = tt
names_typed (n ∷ ns) = (tt, names_typed ns)

-- ---- runs

module _ (file : File) (program : Program) (typed : IsTypedFile file) (sound : IsSound file program)
    (calls : IsTypedProgram file program) (names : AreProgramNames program) where
  abbrev sd : State → ℕ → Stepped State (Entry Value)
  sd = source_step file program

  abbrev noted_at : State → ℕ → Noted
  noted_at s t = noted file program t (answers_of s t)

  -- a state after which these events have happened
  pub record Reaches (σ : List ValueType) (s : State) (front : List Event) : Type 0 where
    pub holds : Holds file.classes (names_of program) σ s.store
    pub count : length s.answers ≡ length program.threads
    pub known : (t : ℕ) → Known file program σ t (answers_of s t)
    pub last : (t : ℕ) (th : ThreadProgram) →
        slice_get program.threads t ≡ Some th →
        last_of th.name front ≡ option_and_then (named program) (noted_at s t).last

  -- the state that an action leads to, with its event if it has one
  abbrev Adds : List Event → State → Option RunEvent → Type 0
  Adds front s None = (σ : List ValueType) × Reaches σ s front
  Adds front s (Some e) = (d : Event) × (named program e ≡ Some d) × (is_next front d ≡ true) × (σ : List ValueType) ×
      Reaches σ s (front ++ d ∷ [])

  abbrev AddsBy : List Event → Stepped State (Entry Value) → Type 0
  AddsBy front Same = Unit {0}
  AddsBy front (Moved s) = ⊥
  AddsBy front (Acted s e) = Adds front s (event_of e.thread e.action)

  shown : (i j : ℕ) (t : ThreadProgram) (c : ProgramCall) →
      slice_get program.threads i ≡ Some t →
      slice_get t.calls j ≡ Some c →
      list_all is_shown (values_in c) ≡ true
  shown i j t c e f = call_shown file program c (calls i t j c e f)

  thread_calls : (t i : ℕ) (c : ProgramCall) →
      slice_get (calls_in (slice_get program.threads t)) i ≡ Some c →
      (th : ThreadProgram) × (slice_get program.threads t ≡ Some th) × (slice_get th.calls i ≡ Some c)
  thread_calls t i c = by_thread (slice_get program.threads t)
    where
      by_thread : (o : Option ThreadProgram) →
          slice_get (calls_in o) i ≡ Some c →
          (th : ThreadProgram) × (o ≡ Some th) × (slice_get th.calls i ≡ Some c)
      by_thread None e = absurd (some_none c e)
      by_thread (Some th) e = (th, refl, e)

  typed_calls : (t i : ℕ) (c : ProgramCall) →
      slice_get (calls_in (slice_get program.threads t)) i ≡ Some c →
      IsTypedCall file program c
  typed_calls t i c e = let h = thread_calls t i c e in calls t h.0 i c h.1 h.2

  -- only a thread that is there acts
  there : (t : ℕ) (had : Answers) (a : Action Value) (r : Sort) →
      next file program t had ≡ Goes a r →
      t < length program.threads
  there t had a r = by_thread (slice_get program.threads t) refl
    where
      by_thread : (o : Option ThreadProgram) →
          slice_get program.threads t ≡ o →
          all_calls file program 1 (calls_in o) had ≡ Goes a r →
          t < length program.threads
      by_thread None is e = let f : ⊥ = cc in absurd f
      by_thread (Some th) is e = get_within program.threads t th is

  -- what is returned is what the call returns
  for_call : (σ : List ValueType) (t : ℕ) (a : Action Value) (r : Sort) (e : RunEvent) (c : ProgramCall) →
      event_of t a ≡ Some e →
      ActionHas file program σ t a r →
      call_at program t e.call ≡ Some c →
      IsFor program c e.happening
  for_call σ t (act.Call n) r e c is h at = subst (λ (z : RunEvent). IsFor program c z.happening) (same_some _ e is) tt
  for_call σ t (act.Trap n k) r e c is h at = subst (λ (z : RunEvent). IsFor program c z.happening) (same_some _ e is)
      tt
  for_call σ t (act.Return n v) r e c is h at =
      let same = same_some (follows.returned t n v) e is in
      let call : call_at program t n ≡ Some c = ap (λ (z : RunEvent). call_at program t z.call) same ∙ at in
      subst (λ (z : RunEvent). IsFor program c z.happening) same (subst (λ o. Returns o v) call h.0)
  for_call σ t _ r e c is h at = absurd (some_none e is)

  module _ (σ : List ValueType) (s : State) (front : List Event) (r : Reaches σ s front) (t : ℕ) where
    abbrev had : Answers
    had = answers_of s t

    abbrev told : Store → Answer Value → State
    told st y = record { store = st; answers = slice_set s.answers t (had ++ y ∷ []) }

    module _ (a : Action Value) (sort : Sort) (goes : next file program t had ≡ Goes a sort) (st : Store)
        (y : Answer Value) (kept : Kept file.classes (names_of program) σ a sort st y) where
      here : answers_of (told st y) t ≡ had ++ y ∷ []
      here = index_set s.answers t (had ++ y ∷ []) [] (omega (arith, there t had a sort goes, r.count))

      elsewhere : (u : ℕ) → u ≢ t → answers_of (told st y) u ≡ answers_of s u
      elsewhere u ne = index_other s.answers t u (had ++ y ∷ []) [] ne

      known_more : (u : ℕ) → Suited (Refers kept.sorts) (next file program u) (answers_of s u)
      known_more u = suited_more (Refers σ) (Refers kept.sorts) (refers_more σ kept.sorts kept.extends)
          (next file program u) (answers_of s u) (r.known u)

      known_here : Known file program kept.sorts t (had ++ y ∷ [])
      known_here = suited_end (Refers kept.sorts) (next file program t) had y (known_more t)
          (subst (λ z. Suits (Refers kept.sorts) z y) (sym goes) kept.suits)

      known_all : (u : ℕ) → Known file program kept.sorts u (answers_of (told st y) u)
      known_all u =
          elim (eqb_tells u t) [
            | inl e ↦ subst (λ v. Known file program kept.sorts v (answers_of (told st y) v)) (sym e.1)
                (subst (λ q. Known file program kept.sorts t q) (sym here) known_here)
            | inr ne ↦ subst (λ q. Known file program kept.sorts u q) (sym (elsewhere u ne.1)) (known_more u)
          ]

      due : ((noted_at s t).coming ≡ event_of t a) × IsDue file program t (noted_at s t).last (event_of t a)
      due = event_due file program t (Refers σ) (null_refers σ) typed (typed_calls t) had a sort (r.known t) goes

      last_here : (noted_at (told st y) t).last ≡ newer (noted_at s t).last (event_of t a)
      last_here =
          ap (λ q. (noted file program t q).last) here
          ∙ event_last file program t (Refers kept.sorts) (null_refers kept.sorts) typed (typed_calls t) had y
          known_here
          ∙ ap (newer (noted_at s t).last) due.0

      last_elsewhere : (u : ℕ) → u ≢ t → (noted_at (told st y) u).last ≡ (noted_at s u).last
      last_elsewhere u ne = ap (λ q. (noted file program u q).last) (elsewhere u ne)

      reaches : (now : List Event) →
          ((u : ℕ) (uh : ThreadProgram) → slice_get program.threads u ≡ Some uh →
          last_of uh.name now ≡ option_and_then (named program) (noted_at (told st y) u).last) →
          Reaches kept.sorts (told st y) now
      reaches now last = record {
        holds = kept.holds;
        count = length-set s.answers t (had ++ y ∷ []) ∙ r.count;
        known = known_all;
        last = last;
      }

      -- an action without an event
      quiet : event_of t a ≡ None →
          (u : ℕ) (uh : ThreadProgram) →
          slice_get program.threads u ≡ Some uh →
          last_of uh.name front ≡ option_and_then (named program) (noted_at (told st y) u).last
      quiet none u uh is =
          elim (eqb_tells u t) [
            | inl e ↦ r.last u uh is ∙ ap (λ v. option_and_then (named program) (noted_at s v).last) e.1
                ∙ sym (ap (option_and_then (named program)) (last_here ∙ ap (newer (noted_at s t).last) none)) ∙
                ap (λ v. option_and_then (named program) (noted_at (told st y) v).last) (sym e.1)
            | inr ne ↦ r.last u uh is ∙ sym (ap (option_and_then (named program)) (last_elsewhere u ne.1))
          ]

      module _ (e : RunEvent) (is_event : event_of t a ≡ Some e) where
        abbrev due_now : IsDue file program t (noted_at s t).last (Some e)
        due_now = subst (IsDue file program t (noted_at s t).last) is_event due.1

        follow : Follows t (noted_at s t).last e
        follow = due_now.0

        abbrev call : ProgramCall
        call = due_now.1

        of_thread : (th : ThreadProgram) × (slice_get program.threads t ≡ Some th) ×
            (slice_get th.calls (e.call - 1) ≡ Some call)
        of_thread = thread_calls t (e.call - 1) call due_now.2

        abbrev thread : ThreadProgram
        thread = of_thread.0

        is_of : IsOf program e thread call
        is_of = record {
          thread = ap (slice_get program.threads) (follows_thread t (noted_at s t).last e follow) ∙
              of_thread.1;
          call = of_thread.2;
        }

        abbrev line_of : Event
        line_of = printing.event_of program thread e call

        name_is : named program e ≡ Some line_of
        name_is = named_is program e thread call is_of

        comes : is_next front line_of ≡ true
        comes = comes_next program names shown t front (noted_at s t).last e thread call follow is_of
            (for_call σ t a sort e call is_event (sound.sound σ t had a sort (r.known t) goes) due_now.2)
            (r.last t thread of_thread.1)

        pushed : (u : ℕ) (uh : ThreadProgram) →
            slice_get program.threads u ≡ Some uh →
            last_of uh.name (front ++ line_of ∷ []) ≡ option_and_then (named program) (noted_at (told st y) u).last
        pushed u uh is =
            elim (eqb_tells u t) [
              | inl e' ↦
                  let same : thread ≡ uh = same_some thread uh
                  (sym of_thread.1 ∙ ap (slice_get program.threads) (sym e'.1) ∙ is) in
                  last_pushed uh.name front line_of
                  ∙ ap (λ b. if b then Some line_of else last_of uh.name front)
                  (same_name thread.name uh.name (ap (λ (z : ThreadProgram). z.name) same))
                  ∙ sym name_is ∙ sym (ap (option_and_then (named program))
                  (last_here ∙ ap (newer (noted_at s t).last) is_event)) ∙
                  ap (λ v. option_and_then (named program) (noted_at (told st y) v).last) (sym e'.1)
              | inr ne ↦
                  last_pushed uh.name front line_of
                  ∙ ap (λ b. if b then Some line_of else last_of uh.name front)
                  (other_name thread.name uh.name (λ same.
                  ne.1 (sym (names.once t u thread uh of_thread.1 is same))))
                  ∙ r.last u uh is ∙ sym (ap (option_and_then (named program)) (last_elsewhere u ne.1))
            ]

      acted : (o : Option RunEvent) → event_of t a ≡ o → Adds front (told st y) o
      acted None none = (kept.sorts, reaches front (quiet none))
      acted (Some e) is = (
        line_of e is,
        name_is e is,
        comes e is,
        kept.sorts,
        reaches (front ++ line_of e is ∷ []) (pushed e is),
      )

    by_effect : (a : Action Value) (sort : Sort) →
        next file program t had ≡ Goes a sort →
        (x : Effect) →
        KeptBy file.classes (names_of program) σ a sort x →
        AddsBy front (stepped t (performed s t a x).did (performed s t a x).after)
    by_effect a sort goes Waits kept = tt
    by_effect a sort goes (Does st y) kept = acted a sort goes st y kept (event_of t a) refl

    by_next : (z : Next) →
        next file program t had ≡ z →
        AddsBy front (stepped t (step_of file s t z).did (step_of file s t z).after)
    by_next Ended e = tt
    by_next Trapped e = tt
    by_next (Goes a sort) e = by_effect a sort e (effect file.classes s.store t a)
        (effects_kept file program σ s.store r.holds t a sort (sound.sound σ t had a sort (r.known t) e))

    by_start : (b : Bool) →
        AddsBy front (stepped t (if b then step_of file s t (next file program t had) else idle s).did
        (if b then step_of file s t (next file program t had) else idle s).after)
    by_start true = by_next (next file program t had) refl
    by_start false = tt

    one_step : AddsBy front (sd s t)
    one_step = by_start (has_started file program s t)

  abbrev lines : List RunEvent → List Event
  lines es = filter_map (named program) es

  abbrev Reads : List Event → List RunEvent → Type 0
  Reads front es = (continues front (lines es) ≡ true) × (map (named program) es ≡ map Some (lines es))

  read_more : (front : List Event) (e : RunEvent) (d : Event) (es : List RunEvent) →
      named program e ≡ Some d →
      is_next front d ≡ true →
      Reads (front ++ d ∷ []) es →
      Reads front (e ∷ es)
  read_more front e d es is comes rest = (
    ap (λ o. continues front (cons_option o (lines es))) is ∙
        and_from (is_next front d) (continues (front ++ d ∷ []) (lines es)) comes rest.0,
    ap (λ o. o ∷ map (named program) es) is ∙ ap (λ l. Some d ∷ l) rest.1 ∙
        sym (ap (λ o. map Some (cons_option o (lines es))) is),
  )

  module _ (ts : List ℕ) (rest : (σ : List ValueType) (s : State) (front : List Event) → Reaches σ s front →
      Reads front (history_of (trace sd s ts))) where
    walk_by : (s : State) (front : List Event) (o : Option RunEvent) →
        Adds front s o →
        Reads front (cons_option o (history_of (trace sd s ts)))
    walk_by s front None h = rest h.0 s front h.1
    walk_by s front (Some e) h = read_more front e h.0 (history_of (trace sd s ts)) h.1 h.2
        (rest h.3 s (front ++ h.0 ∷ []) h.4)

    walk_on : (σ : List ValueType) (s : State) (front : List Event) →
        Reaches σ s front →
        (x : Stepped State (Entry Value)) →
        AddsBy front x →
        Reads front (history_of (traced x (trace sd (after s x) ts)))
    walk_on σ s front r Same h = rest σ s front r
    walk_on σ s front r (Moved s') h = absurd h
    walk_on σ s front r (Acted s' e) h = walk_by s' front (event_of e.thread e.action) h

  walk : (ts : List ℕ) (σ : List ValueType) (s : State) (front : List Event) →
      Reaches σ s front →
      Reads front (history_of (trace sd s ts))
  walk [] σ s front r = (refl, refl)
  walk (t ∷ ts) σ s front r = walk_on ts (walk ts) σ s front r (sd s t) (one_step σ s front r t)

  no_event : (t : ℕ) (cs : List ProgramCall) → (noted_calls file program t 1 None cs []).last ≡ None
  no_event t [] = refl
  no_event t (c ∷ cs) = refl

  begins : Reaches [] (start program) []
  begins = record {
    holds = record { typed = tt; names = names_typed program.names };
    count = length-map program.threads (λ t. []);
    known = λ t. subst (λ q. Known file program [] t q) (sym (no_answers program.threads t)) tt;
    last = λ t th is. sym (ap (option_and_then (named program))
        (ap (λ q. (noted file program t q).last) (no_answers program.threads t) ∙
        no_event t (calls_in (slice_get program.threads t))));
  }

  -- each source run is readable
  pub readable : (ts : List ℕ) → IsReadable program (source_history file program ts)
  readable ts =
      let h = walk ts [] (start program) [] begins in
      record {
        events = lines (source_history file program ts);
        is_named = h.1;
        says = record { history = h.0; lines = text_is program (source_history file program ts) };
      }
