-- The main theorem.
use Rattle.std.proofs.Common.{◌≤◌, ◌≡◌, ℕ, zero, suc, ◌+◌, List, [], ◌∷◌, length, map, replicate, Option, Some, None}
use Rattle.std.proofs.Common.{refl, sym, ap, ◌∙◌, subst, arith, append-nil, slice_get}
use Rattle.std.proofs.lemmas.List.{length-replicate, length-map}
use Rattle.ls_events.specs.declared.value.Value.{Value}
use Rattle.ls_events.specs.declared.value.Value.TheVariants.{Reference}
use Rattle.ls_events.specs.declared.value.ValueType.{ValueType}
use Rattle.ls_events.specs.declared.value.ValueType.TheVariants as type
use Rattle.ls_checked.specs.CheckedTree.{File}
use Rattle.ls_checked.specs.CheckedProgram.{Program, SetupName, ThreadProgram}
use Rattle.ls_meaning.specs.Course.{Answers}
use Rattle.ls_meaning.specs.Steps.{Stepped, run, trace}
use Rattle.ls_meaning.specs.Steps as source
use Rattle.ls_meaning.specs.Runs.{State, start, source_step}
use Rattle.ls_code.specs.Code.{Code, Start}
use Rattle.ls_code.specs.Thread.{Thread}
use Rattle.ls_code.specs.Machine.{Machine, Entry, started, loaded, machine_trace}
use Rattle.ls_preservation.specs.InWords.{written, in_words, births, numbered, ArePlaces, Agree}
use Rattle.ls_preservation.specs.Threads.{Asks, calls_of}
use Rattle.ls_preservation.proofs.Setting.{Setting, setting_of}
use Rattle.ls_preservation.proofs.Meaning.{Means}
use Rattle.ls_preservation.specs.Translations.{to_source, has_setup_ended, to_machine}
use Rattle.ls_preservation.specs.Same.{total, Fits, IsCells, Alike, Same}
use Rattle.ls_preservation.proofs.Runs.{md, trace_is}
use Rattle.ls_preservation.proofs.LiftBack
use Rattle.ls_preservation.proofs.LiftForth
use Rattle.ls_preservation.proofs.Cells.{sizes_of, AgreeTo}
use Rattle.ls_preservation.proofs.Effects.{HaveTypes, renaming}
use Rattle.ls_preservation.proofs.Following
use Rattle.ls_preservation.proofs.StepBack
use Rattle.ls_preservation.proofs.Middle.{Here}
use Rattle.ls_preservation.proofs.Between
use Rattle.ls_preservation.proofs.StepForth
use Rattle.ls_preservation.proofs.Histories.{events_in, history_is, AllSay, events_back}
use Rattle.ls_preservation.proofs.Births.{addresses, numbered_agrees, grows_refl, grows_trans, grows_step, births_right}
use Rattle.ls_preservation.proofs.Births.{addresses_differ}

-- names at the start
names_typed : (ns : List SetupName) → HaveTypes [] (map (λ n. Reference 0) ns) (map (λ x. type.Class x.class) ns)
names_typed [] = tt
names_typed (n ∷ ns) = (tt, names_typed ns)

names_zero : (ρ : ℕ → ℕ) →
    ρ 0 ≡ 0 →
    (ns : List SetupName) →
    replicate (length ns) 0 ≡ map (written ρ) (map (λ n. Reference 0) ns)
names_zero ρ z [] = refl
names_zero ρ z (n ∷ ns) = ap (λ w. w ∷ replicate (length ns) 0) (sym z) ∙ ap (λ l. ρ 0 ∷ l) (names_zero ρ z ns)

-- as many threads
same_length : (xs : List Start) (ys : List ThreadProgram) →
    ((t : ℕ) → calls_of (slice_get xs t) (slice_get ys t)) →
    length xs ≡ length ys
same_length [] [] h = refl
same_length [] (y ∷ ys) h = absurd (h 0)
same_length (x ∷ xs) [] h = absurd (h 0)
same_length (x ∷ xs) (y ∷ ys) h = ap suc (same_length xs ys (λ t. h (suc t)))

module _ (file : File) (program : Program) (code : Code) (asks : Asks file program code) (sound : Means file program)
    (room : ℕ) (within : IsCells code room) where
  abbrev setting : Setting
  setting = setting_of file program code asks sound room within

  open Following.notions setting use {names, bound, Follows, Live, Later, write}

  abbrev sd : State → ℕ → Stepped State (source.Entry Value)
  sd = source_step file program

  abbrev s0 : State
  s0 = start program

  abbrev m0 : Machine
  m0 = loaded code room

  abbrev Has : ℕ → Option Answers → Option Thread → Type 0
  Has t o p = Between.Each setting [] (renaming names s0.store) t o p

  each_start : (xs : List Start) (ys : List ThreadProgram) (k t : ℕ) →
      ((u : ℕ) → calls_of (slice_get xs u) (slice_get ys u)) →
      ((u : ℕ) (x : Start) → slice_get xs u ≡ Some x → slice_get code.starts (k + u) ≡ Some x) →
      Has (k + t) (slice_get (map (λ y. []) ys) t) (slice_get (map started xs) t)
  each_start [] [] k t c h = tt
  each_start [] (y ∷ ys) k t c h = absurd (c 0)
  each_start (x ∷ xs) [] k t c h = absurd (c 0)
  each_start (x ∷ xs) (y ∷ ys) k zero c h = (x, h 0 x refl, tt, refl)
  each_start (x ∷ xs) (y ∷ ys) k (suc t) c h =
      let e : suc k + t ≡ k + suc t = omega arith in
      subst (λ n. Has n (slice_get (map (λ y. []) ys) t) (slice_get (map started xs) t)) e
      (each_start xs ys (suc k) t (λ u. c (suc u)) (λ u z g. let e' : k + suc u ≡ suc k + u = omega arith in
      subst (λ n. slice_get code.starts n ≡ Some z) e' (h (suc u) z g)))

  -- the start
  count : names ≡ length program.names
  count = length-map program.names (λ x. type.Class x.class)

  steady_start : Between.Follows setting s0 m0
  steady_start = record {
    sorts = [];
    same_code = refl;
    holds = record {
      words = ap (λ n. replicate n 0) asks.names ∙ names_zero (renaming names s0.store) refl program.names ∙
          sym (append-nil (map (written (renaming names s0.store)) s0.store.names));
      limit = refl;
      count = asks.names ∙ sym count;
      table = refl;
      within = omega (arith, length-replicate {A = ℕ} code.names 0, within.names);
      typed = tt;
      names = names_typed program.names;
    };
    count = length-map program.threads (λ y. []);
    each = λ t. let e : 0 + t ≡ t = omega arith in subst (λ n.
        Has n (slice_get (map (λ y. []) program.threads) t) (slice_get (map started code.starts) t)) e
        (each_start code.starts program.threads 0 t asks.threads
        (λ u x g. let e' : u ≡ 0 + u = omega arith in subst (λ n. slice_get code.starts n ≡ Some x) e' g));
  }

  back_each : (σ : List ValueType) (t : ℕ) (o : Option Answers) (p : Option Thread) →
      Between.Each setting σ (renaming names s0.store) t o p →
      Following.Each setting m0.cells σ (renaming names s0.store) t o p
  back_each σ t None None h = tt
  back_each σ t None (Some x) h = absurd h
  back_each σ t (Some had) None h = absurd h
  back_each σ t (Some had) (Some x) h = (h.0, h.1, h.2, x, h.3, Here refl)

  -- the machine at its start follows the source at its start
  pub follows_start : Follows s0 m0
  follows_start = record {
    sorts = steady_start.sorts;
    same_code = refl;
    holds = steady_start.holds;
    count = steady_start.count;
    each = λ t. back_each steady_start.sorts t (slice_get s0.answers t) (slice_get m0.threads t) (steady_start.each t);
  }

  stable : (s s' : State) (e : source.Entry Value) → Live s e → Later s s' → write s e ≡ write s' e
  stable s s' e l g = l.0 (renaming names s'.store) g.places

  lives : (s s' : State) (e : source.Entry Value) → Live s e → Later s s' → Live s' e
  lives s s' e l g = (
    (λ ρ a. sym (stable s s' e l g) ∙ l.0 ρ (λ n h. g.places n h ∙ a n (omega (arith, g.things)))),
    l.1,
  )

  -- what one step of the machine owes holds
  pub back_laws : LiftBack.Laws State Machine (source.Entry Value) Entry sd md (λ f. f.thread) write Follows Later Live
  back_laws = record {
    grows_refl = λ s. grows_refl file program names s.store;
    grows_trans = λ a b c g h. grows_trans file program names a.store b.store c.store g h;
    stable = stable;
    lives = lives;
    step = λ s m t h. StepBack.step_back setting s m t h;
  }

  abbrev InStep : State → Machine → Type 0
  InStep = StepForth.InStep setting

  abbrev FitsNow : State → Type 0
  FitsNow = StepForth.Fits setting

  forth_laws : LiftForth.Laws file program bound write InStep Later Live FitsNow
  forth_laws = record {
    grows_refl = λ s. grows_refl file program names s.store;
    grows_trans = λ a b c g h. grows_trans file program names a.store b.store c.store g h;
    stable = stable;
    lives = lives;
    shrinks = λ s t f. omega (arith, (grows_step file program names s t).cells);
    step = λ s m t h. StepForth.step_forth setting s m t h;
  }

  abbrev Alive : State → List (source.Entry Value) → Type 0
  Alive = LiftBack.Alive State Machine (source.Entry Value) Entry sd md (λ f. f.thread) write Follows Later Live

  -- the same trace, written with the births
  rewritten : (last : State) (ρ : ℕ → ℕ) (es : List (source.Entry Value)) →
      AgreeTo (length last.store.things) (renaming names last.store) ρ →
      Alive last es →
      map (write last) es ≡ map (in_words ρ) es
  rewritten last ρ [] a h = refl
  rewritten last ρ (e ∷ es) a h = ap (λ f. f ∷ map (write last) es) (h.0.0 ρ a) ∙
      ap (λ l. in_words ρ e ∷ l) (rewritten last ρ es a h.1)

  all_say : (last : State) (es : List (source.Entry Value)) →
      Alive last es →
      AllSay program code asks.threads (renaming names last.store) es
  all_say last [] h = tt
  all_say last (e ∷ es) h = (h.0.1, all_say last es h.1)

  born_at : (ts : List ℕ) (fs : List Entry) →
      fs ≡ map (write (run sd s0 ts)) (trace sd s0 ts) →
      addresses names (sizes_of (run sd s0 ts).store.things) ≡ births fs
  born_at ts fs e = births_right file program names ts s0 (run sd s0 ts).store
      (grows_refl file program names (run sd s0 ts).store) ∙ ap births (sym e)

  agrees : (ts : List ℕ) (fs : List Entry) →
      fs ≡ map (write (run sd s0 ts)) (trace sd s0 ts) →
      Alive (run sd s0 ts) (trace sd s0 ts) →
      Agree fs (trace sd s0 ts)
  agrees ts fs e alive =
      let last = run sd s0 ts in
      let all : addresses names (sizes_of last.store.things) ≡ births fs = born_at ts fs e in
      let agree : AgreeTo (length last.store.things) (renaming names last.store) (numbered (births fs)) = subst
      (λ l. AgreeTo (length last.store.things) (renaming names last.store) (numbered l)) all
      (numbered_agrees names last.store.things) in
      e ∙ rewritten last (numbered (births fs)) (trace sd s0 ts) agree alive

  -- both have the same outcome
  alike : (rs ts : List ℕ) (fs : List Entry) →
      names + total (run sd s0 ts).store.things ≤ room →
      machine_trace m0 rs ≡ fs →
      fs ≡ map (write (run sd s0 ts)) (trace sd s0 ts) →
      Alive (run sd s0 ts) (trace sd s0 ts) →
      Alike file program code room rs ts
  alike rs ts fs fits is e alive =
      record {
        traces = subst (λ l. Agree l (trace sd s0 ts)) (sym is) (agrees ts fs e alive);
        places = subst (λ l. ArePlaces (length l) (numbered l)) (born_at ts fs e ∙ ap births (sym is))
            (addresses_differ names (run sd s0 ts).store.things (omega (arith, within.most)));
        histories =
            history_is code rs m0 refl ∙ ap (events_in code) (is ∙ e)
            ∙ events_back program code asks.threads (renaming names (run sd s0 ts).store) (trace sd s0 ts)
            (all_say (run sd s0 ts) (trace sd s0 ts) alive);
      }

  pub source_right : (ts : List ℕ) → Alike file program code room ts (to_source code room ts)
  source_right ts =
      let r = LiftBack.to_source_right State Machine (source.Entry Value) Entry sd md (λ f. f.thread) write Follows
      Later Live back_laws ts s0 m0 follows_start in
      let e = trace_is ts m0 in
      subst (λ fs. Alike file program code room ts (map (λ f. f.thread) fs)) e
      (alike ts (map (λ f. f.thread) (trace md m0 ts)) (trace md m0 ts)
      (Following.used_length setting r.0.sorts (run sd s0 (map (λ f. f.thread) (trace md m0 ts))).store
      (run md m0 ts).cells r.0.holds) (sym e) r.1 r.3)

  same_alive : (s : State) (es : List (source.Entry Value)) →
      LiftForth.Alive file program bound write InStep Later Live FitsNow s es →
      Alive s es
  same_alive s [] h = tt
  same_alive s (e ∷ es) h = (h.0, same_alive s es h.1)

  pub machine_right : (ts : List ℕ) →
      Fits file program room ts →
      Alike file program code room (to_machine file program code room ts) ts
  machine_right ts fits =
      let made = StepForth.setup_made setting s0 m0 steady_start refl (has_setup_ended file program s0) refl in
      let fits' : FitsNow (run sd s0 ts) = omega (arith, count) in
      let r = LiftForth.to_machine_right file program bound write InStep Later Live FitsNow forth_laws ts s0 m0 made.0
      made.1 fits' in
      alike (to_machine file program code room ts) ts _ fits' refl r.0 (same_alive (run sd s0 ts) (trace sd s0 ts) r.1)

-- the theorem: code that asks what its source asks is the same as its source
pub same_right : (file : File) (program : Program) (code : Code) →
    Asks file program code →
    Means file program →
    Same file program code
same_right file program code asks sound = record {
  threads = same_length code.starts program.threads asks.threads;
  names = asks.names;
  back = λ cells within ts. source_right file program code asks sound cells within ts;
  forth = λ cells within ts fits. machine_right file program code asks sound cells within ts fits;
}
