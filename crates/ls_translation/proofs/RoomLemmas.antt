-- The cells that a schedule of the source takes, step by step.
use Rattle.std.proofs.Common.{◌≡◌, ℕ, ◌+◌, ◌<◌, ◌≤◌, Bool, true, false, List, [], ◌∷◌, ◌++◌, length, take, get_or}
use Rattle.std.proofs.Common.{Option, Some, None, slice_get, refl, sym, ap, ◌∙◌, subst, arith}
use Rattle.std.specs.Prelude.{if◌then◌else◌, IfNone, IfSome}
use Rattle.std.proofs.lemmas.List.{length-map, take_all}
use Rattle.ls_events.specs.declared.value.Value.{Value}
use Rattle.ls_events.specs.declared.action.Action.{Action}
use Rattle.ls_events.specs.declared.action.Action.TheVariants.{New, NewLock, NewMarkable, NewArray}
use Rattle.ls_checked.specs.CheckedTree.{Class, File}
use Rattle.ls_checked.specs.CheckedProgram.{Program}
use Rattle.ls_meaning.specs.Values.{start_of}
use Rattle.ls_meaning.specs.Store.{Free, Thing, Object, LockOf, Markable, Array}
use Rattle.ls_meaning.specs.Effect.{Effect, Waits, Does, effect, fields_in, size_of as array_size}
use Rattle.ls_meaning.specs.Threads.{Next, Goes, Ended, Trapped, next}
use Rattle.ls_meaning.specs.Runs.{State, Step, source_run, step, step_of, performed, idle, has_started, answers_of}
use Rattle.ls_source.specs.Progress.{Progress, begun, gone_on}
use Rattle.ls_preservation.specs.Threads.{object_cells}
use Rattle.ls_preservation.specs.Sorts.{fields_by}
use Rattle.ls_preservation.specs.Same.{size_of, total, Fits}
use Rattle.ls_preservation.proofs.Cells.{sizes_of}
use Rattle.ls_preservation.proofs.Total.{Keeps, keeps}
use Rattle.ls_meaning.specs.declared.step.Did.{Did}
use Rattle.ls_translation.specs.Room.{IsFirstUnfit, cells_by, cells_made}
use Rattle.ls_translation.proofs.SourceSteps.{run_more}

total-append : (os : List Thing) (o : Thing) → total (os ++ o ∷ []) ≡ total os + size_of o
total-append [] o = omega arith
total-append (x ∷ os) o = omega (arith, total-append os o)

abbrev added : List ℕ → ℕ
added [] = 0
added (n ∷ ns) = n + added ns

total_is : (os : List Thing) → total os ≡ added (sizes_of os)
total_is [] = refl
total_is (o ∷ os) = ap (λ n. size_of o + n) (total_is os)

-- the cells after an action are those before it, and those of what it makes
abbrev Adds : List Class → State → Step → Type 0
Adds classes s done = total done.after.store.things ≡ total s.store.things + cells_by classes done.did

one_more : (classes : List Class) (s : State) (a : Action Value) (o : Thing) →
    size_of o ≡ cells_made classes a →
    total (s.store.things ++ o ∷ []) ≡ total s.store.things + cells_made classes a
one_more classes s a o e = total-append s.store.things o ∙ ap (λ n. total s.store.things + n) e

nothing_made : (classes : List Class) (s : State) (t : ℕ) (a : Action Value) (e : Effect) →
    cells_made classes a ≡ 0 →
    Keeps s.store e →
    Adds classes s (performed s t a e)
nothing_made classes s t a Waits none kept = omega arith
nothing_made classes s t a (Does store answer) none kept =
    let same : total store.things ≡ total s.store.things = total_is store.things ∙ ap added kept ∙
    sym (total_is s.store.things) in
    omega (arith, same, none)

as_many_fields : (c : Option Class) → length (fields_in c) ≡ length (fields_by c)
as_many_fields None = refl
as_many_fields (Some c) = length-map c.fields start_of

performed_adds : (classes : List Class) (s : State) (t : ℕ) (a : Action Value) →
    Adds classes s (performed s t a (effect classes s.store t a))
performed_adds classes s t (New c) = one_more classes s (New c) (Object Free (fields_in (slice_get classes c)))
    (ap object_cells (as_many_fields (slice_get classes c)))
performed_adds classes s t NewLock = one_more classes s NewLock (LockOf Free) refl
performed_adds classes s t (NewMarkable v) = one_more classes s (NewMarkable v) (Markable v) refl
performed_adds classes s t (NewArray n) = one_more classes s (NewArray n) (Array (array_size n) _) refl
performed_adds classes s t a = nothing_made classes s t a (effect classes s.store t a) refl (keeps s.store classes t a)

idle_adds : (classes : List Class) (s : State) → Adds classes s (idle s)
idle_adds classes s = omega arith

next_adds : (file : File) (s : State) (t : ℕ) (n : Next) → Adds file.classes s (step_of file s t n)
next_adds file s t (Goes action sort) = performed_adds file.classes s t action
next_adds file s t Ended = idle_adds file.classes s
next_adds file s t Trapped = idle_adds file.classes s

if_adds : (classes : List Class) (s : State) (b : Bool) (done : Step) →
    Adds classes s done →
    Adds classes s (if b then done else idle s)
if_adds classes s true done h = h
if_adds classes s false done h = idle_adds classes s

pub step_adds : (file : File) (program : Program) (s : State) (t : ℕ) →
    total (step file program s t).after.store.things ≡ total s.store.things + cells_by file.classes
    (step file program s t).did
step_adds file program s t =
    if_adds file.classes s (has_started file program s t) (step_of file s t (next file program t (answers_of s t)))
    (next_adds file s t (next file program t (answers_of s t)))

-- a run that has taken these steps, what they make having room, and the cells that are free after them
pub record HasRoom (file : File) (program : Program) (cells : ℕ) (steps : List ℕ) (r : Progress) (free : ℕ) : Type 0
  where
    pub of_file : r.file ≡ file
    pub of_program : r.program ≡ program
    pub reached : r.state ≡ source_run file program steps
    pub room : length program.names + total (source_run file program steps).store.things + free ≡ cells

pub room_begun : (file : File) (program : Program) (cells : ℕ) (r : Progress) (free : ℕ) →
    r ≡ begun file program →
    length program.names + free ≡ cells →
    HasRoom file program cells [] r free
room_begun file program cells r free is h = record {
  of_file = ap (λ (p : Progress). p.file) is;
  of_program = ap (λ (p : Progress). p.program) is;
  reached = ap (λ (p : Progress). p.state) is;
  room = omega arith;
}

module _ (file : File) (program : Program) (cells : ℕ) (ts : List ℕ) (i d : ℕ) (r : Progress) (free : ℕ)
    (within : i < length ts) (h : HasRoom file program cells (take i ts) r free) where
  abbrev before : State
  before = source_run file program (take i ts)

  abbrev done : Step
  done = step file program before (get_or ts i d)

  abbrev done_in : Progress → Step
  done_in p = step p.file p.program p.state (get_or ts i d)

  done_is : done_in r ≡ done
  done_is =
      ap (λ f. step f r.program r.state (get_or ts i d)) h.of_file
      ∙ ap (λ p. step file p r.state (get_or ts i d)) h.of_program
      ∙ ap (λ s. step file program s (get_or ts i d)) h.reached

  more : source_run file program (take (i + 1) ts) ≡ done.after
  more = run_more file program ts i d within

  grown : total (source_run file program (take (i + 1) ts)).store.things ≡ total before.store.things + cells_by
      file.classes done.did
  grown = ap (λ (s : State). total s.store.things) more ∙ step_adds file program before (get_or ts i d)

  made_is : cells_by file.classes (done_in r).did ≡ cells_by file.classes done.did
  made_is = ap (λ (s : Step). cells_by file.classes s.did) done_is

  by_classes : (classes : List Class) →
      classes ≡ file.classes →
      cells_by classes (done_in r).did ≡ cells_by file.classes done.did
  by_classes classes e = ap (λ cs. cells_by cs (done_in r).did) e ∙ made_is

  pub room_more : (classes : List Class) (r' : Progress) (did : Did) (found : Option ℕ) (left : ℕ) →
      classes ≡ file.classes →
      r' ≡ gone_on r (get_or ts i d) →
      did ≡ (step r.file r.program r.state (get_or ts i d)).did →
      found ≡ Some left →
      IfSome found (λ n. n + cells_by classes did ≡ free) →
      HasRoom file program cells (take (i + 1) ts) r' left
  room_more classes r' did found left e on done_it is some =
      let fits : left + cells_by classes (done_in r).did ≡ free =
      subst (λ x. left + cells_by classes x ≡ free) done_it (subst
      (λ o. IfSome o (λ n. n + cells_by classes did ≡ free)) is some) in
      record {
        of_file = ap (λ (p : Progress). p.file) on ∙ h.of_file;
        of_program = ap (λ (p : Progress). p.program) on ∙ h.of_program;
        reached = ap (λ (p : Progress). p.state) on ∙ ap (λ (s : Step). s.after) done_is ∙ sym more;
        room = omega (arith, h.room, grown, by_classes classes e, fits);
      }

  pub no_room : (classes : List Class) (did : Did) (found : Option ℕ) (whole : List ℕ) →
      classes ≡ file.classes →
      did ≡ (step r.file r.program r.state (get_or ts i d)).did →
      found ≡ None →
      IfNone found (free < cells_by classes did) →
      ts ≡ whole →
      IsFirstUnfit file program cells whole i
  no_room classes did found whole e done_it is none same =
      let over : free < cells_by classes (done_in r).did =
      subst (λ x. free < cells_by classes x) done_it (subst (λ o. IfNone o (free < cells_by classes did)) is none) in
      subst (λ l. IsFirstUnfit file program cells l i) same record {
        there = within;
        before = omega (arith, h.room);
        over = λ fits. absurd (omega (arith, h.room, grown, by_classes classes e, over, fits));
      }

pub room_all : (file : File) (program : Program) (cells : ℕ) (ts : List ℕ) (n : ℕ) (r : Progress) (free : ℕ) →
    length ts ≤ n →
    HasRoom file program cells (take n ts) r free →
    Fits file program cells ts
room_all file program cells ts n r free past h =
    let all : length program.names + total (source_run file program ts).store.things + free ≡ cells =
    ap (λ l. length program.names + total (source_run file program l).store.things + free) (sym (take_all n ts past)) ∙
    h.room in
    omega (arith, all)
