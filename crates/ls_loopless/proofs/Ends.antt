-- A program without loops ends: each action takes an answer, and no thread takes more than a bound.
use Rattle.std.proofs.Common.{◌≡◌, ℕ, zero, suc, ◌+◌, ◌<◌, ◌≤◌, Bool, true, false, cond, List, [], ◌∷◌, ◌++◌, map}
use Rattle.std.proofs.Common.{length, refl, sym, ap, ◌∙◌, subst, arith, append_assoc, inl, inr, ◌⊎◌, ◌≢◌}
use Rattle.std.proofs.Common.{slice_set, length-set, get_or-set_same, get_or-set_other, length-append}
use Rattle.std.specs.Prelude.{slice_index_or}
use Rattle.std.proofs.lemmas.Bool.{cases_eq}
use Rattle.std.proofs.lemmas.List.{length-map}
use Rattle.ls_events.specs.declared.action.Action.{Action}
use Rattle.ls_events.specs.declared.action.Answer.{Answer}
use Rattle.ls_events.specs.declared.event.Event.{Event}
use Rattle.ls_events.specs.declared.value.Value.{Value}
use Rattle.ls_checked.specs.CheckedTree.{File}
use Rattle.ls_checked.specs.CheckedProgram.{Program, ThreadProgram}
use Rattle.ls_meaning.specs.declared.sort.Sort.{Sort}
use Rattle.ls_meaning.specs.Course.{Answers}
use Rattle.ls_meaning.specs.Effect.{Effect, Waits, Does, effect}
use Rattle.ls_meaning.specs.Still.{IsActing}
use Rattle.ls_meaning.specs.Store.{Store}
use Rattle.ls_meaning.specs.Threads.{Next, Goes, Ended, Trapped, next}
use Rattle.ls_meaning.specs.Runs.{State, Step, answers_of, has_started, idle, performed, source_history, source_run}
use Rattle.ls_meaning.specs.Runs.{start, step, step_of}
use Rattle.ls_spinning.specs.Turning.{NeverTurns, TurnsForEver}
use Rattle.ls_search_laws.specs.Stepping.{events_of}
use Rattle.ls_search_laws.proofs.Covering.{IsKept, holds_of_all}
use Rattle.ls_search_laws.proofs.Stepping.{acts_within, one_more}
use Rattle.ls_loopless.specs.Loops.{LooplessNeverTurn, LooplessTurnExcused, HasNoLoops}
use Rattle.ls_loopless.proofs.Bodies.{LeavesNext, next_bound}

-- ---- how many answers all threads have had

abbrev total : List Answers → ℕ
total [] = 0
total (q ∷ qs) = length q + total qs

-- so many times n
abbrev limit : ℕ → ℕ → ℕ
limit n zero = 0
limit n (suc k) = n + limit n k

-- one more answer of a thread
total_set : (qs : List Answers) (t : ℕ) (x : Answer Value) → t < length qs →
    total (slice_set qs t (slice_index_or qs t [] ++ x ∷ [])) ≡ suc (total qs)
total_set [] t x lt = absurd (omega arith)
total_set (q ∷ qs) zero x lt =
    let e : length (q ++ x ∷ []) ≡ length q + 1 = length-append q (x ∷ []) in
    omega (arith, e)
total_set (q ∷ qs) (suc t) x lt =
    let less : t < length qs = omega arith in
    let e = total_set qs t x less in
    omega (arith, e)

-- where no thread has had more than n answers, all have had no more than so many times n
total_below : (n : ℕ) (qs : List Answers) → ((t : ℕ) → length (slice_index_or qs t []) ≤ n) →
    total qs ≤ limit n (length qs)
total_below n [] h = omega arith
total_below n (q ∷ qs) h =
    let first : length q ≤ n = h 0 in
    let others : total qs ≤ limit n (length qs) = total_below n qs (λ t. h (suc t)) in
    omega arith

-- ---- a thread that acts

record Acts (s : State) (t : ℕ) (p : Step) (n : Next) : Type 0 where
  action : Action Value
  sort : Sort
  store : Store
  answer : Answer Value
  asks : n ≡ Goes action sort
  is : p.after ≡ record { store = store; answers = slice_set s.answers t (answers_of s t ++ answer ∷ []) }

by_effect : (s : State) (t : ℕ) (a : Action Value) (sort : Sort) (e : Effect) → IsActing (performed s t a e).did →
    Acts s t (performed s t a e) (Goes a sort)
by_effect s t a sort Waits acts = absurd acts
by_effect s t a sort (Does store x) acts = record {
  action = a;
  sort = sort;
  store = store;
  answer = x;
  asks = refl;
  is = refl;
}

module _ (file : File) (program : Program) (none : HasNoLoops file) where
  by_next : (s : State) (t : ℕ) (n : Next) → IsActing (step_of file s t n).did → Acts s t (step_of file s t n) n
  by_next s t (Goes a sort) acts = by_effect s t a sort (effect file.classes s.store t a) acts
  by_next s t Ended acts = absurd acts
  by_next s t Trapped acts = absurd acts

  by_started : (s : State) (t : ℕ) (b : Bool) →
      IsActing (cond b (step_of file s t (next file program t (answers_of s t))) (idle s)).did →
      Acts s t (cond b (step_of file s t (next file program t (answers_of s t))) (idle s))
      (next file program t (answers_of s t))
  by_started s t true acts = by_next s t (next file program t (answers_of s t)) acts
  by_started s t false acts = absurd acts

  acts_so : (s : State) (t : ℕ) → IsActing (step file program s t).did →
      Acts s t (step file program s t) (next file program t (answers_of s t))
  acts_so s t acts = by_started s t (has_started file program s t) acts

  abbrev most : ℕ
  most = (next_bound file none program).0

  -- it has had fewer answers than the bound
  fewer : (s : State) (t : ℕ) → IsActing (step file program s t).did → length (answers_of s t) < most
  fewer s t acts = subst (LeavesNext file none most (length (answers_of s t))) (acts_so s t acts).asks
      ((next_bound file none program).1 t (answers_of s t))

  -- ---- each state that is reached

  record Holds (s : State) (h : List Event) : Type 0 where
    count : length s.answers ≡ length program.threads
    below : (t : ℕ) → length (answers_of s t) ≤ most

  none_yet : (xs : List ThreadProgram) (k : ℕ) → slice_index_or {A = Answers} (map (λ t. []) xs) k [] ≡ []
  none_yet [] k = refl
  none_yet (x ∷ xs) zero = refl
  none_yet (x ∷ xs) (suc k) = none_yet xs k

  at_first : Holds (start program) []
  at_first = record {
    count = length-map program.threads (λ t. []);
    below = λ t. subst (λ (q : Answers). length q ≤ most) (sym (none_yet program.threads t)) (omega arith);
  }

  kept : IsKept file program Holds
  kept s h t x acts =
      let a = acts_so s t acts in
      subst (λ z. Holds z (h ++ events_of t (step file program s t).did)) (sym a.is) (record {
        count = length-set s.answers t (answers_of s t ++ a.answer ∷ []) ∙ x.count;
        below = λ u. by_number a.answer u (cases_eq u t);
      })
    where
      by_number : (y : Answer Value) (u : ℕ) → (u ≡ t) ⊎ (u ≢ t) →
          length (slice_index_or (slice_set s.answers t (answers_of s t ++ y ∷ [])) u []) ≤ most
      by_number y u (inl e) =
          let lt : t < length s.answers = subst (λ c. t < c) (sym x.count) (acts_within file program s t acts) in
          let few = fewer s t acts in
          let long : length (answers_of s t ++ y ∷ []) ≡ length (answers_of s t) + 1 =
          length-append (answers_of s t) (y ∷ []) in
          let fits : length (answers_of s t ++ y ∷ []) ≤ most = omega (arith, long) in
          subst (λ q. length q ≤ most)
          (sym (ap (λ v. slice_index_or (slice_set s.answers t (answers_of s t ++ y ∷ [])) v []) e
          ∙ get_or-set_same s.answers t (answers_of s t ++ y ∷ []) [] lt)) fits
      by_number y u (inr ne) = subst (λ q. length q ≤ most)
          (sym (get_or-set_other s.answers t u (answers_of s t ++ y ∷ []) [] ne)) (x.below u)

  reached : (schedule : List ℕ) → Holds (source_run file program schedule) (source_history file program schedule)
  reached = holds_of_all file program Holds kept at_first

  -- ---- the end

  abbrev had : List ℕ → ℕ
  had schedule = total (source_run file program schedule).answers

  one_step : (schedule : List ℕ) (t : ℕ) → IsActing (step file program (source_run file program schedule) t).did →
      had (schedule ++ t ∷ []) ≡ suc (had schedule)
  one_step schedule t acts =
      let s = source_run file program schedule in
      let a = acts_so s t acts in
      let lt : t < length s.answers = subst (λ c. t < c) (sym (reached schedule).count)
      (acts_within file program s t acts) in
      ap (λ (z : State). total z.answers) ((one_more file program schedule t).state ∙ a.is)
      ∙ total_set s.answers t a.answer lt

  module _ (schedule : List ℕ) (turns : TurnsForEver file program schedule) where
    -- so many answers more
    record Longer (k : ℕ) : Type 0 where
      more : List ℕ
      long : k ≤ had (schedule ++ more)

    next_one : (k : ℕ) → Longer k → Longer (suc k)
    next_one k x =
        let a = turns.acts x.more in
        let e = one_step (schedule ++ x.more) a.0 a.1 in
        let l = x.long in
        let grown : suc k ≤ had ((schedule ++ x.more) ++ a.0 ∷ []) = omega (arith, e) in
        record {
          more = x.more ++ a.0 ∷ [];
          long = subst (λ z. suc k ≤ had z) (append_assoc schedule x.more (a.0 ∷ [])) grown;
        }

    longer : (k : ℕ) → Longer k
    longer zero = record { more = []; long = omega arith }
    longer (suc k) = next_one k (longer k)

    too_many : Longer (suc (limit most (length program.threads))) → ⊥
    too_many x =
        let s = source_run file program (schedule ++ x.more) in
        let r = reached (schedule ++ x.more) in
        let few : total s.answers ≤ limit most (length s.answers) = total_below most s.answers r.below in
        let same : limit most (length s.answers) ≡ limit most (length program.threads) = ap (limit most) r.count in
        let l = x.long in
        absurd (omega (arith, same))

  -- no threads turn for ever
  pub never : NeverTurns file program
  never schedule turns = too_many schedule turns (longer schedule turns (suc (limit most (length program.threads))))

-- no threads turn for ever
pub never_turn : LooplessNeverTurn
never_turn file program none = never file program none

-- so each that turns is excused
pub none_turns : LooplessTurnExcused
none_turns sfile sprogram file program none schedule c turns pending =
    absurd (never file program none schedule turns)
