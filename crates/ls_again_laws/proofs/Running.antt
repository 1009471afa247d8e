-- The runs of threads that begin their calls again, step by step beside those of the program with its calls written
-- many times.
use Rattle.std.proofs.Common.{◌≡◌, ◌≢◌, ◌⊎◌, inl, inr, ℕ, zero, suc, ◌+◌, ◌<◌, ◌≤◌, Bool, true, false, cond, List, []}
use Rattle.std.proofs.Common.{◌∷◌, ◌++◌, length, map, Option, Some, None, refl, sym, ap, ◌∙◌, subst, arith}
use Rattle.std.proofs.Common.{append-nil, append_assoc, length-append}
use Rattle.std.specs.Prelude.{nat_eq, option_map, slice_get, slice_index_or}
use Rattle.std.proofs.lemmas.Bool.Decides.{nat_tests}
use Rattle.std.proofs.lemmas.Option.{slice_get-map}
use Rattle.ls_events.specs.declared.value.Value.{Value}
use Rattle.ls_events.specs.declared.action.Action.{Action}
use Rattle.ls_events.specs.declared.action.Action.TheVariants as act
use Rattle.ls_events.specs.declared.action.Answer.{Answer}
use Rattle.ls_checked.specs.CheckedTree.{Class, File}
use Rattle.ls_checked.specs.CheckedProgram.{Program, ProgramCall, ThreadProgram, Making, Calling}
use Rattle.ls_meaning.specs.Course.{Answers, Evaluated, Asks, Results, Throws}
use Rattle.ls_meaning.specs.Store.{Store}
use Rattle.ls_meaning.specs.Effect.{Effect, Waits, Does, effect}
use Rattle.ls_meaning.specs.Threads.{Next, Goes, Ended, Trapped, after_call, all_calls, calls_in, next, one_call}
use Rattle.ls_meaning.specs.Runs.{answers_of, has_ended, source_run, start}
use Rattle.ls_search_laws.specs.Configuration.{Configuration, Stride, idling, performing, stride}
use Rattle.ls_search_laws.specs.Configuration.{stride_of, with_answer}
use Rattle.ls_search_laws.proofs.Renamed.{step_stride}
use Rattle.ls_search_laws.proofs.Telling.{long_of_all}
use Rattle.ls_progress_laws.specs.Again.{again, for_ever}
use Rattle.ls_progress_laws.specs.Laws.{place_after}
use Rattle.ls_progress_laws.specs.Progress.{wait_free}
use Rattle.ls_progress_laws.specs.Strides.{end}
use Rattle.ls_progress_laws.proofs.Steps.{end_is}
use Rattle.ls_again_laws.specs.Written.{IsSameAction, IsSameDid, RoundsAreWritten, calls_of, place_again}
use Rattle.ls_again_laws.specs.Written.{program_written, thread_written, threads_written, written}
use Rattle.ls_again_laws.proofs.Rounds.{again_same, same_thread, written_none}
use Rattle.ls_again_laws.proofs.Spending.{IsSameNext, same_call, same_itself}

-- ---- numbers and answers

cases_nat : (u t : ℕ) → (u ≡ t) ⊎ (u ≢ t)
cases_nat u t = by_test (nat_eq u t) refl
  where
    by_test : (b : Bool) → nat_eq u t ≡ b → (u ≡ t) ⊎ (u ≢ t)
    by_test true e = inl (grind (arith, nat_tests))
    by_test false e = inr (grind (arith, nat_tests))

is_other : (u t : ℕ) → u ≢ t → nat_eq u t ≡ false
is_other u t other = grind (arith, nat_tests)

is_same : (u : ℕ) → nat_eq u u ≡ true
is_same u = grind (arith, nat_tests)

answered_own : (f : ℕ → Answers → Next) (t : ℕ) (x : Answer Value) (later : Answers) →
    with_answer f t x t later ≡ f t (x ∷ later)
answered_own f t x later = ap (λ b. cond b (f t (x ∷ later)) (f t later)) (is_same t)

answered_other : (f : ℕ → Answers → Next) (t u : ℕ) (x : Answer Value) (later : Answers) → u ≢ t →
    with_answer f t x u later ≡ f u later
answered_other f t u x later other = ap (λ b. cond b (f t (x ∷ later)) (f u later)) (is_other u t other)

abbrev none : ThreadProgram → Answers
none t = []

none_first : (threads : List ThreadProgram) (u : ℕ) → slice_index_or (map none threads) u [] ≡ []
none_first [] u = refl
none_first (t ∷ threads) zero = refl
none_first (t ∷ threads) (suc u) = none_first threads u

-- ---- the program's threads

module _ (k : ℕ) where
  written_in : (t : Option ThreadProgram) → calls_in (option_map (thread_written k) t) ≡ written k (calls_in t)
  written_in None = sym (written_none k)
  written_in (Some t) = refl

  calls_written : (threads : List ThreadProgram) (u : ℕ) → u ≢ 0 →
      calls_in (slice_get (threads_written k threads) u) ≡ written k (calls_in (slice_get threads u))
  calls_written [] u other = sym (written_none k)
  calls_written (setup ∷ threads) zero other = absurd (other refl)
  calls_written (setup ∷ threads) (suc u) other =
      ap calls_in (slice_get-map (thread_written k) threads u) ∙ written_in (slice_get threads u)

  setup_stays : (threads : List ThreadProgram) →
      calls_in (slice_get (threads_written k threads) 0) ≡ calls_in (slice_get threads 0)
  setup_stays [] = refl
  setup_stays (setup ∷ threads) = refl

module _ (file : File) (program : Program) (k : ℕ) where
  abbrev W : Program
  W = program_written k program

  after_same : (n : ℕ) (x : Evaluated (Option Value)) (go to : Answers → Next) → ((r : Answers) → go r ≡ to r) →
      after_call n x go ≡ after_call n x to
  after_same n (Asks a s) go to same = refl
  after_same n (Results v []) go to same = refl
  after_same n (Results v (z ∷ rest)) go to same = same rest
  after_same n (Throws kind []) go to same = refl
  after_same n (Throws kind (z ∷ rest)) go to same = refl

  calls_stay : (n : ℕ) (cs : List ProgramCall) (q : Answers) → all_calls file W n cs q ≡ all_calls file program n cs q
  calls_stay n [] q = refl
  calls_stay n (Making name c text values ∷ cs) [] = refl
  calls_stay n (Calling name m text result values ∷ cs) [] = refl
  calls_stay n (c ∷ cs) (y ∷ q) =
      ap (λ x. after_call n x (all_calls file W (n + 1) cs)) (same_call file program k 0 n n c y q)
      ∙ after_same n (one_call file program n c (y ∷ q)) _ _ (calls_stay (n + 1) cs)

  setup_same : (q : Answers) → next file W 0 q ≡ next file program 0 q
  setup_same q =
      ap (λ cs. all_calls file W 1 cs q) (setup_stays k program.threads) ∙ calls_stay 1 (calls_of program 0) q

  abbrev many : ℕ → ℕ
  many u = length (calls_of program u)

  next_same : (u : ℕ) (q : Answers) → u ≢ 0 → length q + 1 < k →
      IsSameNext (many u) (next file W u q) (again (next file program u) (next file program u) q)
  next_same u q other less =
      subst (λ cs. IsSameNext (many u) (all_calls file W 1 cs q)
      (again (next file program u) (next file program u) q)) (sym (calls_written k program.threads u other))
      (same_thread file program k (calls_of program u) q less)

  -- ---- configurations side by side

  -- a thread has had these answers
  record IsThread (u steps : ℕ) (c d : Configuration) : Type 0 where
    taken : Answers
    few : length taken ≤ steps
    again_is : (later : Answers) →
        c.continues u later ≡ again (next file program u) (next file program u) (taken ++ later)
    written_is : (later : Answers) → d.continues u later ≡ next file W u (taken ++ later)

  record AreBeside (steps : ℕ) (c d : Configuration) : Type 0 where
    store : d.store ≡ c.store
    setup : (later : Answers) → d.continues 0 later ≡ c.continues 0 later
    threads : (u : ℕ) → u ≢ 0 → IsThread u steps c d

  longer : (n : ℕ) (c d : Configuration) → AreBeside n c d → AreBeside (n + 1) c d
  longer n c d are = record {
    store = are.store;
    setup = are.setup;
    threads = λ u other.
        let is = are.threads u other in
        let few = is.few in
        record { taken = is.taken; few = omega (arith, few); again_is = is.again_is; written_is = is.written_is };
  }

  -- ---- an answer more

  module _ (n : ℕ) (c d : Configuration) (are : AreBeside n c d) (t : ℕ) (x : Answer Value) (s s' : Store)
      (same : s' ≡ s) where
    abbrev cx : Configuration
    cx = record { store = s; continues = with_answer c.continues t x }

    abbrev dx : Configuration
    dx = record { store = s'; continues = with_answer d.continues t x }

    setup_more : (0 ≡ t) ⊎ (0 ≢ t) → (later : Answers) → dx.continues 0 later ≡ cx.continues 0 later
    setup_more (inl e) later =
        subst (λ t. with_answer d.continues t x 0 later ≡ with_answer c.continues t x 0 later) e
        (answered_own d.continues 0 x later ∙ are.setup (x ∷ later) ∙ sym (answered_own c.continues 0 x later))
    setup_more (inr other) later =
        answered_other d.continues t 0 x later other ∙ are.setup later
        ∙ sym (answered_other c.continues t 0 x later other)

    own_more : t ≢ 0 → IsThread t (n + 1) cx dx
    own_more other =
        let is = are.threads t other in
        let few = is.few in
        let long : length (is.taken ++ x ∷ []) ≡ length is.taken + 1 = length-append is.taken (x ∷ []) in
        let here : (later : Answers) → is.taken ++ x ∷ later ≡ (is.taken ++ x ∷ []) ++ later =
        λ later. sym (append_assoc is.taken (x ∷ []) later) in
        record {
          taken = is.taken ++ x ∷ [];
          few = omega (arith, long, few);
          again_is = λ later. answered_own c.continues t x later ∙ is.again_is (x ∷ later)
              ∙ ap (again (next file program t) (next file program t)) (here later);
          written_is = λ later. answered_own d.continues t x later ∙ is.written_is (x ∷ later)
              ∙ ap (next file W t) (here later);
        }

    thread_more : (u : ℕ) → u ≢ 0 → (u ≡ t) ⊎ (u ≢ t) → IsThread u (n + 1) cx dx
    thread_more u other (inl e) =
        subst (λ u. IsThread u (n + 1) cx dx) (sym e) (own_more (λ zero_is. other (e ∙ zero_is)))
    thread_more u other (inr apart) =
        let is = are.threads u other in
        let few = is.few in
        record {
          taken = is.taken;
          few = omega (arith, few);
          again_is = λ later. answered_other c.continues t u x later apart ∙ is.again_is later;
          written_is = λ later. answered_other d.continues t u x later apart ∙ is.written_is later;
        }

    more : AreBeside (n + 1) cx dx
    more = record {
      store = same;
      setup = setup_more (cases_nat 0 t);
      threads = λ u other. thread_more u other (cases_nat u t);
    }

  -- ---- a step

  record IsStep (m n : ℕ) (p q : Stride) : Type 0 where
    did_is : IsSameDid m q.did p.did
    after_is : AreBeside (n + 1) p.after q.after

  effect_same : (m t : ℕ) (classes : List Class) (s : Store) (a b : Action Value) → IsSameAction m a b →
      effect classes s t a ≡ effect classes s t b
  effect_same m t classes s (act.Call n) (act.Call i) is = refl
  effect_same m t classes s (act.Return n v) (act.Return i w) is = refl
  effect_same m t classes s (act.Trap n kind) (act.Trap i other) is = refl
  effect_same m t classes s a b is = ap (effect classes s t) is

  module _ (n : ℕ) (c d : Configuration) (are : AreBeside n c d) (t m : ℕ) where
    idles : IsStep m n (idling c) (idling d)
    idles = record { did_is = tt; after_is = longer n c d are }

    performs : (a b : Action Value) (e : Effect) → IsSameAction m a b →
        IsStep m n (performing c t b e) (performing d t a e)
    performs a b Waits is = record { did_is = tt; after_is = longer n c d are }
    performs a b (Does s x) is = record { did_is = (is, refl); after_is = more n c d are t x s s refl }

    goes : (p q : Next) → IsSameNext m q p → IsStep m n (stride_of file c t p) (stride_of file d t q)
    goes (Goes b s) (Goes a u) is =
        subst (λ e. IsStep m n (performing c t b (effect file.classes c.store t b)) (performing d t a e))
        (sym (effect_same m t file.classes d.store a b is.0
        ∙ ap (λ (s : Store). effect file.classes s t b) are.store))
        (performs a b (effect file.classes c.store t b) is.0)
    goes Ended Ended is = idles
    goes Trapped Trapped is = idles
    goes (Goes b s) Ended is = absurd is
    goes (Goes b s) Trapped is = absurd is
    goes Ended (Goes a u) is = absurd is
    goes Ended Trapped is = absurd is
    goes Trapped (Goes a u) is = absurd is
    goes Trapped Ended is = absurd is

  same_next_itself : (m : ℕ) (p : Next) → IsSameNext m p p
  same_next_itself m (Goes a s) = (same_itself m a, refl)
  same_next_itself m Ended = tt
  same_next_itself m Trapped = tt

  -- what each thread does next
  nexts : (n : ℕ) (c d : Configuration) → AreBeside n c d → n + 1 < k → (t : ℕ) → (t ≡ 0) ⊎ (t ≢ 0) →
      IsSameNext (many t) (d.continues t []) (c.continues t [])
  nexts n c d are less t (inl e) =
      subst (λ t. IsSameNext (many t) (d.continues t []) (c.continues t [])) (sym e)
      (subst (λ p. IsSameNext (many 0) p (c.continues 0 [])) (sym (are.setup []))
      (same_next_itself (many 0) (c.continues 0 [])))
  nexts n c d are less t (inr other) =
      let is = are.threads t other in
      let few = is.few in
      let long : length (is.taken ++ []) ≡ length is.taken = ap length (append-nil is.taken) in
      subst (λ p. IsSameNext (many t) p (c.continues t [])) (sym (is.written_is []))
      (subst (λ p. IsSameNext (many t) (next file W t (is.taken ++ [])) p) (sym (is.again_is []))
      (next_same t (is.taken ++ []) other (omega (arith, long, few, less))))

  steps : (n : ℕ) (c d : Configuration) → AreBeside n c d → n + 1 < k → (t : ℕ) →
      IsStep (many t) n (stride file c t) (stride file d t)
  steps n c d are less t =
      subst (λ p. IsStep (many t) n (stride file c t)
      (cond (cond (nat_eq t 0) true (has_ended p)) (stride_of file d t (d.continues t [])) (idling d)))
      (sym (are.setup []))
      (by_started (cond (nat_eq t 0) true (has_ended (c.continues 0 []))))
    where
      by_started : (b : Bool) →
          IsStep (many t) n (cond b (stride_of file c t (c.continues t [])) (idling c))
          (cond b (stride_of file d t (d.continues t [])) (idling d))
      by_started true = goes n c d are t (many t) (c.continues t []) (d.continues t [])
          (nexts n c d are less t (cases_nat t 0))
      by_started false = idles n c d are t (many t)

  -- ---- all steps

  runs : (schedule : List ℕ) (n : ℕ) (c d : Configuration) → AreBeside n c d → n + length schedule + 1 < k →
      AreBeside (n + length schedule) (end file c schedule) (end file d schedule)
  runs [] n c d are less = subst (λ i. AreBeside i c d) (none n) are
    where
      none : (n : ℕ) → n ≡ n + 0
      none n = omega arith
  runs (t ∷ schedule) n c d are less =
      subst (λ i. AreBeside i (end file (stride file c t).after schedule) (end file (stride file d t).after schedule))
      (one n (length schedule))
      (runs schedule (n + 1) (stride file c t).after (stride file d t).after
      (steps n c d are (omega (arith, less)) t).after_is (omega (arith, less)))
    where
      one : (n i : ℕ) → n + 1 + i ≡ n + suc i
      one n i = omega arith

  first_answers : (p : Program) (u : ℕ) (later : Answers) → answers_of (start p) u ++ later ≡ later
  first_answers p u later = ap (λ q. q ++ later) (none_first p.threads u)

  begins : AreBeside 0 (for_ever (place_after file program [])) (place_after file W [])
  begins = record {
    store = refl;
    setup = λ later.
        ap (next file W 0) (first_answers W 0 later) ∙ setup_same later
        ∙ sym (ap (next file program 0) (first_answers program 0 later));
    threads = λ u other. record {
      taken = [];
      few = omega arith;
      again_is = λ later.
          let go : Answers → Next = λ more. next file program u (answers_of (start program) u ++ more) in
          let same : (m : Answers) → go m ≡ next file program u m =
          λ m. ap (next file program u) (first_answers program u m) in
          ap (λ b. cond b (go later) (again go go later)) (is_other u 0 other)
          ∙ again_same go (next file program u) go (next file program u) same same later;
      written_is = λ later. ap (next file W u) (first_answers W u later);
    };
  }

  module _ (schedule : List ℕ) (less : length schedule + 1 < k) where
    place_is : end file (place_after file W []) schedule ≡ place_after file W schedule
    place_is = end_is (wait_free 0) file W [] schedule

    beside : AreBeside (length schedule) (place_again file program schedule) (place_after file W schedule)
    beside =
        subst (λ d. AreBeside (length schedule) (place_again file program schedule) d) place_is
        (subst (λ i. AreBeside i (place_again file program schedule) (end file (place_after file W []) schedule))
        (all (length schedule))
        (runs schedule 0 (for_ever (place_after file program [])) (place_after file W []) begins (omega (arith, less))))
      where
        all : (i : ℕ) → 0 + i ≡ i
        all i = omega arith

    same_did : (u : ℕ) → IsSameDid (many u) (stride file (place_after file W schedule) u).did
        (stride file (place_again file program schedule) u).did
    same_did u =
        (steps (length schedule) (place_again file program schedule) (place_after file W schedule) beside less u).did_is

pub rounds_are_written : RoundsAreWritten
rounds_are_written file program k schedule less = record {
  store = (beside file program k schedule less).store;
  did = λ u. subst (λ x. IsSameDid (length (calls_of program u)) x
      (stride file (place_again file program schedule) u).did)
      (sym (step_stride file (program_written k program) (source_run file (program_written k program) schedule)
      (long_of_all file (program_written k program) schedule) u).0)
      (same_did file program k schedule less u);
}
