-- What a step of a thread comes to at a state by numbers.
use Rattle.std.proofs.Common.{◌≡◌, ◌≢◌, ◌⊎◌, inl, inr, ℕ, zero, suc, ◌<◌, Bool, true, false, List, [], ◌∷◌, length}
use Rattle.std.proofs.Common.{Option, None, Some, refl, sym, ap, ◌∙◌, subst, arith}
use Rattle.std.specs.Prelude.{nat_eq, slice_get, slice_index_or, slice_set, if◌then◌else◌}
use Rattle.std.proofs.lemmas.Bool.Decides.{eqb_tells}
use Rattle.std.proofs.lemmas.Option.{get_or_from_slice_get}
use Rattle.ls_checked.specs.CheckedTree.{File}
use Rattle.ls_meaning.specs.declared.step.Did.TheVariants as did
use Rattle.ls_meaning.specs.Course.{Answers}
use Rattle.ls_meaning.specs.Store.{Store}
use Rattle.ls_meaning.specs.Effect.{effect}
use Rattle.ls_meaning.specs.Threads.{Next, Goes, Ended, Trapped}
use Rattle.ls_meaning.specs.Runs.{has_ended}
use Rattle.ls_search_laws.specs.Configuration.{Configuration, Stride, idling, performing, stride, stride_of}
use Rattle.ls_search_laws.specs.Configuration.{with_answer}
use Rattle.ls_transitions.specs.declared.moves.Step.{Step}
use Rattle.ls_transitions.specs.declared.moves.Move.{Move}
use Rattle.ls_transitions.specs.declared.moves.Move.TheVariants as moves
use Rattle.ls_transitions.specs.Tables.{Table, Grows, goes_on}
use Rattle.ls_transitions.specs.Moves.{IsMove, IsStep}
use Rattle.ls_transitions.proofs.Growing.{same_going}
use Rattle.ls_transitions.proofs.Keeping.{below, still_below, there}
use Rattle.ls_search.specs.Places.{AreThere, configuration_at, goes_with, no_store}
use Rattle.ls_search.specs.Strides.{HasStarted, IsStrideBy}

-- ---- a list with another item at a place

pub set_here : {A : Type 0} (xs : List A) (u : ℕ) (x : A) → u < length xs → slice_get (slice_set xs u x) u ≡ Some x
set_here [] u x h = absurd (omega arith)
set_here (y ∷ ys) zero x h = refl
set_here (y ∷ ys) (suc u) x h = set_here ys u x (omega arith)

pub set_elsewhere : {A : Type 0} (xs : List A) (u v : ℕ) (x : A) →
    v ≢ u →
    slice_get (slice_set xs u x) v ≡ slice_get xs v
set_elsewhere [] u v x h = refl
set_elsewhere (y ∷ ys) zero zero x h = absurd (h refl)
set_elsewhere (y ∷ ys) zero (suc v) x h = refl
set_elsewhere (y ∷ ys) (suc u) zero x h = refl
set_elsewhere (y ∷ ys) (suc u) (suc v) x h = set_elsewhere ys u v x (λ e. h (ap suc e))

-- ---- growing tables

pub goes_on_still : (old new : Table) (works : List ℕ) (store u : ℕ) (later : Answers) (o : Option ℕ) →
    Grows old new →
    AreThere old store works →
    slice_get works u ≡ o →
    goes_with new o later ≡ goes_with old o later
goes_on_still old new works store u later None g h e = refl
goes_on_still old new works store u later (Some work) g h e = same_going old new work later g (h.works_there u work e)

-- a configuration stays while tables grow
pub stays : (old new : Table) (store : ℕ) (works : List ℕ) →
    Grows old new →
    AreThere old store works →
    configuration_at new store works ≡ configuration_at old store works
stays old new store works g h =
    let at = there old.stores store h.store_there in
    let stores : slice_index_or new.stores store no_store ≡ slice_index_or old.stores store no_store =
    get_or_from_slice_get new.stores store at.0 no_store (g.stores store at.0 at.1)
    ∙ sym (get_or_from_slice_get old.stores store at.0 no_store at.1) in
    let going : (u : ℕ) (later : Answers) →
    goes_with new (slice_get works u) later ≡ goes_with old (slice_get works u) later =
    λ u later. goes_on_still old new works store u later (slice_get works u) g h refl in
    λ i. record { store = stores i; continues = λ u later. going u later i }

pub there_still : (old new : Table) (store : ℕ) (works : List ℕ) →
    Grows old new →
    AreThere old store works →
    AreThere new store works
there_still old new store works g h = record {
  store_there = still_below old.stores new.stores store g.stores h.store_there;
  works_there = λ u work e. still_below old.works new.works work g.works (h.works_there u work e);
}

-- ---- strides

-- the step of a thread that has started
started_stride : (file : File) (c : Configuration) (u : ℕ) →
    HasStarted c u →
    stride file c u ≡ stride_of file c u (c.continues u [])
started_stride file c u started =
    ap (λ b. if b then stride_of file c u (c.continues u []) else idling c) started

-- that of one which hasn't
pub waiting_stride : (file : File) (c : Configuration) (u : ℕ) →
    nat_eq u 0 ≡ false →
    has_ended (c.continues 0 []) ≡ false →
    stride file c u ≡ idling c
waiting_stride file c u other waits =
    ap (λ (b : Bool). if (if b then true else has_ended (c.continues 0 [])) then stride_of file c u (c.continues u [])
    else idling c) other
    ∙ ap (λ (b : Bool). if b then stride_of file c u (c.continues u []) else idling c) waits

by_start : (b : Bool) (s : Stride) → (if b then s else s) ≡ s
by_start true s = refl
by_start false s = refl

-- that of one which isn't there
pub missing_stride : (file : File) (t : Table) (store : ℕ) (works : List ℕ) (u : ℕ) →
    slice_get works u ≡ None →
    stride file (configuration_at t store works) u ≡ idling (configuration_at t store works)
missing_stride file t store works u none =
    let c : Configuration = configuration_at t store works in
    let started : Bool = if nat_eq u 0 then true else has_ended (c.continues 0 []) in
    ap (λ (o : Option ℕ). if started then stride_of file c u (goes_with t o []) else idling c) none
    ∙ by_start started (idling c)

-- how threads go on after a step
going_after : (t : Table) (works : List ℕ) (store u work : ℕ) (step : Step) (v : ℕ) (later : Answers) →
    slice_get works u ≡ Some work →
    goes_on t step.work later ≡ goes_on t work (step.answer ∷ later) →
    ((nat_eq v u ≡ true) × (v ≡ u)) ⊎ ((nat_eq v u ≡ false) × (v ≢ u)) →
    with_answer (configuration_at t store works).continues u step.answer v later ≡
    goes_with t (slice_get (slice_set works u step.work) v) later
going_after t works store u work step v later e continues (inl (true_is, same)) =
    let c : Configuration = configuration_at t store works in
    ap (λ (b : Bool). if b then c.continues u (step.answer ∷ later) else c.continues v later) true_is
    ∙ ap (λ (o : Option ℕ). goes_with t o (step.answer ∷ later)) e
    ∙ sym continues
    ∙ sym (ap (λ (o : Option ℕ). goes_with t o later)
    (ap (slice_get (slice_set works u step.work)) same ∙ set_here works u step.work (below works u work e)))
going_after t works store u work step v later e continues (inr (isnt, other)) =
    let c : Configuration = configuration_at t store works in
    ap (λ (b : Bool). if b then c.continues u (step.answer ∷ later) else c.continues v later) isnt
    ∙ sym (ap (λ (o : Option ℕ). goes_with t o later) (set_elsewhere works u v step.work other))

module _ (t : Table) (u store : ℕ) (works : List ℕ) (work : ℕ) (e : slice_get works u ≡ Some work)
    (started : HasStarted (configuration_at t store works) u) where
  asked_stride : (next : Next) →
      goes_on t work [] ≡ next →
      stride t.file (configuration_at t store works) u ≡ stride_of t.file (configuration_at t store works) u next
  asked_stride next asks =
      let c : Configuration = configuration_at t store works in
      started_stride t.file c u started
      ∙ ap (λ (o : Option ℕ). stride_of t.file c u (goes_with t o [])) e
      ∙ ap (stride_of t.file c u) asks

  acted_stride : (step : Step) → IsStep t u store work step →
      stride t.file (configuration_at t store works) u ≡ record {
        did = did.Acted step.action step.answer;
        after = configuration_at t step.store (slice_set works u step.work);
      }
  acted_stride step h =
      let c : Configuration = configuration_at t store works in
      let from_is : slice_index_or t.stores store no_store ≡ h.from =
      get_or_from_slice_get t.stores store h.from no_store h.from_is in
      let to_is : h.to ≡ slice_index_or t.stores step.store no_store =
      sym (get_or_from_slice_get t.stores step.store h.to no_store h.to_is) in
      let going : (v : ℕ) (later : Answers) → with_answer c.continues u step.answer v later ≡
      goes_with t (slice_get (slice_set works u step.work) v) later =
      λ v later. going_after t works store u work step v later e (h.continues later) (eqb_tells v u) in
      let after : record { store = h.to; continues = with_answer c.continues u step.answer } ≡
      configuration_at t step.store (slice_set works u step.work) =
      λ i. record { store = to_is i; continues = λ v later. going v later i } in
      asked_stride (Goes step.action h.sort) h.asks
      ∙ ap (λ (s : Store). performing c u step.action (effect t.file.classes s u step.action)) from_is
      ∙ ap (performing c u step.action) h.does
      ∙ ap (λ (k : Configuration). record { did = did.Acted step.action step.answer; after = k }) after

  stride_here : (m : Move) → IsMove t u store work m →
      IsStrideBy t (configuration_at t store works) works u m (stride t.file (configuration_at t store works) u)
  stride_here moves.Ended h = asked_stride Ended h
  stride_here moves.Trapped h = asked_stride Trapped h
  stride_here moves.Waits h =
      let c : Configuration = configuration_at t store works in
      asked_stride (Goes h.action h.sort) h.asks
      ∙ ap (λ (s : Store). performing c u h.action (effect t.file.classes s u h.action))
      (get_or_from_slice_get t.stores store h.from no_store h.from_is)
      ∙ ap (performing c u h.action) h.waits
  stride_here (moves.Acts step) h = record {
    is = acted_stride step h;
    store_there = below t.stores step.store h.to h.to_is;
    work_there = below t.works step.work h.rest h.rest_is;
  }

-- the stride by the move in the table after it
pub stride_by : (old new : Table) (u store : ℕ) (works : List ℕ) (work : ℕ) (m : Move) →
    Grows old new →
    AreThere old store works →
    slice_get works u ≡ Some work →
    HasStarted (configuration_at old store works) u →
    IsMove new u store work m →
    IsStrideBy new (configuration_at old store works) works u m
    (stride old.file (configuration_at old store works) u)
stride_by old new u store works work m g h e started is =
    let same : configuration_at new store works ≡ configuration_at old store works = stays old new store works g h in
    subst (λ (file : File). IsStrideBy new (configuration_at old store works) works u m
    (stride file (configuration_at old store works) u)) g.file
    (subst (λ (c : Configuration). IsStrideBy new c works u m (stride new.file c u)) same
    (stride_here new u store works work e (subst (λ (c : Configuration). HasStarted c u) (sym same) started) m is))

-- a thread that isn't there has ended
pub missing_by : (old new : Table) (u store : ℕ) (works : List ℕ) →
    slice_get works u ≡ None →
    IsStrideBy new (configuration_at old store works) works u moves.Ended
    (stride old.file (configuration_at old store works) u)
missing_by old new u store works none = missing_stride old.file old store works u none

-- ---- whether the setup has ended

abbrev pub ended_by : Move → Bool
ended_by moves.Ended = true
ended_by moves.Trapped = false
ended_by moves.Waits = false
ended_by (moves.Acts step) = false

ended_there : (t : Table) (u store work : ℕ) (m : Move) → IsMove t u store work m →
    has_ended (goes_on t work []) ≡ ended_by m
ended_there t u store work moves.Ended h = ap has_ended h
ended_there t u store work moves.Trapped h = ap has_ended h
ended_there t u store work moves.Waits h = ap has_ended h.asks
ended_there t u store work (moves.Acts step) h = ap has_ended h.asks
