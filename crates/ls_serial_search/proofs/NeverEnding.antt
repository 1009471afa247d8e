-- The runs up to a call that never ends, schedule by schedule.
use Rattle.std.proofs.Common.{◌≡◌, ◌⊎◌, inl, inr, ℕ, zero, suc, ◌+◌, ◌<◌, ◌≤◌, List, [], ◌∷◌, ◌++◌, length}
use Rattle.std.proofs.Common.{replicate, Some}
use Rattle.std.proofs.Common.{refl, sym, ap, ◌∙◌, subst, arith, Contains, slice_get, append-nil, append_assoc}
use Rattle.std.proofs.lemmas.Bool.{cases_lt}
use Rattle.std.proofs.lemmas.List.{replicate-append-replicate}
use Rattle.std.proofs.lemmas.List.Elements.{Contains-push, Contains-push_cases}
use Rattle.std.specs.declared.vec.Vec.{Vec}
use Rattle.std.specs.declared.alloc.Global.{Global}
use Rattle.ls_events.specs.declared.event.Event.{Event}
use Rattle.ls_checked.specs.CheckedTree.{File}
use Rattle.ls_checked.specs.CheckedProgram.{Program}
use Rattle.ls_meaning.specs.Still.{IsStill}
use Rattle.ls_meaning.specs.Runs.{source_history, source_run, step}
use Rattle.ls_serial.specs.Serial.{IsSerial}
use Rattle.ls_serial.proofs.Lists.{contains_get, get_within, some_is}
use Rattle.ls_serial_search.specs.Following.{NeverEnds, called, events_of}
use Rattle.ls_serial_search.specs.Open.{HasEnded}
use Rattle.ls_serial_search.specs.Searched.{IsSearched}
use Rattle.ls_serial_search.specs.Endless.{AreEndlessRuns, HasTried, HaveTried, IsEndlessAfter, IsEndlessRun}
use Rattle.ls_serial_search.specs.Endless.{TellEndlessRuns}
use Rattle.ls_serial_search.specs.Histories.{lists_of}
use Rattle.ls_serial_search.proofs.Covering.{begun_in}
use Rattle.ls_serial_search.proofs.Stalls.{endless_within, never_called, never_ended, one_history}
use Rattle.ls_serial_search.proofs.Stepping.{history_more, state_more, steps_more}

-- a history more
pub lists_pushed : (vs : List (Vec Event Global)) (v : Vec Event Global) (h : List Event) → v.items ≡ h →
    lists_of (vs ++ v ∷ []) ≡ lists_of vs ++ h ∷ []
lists_pushed [] v h e = ap (λ x. x ∷ []) e
lists_pushed (w ∷ vs) v h e = ap (λ l. w.items ∷ l) (lists_pushed vs v h e)

-- what was there still is
abbrev pub AreKept : List (List Event) → List (List Event) → Type 0
AreKept old new = (run : List Event) → Contains old run → Contains new run

module _ (file : File) (program : Program) where
  run_of : (schedule : List ℕ) (t call : ℕ) → NeverEnds file program schedule t call →
      IsSerial (source_history file program schedule) →
      IsEndlessRun file program (source_history file program schedule ++ called t call ∷ [])
  run_of schedule t call never serial = record {
    schedule = schedule ++ replicate 1 t;
    before = source_history file program schedule;
    call = called t call;
    is = refl;
    serial = serial;
    is_call = refl;
    never = λ steps.
        let e : 1 + steps ≡ steps + 1 = omega arith in
        ap (source_history file program) (append_assoc schedule (replicate 1 t) (replicate steps t)
        ∙ ap (λ ts. schedule ++ ts) (replicate-append-replicate 1 steps t))
        ∙ ap (λ n. source_history file program (schedule ++ replicate n t)) e
        ∙ (never (steps + 1)).is steps (omega arith);
  }

  pub endless_pushed : (schedule : List ℕ) (t call : ℕ) (runs : List (List Event)) →
      NeverEnds file program schedule t call →
      IsSerial (source_history file program schedule) →
      AreEndlessRuns file program runs →
      AreEndlessRuns file program (runs ++ (source_history file program schedule ++ called t call ∷ []) ∷ [])
  endless_pushed schedule t call runs never serial are r there =
      by_side (Contains-push_cases runs (source_history file program schedule ++ called t call ∷ []) r there)
    where
      by_side : Contains runs r ⊎ (source_history file program schedule ++ called t call ∷ [] ≡ r) →
          IsEndlessRun file program r
      by_side (inl old) = are r old
      by_side (inr same) = subst (IsEndlessRun file program) same (run_of schedule t call never serial)

  pub tried_pushed : (schedule : List ℕ) (t call : ℕ) (runs : List (List Event)) →
      NeverEnds file program schedule t call →
      HasTried file program (runs ++ (source_history file program schedule ++ called t call ∷ []) ∷ []) schedule t
  tried_pushed schedule t call runs never c w =
      subst (Contains (runs ++ (source_history file program schedule ++ called t call ∷ []) ∷ []))
      (one_history file program schedule t call c never w)
      (Contains-push runs (source_history file program schedule ++ called t call ∷ []))

  pub tried_idle : (schedule : List ℕ) (t : ℕ) (runs : List (List Event)) →
      IsStill (step file program (source_run file program schedule) t).did →
      HasTried file program runs schedule t
  tried_idle schedule t runs still c w = absurd (never_called file program schedule t c
      (subst (λ ts. IsStill (step file program (source_run file program ts) t).did)
      (sym (append-nil schedule)) still) w)

  pub tried_ended : (schedule : List ℕ) (t n : ℕ) (runs : List (List Event)) → HasEnded file program schedule t n →
      HasTried file program runs schedule t
  tried_ended schedule t n runs ended c w = absurd (never_ended file program schedule t c n ended w)

  pub tried_more : (schedule : List ℕ) (t : ℕ) (old new : List (List Event)) → AreKept old new →
      HasTried file program old schedule t →
      HasTried file program new schedule t
  tried_more schedule t old new kept tried c w = kept _ (tried c w)

  pub threads_more : (schedule : List ℕ) (n : ℕ) (old new : List (List Event)) → AreKept old new →
      HaveTried file program old schedule n →
      HasTried file program new schedule n →
      HaveTried file program new schedule (n + 1)
  threads_more schedule n old new kept before here t less = by_place (cases_lt t n)
    where
      by_place : (t < n) ⊎ (n ≤ t) → HasTried file program new schedule t
      by_place (inl lt) = tried_more schedule t old new kept (before t lt)
      by_place (inr past) =
          let same : n ≡ t = omega (arith, less, past) in subst (HasTried file program new schedule) same here

  -- ---- the schedules up to a place

  abbrev pub AreTried : List (List ℕ) → List (List Event) → ℕ → Type 0
  AreTried known runs n = (i : ℕ) (s : List ℕ) → i < n → slice_get known i ≡ Some s →
      HaveTried file program runs s (length program.threads)

  pub none_tried : (known : List (List ℕ)) (runs : List (List Event)) → AreTried known runs 0
  none_tried known runs i s less = absurd (omega (arith, less))

  pub schedules_more : (known : List (List ℕ)) (n : ℕ) (schedule : List ℕ) (old new : List (List Event)) →
      AreKept old new →
      slice_get known n ≡ Some schedule →
      AreTried known old n →
      HaveTried file program new schedule (length program.threads) →
      AreTried known new (n + 1)
  schedules_more known n schedule old new kept at before here i s less there = by_place (cases_lt i n)
    where
      by_place : (i < n) ⊎ (n ≤ i) → HaveTried file program new s (length program.threads)
      by_place (inl lt) = λ t within. tried_more s t old new kept (before i s lt there t within)
      by_place (inr past) =
          let same : n ≡ i = omega (arith, less, past) in
          let one : schedule ≡ s = some_is (sym at ∙ ap (slice_get known) same ∙ there) in
          subst (λ x. HaveTried file program new x (length program.threads)) one here

  -- ---- all of them

  -- schedules that lead to one state, with one history, do so with more steps
  pub same_after : (one other : List ℕ) (t : ℕ) → source_run file program one ≡ source_run file program other →
      source_history file program one ≡ source_history file program other →
      (n : ℕ) →
      (source_run file program (one ++ replicate n t) ≡ source_run file program (other ++ replicate n t))
      × (source_history file program (one ++ replicate n t) ≡ source_history file program (other ++ replicate n t))
  same_after one other t state history zero = (
    ap (source_run file program) (append-nil one) ∙ state ∙ sym (ap (source_run file program) (append-nil other)),
    ap (source_history file program) (append-nil one) ∙ history ∙
        sym (ap (source_history file program) (append-nil other)),
  )
  same_after one other t state history (suc n) =
      let r = same_after one other t state history n in
      let e : suc n ≡ n + 1 = omega arith in
      let long : (s : List ℕ) → (s ++ replicate n t) ++ t ∷ [] ≡ s ++ replicate (suc n) t =
      λ s. steps_more s t n ∙ ap (λ k. s ++ replicate k t) (sym e) in (
        sym (ap (source_run file program) (long one)) ∙ state_more file program (one ++ replicate n t) t
            ∙ ap (λ s. (step file program s t).after) r.0
            ∙ sym (state_more file program (other ++ replicate n t) t) ∙ ap (source_run file program) (long other),
        sym (ap (source_history file program) (long one)) ∙ history_more file program (one ++ replicate n t) t
            ∙ ap (λ h. h ++ events_of t (step file program (source_run file program (one ++ replicate n t)) t).did) r.1
            ∙ ap (λ s. source_history file program (other ++ replicate n t) ++ events_of t (step file program s t).did)
            r.0
            ∙ sym (history_more file program (other ++ replicate n t) t)
            ∙ ap (source_history file program) (long other),
      )

  pub tell_endless : (known : List (List ℕ)) (runs : List (List Event)) (n : ℕ) →
      IsSearched file program known →
      length known ≤ n →
      AreTried known runs n →
      TellEndlessRuns file program runs
  tell_endless known runs n searched all tried run r =
      let first : source_history file program r.schedule ≡ run =
      sym (ap (source_history file program) (append-nil r.schedule)) ∙ r.never 0 in
      let b = begun_in file program known searched r.schedule r.before r.call r.serial r.is_call (first ∙ r.is) in
      let t : ℕ = r.call.thread in
      let after : IsEndlessAfter file program b.one t r.call = record {
        steps = b.steps;
        never = λ more.
            ap (source_history file program) (sym (append_assoc b.one (replicate b.steps t) (replicate more t)
            ∙ ap (λ ts. b.one ++ ts) (replicate-append-replicate b.steps more t)))
            ∙ sym (same_after r.schedule (b.one ++ replicate b.steps t) t b.state b.history more).1
            ∙ r.never more ∙ r.is ∙ ap (λ h. h ++ r.call ∷ []) b.same;
      } in
      let at = contains_get known b.one b.there in
      let less : at.0 < n = omega (arith, all, get_within known at.0 b.one at.1) in
      let there = tried at.0 b.one less at.1 t (endless_within file program b.one t r.call after) r.call after in
      subst (Contains runs) (ap (λ h. h ++ r.call ∷ []) (sym b.same) ∙ sym r.is) there
