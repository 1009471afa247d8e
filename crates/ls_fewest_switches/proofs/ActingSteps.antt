-- Steps that act, one by one, and what comes of leaving out the others.
use Rattle.std.proofs.Common.{◌≡◌, ◌⊎◌, inl, inr, ℕ, ◌+◌, ◌<◌, ◌≤◌, List, [], ◌∷◌, ◌++◌, length, map, take, get_or}
use Rattle.std.proofs.Common.{refl, sym, ap, ◌∙◌, subst, arith, append_assoc, append-nil}
use Rattle.std.specs.Prelude.{All}
use Rattle.std.proofs.lemmas.List.Elements.{All-cons, All-nil}
use Rattle.std.proofs.lemmas.Option.{slice_get-get_or}
use Rattle.ls_events.specs.declared.value.Value.{Value}
use Rattle.ls_checked.specs.CheckedTree.{File}
use Rattle.ls_checked.specs.CheckedProgram.{Program}
use Rattle.ls_meaning.specs.declared.step.Did.{Did}
use Rattle.ls_meaning.specs.declared.step.Did.TheVariants as did
use Rattle.ls_meaning.specs.Steps.{Entry, after, trace, traced}
use Rattle.ls_meaning.specs.Runs.{State, source_history, source_run, source_step, start, step, stepped}
use Rattle.ls_meaning.specs.Still.{IsActing, IsStill}
use Rattle.ls_search_laws.specs.Stepping.{ActAll, IsOneMore, events_of}
use Rattle.ls_search_laws.proofs.Acting.{acting_more, acting_still, acts_more}
use Rattle.ls_search_laws.proofs.Stepping.{acts_within, one_more, still_stays}
use Rattle.ls_fewest_switches.specs.Acting.{acting}
use Rattle.ls_fewest_switches.specs.Switches.{switches}
use Rattle.ls_graph.specs.Costs.{changes}
use Rattle.ls_graph.specs.declared.costs.Counted.TheVariants.{Changes}
use Rattle.ls_fewest_switches.proofs.Items.{one_more as next_number, take_next}
use Rattle.ls_graph.proofs.Changes.{costs_changes, sooner}
use Rattle.ls_fewest_switches.proofs.Ending.{still_or_acts}
use Rattle.ls_fewest_switches.proofs.Ending.{no_events}

take_more : (steps : List ℕ) (i t : ℕ) → i < length steps →
    take (i + 1) steps ≡ take i steps ++ get_or steps i t ∷ []
take_more steps i t within =
    ap (λ n. take n steps) (next_number i) ∙ take_next steps i (get_or steps i t) (slice_get-get_or steps i t within)

-- a step left out doesn't make the changes more
less : (b t : ℕ) (ts : List ℕ) → changes b ts ≤ changes b (t ∷ ts)
less b t ts =
    let h = sooner Changes b t ts in
    let few = costs_changes b ts in
    let many = costs_changes b (t ∷ ts) in
    omega (arith, h, few, many)

module _ (file : File) (program : Program) where
  -- the state after a schedule, and what a step of a thread does there
  abbrev did_after : List ℕ → ℕ → Did
  did_after s t = (step file program (source_run file program s) t).did

  -- one step more
  pub kept_more : (steps : List ℕ) (i t : ℕ) (d : Did) (old new : List ℕ) → i < length steps →
      d ≡ did_after (take i steps) (get_or steps i t) →
      (IsActing d → new ≡ old ++ get_or steps i t ∷ []) →
      (IsStill d → new ≡ old) →
      old ≡ acting file program (take i steps) →
      new ≡ acting file program (take (i + 1) steps)
  kept_more steps i t d old new within is acts still was =
      by_did (still_or_acts d) ∙ ap (acting file program) (sym (take_more steps i t within))
    where
      by_did : IsStill d ⊎ IsActing d → new ≡ acting file program (take i steps ++ get_or steps i t ∷ [])
      by_did (inl h) =
          still h ∙ was ∙ sym (acting_still file program (take i steps) (get_or steps i t) (subst IsStill is h))
      by_did (inr h) =
          acts h ∙ ap (λ l. l ++ get_or steps i t ∷ []) was
          ∙ sym (acting_more file program (take i steps) (get_or steps i t) (subst IsActing is h))

  -- ---- without the steps that don't act

  -- each step of the second acts, and after it all is as after the first
  pub record IsAsAll (all us : List ℕ) : Type 0 where
    pub acts : ActAll file program us
    pub state : source_run file program us ≡ source_run file program all
    pub history : source_history file program us ≡ source_history file program all

  as_acting : (all us : List ℕ) (t : ℕ) → IsAsAll all us → IsActing (did_after all t) →
      IsAsAll (all ++ t ∷ []) (us ++ t ∷ [])
  as_acting all us t is acts =
      let more : IsOneMore file program all t = one_more file program all t in
      let more' : IsOneMore file program us t = one_more file program us t in record {
        acts = acts_more file program us t is.acts
            (subst (λ (s : State). IsActing (step file program s t).did) (sym is.state) acts);
        state = more'.state ∙ ap (λ (s : State). (step file program s t).after) is.state ∙ sym more.state;
        history =
            more'.history
            ∙ ap (λ h. h ++ events_of t (step file program (source_run file program us) t).did) is.history
            ∙ ap (λ (s : State). source_history file program all ++ events_of t (step file program s t).did) is.state
            ∙ sym more.history;
      }

  as_still : (all us : List ℕ) (t : ℕ) → IsAsAll all us → IsStill (did_after all t) → IsAsAll (all ++ t ∷ []) us
  as_still all us t is still =
      let more : IsOneMore file program all t = one_more file program all t in record {
        acts = is.acts;
        state = is.state ∙ sym (more.state ∙ still_stays file program (source_run file program all) t still);
        history =
            is.history
            ∙ sym (more.history ∙ ap (λ h. source_history file program all ++ h) (no_events t (did_after all t) still)
            ∙ append-nil (source_history file program all));
      }

  as_all_more : (all : List ℕ) (t : ℕ) → IsAsAll all (acting file program all) →
      IsAsAll (all ++ t ∷ []) (acting file program (all ++ t ∷ []))
  as_all_more all t is = by_did (still_or_acts (did_after all t))
    where
      by_did : IsStill (did_after all t) ⊎ IsActing (did_after all t) →
          IsAsAll (all ++ t ∷ []) (acting file program (all ++ t ∷ []))
      by_did (inl h) =
          subst (IsAsAll (all ++ t ∷ [])) (sym (acting_still file program all t h))
          (as_still all (acting file program all) t is h)
      by_did (inr h) =
          subst (IsAsAll (all ++ t ∷ [])) (sym (acting_more file program all t h))
          (as_acting all (acting file program all) t is h)

  as_all_from : (all more : List ℕ) → IsAsAll all (acting file program all) →
      IsAsAll (all ++ more) (acting file program (all ++ more))
  as_all_from all [] is =
      subst (λ l. IsAsAll l (acting file program l)) (sym (append-nil all)) is
  as_all_from all (t ∷ ts) is =
      subst (λ l. IsAsAll l (acting file program l)) (append_assoc all (t ∷ []) ts)
      (as_all_from (all ++ t ∷ []) ts (as_all_more all t is))

  pub as_all : (all : List ℕ) → IsAsAll all (acting file program all)
  as_all all = as_all_from [] all (record { acts = refl; state = refl; history = refl })

  -- ---- no more switches, and no more steps

  abbrev threads_of : List (Entry Value) → List ℕ
  threads_of entries = map (λ (e : Entry Value). e.thread) entries

  few_by : (d : Did) (s : State) (t : ℕ) (ts : List ℕ) (rest : List (Entry Value)) →
      ((b : ℕ) → changes b (threads_of rest) ≤ changes b ts) →
      (b : ℕ) →
      changes b (threads_of (traced (stepped t d s) rest)) ≤ changes b (t ∷ ts)
  few_by (did.Acted action answer) s t ts rest h b = let g = h t in omega (arith, g)
  few_by did.Waits s t ts rest h b = let g = h b in omega (arith, g, less b t ts)
  few_by did.Idle s t ts rest h b = let g = h b in omega (arith, g, less b t ts)

  few_changes : (ts : List ℕ) (s : State) (b : ℕ) →
      changes b (threads_of (trace (source_step file program) s ts)) ≤ changes b ts
  few_changes [] s b = omega arith
  few_changes (t ∷ ts) s b =
      few_by (step file program s t).did (step file program s t).after t ts
      (trace (source_step file program) (after s (source_step file program s t)) ts)
      (few_changes ts (after s (source_step file program s t))) b

  pub few_switches : (s : List ℕ) → switches (acting file program s) ≤ switches s
  few_switches s = let h = few_changes s (start program) 0 in omega (arith, h)

  short_by : (d : Did) (s : State) (t : ℕ) (ts : List ℕ) (rest : List (Entry Value)) →
      length (threads_of rest) ≤ length ts →
      length (threads_of (traced (stepped t d s) rest)) ≤ length (t ∷ ts)
  short_by (did.Acted action answer) s t ts rest h = omega (arith, h)
  short_by did.Waits s t ts rest h = omega (arith, h)
  short_by did.Idle s t ts rest h = omega (arith, h)

  short_from : (ts : List ℕ) (s : State) → length (threads_of (trace (source_step file program) s ts)) ≤ length ts
  short_from [] s = omega arith
  short_from (t ∷ ts) s =
      short_by (step file program s t).did (step file program s t).after t ts
      (trace (source_step file program) (after s (source_step file program s t)) ts)
      (short_from ts (after s (source_step file program s t)))

  pub no_longer : (s : List ℕ) → length (acting file program s) ≤ length s
  no_longer s = short_from s (start program)

  -- ---- each is a step of a thread that is there

  abbrev IsThere : ℕ → Type 0
  IsThere t = t < length program.threads

  there_by : (d : Did) (s : State) (t : ℕ) (rest : List (Entry Value)) → (IsActing d → IsThere t) →
      All IsThere (threads_of rest) →
      All IsThere (threads_of (traced (stepped t d s) rest))
  there_by (did.Acted action answer) s t rest there all = All-cons IsThere t (threads_of rest) (there tt) all
  there_by did.Waits s t rest there all = all
  there_by did.Idle s t rest there all = all

  there_from : (ts : List ℕ) (s : State) → All IsThere (threads_of (trace (source_step file program) s ts))
  there_from [] s = All-nil IsThere
  there_from (t ∷ ts) s =
      there_by (step file program s t).did (step file program s t).after t
      (trace (source_step file program) (after s (source_step file program s t)) ts)
      (acts_within file program s t)
      (there_from ts (after s (source_step file program s t)))

  pub all_there : (s : List ℕ) → ActAll file program s → All (λ t. t < length program.threads) s
  all_there s acts = subst (All IsThere) acts (there_from s (start program))
