-- A step of a run leaves a node near, or is a step of the node's graph: so steps at once and renaming cost nothing.
use Rattle.std.proofs.Common.{◌≡◌, ◌⊎◌, inl, inr, ℕ, ◌<◌, true, false, List, [], ◌∷◌, ◌++◌, fold, map, length}
use Rattle.std.proofs.Common.{replicate, refl, sym, ap, ◌∙◌, subst, append-nil}
use Rattle.std.proofs.lemmas.List.Sums.{fold-append}
use Rattle.ls_events.specs.declared.value.Value.{Value}
use Rattle.ls_events.specs.declared.action.Action.{Action}
use Rattle.ls_events.specs.declared.action.Answer.{Answer}
use Rattle.ls_events.specs.declared.event.Event.{Event}
use Rattle.ls_checked.specs.CheckedTree.{File}
use Rattle.ls_checked.specs.CheckedProgram.{Program}
use Rattle.ls_meaning.specs.declared.step.Did.{Did}
use Rattle.ls_meaning.specs.declared.step.Did.TheVariants as did
use Rattle.ls_meaning.specs.Effect.{Does, effect}
use Rattle.ls_meaning.specs.Renamings.{IsRenaming, renamed_action, renamed_answer}
use Rattle.ls_meaning.specs.Runs.{State, step}
use Rattle.ls_meaning.specs.Still.{IsActing, IsStill}
use Rattle.ls_search_laws.specs.Stepping.{events_in, events_of}
use Rattle.ls_search_laws.specs.AtOnce.{Choice, IsReading}
use Rattle.ls_search_laws.specs.Configuration.{Configuration, Stride, configuration_of, renamed_did, stride}
use Rattle.ls_search_laws.specs.Noticing.{Noticed, noticed_after, renamed_event}
use Rattle.ls_search_laws.specs.Search.{LeadsTo}
use Rattle.ls_search_laws.proofs.Cells.{turns_fair}
use Rattle.ls_search_laws.proofs.Stepping.{acts_within, still_stays}
use Rattle.ls_search_laws.proofs.Reading.{reading_silent}
use Rattle.ls_search_laws.proofs.Renamed.{both, both_renaming, events_other, renamed_both, step_stride, stride_other}
use Rattle.ls_search_laws.proofs.Renamed.{told_length}
use Rattle.ls_search_laws.proofs.Strides.{acted, acts_of, stride_by, told}
use Rattle.ls_search_laws.proofs.AtOnce.{quick_step, ahead_of, IsOneOf, Out, Runs, runs_of, runs_on, also, AllSame}
use Rattle.ls_search_laws.proofs.AtOnce.{forth, In, in_or_out, back}
use Rattle.ls_search_laws.proofs.AtOnceRenamed.{runs_renamed}
use Rattle.ls_search.specs.Searched.{HidesNames}
use Rattle.ls_search.specs.Strides.{at_once}
use Rattle.ls_search.specs.Near.{IsNear, Run, run_after}
use Rattle.ls_search.specs.Space.{GoesTo}

acts_other : (names : ℕ → ℕ) (d : Did) → IsActing (renamed_did names d) → IsActing d
acts_other names (did.Acted a x) acts = tt
acts_other names did.Waits acts = acts
acts_other names did.Idle acts = acts

same_action : (a b : Action Value) (x y : Answer Value) → did.Acted a x ≡ did.Acted b y → a ≡ b
same_action a b x y h = cc

pub not_both : (d : Did) → IsActing d → IsStill d → ⊥
not_both (did.Acted a x) acts still = absurd still
not_both did.Waits acts still = absurd acts
not_both did.Idle acts still = absurd acts

module _ {M : Type 0} (first : M) (next : M → Event → M) (hides : HidesNames next) (file : File)
    (program : Program) where
  abbrev quiet : Choice
  quiet = at_once

  abbrev setup : (a : Action Value) (x : Answer Value) → quiet 0 a x ≡ false
  setup = turns_fair.fair.setup

  abbrev reading : (t : ℕ) (a : Action Value) (x : Answer Value) → quiet t a x ≡ true → IsReading a
  reading = turns_fair.fair.reading

  hidden_along : (names : ℕ → ℕ) → IsRenaming names → (es : List Event) (m : M) →
      fold next m es ≡ fold next m (map (renamed_event names) es)
  hidden_along names is [] m = refl
  hidden_along names is (e ∷ es) m =
      hidden_along names is es (next m e)
      ∙ ap (λ n. fold next n (map (renamed_event names) es)) (sym (hides names is m e))

  -- a step of a thread that is ahead
  near_in : (q : Noticed M) (r : Run) (t : ℕ) (near : IsNear first next file program q r) →
      IsOneOf quiet file setup reading (configuration_of file program r.state) near.last t →
      IsNear first next file program q (run_after file program r t)
  near_in q r t near d =
      let c : Configuration = configuration_of file program r.state in
      let go = step_stride file program r.state near.long t in
      let e = quick_step quiet file setup reading c t d.quick in
      let none : events_of t (step file program r.state t).did ≡ [] =
      ap (events_of t) go.0 ∙ ap (λ (p : Stride). events_of t p.did) e
      ∙ ap events_in (reading_silent t d.quick.action (reading t d.quick.action d.quick.answer d.quick.chosen)) in
      record {
        long = told_length file program r.state t near.long;
        threads = d.others;
        last = near.last;
        leads = subst (λ z. LeadsTo quiet file z d.others near.last)
            (sym (go.1 ∙ ap (λ (p : Stride). p.after) e))
            (ahead_of quiet file setup reading d.others (told c t c.store d.quick.answer) near.last d.runs);
        names = near.names;
        renaming = near.renaming;
        same = near.same;
        noted = near.noted ∙ ap (fold next first) (sym (append-nil r.history) ∙ ap (λ l. r.history ++ l) (sym none));
      }

  -- what a step of another comes to
  pub record Goes (q : Noticed M) (r : Run) (t : ℕ) : Type 0 where
    pub within : t < length program.threads
    pub acts : IsActing (stride file q.configuration t).did
    -- the same is noted after it
    pub noted : (noticed_after first next file program q t).noted ≡
        fold next first (run_after file program r t).history
    pub near : (m : ℕ) (q' : Noticed M) → GoesTo first next file program q t m q' →
        IsNear first next file program q' (run_after file program r t)

  near_out : (q : Noticed M) (r : Run) (t : ℕ) (near : IsNear first next file program q r) →
      Out t near.threads →
      IsActing (step file program r.state t).did →
      Goes q r t
  near_out q r t near out acts =
      let s : State = r.state in
      let h : List Event = r.history in
      let c : Configuration = configuration_of file program s in
      let last : Configuration = near.last in
      let names : ℕ → ℕ = near.names in
      let is : IsRenaming names = near.renaming in
      let go = step_stride file program s near.long t in
      let runs = runs_of quiet file setup reading near.threads c last near.leads in
      let e = acts_of file c t (subst IsActing go.0 acts) in
      let d = also quiet file setup reading near.threads c last t runs out e in
      let sc : stride file c t ≡ acted c t e.action e.store e.answer = stride_by file c t e in
      let sl : stride file last t ≡ acted last t e.action e.store e.answer =
      stride_by file last t d.acts ∙ ap (λ a. acted last t a d.acts.store d.acts.answer) d.action
      ∙ ap (λ z. acted last t e.action z d.acts.answer) d.store
      ∙ ap (acted last t e.action e.store) d.answer in
      let one = stride_other file names is q.configuration last near.same t in
      let dq : Did = (stride file q.configuration t).did in
      let same_did : did.Acted e.action e.answer ≡ renamed_did names dq =
      sym (ap (λ (p : Stride). p.did) sl) ∙ one.did in
      let acts_q : IsActing dq = acts_other names dq (subst IsActing same_did tt) in
      let eq = acts_of file q.configuration t acts_q in
      let did_q : dq ≡ did.Acted eq.action eq.answer =
      ap (λ (p : Stride). p.did) (stride_by file q.configuration t eq) in
      let action : e.action ≡ renamed_action names eq.action =
      same_action e.action (renamed_action names eq.action) e.answer (renamed_answer names eq.answer)
      (same_did ∙ ap (renamed_did names) did_q) in
      let unnoticed : AllSame quiet file setup reading t c.store e.store =
      λ u a x ne chosen. turns_fair.unnoticed file t eq.action names is c.store e.store e.answer
      (subst (λ z. effect file.classes c.store t z ≡ Does e.store e.answer) action e.does) u a x ne chosen in
      let along = forth quiet file setup reading near.threads c last t runs out e unnoticed in
      let noted : fold next q.noted (events_of t dq) ≡ fold next first (run_after file program r t).history =
      ap (λ n. fold next n (events_of t dq)) near.noted
      ∙ hidden_along names is (events_of t dq) (fold next first h)
      ∙ ap (fold next (fold next first h))
      (sym (ap (events_of t) (go.0 ∙ ap (λ (p : Stride). p.did) sc ∙ same_did) ∙ events_other names t dq))
      ∙ sym (fold-append next first h (events_of t (step file program s t).did)) in
      record {
        within = acts_within file program s t acts;
        acts = acts_q;
        noted = noted;
        near = λ m q' to.
            let steps : List ℕ = replicate m t in
            let more = to.reaches in
            let too = runs_renamed quiet file setup reading names is (turns_fair.fair.renamed names is) steps
            (stride file q.configuration t).after (stride file last t).after more.last one.after
            (runs_of quiet file setup reading steps (stride file q.configuration t).after more.last more.leads) in
            let behind = subst (λ z. Runs quiet file setup reading z steps too.last') (ap (λ (p : Stride). p.after) sl)
            too.runs in
            record {
              long = told_length file program s t near.long;
              threads = near.threads ++ steps;
              last = too.last';
              leads = subst (λ z. LeadsTo quiet file z (near.threads ++ steps) too.last')
                  (sym (go.1 ∙ ap (λ (p : Stride). p.after) sc))
                  (ahead_of quiet file setup reading (near.threads ++ steps) (told c t e.store e.answer) too.last'
                  (runs_on quiet file setup reading near.threads steps (told c t e.store e.answer)
                  (told last t e.store e.answer) too.last' along behind));
              names = both more.other.names names;
              renaming = both_renaming more.other.names names more.other.renaming is;
              same = renamed_both more.other.names names q'.configuration more.last too.last' more.other.same too.same;
              noted = more.noted_still ∙ noted;
            };
      }

  -- what a step comes to
  abbrev pub Covered : Noticed M → Run → ℕ → Type 0
  Covered q r t = IsNear first next file program q (run_after file program r t) ⊎ Goes q r t

  by_acting : (q : Noticed M) (r : Run) (t : ℕ) → IsNear first next file program q r →
      IsActing (step file program r.state t).did →
      Covered q r t
  by_acting q r t near acts = by_place (in_or_out t near.threads)
    where
      by_place : In t near.threads ⊎ Out t near.threads → Covered q r t
      by_place (inl there) =
          inl (near_in q r t near
          (back quiet file setup reading near.threads (configuration_of file program r.state) near.last t
          (runs_of quiet file setup reading near.threads (configuration_of file program r.state) near.last near.leads)
          there))
      by_place (inr out) = inr (near_out q r t near out acts)

  same_near : (q : Noticed M) (r r' : Run) → r'.state ≡ r.state → r'.history ≡ r.history →
      IsNear first next file program q r →
      IsNear first next file program q r'
  same_near q r r' state history near =
      subst (IsNear first next file program q)
      (λ i. record { state = sym state i; history = sym history i }) near

  by_did : (q : Noticed M) (r : Run) (t : ℕ) (d : Did) → (step file program r.state t).did ≡ d →
      IsNear first next file program q r →
      Covered q r t
  by_did q r t (did.Acted a x) e near = by_acting q r t near (subst IsActing (sym e) tt)
  by_did q r t did.Waits e near =
      inl (same_near q r (run_after file program r t) (still_stays file program r.state t (subst IsStill (sym e) tt))
      (ap (λ (k : Did). r.history ++ events_of t k) e ∙ append-nil r.history) near)
  by_did q r t did.Idle e near =
      inl (same_near q r (run_after file program r t) (still_stays file program r.state t (subst IsStill (sym e) tt))
      (ap (λ (k : Did). r.history ++ events_of t k) e ∙ append-nil r.history) near)

  -- each step of a run leaves a node near, or is one of the node's own
  pub covered : (q : Noticed M) (r : Run) (t : ℕ) → IsNear first next file program q r → Covered q r t
  covered q r t near = by_did q r t (step file program r.state t).did refl near

  -- where no thread of the run acts, none was ahead
  pub none_ahead : (q : Noticed M) (r : Run) (near : IsNear first next file program q r) →
      ((t : ℕ) → IsStill (step file program r.state t).did) →
      configuration_of file program r.state ≡ near.last
  none_ahead q r near over = by_threads near.threads near.last near.leads
    where
      by_threads : (ts : List ℕ) (last : Configuration) →
          LeadsTo quiet file (configuration_of file program r.state) ts last →
          configuration_of file program r.state ≡ last
      by_threads [] last leads = leads
      by_threads (t ∷ ts) last leads =
          let prompt = leads.0 in
          absurd (not_both (step file program r.state t).did
          (subst IsActing (sym ((step_stride file program r.state near.long t).0 ∙ prompt.did)) tt) (over t))
