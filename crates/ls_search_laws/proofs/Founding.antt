-- A step from what is found is found.
use Rattle.std.proofs.Common.{◌≡◌, ◌⊎◌, inl, inr, ℕ, ◌<◌, true, false, List, [], ◌∷◌, ◌++◌, fold, map}
use Rattle.std.proofs.Common.{Contains, sym, ap, ◌∙◌, subst}
use Rattle.ls_events.specs.declared.value.Value.{Value}
use Rattle.ls_events.specs.declared.action.Action.{Action}
use Rattle.ls_events.specs.declared.action.Answer.{Answer}
use Rattle.ls_events.specs.declared.event.Event.{Event}
use Rattle.ls_checked.specs.CheckedTree.{File}
use Rattle.ls_meaning.specs.declared.step.Did.{Did}
use Rattle.ls_meaning.specs.declared.step.Did.TheVariants as did
use Rattle.ls_meaning.specs.Effect.{Does, effect}
use Rattle.ls_meaning.specs.Renamings.{IsRenaming, renamed_action, renamed_answer}
use Rattle.ls_meaning.specs.Still.{IsActing}
use Rattle.ls_search_laws.specs.Stepping.{events_in, events_of}
use Rattle.ls_search_laws.specs.AtOnce.{Choice, IsReading}
use Rattle.ls_search_laws.specs.Configuration.{Configuration, Stride, renamed_did, stride}
use Rattle.ls_search_laws.specs.Noticing.{AreRenamings, IsAlikeUnder, Noticed, renamed_event}
use Rattle.ls_search_laws.specs.Search.{IsFair, IsFound, IsUnnoticed, LeadsTo}
use Rattle.ls_search_laws.proofs.Reading.{reading_silent}
use Rattle.ls_search_laws.proofs.Renamed.{both, events_other, renamed_both, stride_other}
use Rattle.ls_search_laws.proofs.Strides.{acted, acts_of, stride_by, told}
use Rattle.ls_search_laws.proofs.AtOnce.{quick_step, ahead_of, IsOneOf, Out, Runs, runs_of, runs_on, also, AllSame}
use Rattle.ls_search_laws.proofs.AtOnce.{forth, In, in_or_out, back}
use Rattle.ls_search_laws.proofs.AtOnceRenamed.{runs_renamed}

pub acts_other : (names : ℕ → ℕ) (d : Did) → IsActing (renamed_did names d) → IsActing d
acts_other names (did.Acted a x) acts = tt
acts_other names did.Waits acts = acts
acts_other names did.Idle acts = acts

same_action : (a b : Action Value) (x y : Answer Value) → did.Acted a x ≡ did.Acted b y → a ≡ b
same_action a b x y h = cc

module _ {M : Type 0} (next : M → Event → M) (quiet : Choice) (Names : (ℕ → ℕ) → Type 0) (Alike : M → M → Type 0)
    (file : File) where
  -- one step of a thread
  abbrev pub after_step : Noticed M → ℕ → Noticed M
  after_step p t = record {
    configuration = (stride file p.configuration t).after;
    noted = fold next p.noted (events_of t (stride file p.configuration t).did);
  }

  -- steps from the list lead to the list, and change no answers of others that are taken at once
  pub record AreClosed (threads : ℕ) (pairs : List (Noticed M)) : Type 0 where
    pub names : AreRenamings Names
    pub alike : IsAlikeUnder Names next Alike
    pub fair : IsFair quiet Names
    pub more : (p : Noticed M) (t : ℕ) → Contains pairs p → t < threads → IsActing (stride file p.configuration t).did →
        IsFound quiet Names Alike file pairs (after_step p t)
    pub unnoticed : (p : Noticed M) (t : ℕ) (action : Action Value) (answer : Answer Value) → Contains pairs p →
        (stride file p.configuration t).did ≡ did.Acted action answer → IsUnnoticed quiet Names file t action

  module _ (threads : ℕ) (pairs : List (Noticed M)) (closed : AreClosed threads pairs) where
    abbrev setup : (a : Action Value) (x : Answer Value) → quiet 0 a x ≡ false
    setup = closed.fair.setup

    abbrev reading : (t : ℕ) (a : Action Value) (x : Answer Value) → quiet t a x ≡ true → IsReading a
    reading = closed.fair.reading

    stays_along : (names : ℕ → ℕ) → Names names → (es : List Event) (m n : M) → Alike m n →
        Alike (fold next m es) (fold next n (map (renamed_event names) es))
    stays_along names is [] m n a = a
    stays_along names is (e ∷ es) m n a = stays_along names is es (next m e) (next n (renamed_event names e))
        (closed.alike.stays names is m n e a)

    module _ (p : Noticed M) (t : ℕ) (has : IsFound quiet Names Alike file pairs p) where
      abbrev c : Configuration
      c = p.configuration

      -- a step of a thread that is ahead
      found_in : IsOneOf quiet file setup reading c has.last t → IsFound quiet Names Alike file pairs (after_step p t)
      found_in d =
          let e = quick_step quiet file setup reading c t d.quick in
          let none : events_of t (stride file c t).did ≡ [] =
          ap (λ (p : Stride). events_of t p.did) e
          ∙ ap events_in (reading_silent t d.quick.action (reading t d.quick.action d.quick.answer d.quick.chosen)) in
          record {
            pair = has.pair;
            there = has.there;
            threads = d.others;
            last = has.last;
            leads = subst (λ z. LeadsTo quiet file z d.others has.last) (sym (ap (λ (p : Stride). p.after) e))
                (ahead_of quiet file setup reading d.others (told c t c.store d.quick.answer) has.last d.runs);
            names = has.names;
            allowed = has.allowed;
            same = has.same;
            alike = subst (λ l. Alike has.pair.noted (fold next p.noted l)) (sym none) has.alike;
          }

      -- a step of another
      found_out : Out t has.threads → t < threads → IsActing (stride file c t).did →
          IsFound quiet Names Alike file pairs (after_step p t)
      found_out out within acts =
          let q : Noticed M = has.pair in
          let last : Configuration = has.last in
          let names : ℕ → ℕ = has.names in
          let is : IsRenaming names = closed.names.each names has.allowed in
          let runs = runs_of quiet file setup reading has.threads c last has.leads in
          let e = acts_of file c t acts in
          let d = also quiet file setup reading has.threads c last t runs out e in
          let sc : stride file c t ≡ acted c t e.action e.store e.answer = stride_by file c t e in
          let sl : stride file last t ≡ acted last t e.action e.store e.answer =
          stride_by file last t d.acts ∙ ap (λ a. acted last t a d.acts.store d.acts.answer) d.action
          ∙ ap (λ z. acted last t e.action z d.acts.answer) d.store
          ∙ ap (acted last t e.action e.store) d.answer in
          let one = stride_other file names is q.configuration last has.same t in
          let dq : Did = (stride file q.configuration t).did in
          let same_did : did.Acted e.action e.answer ≡ renamed_did names dq =
          sym (ap (λ (p : Stride). p.did) sl) ∙ one.did in
          let acts_q : IsActing dq = acts_other names dq (subst IsActing same_did tt) in
          let eq = acts_of file q.configuration t acts_q in
          let did_q : dq ≡ did.Acted eq.action eq.answer =
          ap (λ (p : Stride). p.did) (stride_by file q.configuration t eq) in
          let action : e.action ≡ renamed_action names eq.action =
          same_action e.action (renamed_action names eq.action) e.answer (renamed_answer names eq.answer)
          (same_did ∙ ap (renamed_did names) did_q) in
          let unnoticed : AllSame quiet file setup reading t c.store e.store =
          λ u a x ne chosen. closed.unnoticed q t eq.action eq.answer has.there did_q names has.allowed c.store e.store
          e.answer (subst
          (λ z. effect file.classes c.store t z ≡ Does e.store e.answer) action e.does) u a x ne chosen in
          let more = closed.more q t has.there within acts_q in
          let along = forth quiet file setup reading has.threads c last t runs out e unnoticed in
          let too = runs_renamed quiet file setup reading names is (closed.fair.renamed names has.allowed)
          more.threads
          (stride file q.configuration t).after (stride file last t).after more.last one.after
          (runs_of quiet file setup reading more.threads (stride file q.configuration t).after more.last more.leads) in
          let behind = subst (λ z. Runs quiet file setup reading z more.threads too.last') (ap (λ (p : Stride). p.after)
          sl)
          too.runs in
          record {
            pair = more.pair;
            there = more.there;
            threads = has.threads ++ more.threads;
            last = too.last';
            leads = subst (λ z. LeadsTo quiet file z (has.threads ++ more.threads) too.last')
                (sym (ap (λ (p : Stride). p.after) sc))
                (ahead_of quiet file setup reading (has.threads ++ more.threads) (told c t e.store e.answer)
                too.last'
                (runs_on quiet file setup reading has.threads more.threads (told c t e.store e.answer)
                (told last t e.store e.answer) too.last' along behind));
            names = both more.names names;
            allowed = closed.names.both more.names names more.allowed has.allowed;
            same = renamed_both more.names names more.pair.configuration more.last too.last' more.same too.same;
            alike = closed.alike.along more.pair.noted (fold next q.noted (events_of t dq))
                (fold next p.noted (events_of t (stride file c t).did)) more.alike
                (subst (λ es. Alike (fold next q.noted (events_of t dq)) (fold next p.noted es))
                (sym (ap (events_of t) (ap (λ (p : Stride). p.did) sc ∙ same_did) ∙ events_other names t dq))
                (stays_along names has.allowed (events_of t dq) q.noted p.noted has.alike));
          }

      -- so it is of each step
      pub found_step : t < threads → IsActing (stride file c t).did →
          IsFound quiet Names Alike file pairs (after_step p t)
      found_step within acts = by_place (in_or_out t has.threads)
        where
          by_place : In t has.threads ⊎ Out t has.threads → IsFound quiet Names Alike file pairs (after_step p t)
          by_place (inl there) = found_in
              (back quiet file setup reading has.threads c has.last t
              (runs_of quiet file setup reading has.threads c has.last has.leads) there)
          by_place (inr out) = found_out out within acts
