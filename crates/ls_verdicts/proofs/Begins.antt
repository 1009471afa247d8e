-- Histories after more and more steps, and which of them have a legal order.
use Rattle.std.proofs.Common.{◌≡◌, ◌∙◌, ◌+◌, ◌<◌, ◌≤◌, ℕ, List, [], ◌∷◌, ◌++◌, Some, length, map, take, drop, refl, sym}
use Rattle.std.proofs.Common.{ap}
use Rattle.std.proofs.Common.{subst, arith, length-append, take-append-drop, take-take, take_all, le_of_eq}
use Rattle.std.proofs.Math.Seq.{take-append_seam}
use Rattle.std.proofs.lemmas.List.{length-map, map-append, take-map}
use Rattle.std.proofs.lemmas.List.Elements.{filter_map-append}
use Rattle.ls_events.specs.Beginnings.{IsBeginning}
use Rattle.ls_events.specs.declared.value.Value.{Value}
use Rattle.ls_checked.specs.CheckedTree.{File}
use Rattle.ls_checked.specs.CheckedProgram.{Program}
use Rattle.ls_meaning.specs.Runs.{event_of, history_of, source_history, source_step, start}
use Rattle.ls_meaning.specs.Steps.{Acted, Entry, Moved, Same, Stepped, after, run, trace, traced}
use Rattle.ls_report.specs.Events.{Event}
use Rattle.ls_report.specs.Printing.{named}
use Rattle.ls_verdicts.specs.Cuts.{IsCut, IsFirstPast, IsIllegalRun, IsLegalRun, history_to}
use Rattle.ls_verdicts.specs.Hopeless.{IsHopelessRun}

-- ---- the trace of one schedule after another

traced-append : {S L : Type 0} (d : Stepped S L) (xs ys : List L) → traced d (xs ++ ys) ≡ traced d xs ++ ys
traced-append Same xs ys = refl
traced-append (Moved s) xs ys = refl
traced-append (Acted s line) xs ys = refl

trace-append : {S L : Type 0} (does : S → ℕ → Stepped S L) (s : S) (ts us : List ℕ)
    → trace does s (ts ++ us) ≡ trace does s ts ++ trace does (run does s ts) us
trace-append does s [] us = refl
trace-append does s (t ∷ ts) us =
    ap (traced (does s t)) (trace-append does (after s (does s t)) ts us)
    ∙ traced-append (does s t) (trace does (after s (does s t)) ts)
    (trace does (run does (after s (does s t)) ts) us)

module _ (file : File) (program : Program) where
  history_begins : (ts us : List ℕ) → IsBeginning (source_history file program ts)
      (source_history file program (ts ++ us))
  history_begins ts us =
      let does = source_step file program in
      let s = start program in (
        history_of (trace does (run does s ts) us),
        sym (ap history_of (trace-append does s ts us)
            ∙ filter_map-append (λ (e : Entry Value). event_of e.thread e.action) (trace does s ts)
            (trace does (run does s ts) us)),
      )

  module _ (steps : List ℕ) where
    -- the history after fewer steps comes first
    pub begins : (m n : ℕ) → m ≤ n → IsBeginning (history_to file program steps m) (history_to file program steps n)
    begins m n le =
        let first : take m (take n steps) ≡ take m steps = take-take m n steps le in
        subst (λ l. IsBeginning (source_history file program l) (history_to file program steps n)) first
        (subst (λ l. IsBeginning (source_history file program (take m (take n steps))) (source_history file program l))
        (take-append-drop m (take n steps)) (history_begins (take m (take n steps)) (drop m (take n steps))))

    pub grows : (m n : ℕ) → m ≤ n →
        length (history_to file program steps m) ≤ length (history_to file program steps n)
    grows m n le =
        let b = begins m n le in
        let long : length (history_to file program steps m) + length b.0 ≡ length (history_to file program steps n) =
        sym (length-append (history_to file program steps m) b.0) ∙ ap length b.1 in
        omega arith

    whole : history_to file program steps (length steps) ≡ source_history file program steps
    whole = ap (source_history file program) (take_all (length steps) steps (le_of_eq refl))

    pub begins_whole : (m : ℕ) → m ≤ length steps →
        IsBeginning (history_to file program steps m) (source_history file program steps)
    begins_whole m le = subst (IsBeginning (history_to file program steps m)) whole (begins m (length steps) le)

    pub past_whole : (at : ℕ) → at < length (source_history file program steps) →
        at < length (history_to file program steps (length steps))
    past_whole at lt = subst (λ h. at < length h) (sym whole) lt

    module _ (at : ℕ) (h : IsHopelessRun program (source_history file program steps) at) where
      named_to : (m : ℕ) → m ≤ length steps → map (named program) (history_to file program steps m)
          ≡ map Some (take (length (history_to file program steps m)) h.events)
      named_to m le =
          let b = begins_whole m le in
          let first = map (named program) (history_to file program steps m) in
          let all : first ++ map (named program) b.0 ≡ map (named program) (source_history file program steps) =
          sym (map-append (named program) (history_to file program steps m) b.0) ∙ ap (map (named program)) b.1 in
          sym (take-append_seam first (map (named program) b.0)) ∙ ap (take (length first)) (all ∙ h.named.is_named)
          ∙ take-map Some (length first) h.events
          ∙ ap (λ n. map Some (take n h.events)) (length-map (history_to file program steps m) (named program))

      many : length h.events ≡ length (source_history file program steps)
      many = sym (length-map h.events (λ (e : Event). Some e)) ∙ sym (ap length h.named.is_named)
          ∙ length-map (source_history file program steps) (named program)

      -- more events happen than have a legal order
      pub is_past : at < length (source_history file program steps)
      is_past = let lt = h.hopeless.within in let same = many in omega arith

      pub legal_to : (m : ℕ) → m ≤ length steps → length (history_to file program steps m) ≤ at →
          IsLegalRun program (history_to file program steps m)
      legal_to m le short =
          (take (length (history_to file program steps m)) h.events, named_to m le, h.hopeless.before _ short)

      pub illegal_to : (m : ℕ) → m ≤ length steps → at < length (history_to file program steps m) →
          IsIllegalRun program (history_to file program steps m)
      illegal_to m le long =
          (take (length (history_to file program steps m)) h.events, named_to m le, h.hopeless.with_it _ long)

      -- the first number of steps with more events is the cut
      pub cut : (n : ℕ) → IsFirstPast file program steps at n → IsCut file program steps n
      cut n p = record {
        within = p.within;
        illegal = illegal_to n p.within p.past;
        legal = λ m lt. let le = p.within in legal_to m (omega arith) (p.before m lt);
      }
