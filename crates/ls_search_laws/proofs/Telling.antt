-- What threads lead to is what a schedule leads to.
use Rattle.std.proofs.Common.{◌≡◌, ℕ, List, [], ◌∷◌, ◌++◌, fold, length, sym, ap, ◌∙◌, append_assoc, append-nil}
use Rattle.std.proofs.lemmas.List.{length-map}
use Rattle.std.proofs.lemmas.List.Sums.{fold-append}
use Rattle.ls_events.specs.declared.event.Event.{Event}
use Rattle.ls_checked.specs.CheckedTree.{File}
use Rattle.ls_checked.specs.CheckedProgram.{Program}
use Rattle.ls_meaning.specs.Runs.{State, source_history, source_run}
use Rattle.ls_search_laws.specs.Stepping.{events_of}
use Rattle.ls_search_laws.specs.Configuration.{configuration_of, stride}
use Rattle.ls_search_laws.specs.Noticing.{Noticed, TellsTruth, noticed_after, noticed_of}
use Rattle.ls_search_laws.proofs.Stepping.{one_more}
use Rattle.ls_search_laws.proofs.Covering.{holds_of_all}
use Rattle.ls_search_laws.proofs.Renamed.{step_stride, told_length}

-- each run has as many lists of answers as there are threads
pub long_of_all : (file : File) (program : Program) (schedule : List ℕ) →
    length (source_run file program schedule).answers ≡ length program.threads
long_of_all file program schedule =
    holds_of_all file program (λ s h. length s.answers ≡ length program.threads)
    (λ s h t long acts. told_length file program s t long) (length-map program.threads (λ t. [])) schedule

module _ {M : Type 0} (first : M) (next : M → Event → M) (file : File) (program : Program) where
  pair_is : (p q : Noticed M) → p.configuration ≡ q.configuration → p.noted ≡ q.noted → p ≡ q
  pair_is p q e f = ap (λ c. record p { configuration = c }) e ∙
      ap (λ n. record { configuration = q.configuration; noted = n }) f

  one_noticed : (schedule : List ℕ) (t : ℕ) →
      noticed_after first next file program (noticed_of first next file program schedule) t ≡
      noticed_of first next file program (schedule ++ t ∷ [])
  one_noticed schedule t =
      let s : State = source_run file program schedule in
      let go = step_stride file program s (long_of_all file program schedule) t in
      let more = one_more file program schedule t in
      pair_is _ _ (sym go.1 ∙ ap (configuration_of file program) (sym more.state))
      (sym (fold-append next first (source_history file program schedule)
      (events_of t (stride file (configuration_of file program s) t).did))
      ∙ ap (λ d. fold next first (source_history file program schedule ++ events_of t d)) (sym go.0)
      ∙ ap (fold next first) (sym more.history))

  pub tells_truth : TellsTruth first next file program
  tells_truth schedule [] = ap (noticed_of first next file program) (sym (append-nil schedule))
  tells_truth schedule (t ∷ path) =
      ap (λ p. fold (noticed_after first next file program) p path) (one_noticed schedule t)
      ∙ tells_truth (schedule ++ t ∷ []) path
      ∙ ap (noticed_of first next file program) (append_assoc schedule (t ∷ []) path)
