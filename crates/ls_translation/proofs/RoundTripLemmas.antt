-- What is translated, and translated back.
use Rattle.std.proofs.Common.{◌≡◌, ℕ, List, [], ◌∷◌, map, refl, sym, ap, ◌∙◌}
use Rattle.std.proofs.Math.Logic.{∥∥₁_elim}
use Rattle.std.proofs.Props.{props}
use Rattle.ls_events.specs.declared.value.Value.{Value}
use Rattle.ls_checked.specs.CheckedTree.{File}
use Rattle.ls_checked.specs.CheckedProgram.{Program}
use Rattle.ls_meaning.specs.Steps as source
use Rattle.ls_code.specs.Code.{Code}
use Rattle.ls_code.specs.Machine.{Entry}
use Rattle.ls_preservation.specs.InWords.{Agree, births, in_words, numbered}
use Rattle.ls_preservation.specs.Same.{Fits, IsCells, Same}
use Rattle.ls_preservation.specs.Translations.{to_source, to_machine}
use Rattle.ls_linker.specs.Runs.{Runs}
use Rattle.ls_translation.specs.RoundTrips.{TranslatesBack, acting_steps}
use Rattle.ls_translation.proofs.Promises.{events_prop}

same_threads : (ρ : ℕ → ℕ) (es : List (source.Entry Value)) →
    map (λ (f : Entry). f.thread) (map (in_words ρ) es) ≡ map (λ (e : source.Entry Value). e.thread) es
same_threads ρ [] = refl
same_threads ρ (e ∷ es) = ap (λ l. e.thread ∷ l) (same_threads ρ es)

-- traces that agree are of the same threads
threads_agree : (fs : List Entry) (es : List (source.Entry Value)) →
    Agree fs es →
    map (λ (f : Entry). f.thread) fs ≡ map (λ (e : source.Entry Value). e.thread) es
threads_agree fs es h = ap (map (λ (f : Entry). f.thread)) h ∙ same_threads (numbered (births fs)) es

module _ (file : File) (program : Program) (code : Code) (same : Same file program code) (cells : ℕ)
    (good : IsCells code cells) where
  back_threads : (ts : List ℕ) → to_source code cells ts ≡ acting_steps file program (to_source code cells ts)
  back_threads ts = threads_agree _ _ (same.back cells good ts).traces

  forth_threads : (ts : List ℕ) →
      Fits file program cells ts →
      to_source code cells (to_machine file program code cells ts) ≡ acting_steps file program ts
  forth_threads ts fits = threads_agree _ _ (same.forth cells good ts fits).traces

  translates_back : TranslatesBack file program code cells
  translates_back = record {
    to_source_again = forth_threads;
    source_history_again = λ ts fits. sym (same.back cells good (to_machine file program code cells ts)).histories ∙
        (same.forth cells good ts fits).histories;
    machine_history_again = λ ts fits. (same.forth cells good (to_source code cells ts) fits).histories ∙
        sym (same.back cells good ts).histories;
    once_more = λ ts fits. forth_threads (to_source code cells ts) fits ∙ sym (back_threads ts);
  }

back_prop : (file : File) (program : Program) (code : Code) (cells : ℕ) →
    IsProp (TranslatesBack file program code cells)
back_prop file program code cells = hlevel (props, events_prop)

pub runs_back : (file : File) (program : Program) (code : Code) →
    ∥ Runs file program code ∥₁ →
    (cells : ℕ) →
    IsCells code cells →
    TranslatesBack file program code cells
runs_back file program code runs cells good = ∥∥₁_elim runs (back_prop file program code cells)
    (λ r. translates_back file program code r.same cells good)
