-- Where runs stand, and how they go on from there.
use Rattle.std.proofs.Common.{◌≡◌, ℕ, List, [], ◌∷◌, length, refl, sym, ap, ◌∙◌, subst}
use Rattle.std.proofs.lemmas.List.{length-map}
use Rattle.ls_checked.specs.CheckedTree.{File}
use Rattle.ls_labels.specs.Names.{Names}
use Rattle.ls_search_laws.specs.Configuration.{Configuration, stride}
use Rattle.ls_search_laws.proofs.Renamed.{steps_stride, told_length}
use Rattle.ls_trace.specs.Told.{Told, after_step, begun, calls_after, labels_after, step_in}
use Rattle.ls_choices.specs.Alike.{Alike}
use Rattle.ls_choices.specs.Schedules.{told_after, told_from}
use Rattle.ls_choices.specs.Standing.{Standing, StandsAt, standing_after, standing_of}

from_lists : (names : Names) (r : Told) (path : List ℕ) →
    length r.state.answers ≡ length names.program.threads →
    length (told_from names r path).state.answers ≡ length names.program.threads
from_lists names r [] long = long
from_lists names r (t ∷ path) long =
    from_lists names (after_step names r t) path (told_length names.file names.program r.state t long)

-- each thread has a list of answers
pub told_lists : (names : Names) (path : List ℕ) →
    length (told_after names path).state.answers ≡ length names.program.threads
told_lists names path = from_lists names (begun names.program) path (length-map names.program.threads (λ t. []))

-- a run stands where it stands
pub stands_itself : (names : Names) (r : Told) → length r.state.answers ≡ length names.program.threads →
    StandsAt names (standing_of names r) r
stands_itself names r long = record { lists = long; is = refl }

module _ (names : Names) (s : Standing) (r : Told) (u : ℕ) (h : StandsAt names s r) where
  -- what a thread's step does there
  pub did_there : (step_in names r u).did ≡ (stride names.file s.configuration u).did
  did_there =
      (steps_stride names.file names.program r.state h.lists u).0
      ∙ ap (λ (k : Standing). (stride names.file k.configuration u).did) h.is

  -- where the run stands after the step
  pub stands_after : StandsAt names (standing_after names.file s u) (after_step names r u)
  stands_after =
      let step = steps_stride names.file names.program r.state h.lists u in
      let one : standing_of names (after_step names r u) ≡ standing_after names.file (standing_of names r) u =
      λ i. record {
        configuration = step.1 i;
        labels = labels_after r.labels (step.0 i);
        calls = calls_after r.calls u (step.0 i);
      } in
      record {
        lists = told_length names.file names.program r.state u h.lists;
        is = one ∙ ap (λ (k : Standing). standing_after names.file k u) h.is;
      }

-- after runs that stand at the same place all is told alike
pub alike_there : (names : Names) (s : Standing) (r r' : Told) → StandsAt names s r → StandsAt names s r' →
    Alike names r r'
alike_there names s r r' h k =
    let same : standing_of names r ≡ standing_of names r' = h.is ∙ sym k.is in
    record {
      state = record {
        store = ap (λ (x : Standing). x.configuration.store) same;
        lists = h.lists ∙ sym k.lists;
        continues = λ t q. ap (λ (x : Standing). x.configuration.continues t q) same;
      };
      labels = ap (λ (x : Standing). x.labels) same;
      calls = ap (λ (x : Standing). x.calls) same;
    }

-- a step that changes nothing leaves a run where it stands
pub stays_there : (file : File) (s : Standing) (u : ℕ) →
    (stride file s.configuration u).after ≡ s.configuration →
    labels_after s.labels (stride file s.configuration u).did ≡ s.labels →
    calls_after s.calls u (stride file s.configuration u).did ≡ s.calls →
    standing_after file s u ≡ s
stays_there file s u after labels calls = λ i. record { configuration = after i; labels = labels i; calls = calls i }
