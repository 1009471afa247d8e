-- The lines of the steps that are left.
use Rattle.std.proofs.Common.{◌≡◌, ℕ, ◌+◌, ◌<◌, ◌≤◌, List, [], ◌∷◌, ◌++◌, length, drop, get_or, sym}
use Rattle.std.proofs.Common.{ap, ◌∙◌}
use Rattle.std.specs.Prelude.{nat_le, if◌then◌else◌}
use Rattle.std.proofs.lemmas.List.{append_assoc, append-nil, drop_all, drop_more}
use Rattle.ls_meaning.specs.declared.step.Did.{Did}
use Rattle.ls_report.specs.Events.{Text}
use Rattle.ls_labels.specs.Names.{Names}
use Rattle.ls_trace.specs.Told.{Told, after_step, step_in}
use Rattle.ls_trace.specs.Lines.{line, lines}

-- the line of a step, if it is told
abbrev pub told_line : Names → ℕ → ℕ → Told → ℕ → Did → Text
told_line names from number r thread did = if nat_le from number then line names number r thread did else []

-- the lines so far and those of the steps that are left
abbrev pub rest_of : Names → ℕ → ℕ → Told → Text → List ℕ → Text
rest_of names from number r text ts = text ++ lines names from number r ts

one_more : (names : Names) (from number t : ℕ) (r r' : Told) (did : Did) (ts : List ℕ) (text : Text) →
    r' ≡ after_step names r t → did ≡ (step_in names r t).did →
    (text ++ told_line names from number r' t did) ++ lines names from (number + 1) r' ts ≡ text ++
    lines names from number r (t ∷ ts)
one_more names from number t r r' did ts text er ed =
    append_assoc text (told_line names from number r' t did) (lines names from (number + 1) r' ts)
    ∙ ap (λ d. text ++ (told_line names from number r' t d ++ lines names from (number + 1) r' ts)) ed
    ∙ ap (λ q. text ++ (told_line names from number q t (step_in names r t).did ++ lines names from (number + 1) q ts))
    er

-- after one more step
pub rest_after : (names : Names) (from number i d : ℕ) (r r' : Told) (did : Did) (ts : List ℕ) (text text' whole : Text)
    →
    i < length ts →
    r' ≡ after_step names r (get_or ts i d) →
    did ≡ (step_in names r (get_or ts i d)).did →
    text' ≡ text ++ told_line names from number r' (get_or ts i d) did →
    rest_of names from number r text (drop i ts) ≡ whole →
    rest_of names from (number + 1) r' text' (drop (i + 1) ts) ≡ whole
rest_after names from number i d r r' did ts text text' whole within er ed et h =
    ap (λ t. rest_of names from (number + 1) r' t (drop (i + 1) ts)) et
    ∙ one_more names from number (get_or ts i d) r r' did (drop (i + 1) ts) text er ed
    ∙ ap (rest_of names from number r text) (sym (drop_more ts i d within))
    ∙ h

-- where no steps are left
pub at_end : (names : Names) (from number i : ℕ) (r : Told) (text : Text) (ts : List ℕ) →
    length ts ≤ i →
    text ≡ rest_of names from number r text (drop i ts)
at_end names from number i r text ts h =
    sym (ap (rest_of names from number r text) (drop_all i ts h) ∙ append-nil text)
