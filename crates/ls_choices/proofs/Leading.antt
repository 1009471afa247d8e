-- The states to which walks over a graph lead.
use Rattle.std.proofs.Common.{◌≡◌, ℕ, List, [], ◌∷◌, ◌++◌, refl, sym, ap, ◌∙◌, subst, Option, None, Some}
use Rattle.std.specs.Prelude.{slice_get}
use Rattle.std.specs.Option.{option_and_then}
use Rattle.ls_labels.specs.Names.{Names}
use Rattle.ls_trace.specs.Told.{Told, after_step, begun}
use Rattle.ls_choices.specs.Alike.{Alike}
use Rattle.ls_choices.specs.Schedules.{told_after, told_from}
use Rattle.ls_choices.specs.Rows.{Graph, IsGraphFrom, LeadsTo, Row}
use Rattle.ls_choices.specs.Walks.{end_along}
use Rattle.ls_choices.specs.Laws.{WalksLead}
use Rattle.ls_choices.proofs.Steps.{after_alike, alike_then}
use Rattle.ls_choices.proofs.Tracing.{alike_self}

from_append : (names : Names) (r : Told) (ss ts : List ℕ) →
    told_from names r (ss ++ ts) ≡ told_from names (told_from names r ss) ts
from_append names r [] ts = refl
from_append names r (s ∷ ss) ts = from_append names (after_step names r s) ss ts

-- a walk from a state leads to one like that after a run that is like the first
abbrev Leads : Names → Graph → ℕ → List ℕ → Type 0
Leads names g number ts = (path : List ℕ) (r : Told) (n : ℕ) → slice_get g.paths number ≡ Some path →
    Alike names r (told_after names path) → end_along g number ts ≡ Some n →
    LeadsTo names g.paths (told_from names r ts) n

leads_along : (names : Names) (first : List ℕ) (g : Graph) → IsGraphFrom names first g →
    (ts : List ℕ) (number : ℕ) → Leads names g number ts
leads_along names first g is [] number path r n at like e =
    let same : number ≡ n = cc in
    record { path = path; found = ap (slice_get g.paths) (sym same) ∙ at; alike = like }
leads_along names first g is (t ∷ ts) number path r n at like e =
    by_rows (λ to. leads_along names first g is ts to) (slice_get g.rows number) refl e
  where
    by_to : ((to : ℕ) → Leads names g to ts) → (row : Row) (rows : List Row) (to : Option ℕ) →
        slice_get g.rows number ≡ Some rows → slice_get rows t ≡ Some row → row.to ≡ to →
        option_and_then (λ m. end_along g m ts) to ≡ Some n →
        LeadsTo names g.paths (told_from names (after_step names r t) ts) n
    by_to on row rows None er ew et e = absurd (cc)
    by_to on row rows (Some to) er ew et e =
        let leads = (is.rows number path rows at er t row ew).leads to et in
        on to leads.path (after_step names r t) n leads.found
        (alike_then names (after_step names r t) (after_step names (told_after names path) t)
        (told_after names leads.path) (after_alike names r (told_after names path) t like) leads.alike) e

    by_row : ((to : ℕ) → Leads names g to ts) → (rows : List Row) (row : Option Row) →
        slice_get g.rows number ≡ Some rows → slice_get rows t ≡ row →
        option_and_then (λ w. option_and_then (λ m. end_along g m ts) w.to) row ≡ Some n →
        LeadsTo names g.paths (told_from names (after_step names r t) ts) n
    by_row on rows None er ew e = absurd (cc)
    by_row on rows (Some row) er ew e = by_to on row rows row.to er ew refl e

    by_rows : ((to : ℕ) → Leads names g to ts) → (rows : Option (List Row)) → slice_get g.rows number ≡ rows →
        option_and_then (λ w. option_and_then (λ m. end_along g m ts) w.to)
        (option_and_then (λ l. slice_get l t) rows) ≡ Some n →
        LeadsTo names g.paths (told_from names (after_step names r t) ts) n
    by_rows on None er e = absurd (cc)
    by_rows on (Some rows) er e = by_row on rows (slice_get rows t) er refl e

pub walks_lead : WalksLead
walks_lead names first g is ts n e =
    subst (λ r. LeadsTo names g.paths r n) (sym (from_append names (begun names.program) first ts))
    (leads_along names first g is ts 0 first (told_after names first) n is.begins
    (alike_self names (told_after names first)) e)
