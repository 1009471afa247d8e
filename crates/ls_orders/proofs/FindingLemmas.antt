-- Events, one after the other.
use Rattle.std.proofs.Common.{◌≡◌, ◌∙◌, ◌+◌, ◌<◌, ℕ, List, ◌∷◌, length, map, drop, get_or, sym, ap}
use Rattle.std.proofs.lemmas.List.{drop-map, drop_more}
use Rattle.ls_report.specs.Plain.{plain_event}
use Rattle.ls_report.specs.declared.history.NamedEvent.{NamedEvent}

-- the events from a place on, and the first of them
pub drop_event : (es : List NamedEvent) (i : ℕ) (e : NamedEvent) → i < length es → e ≡ get_or es i e
    → drop i (map plain_event es) ≡ plain_event e ∷ drop (i + 1) (map plain_event es)
drop_event es i e lt is =
    drop-map plain_event i es ∙ ap (map plain_event) (drop_more es i e lt) ∙
    ap (λ x. plain_event x ∷ map plain_event (drop (i + 1) es)) (sym is)
    ∙ ap (λ xs. plain_event e ∷ xs) (sym (drop-map plain_event (i + 1) es))
