-- Whole histories as what is noted.
use Rattle.std.proofs.Common.{◌≡◌, ℕ, [], ◌∷◌, ◌++◌, Some, None, map, refl, sym, ap, ◌∙◌}
use Rattle.std.proofs.lemmas.List.{map-append}
use Rattle.ls_events.specs.declared.value.Value.{Value}
use Rattle.ls_events.specs.declared.value.Value.TheVariants.{Int, Boolean, Reference, Pair}
use Rattle.ls_events.specs.declared.event.Event.{Event}
use Rattle.ls_events.specs.declared.event.Happening.{Happening}
use Rattle.ls_events.specs.declared.event.Happening.TheVariants.{Called, Returned, Trapped}
use Rattle.ls_meaning.specs.Renamings.{renamed}
use Rattle.ls_search_laws.specs.Cells.{IsIdentity}
use Rattle.ls_search_laws.specs.Noticing.{renamed_event, renamed_happening}
use Rattle.ls_search_laws.specs.Histories.{HistoriesAreAlike, nameless, nameless_event, nameless_happening}
use Rattle.ls_search_laws.proofs.Renamed.{both_renaming}

value_nameless : (names : ℕ → ℕ) (v : Value) → nameless (renamed names v) ≡ nameless v
value_nameless names (Int z) = refl
value_nameless names (Boolean b) = refl
value_nameless names (Reference n) = refl
value_nameless names (Pair n m) = refl

happening_nameless : (names : ℕ → ℕ) (h : Happening) →
    nameless_happening (renamed_happening names h) ≡ nameless_happening h
happening_nameless names Called = refl
happening_nameless names (Returned None) = refl
happening_nameless names (Returned (Some v)) = ap (λ w. Returned (Some w)) (value_nameless names v)
happening_nameless names (Trapped kind) = refl

event_nameless : (names : ℕ → ℕ) (e : Event) → nameless_event (renamed_event names e) ≡ nameless_event e
event_nameless names e = ap (λ h. record { thread = e.thread; call = e.call; happening = h })
    (happening_nameless names e.happening)

value_same : (names : ℕ → ℕ) → IsIdentity names → (v : Value) → renamed names v ≡ v
value_same names is (Int z) = refl
value_same names is (Boolean b) = refl
value_same names is (Reference n) = ap Reference (is n)
value_same names is (Pair n m) = ap (λ k. Pair k m) (is n)

happening_same : (names : ℕ → ℕ) → IsIdentity names → (h : Happening) → renamed_happening names h ≡ h
happening_same names is Called = refl
happening_same names is (Returned None) = refl
happening_same names is (Returned (Some v)) = ap (λ w. Returned (Some w)) (value_same names is v)
happening_same names is (Trapped kind) = refl

event_same : (names : ℕ → ℕ) → IsIdentity names → (e : Event) → renamed_event names e ≡ e
event_same names is e = ap (λ h. record { thread = e.thread; call = e.call; happening = h })
    (happening_same names is e.happening)

pub histories_alike : HistoriesAreAlike
histories_alike = record {
  renamings = record { each = λ f is. is; both = both_renaming };
  nameless = record {
    along = λ l m n e f. e ∙ f;
    stays = λ names is m n e same.
        map-append nameless_event m (e ∷ [])
        ∙ ap (λ l. l ++ nameless_event e ∷ []) same
        ∙ ap (λ x. map nameless_event n ++ x ∷ []) (sym (event_nameless names e))
        ∙ sym (map-append nameless_event n (renamed_event names e ∷ []));
  };
  identities = record {
    each = λ f is. record { null = is 0; apart = λ m n e. sym (is m) ∙ e ∙ is n };
    both = λ f g p q n. q (f n) ∙ p n;
  };
  exact = record {
    along = λ l m n e f. e ∙ f;
    stays = λ names is m n e same.
        ap (λ l. l ++ e ∷ []) same ∙ ap (λ x. n ++ x ∷ []) (sym (event_same names is e));
  };
}
