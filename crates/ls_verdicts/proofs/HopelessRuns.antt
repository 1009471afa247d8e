-- Where an outcome is hopeless.
use Rattle.std.proofs.Common.{◌≡◌, ◌∙◌, List, Option, Some, None, IfNone, IfSome, sym, subst, ap, true≢false}
use Rattle.std.proofs.Common.{map, string_bytes}
use Rattle.ls_events.specs.declared.event.Event.{Event as RunEvent}
use Rattle.ls_checked.specs.CheckedProgram.{Program}
use Rattle.ls_report.specs.Events.{Event}
use Rattle.ls_order_search.specs.Answers.{IsOutcome, NoneIsLegal}
use Rattle.ls_order_search.specs.declared.judging.OrderAnswer.{OrderAnswer}
use Rattle.ls_order_search.specs.declared.judging.OrderAnswer.TheVariants as outcomes
use Rattle.ls_orders.specs.SetCalls.{first_foreign, set_calls}
use Rattle.ls_order_search.specs.Trapped.{has_many_trapped}
use Rattle.ls_verdicts.specs.Hopeless.{IsHopelessRun, IsIllegal, hopeless_at}
use Rattle.ls_verdicts.specs.Verdicts.{IsNamed}
use Rattle.ls_verdicts.proofs.Named.{named_is}

pub None≢Some : {A : Type 0} (x : A) → None ≡ Some x → ⊥
None≢Some {A} x e = subst (λ o. by o) e tt
  where
    by : Option A → Type 0
    by None = Unit {0}
    by (Some y) = ⊥

module _ (p : Program) (run : List RunEvent) (events : List Event) (n : IsNamed p run events) where
  pub outcome_hopeless : (outcome : OrderAnswer) →
      IsOutcome events outcome →
      IfSome (hopeless_at outcome) (IsHopelessRun p run)
  outcome_hopeless (outcomes.NotOneSet call) h = tt
  outcome_hopeless outcomes.TooManyTrapped h = tt
  outcome_hopeless (outcomes.Legal order) h = tt
  outcome_hopeless (outcomes.Hopeless at order) h =
      record { events = events; named = n; decided = h.0; hopeless = h.1 }

  -- the events of a verdict on it are these
  same : (r : IsIllegal p run) → r.events ≡ events
  same r = sym (named_is p run r.events r.named) ∙ named_is p run events n

  pub outcome_other : (outcome : OrderAnswer) →
      IsOutcome events outcome →
      IfNone (hopeless_at outcome) (¬ IsIllegal p run)
  outcome_other (outcomes.NotOneSet call) h =
      λ r. None≢Some h.0 (sym r.verdict.0.one_set ∙ ap first_foreign (same r) ∙ h.1)
  outcome_other outcomes.TooManyTrapped h =
      λ r. true≢false (sym h.1 ∙ ap (λ es. has_many_trapped (set_calls es)) (sym (same r)) ∙ r.verdict.0.few)
  outcome_other (outcomes.Legal order) h =
      λ r. subst NoneIsLegal (same r) r.verdict.1 (map string_bytes order.items) h.1
  outcome_other (outcomes.Hopeless at order) h = tt
