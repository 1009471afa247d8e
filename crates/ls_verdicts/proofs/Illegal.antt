-- A run that is illegal has no other verdict.
use Rattle.std.proofs.Common.{◌≡◌, ◌∙◌, List, refl, sym, subst, ap, true≢false}
use Rattle.ls_events.specs.declared.event.Event.{Event as RunEvent}
use Rattle.ls_checked.specs.CheckedProgram.{Program}
use Rattle.ls_report.specs.Events.{Event}
use Rattle.ls_order_search.specs.Answers.{HasOrder, NoneIsLegal}
use Rattle.ls_orders.specs.SetCalls.{first_foreign, set_calls}
use Rattle.ls_order_search.specs.Trapped.{has_many_trapped}
use Rattle.ls_verdicts.specs.Hopeless.{IsIllegal}
use Rattle.ls_verdicts.specs.Verdicts.{IsVerdict}
use Rattle.ls_verdicts.specs.declared.verdicts.Verdict.{Verdict}
use Rattle.ls_verdicts.specs.declared.verdicts.Verdict.TheVariants as verdicts
use Rattle.ls_verdicts.proofs.HopelessRuns.{None≢Some}
use Rattle.ls_verdicts.proofs.Named.{named_is}

none_and_one : (events others : List Event) → events ≡ others → NoneIsLegal events → HasOrder others → ⊥
none_and_one events others same none one = subst NoneIsLegal same none one.0 one.1

pub only_verdict : (p : Program) (run : List RunEvent) (v : Verdict) → IsVerdict p run v → IsIllegal p run →
    v ≡ verdicts.Illegal
only_verdict p run v h r = by v h
  where
    same : (w : Verdict) (k : IsVerdict p run w) → r.events ≡ k.events
    same w k = sym (named_is p run r.events r.named) ∙ named_is p run k.events k.named

    by : (w : Verdict) → IsVerdict p run w → w ≡ verdicts.Illegal
    by verdicts.Illegal k = refl
    by verdicts.Legal k = absurd (none_and_one r.events k.events (same verdicts.Legal k) r.verdict.1 k.verdict.1)
    by verdicts.NotOneSet k = absurd (None≢Some k.verdict.0 (sym r.verdict.0.one_set
        ∙ ap first_foreign (same verdicts.NotOneSet k) ∙ k.verdict.1))
    by verdicts.TooManyTrapped k = absurd (true≢false (sym k.verdict.1
        ∙ ap (λ es. has_many_trapped (set_calls es)) (sym (same verdicts.TooManyTrapped k)) ∙ r.verdict.0.few))
