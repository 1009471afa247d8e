-- An action is told as its head and the value that it writes.
use Rattle.std.proofs.Common.{◌≡◌, ℕ, List, ◌++◌, ap, ◌∙◌}
use Rattle.std.specs.Prelude.{codes}
use Rattle.std.proofs.lemmas.List.{append_assoc, append-nil}
use Rattle.ls_events.specs.declared.value.Value.{Value}
use Rattle.ls_events.specs.declared.action.Action.{Action}
use Rattle.ls_events.specs.declared.action.Action.TheVariants as actions
use Rattle.ls_report.specs.Events.{Text}
use Rattle.ls_labels.specs.declared.label.Label.{Label}
use Rattle.ls_labels.specs.Names.{Names}
use Rattle.ls_labels.specs.Objects.{value_text}
use Rattle.ls_labels.specs.Words.{action_text, field_text}
use Rattle.ls_trace.specs.Deeds.{head_text, tail_text}

-- the head and the value of an action are its whole text
pub whole_action : (names : Names) (ls : List Label) (thread : ℕ) (a : Action Value) →
    head_text names ls thread a ++ tail_text names ls a ≡ action_text names ls thread a
whole_action names ls thread (actions.WriteField o field v) =
    ap (λ t. codes "writes " ++ t) (append_assoc (field_text names ls o field) (codes ": ") (value_text names ls v))
whole_action names ls thread (actions.ReadField o field) = append-nil _
whole_action names ls thread (actions.ReadItem o i) = append-nil _
whole_action names ls thread (actions.WriteItem o i v) = append-nil _
whole_action names ls thread (actions.ReadName n) = append-nil _
whole_action names ls thread (actions.WriteName n v) = append-nil _
whole_action names ls thread (actions.New n) = append-nil _
whole_action names ls thread actions.NewLock = append-nil _
whole_action names ls thread (actions.NewMarkable v) = append-nil _
whole_action names ls thread (actions.NewArray i) = append-nil _
whole_action names ls thread (actions.Lock o) = append-nil _
whole_action names ls thread (actions.Unlock o) = append-nil _
whole_action names ls thread (actions.TryLock o) = append-nil _
whole_action names ls thread (actions.IsHeld o) = append-nil _
whole_action names ls thread (actions.LockMonitor o) = append-nil _
whole_action names ls thread (actions.UnlockMonitor o) = append-nil _
whole_action names ls thread (actions.ReadPair o) = append-nil _
whole_action names ls thread (actions.SetPair o v) = append-nil _
whole_action names ls thread (actions.SwapPair o e n) = append-nil _
whole_action names ls thread (actions.AttemptMark o r m) = append-nil _
whole_action names ls thread actions.Turn = append-nil _
whole_action names ls thread (actions.Enter m) = append-nil _
whole_action names ls thread (actions.Call c) = append-nil _
whole_action names ls thread (actions.Return c v) = append-nil _
whole_action names ls thread (actions.Trap c k) = append-nil _

-- where the head was told after the thread, and then the value
pub told_whole : (names : Names) (ls : List Label) (thread : ℕ) (a : Action Value) (old who deed before after : Text) →
    before ≡ old ++ (who ++ deed) →
    deed ≡ head_text names ls thread a →
    after ≡ before ++ tail_text names ls a →
    after ≡ old ++ (who ++ action_text names ls thread a)
told_whole names ls thread a old who deed before after eb ed ea =
    ea
    ∙ ap (λ t. t ++ tail_text names ls a) (eb ∙ ap (λ d. old ++ (who ++ d)) ed)
    ∙ append_assoc old (who ++ head_text names ls thread a) (tail_text names ls a)
    ∙ ap (λ t. old ++ t) (append_assoc who (head_text names ls thread a) (tail_text names ls a)
    ∙ ap (λ t. who ++ t) (whole_action names ls thread a))
