-- Why `play_turns` in src/following.rt keeps its clause `record`.

use Rattle.std.proofs.Common.{◌<◌, ap, ◌∙◌, subst, sym}
use Rattle.ls_live.specs.Turns.{AreOver, TurnstileState}
use Rattle.ls_live.proofs.Wholes.{whole_record}
use Rattle.ls_live.proofs.following.play_turns.Goals as goal

pub returns-in-Ok-close-clause-record : goal.returns-in-Ok-close-clause-record
returns-in-Ok-close-clause-record g c =
    let opened = c.in_ok-turnstile.ensures in
    let same = c.in-Ok.ensures.turnstile in
    whole_record c.in-Ok.turnstile c.in-Ok.seats.items c.in-Ok-close.record _ _ _
    (ap (λ (t : TurnstileState). t.code) same ∙ opened.code)
    (ap (λ (t : TurnstileState). t.cells) same ∙ opened.cells) (ap (λ (t : TurnstileState). t.tape) same ∙ opened.tape)
    (subst (λ (t : TurnstileState). 0 < t.seats) (sym same) opened.some)
    (subst (λ (t : TurnstileState). AreOver t c.in-Ok.seats.items) (sym same) c.in-Ok.ensures.over)
    c.in-Ok-close.ensures.closed
