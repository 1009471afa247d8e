-- Why `play_both` in src/replaying.rt keeps its clause `steps`.
use Rattle.std.proofs.Common.{◌≡◌, ◌++◌, ◌∷◌, [], ◌∙◌, ap, append_assoc, subst}
use Rattle.std.specs.Prelude.{IfOk, IfSome}
use Rattle.ls_races.specs.declared.playing.Played.{Played}
use Rattle.ls_races.proofs.replaying.play_both.Goals as goal

pub returns-clause-steps : goal.returns-clause-steps
returns-clause-steps c =
    let before = c.args.played.steps.items in
    let one = c.in-Some.one in
    let other = c.in-Some-step_of.other in
    let met = c.args.met in
    let between = subst (λ o. IfSome o (λ (after : Played). after.steps.items ≡ before ++ one ∷ [])) c.in-Some-2.is
    c.in_ok-between.ensures.steps in
    subst (λ l. IfOk c.play_one-2.result (λ o. IfSome o (λ (after : Played). after.steps.items ≡ l)))
    (ap (λ l. l ++ other ∷ []) between ∙ append_assoc before (one ∷ []) (other ∷ [])
    ∙ ap (λ n. before ++ n ∷ other ∷ []) c.in-Some.ensures
    ∙ ap (λ n. before ++ met.one ∷ n ∷ []) c.in-Some-step_of.ensures) c.play_one-2.ensures.steps
