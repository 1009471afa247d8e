-- Why `setup_steps` in src/setup.rt keeps its loop `turn`.

use Rattle.std.proofs.Common.{◌≡◌, true, [], ◌∷◌, ◌++◌, ◌∙◌, ap, refl, rules, subst, sym}
use Rattle.std.proofs.lemmas.List.{replicate-append-replicate}
use Rattle.std.proofs.lemmas.List.Elements.{All-push, All-same}
use Rattle.ls_labels.specs.Names.{names_of}
use Rattle.ls_trace.specs.SeenTeller.{told_of}
use Rattle.ls_trace.specs.Told.{after_step, begun, step_in}
use Rattle.ls_choices.specs.Schedules.{acts, is_action, told_after}
use Rattle.ls_choices.proofs.Seeing.{from_more}
use Rattle.ls_search_laws.specs.Stepping.{ActAll}
use Rattle.ls_page.proofs.SettingUp.{acts_on}
use Rattle.ls_page.proofs.setup.setup_steps.Goals as goal

pub loop-turn-preserved : goal.loop-turn-preserved
loop-turn-preserved c =
    let names = names_of c.args.names in
    let inv = c.loop-turn.invariant in
    let steps = c.loop-turn.steps.items in
    let pushed : c.push.new.self.items ≡ steps ++ 0 ∷ [] = c.in_ok-push.ensures.items in
    let did_is : c.in_ok-did.did ≡ (step_in names (told_after names steps) 0).did =
    c.in_ok-did.ensures.did
    ∙ ap (λ n. (step_in n (told_of c.loop-turn.teller) 0).did) inv.names
    ∙ ap (λ r. (step_in names r 0).did) inv.run in
    let acted : acts names (told_after names steps) 0 ≡ true = sym (ap is_action did_is) ∙ (search rules) in
    record {
      run = c.in_ok-did.ensures.run
          ∙ ap (λ n. after_step n (told_of c.loop-turn.teller) 0) inv.names
          ∙ ap (λ r. after_step names r 0) inv.run
          ∙ sym (ap (told_after names) pushed ∙ from_more names (begun names.program) steps 0);
      names = c.step.ensures.names ∙ inv.names;
      runs = c.in_ok-did.ensures.runs;
      alone = All-same (λ t. t ≡ 0) c.push.new.self.items (steps ++ 0 ∷ []) pushed
          (All-push (λ t. t ≡ 0) steps 0 inv.alone refl);
      acts = subst (ActAll names.file names.program) (sym pushed) (acts_on names steps 0 inv.acts acted);
      zeros = pushed ∙ ap (λ l. l ++ 0 ∷ []) inv.zeros ∙ replicate-append-replicate c.loop-turn.turn 1 0;
    }
