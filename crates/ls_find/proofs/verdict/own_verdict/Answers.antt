-- Why `own_verdict` in src/verdict.rt keeps its contract.

use Rattle.std.proofs.Common.{◌≡◌, ◌∙◌, None, ap, false, sym, true}
use Rattle.std.specs.Prelude.{not, position}
use Rattle.std.proofs.lemmas.Result.{IfOk-weaker}
use Rattle.ls_translation.specs.Texts.{file_of, program_of}
use Rattle.ls_find.proofs.Flags.{none_down}
use Rattle.ls_find.proofs.Shown.{shown_verdict}
use Rattle.ls_find.proofs.Waits.{both_verdicts}
use Rattle.ls_find.proofs.verdict.own_verdict.Goals as goal

pub returns-then-sought : goal.returns-then-sought
returns-then-sought c =
    let linear = c.none_is_unexplained.ensures.whole (file_of c.args.image.now) (program_of c.args.image.now)
    c.args.setup c.args.rows.now c.in_ok-flags.flags.items c.requires.truth c.requires.whole c.in_ok-flags.ensures
    (none_down c.in_ok-flags.flags.items (sym (c.in-None.ensures ∙ ap (position not) c.as_slice.ensures.value))) in
    IfOk-weaker c.waiting_verdict.result _ _
    (λ v said states. both_verdicts None (file_of c.args.image.now) (program_of c.args.image.now) states c.args.sought v
    c.if-sought.true linear (said states)) c.waiting_verdict.ensures

pub returns-in-None : goal.returns-in-None
returns-in-None c = λ states. record {
  linearizable = c.none_is_unexplained.ensures.whole (file_of c.args.image.now) (program_of c.args.image.now)
      c.args.setup c.args.rows.now c.in_ok-flags.flags.items c.requires.truth c.requires.whole c.in_ok-flags.ensures
      (none_down c.in_ok-flags.flags.items (sym (c.in-None.ensures ∙ ap (position not) c.as_slice.ensures.value)));
  waits = λ up. absurd (up_down (sym up ∙ c.if-sought.false));
}
  where
    up_down : true ≡ false → ⊥
    up_down e = cc

pub returns : goal.returns
returns c =
    IfOk-weaker c.bad_row.result _ _
    (λ v shows states. shown_verdict (file_of c.args.image.now) (program_of c.args.image.now)
    c.args.setup c.args.rows.now
    c.in_ok-flags.flags.items c.in-Some.at c.none_is_unexplained.ensures.unexplained c.requires.truth c.requires.whole
    c.in_ok-flags.ensures (sym (c.in-Some.ensures ∙ ap (position not) c.as_slice.ensures.value)) states c.args.sought v
    shows) c.bad_row.ensures
