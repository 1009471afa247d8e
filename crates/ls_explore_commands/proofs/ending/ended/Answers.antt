-- Why `ended` in src/ending.rt keeps its contract.
use Rattle.ls_explore.specs.Faults.{AreBadStates}
use Rattle.ls_explore_commands.specs.Endings.{NoStates, Tells}
use Rattle.ls_explore_commands.proofs.Decisions.{not_both}
use Rattle.ls_explore_commands.proofs.EndingLemmas.{same_calls, same_written, says}
use Rattle.ls_explore_commands.proofs.ending.ended.Goals as goal

pub returns-then-are_bad_states : goal.returns-then-are_bad_states
returns-then-are_bad_states c = NoStates (c.are_bad_states.ensures.0 c.if-are_bad_states.true)

pub returns : goal.returns
returns c =
    let i = c.args.image.now in
    let good : ¬ AreBadStates c.args.states =
    λ bad. not_both (c.are_bad_states.ensures.1 bad) c.if-are_bad_states.false in
    let ends = c.in_ok-ends.ends in
    let texts = c.in_ok-texts.texts.items in
    let text = same_calls _ _ i _ texts c.args.states ends.states ends.complete
    c.program-2.ensures c.deref-2.ensures.value
    c.in_ok-text.ensures in
    says i c.args.again c.args.states _ _ text
    (Tells ends.calls.items texts ends.states ends.complete good c.in_ok-ends.ensures.listed c.in_ok-ends.ensures.ends
    c.in_ok-ends.ensures.once
    (same_written _ i _ ends.calls.items texts c.program.ensures c.deref.ensures.value c.in_ok-texts.ensures))
