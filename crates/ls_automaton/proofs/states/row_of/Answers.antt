-- Why `row_of` in src/states.rt keeps its clauses `row` and `tree` and its loop `thread`.

use Rattle.std.proofs.Common.{◌≡◌, ◌∙◌, ◌+◌, ◌∷◌, [], ap, arith, false, length, length-append, subst, sym, true}
use Rattle.std.proofs.lemmas.List.{length-map}
use Rattle.ls_checked.specs.CheckedTree.{File}
use Rattle.ls_checked.specs.CheckedProgram.{Program}
use Rattle.ls_checked.specs.Plain.{plain_file}
use Rattle.ls_checked.specs.PlainProgram.{plain_program, plain_thread}
use Rattle.ls_serial_search.specs.Open.{HasLongCall}
use Rattle.ls_serial_search.proofs.Apart.{tree_next}
use Rattle.ls_automaton.specs.Fates.{AreFatesTo, is_long}
use Rattle.ls_automaton.specs.Spots.{schedules_of}
use Rattle.ls_automaton.proofs.Fated.{fates_more, fates_none}
use Rattle.ls_automaton.proofs.Reaching.{schedule_kept}
use Rattle.ls_automaton.proofs.Filled.{either_long, filled_all, filled_more, filled_none}
use Rattle.ls_automaton.proofs.states.row_of.Goals as goal

pub loop-thread-preserved : goal.loop-thread-preserved
loop-thread-preserved c =
    let file : File = plain_file c.args.task.now.file.now in
    let program : Program = plain_program c.args.task.now.program.now in
    record {
      filled = filled_more file program c.args.task.now.most_steps c.loop-thread.goes_on
          (is_long c.in_ok-fate.fate) c.either-goes_on.result c.args.spots.now.list.items c.loop-thread.spots.list.items
          c.ask_thread.new.spots.list.items
          c.args.steps.now c.loop-thread.thread c.loop-thread.outcomes.items c.ask_thread.new.row.items
          (λ none. let r = c.either-goes_on.ensures.none none in (r.0, sym c.is_long.ensures ∙ r.1))
          c.loop-thread.invariant.filled c.in_ok-fate.ensures.asked;
      fates = subst (AreFatesTo file program c.args.task.now.most_steps c.args.steps.now)
          (sym c.in_ok-push.ensures.items)
          (fates_more file program c.args.task.now.most_steps c.args.steps.now c.loop-thread.thread
          c.loop-thread.fates.items c.in_ok-fate.fate c.loop-thread.invariant.as_many c.loop-thread.invariant.fates
          c.in_ok-fate.ensures.fate);
      as_many = ap (λ n. n + 1) c.loop-thread.invariant.as_many
          ∙ sym (ap length c.in_ok-push.ensures.items
          ∙ length-append c.loop-thread.fates.items (c.in_ok-fate.fate ∷ []));
      long = λ goes. either_long (HasLongCall file program c.args.task.now.most_steps)
          (c.either-goes_on.ensures.one goes) c.loop-thread.invariant.long
          (λ e. c.in_ok-fate.ensures.long (sym c.is_long.ensures ∙ e));
      tree = λ place at tree. c.in_ok-fate.ensures.tree place
          (schedule_kept c.args.spots.now.list.items c.loop-thread.spots.list.items place c.args.steps.now
          c.loop-thread.invariant.filled.grows at)
          (c.loop-thread.invariant.tree place at tree);
    }

pub returns-clause-tree : goal.returns-clause-tree
returns-clause-tree c = λ place at tree.
    tree_next (plain_file c.args.task.now.file.now) (plain_program c.args.task.now.program.now)
    (schedules_of c.loop-thread.spots.list.items) place c.loop-thread.thread
    (c.loop-thread.invariant.tree place at tree)

pub returns-clause-row : goal.returns-clause-row
returns-clause-row c =
    filled_all (plain_file c.args.task.now.file.now) (plain_program c.args.task.now.program.now)
    c.args.task.now.most_steps c.loop-thread.goes_on c.args.spots.now.list.items c.loop-thread.spots.list.items
    c.args.steps.now c.loop-thread.thread c.loop-thread.outcomes.items (omega (
      arith,
      length-map c.args.task.now.program.now.threads.items plain_thread,
      c.loop-thread-test.false,
      c.len-thread-end.ensures,
    )) c.loop-thread.invariant.filled

pub loop-thread-init : goal.loop-thread-init
loop-thread-init c =
    let file : File = plain_file c.args.task.now.file.now in
    let program : Program = plain_program c.args.task.now.program.now in
    record {
      filled = filled_none file program c.args.task.now.most_steps c.args.spots.now.list.items c.args.steps.now
          c.new-outcomes.result.items c.new-outcomes.ensures.items c.requires.spots;
      fates = fates_none file program c.args.task.now.most_steps c.args.steps.now c.new-fates.result.items
          c.new-fates.ensures.items;
      as_many = sym (ap length c.new-fates.ensures.items);
      long = λ goes. absurd (apart goes);
      tree = λ place at tree. tree;
    }
  where
    apart : false ≡ true → ⊥
    apart h = cc

pub returns-clause-fates : goal.returns-clause-fates
returns-clause-fates c = record {
  each = c.loop-thread.invariant.fates;
  many = omega (
    arith,
    length-map c.args.task.now.program.now.threads.items plain_thread,
    c.loop-thread-test.false,
    c.len-thread-end.ensures,
    c.loop-thread.invariant.as_many,
  );
}
