-- Why `states_of` in src/states.rt keeps its contract and its loop `task`.

use Rattle.std.proofs.Common.{◌≡◌, ◌∙◌, ◌∷◌, [], Some, ◌+◌, ap, arith, false, List, length, length-append}
use Rattle.std.proofs.Common.{slice_get, subst, sym, true}
use Rattle.std.specs.declared.vec.Vec.{Vec}
use Rattle.std.specs.declared.alloc.Global.{Global}
use Rattle.ls_automaton.specs.declared.outcome.Outcome.{Outcome}
use Rattle.ls_serial_search.specs.Tree.{IsTree}
use Rattle.ls_automaton.proofs.Treed.{first_tree, many_orders}
use Rattle.ls_checked.specs.CheckedTree.{File}
use Rattle.ls_checked.specs.CheckedProgram.{Program}
use Rattle.ls_checked.specs.Plain.{plain_file}
use Rattle.ls_checked.specs.PlainProgram.{plain_program}
use Rattle.ls_meaning.specs.Runs.{source_history}
use Rattle.ls_serial.specs.Serial.{IsSerial}
use Rattle.ls_search_laws.specs.Stepping.{ActAll}
use Rattle.ls_serial_search.specs.Open.{HasLongCall}
use Rattle.ls_automaton.specs.Spots.{IsFound, schedules_of}
use Rattle.ls_automaton.proofs.Filled.{AreFilled, acting_to, either_long, filled_whole, filled_first, filled_on}
use Rattle.ls_automaton.proofs.Filled.{map_length, serial_to}
use Rattle.ls_automaton.proofs.Fated.{AreFated, fated_none, fated_on, fated_states}
use Rattle.ls_automaton.specs.Fates.{AreFates}
use Rattle.ls_automaton.proofs.states.states_of.Goals as goal

pub loop-task-init : goal.loop-task-init
loop-task-init c =
    let file : File = plain_file c.args.file.now in
    let program : Program = plain_program c.args.program.now in
    let first = c.in_ok-spots.ensures in
    record {
      filled = filled_first file program c.args.most_steps c.in_ok-spots.spots.list.items first.0
          c.new-rows.result.items c.new-rows.ensures.items first.1 first.2;
      long = λ goes. absurd (apart goes);
      fated = fated_none file program c.args.most_steps c.in_ok-spots.spots.list.items c.new-fates.result.items
          c.new-fates.ensures.items;
      as_many = ap length c.new-fates.ensures.items ∙ sym (ap length c.new-rows.ensures.items);
      tree = subst (λ (l : List (Vec Outcome Global)). IsTree file program
          (schedules_of c.in_ok-spots.spots.list.items) (length l) 0) (sym c.new-rows.ensures.items)
          (first_tree file program c.in_ok-spots.spots.list.items first.0 first.1 first.2);
    }
  where
    apart : false ≡ true → ⊥
    apart h = cc

pub row_of-requires-clause-serial : goal.row_of-requires-clause-serial
row_of-requires-clause-serial c =
    let file : File = plain_file c.args.file.now in
    let program : Program = plain_program c.args.program.now in
    subst (λ l. IsSerial (source_history file program l)) (sym c.as_slice-in-loop-task.ensures.value)
    (serial_to file program c.args.most_steps c.loop-task.spots.list.items c.len-in-loop-task-3.result
    c.in_ok-steps.steps.items c.loop-task.invariant.filled.are
    (subst (λ l. slice_get (schedules_of l) c.len-in-loop-task-3.result ≡ Some c.in_ok-steps.steps.items)
    c.as_slice.ensures.value c.in_ok-steps.ensures))

pub row_of-requires-clause-acts : goal.row_of-requires-clause-acts
row_of-requires-clause-acts c =
    let file : File = plain_file c.args.file.now in
    let program : Program = plain_program c.args.program.now in
    subst (ActAll file program) (sym c.as_slice-in-loop-task.ensures.value)
    (acting_to file program c.args.most_steps c.loop-task.spots.list.items c.len-in-loop-task-3.result
    c.in_ok-steps.steps.items c.loop-task.invariant.filled.are
    (subst (λ l. slice_get (schedules_of l) c.len-in-loop-task-3.result ≡ Some c.in_ok-steps.steps.items)
    c.as_slice.ensures.value c.in_ok-steps.ensures))

pub loop-task-preserved : goal.loop-task-preserved
loop-task-preserved c =
    let file : File = plain_file c.args.file.now in
    let program : Program = plain_program c.args.program.now in
    record {
      filled = subst (AreFilled file program c.args.most_steps c.either-goes_on.result c.row_of.new.spots.list.items)
          (sym c.in_ok-push.ensures.items)
          (filled_on file program c.args.most_steps c.loop-task.goes_on c.in_ok-row.row.goes_on c.either-goes_on.result
          c.loop-task.spots.list.items c.row_of.new.spots.list.items c.loop-task.rows.items c.in_ok-row.row.outcomes
          c.in_ok-steps.steps.items c.either-goes_on.ensures.none c.loop-task.invariant.filled
          (subst (λ n. slice_get (schedules_of c.loop-task.spots.list.items) n ≡ Some c.in_ok-steps.steps.items)
          (omega arith)
          (subst (λ l. slice_get (schedules_of l) c.len-in-loop-task-3.result ≡ Some c.in_ok-steps.steps.items)
          c.as_slice.ensures.value c.in_ok-steps.ensures))
          (subst (λ l. IsFound file program c.args.most_steps c.in_ok-row.row.goes_on c.loop-task.spots.list.items
          c.row_of.new.spots.list.items l c.in_ok-row.row.outcomes.items) c.as_slice-in-loop-task.ensures.value
          c.in_ok-row.ensures.row));
      long = λ goes. either_long (HasLongCall file program c.args.most_steps) (c.either-goes_on.ensures.one goes)
          c.loop-task.invariant.long c.in_ok-row.ensures.long;
      fated = subst (AreFated file program c.args.most_steps c.row_of.new.spots.list.items)
          (sym c.in_ok-push-2.ensures.items)
          (fated_on file program c.args.most_steps c.loop-task.spots.list.items c.row_of.new.spots.list.items
          c.loop-task.fates.items c.in_ok-row.row.fates c.in_ok-steps.steps.items c.in_ok-row.ensures.row.grows
          c.loop-task.invariant.fated
          (subst (λ n. slice_get (schedules_of c.loop-task.spots.list.items) n ≡ Some c.in_ok-steps.steps.items)
          (omega (arith, c.loop-task.invariant.as_many))
          (subst (λ l. slice_get (schedules_of l) c.len-in-loop-task-3.result ≡ Some c.in_ok-steps.steps.items)
          c.as_slice.ensures.value c.in_ok-steps.ensures))
          (subst (λ l. AreFates file program c.args.most_steps l c.in_ok-row.row.fates.items)
          c.as_slice-in-loop-task.ensures.value c.in_ok-row.ensures.fates));
      as_many = ap length c.in_ok-push-2.ensures.items
          ∙ length-append c.loop-task.fates.items (c.in_ok-row.row.fates ∷ [])
          ∙ ap (λ n. n + 1) c.loop-task.invariant.as_many
          ∙ sym (ap length c.in_ok-push.ensures.items
          ∙ length-append c.loop-task.rows.items (c.in_ok-row.row.outcomes ∷ []));
      tree = subst (λ n. IsTree file program (schedules_of c.row_of.new.spots.list.items) n 0)
          (sym (ap length c.in_ok-push.ensures.items ∙ length-append c.loop-task.rows.items
          (c.in_ok-row.row.outcomes ∷ [])))
          (c.in_ok-row.ensures.tree (length c.loop-task.rows.items)
          (subst (λ l. slice_get (schedules_of c.loop-task.spots.list.items) (length c.loop-task.rows.items) ≡ Some l)
          (sym c.as_slice-in-loop-task.ensures.value)
          (subst (λ n. slice_get (schedules_of c.loop-task.spots.list.items) n ≡ Some c.in_ok-steps.steps.items)
          (omega arith)
          (subst (λ l. slice_get (schedules_of l) c.len-in-loop-task-3.result ≡ Some c.in_ok-steps.steps.items)
          c.as_slice.ensures.value c.in_ok-steps.ensures)))
          c.loop-task.invariant.tree);
    }

pub returns-clause-states : goal.returns-clause-states
returns-clause-states c =
    fated_states (plain_file c.args.file.now) (plain_program c.args.program.now) c.args.most_steps
    c.loop-task.spots.list.items c.loop-task.fates.items c.loop-task.invariant.filled.are c.loop-task.invariant.fated

pub returns-then-len-most_states-clause-states : goal.returns-then-len-most_states-clause-states
returns-then-len-most_states-clause-states c =
    fated_states (plain_file c.args.file.now) (plain_program c.args.program.now) c.args.most_steps
    c.loop-task.spots.list.items c.loop-task.fates.items c.loop-task.invariant.filled.are c.loop-task.invariant.fated

pub returns-clause-outcomes : goal.returns-clause-outcomes
returns-clause-outcomes c = λ whole.
    let r = filled_whole (plain_file c.args.file.now) (plain_program c.args.program.now) c.args.most_steps
    c.loop-task.goes_on c.loop-task.spots.list.items c.loop-task.rows.items (omega (arith, c.loop-task-test.false))
    c.loop-task.invariant.filled in
    record {
      outcomes = r.0;
      ways = r.1;
      all = omega (
        arith,
        map_length c.loop-task.spots.list.items,
        c.loop-task-test.false,
        c.loop-task.invariant.as_many,
      );
    }

pub returns-then-len-most_states-clause-outcomes : goal.returns-then-len-most_states-clause-outcomes
returns-then-len-most_states-clause-outcomes c = λ whole. absurd (apart whole)
  where
    apart : true ≡ false → ⊥
    apart h = cc

pub returns-then-len-most_states-clause-many : goal.returns-then-len-most_states-clause-many
returns-then-len-most_states-clause-many c = λ many.
    many_orders (plain_file c.args.file.now) (plain_program c.args.program.now) c.loop-task.spots.list.items
    (length c.loop-task.rows.items) 0 c.args.most_states c.loop-task.invariant.filled.are c.loop-task.invariant.tree
    (omega arith)

pub returns-clause-many : goal.returns-clause-many
returns-clause-many c = λ many. absurd (apart many)
  where
    apart : false ≡ true → ⊥
    apart h = cc
