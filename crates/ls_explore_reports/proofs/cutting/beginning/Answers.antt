-- Why `beginning` in src/cutting.rt keeps its contract and what `below` requires.

use Rattle.std.proofs.Common.{◌∙◌, ◌++◌, List, ap, string_bytes, subst, sym}
use Rattle.ls_events.specs.declared.event.Event.{Event}
use Rattle.ls_checked.specs.Plain.{plain_file}
use Rattle.ls_checked.specs.PlainProgram.{plain_program}
use Rattle.ls_labels.specs.Names.{names_of}
use Rattle.ls_meaning.specs.Runs.{source_history}
use Rattle.ls_report.specs.Printing.{run_text}
use Rattle.ls_schedule.specs.Reading.{thread_names}
use Rattle.ls_explore_reports.specs.Below.{HasNames, IsBelow}
use Rattle.std.specs.Prelude.{codes}
use Rattle.ls_explore_reports.specs.Cuts.{beginning_text, parts_text}
use Rattle.ls_explore_reports.proofs.CutTexts.{of_parts}
use Rattle.ls_explore_reports.proofs.cutting.beginning.Goals as goal

pub below-requires : goal.below-requires
below-requires c = (
  c.args.orders,
  plain_file c.args.names.file.now,
  plain_program c.args.names.program.now,
  c.in_ok-serial.ensures,
)

pub returns : goal.returns
returns c =
    let file = plain_file c.args.names.file.now in
    let program = plain_program c.args.names.program.now in
    let text = string_bytes c.in_ok-below.below in
    let same = c.as_slice.ensures.value ∙ c.in_ok-history.ensures ∙ ap (source_history file program) c.steps.ensures in
    let printed = c.as_slice-2.ensures.value ∙ c.in_ok-history.ensures ∙ ap (source_history file program)
    c.steps.ensures in (
      text,
      subst (λ (h : List Event). IsBelow c.args.orders file program h text) same
          (c.in_ok-below.ensures c.args.orders file program c.in_ok-serial.ensures
          (subst (λ (h : List Event). HasNames program h) (sym same) c.requires)),
      of_parts (names_of c.args.names) (thread_names c.args.names.program.now) c.args.schedule.now
          (string_bytes c.push_parts.new.out) c.as_str.result.now c.as_str-2.result.now c.as_str-3.result.now
          (c.in_ok-push_parts.ensures ∙ ap (λ t. t ++ parts_text (codes "goes on, illegal") c.as_str.result.now
          c.as_str-2.result.now c.as_str-3.result.now) c.new-out.ensures.bytes)
          (c.as_str.ensures.value ∙ c.in_ok-steps.ensures)
          (c.as_str-2.ensures.value ∙ c.in_ok-lines.ensures ∙ ap (run_text program) printed)
          ∙ ap (beginning_text (names_of c.args.names) (thread_names c.args.names.program.now) c.args.schedule.now)
          (c.as_str-3.ensures.value ∙ c.in_ok-push_known.ensures),
    )
