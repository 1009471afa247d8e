-- Why `choices_data` in src/choices_told.rt keeps its contract.

use Rattle.std.proofs.Common.{◌≡◌, ◌≤◌, ◌∙◌, List, Option, None, Some, length, map, rules, subst, sym}
use Rattle.std.proofs.lemmas.List.{length-map}
use Rattle.ls_checked.specs.PlainProgram.{plain_thread}
use Rattle.ls_labels.specs.Names.{names_of}
use Rattle.ls_choices.specs.Reaching.{IsReach, TellsLeftOut}
use Rattle.ls_choices.specs.Seen.{graph_of, row_of}
use Rattle.ls_choices.proofs.Tracing.{walks_are_traced}
use Rattle.ls_automaton.proofs.Once.{once}
use Rattle.ls_checked.specs.CheckedProgram.{Program}
use Rattle.ls_checked.specs.CheckedTree.{File}
use Rattle.ls_events.specs.declared.event.Event.{Event}
use Rattle.ls_linearity.proofs.Decided.{decided}
use Rattle.ls_linearity.specs.declared.table.SerialTable.{SerialTable}
use Rattle.ls_linearizable.specs.Once.{AreOnce}
use Rattle.ls_meaning.specs.Runs.{source_history}
use Rattle.ls_page.specs.ChoicesData.{IsDecidedBy, IsSerialTable, reference_of, serial_file, serial_program}
use Rattle.ls_page.specs.Tabled.{tables_of}
use Rattle.ls_page.proofs.choices_told.choices_data.Goals as goal

by_table : (file : File) (program : Program) (o : Option SerialTable) → IsSerialTable file program o →
    (h : List Event) → AreOnce h → IsDecidedBy file program o h
by_table file program None is h each = tt
by_table file program (Some t) is h each = decided file program t is h each

pub returns : goal.returns
returns c = λ some.
    let names = names_of c.args.names in
    let reference = reference_of c.args.reference in
    let first = c.args.first.now in
    let g = graph_of c.in_ok-choices.choices in
    let threads = c.args.names.program.now.threads.items in
    let count : c.len.result ≡ length threads = search rules in
    let same : length g.rows ≡ length c.in_ok-choices.choices.rows.items =
    length-map c.in_ok-choices.choices.rows.items (λ v. map row_of v.items) in
    let each : c.len.result ≡ length names.program.threads = count ∙ sym (length-map threads plain_thread) in
    let sfile = serial_file reference names in
    let sprogram = serial_program reference names in
    let is = subst (IsSerialTable sfile sprogram) (sym c.in_ok-tables.ensures.serial) c.in_ok-serial.ensures in
    record {
      graph = g;
      reach = c.in_ok-reach.reach;
      tables = tables_of c.in_ok-tables.tables;
      choice = record {
        states = c.in_ok-choices.ensures.graph;
        few = subst (λ n. n ≤ c.args.most) (sym same) (c.in_ok-choices.ensures.few some);
        whole = c.in_ok-choices.ensures.whole some;
        light = c.in_ok-choices.ensures.light;
        cut = c.in_ok-choices.ensures.cut;
        walks = walks_are_traced names first g c.in_ok-choices.ensures.graph;
        threads = c.in_ok-choices.ensures.threads;
        reaches = subst (λ n. IsReach n g c.in_ok-reach.reach) each
            (c.in_ok-reach.ensures.reach (c.in_ok-choices.ensures.closed some));
        left_out = subst (λ n. TellsLeftOut n g c.in_ok-reach.reach) each c.in_ok-reach.ensures.left_out;
      };
      serial = is;
      decided = λ schedule. by_table sfile sprogram c.in_ok-tables.tables.serial is
          (source_history names.file names.program schedule) (once names.file names.program schedule);
      told = c.in_ok-tables.ensures.tables;
      text_is = c.in_ok-text.ensures;
    }
