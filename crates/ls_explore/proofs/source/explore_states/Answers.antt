-- Why `explore_states` in src/source.rt keeps its clause `tells`.

use Rattle.std.proofs.Common.{◌≡◌, ◌∙◌, List, map, sym, ap, subst}
use Rattle.ls_checked.specs.CheckedTree.{File}
use Rattle.ls_checked.specs.CheckedProgram.{Program}
use Rattle.ls_checked.specs.Plain.{plain_file}
use Rattle.ls_checked.specs.PlainProgram.{plain_program}
use Rattle.ls_source_rows.specs.declared.rows.Row.{Row as SourceRow}
use Rattle.ls_explore.specs.Rows.{Told}
use Rattle.ls_explore.specs.Sources.{TellSource, told_of}
use Rattle.ls_explore.proofs.Sources.{tell_source}
use Rattle.ls_explore.proofs.source.explore_states.Goals as goal

pub returns-clause-tells : goal.returns-clause-tells
returns-clause-tells g c =
    let file : File = plain_file c.args.file.now in
    let program : Program = plain_program c.args.program.now in
    let told = c.in_ok-setup.ensures in
    let all : List SourceRow = c.in_ok-setup.field-0.rows.items in
    let same : c.in_ok-rows.rows.items ≡ map told_of c.in_ok-setup.field-0.rows.items =
    c.in_ok-rows.ensures ∙ ap (map told_of) c.deref.ensures.value in
    subst (λ (rows : List Told). TellSource file program c.args.reach.states c.in_ok-setup.field-0.setup rows
    c.in_ok-setup.field-0.states c.in_ok-setup.field-0.complete) (sym same)
    (tell_source all file program c.in_ok-setup.field-0.setup c.args.reach.states c.in_ok-setup.field-0.states
    c.in_ok-setup.field-0.complete told.truth told.apart told.alone told.order told.states told.all told.cut told.few)
