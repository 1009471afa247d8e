-- Why `on_java` in src/java.rt keeps its clause `decides`.

use Rattle.std.proofs.Common.{◌≡◌, ◌∙◌, ap, subst, sym, None}
use Rattle.ls_faults.specs.declared.fault.ToolFault.TheVariants as fault
use Rattle.ls_files.specs.Names.{file_names_in}
use Rattle.ls_items.specs.Parts.{parts_of}
use Rattle.ls_tool.specs.Output.{RefusesAs, names_of, read_as}
use Rattle.ls_tool.specs.Restated.{RestatesParts}
use Rattle.ls_tool.proofs.Ending.{decide_err}
use Rattle.ls_tool.proofs.Restating.{ends_restating_parts, no_text, wrong_parts}
use Rattle.ls_tool.proofs.java.on_java.Goals as goal

pub returns-in_default-clause-decides : goal.returns-in_default-clause-decides
returns-in_default-clause-decides c = λ words asks same.
    decide_err words c.args.input.now c.args.line fault.NotText c.refusal_of.result asks
    (no_text (file_names_in words) c.args.line c.args.input.now c.in_default.ensures.none)
    (subst (λ ns. RefusesAs ns c.args.line fault.NotText c.args.input.now c.refusal_of.result) (sym same)
    c.refusal_of.ensures)

pub returns-in-Ok-Some-clause-decides : goal.returns-in-Ok-Some-clause-decides
returns-in-Ok-Some-clause-decides c = λ words asks same.
    ends_restating_parts words c.args.input.now (parts_of (read_as (names_of c.args.names) c.in-Some.text.now))
    c.args.line c.in-Ok-Some.answer asks c.requires c.in-Some.ensures.some.1
    (ap (λ ns. parts_of (read_as ns c.args.input.now)) same ∙
    ap (λ text. parts_of (read_as (names_of c.args.names) text)) (sym c.in-Some.ensures.some.0))
    (subst (RestatesParts (parts_of (read_as (names_of c.args.names) c.in-Some.text.now))) c.in-Ok-Some.field-0-is
    c.in-Ok-Some.ensures)

pub returns-in-Ok-None-clause-decides : goal.returns-in-Ok-None-clause-decides
returns-in-Ok-None-clause-decides c = λ words asks same.
    decide_err words c.args.input.now c.args.line fault.WrongParts c.refusal_of-in-Ok-None.result asks
    (wrong_parts (file_names_in words) c.args.line c.args.input.now c.requires c.in-Some.ensures.some.1
    (subst (λ ns. RestatesParts (parts_of (read_as ns c.args.input.now)) None) (sym same)
    (subst (λ text. RestatesParts (parts_of (read_as (names_of c.args.names) text)) None) c.in-Some.ensures.some.0
    (subst (RestatesParts (parts_of (read_as (names_of c.args.names) c.in-Some.text.now))) c.in-Ok-None.field-0-is
    c.in-Ok-None.ensures))))
    (subst (λ ns. RefusesAs ns c.args.line fault.WrongParts c.args.input.now c.refusal_of-in-Ok-None.result) (sym same)
    c.refusal_of-in-Ok-None.ensures)
