-- Why `Methods::method_on` in src/methods.rt keeps its contract.

use Rattle.std.proofs.Common.{sym, ap, ◌∙◌, option_map, slice_get}
use Rattle.ls_checked.specs.PlainProgram.{plain_name}
use Rattle.ls_types_checked.specs.CheckedFile.{elaborated_file}
use Rattle.ls_types_programs.specs.ProgramCalls.{method_on}
use Rattle.ls_types_reading.specs.MethodsByName.{finds_in, sign_seen}
use Rattle.ls_types_reading.proofs.methods.Methods.method_on.Goals as goal

pub returns-in-Some-table_of : goal.returns-in-Some-table_of
returns-in-Some-table_of c =
    let class = c.in-Some.s.now.class in
    ap (option_map sign_seen) c.value_named.ensures
    ∙ ap (λ t. finds_in t c.args.name.now)
    (ap (option_map (λ t. t.now)) (sym c.in-Some-table_of.is) ∙ c.table_of.ensures
    ∙ ap (λ l. slice_get l class) c.deref.ensures.value)
    ∙ c.args.self.now.kept class c.args.name.now
    ∙ ap (λ s. method_on (elaborated_file c.args.self.now.checked.now) (option_map (λ s. plain_name s.now) s)
    c.args.name.now) (sym c.in-Some.is)

pub returns-in-None-table_of : goal.returns-in-None-table_of
returns-in-None-table_of c =
    let class = c.in-Some.s.now.class in
    ap (λ t. finds_in t c.args.name.now)
    (ap (option_map (λ t. t.now)) (sym c.in-None-table_of.is) ∙ c.table_of.ensures
    ∙ ap (λ l. slice_get l class) c.deref.ensures.value)
    ∙ c.args.self.now.kept class c.args.name.now
    ∙ ap (λ s. method_on (elaborated_file c.args.self.now.checked.now) (option_map (λ s. plain_name s.now) s)
    c.args.name.now) (sym c.in-Some.is)
