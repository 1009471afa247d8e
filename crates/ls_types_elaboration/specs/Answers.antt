-- What contracts see of elaboration's answers.
use Rattle.std.specs.Prelude.{◌≡◌, Result, Ok, Err}
use Rattle.ls_answers.specs.Answers as answers
use Rattle.ls_checked.specs.CheckedTree as checked
use Rattle.ls_checked.specs.Plain.{plain}
use Rattle.ls_checked.specs.declared.tree.Expression.{Expression}
use Rattle.ls_types_elaboration.specs.declared.rule.Broken.{Broken}
use Rattle.ls_types_elaboration.specs.declared.rule.CheckFault.{CheckFault}
use Rattle.ls_types_elaboration.specs.declared.static_types.Typed.{Typed}
use Rattle.ls_types_elaboration.specs.declared.members.Member.{Member}
use Rattle.ls_types_elaboration.specs.declared.members.Maker.{Maker}
use Rattle.ls_types_elaboration.specs.Elaborated.{Elaborated}
use Rattle.ls_types_elaboration.specs.Refused.{Fails, meant}
use Rattle.ls_types_elaboration.specs.StaticTypes as statics
use Rattle.ls_types_elaboration.specs.Members as members

-- seen by `view`, the answer is what the definition says, or memory ran out
abbrev pub Gives : {X Y : Type 0} → (X → Y) → Result X CheckFault → Elaborated Y → Type 0
Gives view answer said = answers.Gives meant view answer said

-- seen by `view`, the answer leads to what the definition says next, or memory ran out
abbrev pub Leads : {X Y Z : Type 0} → (X → Y) → (Y → Elaborated Z) → Result X CheckFault → Elaborated Z → Type 0
Leads view next (Ok x) said = said ≡ next (view x)
Leads view next (Err e) said = Fails e said

abbrev pub seen : {X Y E : Type 0} → (X → Y) → Result X E → Result Y E
seen view (Ok x) = Ok (view x)
seen view (Err e) = Err e

abbrev pub typed_of : Typed → statics.Typed
typed_of x = record { expression = plain x.expression; static = x.of }

abbrev pub plain_typed : Result Typed Broken → Elaborated statics.Typed
plain_typed r = seen typed_of r

abbrev pub plain_expression : Result Expression Broken → Elaborated checked.Expression
plain_expression r = seen plain r

abbrev pub member_of : Member → members.Member
member_of m = record { called = m.called; parameters = m.parameters.items; result = m.result }

abbrev pub maker_of : Maker → members.Maker
maker_of m = record { makes = m.makes; parameters = m.parameters.items; type = m.value_type }

-- what comes after a test, if the test is passed; else the rule that it breaks
abbrev pub unless_refused : {A X : Type 0} → Result X Broken → Elaborated A → Elaborated A
unless_refused (Ok x) go = go
unless_refused (Err b) go = Err b
