-- Answers with their places put to 0.
use Rattle.std.proofs.Common.{◌≡◌, ap, Ok, Err}
use Rattle.ls_types_elaboration.specs.declared.rule.Rule.{Rule}
use Rattle.ls_types_elaboration.specs.Elaborated.{Elaborated}
use Rattle.ls_parser_spelling.specs.Unplaced.{nowhere}
use Rattle.ls_types_places.specs.Laws.{SameAnswer}

-- the answer with its place put to 0
abbrev pub anywhere : {A : Type 0} → Elaborated A → Elaborated A
anywhere (Ok a) = Ok a
anywhere (Err b) = Err (record { rule = b.rule; span = nowhere })

abbrev value_or : {A : Type 0} → A → Elaborated A → A
value_or other (Ok a) = a
value_or other (Err b) = other

abbrev rule_or : {A : Type 0} → Rule → Elaborated A → Rule
rule_or other (Ok a) = other
rule_or other (Err b) = b.rule

-- answers that differ only in places are the same
pub same_answer : {A : Type 0} (x y : Elaborated A) → anywhere x ≡ anywhere y → SameAnswer x y
same_answer (Ok a) (Ok b) e = ap (value_or a) e
same_answer (Ok a) (Err c) e = cc e
same_answer (Err b) (Ok a) e = cc e
same_answer (Err b) (Err c) e = ap (rule_or b.rule) e
