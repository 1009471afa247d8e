-- What elaboration answers: the checked form, or a broken rule and its place.
use Rattle.std.specs.Prelude.{Bool, List, [], ◌∷◌, Result, Ok, Err, if◌then◌else◌}
use Rattle.ls_lexer.specs.declared.token.Span.{Span}
use Rattle.ls_types_elaboration.specs.declared.rule.Rule.{Rule}
use Rattle.ls_types_elaboration.specs.declared.rule.Broken.{Broken}

abbrev pub Elaborated : Type 0 → Type 0
Elaborated A = Result A Broken

abbrev pub broken : {A : Type 0} → Rule → Span → Elaborated A
broken rule span = Err (record { rule = rule; span = span })

-- goes on unless a rule is broken
abbrev pub with_ok : {A B : Type 0} → Elaborated A → (A → Elaborated B) → Elaborated B
with_ok (Ok a) go = go a
with_ok (Err e) go = Err e

-- goes on if the rule is kept
abbrev pub unless_broken : {A : Type 0} → Bool → Rule → Span → Elaborated A → Elaborated A
unless_broken breaks rule span go = if breaks then broken rule span else go

-- one thing after another, each from what those before it left
abbrev pub each : {S A : Type 0} → (S → A → Elaborated S) → S → List A → Elaborated S
each step s [] = Ok s
each step s (a ∷ rest) = with_ok (step s a) (λ next. each step next rest)
