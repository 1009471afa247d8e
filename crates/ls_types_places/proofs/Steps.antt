-- What keeps its answer if places are set to 0.
use Rattle.std.proofs.Common.{◌≡◌, refl, ap, ◌∙◌, Bool, true, false, List, [], ◌∷◌, Ok, Err, map}
use Rattle.std.specs.Prelude.{if◌then◌else◌}
use Rattle.ls_lexer.specs.declared.token.Span.{Span}
use Rattle.ls_types_elaboration.specs.declared.rule.Rule.{Rule}
use Rattle.ls_types_elaboration.specs.Elaborated.{Elaborated, broken, with_ok, unless_broken, each}
use Rattle.ls_parser_spelling.specs.Unplaced.{nowhere}
use Rattle.ls_types_places.proofs.Anywhere.{anywhere}

-- one step and then another
pub bind : {A B : Type 0} (x x' : Elaborated A) (f f' : A → Elaborated B) →
    x' ≡ anywhere x →
    ((a : A) → f' a ≡ anywhere (f a))
    → with_ok x' f' ≡ anywhere (with_ok x f)
bind {B = B} (Ok a) x' f f' e h = ap (λ y. with_ok {B = B} y f') e ∙ h a
bind {B = B} (Err b) x' f f' e h = ap (λ y. with_ok {B = B} y f') e

-- a broken rule
pub blank : {A : Type 0} (rule : Rule) (s' s : Span) →
    s' ≡ nowhere →
    broken {A = A} rule s' ≡ anywhere (broken {A = A} rule s)
blank {A} rule s' s e = ap (λ (x : Span). broken {A = A} rule x) e

-- a test of a rule
pub test : {A : Type 0} (b : Bool) (rule : Rule) (s' s : Span) (x x' : Elaborated A) → s' ≡ nowhere → x' ≡ anywhere x
    → unless_broken b rule s' x' ≡ anywhere (unless_broken b rule s x)
test {A} true rule s' s x x' e h = blank {A = A} rule s' s e
test false rule s' s x x' e h = h

-- a choice
pub choice : {A : Type 0} (b : Bool) (x x' y y' : Elaborated A) → x' ≡ anywhere x → y' ≡ anywhere y
    → (if b then x' else y') ≡ anywhere (if b then x else y)
choice true x x' y y' e h = e
choice false x x' y y' e h = h

-- a step for each element
pub each_same : {S A : Type 0} (f f' : S → A → Elaborated S) (view : A → A) (s : S) (xs : List A) →
    ((t : S) (a : A) → f' t (view a) ≡ anywhere (f t a))
    → each f' s (map view xs) ≡ anywhere (each f s xs)
each_same f f' view s [] h = refl
each_same {S} {A} f f' view s (x ∷ xs) h =
    bind (f s x) (f' s (view x)) (λ t. each f t xs) (λ t. each f' t (map view xs)) (h s x)
    (λ t. each_same f f' view t xs h)
