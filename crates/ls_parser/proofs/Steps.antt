-- Three steps of reading, and what is made of their results afterwards.
use Rattle.std.proofs.Common.{◌≡◌, List, Option, Some, sym, ap, subst, ◌∙◌}
use Rattle.ls_lexer.specs.declared.fault.TextFault.{TextFault}
use Rattle.ls_lexer.specs.Lexemes.{Lexeme}
use Rattle.ls_tree.specs.Trees.{Text, Modifier, TypeName, Items, Parameter, Member, Method, Constructor}
use Rattle.ls_tree.specs.WellFormed.{most_nodes}
use Rattle.ls_parser_tokens.specs.Answers.{Fails}
use Rattle.ls_parser_tokens.specs.Reading.{◌>>=◌, Reader, name_at}
use Rattle.ls_parser_statements.specs.ReadingStatements.{block_at}
use Rattle.ls_parser.specs.ReadingClasses.{parameters_at, callable_at, constructor_at, method_at}
use Rattle.ls_parser_expressions.proofs.Repeats.{fails_first}
use Rattle.ls_parser_declarations.proofs.Steps.{three_steps}

-- ---- methods and constructors

abbrev made_at : (Text → List Parameter → Items → Member) → Reader Member
made_at make ks = name_at ks >>= λ name. parameters_at name.1 >>= λ parameters. block_at most_nodes parameters.1 >>=
    λ body. Some (make name.0 parameters.0 body.0, body.1)

abbrev made_of : (Text → List Parameter → Items → Member) → Reader Member
made_of make ks = callable_at ks >>= λ c. Some (make c.0.0 c.0.1 c.0.2, c.1)

callable_is : (make : Text → List Parameter → Items → Member) (ks : List Lexeme) → made_at make ks ≡ made_of make ks
callable_is make ks =
    three_steps (name_at ks) (λ name. parameters_at name.1) (λ name parameters. block_at most_nodes parameters.1)
    (λ name parameters body. ((name.0, parameters.0, body.0), body.1)) (λ c. (make c.0.0 c.0.1 c.0.2, c.1))

-- a constructor is read, if its name, parameters and body are
pub constructor_found : (modifiers : List Modifier) (ks : List Lexeme) (name : Text) (parameters : List Parameter)
    (body : Items) (rest : List Lexeme)
    → callable_at ks ≡ Some ((name, parameters, body), rest) →
    constructor_at modifiers ks ≡ Some (Constructor modifiers name parameters body, rest)
constructor_found modifiers ks name parameters body rest e =
    callable_is (Constructor modifiers) ks ∙
    ap (λ (o : Option ((Text × List Parameter × Items) × List Lexeme)). o >>= λ c. Some
    (Constructor modifiers c.0.0 c.0.1 c.0.2, c.1)) e

-- if these fail, so does the constructor
pub constructor_fails : (e : TextFault) (modifiers : List Modifier) (ks : List Lexeme) →
    Fails e (callable_at ks) →
    Fails e (constructor_at modifiers ks)
constructor_fails e modifiers ks h =
    subst (Fails e) (sym (callable_is (Constructor modifiers) ks))
    (fails_first e (callable_at ks) (λ c. Some (Constructor modifiers c.0.0 c.0.1 c.0.2, c.1)) h)

-- a method is read, if its name, parameters and body are
pub method_found : (modifiers : List Modifier) (locked : List (List Modifier)) (result : Option TypeName)
    (ks : List Lexeme) (name : Text) (parameters : List Parameter) (body : Items) (rest : List Lexeme)
    → callable_at ks ≡ Some ((name, parameters, body), rest) → method_at modifiers locked result ks ≡
    Some (Method modifiers locked result name parameters body, rest)
method_found modifiers locked result ks name parameters body rest e =
    callable_is (Method modifiers locked result) ks ∙
    ap (λ (o : Option ((Text × List Parameter × Items) × List Lexeme)). o >>= λ c. Some
    (Method modifiers locked result c.0.0 c.0.1 c.0.2, c.1)) e

-- if these fail, so does the method
pub method_fails :
    (e : TextFault) (modifiers : List Modifier) (locked : List (List Modifier)) (result : Option TypeName)
    (ks : List Lexeme) →
    Fails e (callable_at ks) →
    Fails e (method_at modifiers locked result ks)
method_fails e modifiers locked result ks h =
    subst (Fails e) (sym (callable_is (Method modifiers locked result) ks))
    (fails_first e (callable_at ks) (λ c. Some (Method modifiers locked result c.0.0 c.0.1 c.0.2, c.1)) h)
