-- How a statement begins.
use Rattle.std.proofs.Common.{◌≡◌, List, [], ◌∷◌, Option, Some, None, refl}
use Rattle.ls_lexer.specs.declared.sign.Sign.TheVariants as signs
use Rattle.ls_lexer.specs.declared.word.Word.TheVariants as words
use Rattle.ls_lexer.specs.Lexemes.{Lexeme, Reserved, Marked}
use Rattle.ls_tree.specs.Trees.{Text, Modifier, Public, Protected, Private, Final, Volatile, Annotation, TypeName, Int}
use Rattle.ls_tree.specs.Trees.{Boolean, BooleanArray, Class, Markable, Statement, Block, Empty, If, IfElse, While, For}
use Rattle.ls_tree.specs.Trees.{Break, Continue, Return, Try, Perform, Synchronized}
use Rattle.ls_tree.specs.WellFormed.{WellFormedStatement}
use Rattle.ls_parser_tokens.specs.Reading.{after_sign, after_word}
use Rattle.ls_parser_expressions.proofs.Lists.{onto_all}
use Rattle.ls_parser_declarations.proofs.OntoDeclarations.{onto_modifier, onto_type}
use Rattle.ls_parser_statements.proofs.OntoStatements.{onto_label_before, onto_condition, onto_head, onto_statement}
use Rattle.ls_parser_statements.proofs.SimplesAgain.{Opens, simple_opens, simple_else, simple_semicolon}

-- ---- how a statement begins

while_opens : (label : Option Text) (ks : List Lexeme) → Opens (onto_label_before label (Reserved words.While ∷ ks))
while_opens None ks = record { declares = refl; brace = refl }
while_opens (Some name) ks = record { declares = refl; brace = refl }

for_opens : (label : Option Text) (ks : List Lexeme) → Opens (onto_label_before label (Reserved words.For ∷ ks))
for_opens None ks = record { declares = refl; brace = refl }
for_opens (Some name) ks = record { declares = refl; brace = refl }

pub statement_opens : (t : Statement) (rest : List Lexeme) → WellFormedStatement t → Opens (onto_statement t rest)
statement_opens (Block items) rest formed = record { declares = refl; brace = refl }
statement_opens Empty rest formed = record { declares = refl; brace = refl }
statement_opens (If condition first) rest formed = record { declares = refl; brace = refl }
statement_opens (IfElse condition first second) rest formed = record { declares = refl; brace = refl }
statement_opens (While label condition body) rest formed =
    while_opens label (onto_condition condition (onto_statement body rest))
statement_opens (For label opening condition updates body) rest formed =
    for_opens label (onto_head opening condition updates (onto_statement body rest))
statement_opens (Break label) rest formed = record { declares = refl; brace = refl }
statement_opens (Continue label) rest formed = record { declares = refl; brace = refl }
statement_opens (Return value) rest formed = record { declares = refl; brace = refl }
statement_opens (Try body finally) rest formed = record { declares = refl; brace = refl }
statement_opens (Synchronized target body) rest formed = record { declares = refl; brace = refl }
statement_opens (Perform simple) rest formed =
    simple_opens simple (Marked signs.Semicolon ∷ rest) formed (simple_semicolon rest)

-- a closing brace doesn't begin a declaration either, and a declaration is not a closing brace
pub modifiers_brace : (ms : List Modifier) (t : TypeName) (rest : List Lexeme) →
    after_sign signs.CloseBrace (onto_all onto_modifier ms (onto_type t rest)) ≡ None
modifiers_brace [] Int rest = refl
modifiers_brace [] Boolean rest = refl
modifiers_brace [] BooleanArray rest = refl
modifiers_brace [] (Class text) rest = refl
modifiers_brace [] (Markable text) rest = refl
modifiers_brace (Public ∷ ms) t rest = refl
modifiers_brace (Protected ∷ ms) t rest = refl
modifiers_brace (Private ∷ ms) t rest = refl
modifiers_brace (Final ∷ ms) t rest = refl
modifiers_brace (Volatile ∷ ms) t rest = refl
modifiers_brace (Annotation name ∷ ms) t rest = refl

-- no `else` begins a statement or a declaration
while_else : (label : Option Text) (ks : List Lexeme) →
    after_word words.Else (onto_label_before label (Reserved words.While ∷ ks)) ≡ None
while_else None ks = refl
while_else (Some name) ks = refl

for_else : (label : Option Text) (ks : List Lexeme) →
    after_word words.Else (onto_label_before label (Reserved words.For ∷ ks)) ≡ None
for_else None ks = refl
for_else (Some name) ks = refl

pub statement_else : (t : Statement) (rest : List Lexeme) →
    WellFormedStatement t →
    after_word words.Else (onto_statement t rest) ≡ None
statement_else (While label condition body) rest formed =
    while_else label (onto_condition condition (onto_statement body rest))
statement_else (For label opening condition updates body) rest formed =
    for_else label (onto_head opening condition updates (onto_statement body rest))
statement_else (Perform simple) rest formed = simple_else simple (Marked signs.Semicolon ∷ rest) formed
statement_else (Block items) rest formed = refl
statement_else Empty rest formed = refl
statement_else (If condition first) rest formed = refl
statement_else (IfElse condition first second) rest formed = refl
statement_else (Break label) rest formed = refl
statement_else (Continue label) rest formed = refl
statement_else (Return value) rest formed = refl
statement_else (Try body finally) rest formed = refl
statement_else (Synchronized target body) rest formed = refl

pub modifiers_else : (ms : List Modifier) (t : TypeName) (rest : List Lexeme) →
    after_word words.Else (onto_all onto_modifier ms (onto_type t rest)) ≡ None
modifiers_else [] Int rest = refl
modifiers_else [] Boolean rest = refl
modifiers_else [] BooleanArray rest = refl
modifiers_else [] (Class text) rest = refl
modifiers_else [] (Markable text) rest = refl
modifiers_else (Public ∷ ms) t rest = refl
modifiers_else (Protected ∷ ms) t rest = refl
modifiers_else (Private ∷ ms) t rest = refl
modifiers_else (Final ∷ ms) t rest = refl
modifiers_else (Volatile ∷ ms) t rest = refl
modifiers_else (Annotation name ∷ ms) t rest = refl
