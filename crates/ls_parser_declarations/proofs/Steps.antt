-- Three steps of reading, and what is made of their results afterwards.
use Rattle.std.proofs.Common.{◌≡◌, List, Option, Some, None, refl, sym, ap, subst, ◌∙◌}
use Rattle.ls_lexer.specs.declared.fault.TextFault.{TextFault}
use Rattle.ls_lexer.specs.declared.sign.Sign.TheVariants as signs
use Rattle.ls_lexer.specs.Lexemes.{Lexeme}
use Rattle.ls_tree.specs.Trees.{Expression, Modifier, TypeName, Declarator}
use Rattle.ls_parser_tokens.specs.Answers.{Fails}
use Rattle.ls_parser_tokens.specs.Reading.{◌>>=◌, Reader, after_sign, many_at, not_yet, behind_comma}
use Rattle.ls_parser_declarations.specs.ReadingDeclarations.{declarator_at, declarator_list_at, declarators_at}
use Rattle.ls_parser_declarations.specs.ReadingDeclarations.{declaration_of}
use Rattle.ls_parser_expressions.proofs.Repeats.{fails_first}

one_step : {C R S : Type 0} (c : Option C) (r : C → R) (f : R → S) →
    (c >>= λ z. Some (f (r z))) ≡ ((c >>= λ z. Some (r z)) >>= λ v. Some (f v))
one_step None r f = refl
one_step (Some z) r f = refl

two_steps : {B C R S : Type 0} (b : Option B) (c : B → Option C) (r : B → C → R) (f : R → S)
    → (b >>= λ y. c y >>= λ z. Some (f (r y z))) ≡ ((b >>= λ y. c y >>= λ z. Some (r y z)) >>= λ v. Some (f v))
two_steps None c r f = refl
two_steps (Some y) c r f = one_step (c y) (r y) f

-- what is made of three steps may be made after them
pub three_steps : {A B C R S : Type 0} (a : Option A) (b : A → Option B) (c : A → B → Option C) (r : A → B → C →
    R) (f : R → S)
    → (a >>= λ x. b x >>= λ y. c x y >>= λ z. Some (f (r x y z))) ≡
    ((a >>= λ x. b x >>= λ y. c x y >>= λ z. Some (r x y z)) >>= λ v. Some (f v))
three_steps None b c r f = refl
three_steps (Some x) b c r f = two_steps (b x) (c x) (r x) f

-- ---- declarators

list_is : (value : Reader Expression) (modifiers : List Modifier) (type_name : TypeName) (ks : List Lexeme)
    → declarators_at value modifiers type_name ks ≡
    (declarator_list_at value ks >>= λ d. Some (declaration_of modifiers type_name d.0.0 d.0.1, d.1))
list_is value modifiers type_name ks =
    three_steps (declarator_at value ks)
    (λ first. many_at (not_yet signs.Semicolon) (behind_comma (declarator_at value)) first.1)
    (λ first more. after_sign signs.Semicolon more.1)
    (λ first more rest. ((first.0, more.0), rest)) (λ d. (declaration_of modifiers type_name d.0.0 d.0.1, d.1))

-- declarators are read, if their list is
pub list_found : (value : Reader Expression) (modifiers : List Modifier) (type_name : TypeName) (ks : List Lexeme)
    (first : Declarator) (more : List Declarator) (rest : List Lexeme)
    → declarator_list_at value ks ≡ Some ((first, more), rest) → declarators_at value modifiers type_name ks ≡
    Some (declaration_of modifiers type_name first more, rest)
list_found value modifiers type_name ks first more rest e =
    list_is value modifiers type_name ks ∙
    ap (λ (o : Option ((Declarator × List Declarator) × List Lexeme)). o >>= λ d. Some
    (declaration_of modifiers type_name d.0.0 d.0.1, d.1)) e

-- if their list fails, so do the declarators
pub list_fails : (e : TextFault) (value : Reader Expression) (modifiers : List Modifier) (type_name : TypeName)
    (ks : List Lexeme)
    → Fails e (declarator_list_at value ks) → Fails e (declarators_at value modifiers type_name ks)
list_fails e value modifiers type_name ks h =
    subst (Fails e) (sym (list_is value modifiers type_name ks))
    (fails_first e (declarator_list_at value ks) (λ d. Some (declaration_of modifiers type_name d.0.0 d.0.1, d.1))
    h)
