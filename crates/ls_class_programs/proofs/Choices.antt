-- Which class is meant, token by token and class by class.
use Rattle.std.proofs.Common.{◌≡◌, ◌∙◌, ◌+◌, ◌<◌, ◌≤◌, ◌&&◌, ◌||◌, ℕ, false, List, [], ◌∷◌, ◌++◌, length}
use Rattle.std.proofs.Common.{get_or, drop, map, ap, sym, refl, cond, Option, Some, None}
use Rattle.std.proofs.lemmas.List.{at_drop_all, at_drop_more}
use Rattle.ls_lexer.specs.Lexemes.{lexeme_of, lexemes}
use Rattle.ls_lexer.specs.declared.token.Token.{Token}
use Rattle.ls_tree.specs.Trees.{Text}
use Rattle.ls_tree.specs.Views.{bare_class, name_text}
use Rattle.ls_tree.specs.declared.tree.Class.{Class}
use Rattle.ls_class_programs.specs.Meant.{frees, is_free, is_name, is_named, is_other, names_of, only, opens_class}

-- the next token
pub next_token : (class : ℕ) (name : Text) (at : ℕ) (tokens : List Token) (i : ℕ) (t : Token) →
    i < length tokens → t ≡ get_or tokens i t →
    is_named class name at (lexemes (drop i tokens)) ≡
    ((is_other class at && is_name name (lexeme_of t.kind)) ||
    is_named class name (cond (opens_class (lexeme_of t.kind)) (at + 1) at) (lexemes (drop (i + 1) tokens)))
next_token class name at tokens i t within is =
    at_drop_more (λ l. is_named class name at (lexemes l)) tokens i t within
    ∙ ap (λ (k : Token). is_named class name at (lexemes (k ∷ drop (i + 1) tokens))) (sym is)

pub no_token : (class : ℕ) (name : Text) (at : ℕ) (tokens : List Token) (i : ℕ) →
    length tokens ≤ i → is_named class name at (lexemes (drop i tokens)) ≡ false
no_token class name at tokens i over = at_drop_all (λ l. is_named class name at (lexemes l)) tokens i over

-- what has been found so far
abbrev pub listed : Option ℕ → List ℕ
listed None = []
listed (Some i) = i ∷ []

-- the places of those of the classes from one on that no other class names
abbrev pub frees_from : List Token → ℕ → List Class → List ℕ
frees_from tokens i classes = frees (lexemes tokens) i (names_of (map bare_class (drop i classes)))

pub next_class : (tokens : List Token) (classes : List Class) (i : ℕ) (c : Class) →
    i < length classes → c ≡ get_or classes i c →
    frees_from tokens i classes ≡ cond (is_free (lexemes tokens) (i + 1) (name_text c.name))
    (i ∷ frees_from tokens (i + 1) classes) (frees_from tokens (i + 1) classes)
next_class tokens classes i c within is =
    at_drop_more (λ l. frees (lexemes tokens) i (names_of (map bare_class l))) classes i c within
    ∙ ap (λ (d : Class). frees (lexemes tokens) i (names_of (map bare_class (d ∷ drop (i + 1) classes)))) (sym is)

pub no_class : (tokens : List Token) (classes : List Class) (i : ℕ) (found : Option ℕ) →
    length classes ≤ i → only (listed found ++ frees_from tokens i classes) ≡ found
no_class tokens classes i found over =
    ap (λ l. only (listed found ++ l))
    (at_drop_all (λ l. frees (lexemes tokens) i (names_of (map bare_class l))) classes i over) ∙ alone found
  where
    alone : (o : Option ℕ) → only (listed o ++ []) ≡ o
    alone None = refl
    alone (Some k) = refl
