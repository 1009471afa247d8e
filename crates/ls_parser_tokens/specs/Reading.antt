-- Reading from left to right.
use Rattle.std.specs.Prelude.{ℕ, zero, suc, Bool, not, List, [], ◌∷◌, ◌++◌, length, Option, Some, None, is_some}
use Rattle.std.specs.Prelude.{if◌then◌else◌}
use denote.Enum.Bare.{sameb}
use Rattle.ls_lexer.specs.contracts.word.Word.{the_type as word_type}
use Rattle.ls_lexer.specs.contracts.sign.Sign.{the_type as sign_type}
use Rattle.ls_lexer.specs.declared.word.Word.{Word}
use Rattle.ls_lexer.specs.declared.sign.Sign.{Sign}
use Rattle.ls_lexer.specs.declared.sign.Sign.TheVariants as signs
use Rattle.ls_lexer.specs.Lexemes.{Lexeme, Named, Numeral, Reserved, Marked}
use Rattle.ls_tree.specs.Trees.{Text}

infixl 10 ◌>>=◌
abbrev pub ◌>>=◌ : {A B : Type 0} → Option A → (A → Option B) → Option B
None >>= f = None
(Some x) >>= f = f x

-- what is read, and the tokens that are left
abbrev pub Reader : Type 0 → Type 0
Reader A = List Lexeme → Option (A × List Lexeme)

-- if a first step succeeds, go on with its answer, otherwise another way
abbrev pub given : {A B : Type 0} → Option A → (A → B) → B → B
given None go other = other
given (Some x) go other = go x

-- ---- one token

-- the tokens after a sign, if they begin with that sign
abbrev pub after_sign : Sign → List Lexeme → Option (List Lexeme)
after_sign wanted [] = None
after_sign wanted (Marked sign ∷ ks) = if sameb sign_type sign wanted then Some ks else None
after_sign wanted (Named text ∷ ks) = None
after_sign wanted (Numeral text ∷ ks) = None
after_sign wanted (Reserved word ∷ ks) = None

-- the tokens after a reserved word, if they begin with that word
abbrev pub after_word : Word → List Lexeme → Option (List Lexeme)
after_word wanted [] = None
after_word wanted (Reserved word ∷ ks) = if sameb word_type word wanted then Some ks else None
after_word wanted (Named text ∷ ks) = None
after_word wanted (Numeral text ∷ ks) = None
after_word wanted (Marked sign ∷ ks) = None

abbrev pub name_at : Reader Text
name_at [] = None
name_at (Named text ∷ ks) = Some (text, ks)
name_at (Numeral text ∷ ks) = None
name_at (Reserved word ∷ ks) = None
name_at (Marked sign ∷ ks) = None

abbrev pub starts : Sign → List Lexeme → Bool
starts wanted ks = is_some (after_sign wanted ks)

-- ---- repetition

-- Steps are made as long as `goes` says so of the tokens.
unfoldable pub repeat : {A : Type 0} → ℕ → (List Lexeme → Bool) → (A → Reader A) → A → Reader A
repeat zero goes step left ks = if goes ks then None else Some (left, ks)
repeat (suc turns) goes step left ks =
    if goes ks then (step left ks >>= λ x. repeat turns goes step x.0 x.1) else Some (left, ks)

abbrev pub one_more : {A : Type 0} → Reader A → List A → Reader (List A)
one_more item front ks = item ks >>= λ x. Some (front ++ x.0 ∷ [], x.1)

-- things as long as `goes` says so, put after those in front
abbrev pub many_from : {A : Type 0} → List A → (List Lexeme → Bool) → Reader A → Reader (List A)
many_from front goes item ks = repeat (length ks) goes (one_more item) front ks

abbrev pub many_at : {A : Type 0} → (List Lexeme → Bool) → Reader A → Reader (List A)
many_at goes item ks = many_from [] goes item ks

-- something after a comma
abbrev pub behind_comma : {A : Type 0} → Reader A → Reader A
behind_comma item ks = after_sign signs.Comma ks >>= λ rest. item rest

abbrev pub not_yet : Sign → List Lexeme → Bool
not_yet wanted ks = not (starts wanted ks)

-- things with commas between them, up to and with the closing parenthesis
abbrev pub others_at : {A : Type 0} → Reader A → A → Reader (List A)
others_at item first ks =
    many_from (first ∷ []) (not_yet signs.CloseParen) (behind_comma item) ks >>= λ all.
    after_sign signs.CloseParen all.1 >>= λ rest. Some (all.0, rest)

abbrev pub group_at : {A : Type 0} → Reader A → Reader (List A)
group_at item ks =
    given (after_sign signs.CloseParen ks) (λ rest. Some ([], rest))
    (item ks >>= λ first. others_at item first.0 first.1)
