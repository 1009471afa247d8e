-- What reading a file says of spelling.
use Rattle.std.proofs.Common.{◌≡◌, ℕ, ◌<◌, inl, inr, arith, length, List, Option, Some, None, IsSome, refl, sym, ap}
use Rattle.std.proofs.Common.{subst, ◌∙◌}
use Rattle.ls_lexer.specs.declared.fault.TextFault.{TextFault}
use Rattle.ls_lexer.specs.Lexemes.{Lexeme}
use Rattle.ls_lexer.specs.Tokens.{tokens_of}
use Rattle.ls_tree.specs.Trees.{File}
use Rattle.ls_parser_spelling.specs.Spelling.{spell}
use Rattle.ls_tree.specs.WellFormed.{WellFormedFile}
use Rattle.ls_parser_spelling.specs.Spells.{Spells, TextSpells}
use Rattle.ls_parser_tokens.specs.Answers.{Refuses, RefusesTokens, MayCome, Fails}
use Rattle.ls_lexer.specs.Places.{Refused, text_limit}
use Rattle.ls_lexer.specs.declared.fault.TextFault.TheVariants as faults
use Rattle.ls_parser.specs.ReadingClasses.{file_at}
use Rattle.std.proofs.lemmas.Bool.{cases_lt}
use Rattle.ls_parser_expressions.proofs.Repeats.{some_is, means_map}
use Rattle.ls_parser.proofs.Spelled.{file_spells}
use Rattle.ls_parser.proofs.ClassesRead.{file_sound}
use Rattle.ls_parser.proofs.ClassesAgain.{file_complete}

again : (f : File) → WellFormedFile f → file_at (spell f) ≡ Some f
again f formed = ap file_at (sym (file_spells f)) ∙ file_complete f formed

-- no list of tokens has two trees
pub one_file : (f g : File) → WellFormedFile f → WellFormedFile g → spell f ≡ spell g → f ≡ g
one_file f g formed formed' same = some_is f g (sym (again f formed) ∙ ap file_at same ∙ again g formed')

-- a file that is read is spelled
pub found_is : (ks : List Lexeme) (f : File) → file_at ks ≡ Some f → Spells f ks
found_is ks f e =
    let r = file_sound ks f e in
    record { spelled = r.0 ∙ file_spells f; formed = r.1 }

-- a file that is read is well formed
pub formed_is : (ks : List Lexeme) (f : File) → file_at ks ≡ Some f → WellFormedFile f
formed_is ks f e = (file_sound ks f e).1

not_spelled : (ks : List Lexeme) → file_at ks ≡ None → (f : File) → Spells f ks → ⊥
not_spelled ks h f s =
    let read : file_at ks ≡ Some f = ap file_at s.spelled ∙ again f s.formed in
    cc (h, read)

-- if the reading is refused, no file is spelled
pub refused_is : (ks : List Lexeme) (e : TextFault) →
    Fails e (file_at ks) →
    RefusesTokens e ((f : File) → Spells f ks → ⊥)
refused_is ks e h = means_map e (not_spelled ks) h

-- ---- texts

-- if tokens spell a file, so does their text
pub text_found : (text : List ℕ) (f : File) (ks : List Lexeme) →
    (text_limit < length text → ⊥) →
    tokens_of text ≡ Some ks →
    Spells f ks →
    TextSpells f text
text_found text f ks long tokens s = record {
  short = elim (cases_lt text_limit (length text)) [ inl lt ↦ absurd (long lt) | inr le ↦ le ];
  tokens = tokens ∙ ap Some s.spelled;
  formed = s.formed;
}

no_tokens : (text : List ℕ) → tokens_of text ≡ None → (f : File) → TextSpells f text → ⊥
no_tokens text h f s = let tokens = s.tokens in cc (h, tokens)

-- a text that the lexer refuses spells no file
pub lexing_refused : (text : List ℕ) (e : TextFault) → Refused text e → Refuses e ((f : File) → TextSpells f text → ⊥)
lexing_refused text faults.Memory h = tt
lexing_refused text faults.TooLong h = λ f s. let short = s.short in omega (arith, h, short)
lexing_refused text (faults.BadByte at) h = no_tokens text h.1
lexing_refused text (faults.OpenComment at) h = no_tokens text h.1
lexing_refused text (faults.BadNumber at) h = no_tokens text h.1
lexing_refused text (faults.Syntax at) h = absurd h
lexing_refused text (faults.TooDeep at) h = absurd h

other_text : (text : List ℕ) (ks : List Lexeme) →
    tokens_of text ≡ Some ks →
    ((f : File) → Spells f ks → ⊥) →
    (f : File) →
    TextSpells f text →
    ⊥
other_text text ks tokens none f s =
    none f (record { spelled = some_is ks (spell f) (sym tokens ∙ s.tokens); formed = s.formed })

-- a text whose tokens are refused spells no file
pub text_refused : (text : List ℕ) (ks : List Lexeme) (e : TextFault) →
    tokens_of text ≡ Some ks →
    RefusesTokens e ((f : File) → Spells f ks → ⊥) →
    Refuses e ((f : File) → TextSpells f text → ⊥)
text_refused text ks faults.Memory tokens h = tt
text_refused text ks faults.TooLong tokens h = absurd h
text_refused text ks (faults.BadByte at) tokens h = absurd h
text_refused text ks (faults.OpenComment at) tokens h = absurd h
text_refused text ks (faults.BadNumber at) tokens h = other_text text ks tokens h
text_refused text ks (faults.Syntax at) tokens h = other_text text ks tokens h
text_refused text ks (faults.TooDeep at) tokens h = other_text text ks tokens h

-- a fault of the lexer may come of its text
pub lexing_may_come : (text : List ℕ) (e : TextFault) → Refused text e → MayCome text e
lexing_may_come text faults.Memory h = tt
lexing_may_come text faults.TooLong h = h
lexing_may_come text (faults.BadByte at) h = h.0
lexing_may_come text (faults.OpenComment at) h = h.0
lexing_may_come text (faults.BadNumber at) h = inl h.0
lexing_may_come text (faults.Syntax at) h = absurd h
lexing_may_come text (faults.TooDeep at) h = absurd h

has_tokens : (text : List ℕ) (ks : List Lexeme) → tokens_of text ≡ Some ks → IsSome (tokens_of text)
has_tokens text ks tokens = subst (λ (o : Option (List Lexeme)). IsSome o) (sym tokens) refl

-- a fault of the grammar may come of its text
pub parsing_may_come : (text : List ℕ) (ks : List Lexeme) (e : TextFault) →
    tokens_of text ≡ Some ks →
    RefusesTokens e ((f : File) → Spells f ks → ⊥) →
    MayCome text e
parsing_may_come text ks faults.Memory tokens h = tt
parsing_may_come text ks faults.TooLong tokens h = absurd h
parsing_may_come text ks (faults.BadByte at) tokens h = absurd h
parsing_may_come text ks (faults.OpenComment at) tokens h = absurd h
parsing_may_come text ks (faults.BadNumber at) tokens h = inr (has_tokens text ks tokens)
parsing_may_come text ks (faults.Syntax at) tokens h = has_tokens text ks tokens
parsing_may_come text ks (faults.TooDeep at) tokens h = has_tokens text ks tokens

-- no text has two trees
pub one_file_of_text : (f g : File) (text : List ℕ) → TextSpells f text → TextSpells g text → f ≡ g
one_file_of_text f g text s t =
    let same : spell f ≡ spell g = some_is (spell f) (spell g) (sym s.tokens ∙ t.tokens) in
    one_file f g s.formed t.formed same
