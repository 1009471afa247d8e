-- One token: what is read is spelled so.
use Rattle.std.proofs.Common.{◌≡◌, Bool, true, false, cond, List, [], ◌∷◌, Option, Some, None, ◌⊎◌, inl, inr, refl, ap}
use Rattle.std.specs.Prelude.{◌&&◌}
use denote.Enum.Bare.{sameb, same_true}
use Rattle.ls_lexer.specs.contracts.sign.Sign.{the_type as sign_type}
use Rattle.ls_lexer.specs.contracts.word.Word.{the_type as word_type}
use Rattle.ls_lexer.specs.declared.sign.Sign.{Sign}
use Rattle.ls_lexer.specs.declared.word.Word.{Word}
use Rattle.ls_lexer.specs.Lexemes.{Lexeme, Named, Numeral, Reserved, Marked}
use Rattle.ls_tree.specs.Trees.{Text}
use Rattle.ls_parser_tokens.specs.Reading.{given, after_sign, after_word, name_at}

-- if a value comes only under a test and there is one, the test is true
pub guard_some : {A : Type 0} (b : Bool) (x y : A) → cond b (Some x) None ≡ Some y → (b ≡ true) × (x ≡ y)
guard_some true x y e = (refl, cc)
guard_some false x y e = absurd cc

-- a test that something is read only under
pub guarded : {A : Type 0} (b : Bool) (o : Option A) (y : A) → cond b o None ≡ Some y → (b ≡ true) × (o ≡ Some y)
guarded true o y e = (refl, e)
guarded false o y e = absurd cc

-- if a conjunction is true, both parts are true
pub both_true : (a b : Bool) → (a && b) ≡ true → (a ≡ true) × (b ≡ true)
both_true true b h = (refl, h)
both_true false b h = absurd cc

-- two ways
pub either : {A : Type 0} (b : Bool) (o p : A) (y : A) →
    cond b o p ≡ y →
    ((b ≡ true) × (o ≡ y)) ⊎ ((b ≡ false) × (p ≡ y))
either true o p y e = inl (refl, e)
either false o p y e = inr (refl, e)

-- a value is there, or none is
pub given_cases : {A B : Type 0} (o : Option A) (go : A → B) (other y : B) →
    given o go other ≡ y →
    ((o ≡ None) × (other ≡ y)) ⊎ ((x : A) × (o ≡ Some x) × (go x ≡ y))
given_cases None go other y e = inl (refl, e)
given_cases (Some x) go other y e = inr (x, refl, e)

-- if a sign is read, it is the first token
pub sign_reads : (wanted : Sign) (ks rest : List Lexeme) → after_sign wanted ks ≡ Some rest → ks ≡ Marked wanted ∷ rest
sign_reads wanted [] rest e = absurd cc
sign_reads wanted (Named text ∷ ks) rest e = absurd cc
sign_reads wanted (Numeral text ∷ ks) rest e = absurd cc
sign_reads wanted (Reserved word ∷ ks) rest e = absurd cc
sign_reads wanted (Marked sign ∷ ks) rest e =
    let g = guard_some (sameb sign_type sign wanted) ks rest e in
    (λ i. Marked (same_true sign_type tt sign wanted g.0 i) ∷ g.1 i)

-- if a word is read, it is the first token
pub word_reads : (wanted : Word) (ks rest : List Lexeme) →
    after_word wanted ks ≡ Some rest →
    ks ≡ Reserved wanted ∷ rest
word_reads wanted [] rest e = absurd cc
word_reads wanted (Named text ∷ ks) rest e = absurd cc
word_reads wanted (Numeral text ∷ ks) rest e = absurd cc
word_reads wanted (Marked sign ∷ ks) rest e = absurd cc
word_reads wanted (Reserved word ∷ ks) rest e =
    let g = guard_some (sameb word_type word wanted) ks rest e in
    (λ i. Reserved (same_true word_type tt word wanted g.0 i) ∷ g.1 i)

-- if a name is read, it is the first token
pub name_reads : (ks : List Lexeme) (x : Text × List Lexeme) → name_at ks ≡ Some x → ks ≡ Named x.0 ∷ x.1
name_reads [] x e = absurd cc
name_reads (Named text ∷ ks) x e =
    let is : ◌≡◌ {A = Option (Text × List Lexeme)} (Some (text, ks)) (Some x) = e in
    let same : (text, ks) ≡ x = cc in
    ap (λ (y : Text × List Lexeme). Named y.0 ∷ y.1) same
name_reads (Numeral text ∷ ks) x e = absurd cc
name_reads (Reserved word ∷ ks) x e = absurd cc
name_reads (Marked sign ∷ ks) x e = absurd cc
