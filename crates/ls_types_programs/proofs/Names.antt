-- The names of threads are names.
use Rattle.std.proofs.Common.{◌≡◌, ℕ, zero, suc, refl, subst, Bool, List, [], ◌∷◌, Some}
use Rattle.std.specs.Prelude.{slice_get}
use Rattle.ls_lexer.specs.Lexemes.{Lexeme}
use Rattle.ls_lexer.specs.Names.{IsName}
use Rattle.ls_lexer.specs.Formed.{IsFormed}
use Rattle.ls_lexer.proofs.FormedLaws.{tokens_are_formed}
use Rattle.ls_events.specs.declared.value.Value.{Value}
use Rattle.ls_checked.specs.CheckedProgram.{SetupName, ProgramCall, ThreadProgram, Program}
use Rattle.ls_types_programs.specs.Spelled as spelled
use Rattle.ls_types_programs.specs.Spelled.{Argument, Others, Arguments, Call, Calls, Threads, Spells}
use Rattle.ls_types_programs.specs.Laws.{ThreadsAreNamed}
use Rattle.ls_types_programs.proofs.Pieces.{some_none, same_some}

abbrev Formed : List Lexeme → Type 0
Formed [] = Unit {0}
Formed (k ∷ ks) = IsFormed k × Formed ks

all_formed : (ks : List Lexeme) → ((i : ℕ) (k : Lexeme) → slice_get ks i ≡ Some k → IsFormed k) → Formed ks
all_formed [] h = tt
all_formed (k ∷ ks) h = (h 0 k refl, all_formed ks (λ i. h (suc i)))

behind_argument : {v : Value} {ks rest : List Lexeme} → Argument v ks rest → Formed ks → Formed rest
behind_argument spelled.True h = h.1
behind_argument spelled.False h = h.1
behind_argument (spelled.Number text small) h = h.1
behind_argument (spelled.Minus text most) h = h.1.1

behind_others : {vs : List Value} {ks rest : List Lexeme} → Others vs ks rest → Formed ks → Formed rest
behind_others spelled.NoOther h = h.1
behind_others (spelled.Other a more) h = behind_others more (behind_argument a h.1)

behind_arguments : {vs : List Value} {ks rest : List Lexeme} → Arguments vs ks rest → Formed ks → Formed rest
behind_arguments spelled.NoArgument h = h.1
behind_arguments (spelled.First a more) h = behind_others more (behind_argument a h)

behind_call : {b : Bool} {names : List SetupName} {c : ProgramCall} {ks rest : List Lexeme} →
    Call b names c ks rest →
    Formed ks →
    Formed rest
behind_call (spelled.New s setup there a) h = (behind_arguments a h.1.1.1.1.1).1
behind_call (spelled.On s there a) h = (behind_arguments a h.1.1.1.1).1

behind_calls : {b : Bool} {names : List SetupName} {cs : List ProgramCall} {ks rest : List Lexeme} →
    Calls b names cs ks rest →
    Formed ks →
    Formed rest
behind_calls spelled.NoCall h = h.1
behind_calls (spelled.More c more) h = behind_calls more (behind_call c h)

threads_named : {names : List SetupName} {ts : List ThreadProgram} {ks : List Lexeme} →
    Threads names ts ks →
    Formed ks →
    (i : ℕ) (t : ThreadProgram) →
    slice_get ts i ≡ Some t →
    IsName t.name
threads_named spelled.NoThread h i t e = absurd (some_none t e)
threads_named (spelled.Thread {t = u} calls more) h zero t e = subst (λ (v : ThreadProgram). IsName v.name)
    (same_some u t e) h.1.0
threads_named (spelled.Thread calls more) h (suc i) t e = threads_named more (behind_calls calls h.1.1.1) i t e

spelled_named : (p : Program) (ks : List Lexeme) →
    Spells p ks →
    Formed ks →
    (i : ℕ) (t : ThreadProgram) →
    slice_get p.threads i ≡ Some t →
    IsName t.name
spelled_named p ks (spelled.Whole calls more) h zero t e = subst (λ (v : ThreadProgram). IsName v.name)
    (same_some _ t e) h.0
spelled_named p ks (spelled.Whole calls more) h (suc i) t e = threads_named more (behind_calls calls h.1.1) i t e

-- the law: the name of each thread is a name
pub threads_are_named : ThreadsAreNamed
threads_are_named o text p h = spelled_named p h.tokens h.spelled
    (all_formed h.tokens (tokens_are_formed text h.tokens h.lexed))
