-- The names in a program that a text is.
use Rattle.std.proofs.Common.{◌≡◌, ◌≢◌, ℕ, zero, suc, refl, sym, ap, ◌∙◌, subst, arith, Bool, false, List, [], ◌∷◌}
use Rattle.std.proofs.Common.{length, Some, codes}
use Rattle.std.specs.Prelude.{slice_get}
use Rattle.std.specs.Option.{option_map_or}
use Rattle.ls_lexer.specs.Lexemes.{Lexeme}
use Rattle.ls_lexer.specs.Names.{IsName}
use Rattle.ls_lexer.specs.Formed.{IsFormed}
use Rattle.ls_lexer.proofs.FormedLaws.{tokens_are_formed}
use Rattle.ls_events.specs.declared.value.Value.{Value}
use Rattle.ls_checked.specs.CheckedProgram.{SetupName, ProgramCall, Making, Calling, ThreadProgram, Program}
use Rattle.ls_types_elaboration.specs.Trees.{Text}
use Rattle.ls_types_elaboration.specs.Elaboration.{ElaboratedFile}
use Rattle.ls_types_programs.specs.Spelled as spelled
use Rattle.ls_types_programs.specs.Spelled.{Argument, Others, Arguments, Call, Calls, Threads, Spells}
use Rattle.ls_types_programs.specs.Programs as programs
use Rattle.ls_types_programs.specs.Programs.{IsNewThread, AreCallsOf, AreThreadsOf, IsProgramOf, IsTextOf}
use Rattle.ls_types_programs.proofs.Pieces.{some_none, same_some}
use Rattle.ls_types_programs.proofs.Names.{threads_are_named}
use Rattle.ls_preservation.proofs.Lists.{get_left, get_end, get_within}

-- ---- distinct names

new_at : (ts : List ThreadProgram) (name : Text) (i : ℕ) (t : ThreadProgram) →
    IsNewThread ts name →
    slice_get ts i ≡ Some t →
    t.name ≢ name
new_at [] name i t h e = absurd (some_none t e)
new_at (u ∷ ts) name zero t h e = subst (λ (v : ThreadProgram). v.name ≢ name) (same_some u t e) h.0
new_at (u ∷ ts) name (suc i) t h e = new_at ts name i t h.1 e

-- no thread after a thread has the same name
abbrev Once : List ThreadProgram → Type 0
Once [] = Unit {0}
Once (t ∷ ts) = IsNewThread ts t.name × Once ts

once_within : (ts : List ThreadProgram) →
    Once ts →
    (i j : ℕ) (t u : ThreadProgram) →
    slice_get ts i ≡ Some t →
    slice_get ts j ≡ Some u →
    t.name ≡ u.name →
    i ≡ j
once_within [] h i j t u et eu same = absurd (some_none t et)
once_within (v ∷ ts) h zero zero t u et eu same = refl
once_within (v ∷ ts) h zero (suc j) t u et eu same = absurd (new_at ts v.name j u h.0 eu
    (sym same ∙ sym (ap (λ (z : ThreadProgram). z.name) (same_some v t et))))
once_within (v ∷ ts) h (suc i) zero t u et eu same = absurd (new_at ts v.name i t h.0 et
    (same ∙ sym (ap (λ (z : ThreadProgram). z.name) (same_some v u eu))))
once_within (v ∷ ts) h (suc i) (suc j) t u et eu same = ap suc (once_within ts h.1 i j t u et eu same)

module _ (o : ElaboratedFile) (names : List SetupName) where
  -- the threads after others have other names
  pub apart : {before ts : List ThreadProgram} →
      AreThreadsOf o names before ts →
      ((i : ℕ) (u : ThreadProgram) → slice_get before i ≡ Some u → IsNewThread ts u.name) × Once ts
  apart programs.End = (λ i u e. tt, tt)
  apart (programs.Thread {before = before} {ts = ts} t no_all new calls are more) =
      let rest = apart more in
      let own : IsNewThread ts t.name = rest.0 (length before) t (get_end before (length before) t refl) in (
        λ i u e. (
          (λ same. new_at before t.name i u new e (sym same)),
          rest.0 i u (get_left before (t ∷ []) i (get_within before i u e) ∙ e),
        ),
        (own, rest.1),
      )

  not_all_named : {before ts : List ThreadProgram} →
      AreThreadsOf o names before ts →
      (i : ℕ) (t : ThreadProgram) →
      slice_get ts i ≡ Some t →
      t.name ≢ codes "all"
  not_all_named programs.End i t e = absurd (some_none t e)
  not_all_named (programs.Thread u no_all new calls are more) zero t e = subst
      (λ (v : ThreadProgram). v.name ≢ codes "all") (same_some u t e) no_all
  not_all_named (programs.Thread u no_all new calls are more) (suc i) t e = not_all_named more i t e

  -- no thread makes an object for the setup
  no_making : {given all : List SetupName} {cs : List ProgramCall} →
      AreCallsOf o false given cs all →
      (i name class : ℕ) (text : Text) (vs : List Value) →
      slice_get cs i ≡ Some (Making name class text vs) →
      ⊥
  no_making programs.End i name class text vs e = some_none (Making name class text vs) e
  no_making (programs.Makes s class_name ws setup new there fit are) i name class text vs e = let f : ⊥ = cc in f
  no_making (programs.Calls n s method m ws stands there plain fit are) zero name class text vs e = let f : ⊥ = cc in f
  no_making (programs.Calls n s method m ws stands there plain fit are) (suc i) name class text vs e = no_making are i
      name class text vs e

  never_makes : {before ts : List ThreadProgram} →
      AreThreadsOf o names before ts →
      (i j name class : ℕ) (t : ThreadProgram) (text : Text) (vs : List Value) →
      slice_get ts i ≡ Some t →
      slice_get t.calls j ≡ Some (Making name class text vs) →
      ⊥
  never_makes programs.End i j name class t text vs e c = some_none t e
  never_makes (programs.Thread u no_all new calls are more) zero j name class t text vs e c =
      no_making are j name class text vs (ap (λ (v : ThreadProgram). slice_get v.calls j) (same_some u t e) ∙ c)
  never_makes (programs.Thread u no_all new calls are more) (suc i) j name class t text vs e c = never_makes more i j
      name class t text vs e c

-- ---- the names of calls

abbrev Formed : List Lexeme → Type 0
Formed [] = Unit {0}
Formed (k ∷ ks) = IsFormed k × Formed ks

all_formed : (ks : List Lexeme) → ((i : ℕ) (k : Lexeme) → slice_get ks i ≡ Some k → IsFormed k) → Formed ks
all_formed [] h = tt
all_formed (k ∷ ks) h = (h 0 k refl, all_formed ks (λ i. h (suc i)))

behind_argument : {v : Value} {ks rest : List Lexeme} → Argument v ks rest → Formed ks → Formed rest
behind_argument spelled.True h = h.1
behind_argument spelled.False h = h.1
behind_argument (spelled.Number text small) h = h.1
behind_argument (spelled.Minus text most) h = h.1.1

behind_others : {vs : List Value} {ks rest : List Lexeme} → Others vs ks rest → Formed ks → Formed rest
behind_others spelled.NoOther h = h.1
behind_others (spelled.Other a more) h = behind_others more (behind_argument a h.1)

behind_arguments : {vs : List Value} {ks rest : List Lexeme} → Arguments vs ks rest → Formed ks → Formed rest
behind_arguments spelled.NoArgument h = h.1
behind_arguments (spelled.First a more) h = behind_others more (behind_argument a h)

-- the text of the setup name that is called on, and of the class or method
abbrev name_at : List SetupName → ℕ → Text
name_at names n = option_map_or (λ s. s.name) (slice_get names n) []

-- the names of a call are identifiers
abbrev pub AreNames : List SetupName → ProgramCall → Type 0
AreNames names (Making n class class_name vs) = IsName (name_at names n) × IsName class_name
AreNames names (Calling n method method_name result vs) = IsName (name_at names n) × IsName method_name

named_at : (names : List SetupName) (n : ℕ) (s : SetupName) →
    slice_get names n ≡ Some s →
    IsName s.name →
    IsName (name_at names n)
named_at names n s e h = subst (λ o. IsName (option_map_or (λ (z : SetupName). z.name) o [])) (sym e) h

call_named : {b : Bool} {names : List SetupName} {c : ProgramCall} {ks rest : List Lexeme} →
    Call b names c ks rest →
    Formed ks →
    AreNames names c × Formed rest
call_named {names = names} (spelled.New {n = n} s setup there a) h =
    ((named_at names n s there h.0, h.1.1.1.0), (behind_arguments a h.1.1.1.1.1).1)
call_named {names = names} (spelled.On {n = n} s there a) h =
    ((named_at names n s there h.0, h.1.1.0), (behind_arguments a h.1.1.1.1).1)

calls_named : {b : Bool} {names : List SetupName} {cs : List ProgramCall} {ks rest : List Lexeme} →
    Calls b names cs ks rest →
    Formed ks
    → ((i : ℕ) (c : ProgramCall) → slice_get cs i ≡ Some c → AreNames names c) × Formed rest
calls_named spelled.NoCall h = (λ i c e. absurd (some_none c e), h.1)
calls_named {names = names} (spelled.More {c = d} {cs = cs} call more) h =
    let first = call_named call h in
    let rest = calls_named more first.1 in
    (λ i c e. at i c first.0 rest.0 e, rest.1)
  where
    at : (i : ℕ) (c : ProgramCall) →
        AreNames names d →
        ((i : ℕ) (c : ProgramCall) → slice_get cs i ≡ Some c → AreNames names c) →
        slice_get (d ∷ cs) i ≡ Some c →
        AreNames names c
    at zero c first rest e = subst (AreNames names) (same_some d c e) first
    at (suc i) c first rest e = rest i c e

threads_named : {names : List SetupName} {ts : List ThreadProgram} {ks : List Lexeme} → Threads names ts ks → Formed ks
    → (i j : ℕ) (t : ThreadProgram) (c : ProgramCall) → slice_get ts i ≡ Some t → slice_get t.calls j ≡ Some c →
    AreNames names c
threads_named spelled.NoThread h i j t c e f = absurd (some_none t e)
threads_named (spelled.Thread {t = u} calls more) h zero j t c e f = (calls_named calls h.1.1.1).0 j c
    (ap (λ (v : ThreadProgram). slice_get v.calls j) (same_some u t e) ∙ f)
threads_named (spelled.Thread calls more) h (suc i) j t c e f = threads_named more (calls_named calls h.1.1.1).1 i j t c
    e f

all_named : (p : Program) (ks : List Lexeme) →
    Spells p ks →
    Formed ks →
    (i j : ℕ) (t : ThreadProgram) (c : ProgramCall) →
    slice_get p.threads i ≡ Some t →
    slice_get t.calls j ≡ Some c →
    AreNames p.names c
all_named p ks (spelled.Whole calls more) h zero j t c e f = (calls_named calls h.1.1).0 j c
    (ap (λ (v : ThreadProgram). slice_get v.calls j) (same_some _ t e) ∙ f)
all_named p ks (spelled.Whole calls more) h (suc i) j t c e f = threads_named more (calls_named calls h.1.1).1 i j t c e
    f

-- ---- a program that a text is

-- The names of a program are identifiers. No two threads have one name, and none is named `all`. Only the setup makes
-- objects.
pub record AreProgramNames (p : Program) : Type 0 where
  pub formed : (i : ℕ) (t : ThreadProgram) → slice_get p.threads i ≡ Some t → IsName t.name
  pub not_all : (i : ℕ) (t : ThreadProgram) → slice_get p.threads i ≡ Some t → t.name ≢ codes "all"
  pub once : (i j : ℕ) (t u : ThreadProgram) →
      slice_get p.threads i ≡ Some t →
      slice_get p.threads j ≡ Some u →
      t.name ≡ u.name →
      i ≡ j
  pub calls : (i j : ℕ) (t : ThreadProgram) (c : ProgramCall) →
      slice_get p.threads i ≡ Some t →
      slice_get t.calls j ≡ Some c →
      AreNames p.names c
  pub setup : (i j name class : ℕ) (t : ThreadProgram) (text : Text) (vs : List Value) →
      slice_get p.threads i ≡ Some t →
      slice_get t.calls j ≡ Some (Making name class text vs) →
      t.name ≡ codes "setup"

-- the names of a program text are so
pub program_names : (o : ElaboratedFile) (text : Text) (p : Program) → IsTextOf o p text → AreProgramNames p
program_names o text p h =
    let is : IsProgramOf o p = h.program in
    let first : ThreadProgram = record { name = codes "setup"; calls = is.setup } in
    let far = apart o p.names is.others in
    let all_once : Once (first ∷ is.threads) = (far.0 0 first refl, far.1) in
    record {
      formed = threads_are_named o text p h;
      not_all = λ i t e. others i t (subst (λ l. slice_get l i ≡ Some t) is.parts e);
      once = λ i j t u et eu same. once_within (first ∷ is.threads) all_once i j t u
          (subst (λ l. slice_get l i ≡ Some t) is.parts et) (subst (λ l. slice_get l j ≡ Some u) is.parts eu) same;
      calls = all_named p h.tokens h.spelled (all_formed h.tokens (tokens_are_formed text h.tokens h.lexed));
      setup = λ i j name class t text vs e f. makes i j name class t text vs
          (subst (λ l. slice_get l i ≡ Some t) is.parts e) f;
    }
  where
    others : (i : ℕ) (t : ThreadProgram) →
        slice_get (record { name = codes "setup"; calls = h.program.setup } ∷ h.program.threads) i ≡ Some t →
        t.name ≢ codes "all"
    others zero t e = λ same. let five : 5 ≡ 3 = ap length (ap (λ (v : ThreadProgram). v.name) (same_some _ t e) ∙ same)
        in absurd (omega (arith, five))
    others (suc i) t e = not_all_named o p.names h.program.others i t e

    makes : (i j name class : ℕ) (t : ThreadProgram) (text : Text) (vs : List Value) →
        slice_get (record { name = codes "setup"; calls = h.program.setup } ∷ h.program.threads) i ≡ Some t →
        slice_get t.calls j ≡ Some (Making name class text vs) →
        t.name ≡ codes "setup"
    makes zero j name class t text vs e f = sym (ap (λ (v : ThreadProgram). v.name) (same_some _ t e))
    makes (suc i) j name class t text vs e f = absurd (never_makes o p.names h.program.others i j name class t text vs e
        f)
