-- Lists: their fronts, and what is in them.
use Rattle.std.proofs.Common.{◌≡◌, ℕ, zero, suc, ◌<◌, refl, sym, ◌∙◌, ap, subst, map, Bool, true, false, ◌||◌, List, []}
use Rattle.std.proofs.Common.{◌∷◌, ◌++◌, length, length-append, Some, None, arith, bytes_eq, ◌==◌}
use Rattle.std.proofs.lemmas.Bool.{eq-eqb}
use Rattle.std.specs.Prelude.{slice_get}
use Rattle.ls_lexer.specs.Lexemes.{Lexeme}
use Rattle.ls_lexer.specs.Formed.{IsFormed}
use Rattle.ls_events.specs.declared.value.Value.{Value}
use Rattle.ls_events.specs.declared.value.ValueType.{ValueType}
use Rattle.ls_checked.specs.CheckedProgram.{ThreadProgram}
use Rattle.ls_types_elaboration.specs.Trees.{Text}
use Rattle.ls_types_programs.specs.Programs.{AreFor, type_of}
use Rattle.ls_types_programs.specs.ThreadPrograms.{Reading, when, thread_named}
use Rattle.ls_types_programs.proofs.Pieces.{no_truth, some_none, same_some, same_bytes, at_front, Front}

-- each of these tokens has the form of its kind
abbrev pub Formed : List Lexeme → Type 0
Formed ks = (i : ℕ) (k : Lexeme) → slice_get ks i ≡ Some k → IsFormed k

-- the first tokens have their forms
pub formed_front : (ks js : List Lexeme) → Formed (ks ++ js) → Formed ks
formed_front ks js h i k e = h i k (at_front ks js i k e)

-- one more token has its form
pub formed_end : (ks : List Lexeme) (k : Lexeme) → IsFormed k → Formed ks → Formed (ks ++ k ∷ [])
formed_end [] k f h zero j e = subst IsFormed (same_some k j e) f
formed_end [] k f h (suc i) j e = absurd (some_none j e)
formed_end (x ∷ ks) k f h zero j e = h 0 j e
formed_end (x ∷ ks) k f h (suc i) j e = formed_end ks k f (λ i. h (suc i)) i j e

front_fewer : (ts : List ValueType) (vs : List Value) →
    Front ts vs →
    (length vs ≡ length ts → ⊥) →
    length vs < length ts
front_fewer [] [] h e = absurd (e refl)
front_fewer (t ∷ ts) [] h e = omega arith
front_fewer [] (v ∷ vs) h e = absurd h
front_fewer (t ∷ ts) (v ∷ vs) h e = more (length vs) (length ts) (front_fewer ts vs h.1 (λ is. e (ap suc is)))
  where
    more : (a b : ℕ) → a < b → suc a < suc b
    more a b h = omega (arith, h)

-- if there are not all arguments, there are fewer than parameters
pub front_short : (ts : List ValueType) (vs : List Value) →
    Front ts vs →
    (length vs == length ts) ≡ false →
    length vs < length ts
front_short ts vs h e = front_fewer ts vs h (λ is. no_truth (sym e ∙ eq-eqb (length vs) (length ts) is))

-- if no parameter is left, one more argument is too many
pub front_over : (ts : List ValueType) (vs : List Value) (v : Value) →
    slice_get ts (length vs) ≡ None →
    length ts < length (vs ++ v ∷ [])
front_over [] vs v e = more vs
  where
    more : (vs : List Value) → 0 < length (vs ++ v ∷ [])
    more vs = omega (arith, length-append vs (v ∷ []))
front_over (t ∷ ts) [] v e = absurd (some_none t (sym e))
front_over (t ∷ ts) (u ∷ vs) v e = more (length ts) (length (vs ++ v ∷ [])) (front_over ts vs v e)
  where
    more : (a b : ℕ) → a < b → suc a < suc b
    more a b h = omega (arith, h)

-- the type that is wanted next, and those before it
pub record Wanted (ts : List ValueType) (vs : List Value) (t : ValueType) : Type 0 where
  pub before : List ValueType
  pub rest : List ValueType
  pub is : ts ≡ before ++ t ∷ rest
  pub for : AreFor before vs

-- the type of the next parameter is wanted
pub wanted : (ts : List ValueType) (vs : List Value) (t : ValueType) →
    Front ts vs →
    slice_get ts (length vs) ≡ Some t →
    Wanted ts vs t
wanted [] vs t h e = absurd (some_none t e)
wanted (u ∷ ts) [] t h e = record { before = []; rest = ts; is = ap (λ x. x ∷ ts) (same_some u t e); for = refl }
wanted (u ∷ ts) (v ∷ vs) t h e =
    let w = wanted ts vs t h.1 e in
    record {
      before = u ∷ w.before;
      rest = w.rest;
      is = ap (λ l. u ∷ l) w.is;
      for = ap (λ x. x ∷ map type_of vs) h.0 ∙
          ap (λ l. Some u ∷ l) w.for;
    }

-- a thread with a taken name is among the threads
pub thread_there : (ts : List ThreadProgram) (name : Text) →
    thread_named ts name ≡ true →
    (n : ℕ) × (t : ThreadProgram) × (slice_get ts n ≡ Some t) × (t.name ≡ name)
thread_there [] name e = absurd (no_truth e)
thread_there (t ∷ ts) name e = by (thread_there ts name) (bytes_eq t.name name) refl e
  where
    by : (thread_named ts name ≡ true → (n : ℕ) × (t : ThreadProgram) × (slice_get ts n ≡ Some t) × (t.name ≡ name)) →
        (b : Bool) →
        bytes_eq t.name name ≡ b →
        (b || thread_named ts name) ≡ true
        → (n : ℕ) × (u : ThreadProgram) × (slice_get (t ∷ ts) n ≡ Some u) × (u.name ≡ name)
    by rec true same e = (0, t, refl, same_bytes t.name name same)
    by rec false same e = let h = rec e in (suc h.0, h.1, h.2, h.3)

-- if a step is refused, its condition is false
pub when_none : (b : Bool) (q : Reading) → when b q ≡ None → b ≡ false
when_none false q e = refl
when_none true q e = absurd (some_none q (sym e))
