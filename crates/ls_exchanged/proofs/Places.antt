-- Threads of doubles, place by place.
use Rattle.std.proofs.Common.{◌≡◌, ◌∙◌, ◌⊎◌, inl, inr, ℕ, ◌+◌, ◌<◌, ◌≤◌, Bool, true, false, List, Option, Some, None}
use Rattle.std.proofs.Common.{[], ap, arith, eqb-true, length, refl, sym, if◌then◌else◌}
use Rattle.std.specs.Prelude.{nat_eq, option_map, slice_get}
use Rattle.std.proofs.lemmas.Bool.{cases_lt}
use Rattle.std.proofs.lemmas.List.{length-map}
use Rattle.std.proofs.lemmas.Option.{slice_get-map, slice_get_past}
use Rattle.ls_checked.specs.CheckedProgram.{Program, ThreadProgram}
use Rattle.ls_exchanged.specs.Exchanged.{exchanged, name_in}
use Rattle.ls_meaning.specs.Threads.{calls_in}
use Rattle.ls_exchanged.specs.Doubles.{HaveSameNames, names_of}
use Rattle.ls_exchanged.specs.DoubleLaws.{DoublesAreExchanged, DoublesHaveNames}

same_many : (p q : Program) → HaveSameNames p q → length p.threads ≡ length q.threads
same_many p q d =
    sym (length-map p.threads (λ (t : ThreadProgram). t.name)) ∙ ap length d.threads ∙
    length-map q.threads (λ (t : ThreadProgram). t.name)

-- ---- names

abbrev text_in : Option (List ℕ) → List ℕ
text_in None = []
text_in (Some text) = text

in_names : (o : Option ThreadProgram) → text_in (option_map (λ (t : ThreadProgram). t.name) o) ≡ name_in o
in_names None = refl
in_names (Some t) = refl

name_at : (ts : List ThreadProgram) (t : ℕ) → text_in (slice_get (names_of ts) t) ≡ name_in (slice_get ts t)
name_at ts t = ap text_in (slice_get-map (λ (u : ThreadProgram). u.name) ts t) ∙ in_names (slice_get ts t)

pub doubles_have_names : DoublesHaveNames
doubles_have_names u p q d t =
    sym (name_at q.threads t) ∙ ap (λ l. text_in (slice_get l t)) (sym d.names.threads) ∙ name_at p.threads t

-- ---- calls

-- a number that isn't one of the exchanged ones
stays : (u t : ℕ) → u + 1 < t → exchanged u (u + 1) t ≡ t
stays u t past = first (nat_eq t u) refl
  where
    second : (b : Bool) → nat_eq t (u + 1) ≡ b → (if b then u else t) ≡ t
    second true e = absurd (omega (arith, past, eqb-true t (u + 1) e))
    second false e = refl

    first : (b : Bool) → nat_eq t u ≡ b → (if b then u + 1 else (if nat_eq t (u + 1) then u else t)) ≡ t
    first true e = absurd (omega (arith, past, eqb-true t u e))
    first false e = second (nat_eq t (u + 1)) refl

pub doubles_are_exchanged : DoublesAreExchanged
doubles_are_exchanged u p q d =
    let many = same_many p q d.names in
    let within = d.calls.within in
    let by_place : (t : ℕ) → (t < length p.threads) ⊎ (length p.threads ≤ t) →
    calls_in (slice_get q.threads (exchanged u (u + 1) t)) ≡ calls_in (slice_get p.threads t) =
    λ t place. elim place [
      | inl lt ↦ sym (d.calls.calls t lt)
      | inr past ↦
          ap (λ k. calls_in (slice_get q.threads k)) (stays u t (omega (arith, within, past))) ∙
          ap calls_in (slice_get_past q.threads t (omega (arith, many, past)) ∙
          sym (slice_get_past p.threads t past))
    ] in record {
      first = d.calls.some;
      second = omega arith;
      within = (omega (arith, within), within);
      many = many;
      names = d.names.names;
      calls = λ t. by_place t (cases_lt t (length p.threads));
    }
