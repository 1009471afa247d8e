-- The calls that a thread has left.
use Rattle.std.proofs.Common.{◌≡◌, ℕ, zero, suc, None, arith, ◌+◌, ◌<◌, ◌≤◌, List, [], ◌∷◌, length, drop, map, get_or}
use Rattle.std.proofs.Common.{refl, sym, ap, subst, ◌∙◌}
use Rattle.std.proofs.lemmas.List.{drop_more, length-map, get_or-map, drop_all}
use Rattle.ls_checked.specs.declared.program.ProgramCall.{ProgramCall}
use Rattle.ls_checked.specs.PlainProgram.{plain_call}
use Rattle.ls_source.specs.Calls.{asked_at_start}

-- the next of the calls that are left
pub one_left : (cs : List ProgramCall) (n : ℕ) (d : ProgramCall) →
    n < length cs →
    drop n (map plain_call cs) ≡ plain_call (get_or cs n d) ∷ drop (n + 1) (map plain_call cs)
one_left cs n d h =
    drop_more (map plain_call cs) n (plain_call d) (subst (λ k. n < k) (sym (length-map cs plain_call)) h)
    ∙ ap (λ c. c ∷ drop (n + 1) (map plain_call cs)) (get_or-map plain_call cs n d (plain_call d) h)

-- after the last call none is left
pub none_left : (cs : List ProgramCall) (n : ℕ) → length cs ≤ n → drop n (map plain_call cs) ≡ []
none_left cs n h = drop_all n (map plain_call cs) (subst (λ k. k ≤ n) (sym (length-map cs plain_call)) h)

-- at the start all calls are left
pub all_left : (cs : List ProgramCall) → drop 0 (map plain_call cs) ≡ map plain_call cs
all_left cs = refl

-- if a call is left, nothing is asked at the start
pub some_left : (cs : List ProgramCall) (n : ℕ) → n < length cs → asked_at_start (drop n (map plain_call cs)) ≡ None
some_left [] n h = absurd (none_less h)
  where
    none_less : n < 0 → ⊥
    none_less h = omega (arith, h)
some_left (c ∷ cs) zero h = refl
some_left (c ∷ cs) (suc n) h = some_left cs n (omega (arith, h))
