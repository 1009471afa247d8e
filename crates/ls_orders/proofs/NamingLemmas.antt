-- Calls by their texts, one call after the other.
use Rattle.std.proofs.Common.{◌≡◌, ◌∙◌, ◌+◌, ◌-◌, ◌<◌, ◌≤◌, ℕ, Bool, cond, List, [], ◌∷◌, length, drop}
use Rattle.std.proofs.Common.{get_or, refl, ap, arith, Some, Result, Ok}
use Rattle.std.specs.Prelude.{find}
use Rattle.std.proofs.lemmas.List.{drop_more}
use denote.Ref.{Bor}
use Rattle.ls_report.specs.Events.{Text}
use Rattle.ls_orders.specs.Each.{each, ◌>>=◌}
use Rattle.ls_orders.specs.declared.calls.SetCall.{SetCall}
use Rattle.ls_orders.proofs.RuleLemmas.{no_call}

-- the call at a place
abbrev pub call_at : List SetCall → ℕ → SetCall
call_at xs i = get_or xs i no_call

-- a call is found one place earlier
pub found_before : (p : SetCall → Bool) (xs : List SetCall) (i : ℕ) → 0 < i → i ≤ length xs
    → find p (drop (i - 1) xs) ≡ cond (p (call_at xs (i - 1))) (Some (call_at xs (i - 1))) (find p (drop i xs))
found_before p xs i some le =
    let lt : i - 1 < length xs = omega arith in
    let next : i - 1 + 1 ≡ i = omega arith in
    ap (find p) (drop_more xs (i - 1) no_call lt) ∙ ap (λ n. find p (call_at xs (i - 1) ∷ drop n xs)) next

-- what a read past the end of texts gives
abbrev pub no_text : Bor Text
no_text = record { ref_ptr = (0, 0); now = [] }

-- reading by functions that agree
pub each_same : {A B E : Type 0} (f g : A → Result B E) (xs : List A) → ((x : A) → f x ≡ g x) → each f xs ≡ each g xs
each_same f g [] h = refl
each_same f g (x ∷ xs) h =
    ap (λ r. r >>= λ y. each f xs >>= λ ys. Ok (y ∷ ys)) (h x) ∙
    ap (λ s. g x >>= λ y. s >>= λ ys. Ok (y ∷ ys)) (each_same f g xs h)
