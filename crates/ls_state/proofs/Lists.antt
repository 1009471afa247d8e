-- Parts for each element, one after another.
use Rattle.std.proofs.Common.{◌≡◌, ◌<◌, ◌+◌, ◌∙◌, ℕ, ap, sym, List, ◌∷◌, ◌++◌, length, drop, get_or, map}
use Rattle.std.proofs.lemmas.List.{append_assoc, drop_more}
use Rattle.ls_report.specs.Events.{Text}
use Rattle.ls_state.specs.Parts.{numbered}

-- one part more, that of the element x at place i
pub numbered_step : {A B : Type 0} (part : ℕ → B → Text) (n : ℕ) (f : A → B) (xs : List A) (i : ℕ) (x : A)
    (out out' whole : Text) →
    i < length xs →
    x ≡ get_or xs i x → out' ≡ out ++ part n (f x) → out ++ numbered part n (map f (drop i xs)) ≡ whole →
    out' ++ numbered part (n + 1) (map f (drop (i + 1) xs)) ≡ whole
numbered_step part n f xs i x out out' whole within x_is is h =
    ap (λ t. t ++ numbered part (n + 1) (map f (drop (i + 1) xs))) is
    ∙ append_assoc out (part n (f x)) (numbered part (n + 1) (map f (drop (i + 1) xs)))
    ∙ ap (λ l. out ++ numbered part n (map f l)) (ap (λ y. y ∷ drop (i + 1) xs) x_is ∙ sym (drop_more xs i x within))
    ∙ h
