-- Texts of numbered parts, one part after another.
use Rattle.std.proofs.Common.{◌≡◌, ℕ, ◌+◌, ◌<◌, List, ◌++◌, length, drop, get_or, sym, ap, ◌∙◌}
use Rattle.std.specs.Prelude.{map}
use Rattle.std.proofs.lemmas.List.{append_assoc, drop_more}
use Rattle.ls_report.specs.Events.{Text}
use Rattle.ls_state.specs.Parts.{numbered}

-- one part further, the whole text stays the same
pub part_after : {A B : Type 0} (part : ℕ → B → Text) (f : A → B) (xs : List A) (i : ℕ) (d : A) (y : B)
    (text text' whole : Text) →
    i < length xs → f (get_or xs i d) ≡ y → text' ≡ text ++ part i y →
    text ++ numbered part i (map f (drop i xs)) ≡ whole →
    text' ++ numbered part (i + 1) (map f (drop (i + 1) xs)) ≡ whole
part_after part f xs i d y text text' whole within is e h =
    ap (λ t. t ++ numbered part (i + 1) (map f (drop (i + 1) xs))) e
    ∙ append_assoc text (part i y) (numbered part (i + 1) (map f (drop (i + 1) xs)))
    ∙ ap (λ z. text ++ (part i z ++ numbered part (i + 1) (map f (drop (i + 1) xs)))) (sym is)
    ∙ ap (λ l. text ++ numbered part i (map f l)) (sym (drop_more xs i d within))
    ∙ h
