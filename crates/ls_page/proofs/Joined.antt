-- Texts that are added one after another.
use Rattle.std.proofs.Common.{◌≡◌, ◌++◌, ◌∙◌, ap, refl}
use Rattle.std.proofs.lemmas.List.{append_assoc}
use Rattle.ls_report.specs.Events.{Text}

-- three texts that are added to one
pub three_added : (old one two new first second third : Text) →
    one ≡ old ++ first → two ≡ one ++ second → new ≡ two ++ third →
    new ≡ old ++ (first ++ (second ++ third))
three_added old one two new first second third e f g =
    g
    ∙ ap (λ t. t ++ third) f
    ∙ append_assoc one second third
    ∙ ap (λ t. t ++ (second ++ third)) e
    ∙ append_assoc old first (second ++ third)

-- four texts that are added to one
pub four_added : (old one two three new first second third fourth : Text) →
    one ≡ old ++ first → two ≡ one ++ second → three ≡ two ++ third → new ≡ three ++ fourth →
    new ≡ old ++ (first ++ (second ++ (third ++ fourth)))
four_added old one two three new first second third fourth e f g h =
    h
    ∙ ap (λ t. t ++ fourth) g
    ∙ append_assoc two third fourth
    ∙ three_added old one two (two ++ (third ++ fourth)) first second (third ++ fourth) e f refl
