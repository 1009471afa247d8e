-- A number is what stands before its last digit, and that digit.
use Rattle.std.proofs.Common.{◌≡◌, ℕ, ◌+◌, ◌/◌, ◌%◌, ◌^◌, ◌<◌, ◌≤◌, List, [], ◌∷◌, ◌++◌, ap, sym}
use Rattle.std.proofs.Common.{◌∙◌}
use Rattle.std.specs.Fmt.{decimal}
use Rattle.std.proofs.lemmas.List.{append_assoc}
use Rattle.std.proofs.lemmas.Fmt.{decimal_step}

-- where the tens were told, and then the last digit
pub told_in_parts : (line number : ℕ) (old before after text : List ℕ) →
    10 ≤ line → line < 2 ^ 64 →
    number ≡ line / 10 →
    text ≡ decimal number →
    before ≡ old ++ text →
    after ≡ before ++ (48 + line % 10) ∷ [] →
    after ≡ old ++ decimal line
told_in_parts line number old before after text low high en et eb ea =
    ea
    ∙ ap (λ t. t ++ (48 + line % 10) ∷ []) (eb ∙ ap (λ t. old ++ t) (et ∙ ap decimal en))
    ∙ append_assoc old (decimal (line / 10)) ((48 + line % 10) ∷ [])
    ∙ ap (λ t. old ++ t) (sym (decimal_step line low high))
