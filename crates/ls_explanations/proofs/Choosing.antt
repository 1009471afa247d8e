-- Which of two texts is chosen.
use Rattle.std.proofs.Common.{◌≡◌, ◌∙◌, sym, ap, Bool, true, false}
use Rattle.std.specs.Prelude.{if◌then◌else◌}
use Rattle.ls_explanations.specs.Tokens.{Bytes}

-- the first, where the test is true
pub chosen : (b : Bool) (x y z : Bytes) → b ≡ true → z ≡ x → z ≡ (if b then x else y)
chosen b x y z e is = is ∙ sym (ap (λ c. if c then x else y) e)

-- the other, where it is false
pub passed : (b : Bool) (x y z : Bytes) → b ≡ false → z ≡ y → z ≡ (if b then x else y)
passed b x y z e is = is ∙ sym (ap (λ c. if c then x else y) e)
