-- A text in a label.
use Rattle.std.proofs.Common.{◌≡◌, ◌<◌, ℕ, Bool, true, false, List, [], ◌∷◌, length, drop, refl, arith}
use Rattle.ls_aim.specs.Labels.{begins, has_text}

pub here : (text rest : List ℕ) → begins text rest ≡ true → true ≡ has_text text rest
here text [] e = rw e refl
here text (b ∷ bs) e = rw e refl
