-- Where the leave of a number leads, by what is around a statement.
use Rattle.std.proofs.Common.{◌≡◌, ℕ, zero, suc, ◌-◌, ◌<◌, List, [], ◌∷◌, ◌++◌, length, get_or, refl, ap, ◌∙◌, arith}
use Rattle.ls_emit.specs.Statements.{Targets, target_of}

-- to an exit of the innermost leavable statement, to its end, and beyond it
pub target_front : (exits : List ℕ) (stop : ℕ) (t : Targets) (n : ℕ) →
    n < length exits →
    target_of ((exits ++ stop ∷ []) ++ t) n ≡ get_or exits n 0
target_front [] stop t n l = absurd (let f : ⊥ = omega arith in f)
target_front (x ∷ exits) stop t zero l = refl
target_front (x ∷ exits) stop t (suc n) l = target_front exits stop t n (omega arith)

-- to its end
pub target_end : (exits : List ℕ) (stop : ℕ) (t : Targets) (n : ℕ) →
    n ≡ length exits →
    target_of ((exits ++ stop ∷ []) ++ t) n ≡ stop
target_end [] stop t zero e = refl
target_end [] stop t (suc n) e = absurd (let f : ⊥ = omega arith in f)
target_end (x ∷ exits) stop t zero e = absurd (let f : ⊥ = omega arith in f)
target_end (x ∷ exits) stop t (suc n) e = target_end exits stop t n (omega arith)

-- beyond it
pub target_behind : (exits : List ℕ) (stop : ℕ) (t : Targets) (n : ℕ) →
    length exits < n →
    target_of ((exits ++ stop ∷ []) ++ t) n ≡ target_of t (n - length exits - 1)
target_behind [] stop t zero l = absurd (let f : ⊥ = omega arith in f)
target_behind [] stop t (suc n) l = let e : n ≡ suc n - 0 - 1 = omega arith in ap (target_of t) e
target_behind (x ∷ exits) stop t zero l = absurd (let f : ⊥ = omega arith in f)
target_behind (x ∷ exits) stop t (suc n) l =
    let e : n - length exits - 1 ≡ suc n - length (x ∷ exits) - 1 = omega arith in
    target_behind exits stop t n (omega arith) ∙ ap (target_of t) e
